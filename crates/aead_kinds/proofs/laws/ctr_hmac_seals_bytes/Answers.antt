-- Counter mode keeps to bytes, and the tag is the front of a tag of HMAC.
use Rattle.std.proofs.Common.{◌<◌, ℕ, List}
use Rattle.std.proofs.lemmas.List.Elements.{All-take}
use Rattle.aes_core.specs.declared.counter.CtrKind.TheVariants.{All128}
use Rattle.aes_core.proofs.Bounds.{ctr-gives_bytes}
use Rattle.mac_prf.specs.Hmac.{hmac}
use Rattle.mac_prf.proofs.ByteLemmas.{bytes-hmac}
use Rattle.aead_kinds.specs.CtrHmac.{authenticated, ctr_hmac_seal, ctr_hmac_tag, ctr_hmac_text, first_counter}
use Rattle.aead_kinds.proofs.CtrHmacLemmas.{ctr_hmac-is_scheme}
use Rattle.aead_kinds.proofs.EncryptThenTagLemmas.{bytes-sealed_by, length-sealed_by}
use Rattle.aead_kinds.proofs.laws.ctr_hmac_seals_bytes.Goals as goal

pub returns : goal.returns
unfolding ctr_hmac_seal ctr_hmac_text ctr_hmac_tag
returns c = λ aes hash mac t iv plain ad some within k i p.
    let all : List ℕ = authenticated iv ad (ctr_hmac_text aes iv plain) in
    let is_text = (ctr-gives_bytes aes (first_counter iv) All128 plain k p).1 in
    let is_tag = All-take (λ b. b < 256) t (hmac hash mac all) (bytes-hmac hash mac all) in (
      length-sealed_by (ctr_hmac_text aes) (ctr_hmac_tag hash mac t) t iv plain ad
          (ctr_hmac-is_scheme aes hash mac t some within),
      bytes-sealed_by (ctr_hmac_text aes) (ctr_hmac_tag hash mac t) iv plain ad i is_text is_tag,
    )
