-- Counter mode keeps to bytes, and each of the three parts of a tag is a tag of CMAC.
use Rattle.std.proofs.Common.{ℕ, List}
use Rattle.aes_core.specs.Bytes.{IsBytes}
use Rattle.aes_core.specs.declared.counter.CtrKind.TheVariants.{All128}
use Rattle.aes_core.proofs.Bounds.{ctr-gives_bytes}
use Rattle.aead_kinds.specs.Eax.{eax_seal, eax_tag, eax_text, omac}
use Rattle.aead_kinds.proofs.EaxLemmas.{eax-is_scheme}
use Rattle.aead_kinds.proofs.EncryptThenTagLemmas.{bytes-sealed_by, bytes-xor_bytes, length-sealed_by}
use Rattle.aead_kinds.proofs.laws.eax_seals_bytes.Goals as goal

pub returns : goal.returns
unfolding eax_seal eax_text eax_tag omac
returns c = λ key iv plain ad k i p.
    let text : List ℕ = eax_text key iv plain in
    let part : (t : ℕ) (m : List ℕ) → IsBytes (omac t key m)
    = λ t m. (c.cmac_has_a_block.ensures key _ k).1 in
    let is_text = (ctr-gives_bytes key (omac 0 key iv) All128 plain k p).1 in
    let is_tag : IsBytes (eax_tag key iv ad text)
    = bytes-xor_bytes _ _ (bytes-xor_bytes _ _ (part 0 iv) (part 1 ad)) (part 2 text) in (
      length-sealed_by (eax_text key) (eax_tag key) 16 iv plain ad (eax-is_scheme key),
      bytes-sealed_by (eax_text key) (eax_tag key) iv plain ad i is_text is_tag,
    )
