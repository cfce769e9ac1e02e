use Rattle.std.proofs.Common.{◌≡◌, ℕ, List, ◌++◌, replicate, ap, ◌∙◌}
use Rattle.aes_core.specs.Aes.{cipher}
use Rattle.aes_core.specs.Bytes.{xor_bytes}
use Rattle.aead_kinds.specs.GcmSiv.{gcm_siv_tag, hashed, masked, with_nonce}
use Rattle.aead_kinds.proofs.gcm_siv.tag_of.Goals as goal

pub returns : goal.returns
unfolding gcm_siv_tag
returns c =
    let main = c.args.main.now in
    let iv = c.args.iv.now in
    let nonce : List ℕ = c.copy_from_slice.new.self in
    let s : List ℕ = hashed main iv c.args.ad.now c.args.plain.now in
    let block : c.xor-block.result ≡ with_nonce s iv
    = c.xor-block.ensures ∙ ap (λ (l : List ℕ). xor_bytes l (nonce ++ replicate 4 0)) c.hashed.ensures
    ∙ ap (λ (l : List ℕ). xor_bytes s (l ++ replicate 4 0)) c.copy_from_slice.ensures.after in
    c.encrypt_block.ensures ∙ (λ i. cipher (c.requires.encryption i) (masked (block i)))
