-- What stands between the two rooms is the plaintext.
use Rattle.std.proofs.Common.{◌≡◌, ◌-◌, ◌++◌, ◌∙◌, List, ℕ, ap, arith, drop, length, sym, take}
use Rattle.std.proofs.lemmas.List.{append_assoc}
use Rattle.aead_kinds.specs.Gcm.{gcm_seal, gcm_tag, gcm_text, text_of}
use Rattle.aead_kinds.proofs.aead.gcm_sealed_under.Goals as goal

pub returns : goal.returns
unfolding gcm_seal
returns c =
    let key = c.args.key.now in
    let iv = c.args.iv.now in
    let ad = c.args.ad.now in
    let bytes = c.args.sealed.now in
    let plain : List ℕ = text_of bytes in
    let text : List ℕ = c.seal_in_place.new.body in
    let tag : List ℕ = c.copy_from_slice-2.new.self in
    let size : length bytes - 16 - 12 ≡ length bytes - 28 = omega arith in
    let body : c.split_at_mut-body.result.0.now ≡ plain
    = c.split_at_mut-body.ensures.front
    ∙ ap (λ (l : List ℕ). take (length bytes - 16 - 12) l) c.split_at_mut-room.ensures.back
    ∙ ap (λ n. take n (drop 12 bytes)) size in
    let crypted : text ≡ gcm_text key iv plain
    = c.seal_in_place.ensures.text ∙ ap (λ (l : List ℕ). gcm_text key iv l) body in
    let made : tag ≡ gcm_tag key iv ad text
    = c.copy_from_slice-2.ensures.after ∙ c.seal_in_place.ensures.tag in
    ap (λ (l : List ℕ). l ++ (text ++ tag)) c.copy_from_slice.ensures.after
    ∙ ap (λ (t : List ℕ). iv ++ (text ++ t)) made
    ∙ ap (λ (t : List ℕ). iv ++ (t ++ gcm_tag key iv ad t)) crypted
    ∙ sym (append_assoc iv (gcm_text key iv plain) (gcm_tag key iv ad (gcm_text key iv plain)))
