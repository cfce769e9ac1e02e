-- What opening gives, of the parts that the code works on.
use Rattle.std.proofs.Common.{◌≡◌, ℕ, ◌+◌, ◌-◌, ◌≤◌, Some, None, List, length, take, drop, sym, ap, ◌∙◌, arith}
use Rattle.std.proofs.lemmas.List.{drop-drop, length-drop}
use Rattle.aead_kinds.specs.Gcm.{gcm_open, gcm_tag, gcm_text, iv_of, tag_of, text_of}
use Rattle.aead_kinds.proofs.GcmLemmas.{closed, opens}

-- the IV is cut off in front, the tag behind that, and the text stands between them
pub record AreParts (bytes iv rest text tag : List ℕ) : Type 0 where
  pub front : iv ≡ take 12 bytes
  pub behind : rest ≡ drop 12 bytes
  pub middle : text ≡ take (length bytes - 16 - 12) (drop 12 bytes)
  pub back : tag ≡ drop (length rest - 16) rest
  pub long : 28 ≤ length bytes

text_is : (bytes iv rest text tag : List ℕ) → AreParts bytes iv rest text tag
    → text ≡ text_of bytes
text_is bytes iv rest text tag parts =
    let size : length bytes - 16 - 12 ≡ length bytes - 28 = omega arith in
    parts.middle ∙ ap (λ n. take n (drop 12 bytes)) size

tag_is : (bytes iv rest text tag : List ℕ) → AreParts bytes iv rest text tag → tag ≡ tag_of bytes
tag_is bytes iv rest text tag parts =
    let before : ℕ = length (drop 12 bytes) - 16 in
    let size : 12 + before ≡ length bytes - 16
    = omega (arith, length-drop 12 bytes, parts.long) in
    parts.back ∙ ap (λ r. drop (length r - 16) r) parts.behind
    ∙ drop-drop before 12 bytes ∙ ap (λ n. drop n bytes) size

anew_is : (key bytes ad iv rest text tag : List ℕ) → AreParts bytes iv rest text tag
    → gcm_tag key iv ad text ≡ gcm_tag key (iv_of bytes) ad (text_of bytes)
anew_is key bytes ad iv rest text tag parts =
    ap (λ v. gcm_tag key v ad text) parts.front
    ∙ ap (λ t. gcm_tag key (iv_of bytes) ad t) (text_is bytes iv rest text tag parts)

pub parts-open : (key bytes ad iv rest text tag : List ℕ) → AreParts bytes iv rest text tag
    → gcm_tag key iv ad text ≡ tag → gcm_open key bytes ad ≡ Some (gcm_text key iv text)
parts-open key bytes ad iv rest text tag parts same =
    opens key bytes ad parts.long
    (sym (tag_is bytes iv rest text tag parts) ∙ sym same
    ∙ anew_is key bytes ad iv rest text tag parts)
    ∙ ap (λ v. Some (gcm_text key v (text_of bytes))) (sym parts.front)
    ∙ ap (λ t. Some (gcm_text key iv t)) (sym (text_is bytes iv rest text tag parts))

pub parts-closed : (key bytes ad iv rest text tag : List ℕ) → AreParts bytes iv rest text tag
    → (gcm_tag key iv ad text ≡ tag → ⊥) → gcm_open key bytes ad ≡ None
parts-closed key bytes ad iv rest text tag parts other =
    closed key bytes ad parts.long
    (λ same. other (anew_is key bytes ad iv rest text tag parts ∙ sym same
    ∙ sym (tag_is bytes iv rest text tag parts)))
