-- What opens is what was sealed, whatever the cipher and the tag, where the cipher undoes itself and
-- the tag has its size.
use Rattle.std.proofs.Common.{◌≡◌, ℕ, ◌+◌, ◌-◌, ◌<◌, ◌≤◌, cond, nat_lt, Some, None, List, [], ◌∷◌, ◌++◌, length, take, drop, refl, sym, ap, ◌∙◌, arith}
use Rattle.std.proofs.lemmas.Bool.{cond-false, cond-true, cond_both, le-ltb, lt-ltb, ltb-false}
use Rattle.std.proofs.lemmas.List.{append_assoc, drop-drop, drop_at, length-append, length-take, take-append-drop, take_at}
use Rattle.std.proofs.lemmas.List.Elements.{All-append, All-cons, All-head, All-nil, All-tail}
use Rattle.std.proofs.lemmas.Nat.{xor_of_8}
use Rattle.std.proofs.lemmas.Option.{none-some, same_Some}
use Rattle.std.proofs.lemmas.Slice.Eq.{bytes_eq-Decides}
use lib.Bits.{bit_xor}
use Rattle.std.specs.Str.{bytes_eq}
use Rattle.aes_core.specs.Bytes.{IsBytes, xor_bytes}
use Rattle.aead_kinds.specs.EncryptThenTag.{iv_of, opened_by, sealed_by, tag_of, text_of}

-- ---- the parts of sealed bytes

pub length-parts : (iv text tag : List ℕ)
    → length (iv ++ text ++ tag) ≡ length iv + length text + length tag
length-parts iv text tag =
    omega (arith, length-append (iv ++ text) tag, length-append iv text)

-- bytes of at least an IV and a tag are their parts, joined
pub parts-joined : (v t : ℕ) (bytes : List ℕ) → v + t ≤ length bytes
    → iv_of v bytes ++ text_of v t bytes ++ tag_of t bytes ≡ bytes
parts-joined v t bytes h =
    let rest : ℕ = length bytes - (v + t) in
    let same : length bytes - t ≡ v + rest = omega arith in
    append_assoc (iv_of v bytes) (text_of v t bytes) (tag_of t bytes)
    ∙ ap (λ tag. iv_of v bytes ++ (text_of v t bytes ++ tag))
    (ap (λ n. drop n bytes) same ∙ sym (drop-drop rest v bytes))
    ∙ ap (λ back. iv_of v bytes ++ back) (take-append-drop rest (drop v bytes))
    ∙ take-append-drop v bytes

pub text_of-parts : (v t : ℕ) (iv text tag : List ℕ) → length iv ≡ v → length tag ≡ t
    → text_of v t (iv ++ text ++ tag) ≡ text
text_of-parts v t iv text tag hi ht =
    let rest : ℕ = length (iv ++ text ++ tag) - (v + t) in
    let same : length text ≡ rest = omega (arith, length-parts iv text tag) in
    ap (λ back. take rest back)
    (ap (λ all. drop v all) (append_assoc iv text tag) ∙ drop_at iv (text ++ tag) v hi)
    ∙ take_at text tag rest same

pub tag_of-parts : (t : ℕ) (iv text tag : List ℕ) → length tag ≡ t
    → tag_of t (iv ++ text ++ tag) ≡ tag
tag_of-parts t iv text tag h =
    drop_at (iv ++ text) tag (length (iv ++ text ++ tag) - t)
    (omega (arith, length-append (iv ++ text) tag))

-- ---- opening

-- where the test of the tag holds and the bytes are long enough, they open
pub authentic-opens : (crypt : List ℕ → List ℕ → List ℕ) (tag : List ℕ → List ℕ → List ℕ → List ℕ)
    (v t : ℕ) (bytes ad : List ℕ) → v + t ≤ length bytes
    → tag_of t bytes ≡ tag (iv_of v bytes) ad (text_of v t bytes)
    → opened_by crypt tag v t bytes ad ≡ Some (crypt (iv_of v bytes) (text_of v t bytes))
unfolding opened_by
authentic-opens crypt tag v t bytes ad long same =
    let anew = tag (iv_of v bytes) ad (text_of v t bytes) in
    let plain = Some (crypt (iv_of v bytes) (text_of v t bytes)) in
    let test = bytes_eq (tag_of t bytes) anew in
    cond-false (nat_lt (length bytes) (v + t)) None (cond test plain None)
    (le-ltb (length bytes) (v + t) long)
    ∙ cond-true test plain None ((bytes_eq-Decides (tag_of t bytes) anew).1 same)

-- where they are too short, or the test fails, they don't
pub short-closed : (crypt : List ℕ → List ℕ → List ℕ) (tag : List ℕ → List ℕ → List ℕ → List ℕ)
    (v t : ℕ) (bytes ad : List ℕ) → length bytes < v + t
    → opened_by crypt tag v t bytes ad ≡ None
unfolding opened_by
short-closed crypt tag v t bytes ad short =
    let anew = tag (iv_of v bytes) ad (text_of v t bytes) in
    let plain = Some (crypt (iv_of v bytes) (text_of v t bytes)) in
    cond-true (nat_lt (length bytes) (v + t)) None
    (cond (bytes_eq (tag_of t bytes) anew) plain None) (lt-ltb (length bytes) (v + t) short)

pub other_tag-closed : (crypt : List ℕ → List ℕ → List ℕ) (tag : List ℕ → List ℕ → List ℕ → List ℕ)
    (v t : ℕ) (bytes ad : List ℕ) → v + t ≤ length bytes
    → (tag_of t bytes ≡ tag (iv_of v bytes) ad (text_of v t bytes) → ⊥)
    → opened_by crypt tag v t bytes ad ≡ None
unfolding opened_by
other_tag-closed crypt tag v t bytes ad long other =
    let anew = tag (iv_of v bytes) ad (text_of v t bytes) in
    let plain = Some (crypt (iv_of v bytes) (text_of v t bytes)) in
    let test = bytes_eq (tag_of t bytes) anew in
    cond-false (nat_lt (length bytes) (v + t)) None (cond test plain None)
    (le-ltb (length bytes) (v + t) long)
    ∙ cond_both test plain None (λ o. o ≡ None)
    (λ same. absurd (other ((bytes_eq-Decides (tag_of t bytes) anew).0 same))) (λ e. refl)

-- a plaintext comes only where both hold
opened-authentic : (crypt : List ℕ → List ℕ → List ℕ) (tag : List ℕ → List ℕ → List ℕ → List ℕ)
    (v t : ℕ) (bytes plain ad : List ℕ) → opened_by crypt tag v t bytes ad ≡ Some plain
    → (v + t ≤ length bytes) × (tag_of t bytes ≡ tag (iv_of v bytes) ad (text_of v t bytes))
    × (crypt (iv_of v bytes) (text_of v t bytes) ≡ plain)
unfolding opened_by
opened-authentic crypt tag v t bytes plain ad =
    let anew : List ℕ = tag (iv_of v bytes) ad (text_of v t bytes) in
    let text : List ℕ = crypt (iv_of v bytes) (text_of v t bytes) in
    let test = bytes_eq (tag_of t bytes) anew in
    let facts : Type 0 = (v + t ≤ length bytes) × (tag_of t bytes ≡ anew) × (text ≡ plain) in
    cond_both (nat_lt (length bytes) (v + t)) None (cond test (Some text) None)
    (λ o. o ≡ Some plain → facts)
    (λ short e. absurd (none-some plain e))
    (λ long. cond_both test (Some text) None
    (λ o. o ≡ Some plain → facts)
    (λ same e. (
      ltb-false (length bytes) (v + t) long,
      (bytes_eq-Decides (tag_of t bytes) anew).0 same,
      same_Some text plain e,
    ))
    (λ other e. absurd (none-some plain e)))

-- ---- sealing

-- the cipher undoes itself and keeps lengths, and the tag has t bytes, at least one
pub record IsScheme (crypt : List ℕ → List ℕ → List ℕ) (tag : List ℕ → List ℕ → List ℕ → List ℕ)
    (t : ℕ) : Type 0 where
  pub some : 1 ≤ t
  pub back : (iv text : List ℕ) → crypt iv (crypt iv text) ≡ text
  pub size : (iv ad text : List ℕ) → length (tag iv ad text) ≡ t
  pub long : (iv text : List ℕ) → length (crypt iv text) ≡ length text

pub opened-sealed_by : (crypt : List ℕ → List ℕ → List ℕ) (tag : List ℕ → List ℕ → List ℕ → List ℕ)
    (v t : ℕ) (bytes plain ad : List ℕ) → IsScheme crypt tag t
    → opened_by crypt tag v t bytes ad ≡ Some plain
    → bytes ≡ sealed_by crypt tag (iv_of v bytes) plain ad
unfolding sealed_by
opened-sealed_by crypt tag v t bytes plain ad is e =
    let facts = opened-authentic crypt tag v t bytes plain ad e in
    let iv = iv_of v bytes in
    let text = text_of v t bytes in
    let same : text ≡ crypt iv plain
    = sym (is.back iv text) ∙ ap (λ p. crypt iv p) facts.2 in
    sym (parts-joined v t bytes facts.0) ∙ ap (λ u. iv ++ text ++ u) facts.1
    ∙ ap (λ c. iv ++ c ++ tag iv ad c) same

pub length-sealed_by : (crypt : List ℕ → List ℕ → List ℕ) (tag : List ℕ → List ℕ → List ℕ → List ℕ)
    (t : ℕ) (iv plain ad : List ℕ) → IsScheme crypt tag t
    → length (sealed_by crypt tag iv plain ad) ≡ length iv + length plain + t
unfolding sealed_by
length-sealed_by crypt tag t iv plain ad is =
    let text : List ℕ = crypt iv plain in
    omega (arith, length-parts iv text (tag iv ad text), is.size iv ad text, is.long iv plain)

sealed_by-opens : (crypt : List ℕ → List ℕ → List ℕ) (tag : List ℕ → List ℕ → List ℕ → List ℕ)
    (v t : ℕ) (iv plain ad : List ℕ) → IsScheme crypt tag t → length iv ≡ v
    → opened_by crypt tag v t (sealed_by crypt tag iv plain ad) ad ≡ Some plain
unfolding sealed_by
sealed_by-opens crypt tag v t iv plain ad is h =
    let text : List ℕ = crypt iv plain in
    let made : List ℕ = tag iv ad text in
    let size = is.size iv ad text in
    let bytes : List ℕ = iv ++ text ++ made in
    let iv_is : iv_of v bytes ≡ iv
    = ap (λ all. take v all) (append_assoc iv text made) ∙ take_at iv (text ++ made) v h in
    let text_is : text_of v t bytes ≡ text = text_of-parts v t iv text made h size in
    let anew : tag (iv_of v bytes) ad (text_of v t bytes) ≡ made
    = ap (λ w. tag w ad (text_of v t bytes)) iv_is ∙ ap (λ c. tag iv ad c) text_is in
    authentic-opens crypt tag v t bytes ad (omega (arith, length-parts iv text made, size, h))
    (tag_of-parts t iv text made size ∙ sym anew)
    ∙ ap (λ w. Some (crypt w (text_of v t bytes))) iv_is
    ∙ ap (λ c. Some (crypt iv c)) text_is
    ∙ ap (λ p. Some p) (is.back iv plain)

pub sealed_by_first-opens : (crypt : List ℕ → List ℕ → List ℕ)
    (tag : List ℕ → List ℕ → List ℕ → List ℕ) (v t : ℕ) (bytes plain ad : List ℕ)
    → IsScheme crypt tag t → bytes ≡ sealed_by crypt tag (iv_of v bytes) plain ad
    → opened_by crypt tag v t bytes ad ≡ Some plain
sealed_by_first-opens crypt tag v t bytes plain ad is e =
    let all = ap (λ l. length l) e ∙ length-sealed_by crypt tag t (iv_of v bytes) plain ad is in
    let whole : length (iv_of v bytes) ≡ v = omega (arith, all, length-take v bytes, is.some) in
    ap (λ l. opened_by crypt tag v t l ad) e
    ∙ sealed_by-opens crypt tag v t (iv_of v bytes) plain ad is whole

-- ---- bytes

pub bytes-sealed_by : (crypt : List ℕ → List ℕ → List ℕ) (tag : List ℕ → List ℕ → List ℕ → List ℕ)
    (iv plain ad : List ℕ) → IsBytes iv → IsBytes (crypt iv plain)
    → IsBytes (tag iv ad (crypt iv plain)) → IsBytes (sealed_by crypt tag iv plain ad)
unfolding sealed_by
bytes-sealed_by crypt tag iv plain ad i text made =
    All-append (λ b. b < 256) (iv ++ crypt iv plain) (tag iv ad (crypt iv plain))
    (All-append (λ b. b < 256) iv (crypt iv plain) i text) made

pub bytes-xor_bytes : (a b : List ℕ) → IsBytes a → IsBytes b → IsBytes (xor_bytes a b)
unfolding xor_bytes
bytes-xor_bytes [] b ha hb = All-nil (λ n. n < 256)
bytes-xor_bytes (x ∷ a) [] ha hb = All-nil (λ n. n < 256)
bytes-xor_bytes (x ∷ a) (y ∷ b) ha hb =
    All-cons (λ n. n < 256) (bit_xor x y) (xor_bytes a b)
    (xor_of_8 x y (All-head (λ n. n < 256) x a ha) (All-head (λ n. n < 256) y b hb))
    (bytes-xor_bytes a b (All-tail (λ n. n < 256) x a ha) (All-tail (λ n. n < 256) y b hb))

-- ---- opening, of the parts that the code cuts off

-- the IV in front, and of what stands behind it the text, of n bytes, and the tag
pub record AreCut (v n t : ℕ) (bytes iv rest text made : List ℕ) : Type 0 where
  pub front : iv ≡ take v bytes
  pub behind : rest ≡ drop v bytes
  pub middle : text ≡ take n rest
  pub back : made ≡ drop n rest
  pub whole : v + n + t ≡ length bytes

cut-text : (v n t : ℕ) (bytes iv rest text made : List ℕ) → AreCut v n t bytes iv rest text made
    → text ≡ text_of v t bytes
cut-text v n t bytes iv rest text made cut =
    let size : n ≡ length bytes - (v + t) = omega (arith, cut.whole) in
    cut.middle ∙ ap (λ r. take n r) cut.behind ∙ ap (λ m. take m (drop v bytes)) size

cut-tag : (v n t : ℕ) (bytes iv rest text made : List ℕ) → AreCut v n t bytes iv rest text made
    → made ≡ tag_of t bytes
cut-tag v n t bytes iv rest text made cut =
    let size : v + n ≡ length bytes - t = omega (arith, cut.whole) in
    cut.back ∙ ap (λ r. drop n r) cut.behind ∙ drop-drop n v bytes ∙ ap (λ m. drop m bytes) size

cut-anew : (tag : List ℕ → List ℕ → List ℕ → List ℕ) (v n t : ℕ)
    (bytes ad iv rest text made : List ℕ) → AreCut v n t bytes iv rest text made
    → tag iv ad text ≡ tag (iv_of v bytes) ad (text_of v t bytes)
cut-anew tag v n t bytes ad iv rest text made cut =
    ap (λ w. tag w ad text) cut.front
    ∙ ap (λ c. tag (iv_of v bytes) ad c) (cut-text v n t bytes iv rest text made cut)

pub cut-opens : (crypt : List ℕ → List ℕ → List ℕ) (tag : List ℕ → List ℕ → List ℕ → List ℕ)
    (v n t : ℕ) (bytes ad iv rest text made : List ℕ) → AreCut v n t bytes iv rest text made
    → tag iv ad text ≡ made → opened_by crypt tag v t bytes ad ≡ Some (crypt iv text)
cut-opens crypt tag v n t bytes ad iv rest text made cut same =
    authentic-opens crypt tag v t bytes ad (omega (arith, cut.whole))
    (sym (cut-tag v n t bytes iv rest text made cut) ∙ sym same
    ∙ cut-anew tag v n t bytes ad iv rest text made cut)
    ∙ ap (λ w. Some (crypt w (text_of v t bytes))) (sym cut.front)
    ∙ ap (λ c. Some (crypt iv c)) (sym (cut-text v n t bytes iv rest text made cut))

pub cut-closed : (crypt : List ℕ → List ℕ → List ℕ) (tag : List ℕ → List ℕ → List ℕ → List ℕ)
    (v n t : ℕ) (bytes ad iv rest text made : List ℕ) → AreCut v n t bytes iv rest text made
    → (tag iv ad text ≡ made → ⊥) → opened_by crypt tag v t bytes ad ≡ None
cut-closed crypt tag v n t bytes ad iv rest text made cut other =
    other_tag-closed crypt tag v t bytes ad (omega (arith, cut.whole))
    (λ same. other (cut-anew tag v n t bytes ad iv rest text made cut ∙ sym same
    ∙ sym (cut-tag v n t bytes iv rest text made cut)))
