-- A buffer that is filled from behind and emptied from the front.
use Rattle.std.proofs.Common.{◌≡◌, ℕ, ◌+◌, ◌-◌, ◌<◌, ◌≤◌, List, [], ◌∷◌, ◌++◌, length, set, get_or, take, drop, refl, sym, ◌∙◌, ap, arith, append_assoc}
use Rattle.std.proofs.lemmas.List.{length-set, length-append, take_all, length-take-le, take-take, drop-take, length-drop, take_at, at_drop_more}
use Rattle.std.proofs.lemmas.Slice.{take-put_mid}
use Rattle.std.proofs.Math.Seq.{take-append-add}
use borrow.Rule.Slice.PartMut.{put_mid}
use Rattle.tink_spec.specs.Outside.{SourceState, Gave}

pub put_front : (a k n : ℕ) (xs ys : List ℕ) → n ≤ length ys → a ≤ length xs → take (a + n) (put_mid a k xs ys) ≡ take a xs ++ take n ys
put_front a k n xs ys le fits =
    let size : length (take a xs) ≡ a = length-take-le a xs fits in
    sym (take-take (a + n) (a + length ys) (put_mid a k xs ys) (omega (arith, le))) ∙ ap (λ (l : List ℕ). take (a + n) l) (take-put_mid a k xs ys (a + length ys) refl fits)
    ∙ ap (λ (m : ℕ). take (m + n) (take a xs ++ ys)) (sym size) ∙ take-append-add (take a xs) ys n

-- what is held behind the first bytes is copied to the front
pub turned : (by len : ℕ) (buffer rest : List ℕ) → by ≤ len → len ≤ length buffer → take (len - by) (take (len - by) (drop by buffer) ++ rest) ≡ drop by (take len buffer)
turned by len buffer rest le fits =
    let whole : by + (len - by) ≡ len = omega arith in
    take_at (take (len - by) (drop by buffer)) rest (len - by) (length-take-le (len - by) (drop by buffer) (omega (arith, length-drop by buffer)))
    ∙ sym (drop-take by (len - by) buffer) ∙ ap (λ n. drop by (take n buffer)) whole

-- ---- reads behind what is held

pub record Filling (old new : SourceState) (before after : List ℕ) (held len : ℕ) : Type 0 where
  pub piece : List ℕ
  pub gave : Gave old new piece
  pub is : after ≡ before ++ piece
  pub size : held + length piece ≡ len

-- after reads the buffer holds no fewer bytes
pub holds_more : (held len : ℕ) (before after piece : List ℕ) → held ≤ length before → len ≤ length after → take len after ≡ take held before ++ piece → held ≤ len
holds_more held len before after piece fits there e =
    let whole : length (take len after) ≡ length (take held before ++ piece) = ap length e in
    omega (arith, whole, length-take-le len after there, length-append (take held before) piece, length-take-le held before fits)

-- and those that it held are in front
pub still_front : (held len : ℕ) (before after piece : List ℕ) → held ≤ length before → len ≤ length after → take len after ≡ take held before ++ piece → take held after ≡ take held before
still_front held len before after piece fits there e =
    sym (take-take held len after (holds_more held len before after piece fits there e)) ∙ ap (take held) e
    ∙ take_at (take held before) piece held (length-take-le held before fits)

-- what was held is in front of a longer buffer
pub kept_front : (n len : ℕ) (longer before : List ℕ) → n ≤ len → take len longer ≡ before → take n longer ≡ take n before
kept_front n len longer before le kept = sym (take-take n len longer le) ∙ ap (take n) kept

-- a byte in front, and bytes behind it
first_set : (buffer : List ℕ) (byte : ℕ) → 0 < length buffer → take 1 (set buffer 0 byte) ≡ byte ∷ []
first_set [] byte some = absurd (omega arith)
first_set (x ∷ xs) byte some = refl

-- a segment and its tag are the front
pub tag_behind : (plain size : ℕ) (segment tag rest : List ℕ) → length segment ≡ plain → length tag ≡ size → take (plain + size) (segment ++ (tag ++ rest)) ≡ segment ++ tag
tag_behind plain size segment tag rest e f =
    ap (take (plain + size)) (sym (append_assoc segment tag rest))
    ∙ take_at (segment ++ tag) rest (plain + size) (omega (arith, e, f, length-append segment tag))

-- the byte behind the first ones goes to the front
pub carried : (size len : ℕ) (buffer after : List ℕ) → len ≡ size + 1 → len ≤ length buffer → 0 < length after → take 1 (set after 0 (get_or buffer size 0)) ≡ drop size (take len buffer)
carried size len buffer after e fits some =
    first_set after (get_or buffer size 0) some
    ∙ sym (at_drop_more (take 1) buffer size 0 (omega (arith, e, fits)))
    ∙ sym (ap (λ n. drop size (take n buffer)) e ∙ drop-take size 1 buffer)

pub header_there : (size : ℕ) (buffer random : List ℕ) → 0 < size → size ≤ length buffer → length random ≡ size - 1 → take size (put_mid 1 (size - 1) (set buffer 0 size) random) ≡ size ∷ random
header_there size buffer random some fits e =
    let whole : size ≡ 1 + (size - 1) = omega arith in
    ap (λ n. take n (put_mid 1 (size - 1) (set buffer 0 size) random)) whole
    ∙ put_front 1 (size - 1) (size - 1) (set buffer 0 size) random (omega arith) (omega (arith, length-set buffer 0 size))
    ∙ ap (λ (l : List ℕ). l ++ take (size - 1) random) (first_set buffer size (omega arith))
    ∙ ap (λ (l : List ℕ). size ∷ l) (take_all (size - 1) random (omega arith))
