-- Bytes that are held in a part of an array, and handed out from its front.
use Rattle.std.proofs.Common.{◌≡◌, ℕ, ◌+◌, ◌-◌, ◌≤◌, List, ◌++◌, arith, length, take, drop, replicate, slice_range, Option, None, Some, append_assoc, sym, ap, ◌∙◌}
use Rattle.std.specs.Io.KnownBytes.{Consumes, prepend_known}
use Rattle.std.proofs.lemmas.List.{replicate-append-replicate, take_at, take-append-drop, drop-drop, drop-take}
use Rattle.std.proofs.lemmas.Slice.{take-put_mid, drop-put_mid}
use borrow.Rule.Slice.PartMut.{put_mid}
use lib.Seq.{take-add}

-- what was handed out is zeros, those before it and those that were put over it
pub zeros_on : (a k n : ℕ) (bytes over : List ℕ) → a ≤ length bytes → length over ≡ n → over ≡ replicate n 0 → take a bytes ≡ replicate a 0 → take (a + n) (put_mid a k bytes over) ≡ replicate (a + n) 0
zeros_on a k n bytes over within size zeros before =
    take-put_mid a k bytes over (a + n) (omega (arith, size)) within
    ∙ ap (λ l. l ++ over) before
    ∙ ap (λ l. replicate a 0 ++ l) zeros
    ∙ replicate-append-replicate a n 0

-- what was held is what was handed out, and then what is held; behind that the array is as it was
handed_on : (a n to : ℕ) (bytes after given rest : List ℕ) → a + n ≤ to → length given ≡ n → given ≡ take n (drop a bytes) → drop (a + n) after ≡ drop n (drop a bytes) → slice_range bytes a to ≡ take n (given ++ rest) ++ slice_range after (a + n) to
handed_on a n to bytes after given rest fits long is behind =
    let whole : n + (to - (a + n)) ≡ to - a = omega (arith, fits) in
    let front : take n (given ++ rest) ≡ take n (drop a bytes) = take_at given rest n long ∙ is in
    ap (λ m. take m (drop a bytes)) (sym whole)
    ∙ take-add n (to - (a + n)) (drop a bytes)
    ∙ ap (λ l. take n (drop a bytes) ++ take (to - (a + n)) l) (sym behind)
    ∙ ap (λ l. l ++ slice_range after (a + n) to) (sym front)

-- where the array stays
pub copied_out : (a n to : ℕ) (bytes given rest : List ℕ) → a + n ≤ to → length given ≡ n → given ≡ take n (drop a bytes) → slice_range bytes a to ≡ take n (given ++ rest) ++ slice_range bytes (a + n) to
copied_out a n to bytes given rest fits long is = handed_on a n to bytes bytes given rest fits long is (sym (drop-drop n a bytes))

-- where what was handed out is written over
pub handed_out : (a k n to : ℕ) (bytes over given rest : List ℕ) → a ≤ length bytes → k ≡ n → length over ≡ n → a + n ≤ to → length given ≡ n → given ≡ take n (drop a bytes) → slice_range bytes a to ≡ take n (given ++ rest) ++ slice_range (put_mid a k bytes over) (a + n) to
handed_out a k n to bytes over given rest within room size fits long is =
    handed_on a n to bytes (put_mid a k bytes over) given rest fits long is (drop-put_mid a k bytes over (a + n) (omega (arith, room)) within (omega (arith, room, size)) ∙ sym (drop-drop n a bytes))

-- what is held once the front was let go
pub let_go : (a k n to : ℕ) (bytes over : List ℕ) → a ≤ length bytes → k ≡ n → length over ≡ n → a + n ≤ to → slice_range (put_mid a k bytes over) (a + n) to ≡ drop n (slice_range bytes a to)
let_go a k n to bytes over within room size fits =
    let whole : n + (to - (a + n)) ≡ to - a = omega (arith, fits) in
    ap (take (to - (a + n))) (drop-put_mid a k bytes over (a + n) (omega (arith, room)) within (omega (arith, room, size)) ∙ sym (drop-drop n a bytes))
    ∙ sym (drop-take n (to - (a + n)) (drop a bytes))
    ∙ ap (λ m. drop n (take m (drop a bytes))) whole

-- its front is gone, of what is held and what is behind it
pub front_gone : (n : ℕ) (held : List ℕ) (behind : Option (List ℕ)) → Consumes (prepend_known held behind) (prepend_known (drop n held) behind) (take n held)
front_gone n held None = tt
front_gone n held (Some rest) = ap (λ l. l ++ rest) (sym (take-append-drop n held)) ∙ append_assoc (take n held) (drop n held) rest
