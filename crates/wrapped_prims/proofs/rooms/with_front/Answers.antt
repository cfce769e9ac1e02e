-- What was written in front, and behind it what was there.
use Rattle.std.proofs.Common.{◌≡◌, ◌∙◌, ◌≤◌, ◌++◌, List, ℕ, ap, arith, drop, length, length-append, length-drop, refl, take}
use Rattle.std.proofs.Math.Seq.{take-append_seam}
use Rattle.std.proofs.lemmas.List.{take_at}
use Rattle.std.proofs.lemmas.Slice.{drop-append-drop}
use Rattle.wrapped_prims.proofs.rooms.with_front.Goals as goal

pub returns : goal.returns
returns c =
    let front : List ℕ = c.args.front.now in
    let old : List ℕ = c.args.bytes.items in
    let new : List ℕ = c.put_front.new.bytes in
    let room : length front ≤ length old = c.requires.room in
    let value = c.deref_mut.ensures.value in
    let same : new ≡ front ++ drop (length front) old
    = c.put_front.ensures ∙ ap (λ (l : List ℕ). front ++ drop (length front) l) value in
    let size : length new ≡ length old
    = omega (arith, ap length same, length-append front (drop (length front) old), length-drop (length front) old, room) in
    let fits : length new ≡ c.args.bytes.len = omega (arith, size, ap length value, c.deref_mut.ensures.len) in
    let whole = take_at new _ _ fits in
    record {
      size = ap length whole ∙ size;
      front = ap (take (length front)) (whole ∙ same) ∙ take-append_seam front (drop (length front) old);
      behind = λ n least. ap (drop n) (whole ∙ same) ∙ drop-append-drop (length front) old front n least refl;
    }
