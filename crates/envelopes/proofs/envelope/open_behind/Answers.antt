use Rattle.std.proofs.Common.{◌<◌, ◌≤◌, ◌∙◌, List, ℕ, arith, length}
use Rattle.std.specs.Prelude.{nat_lt, ◌==◌, ◌||◌}
use Rattle.envelopes.proofs.OpenedInPlace.{has_key, opened_then, passed, rest_whole, stands_behind}
use Rattle.envelopes.proofs.envelope.open_behind.Goals as goal

pub returns-in-Some-2 : goal.returns-in-Some-2
returns-in-Some-2 g c = λ keys over.
    let size : ℕ = c.args.size in
    let bytes : List ℕ = c.args.bytes.now in
    let some : 0 < size = omega (arith, c.if-size-eq0.false) in
    let fits : size ≤ length bytes = omega (arith, c.if-bytes-size.false) in
    let found = rw c.in-Some.is at (c.in_ok-value.ensures.opened keys over) in
    let stands = rw (c.deref.ensures.value, rest_whole size bytes) at (rw c.in-Some-2.is at c.in_ok-range.ensures) in
    stands_behind _ _ size bytes c.open_with.new.payload _ _ fits
    (passed (size == 0 || nat_lt (length bytes) size) _ (has_key bytes size some fits) ∙ opened_then _ _ c.in-Some.value.items found) stands
