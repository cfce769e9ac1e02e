use Rattle.std.proofs.Common.{◌≤◌, ◌∙◌, List, ℕ, ap, arith, length}
use Rattle.std.specs.Prelude.{nat_lt}
use Rattle.std.specs.Int.{from_be_bytes, w32}
use Rattle.envelopes.proofs.OpenedInPlace.{has_length, kept_behind, passed, rest_whole, stands_behind}
use Rattle.envelopes.proofs.envelope.open_envelope.Goals as goal

pub returns-in-Some-2 : goal.returns-in-Some-2
returns-in-Some-2 g c = λ keys over.
    let bytes : List ℕ = c.args.bytes.now in
    let first = c.in-Some.ensures.cases in
    let fits : 4 ≤ length bytes = omega (arith, first.2) in
    let size = c.from_be_bytes-size.ensures ∙ ap (from_be_bytes w32) first.0 in
    let stands = rw (size, rest_whole 4 bytes) at (rw c.in-Some-2.is at (c.in_ok-range.ensures keys over)) in
    stands_behind _ _ 4 bytes c.open_behind.new.bytes _ _ fits (passed (nat_lt (length bytes) 4) _ (has_length bytes fits)) stands

pub returns-in-None : goal.returns-in-None
returns-in-None g c = λ keys over.
    let bytes : List ℕ = c.args.bytes.now in
    let first = c.in-Some.ensures.cases in
    let fits : 4 ≤ length bytes = omega (arith, first.2) in
    let size = c.from_be_bytes-size.ensures ∙ ap (from_be_bytes w32) first.0 in
    let kept = rw (size, rest_whole 4 bytes) at (rw c.in-None.is at (c.in_ok-range.ensures keys over)) in
    (passed (nat_lt (length bytes) 4) _ (has_length bytes fits) ∙ kept.0, kept_behind 4 bytes c.open_behind.new.bytes kept.1)
