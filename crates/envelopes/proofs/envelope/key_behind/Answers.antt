use Rattle.std.proofs.Common.{◌≡◌, ◌∙◌, ◌<◌, ◌≤◌, IfOk, List, Option, ℕ, arith, drop, length, length-take-le, subst, sym, take}
use Rattle.std.specs.Prelude.{nat_lt, ◌==◌, ◌||◌}
use Rattle.envelopes.proofs.OpenedInPlace.{has_key, opened_then, passed}
use Rattle.seal_wrap.proofs.OpenedSizes.{opened-over, same_short}
use Rattle.envelopes.specs.EnvelopeSteps.{has_value}
use Rattle.envelopes.specs.Enveloped.{Parts}
use Rattle.envelopes.proofs.envelope.key_behind.Goals as goal

pub returns-in-Some-clause-parts : goal.returns-in-Some-clause-parts
returns-in-Some-clause-parts g c = λ keys over.
    let size : ℕ = c.args.size in
    let bytes : List ℕ = c.args.bytes.now in
    let some : 0 < size = omega (arith, c.if-size-eq0.false) in
    let fits : size ≤ length bytes = omega (arith, c.if-bytes-size.false) in
    let found = rw c.in-Some.is at (c.in_ok-value.ensures.opened keys over) in
    subst (λ (parts : Option Parts). IfOk c.valid_message.result (λ valid. has_value (drop size bytes) valid ≡ parts))
    (sym (passed (size == 0 || nat_lt (length bytes) size) _ (has_key bytes size some fits) ∙ opened_then _ _ c.in-Some.value.items found))
    (c.valid_message.ensures.valid (drop size bytes))

pub returns-in-Some-clause-short : goal.returns-in-Some-clause-short
returns-in-Some-clause-short g c =
    let over = c.requires.over in
    let size : ℕ = c.args.size in
    let bytes : List ℕ = c.args.bytes.now in
    let fits : size ≤ length bytes = omega (arith, c.if-bytes-size.false) in
    let opened = rw c.in-Some.is at (c.in_ok-value.ensures.opened over.0 over.1) in
    let short : length c.in-Some.value.items ≤ length (take size bytes) = opened-over _ over.0 _ (take size bytes) c.in-Some.value.items over.1 (sym opened) in
    same_short c.valid_message.result c.in-Some.value.items size (omega (arith, short, length-take-le size bytes fits)) c.valid_message.ensures.same
