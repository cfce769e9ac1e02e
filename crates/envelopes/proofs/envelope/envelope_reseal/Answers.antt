use Rattle.std.proofs.Common.{◌≡◌, ◌∙◌, ◌≤◌, ◌+◌, ◌-◌, List, ℕ, ap, arith, drop, length, sym}
use Rattle.std.specs.Prelude.{slice_range}
use Rattle.std.proofs.lemmas.List.{drop-drop}
use Rattle.envelopes.proofs.EnvelopeLemmas.{cut_at, resealing}
use Rattle.envelopes.specs.Enveloped.{before_payload}
use Rattle.seal_wrap.proofs.WrapLemmas.{sealing-bound}
use Rattle.envelopes.proofs.envelope.envelope_reseal.Goals as goal

pub overflow_sub-start-2 : goal.overflow_sub-start-2
overflow_sub-start-2 g c =
    let over = c.requires.over in
    let bound = sealing-bound _ over.0 _ _ _ _ _ (c.in-Ok.ensures.sealed over.0 over.1) in
    omega (arith, bound, ap length c.deref.ensures.value, c.len.ensures, c.in-Ok.sealed.ok.0, c.requires.value)

pub with_before-made-requires-clause-sealed_bound : goal.with_before-made-requires-clause-sealed_bound
with_before-made-requires-clause-sealed_bound g c =
    let over = c.requires.over in
    let bound = sealing-bound _ over.0 _ _ _ _ _ (c.in-Ok.ensures.sealed over.0 over.1) in
    rw c.deref-2.ensures.value (omega (arith, bound, ap length c.deref.ensures.value, c.requires.value, c.requires.place, c.requires.bound))

pub with_before-made-requires-clause-within : goal.with_before-made-requires-clause-within
with_before-made-requires-clause-within g c =
    let over = c.requires.over in
    let bound = sealing-bound _ over.0 _ _ _ _ _ (c.in-Ok.ensures.sealed over.0 over.1) in
    omega (arith, bound, ap length c.deref.ensures.value, c.len.ensures, c.in-Ok.sealed.ok.0, ap length c.deref-2.ensures.value, c.requires.value, c.requires.place)

pub returns-clause-resealed : goal.returns-clause-resealed
returns-clause-resealed g c = λ keys over.
    let sealing = rw c.deref.ensures.value at (c.in-Ok.ensures.sealed keys over) in
    let sealed : List ℕ = c.in-Ok.sealed.items in
    let bytes : List ℕ = c.args.bytes.items in
    let room : List ℕ = c.with_before-made.result.items in
    let payload : ℕ = c.args.key.now.payload in
    let start : ℕ = 4096 + payload - 4 - c.len.result in
    let at : ℕ = 4096 + payload in
    let bound = sealing-bound _ keys _ _ _ _ _ (c.in-Ok.ensures.sealed keys over) in
    let key : length c.deref.result.now ≡ length c.args.key.now.value.items = ap length c.deref.ensures.value in
    let size : c.len.result ≡ length sealed = omega (arith, c.len.ensures, c.in-Ok.sealed.ok.0) in
    let shown : length c.deref-2.result.now ≡ length sealed = ap length c.deref-2.ensures.value in
    let end : start + (4 + length c.deref-2.result.now) ≡ at = omega (arith, bound, key, size, shown, c.requires.value) in
    let front : slice_range room start at ≡ before_payload sealed
    = ap (slice_range room start) (sym end) ∙ c.with_before-made.ensures.before ∙ ap before_payload c.deref-2.ensures.value in
    let behind : drop at room ≡ drop payload (drop 4096 bytes)
    = c.with_before-made.ensures.behind at (omega (arith, end)) ∙ sym (drop-drop payload 4096 bytes) in
    let first : start ≤ at = omega (arith, end) in
    let within : at ≤ length room = omega (arith, c.with_before-made.ensures.size, c.requires.place) in
    let whole : c.part_of.result.items ≡ slice_range room start (length room)
    = c.part_of.ensures ∙ ap (slice_range room start) (omega (arith, c.len-end.ensures, c.with_before-made.result.ok.0)) in
    resealing keys _ _ _ _ _ sealed _ sealing (whole ∙ cut_at room (before_payload sealed) _ start at first within front behind)
