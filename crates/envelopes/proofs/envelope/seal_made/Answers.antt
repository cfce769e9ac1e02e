use Rattle.std.proofs.Common.{◌≡◌, ◌∙◌, ◌≤◌, ◌+◌, ◌-◌, List, ℕ, ap, arith, drop, length, length-take-le, sym, take}
use Rattle.std.specs.Prelude.{slice_range}
use Rattle.std.proofs.lemmas.Result.{err_from_is_err_and}
use Rattle.std.proofs.lemmas.Slice.{between_is}
use Rattle.managers.proofs.SizeLemmas.{iv-short}
use Rattle.managers.specs.Uses.{iv_size}
use Rattle.envelopes.proofs.EnvelopeLemmas.{behind_sealing, cut_sealing, enveloping, failed_sealing, fault_payload, stood_sealing}
use Rattle.envelopes.specs.Enveloped.{before_payload}
use Rattle.seal_wrap.proofs.WrapLemmas.{sealing-short}
use Rattle.envelopes.proofs.envelope.seal_made.Goals as goal

pub returns-in-Err-EntropyFault-clause-fault : goal.returns-in-Err-EntropyFault-clause-fault
returns-in-Err-EntropyFault-clause-fault g c = λ keys over row before made.
    failed_sealing keys _ _ row before _ _ _ _ made (rw c.in-Err-EntropyFault.field-0-is at (c.in-Err-EntropyFault.ensures.fault keys over))

pub returns-in-Err-NoMemory-clause-fault : goal.returns-in-Err-NoMemory-clause-fault
returns-in-Err-NoMemory-clause-fault g c = λ keys over row before made.
    stood_sealing keys _ _ row before _ _ _ _ made (rw c.in-Err-NoMemory.field-0-is at (c.in-Err-NoMemory.ensures.fault keys over))

pub returns-in_err-bytes-clause-fault : goal.returns-in_err-bytes-clause-fault
returns-in_err-bytes-clause-fault g c = λ keys over row before made.
    let sealing = rw c.deref.ensures.value at (c.in-Ok.ensures.sealed keys over) in
    let p = err_from_is_err_and c.from_residual.result c.from_residual.ensures.1 in
    rw (p.1, p.2)
    (fault_payload keys _ _ row _ _ before _ _ _ _ (behind_sealing keys _ _ row before _ _ _ _ _ made sealing c.in-Ok.ensures.no_fault) c.in_err-bytes.ensures.fault)

pub overflow_sub-start-2 : goal.overflow_sub-start-2
overflow_sub-start-2 g c =
    let over = c.requires.over in
    let bound = sealing-short _ over.0 _ _ _ _ _ _ (c.in-Ok.ensures.sealed over.0 over.1) c.deref.ensures.value c.requires.value_bound in
    let short = iv-short c.args.made.now.key c.requires.admitted.1 in
    omega (arith, c.len.ensures, c.in-Ok.sealed.ok.0, c.iv_size-at.ensures)

pub with_before-bytes-requires-clause-sealed_bound : goal.with_before-bytes-requires-clause-sealed_bound
with_before-bytes-requires-clause-sealed_bound g c =
    let over = c.requires.over in
    let bound = sealing-short _ over.0 _ _ _ _ _ _ (c.in-Ok.ensures.sealed over.0 over.1) c.deref.ensures.value c.requires.value_bound in
    rw c.deref-2.ensures.value (omega arith)

pub with_before-bytes-requires-clause-within : goal.with_before-bytes-requires-clause-within
with_before-bytes-requires-clause-within g c =
    let over = c.requires.over in
    let bound = sealing-short _ over.0 _ _ _ _ _ _ (c.in-Ok.ensures.sealed over.0 over.1) c.deref.ensures.value c.requires.value_bound in
    let short = iv-short c.args.made.now.key c.requires.admitted.1 in
    omega (arith, c.len.ensures, c.in-Ok.sealed.ok.0, c.iv_size-at.ensures, ap length c.deref-2.ensures.value, c.requires.room)

pub returns-clause-sealed : goal.returns-clause-sealed
returns-clause-sealed g c = λ keys over row before made.
    let sealing = rw c.deref.ensures.value at (c.in-Ok.ensures.sealed keys over) in
    let key = c.args.made.now.key in
    let sealed : List ℕ = c.in-Ok.sealed.items in
    let room : List ℕ = c.with_before-bytes.result.items in
    let at = 4096 - c.iv_size-at.result in
    let start = at - 4 - c.len.result in
    let bound : length sealed ≤ 1085 = sealing-short _ keys _ _ _ _ _ _ (c.in-Ok.ensures.sealed keys over) c.deref.ensures.value c.requires.value_bound in
    let short : iv_size key ≤ 16 = iv-short key c.requires.admitted.1 in
    let size : c.len.result ≡ length sealed = omega (arith, c.len.ensures, c.in-Ok.sealed.ok.0) in
    let shown : length c.deref-2.result.now ≡ length sealed = ap length c.deref-2.ensures.value in
    let iv : c.iv_size-at.result ≡ iv_size key = c.iv_size-at.ensures in
    let all : at + iv_size key ≡ 4096 = omega arith in
    let within : at ≤ length room = omega (arith, c.with_before-bytes.ensures.size, c.requires.room) in
    let front : drop start (take at room) ≡ before_payload sealed
    = sym (between_is room start at) ∙ ap (slice_range room start) (omega arith)
    ∙ c.with_before-bytes.ensures.before ∙ ap before_payload c.deref-2.ensures.value in
    let plain : drop (at + iv_size key) room ≡ drop 4096 c.args.bytes.items
    = c.with_before-bytes.ensures.behind (at + iv_size key) (omega arith)
    ∙ ap (λ (n : ℕ). drop n c.args.bytes.items) all in
    let behind = rw plain at c.in_ok-bytes.ensures.sealed in
    let first : start ≤ length (take at room) = omega (arith, length-take-le at room within) in
    let cut = cut_sealing _ _ _ _ _ _ c.in_ok-bytes.bytes.items start first behind in
    let whole : c.part_of.result.items ≡ slice_range c.in_ok-bytes.bytes.items start (length c.in_ok-bytes.bytes.items)
    = c.part_of.ensures ∙ ap (slice_range c.in_ok-bytes.bytes.items start) (omega (arith, c.len-end.ensures, c.in_ok-bytes.bytes.ok.0)) in
    rw whole (enveloping keys _ _ row _ _ before _ _ _ _ _ _ _ _ made sealing front cut)
