use Rattle.std.proofs.Common.{arith}
use Rattle.wrapped_prims.proofs.KeepLemmas.{fault_here, fault_refused, kept_last, kept_more}
use Rattle.wrapped_prims.proofs.handle.fill.Goals as goal

pub loop-i-preserved : goal.loop-i-preserved
loop-i-preserved g c =
    kept_more _ c.args.primitive c.args.keyset.now c.loop-i.i c.record_at.result.now _ _ c.in_ok-slot.slot c.loop-i.invariant c.record_at.ensures.record_there c.in_ok-slot.ensures.keeping c.in_ok-slot.ensures.word c.in_ok-add.ensures

pub returns-in_err-slot-clause-fault : goal.returns-in_err-slot-clause-fault
returns-in_err-slot-clause-fault g c =
    fault_refused _ _ _ c.from_residual.ensures.1
    (fault_here _ c.args.primitive c.args.keyset.now c.loop-i.i c.record_at.result.now c.in_err-slot.field-0.0 c.loop-i.invariant.fit c.record_at.ensures.record_there c.in_err-slot.ensures.keeping)

pub returns-clause-over : goal.returns-clause-over
returns-clause-over g c =
    kept_last _ c.args.primitive c.args.keyset.now _ _ c.requires.faultless (omega (arith, c.len-i-end.ensures.count, c.loop-i-test.false)) c.loop-i.invariant
