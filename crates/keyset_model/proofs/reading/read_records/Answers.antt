use Rattle.std.proofs.Common.{arith}
use Rattle.keyset_model.proofs.ReadingLemmas.{so_far_keeps, so_far_leaves, so_far_passes, so_far_fails}
use Rattle.keyset_model.proofs.reading.read_records.Goals as goal
use Rattle.keyset_model.proofs.reading.read_records.Goals.{in-Some+then-len-lt-KEPT+in_ok-push, in-Some+else-len-lt-KEPT, in_default}

pub returns-in_err-key-clause-fault : goal.returns-in_err-key-clause-fault
returns-in_err-key-clause-fault c = so_far_fails _ _ _ _ _ _ _ c.from_residual.ensures.1 c.loop-i.invariant c.field.ensures c.in_err-key.ensures.fault

pub loop-i-preserved : goal.loop-i-preserved
loop-i-preserved c = elim c.match-branch-2.branch [
  | in-Some+then-len-lt-KEPT+in_ok-push w ↦ rw (w.records-is, w.in_ok-push.ensures.items)
      (so_far_keeps _ _ _ _ _ _ c.loop-i.invariant c.field.ensures (rw w.in-Some.is at c.in_ok-key.ensures.records) (rw w.in-Some.is at c.in_ok-key.ensures.within) (omega arith))
  | in-Some+else-len-lt-KEPT w ↦ rw w.records-is
      (so_far_leaves _ _ _ _ _ _ c.loop-i.invariant c.field.ensures (rw w.in-Some.is at c.in_ok-key.ensures.records) (λ less. omega arith))
  | in_default w ↦ rw w.records-is
      (so_far_passes _ _ _ _ _ c.loop-i.invariant c.field.ensures (rw w.in_default.is at c.in_ok-key.ensures.records))
]
