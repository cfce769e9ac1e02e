use Rattle.std.proofs.Common.{arith}
use Rattle.std.proofs.lemmas.Grind.{common_steps}
use Rattle.tink_base.proofs.Fronts.{gave_front}
use Rattle.tink_base.proofs.memory.MemSourceSource.read.Goals as goal

pub returns-clause-gives : goal.returns-clause-gives
returns-clause-gives c =
    rw (← c.self.view_is)
    (gave_front c.self.inside.bytes.items c.copy_from_slice.new.self _ c.self.inside.at c.min-n.result c.self.inside.faults _ _ _ _
    (grind (arith, common_steps, c.copy_from_slice.ensures.len))
    (grind (arith, common_steps, c.copy_from_slice.ensures.after)))
