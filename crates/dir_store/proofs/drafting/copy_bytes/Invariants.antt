use Rattle.std.proofs.Common.{IfSome, take}
use Rattle.std.specs.Io.KnownBytes.{Appends}
use Rattle.dir_store.proofs.drafting.copy_bytes.Given as goal

-- the first bytes were copied
abbrev pub invariant-loop : goal.invariant-loop
invariant-loop g l = IfSome (g.F.Write.contents l.from) (λ all. Appends (g.F.Write.contents l.fn.to) (g.F.Write.contents l.to) (take l.at all))
