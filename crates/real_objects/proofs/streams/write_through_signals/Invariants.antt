use Rattle.std.specs.Io.KnownBytes.{Keeps}
use Rattle.real_objects.proofs.streams.write_through_signals.Given as goal

-- what was interrupted moved nothing
abbrev pub invariant-loop : goal.invariant-loop
invariant-loop g l = Keeps (g.W.Write.contents l.initial.stream) (g.W.Write.contents l.stream)
