use Rattle.std.specs.Io.KnownBytes.{Keeps}
use Rattle.real_objects.proofs.streams.read_through_signals.Given as goal

-- what was interrupted moved nothing
abbrev pub invariant-loop : goal.invariant-loop
invariant-loop g l = Keeps (g.R.Read.remaining l.initial.stream) (g.R.Read.remaining l.stream)
