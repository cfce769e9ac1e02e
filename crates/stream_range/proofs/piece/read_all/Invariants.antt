use Rattle.std.proofs.Common.{◌-◌, ◌≤◌, ◌≡◌, length}
use Rattle.stream_range.specs.Reading.{ReadSoFar}
use Rattle.stream_range.proofs.piece.read_all.Given as goal

abbrev pub invariant-loop-done : goal.invariant-loop-done
invariant-loop-done g l = record {
  bound : l.done ≤ length l.out;
  lent : g.V.Device.lent l.device ≡ g.V.Device.lent l.fn.device;
  reads : ReadSoFar (g.V.Device.state l.fn.device) (g.V.Device.state l.device) l.at l.out l.done;
}

abbrev pub decreases-loop-done : goal.decreases-loop-done
decreases-loop-done g l = length l.out - l.done
