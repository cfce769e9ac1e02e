use Rattle.std.proofs.Common.{◌≡◌, ◌*◌, length, take}
use Rattle.hex.specs.Hex.{encode_lower}
use Rattle.hex_lanes.proofs.encoding.encode_into.Given as goal

abbrev pub invariant-loop-i : goal.invariant-loop-i
invariant-loop-i l = record {
  long : length l.digits ≡ length l.initial.digits;
  encoded : take (32 * l.i) l.digits ≡ encode_lower (take (16 * l.i) l.bytes);
}
