use Rattle.std.proofs.Common.{◌≡◌, ◌*◌, take, length, true}
use Rattle.hex_lanes.specs.Digits.{all_digits, joined, values}
use Rattle.hex_lanes.proofs.decoding.decode_into.Given as goal

abbrev pub invariant-loop-i : goal.invariant-loop-i
invariant-loop-i l = record {
  long : length l.bytes ≡ length l.initial.bytes;
  digits : all_digits (take (32 * l.i) l.text) ≡ true;
  decoded : take (16 * l.i) l.bytes ≡ joined (values (take (32 * l.i) l.text));
}
