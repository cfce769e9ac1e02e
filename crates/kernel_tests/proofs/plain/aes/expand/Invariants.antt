use Rattle.std.proofs.Common.{◌≡◌, length, take}
use Rattle.aes_core.specs.Aes.{expanded_words}
use Rattle.kernel_tests.proofs.plain.aes.expand.Given as goal

abbrev pub invariant-loop-i : goal.invariant-loop-i
invariant-loop-i l = record {
  whole : length l.words ≡ 60;
  front : take l.i l.words ≡ expanded_words l.key l.i;
}
