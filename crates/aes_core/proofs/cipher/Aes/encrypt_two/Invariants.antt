use Rattle.std.proofs.Common.{◌≡◌, ◌*◌, drop, take}
use Rattle.aes_core.specs.Aes.{rounds}
use Rattle.aes_core.specs.AesState.{key_words}
use Rattle.aes_core.specs.Nibbles.{opened}
use Rattle.aes_core.proofs.cipher.Aes.encrypt_two.Given as goal

abbrev pub invariant-loop-group : goal.invariant-loop-group
invariant-loop-group l = record {
  first : opened 0 (take 16 l.states)
      ≡ rounds (key_words l.self-inside.rounds l.first) (take 16 l.fn.blocks) (4 * l.group);
  second : opened 0 (drop 16 l.states)
      ≡ rounds (key_words l.self-inside.rounds l.second) (drop 16 l.fn.blocks) (4 * l.group);
}
