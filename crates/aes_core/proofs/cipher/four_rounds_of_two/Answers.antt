use Rattle.std.proofs.Common.{refl}
use Rattle.aes_core.specs.Nibbles.{four_turns}
use Rattle.aes_core.proofs.cipher.four_rounds_of_two.Goals as goal

pub returns-clause-first : goal.returns-clause-first
unfolding four_turns
returns-clause-first c =
    rw (
      c.round4.ensures.first,
      c.round3-states.ensures.first,
      c.round2-states.ensures.first,
      c.round1-states.ensures.first,
      c.two_keys.ensures.first,
      c.two_keys-2.ensures.first,
      c.two_keys-3.ensures.first,
      c.two_keys-4.ensures.first,
    )
    refl

pub returns-clause-second : goal.returns-clause-second
unfolding four_turns
returns-clause-second c =
    rw (
      c.round4.ensures.second,
      c.round3-states.ensures.second,
      c.round2-states.ensures.second,
      c.round1-states.ensures.second,
      c.two_keys.ensures.second,
      c.two_keys-2.ensures.second,
      c.two_keys-3.ensures.second,
      c.two_keys-4.ensures.second,
    )
    refl
