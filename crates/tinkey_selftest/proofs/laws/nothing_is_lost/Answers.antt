use Rattle.tinkey_selftest.proofs.LostLemmas.{nothing_is_lost}
use Rattle.tinkey_selftest.proofs.laws.nothing_is_lost.Goals as goal

pub returns : goal.returns
returns c = nothing_is_lost c.lines_open_present.ensures c.edited_kept.ensures.keysets c.sound_kept.ensures.firsts
