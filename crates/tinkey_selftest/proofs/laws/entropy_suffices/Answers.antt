use Rattle.tinkey_selftest.proofs.EntropyLemmas.{entropy_suffices}
use Rattle.tinkey_selftest.proofs.laws.entropy_suffices.Goals as goal

pub returns : goal.returns
returns c = entropy_suffices c.lines_draw_few.ensures.lines c.lines_draw_few.ensures.firsts c.edited_kept.ensures.keysets c.sound_kept.ensures.firsts
