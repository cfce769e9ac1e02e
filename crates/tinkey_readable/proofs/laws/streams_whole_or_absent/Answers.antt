use Rattle.tinkey_readable.proofs.StreamFileLemmas.{streams_whole_or_absent}
use Rattle.tinkey_readable.proofs.laws.streams_whole_or_absent.Goals as goal

pub returns : goal.returns
returns c = streams_whole_or_absent c.commands_are_whole.ensures c.streams_done.ensures
