use Rattle.envelopes.proofs.OpenedInPlace.{rest_whole}
use Rattle.tinkey_actions.proofs.enveloping.sealer_behind_room.Goals as goal

pub returns : goal.returns
returns c = rw (rest_whole 4096 c.args.input.now) at c.envelope_sealer_of.ensures
