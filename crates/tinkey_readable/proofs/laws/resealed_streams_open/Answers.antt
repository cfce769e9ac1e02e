use Rattle.tinkey_readable.proofs.ResealedStreamLemmas.{resealed_streams_open}
use Rattle.tinkey_readable.proofs.laws.resealed_streams_open.Goals as goal

pub returns : goal.returns
returns c = resealed_streams_open c.stream_back.ensures c.resealed_back.ensures c.read_keysets_fit.ensures
