use Rattle.mac_prf.proofs.HmacLemmas.{length-hmac}
use Rattle.mac_prf.proofs.laws.tags_have_their_size.Goals as goal

pub returns : goal.returns
returns c = length-hmac
