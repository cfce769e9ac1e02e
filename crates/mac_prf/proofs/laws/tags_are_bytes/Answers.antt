use Rattle.mac_prf.proofs.ByteLemmas.{bytes-hmac}
use Rattle.mac_prf.proofs.laws.tags_are_bytes.Goals as goal

pub returns : goal.returns
returns c = bytes-hmac
