use Rattle.siv_daead.proofs.SivLemmas.{length-siv_seal}
use Rattle.siv_daead.proofs.laws.siv_seals_sixteen_more.Goals as goal

pub returns : goal.returns
returns c = length-siv_seal
