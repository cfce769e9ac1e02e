use Rattle.managers.proofs.SizeLemmas.{dseal_facts}
use Rattle.managers.proofs.laws.dopens_sealings.Goals as goal

pub returns : goal.returns
returns c = λ key. (dseal_facts key).opens c.siv_opens_sealings.ensures
