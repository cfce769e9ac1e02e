use Rattle.tinkey_actions.proofs.SealerLemmas.{told_first, told_next}
use Rattle.tinkey_actions.proofs.sealers.sealer_under.Goals as goal

pub returns-in-Some : goal.returns-in-Some
returns-in-Some c = told_first _ _ _ _ c.in-Some.ensures

pub returns-in-None : goal.returns-in-None
returns-in-None c = told_next _ _ _ _ c.in-None.ensures c.of_any_status.ensures
