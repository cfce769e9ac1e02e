use Rattle.tinkey_actions.proofs.SealerLemmas.{told_found, told_other}
use Rattle.tinkey_actions.proofs.sealers.of_any_status.Goals as goal

pub returns-in-Some : goal.returns-in-Some
returns-in-Some c = told_found _ _ _ c.in-Some.ensures

pub returns-in-None : goal.returns-in-None
returns-in-None c = told_other _ _ _ c.in-None.ensures c.told_none.ensures
