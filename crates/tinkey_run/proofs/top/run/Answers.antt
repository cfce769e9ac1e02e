use Rattle.std.proofs.Common.{inl}
use Rattle.tinkey_plans.proofs.PromiseLemmas.{promised}
use Rattle.tinkey_run.proofs.top.run.Goals as goal

pub returns-clause-promised : goal.returns-clause-promised
returns-clause-promised g c = promised _ _ _ _ c.do_words-status.ensures

pub returns-clause-readable : goal.returns-clause-readable
returns-clause-readable g c = c.sessions_are_readable.ensures.ended _ _ _ _ _ (inl c.do_words-status.ensures)
