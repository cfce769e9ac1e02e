use Rattle.tinkey_host.proofs.StartLemmas.{readable_start, started, starved}
use Rattle.tinkey_host.proofs.standard.start.Goals as goal

pub returns-in-Ok-clause-promised : goal.returns-in-Ok-clause-promised
returns-in-Ok-clause-promised g c = started _ _ _ _ c.in-Ok.ensures.0

pub returns-in-Ok-clause-readable : goal.returns-in-Ok-clause-readable
returns-in-Ok-clause-readable g c = readable_start c.sessions_are_readable.ensures.ended _ _ _ _ (started _ _ _ _ c.in-Ok.ensures.0)

pub returns-in-Err-clause-promised : goal.returns-in-Err-clause-promised
returns-in-Err-clause-promised g c = starved _ _ _ _ c.starve.ensures.status c.in-Err.ensures.0

pub returns-in-Err-clause-readable : goal.returns-in-Err-clause-readable
returns-in-Err-clause-readable g c = readable_start c.sessions_are_readable.ensures.ended _ _ _ _ (starved _ _ _ _ c.starve.ensures.status c.in-Err.ensures.0)
