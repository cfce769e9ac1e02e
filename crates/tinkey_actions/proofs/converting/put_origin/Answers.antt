use Rattle.tinkey_actions.proofs.LockLemmas.{put_behind_none, put_behind_some}
use Rattle.tinkey_actions.proofs.converting.put_origin.Goals as goal

pub returns-in-Some : goal.returns-in-Some
returns-in-Some g c = λ table taken is. put_behind_some _ table taken (rw c.in-Some.is at is)

pub returns-in-None : goal.returns-in-None
returns-in-None g c = λ table taken is. put_behind_none table taken (rw c.in-None.is at is)
