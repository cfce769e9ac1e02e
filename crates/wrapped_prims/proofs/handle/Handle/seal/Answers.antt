use Rattle.wrapped_prims.proofs.SealLemmas.{unsealed}
use Rattle.wrapped_prims.proofs.handle.Handle.seal.Goals as goal

pub returns-in-Err-clause-fault : goal.returns-in-Err-clause-fault
returns-in-Err-clause-fault g c = λ keys over. unsealed _ keys _ _ over
