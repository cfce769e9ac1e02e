use Rattle.std.proofs.Common.{ap}
use Rattle.tinkey_session.proofs.AnswerLemmas.{sealed_serves, unsealed}
use Rattle.tinkey_session.specs.declared.reply.Reply.TheVariants as replies
use Rattle.tinkey_session.proofs.answering.seal.Goals as goal

pub returns-in-Ok : goal.returns-in-Ok
returns-in-Ok g c = λ keys over.
    sealed_serves _ keys _ _ _ (replies.Gives c.own.result) _ _ over.fit (c.in-Ok.ensures.sealed keys over) c.in-Ok.ensures.no_fault (ap replies.Gives c.own.ensures)

pub returns-in-Err-EntropyFault : goal.returns-in-Err-EntropyFault
returns-in-Err-EntropyFault g c = λ keys over.
    unsealed _ keys _ _ _ _ over.fit (rw c.in-Err-EntropyFault.field-0-is at (c.in-Err-EntropyFault.ensures.fault keys over))
