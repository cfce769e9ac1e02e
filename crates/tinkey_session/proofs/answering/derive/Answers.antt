use Rattle.std.proofs.Common.{ap, refl}
use Rattle.tinkey_session.proofs.AnswerLemmas.{derive_served, undrawn}
use Rattle.tinkey_session.specs.declared.reply.LineRefusal.TheVariants.{Refused}
use Rattle.tinkey_session.specs.declared.reply.Refusal.TheVariants as refusals
use Rattle.tinkey_session.specs.declared.reply.Reply.TheVariants as replies
use Rattle.tinkey_session.proofs.answering.derive.Goals as goal

pub returns-in-Ok : goal.returns-in-Ok
returns-in-Ok g c = λ e keys over.
    undrawn _ (replies.Gives c.own.result) keys e (λ random. derive_served _ keys _ _ _ _ random over.fit (c.in-Ok.ensures.derived keys over) (ap replies.Gives c.own.ensures))

pub returns-in-Err-OutputTooLong : goal.returns-in-Err-OutputTooLong
returns-in-Err-OutputTooLong g c = λ e keys over.
    undrawn _ (replies.Refuses (Refused (refusals.OutputTooLong c.args.size c.in-Err-OutputTooLong.greatest))) keys e (λ random. derive_served _ keys _ _ _ _ random over.fit (rw c.in-Err-OutputTooLong.field-0-is at (c.in-Err-OutputTooLong.ensures.fault keys over)) refl)
