use Rattle.std.proofs.Common.{◌∙◌, sym, true, false}
use Rattle.tinkey_session.proofs.AnswerLemmas.{undrawn, verify_served}
use Rattle.tinkey_session.specs.declared.reply.LineRefusal.TheVariants.{Refused}
use Rattle.tinkey_session.specs.declared.reply.Refusal.TheVariants as refusals
use Rattle.tinkey_session.specs.declared.reply.Reply.TheVariants as replies
use Rattle.tinkey_session.proofs.answering.verify.Goals as goal

pub returns-then-verify : goal.returns-then-verify
returns-then-verify g c = λ e keys over.
    undrawn _ replies.Done keys e (λ random. verify_served _ keys _ _ true random over.fit (sym c.if-verify.true ∙ c.verify.ensures.verified keys over))

pub returns-else-verify : goal.returns-else-verify
returns-else-verify g c = λ e keys over.
    undrawn _ (replies.Refuses (Refused refusals.VerifyFailed)) keys e (λ random. verify_served _ keys _ _ false random over.fit (sym c.if-verify.false ∙ c.verify.ensures.verified keys over))
