use Rattle.std.proofs.Common.{ap}
use Rattle.tinkey_session.proofs.AnswerLemmas.{tag_served, undrawn}
use Rattle.tinkey_session.specs.declared.reply.Reply.TheVariants as replies
use Rattle.tinkey_session.proofs.answering.tag.Goals as goal

pub returns-in-Ok : goal.returns-in-Ok
returns-in-Ok g c = λ e keys over.
    undrawn _ (replies.Gives c.own.result) keys e (λ random. tag_served _ keys _ _ _ random over.fit (c.in-Ok.ensures keys over) (ap replies.Gives c.own.ensures))
