use Rattle.tinkey_session.proofs.AnswerLemmas.{dopen_served, undrawn}
use Rattle.tinkey_session.proofs.answering.dopen.Goals as goal

pub returns-in-Ok : goal.returns-in-Ok
returns-in-Ok g c = λ e keys over.
    undrawn _ _ keys e (λ random. dopen_served _ keys _ _ _ _ random over.fit (c.in-Ok.ensures.opened keys over) c.opened_reply.ensures)
