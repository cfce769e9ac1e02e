use Rattle.tinkey_session.proofs.AnswerLemmas.{open_served, undrawn}
use Rattle.tinkey_session.proofs.answering.open.Goals as goal

pub returns-in-Ok : goal.returns-in-Ok
returns-in-Ok g c = λ e keys over.
    undrawn _ _ keys e (λ random. open_served _ keys _ _ _ _ random over.fit (c.in-Ok.ensures.opened keys over) c.opened_reply.ensures)
