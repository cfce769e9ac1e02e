use Rattle.tinkey_actions.proofs.locks.written_under.Goals as goal

pub returns-in-Ok : goal.returns-in-Ok
returns-in-Ok g c = λ w table master is. c.in-Ok.ensures.passes w table master is

pub returns-in-Err : goal.returns-in-Err
returns-in-Err g c = λ w table master is. rw c.unwritten.ensures (c.in-Err.ensures.passes w table master is)
