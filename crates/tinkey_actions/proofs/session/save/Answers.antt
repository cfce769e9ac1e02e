use Rattle.tinkey_actions.proofs.session.save.Goals as goal

pub returns-in-Some : goal.returns-in-Some
returns-in-Some g c = λ w table master is. rw c.in-Some.is (c.save_as.ensures w table master is)
