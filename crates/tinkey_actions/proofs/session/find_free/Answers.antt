use Rattle.tinkey_plans.specs.Ends.{look_free}
use Rattle.tinkey_actions.proofs.GivenLemmas.{gave_none}
use Rattle.tinkey_actions.proofs.session.find_free.Goals as goal

pub returns-in-Ok-false : goal.returns-in-Ok-false
returns-in-Ok-false g c = λ w next s last run.
    let e = c.in-Ok-false.ensures in
    rw c.in-Some.is (look_free (g.D.Store.state c.is_taken.new.self) e.kept e.no_fault (gave_none (g.D.Store.state c.args.store.now) (g.D.Store.state c.is_taken.new.self) e.given) (rw c.in-Ok-false.field-0-test at e.tells) run)
