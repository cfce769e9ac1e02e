use Rattle.tinkey_plans.specs.Ends.{loaded}
use Rattle.tinkey_actions.proofs.GivenLemmas.{gave_some}
use Rattle.tinkey_actions.proofs.steps.load_bytes.Goals as goal

pub returns-in-Bytes-clause-passes : goal.returns-in-Bytes-clause-passes
returns-in-Bytes-clause-passes g c = λ w next s last run.
    let e = c.in-Ok.ensures in
    let found = rw c.in-Bytes.is at e.loads in
    loaded c.in-Bytes.bytes (g.D.Store.state c.load.new.self) e.kept (e.no_fault (λ h. cc)) (gave_some (g.D.Store.state c.args.store.now) (g.D.Store.state c.load.new.self) _ (rw c.in-Bytes.is at e.given)) found.0 found.1 run
