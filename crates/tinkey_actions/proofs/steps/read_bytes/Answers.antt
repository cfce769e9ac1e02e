use Rattle.tinkey_plans.specs.Ends.{read}
use Rattle.tinkey_actions.proofs.steps.read_bytes.Goals as goal

pub returns-in-Ok-clause-passes : goal.returns-in-Ok-clause-passes
returns-in-Ok-clause-passes g c = λ w next s last run.
    let e = c.in-Ok.ensures in
    read c.in-Ok.bytes.items (g.S.Source.state c.read_all.new.source) e.all (e.no_fault (λ h. cc)) e.within e.end (rw c.own.ensures at run)
