use Rattle.std.proofs.Common.{ℕ, arith, drop}
use Rattle.std.proofs.lemmas.List.{length-drop}
use Rattle.tinkey_plans.specs.Ends.{read}
use Rattle.tinkey_actions.proofs.steps.read_input_behind.Goals as goal

pub returns-in-Ok-clause-passes : goal.returns-in-Ok-clause-passes
returns-in-Ok-clause-passes g c = λ w next s last run.
    let e = c.in-Ok.ensures in
    read (drop c.args.room c.in-Ok.input.items) (g.S.Source.state c.read_behind.new.source) e.all (e.no_fault (λ h. cc)) (omega (arith, length-drop {A = ℕ}, e.within)) e.end run
