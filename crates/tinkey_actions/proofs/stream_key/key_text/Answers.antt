use Rattle.std.proofs.Common.{◌≡◌, ◌∙◌, ap, subst, sym, List, ℕ, Ok}
use Rattle.std.specs.Prelude.{Result}
use Rattle.tinkey_plans.proofs.StepLemmas.{worked_out}
use Rattle.tinkey_plans.specs.KeyOf.{key_line}
use Rattle.tinkey_plans.specs.Steps.{Passes, works_out}
use Rattle.tinkey_actions.proofs.stream_key.key_text.Goals as goal

pub returns : goal.returns
returns c = λ w.
    let line : c.own.result ≡ key_line c.args.key.now = cc (c.own.ensures, c.in_ok-push_key.ensures, c.new-text.ensures.items) in
    subst (λ (l : List ℕ). Passes (works_out (key_line c.args.key.now)) w (Ok l) w) (sym line) (worked_out (key_line c.args.key.now) w)
