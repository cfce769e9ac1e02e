use Rattle.std.proofs.Common.{◌≡◌, ◌∙◌, ap, refl, subst, sym, List, ℕ, Option, Some, None}
use Rattle.std.specs.Prelude.{filter, option_map, slice_get}
use Rattle.keyset_model.specs.Keyset.{is_enabled}
use Rattle.tinkey_plans.specs.KeyOf.{key_line, with_lines}
use Rattle.tinkey_plans.specs.Steps.{Passes}
use Rattle.tinkey_actions.proofs.stream_key.enabled_line.Goals as goal

pub returns-in-Some : goal.returns-in-Some
returns-in-Some c = λ w.
    let line : option_map key_line (slice_get (filter is_enabled c.args.keyset.now.records) c.args.place) ≡ Some (key_line c.record_at.result.now)
    = ap (option_map key_line) (sym c.in-Some.ensures.there ∙ c.record_at.ensures.record_there) in
    subst (λ (o : Option (List ℕ)). Passes (with_lines o) w c.key_text.result w) (sym line) (c.key_text.ensures w)

pub returns-in-None : goal.returns-in-None
returns-in-None c = λ w next. rw c.in-None.ensures.there (refl, refl)
