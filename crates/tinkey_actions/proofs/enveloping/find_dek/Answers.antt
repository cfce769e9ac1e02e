use Rattle.std.proofs.Common.{◌≡◌, refl}
use Rattle.key_msgs.specs.KeyTypes.{primitive_of_type}
use Rattle.key_msgs.specs.Templates.{Row, seen, type_made}
use Rattle.key_msgs.specs.declared.primitive.Primitive.{Primitive}
use Rattle.key_msgs.specs.declared.primitive.Primitive.TheVariants.{Aead, Daead, Mac, Prf, Stream}
use Rattle.tinkey_plans.proofs.StepLemmas.{handed_on, template_passes}
use Rattle.tinkey_plans.specs.Ends.{Ends, World}
use Rattle.tinkey_plans.specs.Envelopes.{finds_dek, with_aead}
use Rattle.tinkey_plans.specs.Plan.{Plan}
use Rattle.tinkey_plans.specs.declared.status.Status.TheVariants as status
use Rattle.tinkey_actions.proofs.enveloping.find_dek.Goals as goal

-- the rest behind the template
abbrev dek_then : (Row → Plan) → Row → Plan
dek_then next row = with_aead (primitive_of_type (type_made row)) (next row)

not_aead : (p : Primitive) (next : Plan) (w : World) → (p ≡ Aead → ⊥) → Ends (with_aead p next) w status.DekTemplate w
not_aead Aead next w other = absurd (other refl)
not_aead Daead next w other = (refl, refl)
not_aead Mac next w other = (refl, refl)
not_aead Prf next w other = (refl, refl)
not_aead Stream next w other = (refl, refl)

pub returns-in_err-template-clause-passes : goal.returns-in_err-template-clause-passes
returns-in_err-template-clause-passes c = λ w.
    handed_on seen (finds_dek c.args.name.now) w w _ _ c.from_residual.ensures.1 (λ next. (rw c.in_err-template.ensures at (template_passes c.args.name.now w)) (dek_then next))

pub returns-in-Aead-clause-passes : goal.returns-in-Aead-clause-passes
returns-in-Aead-clause-passes c = λ w next s last run.
    (rw c.in_ok-template.ensures at (template_passes c.args.name.now w)) (dek_then next) s last (rw (← c.in-Aead.ensures) run)

pub returns-in_default-clause-passes : goal.returns-in_default-clause-passes
returns-in_default-clause-passes c = λ w next.
    (rw c.in_ok-template.ensures at (template_passes c.args.name.now w)) (dek_then next) _ w (rw (← c.primitive.ensures) (not_aead c.primitive.result (next (seen c.in_ok-template.template)) w c.in_default.not-Aead))
