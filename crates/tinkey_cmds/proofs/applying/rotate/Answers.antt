-- The refusals before anything is drawn, and the new record behind the others.
use Rattle.std.proofs.Common.{◌∙◌, Ok, Err, sym, ap, subst}
use Rattle.keyset_model.specs.declared.record.Record.{Record}
use Rattle.keyset_model.specs.Changes.{with_primary}
use Rattle.keyset_model.specs.Keyset.{fault_of}
use Rattle.key_msgs.specs.Templates.{seen}
use Rattle.tinkey_cmds.specs.Applying.{Applied}
use Rattle.tinkey_cmds.specs.Edits.{Add, Rotate, added, rotated, step}
use Rattle.tinkey_cmds.proofs.Applications.{applied-refused, applied-grown, applied-accepted, effect-rotate, refusal-rotate, draws-add, draws-rotate, drawn-faultless}
use Rattle.tinkey_cmds.proofs.Wholes.{error-whole}
use Rattle.tinkey_cmds.proofs.applying.rotate.Goals as goal

pub returns-in-Some-clause-step : goal.returns-in-Some-clause-step
returns-in-Some-clause-step g c = applied-refused c.args.keyset.now (Rotate (seen c.args.template.now)) c.in-Some.fault _ (refusal-rotate c.args.keyset.now (seen c.args.template.now) ∙ sym c.full_or_mixed.ensures.fault ∙ c.in-Some.is)

pub returns-in-Err-clause-step : goal.returns-in-Err-clause-step
returns-in-Err-clause-step g c = applied-accepted c.args.keyset.now (Rotate (seen c.args.template.now)) (Err c.in-Err.error) _ _ (refusal-rotate c.args.keyset.now (seen c.args.template.now) ∙ sym c.full_or_mixed.ensures.fault ∙ c.in_default.is)
    (effect-rotate c.args.keyset.now (seen c.args.template.now) (Err c.in-Err.error) _ _ (applied-grown (rotated c.args.keyset.now) (seen c.args.template.now) c.args.keyset.now.records c.in-Err.error _ _ c.in-Err.ensures.drawn))

pub push-requires-clause-faultless : goal.push-requires-clause-faultless
push-requires-clause-faultless g c = drawn-faultless c.args.keyset.now (added c.args.keyset.now c.in-Ok.key) (Add (seen c.args.template.now)) _ _ c.new_record.ensures.known c.full_or_mixed.ensures.faultless (draws-add c.args.keyset.now (seen c.args.template.now) c.in-Ok.key _ _ (sym c.full_or_mixed.ensures.fault ∙ c.in_default.is) c.in-Ok.ensures.drawn.1)

pub set_primary-requires : goal.set_primary-requires
set_primary-requires g c = record {
  faultless = ap (λ k. fault_of (with_primary k c.in-Ok.key.id)) c.in-Ok-push.ensures.pushed
      ∙ drawn-faultless c.args.keyset.now (rotated c.args.keyset.now c.in-Ok.key) (Rotate (seen c.args.template.now)) _ _ c.new_record.ensures.known c.full_or_mixed.ensures.faultless (draws-rotate c.args.keyset.now (seen c.args.template.now) c.in-Ok.key _ _ (sym c.full_or_mixed.ensures.fault ∙ c.in_default.is) c.in-Ok.ensures.drawn.1);
}

pub returns-in-Err-push-clause-step : goal.returns-in-Err-push-clause-step
returns-in-Err-push-clause-step g c = (c.in-Ok.ensures.drawn.0, (Ok (rotated c.args.keyset.now c.in-Ok.key), (draws-rotate c.args.keyset.now (seen c.args.template.now) c.in-Ok.key _ _ (sym c.full_or_mixed.ensures.fault ∙ c.in_default.is) c.in-Ok.ensures.drawn.1)))

pub returns-clause-step : goal.returns-clause-step
returns-clause-step g c = subst (λ k. Applied (Ok k) (step c.args.keyset.now (Rotate (seen c.args.template.now))) (g.E.Entropy.state c.args.entropy.now) (g.E.Entropy.state c.new_record.new.entropy))
    (sym (c.set_primary.ensures ∙ ap (λ k. with_primary k c.in-Ok.key.id) c.in-Ok-push.ensures.pushed))
    (c.in-Ok.ensures.drawn.0, (draws-rotate c.args.keyset.now (seen c.args.template.now) c.in-Ok.key _ _ (sym c.full_or_mixed.ensures.fault ∙ c.in_default.is) c.in-Ok.ensures.drawn.1))

pub returns-in-Err-clause-whole : goal.returns-in-Err-clause-whole
returns-in-Err-clause-whole g c = error-whole Record (Unit {0}) c.in-Err.error _ _ c.in-Err.ensures.whole
