-- The refusals before anything is drawn, and the new record behind the others.
use Rattle.std.proofs.Common.{◌∙◌, Ok, Err, sym, subst}
use Rattle.keyset_model.specs.declared.record.Record.{Record}
use Rattle.key_msgs.specs.Templates.{seen}
use Rattle.tinkey_cmds.specs.Applying.{Applied}
use Rattle.tinkey_cmds.specs.Edits.{Add, added, step}
use Rattle.tinkey_cmds.proofs.Applications.{applied-refused, applied-grown, applied-accepted, effect-add, refusal-add, draws-add, drawn-faultless}
use Rattle.tinkey_cmds.proofs.Wholes.{error-whole}
use Rattle.tinkey_cmds.proofs.applying.add.Goals as goal

pub returns-in-Some-clause-step : goal.returns-in-Some-clause-step
returns-in-Some-clause-step g c = applied-refused c.args.keyset.now (Add (seen c.args.template.now)) c.in-Some.fault _ (refusal-add c.args.keyset.now (seen c.args.template.now) ∙ sym c.full_or_mixed.ensures.fault ∙ c.in-Some.is)

pub returns-in-Err-clause-step : goal.returns-in-Err-clause-step
returns-in-Err-clause-step g c = applied-accepted c.args.keyset.now (Add (seen c.args.template.now)) (Err c.in-Err.error) _ _ (refusal-add c.args.keyset.now (seen c.args.template.now) ∙ sym c.full_or_mixed.ensures.fault ∙ c.in_default.is)
    (effect-add c.args.keyset.now (seen c.args.template.now) (Err c.in-Err.error) _ _ (applied-grown (added c.args.keyset.now) (seen c.args.template.now) c.args.keyset.now.records c.in-Err.error _ _ c.in-Err.ensures.drawn))

pub push-requires-clause-faultless : goal.push-requires-clause-faultless
push-requires-clause-faultless g c = drawn-faultless c.args.keyset.now (added c.args.keyset.now c.in-Ok.key) (Add (seen c.args.template.now)) _ _ c.new_record.ensures.known c.full_or_mixed.ensures.faultless (draws-add c.args.keyset.now (seen c.args.template.now) c.in-Ok.key _ _ (sym c.full_or_mixed.ensures.fault ∙ c.in_default.is) c.in-Ok.ensures.drawn.1)

pub returns-in-Err-push-clause-step : goal.returns-in-Err-push-clause-step
returns-in-Err-push-clause-step g c = (c.in-Ok.ensures.drawn.0, (Ok (added c.args.keyset.now c.in-Ok.key), (draws-add c.args.keyset.now (seen c.args.template.now) c.in-Ok.key _ _ (sym c.full_or_mixed.ensures.fault ∙ c.in_default.is) c.in-Ok.ensures.drawn.1)))

pub returns-in-Ok-push-clause-step : goal.returns-in-Ok-push-clause-step
returns-in-Ok-push-clause-step g c = subst (λ k. Applied (Ok k) (step c.args.keyset.now (Add (seen c.args.template.now))) (g.E.Entropy.state c.args.entropy.now) (g.E.Entropy.state c.new_record.new.entropy))
    (sym c.in-Ok-push.ensures.pushed)
    (c.in-Ok.ensures.drawn.0, (draws-add c.args.keyset.now (seen c.args.template.now) c.in-Ok.key _ _ (sym c.full_or_mixed.ensures.fault ∙ c.in_default.is) c.in-Ok.ensures.drawn.1))

pub returns-in-Err-clause-whole : goal.returns-in-Err-clause-whole
returns-in-Err-clause-whole g c = error-whole Record (Unit {0}) c.in-Err.error _ _ c.in-Err.ensures.whole
