-- Its refusals, in order, and what it does.
use Rattle.std.proofs.Common.{◌∙◌, sym, eq-eqb}
use Rattle.std.proofs.lemmas.Bool.{ne_eqb}
use Rattle.keyset_model.specs.Changes.{destroyed_at}
use Rattle.tinkey_cmds.specs.Edits.{Destroy, with_records, destroyed, changed}
use Rattle.tinkey_cmds.proofs.Steps.{step-refused, named-none, named-there, edit-faultless, edit-answer, effect-destroy, destroy-missing, destroy-primary, destroy-accepted, key-destroyed}
use Rattle.tinkey_cmds.proofs.editing.destroy.Goals as goal

pub returns-in-None-clause-step : goal.returns-in-None-clause-step
returns-in-None-clause-step c = step-refused c.args.keyset.now (Destroy c.args.id) _ (destroy-missing c.args.keyset.now c.args.id (named-none c.args.keyset.now c.args.id c.in-None.ensures.place))

pub returns-then-id-primary-clause-step : goal.returns-then-id-primary-clause-step
returns-then-id-primary-clause-step c = let there = (named-there c.args.keyset.now c.args.id _ c.in-Some.ensures.place c.in-Some.ensures.within) in
    step-refused c.args.keyset.now (Destroy c.args.id) _ (destroy-primary c.args.keyset.now c.args.id there.0 there.1 (eq-eqb c.args.id c.args.keyset.now.primary (c.if-id-primary.true ∙ c.primary.ensures)))

pub destroy-requires-clause-faultless : goal.destroy-requires-clause-faultless
destroy-requires-clause-faultless c = edit-faultless c.args.keyset.now (with_records c.args.keyset.now (changed destroyed c.args.id c.args.keyset.now.records)) (destroyed_at c.args.keyset.now c.in-Some.place) (Destroy c.args.id) tt c.in-Some.ensures.faultless
    ((let there = (named-there c.args.keyset.now c.args.id _ c.in-Some.ensures.place c.in-Some.ensures.within) in destroy-accepted c.args.keyset.now c.args.id there.0 there.1 (ne_eqb c.args.id c.args.keyset.now.primary (λ same. c.if-id-primary.false (same ∙ sym c.primary.ensures)))))
    (effect-destroy c.args.keyset.now c.args.id) (key-destroyed c.args.keyset.now c.args.id c.in-Some.place c.in-Some.ensures.within c.in-Some.ensures.place)

pub returns-clause-step : goal.returns-clause-step
returns-clause-step c = edit-answer c.args.keyset.now (with_records c.args.keyset.now (changed destroyed c.args.id c.args.keyset.now.records)) _ (Destroy c.args.id)
    ((let there = (named-there c.args.keyset.now c.args.id _ c.in-Some.ensures.place c.in-Some.ensures.within) in destroy-accepted c.args.keyset.now c.args.id there.0 there.1 (ne_eqb c.args.id c.args.keyset.now.primary (λ same. c.if-id-primary.false (same ∙ sym c.primary.ensures)))))
    (effect-destroy c.args.keyset.now c.args.id) (c.destroy.ensures ∙ (key-destroyed c.args.keyset.now c.args.id c.in-Some.place c.in-Some.ensures.within c.in-Some.ensures.place))
