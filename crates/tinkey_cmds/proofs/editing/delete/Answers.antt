-- Its refusals, in order, and what it does.
use Rattle.std.proofs.Common.{◌∙◌, sym, eq-eqb}
use Rattle.std.proofs.lemmas.Bool.{ne_eqb}
use Rattle.keyset_model.specs.Changes.{without_at}
use Rattle.tinkey_cmds.specs.Edits.{Delete, with_records, without}
use Rattle.tinkey_cmds.proofs.Steps.{step-refused, named-none, named-there, edit-faultless, edit-answer, effect-delete, delete-missing, delete-primary, delete-accepted, key-removed}
use Rattle.tinkey_cmds.proofs.editing.delete.Goals as goal

pub returns-in-None-clause-step : goal.returns-in-None-clause-step
returns-in-None-clause-step c = step-refused c.args.keyset.now (Delete c.args.id) _ (delete-missing c.args.keyset.now c.args.id (named-none c.args.keyset.now c.args.id c.in-None.ensures.place))

pub returns-then-id-primary-clause-step : goal.returns-then-id-primary-clause-step
returns-then-id-primary-clause-step c = let there = (named-there c.args.keyset.now c.args.id _ c.in-Some.ensures.place c.in-Some.ensures.within) in
    step-refused c.args.keyset.now (Delete c.args.id) _ (delete-primary c.args.keyset.now c.args.id there.0 there.1 (eq-eqb c.args.id c.args.keyset.now.primary (c.if-id-primary.true ∙ c.primary.ensures)))

pub remove-requires-clause-faultless : goal.remove-requires-clause-faultless
remove-requires-clause-faultless c = edit-faultless c.args.keyset.now (with_records c.args.keyset.now (without c.args.id c.args.keyset.now.records)) (without_at c.args.keyset.now c.in-Some.place) (Delete c.args.id) tt c.in-Some.ensures.faultless
    ((let there = (named-there c.args.keyset.now c.args.id _ c.in-Some.ensures.place c.in-Some.ensures.within) in delete-accepted c.args.keyset.now c.args.id there.0 there.1 (ne_eqb c.args.id c.args.keyset.now.primary (λ same. c.if-id-primary.false (same ∙ sym c.primary.ensures)))))
    (effect-delete c.args.keyset.now c.args.id) (key-removed c.args.keyset.now c.args.id c.in-Some.place c.in-Some.ensures.within c.in-Some.ensures.place)

pub returns-clause-step : goal.returns-clause-step
returns-clause-step c = edit-answer c.args.keyset.now (with_records c.args.keyset.now (without c.args.id c.args.keyset.now.records)) _ (Delete c.args.id)
    ((let there = (named-there c.args.keyset.now c.args.id _ c.in-Some.ensures.place c.in-Some.ensures.within) in delete-accepted c.args.keyset.now c.args.id there.0 there.1 (ne_eqb c.args.id c.args.keyset.now.primary (λ same. c.if-id-primary.false (same ∙ sym c.primary.ensures)))))
    (effect-delete c.args.keyset.now c.args.id) (c.remove.ensures ∙ (key-removed c.args.keyset.now c.args.id c.in-Some.place c.in-Some.ensures.within c.in-Some.ensures.place))
