-- Its refusals, in order, and what it does.
use Rattle.std.proofs.Common.{◌∙◌, sym, eq-eqb}
use Rattle.std.proofs.lemmas.Bool.{ne_eqb}
use Rattle.keyset_model.specs.Changes.{with_status_at}
use Rattle.tinkey_cmds.specs.Edits.{Disable, with_records, with_status, changed}
use Rattle.tinkey_cmds.proofs.Steps.{step-refused, named-at, named-none, named-there, edit-faultless, edit-answer, effect-disable, disable-missing, disable-primary, disable-destroyed, disable-accepted, status-changed}
use Rattle.tinkey_cmds.proofs.editing.disable.Goals as goal

pub returns-in-None-clause-step : goal.returns-in-None-clause-step
returns-in-None-clause-step c = step-refused c.args.keyset.now (Disable c.args.id) _ (disable-missing c.args.keyset.now c.args.id (named-none c.args.keyset.now c.args.id c.in-None.ensures.place))

pub returns-then-id-primary-clause-step : goal.returns-then-id-primary-clause-step
returns-then-id-primary-clause-step c = let there = (named-there c.args.keyset.now c.args.id _ c.in-Some.ensures.place c.in-Some.ensures.within) in
    step-refused c.args.keyset.now (Disable c.args.id) _ (disable-primary c.args.keyset.now c.args.id there.0 there.1 (eq-eqb c.args.id c.args.keyset.now.primary (c.if-id-primary.true ∙ c.primary.ensures)))

pub returns-then-record_at-eq-DESTROYED-clause-step : goal.returns-then-record_at-eq-DESTROYED-clause-step
returns-then-record_at-eq-DESTROYED-clause-step c = step-refused c.args.keyset.now (Disable c.args.id) _
    (disable-destroyed c.args.keyset.now c.args.id _ (named-at c.args.keyset.now c.args.id _ _ c.in-Some.ensures.place c.record_at.ensures.record_there) (ne_eqb c.args.id c.args.keyset.now.primary (λ same. c.if-id-primary.false (same ∙ sym c.primary.ensures))) (eq-eqb c.record_at.result.now.status 3 c.if-record_at-eq-DESTROYED.true))

pub set_status-requires-clause-faultless : goal.set_status-requires-clause-faultless
set_status-requires-clause-faultless c = edit-faultless c.args.keyset.now (with_records c.args.keyset.now (changed (with_status 2) c.args.id c.args.keyset.now.records)) (with_status_at c.args.keyset.now c.in-Some.place 2) (Disable c.args.id) tt c.in-Some.ensures.faultless
    (disable-accepted c.args.keyset.now c.args.id _ (named-at c.args.keyset.now c.args.id _ _ c.in-Some.ensures.place c.record_at.ensures.record_there) (ne_eqb c.args.id c.args.keyset.now.primary (λ same. c.if-id-primary.false (same ∙ sym c.primary.ensures))) (ne_eqb c.record_at.result.now.status 3 c.if-record_at-eq-DESTROYED.false))
    (effect-disable c.args.keyset.now c.args.id) (status-changed c.args.keyset.now c.args.id c.in-Some.place 2 c.in-Some.ensures.within c.in-Some.ensures.place)

pub returns-clause-step : goal.returns-clause-step
returns-clause-step c = edit-answer c.args.keyset.now (with_records c.args.keyset.now (changed (with_status 2) c.args.id c.args.keyset.now.records)) _ (Disable c.args.id)
    (disable-accepted c.args.keyset.now c.args.id _ (named-at c.args.keyset.now c.args.id _ _ c.in-Some.ensures.place c.record_at.ensures.record_there) (ne_eqb c.args.id c.args.keyset.now.primary (λ same. c.if-id-primary.false (same ∙ sym c.primary.ensures))) (ne_eqb c.record_at.result.now.status 3 c.if-record_at-eq-DESTROYED.false))
    (effect-disable c.args.keyset.now c.args.id) (c.set_status.ensures ∙ (status-changed c.args.keyset.now c.args.id c.in-Some.place 2 c.in-Some.ensures.within c.in-Some.ensures.place))
