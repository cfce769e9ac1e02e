-- Its refusals, in order, and what it does.
use Rattle.std.proofs.Common.{◌∙◌, sym, eq-eqb}
use Rattle.std.proofs.lemmas.Bool.{ne_eqb}
use Rattle.keyset_model.specs.Changes.{with_status_at}
use Rattle.tinkey_cmds.specs.Edits.{Enable, with_records, with_status, changed}
use Rattle.tinkey_cmds.proofs.Steps.{step-refused, settled-enable, memory-edited, named-at, named-none, same-test, edit-faultless, edit-answer, effect-enable, enable-missing, enable-destroyed, enable-ambiguous, enable-mixed, enable-refused, enable-accepted, status-changed}
use Rattle.tinkey_cmds.proofs.editing.enable.Goals as goal

pub returns-in-None-clause-step : goal.returns-in-None-clause-step
returns-in-None-clause-step c = step-refused c.args.keyset.now (Enable c.args.id) _ (enable-missing c.args.keyset.now c.args.id (named-none c.args.keyset.now c.args.id c.in-None.ensures.place))

pub returns-then-key-eq-DESTROYED-clause-step : goal.returns-then-key-eq-DESTROYED-clause-step
returns-then-key-eq-DESTROYED-clause-step c = step-refused c.args.keyset.now (Enable c.args.id) _ (enable-destroyed c.args.keyset.now c.args.id _ (named-at c.args.keyset.now c.args.id _ _ c.in-Some.ensures.place c.record_at-key.ensures.record_there) (eq-eqb c.record_at-key.result.now.status 3 c.if-key-eq-DESTROYED.true))

pub returns-then-is_rival-clause-step : goal.returns-then-is_rival-clause-step
returns-then-is_rival-clause-step c = step-refused c.args.keyset.now (Enable c.args.id) _ (enable-ambiguous c.args.keyset.now c.args.id _ (named-at c.args.keyset.now c.args.id _ _ c.in-Some.ensures.place c.record_at-key.ensures.record_there) (ne_eqb c.record_at-key.result.now.status 3 c.if-key-eq-DESTROYED.false) (sym c.is_rival.ensures ∙ c.if-is_rival.true))

pub returns-then-not-is_same-clause-step : goal.returns-then-not-is_same-clause-step
returns-then-not-is_same-clause-step c = step-refused c.args.keyset.now (Enable c.args.id) _ (enable-mixed c.args.keyset.now c.args.id _ (named-at c.args.keyset.now c.args.id _ _ c.in-Some.ensures.place c.record_at-key.ensures.record_there) (ne_eqb c.record_at-key.result.now.status 3 c.if-key-eq-DESTROYED.false) (sym c.is_rival.ensures ∙ c.if-is_rival.false) (same-test c.args.keyset.now _ _ _ _ _ _ c.primitive_of.ensures c.as_str.ensures c.primary_primitive.ensures c.is_same.ensures c.if-not-is_same.true))

pub returns-in_err-rule-clause-step : goal.returns-in_err-rule-clause-step
returns-in_err-rule-clause-step c = memory-edited c.from_residual.result _ _ c.from_residual.ensures.0 c.from_residual.ensures.1 (settled-enable c.args.keyset.now c.args.id)

pub returns-in-Some-2-clause-step : goal.returns-in-Some-2-clause-step
returns-in-Some-2-clause-step c = step-refused c.args.keyset.now (Enable c.args.id) _ (enable-refused c.args.keyset.now c.args.id _ _ (named-at c.args.keyset.now c.args.id _ _ c.in-Some.ensures.place c.record_at-key.ensures.record_there) (ne_eqb c.record_at-key.result.now.status 3 c.if-key-eq-DESTROYED.false) (sym c.is_rival.ensures ∙ c.if-is_rival.false) (same-test c.args.keyset.now _ _ _ _ _ _ c.primitive_of.ensures c.as_str.ensures c.primary_primitive.ensures c.is_same.ensures c.if-not-is_same.false) (sym c.in_ok-rule.ensures ∙ c.in-Some-2.is))

pub set_status-requires-clause-faultless : goal.set_status-requires-clause-faultless
set_status-requires-clause-faultless c = edit-faultless c.args.keyset.now (with_records c.args.keyset.now (changed (with_status 1) c.args.id c.args.keyset.now.records)) (with_status_at c.args.keyset.now c.in-Some.place 1) (Enable c.args.id) tt c.in-Some.ensures.faultless
    (enable-accepted c.args.keyset.now c.args.id _ (named-at c.args.keyset.now c.args.id _ _ c.in-Some.ensures.place c.record_at-key.ensures.record_there) (ne_eqb c.record_at-key.result.now.status 3 c.if-key-eq-DESTROYED.false) (sym c.is_rival.ensures ∙ c.if-is_rival.false) (same-test c.args.keyset.now _ _ _ _ _ _ c.primitive_of.ensures c.as_str.ensures c.primary_primitive.ensures c.is_same.ensures c.if-not-is_same.false) (sym c.in_ok-rule.ensures ∙ c.in_default.is))
    (effect-enable c.args.keyset.now c.args.id) (status-changed c.args.keyset.now c.args.id c.in-Some.place 1 c.in-Some.ensures.within c.in-Some.ensures.place)

pub returns-clause-step : goal.returns-clause-step
returns-clause-step c = edit-answer c.args.keyset.now (with_records c.args.keyset.now (changed (with_status 1) c.args.id c.args.keyset.now.records)) _ (Enable c.args.id)
    (enable-accepted c.args.keyset.now c.args.id _ (named-at c.args.keyset.now c.args.id _ _ c.in-Some.ensures.place c.record_at-key.ensures.record_there) (ne_eqb c.record_at-key.result.now.status 3 c.if-key-eq-DESTROYED.false) (sym c.is_rival.ensures ∙ c.if-is_rival.false) (same-test c.args.keyset.now _ _ _ _ _ _ c.primitive_of.ensures c.as_str.ensures c.primary_primitive.ensures c.is_same.ensures c.if-not-is_same.false) (sym c.in_ok-rule.ensures ∙ c.in_default.is))
    (effect-enable c.args.keyset.now c.args.id) (c.set_status.ensures ∙ (status-changed c.args.keyset.now c.args.id c.in-Some.place 1 c.in-Some.ensures.within c.in-Some.ensures.place))
