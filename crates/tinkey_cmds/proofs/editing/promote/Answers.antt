-- Its refusals, in order, and what it does.
use Rattle.std.proofs.Common.{◌∙◌, refl, sym, eq-eqb}
use Rattle.std.proofs.lemmas.Bool.{ne_eqb}
use Rattle.keyset_model.specs.Changes.{with_primary}
use Rattle.tinkey_cmds.specs.Edits.{Promote}
use Rattle.tinkey_cmds.proofs.Steps.{step-refused, named-at, named-none, edit-faultless, edit-answer, effect-promote, promote-missing, promote-disabled, promote-ambiguous, promote-accepted}
use Rattle.tinkey_cmds.proofs.editing.promote.Goals as goal

pub returns-in-None-clause-step : goal.returns-in-None-clause-step
returns-in-None-clause-step c = step-refused c.args.keyset.now (Promote c.args.id) _ (promote-missing c.args.keyset.now c.args.id (named-none c.args.keyset.now c.args.id c.in-None.ensures.place))

pub returns-then-record_at-ne-ENABLED-clause-step : goal.returns-then-record_at-ne-ENABLED-clause-step
returns-then-record_at-ne-ENABLED-clause-step c = step-refused c.args.keyset.now (Promote c.args.id) _
    (promote-disabled c.args.keyset.now c.args.id _ (named-at c.args.keyset.now c.args.id _ _ c.in-Some.ensures.place c.record_at.ensures.record_there) (ne_eqb c.record_at.result.now.status 1 c.if-record_at-ne-ENABLED.true))

pub returns-then-has_other-clause-step : goal.returns-then-has_other-clause-step
returns-then-has_other-clause-step c = step-refused c.args.keyset.now (Promote c.args.id) _
    (promote-ambiguous c.args.keyset.now c.args.id _ (named-at c.args.keyset.now c.args.id _ _ c.in-Some.ensures.place c.record_at.ensures.record_there) (eq-eqb c.record_at.result.now.status 1 c.if-record_at-ne-ENABLED.false) (sym c.has_other.ensures ∙ c.if-has_other.true))

pub set_primary-requires : goal.set_primary-requires
set_primary-requires c = record {
  faultless = edit-faultless c.args.keyset.now (record c.args.keyset.now { primary = c.args.id }) (with_primary c.args.keyset.now c.args.id) (Promote c.args.id) tt c.in-Some.ensures.faultless
      (promote-accepted c.args.keyset.now c.args.id _ (named-at c.args.keyset.now c.args.id _ _ c.in-Some.ensures.place c.record_at.ensures.record_there) (eq-eqb c.record_at.result.now.status 1 c.if-record_at-ne-ENABLED.false) (sym c.has_other.ensures ∙ c.if-has_other.false))
      (effect-promote c.args.keyset.now c.args.id) refl;
}

pub returns-clause-step : goal.returns-clause-step
returns-clause-step c = edit-answer c.args.keyset.now (record c.args.keyset.now { primary = c.args.id }) _ (Promote c.args.id)
    (promote-accepted c.args.keyset.now c.args.id _ (named-at c.args.keyset.now c.args.id _ _ c.in-Some.ensures.place c.record_at.ensures.record_there) (eq-eqb c.record_at.result.now.status 1 c.if-record_at-ne-ENABLED.false) (sym c.has_other.ensures ∙ c.if-has_other.false))
    (effect-promote c.args.keyset.now c.args.id) (c.set_primary.ensures)
