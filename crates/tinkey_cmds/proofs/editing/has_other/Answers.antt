-- A record behind the place is the one looked for, or it isn't and the rest is left.
use Rattle.std.proofs.Common.{◌∙◌, sym, eq-eqb}
use Rattle.std.proofs.lemmas.Bool.{and_from}
use Rattle.tinkey_cmds.proofs.Places.{others-from, others-next, others-here, other-fails, unlike-fails}
use Rattle.tinkey_cmds.proofs.editing.has_other.Goals.{else-key-id-via-then-key-id+else-key-eq-ENABLED, else-key-id-via-else-key-id}
use Rattle.tinkey_cmds.proofs.editing.has_other.Goals as goal

pub loop-i-init : goal.loop-i-init
loop-i-init c = others-from c.args.id c.args.place c.args.keyset.now.records c.requires.place

pub returns-then-key-eq-ENABLED : goal.returns-then-key-eq-ENABLED
returns-then-key-eq-ENABLED c = sym (c.loop-i.invariant ∙ others-here c.args.id c.loop-i.i c.args.keyset.now.records _ c.record_at-key.ensures.record_there
    (and_from _ _ (eq-eqb c.record_at-key.result.now.id c.args.id c.if-key-id.true) (eq-eqb c.record_at-key.result.now.status 1 c.if-key-eq-ENABLED.true)))

pub loop-i-preserved : goal.loop-i-preserved
loop-i-preserved c = c.loop-i.invariant ∙ others-next c.args.id c.loop-i.i c.args.keyset.now.records _ c.record_at-key.ensures.record_there (elim c.else-key-id.branch [
  | else-key-id-via-then-key-id+else-key-eq-ENABLED w ↦ other-fails c.args.id c.record_at-key.result.now w.if-key-eq-ENABLED.false
  | else-key-id-via-else-key-id w ↦ unlike-fails c.args.id c.record_at-key.result.now w.if-key-id.false
])
