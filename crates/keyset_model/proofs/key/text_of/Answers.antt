use Rattle.keyset_model.proofs.KeyLemmas.{so_far_skips, so_far_takes, so_far_stops, text_handed_on}
use Rattle.keyset_model.proofs.key.text_of.Goals as goal
use Rattle.keyset_model.proofs.key.text_of.Goals.{then-field-number+in_ok-text, else-field-number}

pub returns-in_err-text-clause-fault : goal.returns-in_err-text-clause-fault
returns-in_err-text-clause-fault c =
    text_handed_on _ _ _ c.from_residual.ensures.1
    (so_far_stops _ _ _ _ _ _ _ c.loop-i.invariant c.field-field.ensures c.if-field-number.true c.in_err-text.ensures.other)

pub loop-i-preserved : goal.loop-i-preserved
loop-i-preserved c = elim c.if-field-number.branch [
  | then-field-number+in_ok-text w ↦ rw w.text-is
      (so_far_takes _ _ _ _ _ _ _ c.loop-i.invariant c.field-field.ensures w.if-field-number.true w.in_ok-text.ensures.text)
  | else-field-number w ↦ rw w.text-is
      (so_far_skips _ _ _ _ _ _ c.loop-i.invariant c.field-field.ensures w.if-field-number.false)
]

pub fact_in-text : goal.fact_in-text
fact_in-text c = c.loop-i.invariant.utf8
