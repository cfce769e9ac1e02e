use Rattle.seal_wrap.proofs.WritingLemmas.{value_push}
use Rattle.seal_wrap.proofs.encrypted.json_form.key_values.Goals as goal

pub loop-i-preserved : goal.loop-i-preserved
loop-i-preserved c =
    rw c.in_ok-push.ensures.items
    (value_push c.loop-i.values.items _ c.args.keyset.now.records c.loop-i.i _ c.loop-i.invariant c.record_at.ensures.record_there c.in_ok-value.ensures)
