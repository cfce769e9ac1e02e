use Rattle.std.proofs.Common.{refl, arith}
use Rattle.keyset_json.specs.Reading.{records_of}
use Rattle.keyset_json.proofs.ReadingLemmas.{items_push, items_stop, items_handed_on}
use Rattle.keyset_json.proofs.reading.read_items.Goals as goal

pub loop-i-init : goal.loop-i-init
unfolding records_of
loop-i-init c = rw c.new-records.ensures.items refl

pub returns-in_err-key-clause-fault : goal.returns-in_err-key-clause-fault
returns-in_err-key-clause-fault c =
    items_handed_on _ _ _ _ c.from_residual.ensures.1 c.in_err-key.ensures
    (λ p. items_stop c.args.items.now c.loop-i.i c.index-items-i.result c.loop-i.records.items p (omega arith) c.index-items-i.is c.loop-i.invariant)

pub loop-i-preserved : goal.loop-i-preserved
loop-i-preserved c =
    rw c.in_ok-push.ensures.items
    (items_push c.args.items.now c.loop-i.i c.index-items-i.result c.loop-i.records.items _ (omega arith) c.index-items-i.is c.loop-i.invariant c.in_ok-key.ensures)
