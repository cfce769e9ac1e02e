use Rattle.std.proofs.Common.{arith, refl}
use Rattle.wrapped_prims.proofs.ListLemmas.{listing_first, listing_last, listing_next}
use Rattle.wrapped_prims.proofs.held.Held.of_slots.Goals as goal

pub loop-i-init : goal.loop-i-init
loop-i-init c = listing_first _ _ _ refl refl c.new.ensures.empty c.new-2.ensures.items

pub loop-i-preserved : goal.loop-i-preserved
loop-i-preserved c = listing_next _ _ c.loop-i.i _ _ c.loop-i.invariant (omega (arith, c.loop-i-test.true, c.len-i-end.ensures)) c.in_ok-list_at.ensures.placed c.in_ok-list_at.ensures.slots c.in_ok-list_at.ensures.primary

pub returns : goal.returns
returns c = listing_last _ _ c.loop-i.i _ (omega (arith, c.loop-i-test.false, c.len-i-end.ensures)) c.loop-i.invariant
