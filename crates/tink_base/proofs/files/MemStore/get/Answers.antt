use Rattle.std.specs.Prelude.{Some}
use Rattle.std.proofs.Common.{ap, sym, ◌∙◌}
use Rattle.std.specs.Ordering.{nat_cmp}
use Rattle.std.specs.Cmp.Lexicographic.{slice_cmp, nat_list_cmp_total}
use Rattle.std.specs.FinMap.{get, find, get-from_entries}
use Rattle.tink_base.specs.Memory.{StoreInMemory}
use Rattle.tink_base.proofs.FileLemmas.{found_here, not_here}
use Rattle.tink_base.proofs.files.MemStore.get.Goals as goal

pub loop-other-init : goal.loop-other-init
loop-other-init c =
    ap (λ (s : StoreInMemory). get s.files c.args.name.now) (sym c.self.view_is)
    ∙ get-from_entries nat_list_cmp_total _ _
    ∙ ap (find (slice_cmp nat_cmp) c.args.name.now) (sym c.deref-other-items.ensures.value)

pub returns-then-eq : goal.returns-then-eq
returns-then-eq c =
    sym (c.loop-other.invariant ∙ found_here _ _ _ _ _ c.loop-other-test.true c.loop-other-item.is (rw c.as_str.ensures at c.eq.ensures) c.if-eq.true ∙ ap Some (sym c.as_slice.ensures))

pub loop-other-preserved : goal.loop-other-preserved
loop-other-preserved c =
    c.loop-other.invariant ∙ not_here _ _ _ _ _ c.loop-other-test.true c.loop-other-item.is (rw c.as_str.ensures at c.eq.ensures) c.if-eq.false
