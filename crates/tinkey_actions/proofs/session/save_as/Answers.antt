use Rattle.std.proofs.Common.{List, ℕ}
use Rattle.tinkey_plans.specs.Locks.{writes_under}
use Rattle.tinkey_plans.specs.Plan.{creates}
use Rattle.tinkey_plans.specs.declared.status.Status.TheVariants as status
use Rattle.tinkey_actions.proofs.LockLemmas.{finished_there, finishes_then}
use Rattle.tinkey_actions.proofs.session.save_as.Goals as goal

pub returns-in_err-bytes : goal.returns-in_err-bytes
returns-in_err-bytes g c = λ w table master is.
    let behind = record w { store = g.D.Store.state c.args.store.now } in
    finished_there {A = List ℕ} (writes_under table master c.args.form c.args.keyset.now) (λ output. creates c.args.name.now output status.OutExists tt) _ _ _ _ c.from_residual.ensures.1 (c.in_err-bytes.ensures behind table master is)

pub returns : goal.returns
returns g c = λ w table master is.
    let behind = record w { store = g.D.Store.state c.args.store.now } in
    let old = record behind { entropy = g.E.Entropy.state c.args.entropy.now } in
    let mid = record behind { entropy = g.E.Entropy.state c.written_under.new.entropy } in
    let new = record mid { store = g.D.Store.state c.create_file.new.store } in
    finishes_then {A = List ℕ} (writes_under table master c.args.form c.args.keyset.now) (λ output. creates c.args.name.now output status.OutExists tt) old mid new c.in_ok-bytes.bytes c.create_file.result (c.in_ok-bytes.ensures behind table master is) (rw c.as_slice.ensures at (c.create_file.ensures mid))
