use Rattle.std.proofs.Common.{refl}
use Rattle.tinkey_words.specs.Words.{seen_master}
use Rattle.tinkey_actions.proofs.LockLemmas.{master_is_lock, master_opened, master_unfit, master_unopened}
use Rattle.tinkey_actions.proofs.locks.open_master.Goals as goal

pub returns-in_err-keyset-clause-passes : goal.returns-in_err-keyset-clause-passes
returns-in_err-keyset-clause-passes g c = λ w. master_unopened c.args.from _ _ (seen_master c.args.master) _ _ _ _ c.from_residual.ensures.1 (c.in_err-keyset.ensures.passes w)

pub returns-in_err-handle-clause-passes : goal.returns-in_err-handle-clause-passes
returns-in_err-handle-clause-passes g c = λ w.
    let mid = record w { store = g.D.Store.state c.load_keyset.new.store } in
    master_unfit c.args.from _ _ (seen_master c.args.master) c.in_ok-keyset.keyset _ mid _ _ c.from_residual-in_err-handle.ensures.1 (c.in_ok-keyset.ensures.passes w) (c.in_err-handle.ensures.passes mid)

pub returns-clause-passes : goal.returns-clause-passes
returns-clause-passes g c = λ w.
    let mid = record w { store = g.D.Store.state c.load_keyset.new.store } in
    master_opened c.args.from _ _ _ _ (seen_master c.args.master) c.in_ok-keyset.keyset _ mid c.in_ok-handle.handle _ refl (c.in_ok-keyset.ensures.passes w) (c.in_ok-handle.ensures.passes mid) c.in_ok-handle.ensures.over c.in_ok-handle.ensures.table

pub returns-clause-some : goal.returns-clause-some
returns-clause-some g c = master_is_lock _ c.in_ok-keyset.keyset _ c.in_ok-handle.ensures.over
