use Rattle.std.proofs.Common.{List, ℕ}
use Rattle.tinkey_plans.specs.Locks.{writes_under}
use Rattle.tinkey_plans.specs.Steps.{puts}
use Rattle.tinkey_words.specs.Words.{seen_name}
use Rattle.tinkey_actions.proofs.LockLemmas.{finished_there, finishes_then}
use Rattle.tinkey_actions.proofs.locks.put_under.Goals as goal

pub returns-in_err-bytes : goal.returns-in_err-bytes
returns-in_err-bytes g c = λ w table master is.
    let behind = record w { sink = g.K.Sink.state c.args.sink.now; store = g.D.Store.state c.args.store.now } in
    finished_there {A = List ℕ} (writes_under table master c.args.out.form c.args.keyset.now) (puts (seen_name c.args.out.file)) _ _ _ _ c.from_residual.ensures.1 (c.in_err-bytes.ensures behind table master is)

pub returns : goal.returns
returns g c = λ w table master is.
    let behind = record w { sink = g.K.Sink.state c.args.sink.now; store = g.D.Store.state c.args.store.now } in
    let old = record behind { entropy = g.E.Entropy.state c.args.entropy.now } in
    let mid = record behind { entropy = g.E.Entropy.state c.written_under.new.entropy } in
    let new = record mid { sink = g.K.Sink.state c.put.new.sink; store = g.D.Store.state c.put.new.store } in
    finishes_then {A = List ℕ} (writes_under table master c.args.out.form c.args.keyset.now) (puts (seen_name c.args.out.file)) old mid new c.in_ok-bytes.bytes c.put.result (c.in_ok-bytes.ensures behind table master is) (rw c.as_slice.ensures at (c.put.ensures mid))
