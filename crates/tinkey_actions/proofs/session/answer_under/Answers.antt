use Rattle.tinkey_plans.specs.Ends.{world}
use Rattle.tinkey_words.specs.Words.{seen_place}
use Rattle.tinkey_actions.proofs.LockLemmas.{free_then, holds_ends, holds_then, not_free}
use Rattle.tinkey_actions.proofs.session.answer_under.Goals as goal

pub returns-in_err-keyset : goal.returns-in_err-keyset
returns-in_err-keyset g c = λ master is.
    let old = world (g.S.Source.state c.args.source.now) (g.K.Sink.state c.args.sink.now) (g.D.Store.state c.args.store.now) (g.E.Entropy.state c.args.entropy.now) in
    let new = record old { store = g.D.Store.state c.load_under.new.store } in
    holds_ends c.args.keyset.now c.args.form (seen_place c.args.output) c.args.saved_only old new c.from_residual.result _ is c.from_residual.ensures.1 (c.in_err-keyset.ensures.passes old _ master is)

pub returns-in_err-find_free : goal.returns-in_err-find_free
returns-in_err-find_free g c = λ master is.
    let old = world (g.S.Source.state c.args.source.now) (g.K.Sink.state c.args.sink.now) (g.D.Store.state c.args.store.now) (g.E.Entropy.state c.args.entropy.now) in
    let mid = record old { store = g.D.Store.state c.load_under.new.store } in
    let new = record mid { store = g.D.Store.state c.find_free.new.store } in
    holds_then c.args.keyset.now c.args.form (seen_place c.args.output) c.args.saved_only old mid new c.in_ok-keyset.keyset c.from_residual-in_err-find_free.result is (c.in_ok-keyset.ensures.passes old _ master is)
    (not_free (seen_place c.args.output) c.args.saved_only c.in_ok-keyset.keyset mid new c.from_residual-in_err-find_free.result _ is c.from_residual-in_err-find_free.ensures.1 (c.in_err-find_free.ensures mid))

pub returns : goal.returns
returns g c = λ master is.
    let old = world (g.S.Source.state c.args.source.now) (g.K.Sink.state c.args.sink.now) (g.D.Store.state c.args.store.now) (g.E.Entropy.state c.args.entropy.now) in
    let mid = record old { store = g.D.Store.state c.load_under.new.store } in
    let behind = record mid { store = g.D.Store.state c.find_free.new.store } in
    let new = world (g.S.Source.state c.answer_all.new.source) (g.K.Sink.state c.answer_all.new.sink) (g.D.Store.state c.answer_all.new.store) (g.E.Entropy.state c.answer_all.new.entropy) in
    holds_then c.args.keyset.now c.args.form (seen_place c.args.output) c.args.saved_only old mid new c.in_ok-keyset.keyset c.answer_all.result is (c.in_ok-keyset.ensures.passes old _ master is)
    (free_then (seen_place c.args.output) c.args.saved_only c.in_ok-keyset.keyset mid behind new c.answer_all.result is (c.in_ok-find_free.ensures mid) (c.answer_all.ensures master is))
