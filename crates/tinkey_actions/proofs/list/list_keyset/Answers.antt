use Rattle.std.proofs.Common.{Ok, ◌∙◌}
use Rattle.tinkey_plans.specs.declared.origin.Origin.TheVariants as origins
use Rattle.tinkey_words.specs.Words.{seen_lock, seen_place}
use Rattle.keyset_model.specs.Listing.{info_of}
use Rattle.tinkey_plans.specs.Steps.{works_out}
use Rattle.tinkey_plans.specs.Locks.{takes_locked}
use Rattle.tinkey_plans.proofs.StepLemmas.{passes_then, ends_there, worked_out, starved_there}
use Rattle.tinkey_actions.proofs.list.list_keyset.Goals as goal

pub returns-in_err-keyset : goal.returns-in_err-keyset
returns-in_err-keyset g c = λ w. ends_there (takes_locked origins.In _ (seen_lock c.args.lock) (seen_place c.args.input)) (λ keys. works_out (info_of keys)) _ _ _ _ c.from_residual.ensures.1 (c.in_err-keyset.ensures.passes w)

pub returns-in_err-text : goal.returns-in_err-text
returns-in_err-text g c = λ w.
    let takes = takes_locked origins.In _ (seen_lock c.args.lock) (seen_place c.args.input) in
    let old = record w { source = g.S.Source.state c.args.source.now; store = g.D.Store.state c.args.store.now } in
    let new = record w { source = g.S.Source.state c.take_locked.new.source; store = g.D.Store.state c.take_locked.new.store } in
    let keys = c.in_ok-keyset.keyset in
    passes_then takes (λ keys. works_out (info_of keys)) old new new keys _ (c.in_ok-keyset.ensures.passes w)
    (starved_there (info_of keys) new _ c.from_residual-in_err-text.ensures.1)

pub returns : goal.returns
returns g c = λ w.
    let takes = takes_locked origins.In _ (seen_lock c.args.lock) (seen_place c.args.input) in
    let old = record w { source = g.S.Source.state c.args.source.now; store = g.D.Store.state c.args.store.now } in
    let new = record w { source = g.S.Source.state c.take_locked.new.source; store = g.D.Store.state c.take_locked.new.store } in
    let keys = c.in_ok-keyset.keyset in
    passes_then takes (λ keys. works_out (info_of keys)) old new new keys (Ok c.own.result) (c.in_ok-keyset.ensures.passes w)
    (rw (c.own.ensures ∙ c.in_ok-text.ensures) (worked_out (info_of keys) new))
