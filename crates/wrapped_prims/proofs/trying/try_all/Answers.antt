use Rattle.wrapped_prims.proofs.TrialLemmas.{opened_first, opened_later, tries_both, tries_first}
use Rattle.wrapped_prims.proofs.trying.try_all.Goals as goal

pub try_places-requires-clause-served : goal.try_places-requires-clause-served
try_places-requires-clause-served g c = rw c.as_slice-slots.ensures.value c.requires.served

pub returns-in-Some-clause-opened : goal.returns-in-Some-clause-opened
returns-in-Some-clause-opened g c = opened_first c.args.primitive c.args.held.now c.args.bytes.now c.try_prefixed.new.bytes c.args.ad.now c.in-Some.range c.in-Some.ensures.opened

pub returns-in-Some-clause-tries : goal.returns-in-Some-clause-tries
returns-in-Some-clause-tries g c = tries_first c.args.primitive c.args.held.now c.args.bytes.now c.try_prefixed.new.bytes c.args.ad.now c.in-Some.range c.args.trials.now c.try_prefixed.new.trials c.in-Some.ensures.opened c.in-Some.ensures.tries

pub returns-clause-opened : goal.returns-clause-opened
returns-clause-opened g c =
    opened_later c.args.primitive c.args.held.now c.as_slice-slots.result.now c.as_slice-raw.result.now c.args.bytes.now c.try_prefixed.new.bytes c.try_places.new.part c.args.ad.now c.try_places.result
    c.as_slice-slots.ensures.value c.as_slice-raw.ensures.value c.in_default.ensures.opened c.try_places.ensures.opened

pub returns-clause-tries : goal.returns-clause-tries
returns-clause-tries g c =
    tries_both c.args.primitive c.args.held.now c.as_slice-slots.result.now c.as_slice-raw.result.now c.args.bytes.now c.try_prefixed.new.bytes c.args.ad.now c.args.trials.now c.try_prefixed.new.trials c.try_places.new.trials
    c.as_slice-slots.ensures.value c.as_slice-raw.ensures.value c.in_default.ensures.opened c.in_default.ensures.tries c.try_places.ensures.tries
