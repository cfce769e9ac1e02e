use Rattle.wrapped_prims.proofs.AloneLemmas.{each_here, few_here, few_nowhere, opened_here, opened_nowhere, tries_here, tries_nowhere}
use Rattle.wrapped_prims.proofs.trying.try_at.Goals as goal

pub try_key-requires-clause-served : goal.try_key-requires-clause-served
try_key-requires-clause-served g c =
    each_here c.args.slots.now c.args.place c.in-Some.kept.now c.requires.served c.in-Some.ensures.here

pub returns-in-Some-clause-opened : goal.returns-in-Some-clause-opened
returns-in-Some-clause-opened g c =
    opened_here c.args.primitive c.args.slots.now c.args.place c.in-Some.kept.now c.args.part.now c.try_key.new.part c.args.ad.now c.try_key.result
    c.in-Some.ensures.here c.try_key.ensures.opened

pub returns-in-Some-clause-tries : goal.returns-in-Some-clause-tries
returns-in-Some-clause-tries g c =
    tries_here c.args.primitive c.args.slots.now c.args.place c.in-Some.kept.now c.args.part.now c.args.ad.now c.args.trials.now c.try_key.new.trials
    c.in-Some.ensures.here c.try_key.ensures.one

pub returns-in-Some-clause-few : goal.returns-in-Some-clause-few
returns-in-Some-clause-few g c =
    few_here c.args.slots.now c.args.place c.in-Some.kept.now c.args.trials.now c.try_key.new.trials c.in-Some.ensures.here c.try_key.ensures.one

pub returns-in-None-clause-opened : goal.returns-in-None-clause-opened
returns-in-None-clause-opened g c =
    opened_nowhere c.args.primitive c.args.slots.now c.args.place c.args.part.now c.args.ad.now c.in-None.ensures.here

pub returns-in-None-clause-tries : goal.returns-in-None-clause-tries
returns-in-None-clause-tries g c =
    tries_nowhere c.args.primitive c.args.slots.now c.args.place c.args.part.now c.args.ad.now c.args.trials.now c.in-None.ensures.here

pub returns-in-None-clause-few : goal.returns-in-None-clause-few
returns-in-None-clause-few g c = few_nowhere c.args.slots.now c.args.place c.args.trials.now
