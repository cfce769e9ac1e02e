use Rattle.wrapped_prims.proofs.AloneLemmas.{each_here, few_here, few_nowhere, tag_tries_here, tag_tries_nowhere, verified_here, verified_nowhere}
use Rattle.wrapped_prims.proofs.trying.verify_at.Goals as goal

pub verify_key-requires-clause-served : goal.verify_key-requires-clause-served
verify_key-requires-clause-served g c =
    each_here c.args.slots.now c.args.place c.in-Some.kept.now c.requires.served c.in-Some.ensures.here

pub returns-in-Some-clause-verified : goal.returns-in-Some-clause-verified
returns-in-Some-clause-verified g c =
    verified_here c.args.slots.now c.args.place c.in-Some.kept.now c.args.tag.now c.args.body.now c.verify_key.result
    c.in-Some.ensures.here c.verify_key.ensures.verified

pub returns-in-Some-clause-tries : goal.returns-in-Some-clause-tries
returns-in-Some-clause-tries g c =
    tag_tries_here c.args.slots.now c.args.place c.in-Some.kept.now c.args.tag.now c.args.body.now c.args.trials.now c.verify_key.new.trials
    c.in-Some.ensures.here c.verify_key.ensures.one

pub returns-in-Some-clause-few : goal.returns-in-Some-clause-few
returns-in-Some-clause-few g c =
    few_here c.args.slots.now c.args.place c.in-Some.kept.now c.args.trials.now c.verify_key.new.trials c.in-Some.ensures.here c.verify_key.ensures.one

pub returns-in-None-clause-verified : goal.returns-in-None-clause-verified
returns-in-None-clause-verified g c =
    verified_nowhere c.args.slots.now c.args.place c.args.tag.now c.args.body.now c.in-None.ensures.here

pub returns-in-None-clause-tries : goal.returns-in-None-clause-tries
returns-in-None-clause-tries g c =
    tag_tries_nowhere c.args.slots.now c.args.place c.args.tag.now c.args.body.now c.args.trials.now c.in-None.ensures.here

pub returns-in-None-clause-few : goal.returns-in-None-clause-few
returns-in-None-clause-few g c = few_nowhere c.args.slots.now c.args.place c.args.trials.now
