use Rattle.std.proofs.Common.{◌∙◌}
use Rattle.wrapped_prims.proofs.HandleLemmas.{few_trials}
use Rattle.wrapped_prims.proofs.OpenLemmas.{verifies-IsOver}
use Rattle.wrapped_prims.proofs.TrialLemmas.{tag_tries-IsOver}
use Rattle.wrapped_prims.proofs.handle.Handle.verify.Goals as goal

pub verify_all-requires-clause-served : goal.verify_all-requires-clause-served
verify_all-requires-clause-served g c = c.requires.over.1.served

pub returns-clause-verified : goal.returns-clause-verified
returns-clause-verified g c = λ keys over.
    c.verify_all.ensures.verified ∙ verifies-IsOver _ keys _ c.args.tag.now c.args.body.now over

pub returns-clause-few_trials : goal.returns-clause-few_trials
returns-clause-few_trials g c = λ keys over.
    few_trials _ _ keys _ c.args.tag.now _ _ over c.verify_all.ensures.few

pub returns-clause-trials : goal.returns-clause-trials
returns-clause-trials g c = λ keys over.
    c.verify_all.ensures.tries ∙ tag_tries-IsOver _ keys _ c.args.tag.now c.args.body.now c.args.trials.now over
