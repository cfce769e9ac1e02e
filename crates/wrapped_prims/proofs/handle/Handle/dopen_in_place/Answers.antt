use Rattle.std.proofs.Common.{◌∙◌}
use Rattle.wrapped_prims.proofs.HandleLemmas.{few_trials}
use Rattle.wrapped_prims.proofs.OpenLemmas.{opens-IsOver}
use Rattle.wrapped_prims.proofs.TrialLemmas.{tries-IsOver}
use Rattle.wrapped_prims.proofs.handle.Handle.dopen_in_place.Goals as goal

pub open_list-requires-clause-served : goal.open_list-requires-clause-served
open_list-requires-clause-served g c = c.requires.over.1.served

pub returns-clause-opened : goal.returns-clause-opened
returns-clause-opened g c = λ keys over.
    c.open_list.ensures.opened ∙ opens-IsOver _ _ keys _ c.args.bytes.items c.args.ad.now over

pub returns-clause-few_trials : goal.returns-clause-few_trials
returns-clause-few_trials g c = λ keys over.
    few_trials _ _ keys _ c.args.bytes.items _ _ over c.open_list.ensures.few

pub returns-clause-trials : goal.returns-clause-trials
returns-clause-trials g c = λ keys over.
    c.open_list.ensures.tries ∙ tries-IsOver _ _ keys _ c.args.bytes.items c.args.ad.now c.args.trials.now over
