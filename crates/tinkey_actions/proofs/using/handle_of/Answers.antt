use Rattle.tinkey_actions.proofs.UseLemmas.{unfit_ends}
use Rattle.tinkey_actions.proofs.using.handle_of.Goals as goal

pub returns-in-Err-clause-passes : goal.returns-in-Err-clause-passes
returns-in-Err-clause-passes g c = λ w next.
    rw c.handle_status.ensures (unfit_ends c.args.from _ c.args.primitive c.args.keyset.now c.in-Err.fault w c.in-Err.ensures.fault next)
