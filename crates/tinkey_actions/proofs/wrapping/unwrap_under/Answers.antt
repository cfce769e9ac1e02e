use Rattle.tinkey_actions.proofs.WrapLemmas.{not_unwrapped, unwrapped_passes}
use Rattle.tinkey_actions.proofs.wrapping.unwrap_under.Goals as goal

pub unwrap_keyset-requires-clause-over : goal.unwrap_keyset-requires-clause-over
unwrap_keyset-requires-clause-over g c = (c.args.master.now.keyset, c.requires.over)

pub returns-in-Ok-clause-passes : goal.returns-in-Ok-clause-passes
returns-in-Ok-clause-passes g c = λ w.
    unwrapped_passes _ _ _ _ _ c.in-Ok.keyset w (rw c.is_json.ensures at (c.in-Ok.ensures.keyset _ c.requires.over))

pub returns-in-Err-clause-passes : goal.returns-in-Err-clause-passes
returns-in-Err-clause-passes g c = λ w next.
    not_unwrapped _ _ _ _ _ c.in-Err.fault _ w c.refusal.ensures (rw c.is_json.ensures at (c.in-Err.ensures.keyset _ c.requires.over)) next
