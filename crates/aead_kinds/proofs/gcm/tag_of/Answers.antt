use Rattle.aead_kinds.specs.Gcm.{hash_subkey}
use Rattle.aead_kinds.proofs.gcm.tag_of.Goals as goal

pub ready_tag_of-requires-clause-runs : goal.ready_tag_of-requires-clause-runs
ready_tag_of-requires-clause-runs c =
    let runs = c.requires.runs in (runs.0, c.prepare.ensures (hash_subkey c.args.aes.now) runs.0 runs.1)

pub returns-clause-runs : goal.returns-clause-runs
returns-clause-runs c =
    let runs = c.requires.runs in (runs.0, c.prepare.ensures (hash_subkey c.args.aes.now) runs.0 runs.1)
