use Rattle.std.proofs.Common.{[]}
use Rattle.aead_kinds.specs.Gcm.{hash_subkey}
use Rattle.aead_kinds.proofs.gcm.with_powers.Goals as goal

pub returns : goal.returns
returns c = ([], c.with_powers.ensures (hash_subkey c.args.aes.now) c.requires)
