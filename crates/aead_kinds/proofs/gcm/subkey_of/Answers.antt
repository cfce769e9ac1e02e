use Rattle.std.proofs.Common.{◌≡◌, ℕ, ap, ◌∙◌, subst}
use Rattle.std.specs.Int.{w128, from_be_bytes}
use Rattle.ghash.specs.GhashState.{IsSubkey}
use Rattle.aead_kinds.specs.Gcm.{hash_subkey}
use Rattle.aead_kinds.proofs.gcm.subkey_of.Goals as goal

pub returns : goal.returns
unfolding hash_subkey
returns c =
    let same : c.from_be_bytes.result ≡ hash_subkey c.args.aes.now
    = c.from_be_bytes.ensures ∙ ap (λ block. from_be_bytes w128 block) c.encrypt_block.ensures in
    let P : ℕ → Type 0 = λ h. IsSubkey c.new.result h in
    subst P same c.new.ensures
