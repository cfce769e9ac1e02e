use Rattle.std.proofs.Common.{List, ℕ, ap, ◌∙◌}
use Rattle.aes_core.specs.Counter.{ctr}
use Rattle.aes_core.specs.declared.counter.CtrKind.TheVariants.{First32}
use Rattle.aead_kinds.specs.GcmSiv.{first_counter, gcm_siv_text}
use Rattle.aead_kinds.proofs.gcm_siv.seal_in_place.Goals as goal

pub returns-clause-text : goal.returns-clause-text
unfolding gcm_siv_text
returns-clause-text c =
    c.crypt.ensures
    ∙ ap (λ (k : List ℕ). ctr k (first_counter c.tag_of-tag.result) First32 c.args.body.now)
    c.encryption_aes-encryption.ensures
