-- The key has as many bytes as the main one.
use Rattle.std.proofs.Common.{◌++◌, sym, ◌∙◌, eq-eqb, ne_eqb}
use Rattle.std.proofs.lemmas.Bool.{cond-false, cond-true}
use Rattle.aead_kinds.specs.GcmSiv.{encryption_key}
use Rattle.aead_kinds.proofs.gcm_siv.encryption_aes.Goals as goal

pub returns-then-key_size-eq32 : goal.returns-then-key_size-eq32
unfolding encryption_key
returns-then-key_size-eq32 c =
    c.expanded.ensures ∙ c.joined.ensures
    ∙ (λ i. c.derived_pair-first.ensures i ++ c.derived_pair.ensures i)
    ∙ sym (cond-true _ _ _ (eq-eqb _ 32 (sym c.key_size.ensures.size ∙ c.if-key_size-eq32.true)))

pub returns-else-key_size-eq32 : goal.returns-else-key_size-eq32
unfolding encryption_key
returns-else-key_size-eq32 c =
    c.expanded-else-key_size-eq32.ensures ∙ c.derived_pair-first.ensures
    ∙ sym (cond-false _ _ _ (ne_eqb _ 32 (λ same. c.if-key_size-eq32.false (c.key_size.ensures.size ∙ same))))
