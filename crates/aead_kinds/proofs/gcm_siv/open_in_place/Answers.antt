-- The text is decrypted under the derived key, and counter mode undoes itself.
use Rattle.std.proofs.Common.{◌≡◌, ◌↔◌, ◌∙◌, IsTrue, List, ℕ, ap, sym}
use Rattle.std.proofs.lemmas.Bool.{OnFalse_from, OnTrue_from}
use Rattle.aes_core.specs.Counter.{ctr}
use Rattle.aes_core.specs.declared.counter.CtrKind.TheVariants.{First32}
use Rattle.aes_core.proofs.CounterMode.{ctr-ctr}
use Rattle.aead_kinds.specs.GcmSiv.{first_counter, gcm_siv_tag, gcm_siv_text}
use Rattle.aead_kinds.proofs.gcm_siv.open_in_place.Goals as goal
use Rattle.aead_kinds.proofs.gcm_siv.open_in_place.Goals.{After-same_bytes-same}

-- what is decrypted first
plain_is : (c : After-same_bytes-same)
    → c.crypt.new.body ≡ gcm_siv_text c.args.key.now c.args.iv.now c.args.tag.now c.args.body.now
unfolding gcm_siv_text
plain_is c =
    c.crypt.ensures
    ∙ ap (λ (k : List ℕ). ctr k (first_counter c.args.tag.now) First32 c.args.body.now)
    c.encryption_aes-encryption.ensures

authentic : (c : After-same_bytes-same) → IsTrue c.same_bytes-same.result
    ↔ (c.args.tag.now ≡ gcm_siv_tag c.args.key.now c.args.iv.now c.args.ad.now
    (gcm_siv_text c.args.key.now c.args.iv.now c.args.tag.now c.args.body.now))
authentic c =
    let anew = c.tag_of.ensures
    ∙ ap (λ (l : List ℕ). gcm_siv_tag c.args.key.now c.args.iv.now c.args.ad.now l) (plain_is c) in (
      λ same. c.same_bytes-same.ensures.0 same ∙ anew,
      λ same. c.same_bytes-same.ensures.1 (same ∙ sym anew),
    )

pub returns-then-not-same-clause-authentic : goal.returns-then-not-same-clause-authentic
returns-then-not-same-clause-authentic c =
    authentic (goal.at.returns-then-not-same-clause-authentic c).After-same_bytes-same

pub returns-then-not-same-clause-kept : goal.returns-then-not-same-clause-kept
returns-then-not-same-clause-kept c =
    let key : List ℕ = c.encryption_aes-encryption.result in
    let first : List ℕ = first_counter c.args.tag.now in
    OnFalse_from _ _ (λ other. c.crypt-then-not-same.ensures
    ∙ ap (λ (l : List ℕ). ctr key first First32 l) c.crypt.ensures
    ∙ ctr-ctr key first First32 c.args.body.now)

pub returns-else-not-same-clause-authentic : goal.returns-else-not-same-clause-authentic
returns-else-not-same-clause-authentic c =
    authentic (goal.at.returns-else-not-same-clause-authentic c).After-same_bytes-same

pub returns-else-not-same-clause-opened : goal.returns-else-not-same-clause-opened
returns-else-not-same-clause-opened c =
    OnTrue_from _ _
    (λ same. plain_is (goal.at.returns-else-not-same-clause-opened c).After-same_bytes-same)
