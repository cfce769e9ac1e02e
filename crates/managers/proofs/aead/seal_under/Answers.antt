-- AES-GCM and EAX have no HMAC, so any hash function and key serve. What stands between the two rooms is
-- as long as the plaintext.
use Rattle.std.proofs.Common.{◌≡◌, ◌∙◌, ◌+◌, ◌-◌, ℕ, List, [], ap, arith, drop, length, sym, take}
use Rattle.aead_kinds.specs.EncryptThenTag.{text_of}
use Rattle.key_msgs.specs.declared.key.KeyKind.TheVariants as kinds
use Rattle.tink_base.specs.declared.hash.Hash.TheVariants.{Sha256}
use Rattle.managers.specs.Made.{aes_in, gcm_in}
use Rattle.managers.specs.Uses.{seal_of}
use Rattle.managers.proofs.aead.seal_under.Goals as goal

between : (a n b : ℕ) (bytes : List ℕ) → length bytes ≡ a + n + b → text_of a b bytes ≡ take n (drop a bytes)
between a n b bytes whole =
    let size : length bytes - (a + b) ≡ n = omega (arith, whole) in ap (λ k. take k (drop a bytes)) size

pub returns-in-AesGcm : goal.returns-in-AesGcm
returns-in-AesGcm c =
    let is : c.args.key.now ≡ kinds.AesGcm c.in-AesGcm.key
    = sym c.kind.ensures.key ∙ c.in-AesGcm.is in
    let same : c.gcm.result.now ≡ c.in-AesGcm.key = c.gcm.ensures ∙ ap gcm_in is in
    let seal = λ (plain : List ℕ). seal_of (kinds.AesGcm c.in-AesGcm.key) c.args.iv.now plain c.args.ad.now in
    rw is (λ n whole. rw same at (c.seal.ensures Sha256 [] tt) ∙ ap seal (between 12 n 16 c.args.sealed.now whole))

pub returns-in-AesEax : goal.returns-in-AesEax
returns-in-AesEax c =
    let size = c.in-AesEax.iv_size in
    let is : c.args.key.now ≡ kinds.AesEax c.in-AesEax.key size
    = sym c.kind.ensures.key ∙ c.in-AesEax.is in
    let same : c.aes.result.now ≡ c.in-AesEax.key = c.aes.ensures ∙ ap aes_in is in
    let seal = λ (plain : List ℕ). seal_of (kinds.AesEax c.in-AesEax.key size) c.args.iv.now plain c.args.ad.now in
    rw is (λ n whole. rw same at (c.seal-in-AesEax.ensures Sha256 [] tt)
    ∙ ap seal (between size n 16 c.args.sealed.now whole))
