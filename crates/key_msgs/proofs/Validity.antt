-- A key of contents that keep every rule keeps every rule.
use Rattle.std.proofs.Common.{◌≡◌, ℕ, Bool, true, false, refl, Option, Some, None, Result, inl, inr}
use Rattle.std.specs.Prelude.{IfOk, not, ◌==◌, if◌then◌else◌}
use Rattle.std.proofs.lemmas.Bool.Decides.{eqb_tells}
use Rattle.tink_base.specs.Hash.{hash_of_number}
use Rattle.tink_base.specs.declared.hash.Hash.{Hash}
use Rattle.key_msgs.specs.Contents.{Contents}
use Rattle.key_msgs.specs.Keys.{hash_number, with_hash, key_from, IsValid}
use Rattle.key_msgs.specs.Rules.{first_broken}
use Rattle.key_msgs.specs.declared.key.KeyKind.{KeyKind}
use Rattle.key_msgs.specs.declared.key_type.KeyType.{KeyType}
use Rattle.key_msgs.specs.declared.key_type.KeyType.TheVariants as types
use Rattle.key_msgs.specs.declared.rule.Rule.{Rule}
use Rattle.key_msgs.specs.declared.rule.Rule.TheVariants as broken

past_version : (b : Bool) (rest : Option Rule) → (if not b then Some broken.Version else rest) ≡ None → rest ≡ None
past_version true rest none = none
past_version false rest none = cc

abbrev IsNumberOf : ℕ → Option Hash → Type 0
IsNumberOf n None = Unit {0}
IsNumberOf n (Some hash) = hash_number hash ≡ n

number_of_hash : (n : ℕ) → IsNumberOf n (hash_of_number n)
number_of_hash n = elim (eqb_tells n 1) [
  | inl one ↦ rw (one.0, one.1) refl
  | inr not_one ↦ rw not_one.0 (elim (eqb_tells n 2) [
    | inl two ↦ rw (two.0, two.1) refl
    | inr not_two ↦ rw not_two.0 (elim (eqb_tells n 3) [
      | inl three ↦ rw (three.0, three.1) refl
      | inr not_three ↦ rw not_three.0 (elim (eqb_tells n 4) [
        | inl four ↦ rw (four.0, four.1) refl
        | inr not_four ↦ rw not_four.0 (elim (eqb_tells n 5) [
          | inl five ↦ rw (five.0, five.1) refl
          | inr other ↦ rw other.0 tt
        ])
      ])
    ])
  ])
]

some_valid : (n : ℕ) (hash : Option Hash) (next : Hash → Result KeyKind Rule) → IsNumberOf n hash → ((hash : Hash) → hash_number hash ≡ n → IfOk (next hash) IsValid) → IfOk (with_hash hash next) IsValid
some_valid n None next is valid = tt
some_valid n (Some hash) next is valid = valid hash is

with_valid : (n : ℕ) (next : Hash → Result KeyKind Rule) → ((hash : Hash) → hash_number hash ≡ n → IfOk (next hash) IsValid) → IfOk (with_hash (hash_of_number n) next) IsValid
with_valid n next valid = some_valid n (hash_of_number n) next (number_of_hash n) valid

pub key_from-valid : (type : KeyType) (m : Contents) → first_broken type m ≡ None → IfOk (key_from type m) IsValid
key_from-valid types.AesGcm m none = past_version (m.version == 0) _ none
key_from-valid types.AesEax m none = past_version (m.version == 0) _ none
key_from-valid types.AesCtrHmac m none = with_valid m.mac_hash _ (λ hash is. rw is (past_version (m.version == 0) _ none))
key_from-valid types.AesSiv m none = past_version (m.version == 0) _ none
key_from-valid types.Hmac m none = with_valid m.hash _ (λ hash is. rw is (past_version (m.version == 0) _ none))
key_from-valid types.AesCmac m none = past_version (m.version == 0) _ none
key_from-valid types.HkdfPrf m none = with_valid m.hash _ (λ hash is. rw is (past_version (m.version == 0) _ none))
key_from-valid types.HmacPrf m none = with_valid m.hash _ (λ hash is. rw is (past_version (m.version == 0) _ none))
key_from-valid types.CmacPrf m none = past_version (m.version == 0) _ none
key_from-valid types.GcmStream m none = with_valid m.hash _ (λ hash is. rw is (past_version (m.version == 0) _ none))
key_from-valid types.CtrStream m none = with_valid m.hash _ (λ hash is. with_valid m.mac_hash _ (λ mac_hash mac_is. rw (is, mac_is) (past_version (m.version == 0) _ none)))
key_from-valid types.AesGcmSiv m none = past_version (m.version == 0) _ none
