-- Well-formed keys have no fault.
use Rattle.std.proofs.Common.{◌≡◌, inl, inr, ap, sym, refl, ℕ, zero, suc, ◌==◌, Bool, true, false, not, ◌||◌, List, [], ◌∷◌, length, Some, None, arith}
use Rattle.std.specs.Prelude.{find, slice_get, nat_le}
use Rattle.std.specs.List.{list_any, AllByRecursion}
use Rattle.std.proofs.lemmas.Bool.Decides.{nat_tests}
use Rattle.keyset_model.specs.declared.record.Record.{Record}
use Rattle.keyset_model.specs.declared.keyset.KeysetRefusal.TheVariants as faults
use Rattle.keyset_model.specs.Keyset.{Keys, IsKnown, has_id, has_status, has_prefix, has_material, has_key_data, is_primary, first_without, ambiguous, fault_of}
use Rattle.keyset_model.specs.WellFormed.{HasOneOf, HasData, IsPrimary, IsWellFormed}
use Rattle.keyset_model.proofs.WellFormedLemmas.{Lone, position-none, two-lone}
use Rattle.keyset_model.proofs.Exits.{on, end, fails, fewer, nowhere}

-- ---- tests

pub known_status : (r : Record) → IsKnown r → has_status r ≡ true
known_status r known = let least = known.least_status in let most = known.most_status in grind (arith, nat_tests)

pub known_prefix : (r : Record) → IsKnown r → has_prefix r ≡ true
known_prefix r known = let least = known.least_prefix in let most = known.most_prefix in grind (arith, nat_tests)

pub data_material : (r : Record) → HasData r → has_material r ≡ true
data_material r has =
    let most : nat_le r.material 4 ≡ true = let is = has.most_material in grind (arith, nat_tests) in
    elim has.material [
      | inl some ↦ grind (arith, nat_tests)
      | inr destroyed ↦ grind (arith, nat_tests)
    ]

pub data_url : (r : Record) → HasData r → has_key_data r ≡ true
data_url r has = elim has.url [
  | inl some ↦ grind (arith, nat_tests)
  | inr destroyed ↦ grind (arith, nat_tests)
]

-- a test that every element passes
none_fails : (P : Record → Type 0) (test : Record → Bool) (records : List Record) → ((r : Record) → P r → test r ≡ true) → AllByRecursion P records → list_any (λ r. not (test r)) records ≡ false
none_fails P test [] passes all = refl
none_fails P test (r ∷ records) passes all = rw (passes r all.0) (none_fails P test records passes all.1)

nowhere_without : (P : Record → Type 0) (test : Record → Bool) (records : List Record) → ((r : Record) → P r → test r ≡ true) → AllByRecursion P records → None ≡ first_without test records
unfolding first_without
nowhere_without P test records passes all = sym (position-none (λ r. not (test r)) records (none_fails P test records passes all))

-- ---- the primary record

pub none_of : (test : Record → Bool) (records : List Record) → ((i : ℕ) (s : Record) → slice_get records i ≡ Some s → test s ≡ true → ⊥) → list_any test records ≡ false
none_of test [] other = refl
none_of test (x ∷ later) other = elim (test x) as (λ b. test x ≡ b → (b || list_any test later) ≡ false) [
  | true ↦ λ is. absurd (other 0 x refl is)
  | false ↦ λ is. none_of test later (λ i s there. other (suc i) s there)
] refl

primary_parts : (primary : ℕ) (r : Record) → is_primary primary r ≡ true → IsPrimary primary r
primary_parts primary r is = (grind (arith, nat_tests), grind (arith, nat_tests))

or_last : (a b : Bool) → b ≡ true → (a || b) ≡ true
or_last true b is = refl
or_last false b is = is

any_here : (p q : Record → Bool) (x y : Record) (records : List Record) (b : Bool) → p x ≡ b → ((r : Record) → p r ≡ true → q r ≡ true) → find p (x ∷ records) ≡ Some y → (find p records ≡ Some y → list_any q records ≡ true) → list_any q (x ∷ records) ≡ true
any_here p q x y records true test more found later = rw (more x test) refl
any_here p q x y records false test more found later = or_last (q x) (list_any q records) (later (rw test at found))

-- a test that passes where another does, which finds a record
pub any_found : (p q : Record → Bool) (records : List Record) (y : Record) → ((r : Record) → p r ≡ true → q r ≡ true) → find p records ≡ Some y → list_any q records ≡ true
any_found p q [] y more found = cc
any_found p q (x ∷ records) y more found = any_here p q x y records _ refl more found (any_found p q records y more)

-- a test that passes at one place only
lone_of : (primary : ℕ) (records : List Record) → HasOneOf primary records → Lone (is_primary primary) records
unfolding Lone
lone_of primary [] one = tt
lone_of primary (r ∷ later) one = (
  λ passes. none_of (is_primary primary) later (λ i s there also. let clash : zero ≡ suc i = one 0 (suc i) r s refl there (primary_parts primary r passes) (primary_parts primary s also) in cc),
  lone_of primary later (λ i j x y here there p q. let same : suc i ≡ suc j = one (suc i) (suc j) x y here there p q in grind arith),
)

primary_has : (primary : ℕ) (r : Record) → is_primary primary r ≡ true → has_id primary r ≡ true
primary_has primary r is = grind (arith, nat_tests)

-- ---- the whole

none-well_formed : (keys : Keys) → IsWellFormed keys → None ≡ fault_of keys
unfolding fault_of
none-well_formed keys is =
    let records = keys.records in
    let some : false ≡ (length records == 0) = let least = is.least in grind (arith, nat_tests) in
    let there = any_found (is_primary keys.primary) (has_id keys.primary) records is.primary.0 (primary_has keys.primary) is.primary.1 in
    let enabled = any_found (is_primary keys.primary) (is_primary keys.primary) records is.primary.0 (λ r passes. passes) is.primary.1 in
    on _ (fails faults.Empty some)
    (on _ (fewer (length records) faults.TooMany is.most)
    (on _ (nowhere faults.UnknownStatus (nowhere_without IsKnown has_status records known_status is.known))
    (on _ (nowhere faults.UnknownPrefix (nowhere_without IsKnown has_prefix records known_prefix is.known))
    (on _ (nowhere faults.UnknownMaterial (nowhere_without HasData has_material records data_material is.has_data))
    (on _ (nowhere faults.MissingKeyData (nowhere_without HasData has_key_data records data_url is.has_data))
    (on _ (fails faults.NoPrimary (sym (ap not there)))
    (on _ (fails faults.PrimaryNotEnabled (sym (ap not enabled)))
    (on _ (nowhere ambiguous (sym (two-lone (is_primary keys.primary) records (lone_of keys.primary records is.one_primary)))) end))))))))

pub faultless-well_formed : (keys : Keys) → IsWellFormed keys → fault_of keys ≡ None
faultless-well_formed keys is = sym (none-well_formed keys is)
