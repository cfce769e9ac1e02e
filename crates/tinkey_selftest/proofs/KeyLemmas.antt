-- A keyset has a key: the test and the laws' word for it.
use Rattle.std.proofs.Common.{◌≡◌, ◌∙◌, refl, ap, ℕ, zero, suc, true, false, List, [], ◌∷◌, Some, eq-eqb, eqb-true}
use Rattle.std.specs.Prelude.{slice_get, ◌||◌}
use Rattle.std.specs.List.{list_any}
use Rattle.std.proofs.lemmas.Bool.{and_from, and_parts}
use Rattle.std.proofs.lemmas.Option.{same_Some}
use Rattle.std.proofs.lemmas.Slice.Eq.{bytes_eq-Decides}
use Rattle.keyset_model.specs.declared.record.Record.{Record}
use Rattle.tinkey_selftest.specs.Laws.{KeysAreFound}
use Rattle.tinkey_selftest.specs.Trial.{is_same_key}
use Rattle.tinkey_session.proofs.Options.{clash, no_truth}
use Rattle.wrapped_prims.specs.Laws.{IsSameKey}

same_told : (r s : Record) → is_same_key r s ≡ true → IsSameKey r s
same_told r s e =
    let one = and_parts _ _ e in
    let two = and_parts _ _ one.1 in
    let three = and_parts _ _ two.1 in
    let four = and_parts _ _ three.1 in
    let five = and_parts _ _ four.1 in
    record {
      enabled = eqb-true s.status 1 one.0;
      id = eqb-true s.id r.id two.0;
      prefix = eqb-true s.prefix r.prefix three.0;
      url = (bytes_eq-Decides s.url r.url).0 four.0;
      value = (bytes_eq-Decides s.value r.value).0 five.0;
      material = eqb-true s.material r.material five.1;
    }

same_test : (r s : Record) → IsSameKey r s → is_same_key r s ≡ true
same_test r s same =
    and_from _ _ (eq-eqb s.status 1 same.enabled)
    (and_from _ _ (eq-eqb s.id r.id same.id)
    (and_from _ _ (eq-eqb s.prefix r.prefix same.prefix)
    (and_from _ _ ((bytes_eq-Decides s.url r.url).1 same.url)
    (and_from _ _ ((bytes_eq-Decides s.value r.value).1 same.value) (eq-eqb s.material r.material same.material)))))

told_in : (r : Record) (rs : List Record) → list_any (is_same_key r) rs ≡ true → (place : ℕ) × (other : Record) × (slice_get rs place ≡ Some other) × IsSameKey r other
told_in r [] e = no_truth e
told_in r (s ∷ rs) e = elim (is_same_key r s) as (λ b. is_same_key r s ≡ b → (b || list_any (is_same_key r) rs) ≡ true
    → (place : ℕ) × (other : Record) × (slice_get (s ∷ rs) place ≡ Some other) × IsSameKey r other) [
      | true ↦ λ t k. (0, s, refl, same_told r s t)
      | false ↦ λ t k. let later = told_in r rs k in (suc later.0, later.1, later.2, later.3)
    ] refl e

test_in : (r other : Record) (rs : List Record) (place : ℕ) → slice_get rs place ≡ Some other → IsSameKey r other → list_any (is_same_key r) rs ≡ true
test_in r other [] place at same = clash at
test_in r other (s ∷ rs) zero at same = ap (λ b. b || list_any (is_same_key r) rs) (ap (is_same_key r) (same_Some _ _ at) ∙ same_test r other same)
test_in r other (s ∷ rs) (suc place) at same = elim (is_same_key r s) as (λ b. (b || list_any (is_same_key r) rs) ≡ true) [
  | true ↦ refl
  | false ↦ test_in r other rs place at same
]

pub keys_are_found : KeysAreFound
keys_are_found r keys = (
  λ e. let found = told_in r keys.records e in record { place = found.0; other = found.1; there = found.2; same = found.3 },
  λ has. test_in r has.other keys.records has.place has.there has.same,
)
