-- The primary record of a keyset.
use Rattle.std.proofs.Common.{◌≡◌, ◌∙◌, ap, sym, refl, subst, Bool, true, false, ℕ, ◌<◌, ◌≤◌, List, [], ◌∷◌, length, Some, None, arith}
use Rattle.std.specs.Prelude.{find, nat_lt, slice_get, position}
use Rattle.std.specs.List.{AllByRecursion, list_any, position_or_len}
use Rattle.std.proofs.lemmas.Bool.Decides.{nat_tests}
use Rattle.std.proofs.lemmas.List.Folds.{find_at}
use Rattle.std.proofs.lemmas.Option.{slice_get_past}
use Rattle.keyset_model.specs.declared.record.Record.{Record}
use Rattle.keyset_model.specs.Keyset.{Keys, is_primary, primary_of, fault_of}
use Rattle.keyset_model.specs.WellFormed.{IsPrimary, IsWellFormed}
use Rattle.keyset_model.proofs.WellFormedLemmas.{lone-places, whole-faultless, all_known, all_data, least_records, most_records}

-- an element that is found passes the test
passes_here : {A : Type 0} (p : A → Bool) (x y : A) (xs : List A) (b : Bool) → p x ≡ b → find p (x ∷ xs) ≡ Some y → (find p xs ≡ Some y → p y ≡ true) → p y ≡ true
passes_here p x y xs true test found later = let same : Some x ≡ Some y = rw test at found in cc
passes_here p x y xs false test found later = later (rw test at found)

pub found_passes : {A : Type 0} (p : A → Bool) (xs : List A) (y : A) → find p xs ≡ Some y → p y ≡ true
found_passes p [] y found = cc
found_passes p (x ∷ xs) y found = passes_here p x y xs _ refl found (found_passes p xs y)

-- where one passes, one is found
found_here : {A : Type 0} (p : A → Bool) (x : A) (xs : List A) (b : Bool) → p x ≡ b → list_any p (x ∷ xs) ≡ true → (list_any p xs ≡ true → (y : A) × (find p xs ≡ Some y)) → (y : A) × (find p (x ∷ xs) ≡ Some y)
found_here p x xs true test any later = (x, rw test refl)
found_here p x xs false test any later = let there = later (rw test at any) in (there.0, rw test there.1)

pub found_there : {A : Type 0} (p : A → Bool) (xs : List A) → list_any p xs ≡ true → (y : A) × (find p xs ≡ Some y)
found_there p [] any = let clash : false ≡ true = any in cc
found_there p (x ∷ xs) any = found_here p x xs _ refl any (found_there p xs)

-- a record that is primary is ENABLED and has the primary id
pub primary_status : (primary : ℕ) (r : Record) → is_primary primary r ≡ true → r.status ≡ 1
primary_status primary r is = grind (arith, nat_tests)

pub primary_id : (primary : ℕ) (r : Record) → is_primary primary r ≡ true → r.id ≡ primary
primary_id primary r is = grind (arith, nat_tests)

pub primary_enabled : (keys : Keys) (r : Record) → primary_of keys ≡ Some r → r.status ≡ 1
primary_enabled keys r found = primary_status keys.primary r (found_passes (is_primary keys.primary) keys.records r found)

-- without a fault there is a primary record
pub primary_there : (keys : Keys) → fault_of keys ≡ None → (r : Record) × (primary_of keys ≡ Some r)
primary_there keys is = found_there (is_primary keys.primary) keys.records (whole-faultless keys is).primary

-- the primary id is that of a record, so what holds of all records holds of one with it
all_found : {A : Type 0} (P : A → Type 0) (p : A → Bool) (x y : A) (xs : List A) (b : Bool) → p x ≡ b → find p (x ∷ xs) ≡ Some y → P x → (find p xs ≡ Some y → P y) → P y
all_found P p x y xs true test found first later = let same : Some x ≡ Some y = rw test at found in let is : x ≡ y = cc in subst P is first
all_found P p x y xs false test found first later = later (rw test at found)

found_all : {A : Type 0} (P : A → Type 0) (p : A → Bool) (xs : List A) (y : A) → find p xs ≡ Some y → AllByRecursion P xs → P y
found_all P p [] y found all = cc
found_all P p (x ∷ xs) y found all = all_found P p x y xs _ refl found all.0 (λ later. found_all P p xs y later all.1)

pub primary_same : (P : Record → Type 0) (keys : Keys) → fault_of keys ≡ None → AllByRecursion P keys.records → (r : Record) × P r × (r.id ≡ keys.primary)
primary_same P keys faultless all =
    let there = primary_there keys faultless in
    let passes = found_passes (is_primary keys.primary) keys.records there.0 there.1 in
    (there.0, found_all P (is_primary keys.primary) keys.records there.0 there.1 all, primary_id keys.primary there.0 passes)

pub primary_missing : (keys : Keys) → fault_of keys ≡ None → primary_of keys ≡ None → ⊥
primary_missing keys is none = let there = primary_there keys is in let clash : None ≡ Some there.0 = sym none ∙ there.1 in cc

-- what a position is of
at_place : {A : Type 0} (p : A → Bool) (xs : List A) (i : ℕ) (b : Bool) → nat_lt (position_or_len p xs) (length xs) ≡ b → Some i ≡ position p xs → i ≡ position_or_len p xs
at_place p xs i true is place = let same : Some i ≡ Some (position_or_len p xs) = rw is at place in cc
at_place p xs i false is place = let clash : Some i ≡ None = rw is at place in cc

pub at_position : {A : Type 0} (p : A → Bool) (xs : List A) (i : ℕ) → Some i ≡ position p xs → find p xs ≡ slice_get xs i
at_position p xs i place = find_at p xs ∙ ap (slice_get xs) (sym (at_place p xs i _ refl place))

within_place : {A : Type 0} (p : A → Bool) (xs : List A) (i : ℕ) (b : Bool) → nat_lt (position_or_len p xs) (length xs) ≡ b → Some i ≡ position p xs → i < length xs
within_place p xs i true is place = let at = at_place p xs i true is place in grind (arith, nat_tests)
within_place p xs i false is place = let clash : Some i ≡ None = rw is at place in cc

pub position_within : {A : Type 0} (p : A → Bool) (xs : List A) (i : ℕ) → Some i ≡ position p xs → i < length xs
position_within p xs i place = within_place p xs i _ refl place

no_place : {A : Type 0} (p : A → Bool) (xs : List A) (b : Bool) → nat_lt (position_or_len p xs) (length xs) ≡ b → None ≡ position p xs → length xs ≤ position_or_len p xs
no_place p xs true is place = let clash : None ≡ Some (position_or_len p xs) = rw is at place in cc
no_place p xs false is place = grind (arith, nat_tests)

pub no_position : {A : Type 0} (p : A → Bool) (xs : List A) → None ≡ position p xs → find p xs ≡ None
no_position p xs place = find_at p xs ∙ slice_get_past xs _ (no_place p xs _ refl place)

is_primary_of : (primary : ℕ) (r : Record) → IsPrimary primary r → is_primary primary r ≡ true
is_primary_of primary r is = let id = is.0 in let status = is.1 in grind (arith, nat_tests)

pub well_formed-faultless : (keys : Keys) → fault_of keys ≡ None → IsWellFormed keys
well_formed-faultless keys faultless =
    let there = primary_there keys faultless in
    let passes = found_passes (is_primary keys.primary) keys.records there.0 there.1 in
    record {
      least = least_records keys faultless;
      most = most_records keys faultless;
      known = all_known keys faultless;
      has_data = all_data keys faultless;
      primary = (there.0, there.1, primary_id keys.primary there.0 passes, primary_status keys.primary there.0 passes);
      one_primary = λ i j r s here also p q. lone-places (is_primary keys.primary) keys.records i j r s (whole-faultless keys faultless).lone here also (is_primary_of keys.primary r p) (is_primary_of keys.primary s q);
    }
