-- Records without a fault, by their parts.
use Rattle.std.proofs.Common.{◌≡◌, ◌∙◌, ◌⊎◌, inl, inr, ℕ, suc, ◌+◌, ◌<◌, ◌≤◌, ◌==◌, nat_lt, Bool, true, false, cond, not, ◌&&◌, ◌||◌, ltb, List, [], ◌∷◌, ◌++◌, length, position, Option, Some, None, option_map, refl, sym, ap, arith, subst, zero}
use Rattle.std.specs.Prelude.{slice_get, nat_le, drop, ◌↔◌}
use Rattle.std.specs.Option.{option_and_then}
use Rattle.std.specs.List.{list_any, prefix_len, AllByRecursion}
use Rattle.std.proofs.lemmas.Bool.{true≢false, or_parts, ltb-false, le-ltb, lt-ltb}
use Rattle.std.proofs.lemmas.Bool.Decides.{nat_tests}
use Rattle.keyset_model.specs.declared.record.Record.{Record}
use Rattle.keyset_model.specs.declared.keyset.KeysetRefusal.{KeysetRefusal}
use Rattle.keyset_model.specs.declared.keyset.KeysetRefusal.TheVariants as faults
use Rattle.keyset_model.specs.Keyset.{Keys, IsKnown, has_status, has_prefix, has_material, has_key_data, is_primary, first_some, when, first_without, pair_from, next_behind, first_two, ambiguous, fault_of}
use Rattle.keyset_model.specs.WellFormed.{HasData}

some≢none : {A : Type 0} {x : A} → Some x ≡ None → ⊥
some≢none e = grind arith

any_where : {A : Type 0} (p : A → Bool) (xs : List A) → length xs ≤ prefix_len (λ x. not (p x)) xs → list_any p xs ≡ false
any_where p [] h = refl
any_where p (x ∷ xs) h = elim (p x) as (λ b. suc (length xs) ≤ cond (not b) (1 + prefix_len (λ x. not (p x)) xs) 0 → (b || list_any p xs) ≡ false) [
  | true ↦ λ k. absurd (omega arith)
  | false ↦ λ k. any_where p xs (omega arith)
] h

-- where no place is found, no element passes
pub any-position : {A : Type 0} (p : A → Bool) (xs : List A) → position p xs ≡ None → list_any p xs ≡ false
any-position p xs e = any_where p xs (ltb-false _ _ (go (ltb (prefix_len (λ x. not (p x)) xs) (length xs)) e))
  where
    go : (b : Bool) → cond b (Some (prefix_len (λ x. not (p x)) xs)) None ≡ None → b ≡ false
    go true e = absurd (some≢none e)
    go false e = refl

-- a test that no element fails
each_passes : (p : Record → Bool) (xs : List Record) → list_any (λ x. not (p x)) xs ≡ false → AllByRecursion (λ x. p x ≡ true) xs
each_passes p [] h = tt
each_passes p (x ∷ xs) h = elim (p x) as (λ b. (not b || list_any (λ x. not (p x)) xs) ≡ false → (b ≡ true) × AllByRecursion (λ x. p x ≡ true) xs) [
  | true ↦ λ k. (refl, each_passes p xs k)
  | false ↦ λ k. absurd (true≢false k)
] h

pub any-append : {A : Type 0} (p : A → Bool) (xs ys : List A) → list_any p (xs ++ ys) ≡ (list_any p xs || list_any p ys)
any-append p [] ys = refl
any-append p (x ∷ xs) ys = elim (p x) as (λ b. (b || list_any p (xs ++ ys)) ≡ ((b || list_any p xs) || list_any p ys)) [ true ↦ refl | false ↦ any-append p xs ys ]

-- ---- options

pub first_none : {A : Type 0} (o : Option A) (later : List (Option A)) → first_some (o ∷ later) ≡ None → (o ≡ None) × (first_some later ≡ None)
unfolding first_some
first_none None later e = (refl, e)
first_none (Some x) later e = absurd (some≢none e)

pub when-none : {A : Type 0} (b : Bool) (x : A) → when b x ≡ None → b ≡ false
unfolding when
when-none true x e = absurd (some≢none e)
when-none false x e = refl

pub map-none : {A B : Type 0} (f : A → B) (o : Option A) → option_map f o ≡ None → o ≡ None
map-none f None e = refl
map-none f (Some x) e = absurd (some≢none e)

pub not-false' : (b : Bool) → not b ≡ false → b ≡ true
not-false' true e = refl
not-false' false e = absurd (true≢false e)

-- ---- one record that passes

-- where no element passes, there is no place
whole_here : {A : Type 0} (p : A → Bool) (x : A) (xs : List A) (b : Bool) → p x ≡ b → list_any p (x ∷ xs) ≡ false → (list_any p xs ≡ false → prefix_len (λ x. not (p x)) xs ≡ length xs) → prefix_len (λ x. not (p x)) (x ∷ xs) ≡ length (x ∷ xs)
whole_here p x xs true test none later = let clash : true ≡ false = rw test at none in cc
whole_here p x xs false test none later = rw (test, later (rw test at none)) (omega arith)

whole_prefix : {A : Type 0} (p : A → Bool) (xs : List A) → list_any p xs ≡ false → prefix_len (λ x. not (p x)) xs ≡ length xs
whole_prefix p [] none = refl
whole_prefix p (x ∷ xs) none = whole_here p x xs _ refl none (whole_prefix p xs)

pub position-none : {A : Type 0} (p : A → Bool) (xs : List A) → list_any p xs ≡ false → position p xs ≡ None
position-none p xs none = rw (whole_prefix p xs none, le-ltb (length xs) (length xs) (omega arith)) refl

-- an element that passes is at place 0, and one that doesn't moves the place on
position-here : {A : Type 0} (p : A → Bool) (x : A) (xs : List A) → p x ≡ true → position p (x ∷ xs) ≡ Some 0
position-here p x xs test = rw test (ap (λ b. cond b (Some 0) None) (lt-ltb 0 (suc (length xs)) (omega arith)))

steps_as : (n m : ℕ) (b : Bool) → nat_lt n m ≡ b → nat_lt (suc n) (suc m) ≡ b
steps_as n m true is = let less : n < m = grind (arith, nat_tests) in lt-ltb (suc n) (suc m) (omega (arith, less))
steps_as n m false is = let not_less : m ≤ n = ltb-false n m is in le-ltb (suc n) (suc m) (omega (arith, not_less))

pub position-past : {A : Type 0} (p : A → Bool) (x : A) (xs : List A) → p x ≡ false → position p (x ∷ xs) ≡ option_map suc (position p xs)
position-past p x xs test =
    let one : 1 + prefix_len (λ x. not (p x)) xs ≡ suc (prefix_len (λ x. not (p x)) xs) = omega arith in
    let steps = steps_as (prefix_len (λ x. not (p x)) xs) (length xs) _ refl in
    rw (test, one) (ap (λ b. cond b (Some (suc (prefix_len (λ x. not (p x)) xs))) None) steps ∙ go (ltb (prefix_len (λ x. not (p x)) xs) (length xs)))
  where
    go : (b : Bool) → cond b (Some (suc (prefix_len (λ x. not (p x)) xs))) None ≡ option_map suc (cond b (Some (prefix_len (λ x. not (p x)) xs)) None)
    go true = refl
    go false = refl

-- at most one record passes
unfoldable pub Lone : (Record → Bool) → List Record → Type 0
Lone test [] = Unit {0}
Lone test (r ∷ later) = (test r ≡ true → list_any test later ≡ false) × Lone test later

pub lone-none : (test : Record → Bool) (records : List Record) → list_any test records ≡ false → Lone test records
unfolding Lone
lone-none test [] e = tt
lone-none test (r ∷ later) e = let parts = or_parts _ _ e in (λ k. parts.1, lone-none test later parts.1)

-- behind a record that doesn't pass two are found where they are found without it
none-past : (test : Record → Bool) (later : List Record) (o : Option ℕ) → (option_and_then (next_behind test later) o ≡ None) ↔ (option_and_then (λ i. option_map (pair_from (suc i)) (position test (drop (suc i) later))) o ≡ None)
none-past test later None = (λ e. refl, λ e. refl)
none-past test later (Some i) = (λ e. ap (option_map (pair_from (suc i))) (map-none (pair_from i) _ e), λ e. ap (option_map (pair_from i)) (map-none (pair_from (suc i)) _ e))

and_then-map : (next : ℕ → Option (ℕ × ℕ)) (o : Option ℕ) → option_and_then next (option_map suc o) ≡ option_and_then (λ i. next (suc i)) o
and_then-map next None = refl
and_then-map next (Some i) = refl

two-past : (test : Record → Bool) (r : Record) (later : List Record) → test r ≡ false → first_two test (r ∷ later) ≡ option_and_then (λ i. option_map (pair_from (suc i)) (position test (drop (suc i) later))) (position test later)
unfolding first_two
two-past test r later fails = ap (option_and_then (next_behind test (r ∷ later))) (position-past test r later fails) ∙ and_then-map (next_behind test (r ∷ later)) (position test later)

two-here : (test : Record → Bool) (r : Record) (later : List Record) → test r ≡ true → first_two test (r ∷ later) ≡ option_map (pair_from 0) (position test later)
unfolding first_two
two-here test r later passes = ap (option_and_then (next_behind test (r ∷ later))) (position-here test r later passes)

pub lone-two : (test : Record → Bool) (records : List Record) → first_two test records ≡ None → Lone test records
unfolding Lone first_two
lone-two test [] e = tt
lone-two test (r ∷ later) e = elim (test r) as (λ b. test r ≡ b → (test r ≡ true → list_any test later ≡ false) × Lone test later) [
  | true ↦ λ t. let others = any-position test later (map-none (pair_from 0) _ (sym (two-here test r later t) ∙ e)) in (λ h. others, lone-none test later others)
  | false ↦ λ t. (λ h. absurd (true≢false (sym h ∙ t)), lone-two test later ((none-past test later (position test later)).1 (sym (two-past test r later t) ∙ e)))
] refl

pub two-lone : (test : Record → Bool) (records : List Record) → Lone test records → first_two test records ≡ None
unfolding Lone first_two
two-lone test [] l = refl
two-lone test (r ∷ later) l = elim (test r) as (λ b. test r ≡ b → first_two test (r ∷ later) ≡ None) [
  | true ↦ λ t. two-here test r later t ∙ ap (option_map (pair_from 0)) (position-none test later (l.0 t))
  | false ↦ λ t. two-past test r later t ∙ (none-past test later (position test later)).0 (two-lone test later l.1)
] refl

-- the record at a place passes where none does
none_at : (test : Record → Bool) (records : List Record) (j : ℕ) (s : Record) → list_any test records ≡ false → slice_get records j ≡ Some s → test s ≡ true → ⊥
none_at test [] j s none there passes = cc
none_at test (r ∷ later) zero s none there passes =
    let first : Some r ≡ Some s = there in
    let is : r ≡ s = cc in
    true≢false (sym passes ∙ ap test (sym is) ∙ (or_parts _ _ none).0)
none_at test (r ∷ later) (suc j) s none there passes = none_at test later j s (or_parts _ _ none).1 there passes

-- so two places of records that pass are one
pub lone-places : (test : Record → Bool) (records : List Record) (i j : ℕ) (r s : Record) → Lone test records → slice_get records i ≡ Some r → slice_get records j ≡ Some s → test r ≡ true → test s ≡ true → i ≡ j
unfolding Lone
lone-places test [] i j r s l here there p q = cc
lone-places test (x ∷ later) zero zero r s l here there p q = refl
lone-places test (x ∷ later) zero (suc j) r s l here there p q = let same : Some x ≡ Some r = here in let is : x ≡ r = cc in absurd (none_at test later j s (l.0 (ap test is ∙ p)) there q)
lone-places test (x ∷ later) (suc i) zero r s l here there p q = let same : Some x ≡ Some s = there in let is : x ≡ s = cc in absurd (none_at test later i r (l.0 (ap test is ∙ q)) here p)
lone-places test (x ∷ later) (suc i) (suc j) r s l here there p q = ap suc (lone-places test later i j r s l.1 here there p q)

-- ---- the parts

pub record IsWhole (keys : Keys) : Type 0 where
  pub some : (length keys.records == 0) ≡ false
  pub few : nat_lt 1000 (length keys.records) ≡ false
  pub statuses : AllByRecursion (λ r. has_status r ≡ true) keys.records
  pub prefixes : AllByRecursion (λ r. has_prefix r ≡ true) keys.records
  pub materials : AllByRecursion (λ r. has_material r ≡ true) keys.records
  pub key_data : AllByRecursion (λ r. has_key_data r ≡ true) keys.records
  pub primary : list_any (is_primary keys.primary) keys.records ≡ true
  pub lone : Lone (is_primary keys.primary) keys.records

all-first_without : (test : Record → Bool) (fault : ℕ → KeysetRefusal) (records : List Record) → option_map fault (first_without test records) ≡ None → AllByRecursion (λ r. test r ≡ true) records
unfolding first_without
all-first_without test fault records e = each_passes test records (any-position (λ r. not (test r)) records (map-none fault _ e))

pub whole-faultless : (keys : Keys) → fault_of keys ≡ None → IsWhole keys
unfolding fault_of
whole-faultless keys e =
    let a = first_none _ _ e in
    let b = first_none _ _ a.1 in
    let c = first_none _ _ b.1 in
    let d = first_none _ _ c.1 in
    let f = first_none _ _ d.1 in
    let g = first_none _ _ f.1 in
    let h = first_none _ _ g.1 in
    let i = first_none _ _ h.1 in
    let j = first_none _ _ i.1 in
    record {
      some = when-none _ _ a.0;
      few = when-none _ _ b.0;
      statuses = all-first_without has_status faults.UnknownStatus keys.records c.0;
      prefixes = all-first_without has_prefix faults.UnknownPrefix keys.records d.0;
      materials = all-first_without has_material faults.UnknownMaterial keys.records f.0;
      key_data = all-first_without has_key_data faults.MissingKeyData keys.records g.0;
      primary = not-false' _ (when-none _ _ i.0);
      lone = lone-two (is_primary keys.primary) keys.records (map-none ambiguous _ j.0);
    }

-- ---- what the parts say of each record

pub known_of : (r : Record) → has_status r ≡ true → has_prefix r ≡ true → IsKnown r
known_of r status prefix = record {
  least_status = grind (arith, nat_tests);
  most_status = grind (arith, nat_tests);
  least_prefix = grind (arith, nat_tests);
  most_prefix = grind (arith, nat_tests);
}

either : (a b : Bool) → (a || b) ≡ true → (a ≡ true) ⊎ (b ≡ true)
either true b e = inl refl
either false b e = inr e

or_destroyed : (n status : ℕ) → (nat_le 1 n || status == 3) ≡ true → (1 ≤ n) ⊎ (status ≡ 3)
or_destroyed n status e = elim (either (nat_le 1 n) (status == 3) e) [
  | inl some ↦ inl (grind (arith, nat_tests))
  | inr three ↦ inr (grind (arith, nat_tests))
]

both : (a b : Bool) → (a && b) ≡ true → (a ≡ true) × (b ≡ true)
both true b e = (refl, e)
both false b e = absurd (true≢false (sym e))

pub data_of : (r : Record) → has_material r ≡ true → has_key_data r ≡ true → HasData r
data_of r material key_data =
    let parts : (nat_le r.material 4 ≡ true) × ((nat_le 1 r.material || r.status == 3) ≡ true) = both _ _ material in
    record {
      most_material = grind (arith, nat_tests);
      material = or_destroyed r.material r.status parts.1;
      url = or_destroyed (length r.url) r.status key_data;
    }

pub each_of_two : (P Q R : Record → Type 0) (xs : List Record) → ((r : Record) → P r → Q r → R r) → AllByRecursion P xs → AllByRecursion Q xs → AllByRecursion R xs
each_of_two P Q R [] f p q = tt
each_of_two P Q R (x ∷ xs) f p q = (f x p.0 q.0, each_of_two P Q R xs f p.1 q.1)

pub all_known : (keys : Keys) → fault_of keys ≡ None → AllByRecursion IsKnown keys.records
all_known keys e = let w = whole-faultless keys e in
    each_of_two _ _ IsKnown keys.records known_of w.statuses w.prefixes

pub all_data : (keys : Keys) → fault_of keys ≡ None → AllByRecursion HasData keys.records
all_data keys e = let w = whole-faultless keys e in
    each_of_two _ _ HasData keys.records data_of w.materials w.key_data

pub all_at : (P : Record → Type 0) (records : List Record) (i : ℕ) (r : Record) → AllByRecursion P records → slice_get records i ≡ Some r → P r
all_at P [] i r all there = absurd (some≢none (sym there))
all_at P (x ∷ xs) zero r all there = let same : Some x ≡ Some r = there in let is : x ≡ r = cc in subst P is all.0
all_at P (x ∷ xs) (suc i) r all there = all_at P xs i r all.1 there

-- a record of any place is known
pub record_known : (keys : Keys) (i : ℕ) (r : Record) → fault_of keys ≡ None → slice_get keys.records i ≡ Some r → IsKnown r
record_known keys i r e there = all_at IsKnown keys.records i r (all_known keys e) there

-- how many records there are
pub least_records : (keys : Keys) → fault_of keys ≡ None → 1 ≤ length keys.records
least_records keys e = let some = (whole-faultless keys e).some in grind (arith, nat_tests)

pub most_records : (keys : Keys) → fault_of keys ≡ None → length keys.records ≤ 1000
most_records keys e = ltb-false _ _ (whole-faultless keys e).few
