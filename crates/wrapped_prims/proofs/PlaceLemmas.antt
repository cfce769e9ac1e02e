-- Where the records with a prefix stand, and what a look-up in the index of them gives.
use Rattle.std.proofs.Common.{◌≡◌, ◌∙◌, refl, sym, ap, ℕ, ◌+◌, Bool, true, false, ◌&&◌, ◌||◌, not, cond, List, [], ◌∷◌, map, filter, length, Option, Some, None, unwrap_or}
use native.Mathlib.Numerals.{unary_clauses}
use Rattle.std.specs.Prelude.{◌==◌, slice_get}
use Rattle.std.specs.List.{cons_option, filter_map, list_any}
use Rattle.std.specs.Map.{lookup}
use Rattle.std.specs.Str.{bytes_eq}
use Rattle.std.proofs.lemmas.Cmp.{nat_list_eq_equiv}
use Rattle.std.proofs.lemmas.Map.Views.{any-filter_same}
use Rattle.std.proofs.lemmas.Slice.Eq.{bytes_eq-Decides}
use Rattle.keyset_model.specs.Keyset.{is_enabled}
use Rattle.keyset_model.specs.declared.record.Record.{Record}
use Rattle.wrapped_prims.proofs.PrefixLemmas.{five-prefix_of}
use Rattle.wrapped_prims.specs.Candidates.{enabled_with, is_enabled_with, prefix_of, same_prefix}
use Rattle.wrapped_prims.specs.Held.{places_at}
use Rattle.wrapped_prims.specs.Laws.{IndexFinds, PlacesGive}
use Rattle.wrapped_prims.specs.Prefixes.{once, own_prefix, places_from, places_of, prefix_index, prefixes}

clash : {X P : Type 0} (x : X) → None ≡ Some x → P
clash x h = absurd cc

-- ---- lists of bytes

pub same_bytes : (a b : List ℕ) → bytes_eq a b ≡ true → a ≡ b
same_bytes a b e = (bytes_eq-Decides a b).0 e

pub turned : (a b : List ℕ) → bytes_eq a b ≡ bytes_eq b a
turned a b = nat_list_eq_equiv.symm a b

-- ---- one record more

-- a record has a prefix for the index as it has it for the candidates
enabled_by : (r : Record) (prefix : List ℕ) → is_enabled_with (Some prefix) r ≡ same_prefix (own_prefix r) (Some prefix)
enabled_by r prefix = by (is_enabled r)
  where
    by : (b : Bool) → (b && same_prefix (prefix_of r) (Some prefix)) ≡ same_prefix (cond b (prefix_of r) None) (Some prefix)
    by true = refl
    by false = refl

places_by : (n : ℕ) (prefix : List ℕ) (r : Record) (rs : List Record) (own : Option (List ℕ)) → own_prefix r ≡ own
    → places_from n (Some prefix) (r ∷ rs) ≡ cond (same_prefix own (Some prefix)) (n ∷ places_from (n + 1) (Some prefix) rs) (places_from (n + 1) (Some prefix) rs)
places_by n prefix r rs own e =
    ap (λ b. cond b (n ∷ places_from (n + 1) (Some prefix) rs) (places_from (n + 1) (Some prefix) rs)) (enabled_by r prefix ∙ ap (λ o. same_prefix o (Some prefix)) e)

-- the record has none
pub places_past : (n : ℕ) (prefix : List ℕ) (r : Record) (rs : List Record) → own_prefix r ≡ None → places_from n (Some prefix) (r ∷ rs) ≡ places_from (n + 1) (Some prefix) rs
places_past n prefix r rs e = places_by n prefix r rs None e

-- it has another one
pub places_other : (n : ℕ) (prefix : List ℕ) (r : Record) (rs : List Record) (own : List ℕ) → own_prefix r ≡ Some own → bytes_eq own prefix ≡ false → places_from n (Some prefix) (r ∷ rs) ≡ places_from (n + 1) (Some prefix) rs
places_other n prefix r rs own e other =
    places_by n prefix r rs (Some own) e ∙ ap (λ b. cond b (n ∷ places_from (n + 1) (Some prefix) rs) (places_from (n + 1) (Some prefix) rs)) other

-- it has this one
pub places_own : (n : ℕ) (r : Record) (rs : List Record) (own : List ℕ) → own_prefix r ≡ Some own → places_from n (Some own) (r ∷ rs) ≡ n ∷ places_from (n + 1) (Some own) rs
places_own n r rs own e =
    places_by n own r rs (Some own) e ∙ ap (λ b. cond b (n ∷ places_from (n + 1) (Some own) rs) (places_from (n + 1) (Some own) rs)) ((bytes_eq-Decides own own).1 refl)

-- ---- the records at the places

places_later : (n : ℕ) (prefix : Option (List ℕ)) (rs : List Record) → places_from (n + 1) prefix rs ≡ map (λ i. i + 1) (places_from n prefix rs)
places_later n prefix [] = refl
places_later n prefix (r ∷ rs) = by (is_enabled_with prefix r) (places_later (n + 1) prefix rs)
  where
    by : (b : Bool) → places_from (n + 1 + 1) prefix rs ≡ map (λ i. i + 1) (places_from (n + 1) prefix rs)
        → cond b ((n + 1) ∷ places_from (n + 1 + 1) prefix rs) (places_from (n + 1 + 1) prefix rs) ≡ map (λ i. i + 1) (cond b (n ∷ places_from (n + 1) prefix rs) (places_from (n + 1) prefix rs))
    by true h = ap (λ places. (n + 1) ∷ places) h
    by false h = h

get_later : {X : Type 0} (x : X) (xs : List X) (i : ℕ) → slice_get (x ∷ xs) (i + 1) ≡ slice_get xs i
get_later x xs i = simp unary_clauses refl

gets_later : {X : Type 0} (x : X) (xs : List X) (places : List ℕ) → map (slice_get (x ∷ xs)) (map (λ i. i + 1) places) ≡ map (slice_get xs) places
gets_later x xs [] = refl
gets_later x xs (i ∷ places) = λ j. get_later x xs i j ∷ gets_later x xs places j

pub places_give : PlacesGive
places_give prefix [] = refl
places_give prefix (r ∷ rs) =
    by (is_enabled_with prefix r) (ap (map (slice_get (r ∷ rs))) (places_later 0 prefix rs) ∙ gets_later r rs (places_of prefix rs) ∙ places_give prefix rs)
  where
    by : (b : Bool) → map (slice_get (r ∷ rs)) (places_from (0 + 1) prefix rs) ≡ map Some (enabled_with prefix rs)
        → map (slice_get (r ∷ rs)) (cond b (0 ∷ places_from (0 + 1) prefix rs) (places_from (0 + 1) prefix rs)) ≡ map Some (cond b (r ∷ enabled_with prefix rs) (enabled_with prefix rs))
    by true h = ap (λ found. Some r ∷ found) h
    by false h = h

-- ---- what is looked up

lookup_each : (f : List ℕ → List ℕ) (prefix : List ℕ) (others : List (List ℕ)) → lookup (bytes_eq prefix) (map (λ other. (other, f other)) others) ≡ cond (list_any (bytes_eq prefix) others) (Some (f prefix)) None
lookup_each f prefix [] = refl
lookup_each f prefix (other ∷ others) = by (lookup_each f prefix others) (bytes_eq prefix other) refl
  where
    by : lookup (bytes_eq prefix) (map (λ other. (other, f other)) others) ≡ cond (list_any (bytes_eq prefix) others) (Some (f prefix)) None
        → (b : Bool) → bytes_eq prefix other ≡ b
        → cond b (Some (f other)) (lookup (bytes_eq prefix) (map (λ other. (other, f other)) others)) ≡ cond (b || list_any (bytes_eq prefix) others) (Some (f prefix)) None
    by later true e = ap (λ p. Some (f p)) (sym (same_bytes prefix other e))
    by later false e = later

any_once : (prefix : List ℕ) (all : List (List ℕ)) → list_any (bytes_eq prefix) (once all) ≡ list_any (bytes_eq prefix) all
any_once prefix [] = refl
any_once prefix (first ∷ others) = by (any_once prefix others) (bytes_eq prefix first) refl
  where
    by : list_any (bytes_eq prefix) (once others) ≡ list_any (bytes_eq prefix) others → (b : Bool) → bytes_eq prefix first ≡ b
        → (b || list_any (bytes_eq prefix) (filter (λ other. not (bytes_eq first other)) (once others))) ≡ (b || list_any (bytes_eq prefix) others)
    by later true e = refl
    by later false e =
        any-filter_same (bytes_eq prefix) (λ other. not (bytes_eq first other)) true (λ other same. ap (λ p. not (bytes_eq first p)) (sym (same_bytes prefix other same)) ∙ ap not (turned first prefix ∙ e)) (once others)
        ∙ later

or_parts : (a b : Bool) → (a || b) ≡ false → (a ≡ false) × (b ≡ false)
or_parts true b e = absurd cc
or_parts false b e = (refl, e)

-- no record has the prefix
places_absent : (n : ℕ) (prefix : List ℕ) (rs : List Record) → list_any (bytes_eq prefix) (filter_map own_prefix rs) ≡ false → places_from n (Some prefix) rs ≡ []
places_absent n prefix [] none = refl
places_absent n prefix (r ∷ rs) none = by (places_absent (n + 1) prefix rs) (own_prefix r) refl none
  where
    by : (list_any (bytes_eq prefix) (filter_map own_prefix rs) ≡ false → places_from (n + 1) (Some prefix) rs ≡ [])
        → (own : Option (List ℕ)) → own_prefix r ≡ own → list_any (bytes_eq prefix) (cons_option own (filter_map own_prefix rs)) ≡ false → places_from n (Some prefix) (r ∷ rs) ≡ []
    by later None e h = places_past n prefix r rs e ∙ later h
    by later (Some own) e h =
        let both : (bytes_eq prefix own ≡ false) × (list_any (bytes_eq prefix) (filter_map own_prefix rs) ≡ false) = or_parts (bytes_eq prefix own) (list_any (bytes_eq prefix) (filter_map own_prefix rs)) h in
        places_other n prefix r rs own e (turned own prefix ∙ both.0) ∙ later both.1

pub index_finds : IndexFinds
index_finds prefix rs =
    ap (λ found. unwrap_or found []) (lookup_each (λ p. places_of (Some p) rs) prefix (prefixes rs) ∙ ap (λ b. cond b (Some (places_of (Some prefix) rs)) None) (any_once prefix (filter_map own_prefix rs)))
    ∙ by (list_any (bytes_eq prefix) (filter_map own_prefix rs)) refl
  where
    by : (b : Bool) → list_any (bytes_eq prefix) (filter_map own_prefix rs) ≡ b → unwrap_or (cond b (Some (places_of (Some prefix) rs)) None) [] ≡ places_of (Some prefix) rs
    by true e = refl
    by false e = sym (places_absent 0 prefix rs e)

-- ---- prefixes have five bytes

own_is_prefix : (r : Record) (own : List ℕ) → own_prefix r ≡ Some own → prefix_of r ≡ Some own
own_is_prefix r own = by (is_enabled r)
  where
    by : (b : Bool) → cond b (prefix_of r) None ≡ Some own → prefix_of r ≡ Some own
    by true e = e
    by false e = clash _ e

five_bytes : (r : Record) (own : List ℕ) → own_prefix r ≡ Some own → length own ≡ 5
five_bytes r own e = sym (ap length (five-prefix_of r own (own_is_prefix r own e)))

only_five : (prefix : List ℕ) (rs : List Record) → (length prefix == 5) ≡ false → list_any (bytes_eq prefix) (filter_map own_prefix rs) ≡ false
only_five prefix [] other = refl
only_five prefix (r ∷ rs) other = by (only_five prefix rs other) (own_prefix r) refl
  where
    by : list_any (bytes_eq prefix) (filter_map own_prefix rs) ≡ false → (own : Option (List ℕ)) → own_prefix r ≡ own → list_any (bytes_eq prefix) (cons_option own (filter_map own_prefix rs)) ≡ false
    by later None e = later
    by later (Some own) e = ap (λ b. b || list_any (bytes_eq prefix) (filter_map own_prefix rs)) (unlike (bytes_eq prefix own) refl) ∙ later
      where
        unlike : (b : Bool) → bytes_eq prefix own ≡ b → b ≡ false
        unlike false same = refl
        unlike true same = sym (ap (λ n. n == 5) (ap length (same_bytes prefix own same) ∙ five_bytes r own e)) ∙ other

-- a look-up of any bytes gives the places that have them as a prefix
pub places_at-index : (prefix : List ℕ) (rs : List Record) → places_at prefix (prefix_index rs) ≡ places_of (Some prefix) rs
places_at-index prefix rs = by (length prefix == 5) refl
  where
    by : (b : Bool) → (length prefix == 5) ≡ b → cond b (unwrap_or (lookup (bytes_eq prefix) (prefix_index rs)) []) [] ≡ places_of (Some prefix) rs
    by true e = index_finds prefix rs
    by false e = sym (places_absent 0 prefix rs (only_five prefix rs e))
