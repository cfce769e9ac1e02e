-- Handles that go on with a keyset which begins with the records of their own.
use Rattle.std.proofs.Common.{◌≡◌, ◌∙◌, refl, sym, ap, subst, ℕ, suc, ◌+◌, true, false, cond, Bool, List, [], ◌∷◌, ◌++◌, map, length, drop, Option, Some, None, arith}
use Rattle.std.specs.Prelude.{is_some, slice_get}
use Rattle.std.specs.List.{AllByRecursion, IsDistinct}
use Rattle.std.specs.Map.{keys_of, lookup}
use Rattle.std.specs.Str.{bytes_eq}
use Rattle.std.proofs.lemmas.Cmp.{nat_list_eq_equiv}
use Rattle.std.proofs.lemmas.List.{map-append}
use Rattle.std.proofs.lemmas.Map.{keys-set_value}
use Rattle.std.proofs.lemmas.Map.Keys.{IsDistinct-push}
use Rattle.std.proofs.lemmas.Map.Made.{is_some-lookup}
use Rattle.key_msgs.specs.declared.primitive.Primitive.{Primitive}
use Rattle.keyset_model.specs.Keyset.{Keys, primary_of}
use Rattle.keyset_model.specs.declared.record.Record.{Record}
use Rattle.managers.specs.Table.{Table}
use Rattle.wrapped_prims.proofs.IndexLemmas.{indexed_first, indexed_last, indexed_noted, indexed_past}
use Rattle.wrapped_prims.specs.Adding.{IsKept, indexed_from, noted, noted_behind}
use Rattle.wrapped_prims.specs.Candidates.{is_enabled_with}
use Rattle.wrapped_prims.specs.Fitness.{Unfit, fault_of_record, or_later, unfit_from}
use Rattle.wrapped_prims.specs.Held.{AreServed, kept_of}
use Rattle.wrapped_prims.specs.Making.{HasWordId, IsOver}
use Rattle.wrapped_prims.specs.Prefixes.{Index, own_prefix, places_from, places_of, prefix_index}
use Rattle.wrapped_prims.specs.declared.held.Held.{Held}

-- ---- lists

-- the place behind records the first of which has the place 0
pub from_first : (rs : List Record) → length rs ≡ 0 + length rs
from_first rs = omega arith

pub drop_front : {X : Type 0} (front back : List X) → drop (length front) (front ++ back) ≡ back
drop_front [] back = refl
drop_front (x ∷ front) back = drop_front front back

pub length_map : {X Y : Type 0} (f : X → Y) (xs : List X) → length (map f xs) ≡ length xs
length_map f [] = refl
length_map f (x ∷ xs) = ap suc (length_map f xs)

pub all_append : {X : Type 0} (P : X → Type 0) (front back : List X) → AllByRecursion P front → AllByRecursion P back → AllByRecursion P (front ++ back)
all_append P [] back one two = two
all_append P (x ∷ front) back one two = (one.0, all_append P front back one.1 two)

-- ---- fitness and places of records behind others

pub unfit_append : (i : ℕ) (table : Table) (p : Primitive) (rs more : List Record) → unfit_from i table p rs ≡ None → unfit_from i table p (rs ++ more) ≡ unfit_from (i + length rs) table p more
unfit_append i table p [] more fit =
    let last : i ≡ i + 0 = omega arith in
    ap (λ n. unfit_from n table p more) last
unfit_append i table p (r ∷ rs) more fit =
    let next : i + 1 + length rs ≡ i + suc (length rs) = omega arith in
    by (λ h. unfit_append (i + 1) table p rs more h ∙ ap (λ n. unfit_from n table p more) next) (fault_of_record table p r) fit
  where
    by : (unfit_from (i + 1) table p rs ≡ None → unfit_from (i + 1) table p (rs ++ more) ≡ unfit_from (i + suc (length rs)) table p more)
        → (why : Option Unfit) → or_later i why (unfit_from (i + 1) table p rs) ≡ None
        → or_later i why (unfit_from (i + 1) table p (rs ++ more)) ≡ unfit_from (i + suc (length rs)) table p more
    by later None h = later h
    by later (Some why) h = absurd cc

places_append : (i : ℕ) (prefix : Option (List ℕ)) (rs more : List Record) → places_from i prefix (rs ++ more) ≡ places_from i prefix rs ++ places_from (i + length rs) prefix more
places_append i prefix [] more =
    let last : i ≡ i + 0 = omega arith in
    ap (λ n. places_from n prefix more) last
places_append i prefix (r ∷ rs) more =
    let next : i + 1 + length rs ≡ i + suc (length rs) = omega arith in
    by (is_enabled_with prefix r) (places_append (i + 1) prefix rs more ∙ ap (λ n. places_from (i + 1) prefix rs ++ places_from n prefix more) next)
  where
    by : (b : Bool) → places_from (i + 1) prefix (rs ++ more) ≡ places_from (i + 1) prefix rs ++ places_from (i + suc (length rs)) prefix more
        → cond b (i ∷ places_from (i + 1) prefix (rs ++ more)) (places_from (i + 1) prefix (rs ++ more))
        ≡ cond b (i ∷ places_from (i + 1) prefix rs) (places_from (i + 1) prefix rs) ++ places_from (i + suc (length rs)) prefix more
    by true h = ap (λ places. i ∷ places) h
    by false h = h

-- ---- the index

-- a place that is noted leaves the prefixes distinct
distinct_noted : (own : List ℕ) (place : ℕ) (index : Index) → IsDistinct bytes_eq (keys_of index) → IsDistinct bytes_eq (keys_of (noted own place index))
distinct_noted own place index distinct = by (lookup (bytes_eq own) index) refl
  where
    by : (found : Option (List ℕ)) → lookup (bytes_eq own) index ≡ found → IsDistinct bytes_eq (keys_of (noted_behind found own place index))
    by None e =
        subst (IsDistinct bytes_eq) (sym (map-append (λ entry. entry.0) index ((own, place ∷ []) ∷ [])))
        (IsDistinct-push nat_list_eq_equiv (keys_of index) own distinct (sym (is_some-lookup (bytes_eq own) index) ∙ ap is_some e))
    by (Some places) e = subst (IsDistinct bytes_eq) (sym (keys-set_value (bytes_eq own) index (places ++ place ∷ []))) distinct

-- the index of some records, and then of those behind them, is that of all
indexed_append : (i : ℕ) (index : Index) (rs more : List Record) → IsDistinct bytes_eq (keys_of index)
    → indexed_from (i + length rs) (indexed_from i index rs) more ≡ indexed_from i index (rs ++ more)
indexed_append i index [] more distinct =
    let last : i + 0 ≡ i = omega arith in
    (λ j. indexed_from (last j) (indexed_last i index j) more)
indexed_append i index (r ∷ rs) more distinct = by (λ x d. indexed_append (i + 1) x rs more d) (own_prefix r) refl
  where
    by : ((x : Index) → IsDistinct bytes_eq (keys_of x) → indexed_from (i + 1 + length rs) (indexed_from (i + 1) x rs) more ≡ indexed_from (i + 1) x (rs ++ more))
        → (own : Option (List ℕ)) → own_prefix r ≡ own
        → indexed_from (i + suc (length rs)) (indexed_from i index (r ∷ rs)) more ≡ indexed_from i index (r ∷ (rs ++ more))
    by later None e =
        let next : i + suc (length rs) ≡ i + 1 + length rs = omega arith in
        (λ j. indexed_from (next j) (indexed_past i index r rs e j) more)
        ∙ later index distinct
        ∙ sym (indexed_past i index r (rs ++ more) e)
    by later (Some own) e =
        let next : i + suc (length rs) ≡ i + 1 + length rs = omega arith in
        (λ j. indexed_from (next j) (indexed_noted i index r rs own e distinct j) more)
        ∙ later (noted own i index) (distinct_noted own i index distinct)
        ∙ sym (indexed_noted i index r (rs ++ more) own e distinct)

prefix_index_append : (rs more : List Record) → indexed_from (length rs) (prefix_index rs) more ≡ prefix_index (rs ++ more)
unfolding IsDistinct
prefix_index_append rs more =
    (λ j. indexed_from (from_first rs j) (sym (indexed_first rs) j) more)
    ∙ indexed_append 0 [] rs more tt
    ∙ indexed_first (rs ++ more)

-- ---- a handle over the records that stand first

pub over_first : (table : Table) (p : Primitive) (before keys : Keys) (old new : Held) (more : List Record)
    → keys.records ≡ before.records ++ more → IsOver table p before old
    → new.slots.items ≡ old.slots.items → new.index.entries ≡ old.index.entries → new.raw.items ≡ old.raw.items
    → slice_get keys.records new.primary ≡ primary_of keys
    → IsKept table p keys (drop (length new.slots.items) keys.records) (length new.slots.items) new
over_first table p before keys old new more same over slots index raw primary =
    let count : length new.slots.items ≡ length before.records = ap length (slots ∙ over.kept) ∙ length_map (kept_of table p) before.records in
    subst (λ n. IsKept table p keys (drop n keys.records) n new) (sym count)
    (subst (λ rs. IsKept table p keys rs (length before.records) new) (sym (ap (λ rs. drop (length before.records) rs) same ∙ drop_front before.records more))
    (record {
      fit = ap (unfit_from 0 table p) same ∙ unfit_append 0 table p before.records more over.fit ∙ ap (λ n. unfit_from n table p more) (sym (from_first before.records));
      kept = ap (λ s. s ++ map (kept_of table p) more) (slots ∙ over.kept) ∙ sym (map-append (kept_of table p) before.records more) ∙ ap (map (kept_of table p)) (sym same);
      index = ap (λ x. indexed_from (length before.records) x more) (index ∙ over.index) ∙ prefix_index_append before.records more ∙ ap prefix_index (sym same);
      raw = ap (λ r. r ++ places_from (length before.records) None more) (raw ∙ over.raw) ∙ ap (λ n. places_of None before.records ++ places_from n None more) (from_first before.records) ∙ sym (places_append 0 None before.records more) ∙ ap (places_of None) (sym same);
      primary = primary;
      served = subst (AreServed table p) (sym slots) over.served;
      words = λ later. subst (AllByRecursion HasWordId) (sym same) (all_append HasWordId before.records more over.words later);
    }))
