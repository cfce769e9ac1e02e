-- Records kept one after another.
use Rattle.std.proofs.Common.{◌≡◌, ◌∙◌, sym, refl, ap, subst, ℕ, zero, suc, ◌+◌, ◌≤◌, true, false, ◌&&◌, cond, List, [], ◌∷◌, ◌++◌, map, length, drop, Option, Some, None, option_map, Ok, Err, Result, append_assoc, append-nil}
use Rattle.std.specs.Result.{IsErrAnd, IfErr}
use Rattle.std.proofs.lemmas.List.{drop_all}
use native.Mathlib.Numerals.{unary_clauses}
use Rattle.std.specs.Prelude.{slice_get}
use Rattle.std.specs.Option.{option_and_then}
use Rattle.std.specs.List.{AllByRecursion}
use Rattle.std.proofs.lemmas.Option.{same_Some}
use Rattle.key_msgs.specs.declared.key.KeyKind.{KeyKind}
use Rattle.key_msgs.specs.declared.primitive.Primitive.{Primitive}
use Rattle.keyset_model.specs.Keyset.{Keys, fault_of, is_enabled, primary_of}
use Rattle.keyset_model.specs.declared.record.Record.{Record}
use Rattle.managers.specs.Schemes.{key_under}
use Rattle.managers.specs.Table.{Entry, Table, entries_of, place_of}
use Rattle.wrapped_prims.proofs.IndexLemmas.{indexed_first, indexed_last, indexed_noted, indexed_past}
use Rattle.wrapped_prims.proofs.OpenLemmas.{KeptAs, kept_as, off, on}
use Rattle.wrapped_prims.specs.Adding.{IsAdded, IsKept, IsOfNone, IsPlaced, IsPlacedBy, indexed_from}
use Rattle.wrapped_prims.specs.Candidates.{is_legacy, prefix_of, same_prefix}
use Rattle.wrapped_prims.specs.Fitness as fitness
use Rattle.wrapped_prims.specs.Fitness.{NotRaw, Unfit, fault_of_record, first_of_three, or_later, prefix_fault, read_key, reading_of, unfit, unfit_from}
use Rattle.wrapped_prims.specs.Held.{AreServed, IsServed, IsServedBy, kept_of, kept_with}
use Rattle.wrapped_prims.specs.Making.{HasWordId, IsCheckedBy, IsFaultOf, IsKeeping, IsOver}
use Rattle.wrapped_prims.specs.Prefixes.{places_from, places_of}
use Rattle.wrapped_prims.specs.declared.handle.HandleError.{HandleError}
use Rattle.wrapped_prims.specs.declared.handle.HandleError.TheVariants as faults
use Rattle.wrapped_prims.specs.declared.held.Held.{Held}
use Rattle.wrapped_prims.specs.declared.held.Kept.{Kept}

none_some : {X P : Type 0} (x : X) → None ≡ Some x → P
none_some x e = absurd cc

-- ---- lists

drop_suc : {X : Type 0} (xs : List X) (i : ℕ) (x : X) → slice_get xs i ≡ Some x → drop i xs ≡ x ∷ drop (suc i) xs
drop_suc [] i x e = none_some x e
drop_suc (y ∷ xs) zero x e = ap (λ z. z ∷ xs) (same_Some _ _ e)
drop_suc (y ∷ xs) (suc i) x e = drop_suc xs i x e

pub drop_here : {X : Type 0} (xs : List X) (i : ℕ) (x : X) → slice_get xs i ≡ Some x → drop i xs ≡ x ∷ drop (i + 1) xs
drop_here xs i x e = simp unary_clauses (drop_suc xs i x e)

pub each_more : {X : Type 0} (P : X → Type 0) (xs : List X) (x : X) → ((i : ℕ) (y : X) → slice_get xs i ≡ Some y → P y) → P x → (i : ℕ) (y : X) → slice_get (xs ++ x ∷ []) i ≡ Some y → P y
each_more P [] x h px zero y e = subst P (same_Some _ _ e) px
each_more P [] x h px (suc i) y e = none_some y e
each_more P (z ∷ xs) x h px zero y e = h zero y e
each_more P (z ∷ xs) x h px (suc i) y e = each_more P xs x (λ i y. h (suc i) y) px i y e

-- ---- one record

reading_found : (table : Table) (p : Primitive) (r : Record) (at : ℕ) (key : KeyKind) (entry : Option Entry)
    → place_of table p r.url ≡ Some at → slice_get (entries_of table p) at ≡ entry → IsCheckedBy entry r.value (Ok key)
    → reading_of table p r ≡ Some (Ok key)
reading_found table p r at key None placed there checked = absurd checked
reading_found table p r at key (Some entry) placed there checked =
    ap (λ place. option_map (λ s. key_under s r.value) (option_map (λ (e : Entry). e.scheme) (option_and_then (slice_get (entries_of table p)) place))) placed
    ∙ ap (λ e. option_map (λ s. key_under s r.value) (option_map (λ (e : Entry). e.scheme) e)) there
    ∙ ap Some checked

-- what was found of an ENABLED record, by the URL and the value that were handed on
pub record IsFound (table : Table) (p : Primitive) (r : Record) (at : ℕ) (key : KeyKind) (url value : List ℕ) : Type 0 where
  pub on : is_enabled r ≡ true
  pub url_is : url ≡ r.url
  pub value_is : value ≡ r.value
  pub placed : Some at ≡ place_of table p url
  pub checked : IsCheckedBy (slice_get (entries_of table p) at) value (Ok key)

reading_of_found : (table : Table) (p : Primitive) (r : Record) (at : ℕ) (key : KeyKind) (url value : List ℕ) → IsFound table p r at key url value → reading_of table p r ≡ Some (Ok key)
reading_of_found table p r at key url value f =
    reading_found table p r at key _ (ap (place_of table p) (sym f.url_is) ∙ sym f.placed) refl
    (subst (λ v. IsCheckedBy (slice_get (entries_of table p) at) v (Ok key)) f.value_is f.checked)

pub fault_found : (table : Table) (p : Primitive) (r : Record) (at : ℕ) (key : KeyKind) (url value : List ℕ) (later : Option Unfit)
    → IsFound table p r at key url value → prefix_fault p r ≡ later → fault_of_record table p r ≡ later
fault_found table p r at key url value later f last =
    ap (λ b. cond b (first_of_three (reading_of table p r) (prefix_fault p r)) None) f.on
    ∙ ap (λ o. first_of_three o (prefix_fault p r)) (reading_of_found table p r at key url value f)
    ∙ last

pub kept_here : (table : Table) (p : Primitive) (r : Record) (i at : ℕ) (key : KeyKind) (url value : List ℕ) (prefix : Option (List ℕ))
    → IsFound table p r at key url value → IsServedBy (slice_get (entries_of table p) at) key → prefix_fault p r ≡ None → prefix ≡ prefix_of r
    → IsKeeping table p r i (Ok (Some (record { place = at; prefix = prefix; is_legacy = is_legacy r; key = key })))
kept_here table p r i at key url value prefix f served last is =
    let found : kept_of table p r ≡ Some (kept_with r at key) =
    ap (λ b. cond b (option_and_then (λ at. option_map (kept_with r at) (read_key (reading_of table p r))) (place_of table p r.url)) None) f.on
    ∙ ap (option_and_then (λ at. option_map (kept_with r at) (read_key (reading_of table p r)))) (ap (place_of table p) (sym f.url_is) ∙ sym f.placed)
    ∙ ap (λ o. option_map (kept_with r at) (read_key o)) (reading_of_found table p r at key url value f) in
    (fault_found table p r at key url value None f last, ap (λ x. Some (record { place = at; prefix = x; is_legacy = is_legacy r; key = key })) is ∙ sym found, served)

-- ---- one record after another

fit_here : (table : Table) (p : Primitive) (keys : Keys) (i : ℕ) (r : Record) (why : Option Unfit)
    → unfit keys p table ≡ unfit_from i table p (drop i keys.records) → slice_get keys.records i ≡ Some r → fault_of_record table p r ≡ why
    → unfit keys p table ≡ or_later i why (unfit_from (i + 1) table p (drop (i + 1) keys.records))
fit_here table p keys i r why fit at fault =
    fit ∙ ap (unfit_from i table p) (drop_here keys.records i r at)
    ∙ ap (λ o. or_later i o (unfit_from (i + 1) table p (drop (i + 1) keys.records))) fault

-- the place of a record is kept where it is looked for
pub record IsFoundBehind (r : Record) (rs : List Record) (i : ℕ) (old new : Held) : Type 0 where
  pub index : indexed_from i old.index.entries (r ∷ rs) ≡ indexed_from (i + 1) new.index.entries rs
  pub raw : old.raw.items ++ places_from i None (r ∷ rs) ≡ new.raw.items ++ places_from (i + 1) None rs

placed_off : (r : Record) (rs : List Record) (i : ℕ) (old new : Held) → is_enabled r ≡ false → IsPlaced None i old new → IsFoundBehind r rs i old new
placed_off r rs i old new other placed = record {
  index = indexed_past i old.index.entries r rs (ap (λ b. cond b (prefix_of r) None) other) ∙ ap (λ index. indexed_from (i + 1) index rs) (sym placed.0);
  raw = ap (λ b. old.raw.items ++ cond (b && same_prefix (prefix_of r) None) (i ∷ places_from (i + 1) None rs) (places_from (i + 1) None rs)) other
      ∙ ap (λ raw. raw ++ places_from (i + 1) None rs) (sym placed.1);
}

placed_on : (r : Record) (rs : List Record) (i : ℕ) (old new : Held) (prefix : Option (List ℕ)) → is_enabled r ≡ true → prefix_of r ≡ prefix → IsPlacedBy prefix i old new → IsFoundBehind r rs i old new
placed_on r rs i old new None enabled is placed = record {
  index = indexed_past i old.index.entries r rs (ap (λ b. cond b (prefix_of r) None) enabled ∙ is) ∙ ap (λ index. indexed_from (i + 1) index rs) (sym placed.0);
  raw = ap (λ b. old.raw.items ++ cond (b && same_prefix (prefix_of r) None) (i ∷ places_from (i + 1) None rs) (places_from (i + 1) None rs)) enabled
      ∙ ap (λ o. old.raw.items ++ cond (same_prefix o None) (i ∷ places_from (i + 1) None rs) (places_from (i + 1) None rs)) is
      ∙ sym (append_assoc old.raw.items (i ∷ []) (places_from (i + 1) None rs))
      ∙ ap (λ raw. raw ++ places_from (i + 1) None rs) (sym placed.1);
}
placed_on r rs i old new (Some prefix) enabled is placed = record {
  index = indexed_noted i old.index.entries r rs prefix (ap (λ b. cond b (prefix_of r) None) enabled ∙ is) placed.2 ∙ ap (λ index. indexed_from (i + 1) index rs) (sym placed.0);
  raw = ap (λ b. old.raw.items ++ cond (b && same_prefix (prefix_of r) None) (i ∷ places_from (i + 1) None rs) (places_from (i + 1) None rs)) enabled
      ∙ ap (λ o. old.raw.items ++ cond (same_prefix o None) (i ∷ places_from (i + 1) None rs) (places_from (i + 1) None rs)) is
      ∙ ap (λ raw. raw ++ places_from (i + 1) None rs) (sym placed.1);
}

pub placed : (table : Table) (p : Primitive) (r : Record) (rs : List Record) (i : ℕ) (old new : Held) → KeptAs table p r → IsPlaced (kept_of table p r) i old new → IsFoundBehind r rs i old new
placed table p r rs i old new (off e none) is = placed_off r rs i old new e (subst (λ slot. IsPlaced slot i old new) none is)
placed table p r rs i old new (on at key e read some) is = placed_on r rs i old new (prefix_of r) e refl (subst (λ slot. IsPlaced slot i old new) some is)

pub kept_more : (table : Table) (p : Primitive) (keys : Keys) (i : ℕ) (r : Record) (old new : Held) (slot : Option Kept)
    → IsKept table p keys (drop i keys.records) i old → slice_get keys.records i ≡ Some r → IsKeeping table p r i (Ok slot) → HasWordId r → IsAdded slot i old new
    → IsKept table p keys (drop (i + 1) keys.records) (i + 1) new
kept_more table p keys i r old new slot was at keeping word added =
    let rest = drop (i + 1) keys.records in
    let here : drop i keys.records ≡ r ∷ rest = drop_here keys.records i r at in
    let found : IsFoundBehind r rest i old new = placed table p r rest i old new (kept_as table p r keeping.0) (subst (λ s. IsPlaced s i old new) keeping.1 added.placed) in
    record {
      fit = fit_here table p keys i r None was.fit at keeping.0;
      kept = ap (λ slots. slots ++ map (kept_of table p) rest) added.slots
          ∙ append_assoc old.slots.items (slot ∷ []) (map (kept_of table p) rest)
          ∙ ap (λ s. old.slots.items ++ (s ∷ map (kept_of table p) rest)) keeping.1
          ∙ ap (λ rest. old.slots.items ++ map (kept_of table p) rest) (sym here)
          ∙ was.kept;
      index = sym found.index ∙ ap (indexed_from i old.index.entries) (sym here) ∙ was.index;
      raw = sym found.raw ∙ ap (λ rest. old.raw.items ++ places_from i None rest) (sym here) ∙ was.raw;
      primary = ap (slice_get keys.records) added.primary ∙ was.primary;
      served = subst (AreServed table p) (sym added.slots) (each_more (IsServed table p) old.slots.items slot was.served keeping.2);
      words = λ later. was.words (subst (AllByRecursion HasWordId) (sym here) (word, later));
    }

-- no record is held yet
kept_first : (table : Table) (p : Primitive) (keys : Keys) (primary : ℕ) (held : Held) → IsOfNone primary held → slice_get keys.records primary ≡ primary_of keys → IsKept table p keys keys.records 0 held
kept_first table p keys primary held none there = record {
  fit = refl;
  kept = ap (λ slots. slots ++ map (kept_of table p) keys.records) none.slots;
  index = ap (λ index. indexed_from 0 index keys.records) none.index ∙ indexed_first keys.records;
  raw = ap (λ raw. raw ++ places_of None keys.records) none.raw;
  primary = ap (slice_get keys.records) none.primary ∙ there;
  served = subst (AreServed table p) (sym none.slots) (λ i slot at. none_some slot at);
  words = λ words. words;
}

-- so the records to add are all
pub kept_none : (table : Table) (p : Primitive) (keys : Keys) (primary : ℕ) (held : Held) → IsOfNone primary held → slice_get keys.records primary ≡ primary_of keys
    → IsKept table p keys (drop (length held.slots.items) keys.records) (length held.slots.items) held
kept_none table p keys primary held none there =
    subst (λ n. IsKept table p keys (drop n keys.records) n held) (sym (ap length none.slots)) (kept_first table p keys primary held none there)

-- all are
pub kept_last : (table : Table) (p : Primitive) (keys : Keys) (n : ℕ) (held : Held) → fault_of keys ≡ None → length keys.records ≤ n → IsKept table p keys (drop n keys.records) n held → IsOver table p keys held
kept_last table p keys n held faultless end kept = by (drop n keys.records) (drop_all n keys.records end) kept
  where
    by : (rest : List Record) → rest ≡ [] → IsKept table p keys rest n held → IsOver table p keys held
    by [] none kept = record {
      fit = kept.fit;
      faultless = faultless;
      kept = sym (append-nil held.slots.items) ∙ kept.kept;
      primary = kept.primary;
      index = sym (indexed_last n held.index.entries) ∙ kept.index;
      raw = sym (append-nil held.raw.items) ∙ kept.raw;
      served = kept.served;
      words = kept.words tt;
    }
    by (r ∷ rest) some kept = absurd cc

-- a fault of the first record behind those that can serve
pub fault_here : (table : Table) (p : Primitive) (keys : Keys) (i : ℕ) (r : Record) (fault : HandleError)
    → unfit keys p table ≡ unfit_from i table p (drop i keys.records) → slice_get keys.records i ≡ Some r → IsKeeping table p r i (Err fault)
    → IsFaultOf (unfit keys p table) fault
fault_here table p keys i r (faults.NoManager j) fit at keeping = fit_here table p keys i r (Some (fitness.NoManager)) fit at keeping.1 ∙ ap (λ k. Some (k, fitness.NoManager)) (sym keeping.0)
fault_here table p keys i r (faults.BadKey j rule) fit at keeping = fit_here table p keys i r (Some (fitness.BadKey rule)) fit at keeping.1 ∙ ap (λ k. Some (k, fitness.BadKey rule)) (sym keeping.0)
fault_here table p keys i r (faults.NotRaw j) fit at keeping = fit_here table p keys i r (Some (fitness.NotRaw)) fit at keeping.1 ∙ ap (λ k. Some (k, fitness.NotRaw)) (sym keeping.0)
fault_here table p keys i r faults.NoMemory fit at keeping = tt

pub fault_refused : {A : Type 0} (result : Result A HandleError) (fault : HandleError) (told : Option (ℕ × Unfit)) → IsErrAnd result (λ e. e ≡ fault) → IsFaultOf told fault → IfErr result (IsFaultOf told)
fault_refused (Ok done) fault told same is = absurd same
fault_refused (Err e) fault told same is = subst (IsFaultOf told) (sym same) is
