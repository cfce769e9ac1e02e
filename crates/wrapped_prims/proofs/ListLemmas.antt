-- Slots whose places are listed anew.
use Rattle.std.proofs.Common.{◌≡◌, ◌∙◌, refl, sym, ap, subst, ℕ, zero, suc, ◌+◌, ◌<◌, ◌≤◌, inl, inr, List, [], ◌∷◌, ◌++◌, map, length, drop, Option, Some, None, append-nil, arith}
use Rattle.std.specs.Prelude.{slice_get}
use Rattle.std.specs.List.{AllByRecursion}
use Rattle.std.proofs.lemmas.List.{drop_all}
use Rattle.std.proofs.lemmas.Option.{same_Some, slice_get_cases}
use Rattle.key_msgs.specs.declared.primitive.Primitive.{Primitive}
use Rattle.keyset_model.specs.Keyset.{Keys, fault_of, primary_of}
use Rattle.keyset_model.specs.declared.record.Record.{Record}
use Rattle.managers.specs.Table.{Table}
use Rattle.wrapped_prims.proofs.FollowLemmas.{length_map}
use Rattle.wrapped_prims.proofs.HandleLemmas.{fit_at}
use Rattle.wrapped_prims.proofs.IndexLemmas.{indexed_first, indexed_last}
use Rattle.wrapped_prims.proofs.KeepLemmas.{IsFoundBehind, drop_here, placed}
use Rattle.wrapped_prims.proofs.OpenLemmas.{kept_as}
use Rattle.wrapped_prims.specs.Adding.{AreKeptOf, IsListedAt, IsListing, IsOfSlots, IsPlaced, indexed_from}
use Rattle.wrapped_prims.specs.Held.{AreServed, kept_of}
use Rattle.wrapped_prims.specs.Making.{HasWordId, IsOver}
use Rattle.wrapped_prims.specs.Prefixes.{places_from, places_of}
use Rattle.wrapped_prims.specs.declared.held.Held.{Held}
use Rattle.wrapped_prims.specs.declared.held.Kept.{Kept}

none_some : {X P : Type 0} (x : X) → None ≡ Some x → P
none_some x e = absurd cc

-- what stands in a list of results is the result of what stands there
mapped_there : {X Y : Type 0} (f : X → Y) (xs : List X) (i : ℕ) (y : Y) → slice_get (map f xs) i ≡ Some y → (x : X) × (slice_get xs i ≡ Some x) × (f x ≡ y)
mapped_there f [] i y e = none_some y e
mapped_there f (x ∷ xs) zero y e = (x, refl, same_Some _ _ e)
mapped_there f (x ∷ xs) (suc i) y e = mapped_there f xs i y e

-- the next record, with its place where it is looked for
record IsNext (rs : List Record) (i : ℕ) (old new : Held) : Type 0 where
  r : Record
  here : drop i rs ≡ r ∷ drop (i + 1) rs
  found : IsFoundBehind r (drop (i + 1) rs) i old new

listed_behind : (table : Table) (p : Primitive) (keys : Keys) (slots : List (Option Kept)) (i : ℕ) (slot : Option Kept) (old new : Held)
    → AreKeptOf slots table p keys → slice_get slots i ≡ Some slot → IsPlaced slot i old new → IsNext keys.records i old new
listed_behind table p keys slots i slot old new are at is =
    let there = mapped_there (kept_of table p) keys.records i slot (ap (λ s. slice_get s i) (sym are.1) ∙ at) in
    record {
      r = there.0;
      here = drop_here keys.records i there.0 there.1;
      found = placed table p there.0 (drop (i + 1) keys.records) i old new (kept_as table p there.0 (fit_at 0 table p keys.records i there.0 are.0 there.1))
          (subst (λ s. IsPlaced s i old new) (sym there.2) is);
    }

listing_more : (slots : List (Option Kept)) (primary i : ℕ) (slot : Option Kept) (old new : Held)
    → IsListing slots primary i old → slice_get slots i ≡ Some slot → IsPlaced slot i old new
    → new.slots.items ≡ old.slots.items → new.primary ≡ old.primary → IsListing slots primary (i + 1) new
listing_more slots primary i slot old new was at is same still = record {
  slots' = same ∙ was.slots';
  primary' = still ∙ was.primary';
  index = λ table p keys are.
      let next = listed_behind table p keys slots i slot old new are at is in
      sym next.found.index ∙ ap (indexed_from i old.index.entries) (sym next.here) ∙ was.index table p keys are;
  raw = λ table p keys are.
      let next = listed_behind table p keys slots i slot old new are at is in
      sym next.found.raw ∙ ap (λ rest. old.raw.items ++ places_from i None rest) (sym next.here) ∙ was.raw table p keys are;
}

pub listing_next : (slots : List (Option Kept)) (primary i : ℕ) (old new : Held)
    → IsListing slots primary i old → i < length slots → IsListedAt i old new
    → new.slots.items ≡ old.slots.items → new.primary ≡ old.primary → IsListing slots primary (i + 1) new
listing_next slots primary i old new was within is same still = elim (slice_get_cases slots i).1 [
  | inl there ↦ listing_more slots primary i there.0 old new was there.2 (is there.0 (ap (λ s. slice_get s i) was.slots' ∙ there.2)) same still
  | inr past ↦ absurd (omega (arith, within, past.0))
]

pub listing_first : (slots : List (Option Kept)) (primary : ℕ) (held : Held)
    → held.slots.items ≡ slots → held.primary ≡ primary → held.index.entries ≡ [] → held.raw.items ≡ [] → IsListing slots primary 0 held
listing_first slots primary held same still index raw = record {
  slots' = same;
  primary' = still;
  index = λ table p keys are. ap (λ x. indexed_from 0 x keys.records) index ∙ indexed_first keys.records;
  raw = λ table p keys are. ap (λ x. x ++ places_of None keys.records) raw;
}

pub listing_last : (slots : List (Option Kept)) (primary n : ℕ) (held : Held) → length slots ≤ n → IsListing slots primary n held → IsOfSlots slots primary held
listing_last slots primary n held end all = record {
  slots' = all.slots';
  primary' = all.primary';
  index = λ table p keys are.
      let none = rest table p keys are in
      sym (indexed_last n held.index.entries) ∙ ap (indexed_from n held.index.entries) (sym none) ∙ all.index table p keys are;
  raw = λ table p keys are.
      let none = rest table p keys are in
      sym (append-nil held.raw.items) ∙ ap (λ rest. held.raw.items ++ places_from n None rest) (sym none) ∙ all.raw table p keys are;
}
  where
    rest : (table : Table) (p : Primitive) (keys : Keys) → AreKeptOf slots table p keys → drop n keys.records ≡ []
    rest table p keys are =
        let count : length slots ≡ length keys.records = ap length are.1 ∙ length_map (kept_of table p) keys.records in
        drop_all n keys.records (omega (arith, end, count))

-- so they are held as those of any keyset whose keys they are
pub over_slots : (table : Table) (p : Primitive) (keys : Keys) (slots : List (Option Kept)) (primary : ℕ) (held : Held)
    → IsOfSlots slots primary held → AreKeptOf slots table p keys → fault_of keys ≡ None → slice_get keys.records primary ≡ primary_of keys
    → AreServed table p slots → AllByRecursion HasWordId keys.records → IsOver table p keys held
over_slots table p keys slots primary held is are faultless there served words = record {
  fit = are.0;
  faultless = faultless;
  kept = is.slots' ∙ are.1;
  primary = ap (slice_get keys.records) is.primary' ∙ there;
  index = is.index table p keys are;
  raw = is.raw table p keys are;
  served = subst (AreServed table p) (sym is.slots') served;
  words = words;
}
