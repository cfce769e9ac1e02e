-- What a handle over a faultless keyset holds.
use Rattle.std.proofs.Common.{subst, ◌<◌, ◌≡◌, ◌∙◌, refl, sym, ap, ℕ, zero, suc, ◌+◌, ◌≤◌, List, [], ◌∷◌, length, take, drop, Option, Some, None, option_map, false, arith}
use Rattle.std.proofs.lemmas.Bool.Decides.{nat_tests}
use Rattle.std.proofs.lemmas.List.{length-append, length-map}
use Rattle.std.specs.Prelude.{slice_get, slice_index_or}
use Rattle.std.proofs.lemmas.Option.{get_or_from_slice_get, same_Some, slice_get_within, slice_get-map}
use Rattle.keyset_model.proofs.PrimaryLemmas.{well_formed-faultless}
use Rattle.keyset_model.specs.Keyset.{Keys, is_enabled, primary_of}
use Rattle.keyset_model.specs.declared.record.Record.{Record}
use Rattle.std.specs.Option.{option_and_then, option_flatten}
use Rattle.wrapped_prims.specs.Answers.{primary_key}
use Rattle.key_msgs.specs.declared.primitive.Primitive.{Primitive}
use Rattle.managers.specs.Table.{Table, entries_of}
use Rattle.wrapped_prims.proofs.OpenLemmas.{KeptAs, count-raw, count-under, kept_as, none_here, off, on}
use Rattle.wrapped_prims.specs.Candidates.{candidates, each_with, enabled_with}
use Rattle.wrapped_prims.specs.Fitness.{fault_of_record, key_of_record, unfit_from}
use Rattle.wrapped_prims.specs.Held.{AreServed, IsPrimary, IsServedBy, kept_in, kept_of, kept_raw, kept_under, kept_with}
use Rattle.wrapped_prims.specs.Making.{IsOver}
use Rattle.wrapped_prims.specs.declared.held.Held.{Held}
use Rattle.wrapped_prims.specs.declared.held.Kept.{Kept}

-- what is held of a keyset is so while all of it is the same
pub over_again : (table : Table) (p : Primitive) (keys : Keys) (old new : Held)
    → new.slots.items ≡ old.slots.items → new.index ≡ old.index → new.raw ≡ old.raw → new.primary ≡ old.primary
    → IsOver table p keys old → IsOver table p keys new
over_again table p keys old new slots index raw primary over = record {
  fit = over.fit;
  faultless = over.faultless;
  kept = slots ∙ over.kept;
  primary = ap (slice_get keys.records) primary ∙ over.primary;
  index = (λ j. (index j).entries) ∙ over.index;
  raw = (λ j. (raw j).items) ∙ over.raw;
  served = subst (AreServed table p) (sym slots) over.served;
  words = over.words;
}

-- at most one trial for each candidate
pub few_trials : (table : Table) (p : Primitive) (keys : Keys) (held : Held) (bytes : List ℕ) (before now : ℕ) → IsOver table p keys held
    → now ≤ before + length (kept_under (take 5 bytes) held) + length (kept_raw held) → now ≤ before + length (candidates keys bytes)
few_trials table p keys held bytes before now over few =
    let hinted = enabled_with (Some (take 5 bytes)) keys.records in
    let raw = enabled_with None keys.records in
    let first = count-under table p keys held (take 5 bytes) over in
    let last = count-raw table p keys held over in
    let all = length-append (each_with (drop 5 bytes) hinted) (each_with bytes raw) in
    let front : length (each_with (drop 5 bytes) hinted) ≡ length hinted = length-map hinted _ in
    let behind : length (each_with bytes raw) ≡ length raw = length-map raw _ in
    omega (arith, few, first, last, all, front, behind)

pub fit_at : (n : ℕ) (table : Table) (p : Primitive) (rs : List Record) (i : ℕ) (r : Record) → unfit_from n table p rs ≡ None → slice_get rs i ≡ Some r → fault_of_record table p r ≡ None
fit_at n table p [] i r fit at = absurd (the_clash at)
  where
    the_clash : None ≡ Some r → ⊥
    the_clash e = cc
fit_at n table p (s ∷ rs) zero r fit at = ap (fault_of_record table p) (sym (same_Some _ _ at)) ∙ (none_here n _ _ fit).0
fit_at n table p (s ∷ rs) (suc i) r fit at = fit_at (n + 1) table p rs i r (none_here n _ _ fit).1 at

-- the primary key is kept at its place
pub record HasPrimary (table : Table) (p : Primitive) (keys : Keys) (held : Held) : Type 0 where
  pub kept : Kept
  pub there : slice_get held.slots.items held.primary ≡ Some (Some kept)
  pub primary : IsPrimary table p keys kept

enabled_clash : (r : Record) → r.status ≡ 1 → is_enabled r ≡ false → ⊥
enabled_clash r status other = grind (arith, nat_tests)

pub has_primary : (table : Table) (p : Primitive) (keys : Keys) (held : Held) → IsOver table p keys held → HasPrimary table p keys held
has_primary table p keys held over =
    let there = (well_formed-faultless keys over.faultless).primary in
    let r : Record = there.0 in
    let primary : primary_of keys ≡ Some r = there.1 in
    let at : slice_get keys.records held.primary ≡ Some r = over.primary ∙ primary in
    let slot : slice_get held.slots.items held.primary ≡ Some (kept_of table p r) =
    ap (λ slots. slice_get slots held.primary) over.kept ∙ slice_get-map (kept_of table p) keys.records held.primary ∙ ap (option_map (kept_of table p)) at in
    by r primary there.3 slot (kept_as table p r (fit_at 0 table p keys.records held.primary r over.fit at))
  where
    by : (r : Record) → primary_of keys ≡ Some r → r.status ≡ 1 → slice_get held.slots.items held.primary ≡ Some (kept_of table p r) → KeptAs table p r → HasPrimary table p keys held
    by r primary status slot (off e none) = absurd (enabled_clash r status e)
    by r primary status slot (on at key e read some) = record {
      kept = kept_with r at key;
      there = slot ∙ ap Some some;
      primary = record { under' = r; primary = primary; key = read; prefix = refl; legacy = refl };
    }

-- what is found at that place
slot_is : (table : Table) (p : Primitive) (keys : Keys) (held : Held) → (has : HasPrimary table p keys held) → (slot : Option Kept) → slot ≡ slice_index_or held.slots.items held.primary slot → slot ≡ Some has.kept
slot_is table p keys held has slot found = found ∙ get_or_from_slice_get held.slots.items held.primary (Some has.kept) slot has.there

pub primary_within : (table : Table) (p : Primitive) (keys : Keys) (held : Held) → IsOver table p keys held → held.primary < length held.slots.items
primary_within table p keys held over = slice_get_within _ _ _ (has_primary table p keys held over).there

pub primary_none : (table : Table) (p : Primitive) (keys : Keys) (held : Held) (slot : Option Kept) → IsOver table p keys held → slot ≡ slice_index_or held.slots.items held.primary slot → slot ≡ None → ⊥
primary_none table p keys held slot over found none =
    let is = slot_is table p keys held (has_primary table p keys held over) slot found in
    cc

pub primary_is : (table : Table) (p : Primitive) (keys : Keys) (held : Held) (slot : Option Kept) (kept : Kept) → IsOver table p keys held → slot ≡ slice_index_or held.slots.items held.primary slot → slot ≡ Some kept → IsPrimary table p keys kept
primary_is table p keys held slot kept over found some =
    let has = has_primary table p keys held over in
    subst (IsPrimary table p keys) (same_Some _ _ (sym (slot_is table p keys held has slot found) ∙ some)) has.primary

pub primary_served : (table : Table) (p : Primitive) (keys : Keys) (held : Held) (slot : Option Kept) (kept : Kept) → IsOver table p keys held → slot ≡ slice_index_or held.slots.items held.primary slot → slot ≡ Some kept → IsServedBy (slice_get (entries_of table p) kept.place) kept.key
primary_served table p keys held slot kept over found some =
    let has = has_primary table p keys held over in
    over.served held.primary (Some kept) (has.there ∙ ap Some (sym (slot_is table p keys held has slot found) ∙ some))

pub primary_kept : (table : Table) (p : Primitive) (keys : Keys) (held : Held) (slot : Option Kept) (kept : Kept) → IsOver table p keys held → slot ≡ slice_index_or held.slots.items held.primary slot → slot ≡ Some kept → kept_in held.slots.items held.primary ≡ Some kept
primary_kept table p keys held slot kept over found some =
    let has = has_primary table p keys held over in
    ap option_flatten has.there ∙ sym (slot_is table p keys held has slot found) ∙ some

pub key-primary : (table : Table) (p : Primitive) (keys : Keys) (kept : Kept) → IsPrimary table p keys kept → primary_key keys table p ≡ Some kept.key
key-primary table p keys kept is = ap (option_and_then (key_of_record table p)) is.primary ∙ is.key
