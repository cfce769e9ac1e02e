-- Handles that go on with a keyset in which one record changed, or is gone.
use Rattle.std.proofs.Common.{◌≡◌, ◌∙◌, refl, sym, ap, subst, ℕ, zero, suc, ◌+◌, List, [], ◌∷◌, ◌++◌, map, length, drop, set, remove, Option, Some, None, Ok, Err}
use Rattle.std.specs.Prelude.{slice_get}
use Rattle.std.specs.List.{AllByRecursion}
use Rattle.std.proofs.lemmas.List.{map-append, set_at}
use Rattle.std.proofs.lemmas.Option.{same_Some}
use Rattle.key_msgs.specs.declared.primitive.Primitive.{Primitive}
use Rattle.keyset_model.specs.Keyset.{Keys, fault_of, primary_of}
use Rattle.keyset_model.specs.declared.record.Record.{Record}
use Rattle.managers.specs.Table.{Table}
use Rattle.wrapped_prims.proofs.FollowLemmas.{all_append, drop_front, from_first, length_map, unfit_append}
use Rattle.wrapped_prims.proofs.KeepLemmas.{fault_here}
use Rattle.wrapped_prims.proofs.ListLemmas.{over_slots}
use Rattle.wrapped_prims.proofs.OpenLemmas.{none_here}
use Rattle.wrapped_prims.specs.Adding.{IsOfSlots}
use Rattle.wrapped_prims.specs.Fitness.{fault_of_record, or_later, unfit, unfit_from}
use Rattle.wrapped_prims.specs.Following.{ChangesAt, LosesAt}
use Rattle.wrapped_prims.specs.Held.{IsServed, kept_of}
use Rattle.wrapped_prims.specs.Making.{HasWordId, IsFaultOf, IsKeeping, IsOver}
use Rattle.wrapped_prims.specs.declared.handle.HandleError.{HandleError}
use Rattle.wrapped_prims.specs.declared.held.Held.{Held}
use Rattle.wrapped_prims.specs.declared.held.Kept.{Kept}

-- ---- lists

none_some : {X P : Type 0} (x : X) → None ≡ Some x → P
none_some x e = absurd cc

at_seam : {X : Type 0} (front : List X) (x : X) (back : List X) → slice_get (front ++ x ∷ back) (length front) ≡ Some x
at_seam [] x back = refl
at_seam (y ∷ front) x back = at_seam front x back

remove_seam : {X : Type 0} (front : List X) (x : X) (back : List X) → remove (front ++ x ∷ back) (length front) ≡ front ++ back
remove_seam [] x back = refl
remove_seam (y ∷ front) x back = ap (λ ys. y ∷ ys) (remove_seam front x back)

remove_at : {X : Type 0} (front : List X) (x : X) (back : List X) (n : ℕ) → length front ≡ n → remove (front ++ x ∷ back) n ≡ front ++ back
remove_at front x back n is = subst (λ k. remove (front ++ x ∷ back) k ≡ front ++ back) is (remove_seam front x back)

all_front : {X : Type 0} (P : X → Type 0) (front back : List X) → AllByRecursion P (front ++ back) → AllByRecursion P front
all_front P [] back all = tt
all_front P (x ∷ front) back all = (all.0, all_front P front back all.1)

all_back : {X : Type 0} (P : X → Type 0) (front back : List X) → AllByRecursion P (front ++ back) → AllByRecursion P back
all_back P [] back all = all
all_back P (x ∷ front) back all = all_back P front back all.1

-- of each element that stands anywhere
of_each : {X : Type 0} (P : X → Type 0) (xs : List X) → ((i : ℕ) (x : X) → slice_get xs i ≡ Some x → P x) → AllByRecursion P xs
of_each P [] each = tt
of_each P (x ∷ xs) each = (each 0 x refl, of_each P xs (λ i. each (suc i)))

to_each : {X : Type 0} (P : X → Type 0) (xs : List X) → AllByRecursion P xs → (i : ℕ) (x : X) → slice_get xs i ≡ Some x → P x
to_each P [] all i x there = none_some x there
to_each P (y ∷ xs) all zero x there = subst P (same_Some _ _ there) all.0
to_each P (y ∷ xs) all (suc i) x there = to_each P xs all.1 i x there

-- ---- records that can serve

Fits : Table → Primitive → Record → Type 0
Fits table p r = fault_of_record table p r ≡ None

all_fit : (n : ℕ) (table : Table) (p : Primitive) (rs : List Record) → unfit_from n table p rs ≡ None → AllByRecursion (Fits table p) rs
unfolding Fits
all_fit n table p [] fit = tt
all_fit n table p (r ∷ rs) fit = let here = none_here n _ _ fit in (here.0, all_fit (n + 1) table p rs here.1)

fit_all : (n : ℕ) (table : Table) (p : Primitive) (rs : List Record) → AllByRecursion (Fits table p) rs → unfit_from n table p rs ≡ None
unfolding Fits
fit_all n table p [] all = refl
fit_all n table p (r ∷ rs) all = ap (λ why. or_later n why (unfit_from (n + 1) table p rs)) all.0 ∙ fit_all (n + 1) table p rs all.1

-- what holds of each record of a keyset, and of what a handle over it keeps
record IsSound (table : Table) (p : Primitive) (records : List Record) (slots : List (Option Kept)) : Type 0 where
  fits : AllByRecursion (Fits table p) records
  kept : slots ≡ map (kept_of table p) records
  served : AllByRecursion (IsServed table p) slots
  words : AllByRecursion HasWordId records

sound_over : (table : Table) (p : Primitive) (keys : Keys) (held : Held) (records : List Record) → keys.records ≡ records → IsOver table p keys held
    → IsSound table p records (map (kept_of table p) records)
sound_over table p keys held records same over = record {
  fits = all_fit 0 table p records (ap (unfit_from 0 table p) (sym same) ∙ over.fit);
  kept = refl;
  served = subst (AllByRecursion (IsServed table p)) (over.kept ∙ ap (map (kept_of table p)) same) (of_each (IsServed table p) held.slots.items over.served);
  words = subst (AllByRecursion HasWordId) same over.words;
}

over_sound : (table : Table) (p : Primitive) (keys : Keys) (slots : List (Option Kept)) (primary : ℕ) (held : Held)
    → IsSound table p keys.records slots → IsOfSlots slots primary held → fault_of keys ≡ None → slice_get keys.records primary ≡ primary_of keys
    → IsOver table p keys held
over_sound table p keys slots primary held sound is faultless there =
    over_slots table p keys slots primary held is (fit_all 0 table p keys.records sound.fits, sound.kept) faultless there
    (to_each (IsServed table p) slots sound.served) sound.words

-- ---- one record changed

changed_sound : (table : Table) (p : Primitive) (front : List Record) (was is : Record) (back : List Record) (slot : Option Kept) (i : ℕ)
    → IsSound table p (front ++ was ∷ back) (map (kept_of table p) (front ++ was ∷ back)) → IsKeeping table p is i (Ok slot) → HasWordId is
    → IsSound table p (front ++ is ∷ back) (map (kept_of table p) front ++ slot ∷ map (kept_of table p) back)
unfolding Fits
changed_sound table p front was is back slot i sound keeping word =
    let keep : Record → Option Kept = kept_of table p in
    let served = subst (AllByRecursion (IsServed table p)) (map-append keep front (was ∷ back)) sound.served in
    record {
      fits = all_append (Fits table p) front (is ∷ back) (all_front (Fits table p) front (was ∷ back) sound.fits) (keeping.0, (all_back (Fits table p) front (was ∷ back) sound.fits).1);
      kept = ap (λ s. map keep front ++ s ∷ map keep back) keeping.1 ∙ sym (map-append keep front (is ∷ back));
      served = all_append (IsServed table p) (map keep front) (slot ∷ map keep back) (all_front (IsServed table p) (map keep front) (keep was ∷ map keep back) served)
          (keeping.2, (all_back (IsServed table p) (map keep front) (keep was ∷ map keep back) served).1);
      words = all_append HasWordId front (is ∷ back) (all_front HasWordId front (was ∷ back) sound.words) (word, (all_back HasWordId front (was ∷ back) sound.words).1);
    }

-- the slot of that place takes what is kept of the record
changed_slots : (table : Table) (p : Primitive) (place : ℕ) (before keys : Keys) (old : Held) (slot : Option Kept) (c : ChangesAt place before.records keys.records)
    → IsOver table p before old → set old.slots.items place slot ≡ map (kept_of table p) c.front ++ slot ∷ map (kept_of table p) c.back
changed_slots table p place before keys old slot c over =
    let keep : Record → Option Kept = kept_of table p in
    ap (λ slots. set slots place slot) (over.kept ∙ ap (map keep) c.old ∙ map-append keep c.front (c.was ∷ c.back))
    ∙ set_at (map keep c.front) (keep c.was) (map keep c.back) slot place (length_map keep c.front ∙ c.at)

-- it stands there
changed_there : (place : ℕ) (before records : List Record) (r : Record) (c : ChangesAt place before records) → slice_get records place ≡ Some r → r ≡ c.is
changed_there place before records r c there =
    same_Some _ _ (sym there ∙ ap (λ rs. slice_get rs place) c.new ∙ ap (slice_get (c.front ++ c.is ∷ c.back)) (sym c.at) ∙ at_seam c.front c.is c.back)

pub over_changed : (table : Table) (p : Primitive) (place primary : ℕ) (before keys : Keys) (r : Record) (slot : Option Kept) (old new : Held)
    → ChangesAt place before.records keys.records → IsOver table p before old
    → slice_get keys.records place ≡ Some r → IsKeeping table p r place (Ok slot) → HasWordId r
    → IsOfSlots (set old.slots.items place slot) primary new
    → fault_of keys ≡ None → slice_get keys.records primary ≡ primary_of keys → IsOver table p keys new
over_changed table p place primary before keys r slot old new c over there keeping word listed faultless first =
    let is = changed_there place before.records keys.records r c there in
    let sound = changed_sound table p c.front c.was c.is c.back slot place (sound_over table p before old _ c.old over)
    (subst (λ x. IsKeeping table p x place (Ok slot)) is keeping) (subst HasWordId is word) in
    over_sound table p keys (set old.slots.items place slot) primary new
    (subst (λ s. IsSound table p keys.records s) (sym (changed_slots table p place before keys old slot c over))
    (subst (λ rs. IsSound table p rs (map (kept_of table p) c.front ++ slot ∷ map (kept_of table p) c.back)) (sym c.new) sound))
    listed faultless first

-- or it can't serve, and is the first that can't
pub fault_changed : (table : Table) (p : Primitive) (place : ℕ) (before keys : Keys) (r : Record) (old : Held) (fault : HandleError)
    → ChangesAt place before.records keys.records → IsOver table p before old
    → slice_get keys.records place ≡ Some r → IsKeeping table p r place (Err fault) → IsFaultOf (unfit keys p table) fault
unfolding Fits
fault_changed table p place before keys r old fault c over there keeping =
    let front = fit_all 0 table p c.front (all_front (Fits table p) c.front (c.was ∷ c.back) (all_fit 0 table p _ (ap (unfit_from 0 table p) (sym c.old) ∙ over.fit))) in
    let rest : drop place keys.records ≡ c.is ∷ c.back = ap (λ n. drop n keys.records) (sym c.at) ∙ ap (drop (length c.front)) c.new ∙ drop_front c.front (c.is ∷ c.back) in
    fault_here table p keys place r fault
    (ap (unfit_from 0 table p) c.new ∙ unfit_append 0 table p c.front (c.is ∷ c.back) front
    ∙ ap (λ n. unfit_from n table p (c.is ∷ c.back)) (sym (from_first c.front) ∙ c.at)
    ∙ ap (unfit_from place table p) (sym rest))
    there keeping

-- ---- one record gone

gone_sound : (table : Table) (p : Primitive) (front : List Record) (gone : Record) (back : List Record)
    → IsSound table p (front ++ gone ∷ back) (map (kept_of table p) (front ++ gone ∷ back))
    → IsSound table p (front ++ back) (map (kept_of table p) front ++ map (kept_of table p) back)
gone_sound table p front gone back sound =
    let keep : Record → Option Kept = kept_of table p in
    let served = subst (AllByRecursion (IsServed table p)) (map-append keep front (gone ∷ back)) sound.served in
    record {
      fits = all_append (Fits table p) front back (all_front (Fits table p) front (gone ∷ back) sound.fits) (all_back (Fits table p) front (gone ∷ back) sound.fits).1;
      kept = sym (map-append keep front back);
      served = all_append (IsServed table p) (map keep front) (map keep back) (all_front (IsServed table p) (map keep front) (keep gone ∷ map keep back) served)
          (all_back (IsServed table p) (map keep front) (keep gone ∷ map keep back) served).1;
      words = all_append HasWordId front back (all_front HasWordId front (gone ∷ back) sound.words) (all_back HasWordId front (gone ∷ back) sound.words).1;
    }

pub over_without : (table : Table) (p : Primitive) (place primary : ℕ) (before keys : Keys) (slots : List (Option Kept)) (old new : Held)
    → LosesAt place before.records keys.records → IsOver table p before old
    → slots ≡ remove old.slots.items place → IsOfSlots slots primary new
    → fault_of keys ≡ None → slice_get keys.records primary ≡ primary_of keys → IsOver table p keys new
over_without table p place primary before keys slots old new l over same listed faultless first =
    let keep : Record → Option Kept = kept_of table p in
    let left : slots ≡ map keep l.front ++ map keep l.back =
    same ∙ ap (λ slots. remove slots place) (over.kept ∙ ap (map keep) l.old ∙ map-append keep l.front (l.gone ∷ l.back))
    ∙ remove_at (map keep l.front) (keep l.gone) (map keep l.back) place (length_map keep l.front ∙ l.at) in
    over_sound table p keys slots primary new
    (subst (λ s. IsSound table p keys.records s) (sym left)
    (subst (λ rs. IsSound table p rs (map keep l.front ++ map keep l.back)) (sym l.new)
    (gone_sound table p l.front l.gone l.back (sound_over table p before old _ l.old over))))
    listed faultless first
