-- What edits do to the records of a keyset.
use Rattle.std.proofs.Common.{◌≡◌, ◌∙◌, refl, sym, ap, ℕ, suc, ◌+◌, Bool, not, true, false, cond, ◌||◌, List, [], ◌∷◌, ◌++◌, find, length, position, None, Some, Ok, append-nil, eq-eqb, one-add}
use Rattle.std.specs.Prelude.{slice_get}
use Rattle.std.specs.List.{list_any, prefix_len}
use Rattle.std.proofs.lemmas.Option.{cond_some, same_Some}
use Rattle.keyset_model.specs.Keyset.{Keys, has_id}
use Rattle.keyset_model.specs.declared.record.Record.{Record}
use Rattle.tink_spec.specs.Outside.{EntropyState}
use Rattle.tinkey_cmds.proofs.Standing.{edits_leave_others}
use Rattle.tinkey_cmds.proofs.Steps.{named-at, named-none}
use Rattle.tinkey_cmds.specs.Applying.{Draws}
use Rattle.tinkey_cmds.specs.Edits.{Edit, Enable, Disable, Destroy, Delete, destroyed, step, with_status}
use Rattle.tinkey_cmds.specs.Laws.{LeavesOthers, Replaces, Stands}
use Rattle.tinkey_session.specs.Keeping.{IsChange}
use Rattle.tinkey_session.specs.declared.session.Change.{Change}
use Rattle.tinkey_session.specs.declared.session.Change.TheVariants.{Grows, At, Loses}

-- an accepted edit leaves the records that it doesn't name
pub accepted_leaves : (old new : Keys) (edit : Edit) (before after : EntropyState) → Draws (step old edit) before after (Ok new) → LeavesOthers old edit new
accepted_leaves old new edit before after draws = edits_leave_others old new edit (draws.0 ++ []) _ (draws.2 []) refl

-- ---- where the record stands

clash : {X P : Type 0} (x : X) → None ≡ Some x → P
clash x e = absurd cc

find_behind : (id : ℕ) (front : List Record) (r : Record) (back : List Record) → list_any (has_id id) front ≡ false → has_id id r ≡ true → find (has_id id) (front ++ r ∷ back) ≡ Some r
find_behind id [] r back none has = ap (λ b. cond b (Some r) (find (has_id id) back)) has
find_behind id (x ∷ front) r back none has = by (λ h. find_behind id front r back h has) (has_id id x) none
  where
    by : (list_any (has_id id) front ≡ false → find (has_id id) (front ++ r ∷ back) ≡ Some r)
        → (b : Bool) → (b || list_any (has_id id) front) ≡ false → cond b (Some x) (find (has_id id) (front ++ r ∷ back)) ≡ Some r
    by later true h = absurd cc
    by later false h = later h

stands_named : (keys : Keys) (id : ℕ) (s : Stands keys.records id) → find (has_id id) keys.records ≡ Some s.named
stands_named keys id s = ap (find (has_id id)) s.whole ∙ find_behind id s.before s.named s.after s.first (eq-eqb s.named.id id s.has)

-- how many records stand before the first of an id
count_before : (id : ℕ) (front : List Record) (r : Record) (back : List Record) → list_any (has_id id) front ≡ false → has_id id r ≡ true → prefix_len (λ x. not (has_id id x)) (front ++ r ∷ back) ≡ length front
count_before id [] r back none has = ap (λ b. cond (not b) (1 + prefix_len (λ x. not (has_id id x)) back) 0) has
count_before id (x ∷ front) r back none has = by (λ h. count_before id front r back h has) (has_id id x) none
  where
    by : (list_any (has_id id) front ≡ false → prefix_len (λ x. not (has_id id x)) (front ++ r ∷ back) ≡ length front)
        → (b : Bool) → (b || list_any (has_id id) front) ≡ false → cond (not b) (1 + prefix_len (λ x. not (has_id id x)) (front ++ r ∷ back)) 0 ≡ suc (length front)
    by later true h = absurd cc
    by later false h = one-add _ ∙ ap suc (later h)

place_named : (keys : Keys) (id i : ℕ) (s : Stands keys.records id) → Some i ≡ position (has_id id) keys.records → length s.before ≡ i
place_named keys id i s place =
    sym (count_before id s.before s.named s.after s.first (eq-eqb s.named.id id s.has)) ∙ ap (prefix_len (λ x. not (has_id id x))) (sym s.whole) ∙ (cond_some _ _ _ (sym place)).1

-- an edit names no record of a keyset that has none of its id
none_named : {P : Type 0} (keys : Keys) (id : ℕ) (s : Stands keys.records id) → None ≡ position (has_id id) keys.records → P
none_named keys id s none = clash s.named (sym (named-none keys id none) ∙ stands_named keys id s)

-- ---- records that change in their place

Replaced : (Record → Record) → ℕ → Keys → Edit → Type 0
Replaced change id keys edit = (edited : Keys) → LeavesOthers keys edit edited → Replaces change id keys.records edited.records

at_replaced : (change : Record → Record) (id i : ℕ) (keys : Keys) (edit : Edit) → Replaced change id keys edit → Some i ≡ position (has_id id) keys.records → IsChange keys edit (At i)
unfolding Replaced
at_replaced change id i keys edit gives place = λ edited leaves.
    let is = gives edited leaves in
    let s = is.0 in
    record { front = s.before; was = s.named; is = change s.named; back = s.after; at = place_named keys id i s place; old = s.whole; new = is.1 }

-- where no record has the id, the edit isn't accepted
none_replaced : (change : Record → Record) (id : ℕ) (keys : Keys) (edit : Edit) (change' : Change) → Replaced change id keys edit → None ≡ position (has_id id) keys.records → IsChange keys edit change'
unfolding Replaced
none_replaced change id keys edit change' gives none = λ edited leaves. none_named keys id (gives edited leaves).0 none

pub at_enabled : (keys : Keys) (id i : ℕ) → Some i ≡ position (has_id id) keys.records → IsChange keys (Enable id) (At i)
unfolding Replaced
at_enabled keys id i place = at_replaced (with_status 1) id i keys (Enable id) (λ edited leaves. leaves) place

pub at_disabled : (keys : Keys) (id i : ℕ) → Some i ≡ position (has_id id) keys.records → IsChange keys (Disable id) (At i)
unfolding Replaced
at_disabled keys id i place = at_replaced (with_status 2) id i keys (Disable id) (λ edited leaves. leaves) place

pub at_destroyed : (keys : Keys) (id i : ℕ) → Some i ≡ position (has_id id) keys.records → IsChange keys (Destroy id) (At i)
unfolding Replaced
at_destroyed keys id i place = at_replaced destroyed id i keys (Destroy id) (λ edited leaves. leaves) place

pub none_enabled : (keys : Keys) (id : ℕ) → None ≡ position (has_id id) keys.records → IsChange keys (Enable id) Grows
unfolding Replaced
none_enabled keys id none = none_replaced (with_status 1) id keys (Enable id) Grows (λ edited leaves. leaves) none

pub none_disabled : (keys : Keys) (id : ℕ) → None ≡ position (has_id id) keys.records → IsChange keys (Disable id) Grows
unfolding Replaced
none_disabled keys id none = none_replaced (with_status 2) id keys (Disable id) Grows (λ edited leaves. leaves) none

pub none_destroyed : (keys : Keys) (id : ℕ) → None ≡ position (has_id id) keys.records → IsChange keys (Destroy id) Grows
unfolding Replaced
none_destroyed keys id none = none_replaced destroyed id keys (Destroy id) Grows (λ edited leaves. leaves) none

-- ---- a record that goes

pub loses_deleted : (keys : Keys) (id i : ℕ) → Some i ≡ position (has_id id) keys.records → IsChange keys (Delete id) (Loses i)
loses_deleted keys id i place = λ edited leaves.
    let s = leaves.0 in
    record { front = s.before; gone = s.named; back = s.after; at = place_named keys id i s place; old = s.whole; new = leaves.1 }

pub none_deleted : (keys : Keys) (id : ℕ) → None ≡ position (has_id id) keys.records → IsChange keys (Delete id) Grows
none_deleted keys id none = λ edited leaves. none_named keys id leaves.0 none

-- ---- a record that is ENABLED already

-- the status of an ENABLED record
same_status : (r : Record) → r.status ≡ 1 → with_status 1 r ≡ r
same_status r on = ap (λ n. with_status n r) (sym on)

pub grows_enabled : (keys : Keys) (id i : ℕ) (r : Record) → Some i ≡ position (has_id id) keys.records → slice_get keys.records i ≡ Some r → r.status ≡ 1 → IsChange keys (Enable id) Grows
grows_enabled keys id i r place there on = λ edited leaves.
    let s = leaves.0 in
    let same : r ≡ s.named = same_Some _ _ (sym (named-at keys id i r place there) ∙ stands_named keys id s) in
    ([], leaves.1 ∙ ap (λ x. s.before ++ x ∷ s.after) (same_status s.named (sym (ap (λ (x : Record). x.status) same) ∙ on)) ∙ sym s.whole ∙ sym (append-nil keys.records))
