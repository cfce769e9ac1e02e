-- A key that is ENABLED in a keyset with distinct ids is alone under its prefix, and one that was disabled comes back.
use Rattle.std.proofs.Common.{◌≡◌, ◌≢◌, ◌∙◌, ◌⊎◌, inl, inr, refl, sym, ap, subst, ℕ, suc, Bool, true, false, cond, List, [], ◌∷◌, ◌++◌, filter, find, nat_eq, Some, None, Result, Ok, Err, eq-eqb, eqb-true}
use Rattle.std.specs.Prelude.{◌==◌, IfOk, slice_get}
use Rattle.std.specs.Int.{w32, to_be_bytes}
use Rattle.std.specs.List.{AllByRecursion, IsDistinct}
use Rattle.std.proofs.lemmas.Bool.{and_from, and_parts, false_from_ne_true}
use Rattle.std.proofs.lemmas.Map.Keys.{IsDistinct-head, IsDistinct-tail}
use Rattle.std.proofs.lemmas.Option.{same_Some}
use Rattle.std.proofs.lemmas.Slice.Eq.{bytes_eq-Decides}
use Rattle.keyset_model.specs.Keyset.{Keys, has_id}
use Rattle.keyset_model.specs.declared.record.Record.{Record}
use Rattle.tinkey_cmds.proofs.Among.{Among, among-all, among-slice_get, find-among}
use Rattle.tinkey_cmds.proofs.Cases.{Seven, edit_case, yielded}
use Rattle.tinkey_cmds.proofs.Changes.{find-id}
use Rattle.tinkey_cmds.specs.Edits.{Edit, Stepped, Enable, changed, destroyed, named, step, with_status, without}
use Rattle.tinkey_cmds.specs.declared.command.EditRefusal.{EditRefusal}
use Rattle.tinkey_session.proofs.DistinctLemmas.{ids, ids_stay_distinct, not_apart, one_id_one_record, words_stay}
use Rattle.tinkey_session.proofs.KeptKeyLemmas.{one_prefix_one_id, same_prefix_is}
use Rattle.tinkey_session.proofs.Options.{clash}
use Rattle.tinkey_session.specs.KeptKeys.{DataStays, EnableGivesBack, EnabledIsAlone, HasData, HasDistinctIds, SparesData}
use Rattle.tinkey_session.specs.Laws.{kept}
use Rattle.wrapped_prims.specs.Candidates.{is_enabled_with, prefix_of, same_prefix}
use Rattle.wrapped_prims.specs.Laws.{IsSameKey}
use Rattle.wrapped_prims.specs.Making.{HasWordId}

-- ---- ENABLED and alone

none_passes : (test : Record → Bool) (records : List Record) → ((x : Record) → Among x records → test x ≡ false) → filter test records ≡ []
none_passes test [] fails = refl
none_passes test (x ∷ later) fails = ap (λ b. cond b (x ∷ filter test later) (filter test later)) (fails x (inl refl)) ∙ none_passes test later (λ y there. fails y (inr there))

-- of those whose ids differ only one passes a test that knows its id
one_passes : (test : Record → Bool) (records : List Record) (only : Record) → IsDistinct nat_eq (ids records) → Among only records → test only ≡ true → ((x : Record) → Among x records → test x ≡ true → x.id ≡ only.id) → filter test records ≡ only ∷ []
unfolding ids
one_passes test [] only apart there passes knows = absurd there
one_passes test (x ∷ later) only apart (inl is) passes knows =
    ap (λ b. cond b (x ∷ filter test later) (filter test later)) (ap test is ∙ passes)
    ∙ ap (λ rs. x ∷ rs) (none_passes test later (λ y there. false_from_ne_true _ (λ k.
    not_apart x.id later y (IsDistinct-head nat_eq x.id (ids later) apart) there (ap (λ z. z.id) is ∙ sym (knows y (inr there) k)))))
    ∙ ap (λ y. y ∷ []) is
one_passes test (x ∷ later) only apart (inr behind) passes knows =
    ap (λ b. cond b (x ∷ filter test later) (filter test later)) (false_from_ne_true _ (λ k.
    not_apart x.id later only (IsDistinct-head nat_eq x.id (ids later) apart) behind (knows x (inl refl) k)))
    ∙ one_passes test later only (IsDistinct-tail nat_eq x.id (ids later) apart) behind passes (λ y there. knows y (inr there))

same_prefixes : (r s : Record) → IsSameKey r s → prefix_of s ≡ prefix_of r
same_prefixes r s same =
    ap (λ x. cond (x == 3) None (Some (cond (x == 1) 1 0 ∷ to_be_bytes w32 s.id))) same.prefix
    ∙ ap (λ x. cond (r.prefix == 3) None (Some (cond (r.prefix == 1) 1 0 ∷ to_be_bytes w32 x))) same.id

pub enabled_is_alone : EnabledIsAlone
unfolding ids
enabled_is_alone keys r prefix apart words has key =
    let there = among-slice_get keys.records key.place key.other key.there in
    let own : prefix_of key.other ≡ prefix_of r = same_prefixes r key.other key.same in
    record {
      only = key.other;
      same = key.same;
      alone = one_passes (is_enabled_with (prefix_of r)) keys.records key.other apart there
          (and_from _ _ (eq-eqb key.other.status 1 key.same.enabled) (subst (λ p. same_prefix p (prefix_of r) ≡ true) (sym own) (subst (λ p. same_prefix p p ≡ true) (sym has) ((bytes_eq-Decides prefix prefix).1 refl))))
          (λ x among passes. one_prefix_one_id x key.other prefix (among-all HasWordId keys.records x words among) (among-all HasWordId keys.records key.other words there) (own ∙ has)
          (same_prefix_is _ _ (and_parts _ _ passes).1 ∙ sym own));
    }

-- ---- what makes a key

among_place : (xs : List Record) (x : Record) → Among x xs → (i : ℕ) × (slice_get xs i ≡ Some x)
among_place [] x there = absurd there
among_place (y ∷ ys) x (inl is) = (0, ap Some is)
among_place (y ∷ ys) x (inr later) = let p = among_place ys x later in (suc p.0, p.1)

pushed_there : (xs : List Record) (y x : Record) → Among x xs → Among x (xs ++ y ∷ [])
pushed_there [] y x there = absurd there
pushed_there (z ∷ zs) y x (inl is) = inl is
pushed_there (z ∷ zs) y x (inr later) = inr (pushed_there zs y x later)

-- a record is there as it was, or changed
changed_there : (change : Record → Record) (id : ℕ) (records : List Record) (x : Record) → Among x records → Among x (changed change id records) ⊎ Among (change x) (changed change id records)
unfolding changed
changed_there change id [] x there = absurd there
changed_there change id (y ∷ later) x (inl is) = elim (has_id id y) as (λ b. Among x (cond b (change y ∷ later) (y ∷ changed change id later)) ⊎ Among (change x) (cond b (change y ∷ later) (y ∷ changed change id later))) [
  | true ↦ inr (inl (ap change is))
  | false ↦ inl (inl is)
]
changed_there change id (y ∷ later) x (inr behind) = elim (has_id id y) as (λ b. Among x (cond b (change y ∷ later) (y ∷ changed change id later)) ⊎ Among (change x) (cond b (change y ∷ later) (y ∷ changed change id later))) [
  | true ↦ inl (inr behind)
  | false ↦ elim (changed_there change id later x behind) [
    | inl as_was ↦ inl (inr as_was)
    | inr new ↦ inr (inr new)
  ]
]

-- with another id it is as it was
others_there : (change : Record → Record) (id : ℕ) (records : List Record) (x : Record) → x.id ≢ id → Among x records → Among x (changed change id records) × Among x (without id records)
unfolding changed without
others_there change id [] x other there = absurd there
others_there change id (y ∷ later) x other (inl is) = elim (has_id id y) as (λ b. has_id id y ≡ b → Among x (cond b (change y ∷ later) (y ∷ changed change id later)) × Among x (cond b later (y ∷ without id later))) [
  | true ↦ λ t. absurd (other (ap (λ z. z.id) (sym is) ∙ eqb-true y.id id t))
  | false ↦ λ t. (inl is, inl is)
] refl
others_there change id (y ∷ later) x other (inr behind) = elim (has_id id y) as (λ b. Among x (cond b (change y ∷ later) (y ∷ changed change id later)) × Among x (cond b later (y ∷ without id later))) [
  | true ↦ (inr behind, behind)
  | false ↦ let p = others_there change id later x other behind in (inr p.0, inr p.1)
]

-- the record found is there, changed
found_there : (change : Record → Record) (id : ℕ) (records : List Record) (x : Record) → find (has_id id) records ≡ Some x → Among (change x) (changed change id records)
unfolding changed
found_there change id [] x e = clash e
found_there change id (y ∷ later) x e = elim (has_id id y) as (λ b. cond b (Some y) (find (has_id id) later) ≡ Some x → Among (change x) (cond b (change y ∷ later) (y ∷ changed change id later))) [
  | true ↦ λ k. inl (ap change (same_Some _ _ k))
  | false ↦ λ k. inr (found_there change id later x k)
] e

data_of : (r : Record) (keys : Keys) (other : Record) → Among other keys.records → with_status r.status other ≡ r → HasData r keys
data_of r keys other there is = let p = among_place keys.records other there in record { place = p.0; other = other; there = p.1; data' = is }

status_stays : (r : Record) (status : ℕ) (keys new : Keys) (id : ℕ) (other : Record) → new.records ≡ changed (with_status status) id keys.records → Among other keys.records → with_status r.status other ≡ r → HasData r new
status_stays r status keys new id other are there is = elim (changed_there (with_status status) id keys.records other there) [
  | inl as_was ↦ data_of r new other (subst (Among other) (sym are) as_was) is
  | inr changed' ↦ data_of r new (with_status status other) (subst (Among (with_status status other)) (sym are) changed') is
]

StaysData : Record → Edit → Keys → Type 0
StaysData r edit new = SparesData r.id edit → HasData r new

data_seven : (keys : Keys) (r : Record) → HasData r keys → Seven keys (StaysData r)
unfolding StaysData
data_seven keys r h =
    let there = among-slice_get keys.records h.place h.other h.there in
    let own : h.other.id ≡ r.id = ap (λ x. x.id) h.data' in
    record {
      add = λ row x room same new spares. data_of r _ h.other (pushed_there keys.records x h.other there) h.data';
      rotate = λ row x room same new spares. data_of r _ h.other (pushed_there keys.records x h.other there) h.data';
      promote = λ id x e enabled others spares. data_of r _ h.other there h.data';
      enable = λ id x e some clear same valid spares. status_stays r 1 keys _ id h.other refl there h.data';
      disable = λ id x e other some spares. status_stays r 2 keys _ id h.other refl there h.data';
      destroy = λ id x e other spares. data_of r _ h.other (others_there destroyed id keys.records h.other (λ is. spares (sym is ∙ own)) there).0 h.data';
      delete = λ id x e other spares. data_of r _ h.other (others_there destroyed id keys.records h.other (λ is. spares (sym is ∙ own)) there).1 h.data';
    }

data_answer : (keys : Keys) (r : Record) (edit : Edit) (random : List ℕ) (s : Stepped) (answer : Result Keys EditRefusal) → HasData r keys → step keys edit random ≡ Some s → s.answer ≡ answer → IfOk answer (λ new. SparesData r.id edit) → HasData r (kept keys answer)
unfolding StaysData
data_answer keys r edit random s (Err fault) h e is spares = h
data_answer keys r edit random s (Ok new) h e is spares = yielded (StaysData r edit) (step keys edit) random s new (edit_case keys (StaysData r) (data_seven keys r h) edit) e is spares

pub data_stays : DataStays
data_stays keys r edit random s h e spares = data_answer keys r edit random s s.answer h e refl spares

-- ---- enabled again

-- what an accepted edit enables is there, ENABLED
Enabled : Keys → Edit → Keys → Type 0
Enabled old (Enable id) new = (x : Record) × (named old id ≡ Some x) × Among (with_status 1 x) new.records
Enabled old edit new = Unit {0}

enabled_seven : (keys : Keys) → Seven keys (Enabled keys)
unfolding Enabled
enabled_seven keys = record {
  add = λ row x room same new. tt;
  rotate = λ row x room same new. tt;
  promote = λ id x e enabled others. tt;
  enable = λ id x e some clear same valid. (x, e, found_there (with_status 1) id keys.records x e);
  disable = λ id x e other some. tt;
  destroy = λ id x e other. tt;
  delete = λ id x e other. tt;
}

pub enable_gives_back : EnableGivesBack
unfolding Enabled ids
enable_gives_back old new r prefix random s apart words has h e ok =
    let f = yielded (Enabled old (Enable r.id)) (step old (Enable r.id)) random s new (edit_case old (Enabled old) (enabled_seven old) (Enable r.id)) e ok in
    let there = among-slice_get old.records h.place h.other h.there in
    let found = (find-among (has_id r.id) old.records f.0 f.1).0 in
    let is : f.0 ≡ h.other = one_id_one_record old.records f.0 h.other apart found there (find-id r.id old.records f.0 f.1 ∙ sym (ap (λ x. x.id) h.data')) in
    let place = among_place new.records (with_status 1 f.0) f.2 in
    let made : with_status r.status f.0 ≡ r = ap (with_status r.status) is ∙ h.data' in
    let after : kept old s.answer ≡ new = ap (kept old) ok in
    enabled_is_alone new r prefix
    (subst HasDistinctIds after (ids_stay_distinct old (Enable r.id) random s apart e))
    (subst (λ k. AllByRecursion HasWordId k.records) after (words_stay old (Enable r.id) random s words e))
    has
    (record {
      place = place.0;
      other = with_status 1 f.0;
      there = place.1;
      same = record {
        enabled = refl;
        id = ap (λ x. x.id) made;
        prefix = ap (λ x. x.prefix) made;
        url = ap (λ x. x.url) made;
        value = ap (λ x. x.value) made;
        material = ap (λ x. x.material) made;
      };
    })
