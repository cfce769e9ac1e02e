-- Ids stay distinct over edits, and where they are, a key goes by its own id alone.
use Rattle.std.proofs.Common.{◌≡◌, ◌∙◌, inl, inr, refl, sym, ap, subst, ℕ, ◌<◌, ◌^◌, true, false, cond, ◌||◌, List, [], ◌∷◌, ◌++◌, map, Some, None, Result, Ok, Err, nat_eq, eq-eqb}
use Rattle.std.specs.Prelude.{IfOk, IfSome}
use Rattle.std.specs.List.{AllByRecursion, IsDistinct, list_any}
use Rattle.std.specs.Option.{option_and_then}
use Rattle.std.proofs.lemmas.Bool.{true≢false}
use Rattle.std.proofs.lemmas.Cmp.{nat_eq_equiv}
use Rattle.std.proofs.lemmas.List.{map-append}
use Rattle.std.proofs.lemmas.Map.Keys.{IsDistinct-cons, IsDistinct-head, IsDistinct-push, IsDistinct-tail}
use Rattle.std.proofs.lemmas.Option.{same_Some}
use Rattle.keyset_model.specs.Keyset.{Keys, has_id, is_in}
use Rattle.keyset_model.specs.declared.record.Record.{Record}
use Rattle.tinkey_cmds.proofs.Among.{Among, among-all, find-among}
use Rattle.tinkey_cmds.proofs.Cases.{Seven, edit_case, first_case, yielded}
use Rattle.tinkey_cmds.proofs.Changes.{changed-each, without-each}
use Rattle.tinkey_cmds.proofs.Lists.{each-append}
use Rattle.tinkey_cmds.specs.Edits.{Edit, EditOf, Stepped, Add, Rotate, Promote, Enable, Disable, Destroy, Delete, changed, destroyed, first, named, step, with_status, without}
use Rattle.tinkey_cmds.specs.Laws.{IsFree}
use Rattle.tinkey_cmds.specs.declared.command.EditRefusal.{EditRefusal}
use Rattle.tinkey_session.proofs.KeptKeyLemmas.{kept_by_edits, one_prefix_one_id, passes_among}
use Rattle.tinkey_session.proofs.Options.{clash}
use Rattle.tinkey_session.specs.KeptKeys.{AllIdsStayDistinct, EachAccepted, EnablesNoOther, FirstsHaveDistinctIds, HasDistinctIds, IdsStayDistinct, KeptByItsId, NoOtherToEnable, Spares, SparesKey}
use Rattle.tinkey_session.specs.Laws.{Asked, after, kept}
use Rattle.wrapped_prims.specs.Candidates.{is_enabled_with, prefix_of}
use Rattle.wrapped_prims.specs.Laws.{HasSameKey}
use Rattle.wrapped_prims.specs.Making.{HasWordId}

-- ---- the ids of records

unfoldable pub ids : List Record → List ℕ
ids records = map (λ r. r.id) records

-- a changed record keeps its id
changed_ids : (change : Record → Record) → ((r : Record) → (change r).id ≡ r.id) → (id : ℕ) (records : List Record) → ids (changed change id records) ≡ ids records
unfolding changed ids
changed_ids change same id [] = refl
changed_ids change same id (r ∷ later) = elim (has_id id r) as (λ b. ids (cond b (change r ∷ later) (r ∷ changed change id later)) ≡ ids (r ∷ later)) [
  | true ↦ ap (λ n. n ∷ ids later) (same r)
  | false ↦ ap (λ ns. r.id ∷ ns) (changed_ids change same id later)
]

-- what holds of all ids holds of those that are left
without_ids : (P : ℕ → Type 0) (id : ℕ) (records : List Record) → AllByRecursion P (ids records) → AllByRecursion P (ids (without id records))
unfolding without ids
without_ids P id [] each = tt
without_ids P id (r ∷ later) each = elim (has_id id r) as (λ b. AllByRecursion P (ids (cond b later (r ∷ without id later)))) [
  | true ↦ each.1
  | false ↦ (each.0, without_ids P id later each.1)
]

without_distinct : (id : ℕ) (records : List Record) → IsDistinct nat_eq (ids records) → IsDistinct nat_eq (ids (without id records))
unfolding without ids
without_distinct id [] apart = apart
without_distinct id (r ∷ later) apart = elim (has_id id r) as (λ b. IsDistinct nat_eq (ids (cond b later (r ∷ without id later)))) [
  | true ↦ IsDistinct-tail nat_eq r.id (ids later) apart
  | false ↦ IsDistinct-cons nat_eq r.id (ids (without id later))
      (without_ids (λ n. nat_eq r.id n ≡ false) id later (IsDistinct-head nat_eq r.id (ids later) apart))
      (without_distinct id later (IsDistinct-tail nat_eq r.id (ids later) apart))
]

-- no record has it
not_among : (id : ℕ) (records : List Record) → list_any (nat_eq id) (ids records) ≡ is_in records id
unfolding ids
not_among id [] = refl
not_among id (r ∷ later) = ap (λ b. b || list_any (nat_eq id) (ids later)) (nat_eq_equiv.symm id r.id) ∙ ap (λ b. (nat_eq r.id id) || b) (not_among id later)

push_distinct : (records : List Record) (r : Record) → IsFree records r.id → IsDistinct nat_eq (ids records) → IsDistinct nat_eq (ids (records ++ r ∷ []))
unfolding ids
push_distinct records r free apart = subst (IsDistinct nat_eq) (sym (map-append (λ (x : Record). x.id) records (r ∷ [])))
    (IsDistinct-push nat_eq_equiv (ids records) r.id apart (not_among r.id records ∙ free.unused))

-- ---- one edit

distinct_seven : (keys : Keys) → HasDistinctIds keys → Seven keys (λ edit new. HasDistinctIds new)
unfolding ids
distinct_seven keys apart = record {
  add = λ row x room same new. push_distinct keys.records x new.free apart;
  rotate = λ row x room same new. push_distinct keys.records x new.free apart;
  promote = λ id x e enabled others. apart;
  enable = λ id x e there clear same valid. subst (IsDistinct nat_eq) (sym (changed_ids (with_status 1) (λ r. refl) id keys.records)) apart;
  disable = λ id x e other there. subst (IsDistinct nat_eq) (sym (changed_ids (with_status 2) (λ r. refl) id keys.records)) apart;
  destroy = λ id x e other. subst (IsDistinct nat_eq) (sym (changed_ids destroyed (λ r. refl) id keys.records)) apart;
  delete = λ id x e other. without_distinct id keys.records apart;
}

word_seven : (keys : Keys) → AllByRecursion HasWordId keys.records → Seven keys (λ edit new. AllByRecursion HasWordId new.records)
word_seven keys words =
    let found : (id : ℕ) (x : Record) → named keys id ≡ Some x → HasWordId x = λ id x e. among-all HasWordId keys.records x words (find-among (has_id id) keys.records x e).0 in
    record {
      add = λ row x room same new. each-append HasWordId keys.records (x ∷ []) words (new.free.word, tt);
      rotate = λ row x room same new. each-append HasWordId keys.records (x ∷ []) words (new.free.word, tt);
      promote = λ id x e enabled others. words;
      enable = λ id x e there clear same valid. changed-each HasWordId (with_status 1) id keys.records x e (found id x e) words;
      disable = λ id x e other there. changed-each HasWordId (with_status 2) id keys.records x e (found id x e) words;
      destroy = λ id x e other. changed-each HasWordId destroyed id keys.records x e (found id x e) words;
      delete = λ id x e other. without-each HasWordId id keys.records words;
    }

-- what holds after an accepted edit and before it holds after any
any_answer : (P : Keys → Type 0) (keys : Keys) (edit : Edit) (random : List ℕ) (s : Stepped) (answer : Result Keys EditRefusal) → Seven keys (λ edit. P) → P keys → step keys edit random ≡ Some s → s.answer ≡ answer → P (kept keys answer)
any_answer P keys edit random s (Err fault) seven p e is = p
any_answer P keys edit random s (Ok new) seven p e is = yielded P (step keys edit) random s new (edit_case keys (λ x. P) seven edit) e is

pub ids_stay_distinct : IdsStayDistinct
ids_stay_distinct keys edit random s apart e = any_answer HasDistinctIds keys edit random s s.answer (distinct_seven keys apart) apart e refl

pub words_stay : (keys : Keys) (edit : Edit) (random : List ℕ) (s : Stepped) → AllByRecursion HasWordId keys.records → step keys edit random ≡ Some s → AllByRecursion HasWordId (kept keys s.answer).records
words_stay keys edit random s words e = any_answer (λ k. AllByRecursion HasWordId k.records) keys edit random s s.answer (word_seven keys words) words e refl

pub firsts_have_distinct_ids : FirstsHaveDistinctIds
unfolding IsDistinct
firsts_have_distinct_ids new row random s e ok =
    yielded HasDistinctIds (first row) random s new (first_case HasDistinctIds row (λ r is. (tt, tt))) e ok

-- ---- one id, one record

-- ids that are apart from one
pub not_apart : (id : ℕ) (records : List Record) (x : Record) → AllByRecursion (λ n. nat_eq id n ≡ false) (ids records) → Among x records → id ≡ x.id → ⊥
unfolding ids
not_apart id [] x apart there is = there
not_apart id (r ∷ later) x apart (inl here) is = true≢false (sym (eq-eqb id r.id (is ∙ ap (λ y. y.id) (sym here))) ∙ apart.0)
not_apart id (r ∷ later) x apart (inr behind) is = not_apart id later x apart.1 behind is

pub one_id_one_record : (records : List Record) (x y : Record) → IsDistinct nat_eq (ids records) → Among x records → Among y records → x.id ≡ y.id → x ≡ y
unfolding ids
one_id_one_record [] x y apart there also is = absurd there
one_id_one_record (r ∷ later) x y apart (inl here) (inl too) is = sym here ∙ too
one_id_one_record (r ∷ later) x y apart (inl here) (inr behind) is =
    absurd (not_apart r.id later y (IsDistinct-head nat_eq r.id (ids later) apart) behind (ap (λ z. z.id) here ∙ is))
one_id_one_record (r ∷ later) x y apart (inr behind) (inl here) is =
    absurd (not_apart r.id later x (IsDistinct-head nat_eq r.id (ids later) apart) behind (ap (λ z. z.id) here ∙ sym is))
one_id_one_record (r ∷ later) x y apart (inr a) (inr b) is = one_id_one_record later x y (IsDistinct-tail nat_eq r.id (ids later) apart) a b is

-- the one under the prefix is there
only_there : (keys : Keys) (r : Record) (key : HasSameKey r keys) → Among key.only keys.records
only_there keys r key = (passes_among (is_enabled_with (prefix_of r)) keys.records key.only (subst (Among key.only) (sym key.alone) (inl refl))).0

pub word_of_key : (keys : Keys) (r : Record) → AllByRecursion HasWordId keys.records → HasSameKey r keys → HasWordId r
word_of_key keys r words key = subst (λ n. n < 2 ^ 32) key.same.id (among-all HasWordId keys.records key.only words (only_there keys r key))

-- what an edit would enable under its prefix is itself
pub no_other : {A : Type 0} (keys : Keys) (r : Record) (prefix : List ℕ) (edit : EditOf A) → HasDistinctIds keys → AllByRecursion HasWordId keys.records → prefix_of r ≡ Some prefix → HasSameKey r keys → EnablesNoOther r keys edit
unfolding ids
no_other keys r prefix (Enable id) apart words has key = λ other e same.
    let there = (find-among (has_id id) keys.records other e).0 in
    let one_id : other.id ≡ r.id = one_prefix_one_id other r prefix (among-all HasWordId keys.records other words there) (word_of_key keys r words key) has same in
    ap (λ x. x.status) (one_id_one_record keys.records other key.only apart there (only_there keys r key) (one_id ∙ sym key.same.id)) ∙ key.same.enabled
no_other keys r prefix (Add row) apart words has key = tt
no_other keys r prefix (Rotate row) apart words has key = tt
no_other keys r prefix (Promote id) apart words has key = tt
no_other keys r prefix (Disable id) apart words has key = tt
no_other keys r prefix (Destroy id) apart words has key = tt
no_other keys r prefix (Delete id) apart words has key = tt

pub no_other_to_enable : NoOtherToEnable
no_other_to_enable keys r prefix edit apart words has key = no_other keys r prefix edit apart words has key

-- ---- many edits

distinct_list : (edits : List Asked) (old new : Keys) → HasDistinctIds old → after old edits ≡ Some new → HasDistinctIds new
unfolding after
distinct_list [] old new apart e = subst HasDistinctIds (same_Some _ _ e) apart
distinct_list (asked ∷ later) old new apart e = elim (step old asked.edit asked.random) as (λ o. step old asked.edit asked.random ≡ o → option_and_then (λ s. after (kept old s.answer) later) o ≡ Some new → HasDistinctIds new) [
  | None ↦ λ t k. clash k
  | Some s ↦ λ t k. distinct_list later (kept old s.answer) new (ids_stay_distinct old asked.edit asked.random s apart t) k
] refl e

pub all_ids_stay_distinct : AllIdsStayDistinct
all_ids_stay_distinct old new edits apart e = distinct_list edits old new apart e

-- a keyset with distinct ids of 32 bits, and a key that is alone in it
pub record IsHeld (r : Record) (keys : Keys) : Type 0 where
  pub apart : HasDistinctIds keys
  pub words : AllByRecursion HasWordId keys.records
  pub key : HasSameKey r keys

-- stays so over any edit that spares its id, where it is accepted
pub held_by_edit : (keys : Keys) (r : Record) (prefix : List ℕ) (edit : Edit) (random : List ℕ) (s : Stepped) → prefix_of r ≡ Some prefix → IsHeld r keys → step keys edit random ≡ Some s → IfOk s.answer (λ new. Spares r.id edit) → IsHeld r (kept keys s.answer)
held_by_edit keys r prefix edit random s has held e spares = record {
  apart = ids_stay_distinct keys edit random s held.apart e;
  words = words_stay keys edit random s held.words e;
  key = kept_by_edits keys r prefix edit random s (word_of_key keys r held.words held.key) has held.key e (both s.answer spares);
}
  where
    both : (answer : Result Keys EditRefusal) → IfOk answer (λ new. Spares r.id edit) → IfOk answer (λ new. SparesKey r keys edit)
    both (Ok new) spares = record { spares = spares; no_other = no_other keys r prefix edit held.apart held.words has held.key }
    both (Err fault) spares = tt

held_list : (edits : List Asked) (old new : Keys) (r : Record) (prefix : List ℕ) → prefix_of r ≡ Some prefix → IsHeld r old → EachAccepted (λ keys. Spares r.id) old edits → after old edits ≡ Some new → IsHeld r new
unfolding after EachAccepted
held_list [] old new r prefix has held spares e = subst (IsHeld r) (same_Some _ _ e) held
held_list (asked ∷ later) old new r prefix has held spares e = elim (step old asked.edit asked.random) as (λ o. step old asked.edit asked.random ≡ o
    → IfSome o (λ s. IfOk s.answer (λ new. Spares r.id asked.edit) × EachAccepted (λ keys. Spares r.id) (kept old s.answer) later) → option_and_then (λ s. after (kept old s.answer) later) o ≡ Some new → IsHeld r new) [
      | None ↦ λ t rest k. clash k
      | Some s ↦ λ t rest k. held_list later (kept old s.answer) new r prefix has (held_by_edit old r prefix asked.edit asked.random s has held t rest.0) rest.1 k
    ] refl spares e

pub kept_by_its_id : KeptByItsId
kept_by_its_id old new r prefix edits apart words has key spares e = (held_list edits old new r prefix has (record { apart = apart; words = words; key = key }) spares e).key
