-- A key that is ENABLED and alone under its prefix stays so, over edits that spare it.
use Rattle.std.proofs.Common.{◌≡◌, ◌≢◌, ◌∙◌, ◌⊎◌, inl, inr, refl, sym, ap, subst, ℕ, Bool, true, false, cond, List, [], ◌∷◌, ◌++◌, drop, filter, find, Option, Some, None, Result, Ok, Err, eq-eqb, append-nil}
use Rattle.std.specs.Prelude.{IfOk, IfSome}
use Rattle.std.specs.Int.{w32, from_be_bytes}
use Rattle.std.specs.Option.{option_and_then}
use Rattle.std.proofs.lemmas.Bool.{true≢false, and_right, false_from_ne_true}
use Rattle.std.proofs.lemmas.List.Elements.{filter-append}
use Rattle.std.proofs.lemmas.Nat.{from_be_bytes-to_be_bytes_4}
use Rattle.std.proofs.lemmas.Option.{same_Some}
use Rattle.std.proofs.lemmas.Slice.Eq.{bytes_eq-Decides}
use Rattle.keyset_model.specs.Keyset.{Keys, has_id, is_enabled, is_in}
use Rattle.keyset_model.specs.declared.record.Record.{Record}
use Rattle.tinkey_cmds.proofs.Among.{Among, among-any, find-among}
use Rattle.tinkey_cmds.proofs.Cases.{Seven, edit_case, yielded}
use Rattle.tinkey_cmds.proofs.Changes.{find-id}
use Rattle.tinkey_cmds.specs.Edits.{Edit, Stepped, changed, destroyed, named, step, with_status, without}
use Rattle.tinkey_cmds.specs.Laws.{IsFree}
use Rattle.tinkey_cmds.specs.declared.command.EditRefusal.{EditRefusal}
use Rattle.tinkey_session.proofs.Options.{clash, no_truth}
use Rattle.tinkey_session.specs.KeptKeys.{EachAccepted, KeptByAllEdits, KeptByEdits, SparesKey}
use Rattle.tinkey_session.specs.Laws.{Asked, after, kept}
use Rattle.wrapped_prims.proofs.PrefixLemmas.{five, five-prefix_of}
use Rattle.wrapped_prims.specs.Candidates.{enabled_with, is_enabled_with, prefix_of, same_prefix}
use Rattle.wrapped_prims.specs.Laws.{HasSameKey}
use Rattle.wrapped_prims.specs.Making.{HasWordId}

-- ---- what passes a test

-- what passes a test is where all that pass are
among_passes : (test : Record → Bool) (records : List Record) (x : Record) → Among x records → test x ≡ true → Among x (filter test records)
among_passes test [] x there passes = there
among_passes test (y ∷ ys) x (inl is) passes = subst (λ b. Among x (cond b (y ∷ filter test ys) (filter test ys))) (sym (ap test is ∙ passes)) (inl is)
among_passes test (y ∷ ys) x (inr later) passes = elim (test y) as (λ b. Among x (cond b (y ∷ filter test ys) (filter test ys))) [
  | true ↦ inr (among_passes test ys x later passes)
  | false ↦ among_passes test ys x later passes
]

-- and the other way round
pub passes_among : (test : Record → Bool) (records : List Record) (x : Record) → Among x (filter test records) → Among x records × (test x ≡ true)
passes_among test [] x there = absurd there
passes_among test (y ∷ ys) x there = elim (test y) as (λ b. test y ≡ b → Among x (cond b (y ∷ filter test ys) (filter test ys)) → Among x (y ∷ ys) × (test x ≡ true)) [
  | true ↦ λ t k. elim k [
    | inl is ↦ (inl is, ap test (sym is) ∙ t)
    | inr later ↦ let p = passes_among test ys x later in (inr p.0, p.1)
  ]
  | false ↦ λ t k. let p = passes_among test ys x k in (inr p.0, p.1)
] refl there

-- of which there is only one
only_passes : (test : Record → Bool) (records : List Record) (only x : Record) → filter test records ≡ only ∷ [] → Among x records → test x ≡ true → only ≡ x
only_passes test records only x alone there passes = elim (subst (Among x) alone (among_passes test records x there passes)) [
  | inl is ↦ is
  | inr none ↦ absurd none
]

-- a record that is changed stays what it is, or passes neither before nor after
changed_passes : (test : Record → Bool) (change : Record → Record) (id : ℕ) (records : List Record) (r : Record) → find (has_id id) records ≡ Some r
    → (change r ≡ r) ⊎ ((test r ≡ false) × (test (change r) ≡ false)) → filter test (changed change id records) ≡ filter test records
unfolding changed
changed_passes test change id [] r e is = clash e
changed_passes test change id (s ∷ later) r e is = elim (has_id id s) as (λ b. cond b (Some s) (find (has_id id) later) ≡ Some r → filter test (cond b (change s ∷ later) (s ∷ changed change id later)) ≡ filter test (s ∷ later)) [
  | true ↦ λ k. here (subst (λ x. (change x ≡ x) ⊎ ((test x ≡ false) × (test (change x) ≡ false))) (sym (same_Some _ _ k)) is)
  | false ↦ λ k. ap (λ rs. cond (test s) (s ∷ rs) rs) (changed_passes test change id later r k is)
] e
  where
    here : (change s ≡ s) ⊎ ((test s ≡ false) × (test (change s) ≡ false)) → filter test (change s ∷ later) ≡ filter test (s ∷ later)
    here (inl same) = ap (λ x. filter test (x ∷ later)) same
    here (inr (before, behind)) =
        ap (λ b. cond b (change s ∷ filter test later) (filter test later)) behind ∙ sym (ap (λ b. cond b (s ∷ filter test later) (filter test later)) before)

-- one that goes didn't pass
without_passes : (test : Record → Bool) (id : ℕ) (records : List Record) (r : Record) → find (has_id id) records ≡ Some r → test r ≡ false → filter test (without id records) ≡ filter test records
unfolding without
without_passes test id [] r e fails = clash e
without_passes test id (s ∷ later) r e fails = elim (has_id id s) as (λ b. cond b (Some s) (find (has_id id) later) ≡ Some r → filter test (cond b later (s ∷ without id later)) ≡ filter test (s ∷ later)) [
  | true ↦ λ k. sym (ap (λ b. cond b (s ∷ filter test later) (filter test later)) (ap test (same_Some _ _ k) ∙ fails))
  | false ↦ λ k. ap (λ rs. cond (test s) (s ∷ rs) rs) (without_passes test id later r k fails)
] e

-- a new one doesn't
push_passes : (test : Record → Bool) (records : List Record) (r : Record) → test r ≡ false → filter test (records ++ r ∷ []) ≡ filter test records
push_passes test records r fails = filter-append test records (r ∷ []) ∙ ap (λ b. filter test records ++ cond b (r ∷ []) []) fails ∙ append-nil _

-- ---- prefixes

pub same_prefix_is : (own other : Option (List ℕ)) → same_prefix own other ≡ true → own ≡ other
same_prefix_is None None e = refl
same_prefix_is None (Some b) e = no_truth e
same_prefix_is (Some a) None e = no_truth e
same_prefix_is (Some a) (Some b) e = ap Some ((bytes_eq-Decides a b).0 e)

-- two records with one prefix have one id, where it has 32 bits
pub one_prefix_one_id : (a b : Record) (prefix : List ℕ) → HasWordId a → HasWordId b → prefix_of b ≡ Some prefix → prefix_of a ≡ prefix_of b → a.id ≡ b.id
one_prefix_one_id a b prefix word_a word_b has same =
    let fives : five a ≡ five b = five-prefix_of a prefix (same ∙ has) ∙ sym (five-prefix_of b prefix has) in
    sym (from_be_bytes-to_be_bytes_4 a.id word_a) ∙ ap (λ bytes. from_be_bytes w32 (drop 1 bytes)) fives ∙ from_be_bytes-to_be_bytes_4 b.id word_b

-- ---- one edit

-- the one under the prefix
record IsAlone (keys : Keys) (r only : Record) (prefix : List ℕ) : Type 0 where
  word : HasWordId r
  has : prefix_of r ≡ Some prefix
  alone : enabled_with (prefix_of r) keys.records ≡ only ∷ []
  same : only.id ≡ r.id

-- it is there, and passes
alone_there : (keys : Keys) (r only : Record) (prefix : List ℕ) → IsAlone keys r only prefix → Among only keys.records × (is_enabled_with (prefix_of r) only ≡ true)
alone_there keys r only prefix a = passes_among (is_enabled_with (prefix_of r)) keys.records only (subst (Among only) (sym a.alone) (inl refl))

-- a record that is named by another id doesn't pass
other_fails : (keys : Keys) (r only : Record) (prefix : List ℕ) → IsAlone keys r only prefix → (id : ℕ) (x : Record) → named keys id ≡ Some x → id ≢ r.id → is_enabled_with (prefix_of r) x ≡ false
other_fails keys r only prefix a id x e other = false_from_ne_true _ (λ passes.
    let is : only ≡ x = only_passes (is_enabled_with (prefix_of r)) keys.records only x a.alone (find-among (has_id id) keys.records x e).0 passes in
    other (sym (find-id id keys.records x e) ∙ ap (λ y. y.id) (sym is) ∙ a.same))

-- nor does one with an id that no record has
new_fails : (keys : Keys) (r only : Record) (prefix : List ℕ) → IsAlone keys r only prefix → (x : Record) → IsFree keys.records x.id → is_enabled_with (prefix_of r) x ≡ false
new_fails keys r only prefix a x free = and_right (is_enabled x) _ (false_from_ne_true _ (λ same.
    let is : x.id ≡ r.id = one_prefix_one_id x r prefix free.word a.word a.has (same_prefix_is _ _ same) in
    let there : is_in keys.records x.id ≡ true = among-any (has_id x.id) keys.records only (alone_there keys r only prefix a).0 (eq-eqb only.id x.id (a.same ∙ sym is)) in
    true≢false (sym there ∙ free.unused)))

-- one that is enabled was ENABLED, or has another prefix
enabled_stays : (keys : Keys) (r only : Record) (prefix : List ℕ) → IsAlone keys r only prefix → (x : Record) → (prefix_of x ≡ prefix_of r → x.status ≡ 1)
    → (with_status 1 x ≡ x) ⊎ ((is_enabled_with (prefix_of r) x ≡ false) × (is_enabled_with (prefix_of r) (with_status 1 x) ≡ false))
enabled_stays keys r only prefix a x was = elim (same_prefix (prefix_of x) (prefix_of r)) as (λ b. same_prefix (prefix_of x) (prefix_of r) ≡ b
    → (with_status 1 x ≡ x) ⊎ ((is_enabled_with (prefix_of r) x ≡ false) × (is_enabled_with (prefix_of r) (with_status 1 x) ≡ false))) [
      | true ↦ λ t. inl (ap (λ n. with_status n x) (sym (was (same_prefix_is _ _ t))))
      | false ↦ λ t. inr (and_right (is_enabled x) _ t, t)
    ] refl

-- the same records are ENABLED with the prefix
StaysAlone : Record → Keys → Edit → Keys → Type 0
StaysAlone r keys edit new = SparesKey r keys edit → enabled_with (prefix_of r) new.records ≡ enabled_with (prefix_of r) keys.records

alone_seven : (keys : Keys) (r only : Record) (prefix : List ℕ) → IsAlone keys r only prefix → Seven keys (StaysAlone r keys)
unfolding StaysAlone
alone_seven keys r only prefix a = let test = is_enabled_with (prefix_of r) in record {
  add = λ row x room same new spares. push_passes test keys.records x (new_fails keys r only prefix a x new.free);
  rotate = λ row x room same new spares. push_passes test keys.records x (new_fails keys r only prefix a x new.free);
  promote = λ id x e enabled others spares. refl;
  enable = λ id x e there clear same valid spares. changed_passes test (with_status 1) id keys.records x e (enabled_stays keys r only prefix a x (spares.no_other x e));
  disable = λ id x e other there spares. changed_passes test (with_status 2) id keys.records x e (inr (other_fails keys r only prefix a id x e spares.spares, refl));
  destroy = λ id x e other spares. changed_passes test destroyed id keys.records x e (inr (other_fails keys r only prefix a id x e spares.spares, refl));
  delete = λ id x e other spares. without_passes test id keys.records x e (other_fails keys r only prefix a id x e spares.spares);
}

accepted_keeps : (keys new : Keys) (r : Record) (prefix : List ℕ) (edit : Edit) (random : List ℕ) (s : Stepped) → HasWordId r → prefix_of r ≡ Some prefix → HasSameKey r keys
    → SparesKey r keys edit → step keys edit random ≡ Some s → s.answer ≡ Ok new → HasSameKey r new
unfolding StaysAlone
accepted_keeps keys new r prefix edit random s word has key spares e ok =
    let a : IsAlone keys r key.only prefix = record { word = word; has = has; alone = key.alone; same = key.same.id } in
    record {
      only = key.only;
      alone = yielded _ (step keys edit) random s new (edit_case keys (StaysAlone r keys) (alone_seven keys r key.only prefix a) edit) e ok spares ∙ key.alone;
      same = key.same;
    }

answer_keeps : (keys : Keys) (r : Record) (prefix : List ℕ) (edit : Edit) (random : List ℕ) (s : Stepped) (answer : Result Keys EditRefusal) → HasWordId r → prefix_of r ≡ Some prefix → HasSameKey r keys
    → step keys edit random ≡ Some s → s.answer ≡ answer → IfOk answer (λ new. SparesKey r keys edit) → HasSameKey r (kept keys answer)
answer_keeps keys r prefix edit random s (Err fault) word has key e is spares = key
answer_keeps keys r prefix edit random s (Ok new) word has key e is spares = accepted_keeps keys new r prefix edit random s word has key spares e is

pub kept_by_edits : KeptByEdits
kept_by_edits keys r prefix edit random s word has key e spares = answer_keeps keys r prefix edit random s s.answer word has key e refl spares

-- what holds of an edit holds where it is accepted
pub if_ok : {P : Type 0} (answer : Result Keys EditRefusal) → P → IfOk answer (λ new. P)
if_ok (Ok new) p = p
if_ok (Err fault) p = tt

-- ---- many edits

kept_list : (edits : List Asked) (old new : Keys) (r : Record) (prefix : List ℕ) → HasWordId r → prefix_of r ≡ Some prefix → HasSameKey r old → EachAccepted (SparesKey r) old edits → after old edits ≡ Some new → HasSameKey r new
unfolding after EachAccepted
kept_list [] old new r prefix word has key spares e = subst (HasSameKey r) (same_Some _ _ e) key
kept_list (asked ∷ later) old new r prefix word has key spares e = elim (step old asked.edit asked.random) as (λ o. step old asked.edit asked.random ≡ o
    → IfSome o (λ s. IfOk s.answer (λ new. SparesKey r old asked.edit) × EachAccepted (SparesKey r) (kept old s.answer) later) → option_and_then (λ s. after (kept old s.answer) later) o ≡ Some new → HasSameKey r new) [
      | None ↦ λ t rest k. clash k
      | Some s ↦ λ t rest k. kept_list later (kept old s.answer) new r prefix word has (kept_by_edits old r prefix asked.edit asked.random s word has key t rest.0) rest.1 k
    ] refl spares e

pub kept_by_all_edits : KeptByAllEdits
kept_by_all_edits old new r prefix edits word has key spares e = kept_list edits old new r prefix word has key spares e
