-- Edits by the place of a record.
use Rattle.std.proofs.Common.{◌≡◌, ◌≢◌, ◌∙◌, ℕ, suc, ◌+◌, ◌<◌, Bool, true, false, cond, not, ◌&&◌, ◌||◌, List, [], ◌∷◌, length, get_or, set, remove, position, Some, refl, sym, ap, arith, subst, one-add}
use Rattle.std.specs.Prelude.{drop, slice_get}
use Rattle.std.specs.List.{list_any, prefix_len}
use Rattle.std.proofs.lemmas.Bool.{ltb-true, ne_eqb}
use Rattle.std.proofs.lemmas.Option.{cond_some}
use Rattle.keyset_model.specs.declared.record.Record.{Record}
use Rattle.keyset_model.specs.Keyset.{has_id, is_enabled, is_primary}
use Rattle.keyset_model.specs.Changes.{changed_at}
use Rattle.keyset_model.proofs.ChangeLemmas.{set-changed_at}
use Rattle.tinkey_cmds.specs.Edits.{changed, without}
use Rattle.tinkey_cmds.proofs.Lists.{drop-next, slice-there}

-- how many records stand before the first with that id
before : ℕ → List Record → ℕ
before id records = prefix_len (λ r. not (has_id id r)) records

changed-set : (change : Record → Record) (id : ℕ) (records : List Record) (d : Record) → before id records < length records
    → changed change id records ≡ set records (before id records) (change (get_or records (before id records) d))
unfolding changed before
changed-set change id [] d l = absurd (omega arith)
changed-set change id (r ∷ later) d l = elim (has_id id r) as (λ b. cond (not b) (1 + before id later) 0 < suc (length later)
    → cond b (change r ∷ later) (r ∷ changed change id later) ≡ set (r ∷ later) (cond (not b) (1 + before id later) 0) (change (get_or (r ∷ later) (cond (not b) (1 + before id later) 0) d))) [
      | true ↦ λ k. refl
      | false ↦ λ k. subst (λ n. r ∷ changed change id later ≡ set (r ∷ later) n (change (get_or (r ∷ later) n d))) (sym (one-add (before id later))) (ap (λ xs. r ∷ xs) (changed-set change id later d (omega arith)))
    ] l

without-remove : (id : ℕ) (records : List Record) → before id records < length records → without id records ≡ remove records (before id records)
unfolding without before
without-remove id [] l = absurd (omega arith)
without-remove id (r ∷ later) l = elim (has_id id r) as (λ b. cond (not b) (1 + before id later) 0 < suc (length later)
    → cond b later (r ∷ without id later) ≡ remove (r ∷ later) (cond (not b) (1 + before id later) 0)) [
      | true ↦ λ k. refl
      | false ↦ λ k. subst (λ n. r ∷ without id later ≡ remove (r ∷ later) n) (sym (one-add (before id later))) (ap (λ xs. r ∷ xs) (without-remove id later (omega arith)))
    ] l

-- the first record with that id stands at its place
pub edits_by_place : (change : Record → Record) (id i : ℕ) (records : List Record) (default : Record)
    → position (has_id id) records ≡ Some i
    → (changed change id records ≡ set records i (change (get_or records i default)))
    × (without id records ≡ remove records i)
unfolding before
edits_by_place change id i records d e =
    let p = cond_some _ _ _ e in
    let l = ltb-true (before id records) (length records) p.0 in (
      subst (λ n. changed change id records ≡ set records n (change (get_or records n d))) p.1 (changed-set change id records d l),
      subst (λ n. without id records ≡ remove records n) p.1 (without-remove id records l),
    )

-- among the others only those behind that place may have the id
others-behind : (id : ℕ) (records : List Record) → list_any (is_primary id) (without id records) ≡ list_any (is_primary id) (drop (suc (before id records)) records)
unfolding without before
others-behind id [] = refl
others-behind id (r ∷ later) = elim (has_id id r) as (λ b. has_id id r ≡ b → list_any (is_primary id) (cond b later (r ∷ without id later)) ≡ list_any (is_primary id) (drop (suc (cond (not b) (1 + before id later) 0)) (r ∷ later))) [
  | true ↦ λ t. refl
  | false ↦ λ t. ap (λ b. (b && is_enabled r) || list_any (is_primary id) (without id later)) t ∙ others-behind id later ∙ ap (λ n. list_any (is_primary id) (drop n later)) (sym (one-add (before id later)))
] refl

pub others-from : (id i : ℕ) (records : List Record) → Some i ≡ position (has_id id) records → list_any (is_primary id) (without id records) ≡ list_any (is_primary id) (drop (i + 1) records)
unfolding before
others-from id i records place =
    let p = cond_some _ _ _ (sym place) in
    let next : suc (before id records) ≡ i + 1 = omega (arith, p.1) in
    others-behind id records ∙ ap (λ n. list_any (is_primary id) (drop n records)) next

-- a record that isn't primary
pub unlike-fails : (id : ℕ) (r : Record) → r.id ≢ id → is_primary id r ≡ false
unlike-fails id r other = ap (λ b. b && is_enabled r) (ne_eqb r.id id other)

pub other-fails : (id : ℕ) (r : Record) → r.status ≢ 1 → is_primary id r ≡ false
other-fails id r other = and_false (has_id id r) (ne_eqb r.status 1 other)
  where
    and_false : (b : Bool) {d : Bool} → d ≡ false → (b && d) ≡ false
    and_false true e = e
    and_false false e = refl

-- a record further on
pub others-next : (id i : ℕ) (records : List Record) (r : Record) → slice_get records i ≡ Some r → is_primary id r ≡ false
    → list_any (is_primary id) (drop i records) ≡ list_any (is_primary id) (drop (i + 1) records)
others-next id i records r there fails = ap (list_any (is_primary id)) (drop-next records i r there) ∙ ap (λ b. b || list_any (is_primary id) (drop (i + 1) records)) fails

pub others-here : (id i : ℕ) (records : List Record) (r : Record) → slice_get records i ≡ Some r → is_primary id r ≡ true → list_any (is_primary id) (drop i records) ≡ true
others-here id i records r there passes = ap (list_any (is_primary id)) (drop-next records i r there) ∙ ap (λ b. b || list_any (is_primary id) (drop (i + 1) records)) passes

-- the record at the place of an id changes
pub at-changed : (change : Record → Record) (id i : ℕ) (records : List Record) → i < length records → Some i ≡ position (has_id id) records → changed_at change i records ≡ changed change id records
at-changed change id i records within place =
    let there = slice-there records i within in
    sym (set-changed_at change i records there.0 within) ∙ sym (edits_by_place change id i records there.0 (sym place)).0

-- it goes
pub at-removed : (id i : ℕ) (records : List Record) → i < length records → Some i ≡ position (has_id id) records → remove records i ≡ without id records
at-removed id i records within place = let there = slice-there records i within in sym (edits_by_place (λ r. r) id i records there.0 (sym place)).1
