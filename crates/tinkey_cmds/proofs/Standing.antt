-- Records that an edit doesn't name stay in their places.
use Rattle.std.proofs.Common.{◌≡◌, ◌∙◌, ℕ, true, false, cond, List, [], ◌∷◌, ◌++◌, find, Some, refl, ap, eqb-true}
use Rattle.std.proofs.lemmas.Bool.{or_from}
use Rattle.keyset_model.specs.declared.record.Record.{Record}
use Rattle.keyset_model.specs.Keyset.{has_id}
use Rattle.tinkey_cmds.specs.Edits.{changed, with_status, destroyed, without, step}
use Rattle.tinkey_cmds.specs.Laws.{EditsLeaveOthers, LeavesOthers, Replaces, Stands}
use Rattle.tinkey_cmds.proofs.Cases.{edit_case, yielded}
use Rattle.tinkey_cmds.proofs.Lists.{none≢some}

-- where the first record of an id stands, it changes or goes
record Standing (records : List Record) (id : ℕ) : Type 0 where
  place : Stands records id
  changes : (change : Record → Record) → changed change id records ≡ place.before ++ change place.named ∷ place.after
  goes : without id records ≡ place.before ++ place.after

stands_first : (id : ℕ) (r : Record) (later : List Record) → has_id id r ≡ true → Standing (r ∷ later) id
unfolding changed without
stands_first id r later t = record {
  place = record { before = []; named = r; after = later; whole = refl; has = eqb-true r.id id t; first = refl };
  changes = λ change. ap (λ b. cond b (change r ∷ later) (r ∷ changed change id later)) t;
  goes = ap (λ b. cond b later (r ∷ without id later)) t;
}

stands_later : (id : ℕ) (r : Record) (later : List Record) → has_id id r ≡ false → Standing later id → Standing (r ∷ later) id
unfolding changed without
stands_later id r later t s = record {
  place = record {
    before = r ∷ s.place.before;
    named = s.place.named;
    after = s.place.after;
    whole = ap (λ rs. r ∷ rs) s.place.whole;
    has = s.place.has;
    first = or_from _ _ t s.place.first;
  };
  changes = λ change. ap (λ b. cond b (change r ∷ later) (r ∷ changed change id later)) t ∙ ap (λ rs. r ∷ rs) (s.changes change);
  goes = ap (λ b. cond b later (r ∷ without id later)) t ∙ ap (λ rs. r ∷ rs) s.goes;
}

stands : (id : ℕ) (records : List Record) (r : Record) → find (has_id id) records ≡ Some r → Standing records id
stands id [] r e = absurd (none≢some e)
stands id (x ∷ later) r e = elim (has_id id x) as (λ b. has_id id x ≡ b → cond b (Some x) (find (has_id id) later) ≡ Some r → Standing (x ∷ later) id) [
  | true ↦ λ t k. stands_first id x later t
  | false ↦ λ t k. stands_later id x later t (stands id later r k)
] refl e

replaces : (change : Record → Record) (id : ℕ) (records : List Record) (r : Record) → find (has_id id) records ≡ Some r → Replaces change id records (changed change id records)
replaces change id records r e = let s = stands id records r e in (s.place, s.changes change)

pub edits_leave_others : EditsLeaveOthers
edits_leave_others old new edit random s e ok = yielded (LeavesOthers old edit) (step old edit) random s new (edit_case old (LeavesOthers old) (record {
  add = λ row r room same new'. (r, refl);
  rotate = λ row r room same new'. (r, refl);
  promote = λ id r named enabled others. refl;
  enable = λ id r named some clear same rule. replaces (with_status 1) id old.records r named;
  disable = λ id r named other some. replaces (with_status 2) id old.records r named;
  destroy = λ id r named other. replaces destroyed id old.records r named;
  delete = λ id r named other. let t = stands id old.records r named in (t.place, t.goes);
}) edit) e ok
