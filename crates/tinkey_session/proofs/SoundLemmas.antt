-- What edits keep: keysets, and sound ones.
use Rattle.std.proofs.Common.{◌≡◌, ◌∙◌, refl, sym, ap, subst, ℕ, List, [], ◌∷◌, ◌++◌, true, Option, Some, None, Result, Ok, Err}
use Rattle.std.specs.List.{AllByRecursion}
use Rattle.std.specs.Option.{option_and_then}
use Rattle.std.proofs.lemmas.Bool.{and_parts}
use Rattle.std.proofs.lemmas.Option.{same_Some}
use Rattle.key_msgs.specs.KeyTypes.{primitive_of_type}
use Rattle.key_msgs.specs.Templates.{MadeKeysAreValid, Row, type_made}
use Rattle.key_msgs.specs.declared.primitive.Primitive.{Primitive}
use Rattle.key_msgs.specs.declared.primitive.Primitive.TheVariants.{Aead, Daead, Mac, Prf, Stream}
use Rattle.keyset_model.proofs.PrimaryLemmas.{primary_there}
use Rattle.keyset_model.specs.Keyset.{Keys, is_primary, primary_of}
use Rattle.keyset_model.specs.declared.record.Record.{Record}
use Rattle.tinkey_cmds.proofs.Among.{among-all, find-among}
use Rattle.tinkey_cmds.proofs.Cases.{IsNew, Seven, edit_case, first_case, yielded}
use Rattle.tinkey_cmds.proofs.Changes.{changed-each, without-each}
use Rattle.tinkey_cmds.proofs.Kept.{IsKept, each-first, each-kept, edits_keep_keysets, firsts_are_keysets}
use Rattle.tinkey_cmds.proofs.Lists.{each-append}
use Rattle.tinkey_cmds.specs.Edits.{Edit, Stepped, destroyed, first, is_same, primary_primitive, primitive_of, step, with_status}
use Rattle.tinkey_cmds.specs.Laws.{HasTemplate, IsTemplate}
use Rattle.tinkey_cmds.specs.declared.command.EditRefusal.{EditRefusal}
use Rattle.tinkey_session.proofs.MadeLemmas.{made_key}
use Rattle.tinkey_session.proofs.Options.{clash, no_truth}
use Rattle.tinkey_session.specs.Laws.{Asked, EditedIsKeyset, EditedIsSound, EditsKeepSound, FirstsAreSound, IsAsked, IsKeyFor, IsSound, IsUsable, after, kept}
use Rattle.wrapped_prims.specs.Laws.{IsKeyset}
use Rattle.wrapped_prims.specs.Making.{HasWordId}

-- ---- keysets

kept-word : IsKept HasWordId
kept-word = record {
  status = λ status r h. h;
  destroyed' = λ r h. h;
  new = λ row records r is new. new.free.word;
}

pub keyset_kept : (old new : Keys) (edit : Edit) (random : List ℕ) (s : Stepped) → HasTemplate edit → IsKeyset old → step old edit random ≡ Some s → s.answer ≡ Ok new → IsKeyset new
keyset_kept old new edit random s is k e ok = record {
  faultless = edits_keep_keysets old new edit random s is k.faultless e ok;
  words = yielded _ (step old edit) random s new (each-kept HasWordId kept-word old edit k.words) e ok is;
}

keyset_first : (new : Keys) (row : Row) (random : List ℕ) (s : Stepped) → IsTemplate row → first row random ≡ Some s → s.answer ≡ Ok new → IsKeyset new
keyset_first new row random s is e ok = record {
  faultless = firsts_are_keysets new row random s is e ok;
  words = yielded _ (first row) random s new (each-first HasWordId kept-word row is) e ok;
}

-- ---- sound ones

same_primitive : (a b : Primitive) → is_same (Some a) (Some b) ≡ true → a ≡ b
same_primitive Aead Aead e = refl
same_primitive Aead Daead e = no_truth e
same_primitive Aead Mac e = no_truth e
same_primitive Aead Prf e = no_truth e
same_primitive Aead Stream e = no_truth e
same_primitive Daead Aead e = no_truth e
same_primitive Daead Daead e = refl
same_primitive Daead Mac e = no_truth e
same_primitive Daead Prf e = no_truth e
same_primitive Daead Stream e = no_truth e
same_primitive Mac Aead e = no_truth e
same_primitive Mac Daead e = no_truth e
same_primitive Mac Mac e = refl
same_primitive Mac Prf e = no_truth e
same_primitive Mac Stream e = no_truth e
same_primitive Prf Aead e = no_truth e
same_primitive Prf Daead e = no_truth e
same_primitive Prf Mac e = no_truth e
same_primitive Prf Prf e = refl
same_primitive Prf Stream e = no_truth e
same_primitive Stream Aead e = no_truth e
same_primitive Stream Daead e = no_truth e
same_primitive Stream Mac e = no_truth e
same_primitive Stream Prf e = no_truth e
same_primitive Stream Stream e = refl

same_as_some : (o : Option Primitive) (p : Primitive) → is_same o (Some p) ≡ true → o ≡ Some p
same_as_some None p e = no_truth e
same_as_some (Some a) p e = ap Some (same_primitive a p e)

-- the primary record of a sound keyset is a key for the primitive
pub primary_key_for : (primitive : Primitive) (keys : Keys) (r : Record) → IsSound primitive keys → primary_of keys ≡ Some r → IsKeyFor primitive r
primary_key_for primitive keys r s p =
    let found = find-among (is_primary keys.primary) keys.records r p in
    among-all (IsUsable primitive) keys.records r s.usable found.0 (and_parts _ _ found.1).1

sound_primitive : (primitive : Primitive) (keys : Keys) → IsSound primitive keys → primary_primitive keys ≡ Some primitive
sound_primitive primitive keys s =
    let there = primary_there keys s.keyset.faultless in
    ap (option_and_then (λ (r : Record). primitive_of r.url)) there.1 ∙ (primary_key_for primitive keys there.0 s there.1).named

new_usable : MadeKeysAreValid → (row : Row) (records : List Record) (r : Record) → IsTemplate row → IsNew row records r → IsUsable (primitive_of_type (type_made row)) r
new_usable law row records r is new enabled = subst (IsKeyFor (primitive_of_type (type_made row))) (sym new.made) (made_key law row r.id new.random is new.size)

usable_seven : MadeKeysAreValid → (primitive : Primitive) (keys : Keys) → IsSound primitive keys
    → Seven keys (λ edit new. HasTemplate edit → AllByRecursion (IsUsable primitive) new.records)
usable_seven law primitive keys s =
    let own = sound_primitive primitive keys s in
    let grows : (row : Row) (r : Record) → is_same (primary_primitive keys) (Some (primitive_of_type (type_made row))) ≡ true → IsNew row keys.records r → IsTemplate row
    → AllByRecursion (IsUsable primitive) (keys.records ++ r ∷ [])
    = λ row r same new is.
    let one : primitive_of_type (type_made row) ≡ primitive = same_Some _ _ (sym (same_as_some _ _ same) ∙ own) in
    each-append (IsUsable primitive) keys.records (r ∷ []) s.usable (subst (λ p. IsUsable p r) one (new_usable law row keys.records r is new), tt) in
    record {
      add = λ row r room same new is. grows row r same new is;
      rotate = λ row r room same new is. grows row r same new is;
      promote = λ id r e enabled others is. s.usable;
      enable = λ id r e there clear same valid is. changed-each (IsUsable primitive) (with_status 1) id keys.records r e
          (λ k. record { named = same_as_some _ _ (ap (is_same (primitive_of r.url)) (sym own) ∙ same); valid = valid }) s.usable;
      disable = λ id r e other there is. changed-each (IsUsable primitive) (with_status 2) id keys.records r e (λ k. no_truth k) s.usable;
      destroy = λ id r e other is. changed-each (IsUsable primitive) destroyed id keys.records r e (λ k. no_truth k) s.usable;
      delete = λ id r e other is. without-each (IsUsable primitive) id keys.records s.usable;
    }

pub edits_keep_sound : MadeKeysAreValid → EditsKeepSound
edits_keep_sound law primitive old new edit random s is sound e ok = record {
  keyset = keyset_kept old new edit random s is sound.keyset e ok;
  usable = yielded _ (step old edit) random s new (edit_case old (λ x k. HasTemplate x → AllByRecursion (IsUsable primitive) k.records) (usable_seven law primitive old sound) edit) e ok is;
}

pub firsts_are_sound : MadeKeysAreValid → FirstsAreSound
firsts_are_sound law new row random s is e ok = record {
  keyset = keyset_first new row random s is e ok;
  usable = yielded _ (first row) random s new (first_case (λ k. AllByRecursion (IsUsable (primitive_of_type (type_made row))) k.records) row (λ r k. (new_usable law row [] r is k, tt))) e ok;
}

-- ---- many edits

-- every accepted edit keeps it
abbrev IsKeptBy : (Keys → Type 0) → Type 0
IsKeptBy P = (old new : Keys) (edit : Edit) (random : List ℕ) (s : Stepped) → HasTemplate edit → P old → step old edit random ≡ Some s → s.answer ≡ Ok new → P new

kept_one : (P : Keys → Type 0) → IsKeptBy P → (old : Keys) (edit : Edit) (random : List ℕ) (s : Stepped) (answer : Result Keys EditRefusal) → HasTemplate edit → P old
    → step old edit random ≡ Some s → s.answer ≡ answer → P (kept old answer)
kept_one P each old edit random s (Err fault) is p e a = p
kept_one P each old edit random s (Ok new) is p e a = each old new edit random s is p e a

-- so edits keep it
after_kept : (P : Keys → Type 0) → IsKeptBy P → (edits : List Asked) (old new : Keys) → AllByRecursion IsAsked edits → P old → after old edits ≡ Some new → P new
unfolding after
after_kept P each [] old new is p e = subst P (same_Some _ _ e) p
after_kept P each (asked ∷ later) old new is p e = elim (step old asked.edit asked.random) as (λ o. step old asked.edit asked.random ≡ o → option_and_then (λ s. after (kept old s.answer) later) o ≡ Some new → P new) [
  | None ↦ λ t k. clash k
  | Some s ↦ λ t k. after_kept P each later (kept old s.answer) new is.1 (kept_one P each old asked.edit asked.random s s.answer is.0 p t refl) k
] refl e

pub edited_keyset : EditedIsKeyset
edited_keyset old new edited k = after_kept IsKeyset keyset_kept edited.edits old new edited.asked k edited.last

pub edited_sound : EditsKeepSound → EditedIsSound
edited_sound law primitive old new edited s = after_kept (IsSound primitive) (law primitive) edited.edits old new edited.asked s edited.last
