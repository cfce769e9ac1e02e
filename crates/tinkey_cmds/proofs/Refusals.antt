-- A refusal leaves all bytes, unless no draw gave a new id.
use Rattle.std.proofs.Common.{◌≡◌, ℕ, zero, suc, true, false, cond, ltb, List, length, take, drop, Option, Some, None, Result, Ok, Err, refl, sym, ap, subst}
use Rattle.std.proofs.lemmas.Option.{same_Some}
use Rattle.keyset_model.specs.declared.record.Record.{Record}
use Rattle.keyset_model.specs.Keyset.{Keys}
use Rattle.key_msgs.specs.Templates.{Row, random_of}
use Rattle.tinkey_cmds.specs.declared.command.EditRefusal.{EditRefusal}
use Rattle.tinkey_cmds.specs.declared.command.EditRefusal.TheVariants.{IdsExhausted}
use Rattle.tinkey_cmds.specs.Draws.{Drawn, Draw, answered, fill, unless_err, and_then}
use Rattle.tinkey_cmds.specs.Edits.{Edit, Add, Rotate, Promote, Enable, Disable, Destroy, Delete, id_of, is_taken, new_id, record_of, with_key, new_record, grown, added, rotated, refusal_of, effect_of, unless_refused}
use Rattle.tinkey_cmds.specs.Laws.{RefusalsDrawNothing}
use Rattle.tinkey_cmds.proofs.Lists.{none≢some}

-- the only refusal is that no draw gave an id
IsExhausted : {A : Type 0} → Result A EditRefusal → Type 0
IsExhausted (Ok value) = Unit {0}
IsExhausted (Err fault) = fault ≡ IdsExhausted

OnlyExhausted : {A : Type 0} → Draw A → Type 0
OnlyExhausted {A} give = (random : List ℕ) (s : Drawn A) → give random ≡ Some s → IsExhausted s.answer

only-answered : {A : Type 0} (answer : Result A EditRefusal) → IsExhausted answer → OnlyExhausted (answered answer)
unfolding OnlyExhausted
only-answered answer is random s e = subst (λ d. IsExhausted d.answer) (same_Some _ _ e) is

only-next : {A B : Type 0} (next : A → Draw B) (s : Drawn B) → ((x : A) → OnlyExhausted (next x))
    → (answer : Result A EditRefusal) (left : List ℕ) → IsExhausted answer → unless_err answer left next ≡ Some s → IsExhausted s.answer
unfolding OnlyExhausted IsExhausted
only-next next s each (Err fault) left is e = subst (λ d. IsExhausted d.answer) (same_Some _ _ e) is
only-next next s each (Ok x) left is e = each x left s e

only-and_then : {A B : Type 0} (f : Draw A) (next : A → Draw B) → OnlyExhausted f → ((x : A) → OnlyExhausted (next x)) → OnlyExhausted (λ random. and_then (f random) next)
unfolding OnlyExhausted
only-and_then f next one each random s e = elim (f random) as (λ o. f random ≡ o → and_then o next ≡ Some s → IsExhausted s.answer) [
  | None ↦ λ t k. absurd (none≢some k)
  | Some d ↦ λ t k. only-next next s each d.answer d.left (one random d t) k
] refl e

only-fill : (count : ℕ) → OnlyExhausted (fill count)
unfolding OnlyExhausted IsExhausted
only-fill count random s e = elim (ltb (length random) count) as (λ b. cond b None (Some (record { answer = Ok (take count random); left = drop count random })) ≡ Some s → IsExhausted s.answer) [
  | true ↦ λ k. absurd (none≢some k)
  | false ↦ λ k. subst (λ d. IsExhausted d.answer) (same_Some _ _ k) tt
] e

only-new_id : (tries : ℕ) (records : List Record) → OnlyExhausted (new_id tries records)
unfolding new_id IsExhausted
only-new_id zero records = only-answered (Err IdsExhausted) refl
only-new_id (suc tries) records = only-and_then (fill 4) _ (only-fill 4) (λ group.
    elim (is_taken records (id_of group)) as (λ b. OnlyExhausted (λ left. cond b (new_id tries records left) (answered (Ok (id_of group)) left))) [
      | true ↦ only-new_id tries records
      | false ↦ only-answered (Ok (id_of group)) tt
    ])

only-grown : (keys_with : Record → Keys) (row : Row) (records : List Record) → OnlyExhausted (grown keys_with row records)
unfolding IsExhausted
only-grown keys_with row records = only-and_then (new_record row records) _ (only-and_then (new_id 64 records) (with_key row) (only-new_id 64 records) (λ id.
    only-and_then (fill (random_of row)) _ (only-fill (random_of row)) (λ key. only-answered (Ok (record_of row id key)) tt)))
    (λ r. only-answered (Ok (keys_with r)) tt)

only-effect : (keys : Keys) (edit : Edit) → OnlyExhausted (effect_of keys edit)
unfolding effect_of IsExhausted
only-effect keys (Add row) = only-grown (added keys) row keys.records
only-effect keys (Rotate row) = only-grown (rotated keys) row keys.records
only-effect keys (Promote id) = only-answered _ tt
only-effect keys (Enable id) = only-answered _ tt
only-effect keys (Disable id) = only-answered _ tt
only-effect keys (Destroy id) = only-answered _ tt
only-effect keys (Delete id) = only-answered _ tt

left_as_before : (refusal : Option EditRefusal) (effect : Draw Keys) (random : List ℕ) (s : Drawn Keys) (fault : EditRefusal) → OnlyExhausted effect
    → unless_refused refusal effect random ≡ Some s → s.answer ≡ Err fault → (fault ≡ IdsExhausted → ⊥) → s.left ≡ random
unfolding OnlyExhausted IsExhausted
left_as_before (Some other) effect random s fault only e is not' = ap (λ d. d.left) (sym (same_Some _ _ e))
left_as_before None effect random s fault only e is not' = absurd (not' (subst IsExhausted is (only random s e)))

pub refusals_draw_nothing : RefusalsDrawNothing
refusals_draw_nothing keys edit random s fault e is not' = left_as_before (refusal_of keys edit) (effect_of keys edit) random s fault (only-effect keys edit) e is not'
