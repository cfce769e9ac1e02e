-- What there is to show of each accepted edit.
use Rattle.std.proofs.Common.{◌≡◌, ◌∙◌, ℕ, zero, suc, ◌%◌, ◌^◌, ◌<◌, ◌==◌, ◌&&◌, not, true, false, cond, ltb, List, [], length, take, drop, Option, Some, None, Result, Ok, Err, refl, sym, subst, mod-lt, lit<, eq-eqb}
use Rattle.std.specs.Prelude.{IfOk}
use Rattle.std.specs.Int.{w32, from_be_bytes}
use Rattle.std.specs.List.{list_any}
use Rattle.std.proofs.lemmas.Bool.{true≢false, or_parts, ltb-false, leb-false}
use Rattle.std.proofs.lemmas.List.{length-take-le}
use Rattle.std.proofs.lemmas.Option.{same_Some}
use Rattle.key_msgs.specs.KeyTypes.{primitive_of_type}
use Rattle.key_msgs.specs.Templates.{Row, type_made, random_of}
use Rattle.keyset_model.specs.declared.record.Record.{Record}
use Rattle.keyset_model.specs.Keyset.{Keys, is_enabled, is_destroyed, is_primary, first_some}
use Rattle.tinkey_cmds.specs.declared.command.EditRefusal.{EditRefusal}
use Rattle.tinkey_cmds.specs.declared.command.EditRefusal.TheVariants.{KeyRefused, IdsExhausted}
use Rattle.tinkey_cmds.specs.Draws.{Drawn, Draw, answered, fill, unless_err, and_then}
use Rattle.tinkey_cmds.specs.Edits.{Edit, Add, Rotate, Promote, Enable, Disable, Destroy, Delete, id_of, is_taken, new_id, record_of, with_key, new_record, grown, primitive_of, rule_of, primary_primitive, is_same, named, of_named, full_or_mixed, refusal_of, changed, without, with_status, destroyed, with_records, added, rotated, alone, effect_of, unless_refused, step, first}
use Rattle.tinkey_cmds.specs.Laws.{IsFree}
use Rattle.keyset_model.proofs.WellFormedLemmas.{first_none, when-none, map-none, not-false'}
use Rattle.tinkey_cmds.proofs.Lists.{none≢some, some≢none}

-- ---- what a draw gives

-- what is accepted has this
unfoldable pub Yields : {A : Type 0} → (A → Type 0) → Draw A → Type 0
Yields {A} P give = (random : List ℕ) (s : Drawn A) → give random ≡ Some s → IfOk s.answer P

yields-answered : {A : Type 0} (P : A → Type 0) (answer : Result A EditRefusal) → IfOk answer P → Yields P (answered answer)
unfolding Yields
yields-answered P answer has random s e = subst (λ d. IfOk d.answer P) (same_Some _ _ e) has

yields-next : {A B : Type 0} (P : A → Type 0) (Q : B → Type 0) (next : A → Draw B) (s : Drawn B) → ((x : A) → P x → Yields Q (next x))
    → (answer : Result A EditRefusal) (left : List ℕ) → IfOk answer P → unless_err answer left next ≡ Some s → IfOk s.answer Q
unfolding Yields
yields-next P Q next s each (Err fault) left has e = subst (λ d. IfOk d.answer Q) (same_Some _ _ e) tt
yields-next P Q next s each (Ok x) left has e = each x has left s e

yields-and_then : {A B : Type 0} (P : A → Type 0) (Q : B → Type 0) (f : Draw A) (next : A → Draw B) → Yields P f → ((x : A) → P x → Yields Q (next x)) → Yields Q (λ random. and_then (f random) next)
unfolding Yields
yields-and_then P Q f next one each random s e = elim (f random) as (λ o. f random ≡ o → and_then o next ≡ Some s → IfOk s.answer Q) [
  | None ↦ λ t k. absurd (none≢some k)
  | Some d ↦ λ t k. yields-next P Q next s each d.answer d.left (one random d t) k
] refl e

yields-fill : (count : ℕ) → Yields (λ part. length part ≡ count) (fill count)
unfolding Yields
yields-fill count random s e = elim (ltb (length random) count) as (λ b. ltb (length random) count ≡ b
    → cond b None (Some (record { answer = Ok (take count random); left = drop count random })) ≡ Some s → IfOk s.answer (λ part. length part ≡ count)) [
      | true ↦ λ t k. absurd (none≢some k)
      | false ↦ λ t k. subst (λ d. IfOk d.answer (λ part. length part ≡ count)) (same_Some _ _ k) (length-take-le count random (ltb-false _ _ t))
    ] refl e

-- ---- the new record

pub free-id : (records : List Record) (id : ℕ) → is_taken records (id % 2 ^ 32) ≡ false → IsFree records (id % 2 ^ 32)
free-id records id e =
    let parts = or_parts _ _ e in
    record {
      unused = parts.1;
      some = λ zero'. true≢false (sym (eq-eqb (id % 2 ^ 32) 0 zero') ∙ parts.0);
      word = mod-lt id (lit< tt);
    }

yields-new_id : (tries : ℕ) (records : List Record) → Yields (IsFree records) (new_id tries records)
unfolding new_id
yields-new_id zero records = yields-answered (IsFree records) (Err IdsExhausted) tt
yields-new_id (suc tries) records = yields-and_then (λ part. length part ≡ 4) (IsFree records) (fill 4) _ (yields-fill 4) (λ group four.
    elim (is_taken records (id_of group)) as (λ b. is_taken records (id_of group) ≡ b → Yields (IsFree records) (λ left. cond b (new_id tries records left) (answered (Ok (id_of group)) left))) [
      | true ↦ λ t. yields-new_id tries records
      | false ↦ λ t. yields-answered (IsFree records) (Ok (id_of group)) (free-id records (from_be_bytes w32 group) t)
    ] refl)

-- a record that a template made of random bytes, with an id that these records don't have
pub record IsNew (row : Row) (records : List Record) (r : Record) : Type 0 where
  pub random : List ℕ
  pub size : length random ≡ random_of row
  pub free : IsFree records r.id
  pub made : r ≡ record_of row r.id random

pub yields-new_record : (row : Row) (records : List Record) → Yields (IsNew row records) (new_record row records)
yields-new_record row records = yields-and_then (IsFree records) (IsNew row records) (new_id 64 records) (with_key row) (yields-new_id 64 records) (λ id free.
    yields-and_then (λ part. length part ≡ random_of row) (IsNew row records) (fill (random_of row)) _ (yields-fill (random_of row)) (λ key size.
    yields-answered (IsNew row records) (Ok (record_of row id key)) (record { random = key; size = size; free = free; made = refl })))

yields-grown : (P : Keys → Type 0) (keys_with : Record → Keys) (row : Row) (records : List Record) → ((r : Record) → IsNew row records r → P (keys_with r)) → Yields P (grown keys_with row records)
yields-grown P keys_with row records each = yields-and_then (IsNew row records) P (new_record row records) _ (yields-new_record row records)
    (λ r new. yields-answered P (Ok (keys_with r)) (each r new))

-- ---- the seven edits

-- what there is to show of each accepted edit
pub record Seven (keys : Keys) (P : Edit → Keys → Type 0) : Type 0 where
  pub add : (row : Row) (r : Record) → length keys.records < 1000
      → is_same (primary_primitive keys) (Some (primitive_of_type (type_made row))) ≡ true
      → IsNew row keys.records r → P (Add row) (added keys r)
  pub rotate : (row : Row) (r : Record) → length keys.records < 1000
      → is_same (primary_primitive keys) (Some (primitive_of_type (type_made row))) ≡ true
      → IsNew row keys.records r → P (Rotate row) (rotated keys r)
  pub promote : (id : ℕ) (r : Record) → named keys id ≡ Some r → is_enabled r ≡ true
      → list_any (is_primary id) (without id keys.records) ≡ false → P (Promote id) (record keys { primary = id })
  pub enable : (id : ℕ) (r : Record) → named keys id ≡ Some r → is_destroyed r ≡ false → (id == keys.primary && not (is_enabled r)) ≡ false
      → is_same (primitive_of r.url) (primary_primitive keys) ≡ true
      → rule_of r.url r.value ≡ None → P (Enable id) (with_records keys (changed (with_status 1) id keys.records))
  pub disable : (id : ℕ) (r : Record) → named keys id ≡ Some r → (id == keys.primary) ≡ false → is_destroyed r ≡ false
      → P (Disable id) (with_records keys (changed (with_status 2) id keys.records))
  pub destroy : (id : ℕ) (r : Record) → named keys id ≡ Some r → (id == keys.primary) ≡ false
      → P (Destroy id) (with_records keys (changed destroyed id keys.records))
  pub delete : (id : ℕ) (r : Record) → named keys id ≡ Some r → (id == keys.primary) ≡ false
      → P (Delete id) (with_records keys (without id keys.records))

yields-unless : (P : Keys → Type 0) (refusal : Option EditRefusal) (effect : Draw Keys) → (refusal ≡ None → Yields P effect) → Yields P (unless_refused refusal effect)
yields-unless P (Some fault) effect then' = yields-answered P (Err fault) tt
yields-unless P None effect then' = then' refl

found_named : (o : Option Record) (refusals : Record → List (Option EditRefusal)) → of_named o refusals ≡ None → (r : Record) × (o ≡ Some r) × (first_some (refusals r) ≡ None)
unfolding of_named
found_named None refusals e = absurd (some≢none e)
found_named (Some r) refusals e = (r, refl, e)

not_full : (keys : Keys) (row : Row) → full_or_mixed keys row ≡ None
    → (length keys.records < 1000) × (is_same (primary_primitive keys) (Some (primitive_of_type (type_made row))) ≡ true)
unfolding full_or_mixed
not_full keys row e =
    let a = first_none _ _ e in
    let b = first_none _ _ a.1 in
    (leb-false _ _ (when-none _ _ a.0), not-false' _ (when-none _ _ b.0))

-- what holds in each of the seven cases holds of each accepted edit
pub edit_case : (keys : Keys) (P : Edit → Keys → Type 0) → Seven keys P → (edit : Edit) → Yields (P edit) (step keys edit)
unfolding refusal_of effect_of
edit_case keys P seven (Add row) = yields-unless (P (Add row)) (full_or_mixed keys row) _ (λ n.
    let room = not_full keys row n in
    yields-grown (P (Add row)) (added keys) row keys.records (λ r new. seven.add row r room.0 room.1 new))
edit_case keys P seven (Rotate row) = yields-unless (P (Rotate row)) (full_or_mixed keys row) _ (λ n.
    let room = not_full keys row n in
    yields-grown (P (Rotate row)) (rotated keys) row keys.records (λ r new. seven.rotate row r room.0 room.1 new))
edit_case keys P seven (Promote id) = yields-unless (P (Promote id)) (refusal_of keys (Promote id)) _ (λ n.
    let f = found_named _ _ n in
    let a = first_none _ _ f.2 in
    let b = first_none _ _ a.1 in
    yields-answered (P (Promote id)) _ (seven.promote id f.0 f.1 (not-false' _ (when-none _ _ a.0)) (when-none _ _ b.0)))
edit_case keys P seven (Enable id) = yields-unless (P (Enable id)) (refusal_of keys (Enable id)) _ (λ n.
    let f = found_named _ _ n in
    let a = first_none _ _ f.2 in
    let b = first_none _ _ a.1 in
    let c = first_none _ _ b.1 in
    let d = first_none _ _ c.1 in
    yields-answered (P (Enable id)) _ (seven.enable id f.0 f.1 (when-none _ _ a.0) (when-none _ _ b.0) (not-false' _ (when-none _ _ c.0)) (map-none KeyRefused _ d.0)))
edit_case keys P seven (Disable id) = yields-unless (P (Disable id)) (refusal_of keys (Disable id)) _ (λ n.
    let f = found_named _ _ n in
    let a = first_none _ _ f.2 in
    let b = first_none _ _ a.1 in
    yields-answered (P (Disable id)) _ (seven.disable id f.0 f.1 (when-none _ _ a.0) (when-none _ _ b.0)))
edit_case keys P seven (Destroy id) = yields-unless (P (Destroy id)) (refusal_of keys (Destroy id)) _ (λ n.
    let f = found_named _ _ n in
    let a = first_none _ _ f.2 in
    yields-answered (P (Destroy id)) _ (seven.destroy id f.0 f.1 (when-none _ _ a.0)))
edit_case keys P seven (Delete id) = yields-unless (P (Delete id)) (refusal_of keys (Delete id)) _ (λ n.
    let f = found_named _ _ n in
    let a = first_none _ _ f.2 in
    yields-answered (P (Delete id)) _ (seven.delete id f.0 f.1 (when-none _ _ a.0)))

pub first_case : (P : Keys → Type 0) (row : Row) → ((r : Record) → IsNew row [] r → P (alone r)) → Yields P (first row)
first_case P row each = yields-grown P alone row [] each

-- what is yielded, of the answer
pub yielded : {A : Type 0} (P : A → Type 0) (give : Draw A) (random : List ℕ) (s : Drawn A) (value : A) → Yields P give → give random ≡ Some s → s.answer ≡ Ok value → P value
unfolding Yields
yielded P give random s value yields e ok = subst (λ answer. IfOk answer P) ok (yields random s e)
