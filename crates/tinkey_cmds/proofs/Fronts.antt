-- What is drawn is drawn from the front: bytes that stand behind change nothing.
use Rattle.std.proofs.Common.{◌≡◌, ◌∙◌, ℕ, zero, suc, true, false, cond, ltb, List, [], ◌++◌, length, take, drop, Option, Some, None, Result, Ok, Err, refl, sym, ap, arith, length-append}
use Rattle.std.proofs.lemmas.Bool.{ltb-false, le-ltb}
use Rattle.std.proofs.lemmas.List.{take-append-drop, append_assoc, take_at, drop_at, length-take-le}
use Rattle.std.proofs.lemmas.Option.{same_Some}
use Rattle.keyset_model.specs.declared.record.Record.{Record}
use Rattle.keyset_model.specs.Keyset.{Keys}
use Rattle.key_msgs.specs.Templates.{Row, random_of}
use Rattle.tinkey_cmds.specs.declared.command.EditRefusal.{EditRefusal}
use Rattle.tinkey_cmds.specs.declared.command.EditRefusal.TheVariants.{IdsExhausted}
use Rattle.tinkey_cmds.specs.Draws.{Drawn, Draw, answered, fill, unless_err, and_then}
use Rattle.tinkey_cmds.specs.Edits.{Edit, Add, Rotate, Promote, Enable, Disable, Destroy, Delete, id_of, is_taken, new_id, record_of, with_key, new_record, grown, added, rotated, alone, refusal_of, effect_of, unless_refused, step, first}
use Rattle.tinkey_cmds.specs.Laws.{DrawsFronts}
use Rattle.tinkey_cmds.proofs.Lists.{none≢some}

fronts-answered : {A : Type 0} (answer : Result A EditRefusal) → DrawsFronts (answered answer)
fronts-answered answer random s e =
    let same = same_Some _ _ e in
    ([], ap (λ d. d.left) same, λ more. ap (λ d. answered d.answer more) same)

-- so many bytes, and what stands behind them
pub fill-more : (part more : List ℕ) (count : ℕ) → length part ≡ count → fill count (part ++ more) ≡ answered (Ok part) more
fill-more part more count is =
    rw (le-ltb (length (part ++ more)) count (omega (arith, length-append part more, is)), take_at part more count is, drop_at part more count is) refl

fronts-fill : (count : ℕ) → DrawsFronts (fill count)
fronts-fill count random s e = elim (ltb (length random) count) as (λ b. ltb (length random) count ≡ b
    → cond b None (Some (record { answer = Ok (take count random); left = drop count random })) ≡ Some s
    → (drawn : List ℕ) × (random ≡ drawn ++ s.left) × ((more : List ℕ) → fill count (drawn ++ more) ≡ answered s.answer more)) [
      | true ↦ λ t k. absurd (none≢some k)
      | false ↦ λ t k.
          let same = same_Some _ _ k in
          let size : length (take count random) ≡ count = length-take-le count random (ltb-false _ _ t) in (
            take count random,
            sym (take-append-drop count random) ∙ ap (λ d. take count random ++ d.left) same,
            λ more. fill-more (take count random) more count size ∙ ap (λ d. answered d.answer more) same,
          )
    ] refl e

-- a step whose answer is known, and the next
fronts-next : {A B : Type 0} (f : Draw A) (next : A → Draw B) (random : List ℕ) (s : Drawn B) → ((x : A) → DrawsFronts (next x))
    → (answer : Result A EditRefusal) (left : List ℕ)
    → (front : (drawn : List ℕ) × (random ≡ drawn ++ left) × ((more : List ℕ) → f (drawn ++ more) ≡ answered answer more))
    → unless_err answer left next ≡ Some s
    → (drawn : List ℕ) × (random ≡ drawn ++ s.left) × ((more : List ℕ) → and_then (f (drawn ++ more)) next ≡ answered s.answer more)
fronts-next f next random s each (Err fault) left front e =
    let same = same_Some _ _ e in (
      front.0,
      front.1 ∙ ap (λ d. front.0 ++ d.left) same,
      λ more. ap (λ d. and_then d next) (front.2 more) ∙ ap (λ d. answered d.answer more) same,
    )
fronts-next f next random s each (Ok x) left front e =
    let behind = each x left s e in (
      front.0 ++ behind.0,
      front.1 ∙ ap (λ l. front.0 ++ l) behind.1 ∙ sym (append_assoc front.0 behind.0 s.left),
      λ more. ap (λ l. and_then (f l) next) (append_assoc front.0 behind.0 more) ∙ ap (λ d. and_then d next) (front.2 (behind.0 ++ more)) ∙ behind.2 more,
    )

fronts-and_then : {A B : Type 0} (f : Draw A) (next : A → Draw B) → DrawsFronts f → ((x : A) → DrawsFronts (next x)) → DrawsFronts (λ random. and_then (f random) next)
fronts-and_then f next one each random s e = elim (f random) as (λ o. f random ≡ o → and_then o next ≡ Some s
    → (drawn : List ℕ) × (random ≡ drawn ++ s.left) × ((more : List ℕ) → and_then (f (drawn ++ more)) next ≡ answered s.answer more)) [
      | None ↦ λ t k. absurd (none≢some k)
      | Some d ↦ λ t k. fronts-next f next random s each d.answer d.left (one random d t) k
    ] refl e

fronts-new_id : (tries : ℕ) (records : List Record) → DrawsFronts (new_id tries records)
unfolding new_id
fronts-new_id zero records = fronts-answered (Err IdsExhausted)
fronts-new_id (suc tries) records = fronts-and_then (fill 4) _ (fronts-fill 4) (λ group.
    elim (is_taken records (id_of group)) as (λ b. DrawsFronts (λ left. cond b (new_id tries records left) (answered (Ok (id_of group)) left))) [
      | true ↦ fronts-new_id tries records
      | false ↦ fronts-answered (Ok (id_of group))
    ])

pub fronts-new_record : (row : Row) (records : List Record) → DrawsFronts (new_record row records)
fronts-new_record row records = fronts-and_then (new_id 64 records) (with_key row) (fronts-new_id 64 records) (λ id.
    fronts-and_then (fill (random_of row)) _ (fronts-fill (random_of row)) (λ key. fronts-answered (Ok (record_of row id key))))

fronts-grown : (keys_with : Record → Keys) (row : Row) (records : List Record) → DrawsFronts (grown keys_with row records)
fronts-grown keys_with row records = fronts-and_then (new_record row records) _ (fronts-new_record row records) (λ r. fronts-answered (Ok (keys_with r)))

fronts-effect : (keys : Keys) (edit : Edit) → DrawsFronts (effect_of keys edit)
unfolding effect_of
fronts-effect keys (Add row) = fronts-grown (added keys) row keys.records
fronts-effect keys (Rotate row) = fronts-grown (rotated keys) row keys.records
fronts-effect keys (Promote id) = fronts-answered _
fronts-effect keys (Enable id) = fronts-answered _
fronts-effect keys (Disable id) = fronts-answered _
fronts-effect keys (Destroy id) = fronts-answered _
fronts-effect keys (Delete id) = fronts-answered _

fronts-unless : (refusal : Option EditRefusal) (effect : Draw Keys) → DrawsFronts effect → DrawsFronts (unless_refused refusal effect)
fronts-unless (Some fault) effect fronts = fronts-answered (Err fault)
fronts-unless None effect fronts = fronts

pub fronts-step : (keys : Keys) (edit : Edit) → DrawsFronts (step keys edit)
fronts-step keys edit = fronts-unless (refusal_of keys edit) (effect_of keys edit) (fronts-effect keys edit)

pub fronts-first : (row : Row) → DrawsFronts (first row)
fronts-first row = fronts-grown alone row []
