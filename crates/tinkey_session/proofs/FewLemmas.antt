-- A line that has 320 random bytes is answered, and draws no more.
use Rattle.std.proofs.Common.{◌≡◌, ◌∙◌, inl, inr, refl, sym, ap, subst, ℕ, zero, suc, ◌+◌, ◌*◌, ◌≤◌, leb, Bool, true, false, cond, List, [], ◌∷◌, ◌++◌, length, take, drop, Option, Some, None, Result, Ok, Err, option_map, arith}
use Rattle.std.specs.List.{AllByRecursion}
use Rattle.std.specs.Option.{option_and_then}
use Rattle.std.proofs.lemmas.Bool.{and_parts, le-ltb, leb-true}
use Rattle.std.proofs.lemmas.List.{length-drop}
use Rattle.std.proofs.lemmas.Option.{same_Some}
use Rattle.key_msgs.specs.Keys.{IsValid}
use Rattle.key_msgs.specs.Templates.{Row, random_of}
use Rattle.key_msgs.specs.declared.key.KeyKind.{KeyKind}
use Rattle.key_msgs.specs.declared.primitive.Primitive.{Primitive}
use Rattle.key_msgs.specs.declared.primitive.Primitive.TheVariants.{Aead, Daead, Mac, Prf}
use Rattle.keyset_model.proofs.PrimaryLemmas.{primary_there}
use Rattle.keyset_model.specs.Keyset.{Keys, fault_of, is_enabled, is_primary, primary_of}
use Rattle.keyset_model.specs.declared.record.Record.{Record}
use Rattle.managers.proofs.ReadingLemmas.{read_of_type}
use Rattle.managers.proofs.SizeLemmas.{iv-short}
use Rattle.managers.specs.Schemes.{Scheme, key_under, type_under}
use Rattle.managers.specs.Table.{Table, scheme_at}
use Rattle.managers.specs.Uses.{dseal_of, iv_size, seal_of, tag_of, tagged}
use Rattle.tinkey_cmds.proofs.Among.{among-all, find-among}
use Rattle.key_msgs.proofs.TableLemmas.{most_random}
use Rattle.tinkey_cmds.specs.Draws.{Draw, Drawn, and_then, answered as answers, fill, unless_err}
use Rattle.tinkey_cmds.specs.Edits.{Edit, EditOf, added, alone, effect_of, grown, id_of, is_taken, new_id, new_record, record_of, refusal_of, rotated, step, unless_refused, with_key}
use Rattle.tinkey_cmds.specs.Edits as edits
use Rattle.tinkey_cmds.specs.Laws.{HasTemplate, IsTemplate}
use Rattle.tinkey_cmds.specs.declared.command.EditRefusal.{EditRefusal}
use Rattle.tinkey_cmds.specs.declared.command.EditRefusal.TheVariants.{IdsExhausted}
use Rattle.tinkey_session.proofs.DrawLemmas.{served_left}
use Rattle.tinkey_session.proofs.Options.{clash}
use Rattle.tinkey_session.proofs.TurnLemmas.{asked_cases}
use Rattle.tinkey_session.proofs.UsableLemmas.{fit_reading}
use Rattle.tinkey_session.specs.LineLaws.{FirstsDrawFew, LinesDrawFew}
use Rattle.tinkey_session.specs.Lines.{Line, Seal, Dseal, Open, Dopen, Reseal, Dreseal, Tag, Verify, Derive, Edit as AsksEdit, Save, Outcome, Bad}
use Rattle.tinkey_session.specs.declared.reply.LineRefusal.TheVariants.{OpenFailed, Refused}
use Rattle.tinkey_session.specs.Serving.{cannot_serve, Served, answered, asked_line, computed, derived_reply, edit_line, drawn_size, if_opened, saved_line, saved_reply, sealed_reply, serve, stepped, unless_unfit}
use Rattle.tinkey_session.specs.declared.reply.Reply.{Reply}
use Rattle.tinkey_session.specs.declared.reply.Reply.TheVariants.{Gives, Refuses}
use Rattle.wrapped_prims.proofs.OpenLemmas.{none_here}
use Rattle.wrapped_prims.specs.Answers.{Sealed, derive_answer, derive_under, dopen_answer, dseal_answer, made, made_by, open_answer, seal_answer, seal_behind, seal_under, tag_answer}
use Rattle.wrapped_prims.specs.Candidates.{is_legacy, prefix_bytes, prefix_of}
use Rattle.wrapped_prims.specs.Fitness.{Unfit, fault_of_record, first_of_three, key_of_record, prefix_fault, read_key, reading_of, unfit, unfit_from}

-- ---- draws

-- with so many bytes there is an answer, and no more are drawn
pub Takes : {A : Type 0} → ℕ → Draw A → Type 0
Takes {A} count give = (random : List ℕ) → count ≤ length random → (s : Drawn A) × (give random ≡ Some s) × (length random ≤ length s.left + count)

takes-answered : {A : Type 0} (answer : Result A EditRefusal) → Takes 0 (answers answer)
unfolding Takes
takes-answered answer random enough = (record { answer = answer; left = random }, refl, omega arith)

takes-fill : (count : ℕ) → Takes count (fill count)
unfolding Takes
takes-fill count random enough = (
  record { answer = Ok (take count random); left = drop count random },
  ap (λ b. cond b None (Some (record { answer = Ok (take count random); left = drop count random }))) (le-ltb (length random) count enough),
  (let rest = length-drop count random in omega (arith, rest, enough)),
)

takes-more : {A : Type 0} (count more : ℕ) (give : Draw A) → count ≤ more → Takes count give → Takes more give
unfolding Takes
takes-more count more give le takes random enough =
    let there = takes random (omega (arith, le, enough)) in
    let few = there.2 in
    (there.0, there.1, omega (arith, le, few))

takes_next : {A B : Type 0} (first second : ℕ) (next : A → Draw B) → ((x : A) → Takes second (next x)) → (random : List ℕ) (answer : Result A EditRefusal) (left : List ℕ)
    → length random ≤ length left + first → first + second ≤ length random → (s : Drawn B) × (unless_err answer left next ≡ Some s) × (length random ≤ length s.left + (first + second))
unfolding Takes
takes_next first second next each random (Err fault) left few enough = (record { answer = Err fault; left = left }, refl, omega (arith, few))
takes_next first second next each random (Ok x) left few enough =
    let there = each x left (omega (arith, few, enough)) in
    let fewer = there.2 in
    (there.0, there.1, omega (arith, few, fewer))

takes-and_then : {A B : Type 0} (first second : ℕ) (f : Draw A) (next : A → Draw B) → Takes first f → ((x : A) → Takes second (next x)) → Takes (first + second) (λ random. and_then (f random) next)
unfolding Takes
takes-and_then first second f next one each random enough =
    let there = one random (omega (arith, enough)) in
    let behind = takes_next first second next each random there.0.answer there.0.left there.2 enough in
    (behind.0, ap (λ o. and_then o next) there.1 ∙ behind.1, behind.2)

takes-new_id : (tries : ℕ) (records : List Record) → Takes (4 * tries) (new_id tries records)
unfolding new_id
takes-new_id zero records = takes-answered (Err IdsExhausted)
takes-new_id (suc tries) records = takes-more (4 + 4 * tries) (4 * suc tries) _ (omega arith)
    (takes-and_then 4 (4 * tries) (fill 4) _ (takes-fill 4) (λ group.
    elim (is_taken records (id_of group)) as (λ b. Takes (4 * tries) (λ left. cond b (new_id tries records left) (answers (Ok (id_of group)) left))) [
      | true ↦ takes-new_id tries records
      | false ↦ takes-more 0 (4 * tries) _ (omega arith) (takes-answered (Ok (id_of group)))
    ]))

takes-grown : (keys_with : Record → Keys) (row : Row) (records : List Record) → IsTemplate row → Takes 320 (grown keys_with row records)
takes-grown keys_with row records is =
    let most = most_random row is in
    takes-more (256 + (random_of row + 0) + 0) 320 _ (omega (arith, most))
    (takes-and_then (256 + (random_of row + 0)) 0 (new_record row records) _
    (takes-and_then 256 (random_of row + 0) (new_id 64 records) (with_key row) (takes-new_id 64 records) (λ id.
    takes-and_then (random_of row) 0 (fill (random_of row)) _ (takes-fill (random_of row)) (λ key. takes-answered (Ok (record_of row id key)))))
    (λ r. takes-answered (Ok (keys_with r))))

takes-settled : {A : Type 0} (answer : Result A EditRefusal) → Takes 320 (answers answer)
takes-settled answer = takes-more 0 320 _ (omega arith) (takes-answered answer)

takes-effect : (keys : Keys) (edit : Edit) → HasTemplate edit → Takes 320 (effect_of keys edit)
unfolding effect_of
takes-effect keys (edits.Add row) is = takes-grown (added keys) row keys.records is
takes-effect keys (edits.Rotate row) is = takes-grown (rotated keys) row keys.records is
takes-effect keys (edits.Promote id) is = takes-settled _
takes-effect keys (edits.Enable id) is = takes-settled _
takes-effect keys (edits.Disable id) is = takes-settled _
takes-effect keys (edits.Destroy id) is = takes-settled _
takes-effect keys (edits.Delete id) is = takes-settled _

takes-unless : (refusal : Option EditRefusal) (effect : Draw Keys) → Takes 320 effect → Takes 320 (unless_refused refusal effect)
takes-unless (Some fault) effect takes = takes-settled (Err fault)
takes-unless None effect takes = takes

takes-step : (keys : Keys) (edit : Edit) → HasTemplate edit → Takes 320 (step keys edit)
takes-step keys edit is = takes-unless (refusal_of keys edit) (effect_of keys edit) (takes-effect keys edit is)

-- ---- the primary record's key

each_fit : (table : Table) (p : Primitive) (place : ℕ) (rs : List Record) → unfit_from place table p rs ≡ None → AllByRecursion (λ r. fault_of_record table p r ≡ None) rs
each_fit table p place [] e = tt
each_fit table p place (r ∷ rs) e = let parts = none_here place _ _ e in (parts.0, each_fit table p (place + 1) rs parts.1)

-- it reads as a key that keeps every rule
record HasPrimaryKey (table : Table) (p : Primitive) (keys : Keys) : Type 0 where
  under' : Record
  primary : primary_of keys ≡ Some under'
  key : KeyKind
  read : key_of_record table p under' ≡ Some key
  valid : IsValid key

read_valid : (reading : Option Scheme) (value : List ℕ) (key : KeyKind) → option_map (λ scheme. key_under scheme value) reading ≡ Some (Ok key) → IsValid key
read_valid None value key e = clash e
read_valid (Some scheme) value key e = (read_of_type (type_under scheme) value key (same_Some _ _ e)).1

has_primary_key : (table : Table) (p : Primitive) (keys : Keys) → fault_of keys ≡ None → unfit keys p table ≡ None → HasPrimaryKey table p keys
has_primary_key table p keys faultless fit =
    let there = primary_there keys faultless in
    let r = there.0 in
    let found = find-among (is_primary keys.primary) keys.records r there.1 in
    let none = among-all (λ x. fault_of_record table p x ≡ None) keys.records r (each_fit table p 0 keys.records fit) found.0 in
    let enabled : is_enabled r ≡ true = (and_parts _ _ found.1).1 in
    let read = fit_reading (reading_of table p r) (prefix_fault p r) (sym (ap (λ b. cond b (first_of_three (reading_of table p r) (prefix_fault p r)) None) enabled) ∙ none) in
    record { under' = r; primary = there.1; key = read.0; read = ap read_key read.1; valid = read_valid (scheme_at table p r.url) r.value read.0 read.1 }

-- ---- lines

-- over these bytes there is an answer, and no more than 320 of them are drawn
pub Few : List ℕ → Option Served → Type 0
Few random served = (x : Served) × (served ≡ Some x) × (length random ≤ length x.left + 320)

few-answered : (keys : Keys) (random : List ℕ) (reply : Reply) → Few random (Some (answered keys random reply))
unfolding Few
few-answered keys random reply = (answered keys random reply, refl, omega arith)

few-unless : (u : Option (ℕ × Unfit)) (keys : Keys) (random : List ℕ) (served : Option Served) → (u ≡ None → Few random served) → Few random (unless_unfit u keys random served)
few-unless None keys random served few = few refl
few-unless (Some found) keys random served few = few-answered keys random (Refuses (Refused (cannot_serve found.0 found.1)))

few-computed : {A : Type 0} (keys : Keys) (random : List ℕ) (reply : A → Reply) (answer : Option A) (value : A) → answer ≡ Some value → Few random (computed keys random reply answer)
few-computed keys random reply answer value e = subst (λ o. Few random (computed keys random reply o)) (sym e) (few-answered keys random (reply value))

few-opened : (keys : Keys) (random : List ℕ) (o : Option (List ℕ)) (next : List ℕ → Option Served) → ((plain : List ℕ) → Few random (next plain)) → Few random (if_opened keys random o next)
few-opened keys random (Some plain) next few = few plain
few-opened keys random None next few = few-answered keys random (Refuses OpenFailed)

-- what the primary record's key makes
made_there : (table : Table) (p : Primitive) (keys : Keys) (make : KeyKind → Record → List ℕ) (has : HasPrimaryKey table p keys) → made keys table p make ≡ Some (prefix_bytes (prefix_of has.under') ++ make has.key has.under')
made_there table p keys make has =
    ap (option_and_then (made_by table p make)) has.primary
    ∙ ap (option_map (λ key. prefix_bytes (prefix_of has.under') ++ make key has.under')) has.read

derived_there : (table : Table) (keys : Keys) (input : List ℕ) (size : ℕ) (has : HasPrimaryKey table Prf keys) → derive_answer keys table input size ≡ Some (derive_under input size has.key)
derived_there table keys input size has =
    ap (λ o. option_map (derive_under input size) (option_and_then (key_of_record table Prf) o)) has.primary
    ∙ ap (option_map (derive_under input size)) has.read

few-seal : (table : Table) (keys : Keys) (plain ad random : List ℕ) → 320 ≤ length random → HasPrimaryKey table Aead keys → Few random (option_map (sealed_reply keys) (seal_answer keys table plain ad random))
unfolding Few
few-seal table keys plain ad random enough has =
    let key = has.key in
    let front = prefix_bytes (prefix_of has.under') in
    let size = iv-short key has.valid in
    let sealed : Sealed = record { bytes = front ++ seal_of key (take (iv_size key) random) plain ad; left = drop (iv_size key) random } in
    let is : seal_answer keys table plain ad random ≡ Some sealed =
    ap (option_and_then (seal_under table plain ad random)) has.primary
    ∙ ap (option_and_then (seal_behind front plain ad random)) has.read
    ∙ ap (λ b. cond b None (Some sealed)) (le-ltb (length random) (iv_size key) (omega (arith, size, enough))) in
    let rest = length-drop (iv_size key) random in
    (sealed_reply keys sealed, ap (option_map (sealed_reply keys)) is, omega (arith, rest, size))

few-edit : (keys : Keys) (random : List ℕ) (edit : Edit) → HasTemplate edit → 320 ≤ length random → Few random (edit_line keys random edit)
unfolding Few Takes
few-edit keys random edit is enough =
    let there = takes-step keys edit is random enough in
    let s = there.0 in
    (stepped edit keys s, ap (option_map (stepped edit keys)) there.1, subst (λ left. length random ≤ length left + 320) (served_left edit keys s.answer s.left) there.2)

few-asked : (keys : Keys) (random : List ℕ) (asked : EditOf (List ℕ)) → 320 ≤ length random → Few random (asked_line keys random asked)
few-asked keys random asked enough = elim (asked_cases keys asked) [
  | inl found ↦ subst (Few random) (sym (found.2 random)) (few-edit keys random found.0 found.1 enough)
  | inr refused ↦ subst (Few random) (sym (refused.1 random)) (few-answered keys random (Refuses refused.0))
]

drawn_few : (outcome : Outcome) → drawn_size outcome ≤ 16
drawn_few outcome = by (leb outcome.size 16) refl
  where
    by : (b : Bool) → leb outcome.size 16 ≡ b → cond b outcome.size 16 ≤ 16
    by true t = leb-true _ _ t
    by false t = omega arith

few-saved : (keys : Keys) (random : List ℕ) (outcome : Outcome) → 320 ≤ length random → Few random (saved_line keys random outcome)
unfolding Few
few-saved keys random outcome enough =
    let few = drawn_few outcome in
    let rest = length-drop (drawn_size outcome) random in
    let x = answered keys (drop (drawn_size outcome) random) (saved_reply outcome.why) in (
      x,
      ap (λ b. cond b None (Some x)) (le-ltb (length random) (drawn_size outcome) (omega (arith, few, enough))),
      omega (arith, rest, few, enough),
    )

few-line : (table : Table) (keys : Keys) (line : Line) (random : List ℕ) → fault_of keys ≡ None → 320 ≤ length random → Few random (serve table keys line random)
unfolding serve
few-line table keys (Seal plain ad) random k enough = few-unless (unfit keys Aead table) keys random _ (λ fit. few-seal table keys plain ad random enough (has_primary_key table Aead keys k fit))
few-line table keys (Dseal plain ad) random k enough = few-unless (unfit keys Daead table) keys random _ (λ fit.
    few-computed keys random Gives (dseal_answer keys table plain ad) _ (made_there table Daead keys (λ key _. dseal_of key plain ad) (has_primary_key table Daead keys k fit)))
few-line table keys (Open sealed ad) random k enough = few-unless (unfit keys Aead table) keys random _ (λ fit. few-answered keys random _)
few-line table keys (Dopen sealed ad) random k enough = few-unless (unfit keys Daead table) keys random _ (λ fit. few-answered keys random _)
few-line table keys (Reseal sealed ad) random k enough = few-unless (unfit keys Aead table) keys random _ (λ fit.
    few-opened keys random (open_answer keys table sealed ad) _ (λ plain. few-seal table keys plain ad random enough (has_primary_key table Aead keys k fit)))
few-line table keys (Dreseal sealed ad) random k enough = few-unless (unfit keys Daead table) keys random _ (λ fit.
    few-opened keys random (dopen_answer keys table sealed ad) _ (λ plain.
    few-computed keys random Gives (dseal_answer keys table plain ad) _ (made_there table Daead keys (λ key _. dseal_of key plain ad) (has_primary_key table Daead keys k fit))))
few-line table keys (Tag body) random k enough = few-unless (unfit keys Mac table) keys random _ (λ fit.
    few-computed keys random Gives (tag_answer keys table body) _ (made_there table Mac keys (λ key r. tag_of key (tagged (is_legacy r) body)) (has_primary_key table Mac keys k fit)))
few-line table keys (Verify tag body) random k enough = few-unless (unfit keys Mac table) keys random _ (λ fit. few-answered keys random _)
few-line table keys (Derive size input) random k enough = few-unless (unfit keys Prf table) keys random _ (λ fit.
    few-computed keys random (derived_reply size) (derive_answer keys table input size) _ (derived_there table keys input size (has_primary_key table Prf keys k fit)))
few-line table keys (AsksEdit edit) random k enough = few-asked keys random edit enough
few-line table keys (Save name outcome) random k enough = few-saved keys random outcome enough
few-line table keys (Bad why) random k enough = few-answered keys random _

pub lines_draw_few : LinesDrawFew
unfolding Few
lines_draw_few table keys line random k enough = few-line table keys line random k enough

pub firsts_draw_few : FirstsDrawFew
unfolding Takes
firsts_draw_few row random is enough = takes-grown alone row [] is random enough
