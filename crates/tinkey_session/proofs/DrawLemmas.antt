-- What lines draw, and what a refusal leaves.
use Rattle.std.proofs.Common.{◌≡◌, ◌∙◌, inl, inr, refl, sym, ap, subst, ℕ, ltb, Bool, true, false, cond, List, [], ◌∷◌, ◌++◌, length, take, drop, Option, Some, None, Result, Ok, Err, option_map, arith}
use Rattle.std.specs.Option.{option_and_then}
use Rattle.std.proofs.lemmas.Bool.{le-ltb, ltb-false}
use Rattle.std.proofs.lemmas.List.{drop_at, length-append, length-take-le, take-append-drop, take_at}
use Rattle.std.proofs.lemmas.Option.{same_Some}
use Rattle.key_msgs.specs.Rules.{keeps}
use Rattle.key_msgs.specs.declared.key.KeyKind.{KeyKind}
use Rattle.key_msgs.specs.declared.primitive.Primitive.TheVariants.{Aead, Daead, Mac, Prf}
use Rattle.keyset_model.specs.Keyset.{Keys, primary_of}
use Rattle.keyset_model.specs.declared.record.Record.{Record}
use Rattle.managers.specs.Table.{Table}
use Rattle.managers.specs.Uses.{iv_size, seal_of}
use Rattle.tinkey_cmds.proofs.Fronts.{fronts-step}
use Rattle.tinkey_cmds.specs.Edits.{Edit, EditOf, added, effect_of, grown, id_of, is_taken, new_id, new_record, record_of, refusal_of, rotated, step, unless_refused, with_key}
use Rattle.tinkey_cmds.specs.Edits as edits
use Rattle.tinkey_cmds.specs.declared.command.EditRefusal.{EditRefusal}
use Rattle.tinkey_session.proofs.Options.{clash, map_some}
use Rattle.tinkey_session.proofs.TurnLemmas.{asked_cases, saved_keeps}
use Rattle.tinkey_session.specs.LineLaws.{LinesDrawFronts, RefusalsLeave}
use Rattle.tinkey_session.specs.SessionLaws.{SessionGoesOn}
use Rattle.tinkey_session.specs.Lines.{Line, Seal, Dseal, Open, Dopen, Reseal, Dreseal, Tag, Verify, Derive, Edit as AsksEdit, Save, Outcome, Bad}
use Rattle.tinkey_session.specs.Serving.{cannot_serve, Served, answered, asked_line, computed, derived_reply, edit_line, edit_served, last_id, edited_reply, drawn_size, if_opened, saved_line, saved_reply, sealed_reply, serve, stepped, unless_unfit}
use Rattle.tinkey_session.specs.declared.reply.LineRefusal.{LineRefusal}
use Rattle.tinkey_session.specs.declared.reply.LineRefusal.TheVariants.{OpenFailed, Refused}
use Rattle.tinkey_session.specs.declared.reply.Reply.{Reply}
use Rattle.tinkey_session.specs.declared.reply.Reply.TheVariants.{Gives, Refuses}
use Rattle.tinkey_session.specs.Session.{remains, turn_then, turns}
use Rattle.wrapped_prims.specs.Answers.{Sealed, derive_answer, dopen_answer, dseal_answer, open_answer, seal_answer, seal_behind, seal_under, tag_answer}
use Rattle.wrapped_prims.specs.Candidates.{prefix_bytes, prefix_of}
use Rattle.wrapped_prims.specs.Fitness.{Unfit, key_of_record, unfit}

-- ---- fronts

abbrev with_left : List ℕ → Served → Served
with_left more x = record x { left = more }

-- what this gives it gives over the bytes in front, whatever stands behind them
pub Fronts : (List ℕ → Option Served) → Type 0
Fronts give = (random : List ℕ) (x : Served) → give random ≡ Some x
    → (drawn : List ℕ) × (random ≡ drawn ++ x.left) × ((more : List ℕ) → give (drawn ++ more) ≡ Some (record x { left = more }))

fronts-answered : (keys : Keys) (reply : Reply) → Fronts (λ random. Some (answered keys random reply))
unfolding Fronts
fronts-answered keys reply random x e =
    let same = same_Some _ _ e in
    ([], ap (λ y. y.left) same, λ more. ap (λ y. Some (with_left more y)) same)

fronts-computed : {A : Type 0} (keys : Keys) (reply : A → Reply) (answer : Option A) → Fronts (λ random. computed keys random reply answer)
unfolding Fronts
fronts-computed keys reply (Some value) random x e = fronts-answered keys (reply value) random x e
fronts-computed keys reply None random x e = clash e

fronts-unless : (u : Option (ℕ × Unfit)) (keys : Keys) (give : List ℕ → Option Served) → Fronts give → Fronts (λ random. unless_unfit u keys random (give random))
unfolding Fronts
fronts-unless None keys give fronts random x e = fronts random x e
fronts-unless (Some found) keys give fronts random x e = fronts-answered keys (Refuses (Refused (cannot_serve found.0 found.1))) random x e

-- an IV, and what is made with it
abbrev with_iv : (size : ℕ) → (List ℕ → List ℕ) → List ℕ → Option Sealed
with_iv size make random = cond (ltb (length random) size) None (Some (record { bytes = make (take size random); left = drop size random }))

with_iv-more : (size : ℕ) (make : List ℕ → List ℕ) (iv more : List ℕ) → length iv ≡ size → with_iv size make (iv ++ more) ≡ Some (record { bytes = make iv; left = more })
with_iv-more size make iv more is = rw (le-ltb (length (iv ++ more)) size (omega (arith, length-append iv more, is)), take_at iv more size is, drop_at iv more size is) refl

fronts-iv : (size : ℕ) (make : List ℕ → List ℕ) (keys : Keys) → Fronts (λ random. option_map (sealed_reply keys) (with_iv size make random))
unfolding Fronts
fronts-iv size make keys random x e = by (ltb (length random) size) refl e
  where
    by : (b : Bool) → ltb (length random) size ≡ b
        → option_map (sealed_reply keys) (cond b None (Some (record { bytes = make (take size random); left = drop size random }))) ≡ Some x
        → (drawn : List ℕ) × (random ≡ drawn ++ x.left) × ((more : List ℕ) → option_map (sealed_reply keys) (with_iv size make (drawn ++ more)) ≡ Some (record x { left = more }))
    by true t k = clash k
    by false t k =
        let same = same_Some _ _ k in (
          take size random,
          sym (take-append-drop size random) ∙ ap (λ y. take size random ++ y.left) same,
          λ more. ap (option_map (sealed_reply keys)) (with_iv-more size make (take size random) more (length-take-le size random (ltb-false _ _ t)))
              ∙ ap (λ y. Some (with_left more y)) same,
        )

fronts-under : (table : Table) (keys : Keys) (plain ad : List ℕ) (r : Record) (key : Option KeyKind)
    → Fronts (λ random. option_map (sealed_reply keys) (option_and_then (seal_behind (prefix_bytes (prefix_of r)) plain ad random) key))
unfolding Fronts
fronts-under table keys plain ad r None random x e = clash e
fronts-under table keys plain ad r (Some key) random x e = fronts-iv (iv_size key) (λ iv. prefix_bytes (prefix_of r) ++ seal_of key iv plain ad) keys random x e

fronts-seal : (table : Table) (keys : Keys) (plain ad : List ℕ) (primary : Option Record) → Fronts (λ random. option_map (sealed_reply keys) (option_and_then (seal_under table plain ad random) primary))
unfolding Fronts
fronts-seal table keys plain ad None random x e = clash e
fronts-seal table keys plain ad (Some r) random x e = fronts-under table keys plain ad r (key_of_record table Aead r) random x e

pub saved-more : (keys : Keys) (outcome : Outcome) (front more : List ℕ) → length front ≡ drawn_size outcome → saved_line keys (front ++ more) outcome ≡ Some (answered keys more (saved_reply outcome.why))
saved-more keys outcome front more is = rw (le-ltb (length (front ++ more)) (drawn_size outcome) (omega (arith, length-append front more, is)), drop_at front more (drawn_size outcome) is) refl

fronts-saved : (keys : Keys) (outcome : Outcome) → Fronts (λ random. saved_line keys random outcome)
unfolding Fronts
fronts-saved keys outcome random x e = by (ltb (length random) (drawn_size outcome)) refl e
  where
    by : (b : Bool) → ltb (length random) (drawn_size outcome) ≡ b
        → cond b None (Some (answered keys (drop (drawn_size outcome) random) (saved_reply outcome.why))) ≡ Some x
        → (drawn : List ℕ) × (random ≡ drawn ++ x.left) × ((more : List ℕ) → saved_line keys (drawn ++ more) outcome ≡ Some (record x { left = more }))
    by true t k = clash k
    by false t k =
        let same = same_Some _ _ k in (
          take (drawn_size outcome) random,
          sym (take-append-drop (drawn_size outcome) random) ∙ ap (λ y. take (drawn_size outcome) random ++ y.left) same,
          λ more. saved-more keys outcome (take (drawn_size outcome) random) more (length-take-le (drawn_size outcome) random (ltb-false _ _ t))
              ∙ ap (λ y. Some (with_left more y)) same,
        )

served-left : (edit : Edit) (keys : Keys) (answer : Result Keys EditRefusal) (left more : List ℕ) → edit_served edit keys answer more ≡ record (edit_served edit keys answer left) { left = more }
served-left edit keys (Ok edited) left more = refl
served-left edit keys (Err fault) left more = refl

pub served_left : (edit : Edit) (keys : Keys) (answer : Result Keys EditRefusal) (left : List ℕ) → left ≡ (edit_served edit keys answer left).left
served_left edit keys (Ok edited) left = refl
served_left edit keys (Err fault) left = refl

fronts-opened : (keys : Keys) (o : Option (List ℕ)) (next : (plain random : List ℕ) → Option Served) → ((plain : List ℕ) → Fronts (next plain)) → Fronts (λ random. if_opened keys random o (λ plain. next plain random))
unfolding Fronts
fronts-opened keys (Some plain) next each random x e = each plain random x e
fronts-opened keys None next each random x e = fronts-answered keys (Refuses OpenFailed) random x e

fronts-edit : (keys : Keys) (edit : Edit) → Fronts (λ random. edit_line keys random edit)
unfolding Fronts
fronts-edit keys edit random x e =
    let there = map_some (stepped edit keys) (step keys edit random) x e in
    let s = there.0 in
    let front = fronts-step keys edit random s there.1 in (
      front.0,
      front.1 ∙ ap (λ l. front.0 ++ l) (served_left edit keys s.answer s.left ∙ ap (λ y. y.left) there.2),
      λ more. ap (option_map (stepped edit keys)) (front.2 more)
          ∙ ap Some (served-left edit keys s.answer s.left more ∙ ap (with_left more) there.2),
    )

fronts-same : (give other : List ℕ → Option Served) → ((random : List ℕ) → give random ≡ other random) → Fronts other → Fronts give
unfolding Fronts
fronts-same give other same fronts random x e =
    let front = fronts random x (sym (same random) ∙ e) in
    (front.0, front.1, λ more. same (front.0 ++ more) ∙ front.2 more)

fronts-asked : (keys : Keys) (edit : EditOf (List ℕ)) → Fronts (λ random. asked_line keys random edit)
fronts-asked keys asked = elim (asked_cases keys asked) [
  | inl found ↦ fronts-same _ _ found.2 (fronts-edit keys found.0)
  | inr refused ↦ fronts-same _ _ refused.1 (fronts-answered keys (Refuses refused.0))
]

fronts-line : (table : Table) (keys : Keys) (line : Line) → Fronts (serve table keys line)
unfolding Fronts serve
fronts-line table keys (Seal plain ad) random x e = fronts-unless (unfit keys Aead table) keys (λ bytes. option_map (sealed_reply keys) (seal_answer keys table plain ad bytes)) (fronts-seal table keys plain ad (primary_of keys)) random x e
fronts-line table keys (Dseal plain ad) random x e = fronts-unless (unfit keys Daead table) keys (λ bytes. computed keys bytes Gives (dseal_answer keys table plain ad)) (fronts-computed keys Gives (dseal_answer keys table plain ad)) random x e
fronts-line table keys (Open sealed ad) random x e = fronts-unless (unfit keys Aead table) keys _ (fronts-answered keys _) random x e
fronts-line table keys (Dopen sealed ad) random x e = fronts-unless (unfit keys Daead table) keys _ (fronts-answered keys _) random x e
fronts-line table keys (Reseal sealed ad) random x e = fronts-unless (unfit keys Aead table) keys (λ bytes. if_opened keys bytes (open_answer keys table sealed ad) (λ plain. option_map (sealed_reply keys) (seal_answer keys table plain ad bytes)))
    (fronts-opened keys (open_answer keys table sealed ad) (λ plain bytes. option_map (sealed_reply keys) (seal_answer keys table plain ad bytes)) (λ plain. fronts-seal table keys plain ad (primary_of keys))) random x e
fronts-line table keys (Dreseal sealed ad) random x e = fronts-unless (unfit keys Daead table) keys (λ bytes. if_opened keys bytes (dopen_answer keys table sealed ad) (λ plain. computed keys bytes Gives (dseal_answer keys table plain ad)))
    (fronts-opened keys (dopen_answer keys table sealed ad) (λ plain bytes. computed keys bytes Gives (dseal_answer keys table plain ad)) (λ plain. fronts-computed keys Gives (dseal_answer keys table plain ad))) random x e
fronts-line table keys (Tag body) random x e = fronts-unless (unfit keys Mac table) keys (λ bytes. computed keys bytes Gives (tag_answer keys table body)) (fronts-computed keys Gives (tag_answer keys table body)) random x e
fronts-line table keys (Verify tag body) random x e = fronts-unless (unfit keys Mac table) keys _ (fronts-answered keys _) random x e
fronts-line table keys (Derive size input) random x e = fronts-unless (unfit keys Prf table) keys (λ bytes. computed keys bytes (derived_reply size) (derive_answer keys table input size)) (fronts-computed keys (derived_reply size) (derive_answer keys table input size)) random x e
fronts-line table keys (AsksEdit edit) random x e = fronts-asked keys edit random x e
fronts-line table keys (Save name outcome) random x e = fronts-saved keys outcome random x e
fronts-line table keys (Bad why) random x e = fronts-answered keys _ random x e

pub lines_draw_fronts : LinesDrawFronts
unfolding Fronts
lines_draw_fronts table keys line random x e = fronts-line table keys line random x e

-- ---- refusals

pub KeepsRefused : Keys → Served → Type 0
KeepsRefused keys x = (why : LineRefusal) → x.reply ≡ Refuses why → x.keys ≡ keys

keeps-answered : (keys : Keys) (random : List ℕ) (reply : Reply) (x : Served) → Some (answered keys random reply) ≡ Some x → KeepsRefused keys x
unfolding KeepsRefused
keeps-answered keys random reply x e why is = ap (λ y. y.keys) (sym (same_Some _ _ e))

keeps-computed : {A : Type 0} (keys : Keys) (random : List ℕ) (reply : A → Reply) (answer : Option A) (x : Served) → computed keys random reply answer ≡ Some x → KeepsRefused keys x
keeps-computed keys random reply (Some value) x e = keeps-answered keys random (reply value) x e
keeps-computed keys random reply None x e = clash e

keeps-unless : (u : Option (ℕ × Unfit)) (keys : Keys) (random : List ℕ) (served : Option Served) (x : Served) → (served ≡ Some x → KeepsRefused keys x) → unless_unfit u keys random served ≡ Some x → KeepsRefused keys x
keeps-unless None keys random served x keeps e = keeps e
keeps-unless (Some found) keys random served x keeps e = keeps-answered keys random (Refuses (Refused (cannot_serve found.0 found.1))) x e

keeps-sealed : (keys : Keys) (sealed : Option Sealed) (x : Served) → option_map (sealed_reply keys) sealed ≡ Some x → KeepsRefused keys x
keeps-sealed keys (Some sealed) x e = keeps-answered keys sealed.left (Gives sealed.bytes) x e
keeps-sealed keys None x e = clash e

keeps-opened : (keys : Keys) (random : List ℕ) (o : Option (List ℕ)) (next : List ℕ → Option Served) (x : Served) → ((plain : List ℕ) → next plain ≡ Some x → KeepsRefused keys x) → if_opened keys random o next ≡ Some x → KeepsRefused keys x
keeps-opened keys random (Some plain) next x each e = each plain e
keeps-opened keys random None next x each e = keeps-answered keys random (Refuses OpenFailed) x e

-- the reply to an accepted edit is no refusal
last_accepts : {P : Type 0} (rs : List Record) (why : LineRefusal) → last_id rs ≡ Refuses why → P
last_accepts [] why e = absurd cc
last_accepts (r ∷ []) why e = absurd cc
last_accepts (r ∷ s ∷ later) why e = last_accepts (s ∷ later) why e

edit_accepts : {P : Type 0} (edit : Edit) (keys : Keys) (why : LineRefusal) → edited_reply edit keys ≡ Refuses why → P
edit_accepts (edits.Add row) keys why e = last_accepts keys.records why e
edit_accepts (edits.Rotate row) keys why e = last_accepts keys.records why e
edit_accepts (edits.Promote id) keys why e = absurd cc
edit_accepts (edits.Enable id) keys why e = absurd cc
edit_accepts (edits.Disable id) keys why e = absurd cc
edit_accepts (edits.Destroy id) keys why e = absurd cc
edit_accepts (edits.Delete id) keys why e = absurd cc

keeps-served : (edit : Edit) (keys : Keys) (answer : Result Keys EditRefusal) (left : List ℕ) → KeepsRefused keys (edit_served edit keys answer left)
unfolding KeepsRefused
keeps-served edit keys (Ok edited) left why is = edit_accepts edit edited why is
keeps-served edit keys (Err fault) left why is = refl

keeps-edit : (keys : Keys) (random : List ℕ) (edit : Edit) (x : Served) → edit_line keys random edit ≡ Some x → KeepsRefused keys x
keeps-edit keys random edit x e =
    let there = map_some (stepped edit keys) (step keys edit random) x e in
    subst (KeepsRefused keys) there.2 (keeps-served edit keys there.0.answer there.0.left)

keeps-asked : (keys : Keys) (random : List ℕ) (asked : EditOf (List ℕ)) (x : Served) → asked_line keys random asked ≡ Some x → KeepsRefused keys x
keeps-asked keys random asked x e = elim (asked_cases keys asked) [
  | inl found ↦ keeps-edit keys random found.0 x (sym (found.2 random) ∙ e)
  | inr refused ↦ keeps-answered keys random (Refuses refused.0) x (sym (refused.1 random) ∙ e)
]

keeps-saved : (keys : Keys) (random : List ℕ) (outcome : Outcome) (x : Served) → saved_line keys random outcome ≡ Some x → KeepsRefused keys x
unfolding KeepsRefused
keeps-saved keys random outcome x e why is = sym (saved_keeps keys random outcome x e)

keeps-line : (table : Table) (keys : Keys) (line : Line) (random : List ℕ) (x : Served) → serve table keys line random ≡ Some x → KeepsRefused keys x
unfolding serve
keeps-line table keys (Seal plain ad) random x e = keeps-unless (unfit keys Aead table) keys random _ x (keeps-sealed keys (seal_answer keys table plain ad random) x) e
keeps-line table keys (Dseal plain ad) random x e = keeps-unless (unfit keys Daead table) keys random _ x (keeps-computed keys random Gives (dseal_answer keys table plain ad) x) e
keeps-line table keys (Open sealed ad) random x e = keeps-unless (unfit keys Aead table) keys random _ x (keeps-answered keys random _ x) e
keeps-line table keys (Dopen sealed ad) random x e = keeps-unless (unfit keys Daead table) keys random _ x (keeps-answered keys random _ x) e
keeps-line table keys (Reseal sealed ad) random x e = keeps-unless (unfit keys Aead table) keys random _ x (keeps-opened keys random (open_answer keys table sealed ad) _ x (λ plain. keeps-sealed keys (seal_answer keys table plain ad random) x)) e
keeps-line table keys (Dreseal sealed ad) random x e = keeps-unless (unfit keys Daead table) keys random _ x (keeps-opened keys random (dopen_answer keys table sealed ad) _ x (λ plain. keeps-computed keys random Gives (dseal_answer keys table plain ad) x)) e
keeps-line table keys (Tag body) random x e = keeps-unless (unfit keys Mac table) keys random _ x (keeps-computed keys random Gives (tag_answer keys table body) x) e
keeps-line table keys (Verify tag body) random x e = keeps-unless (unfit keys Mac table) keys random _ x (keeps-answered keys random _ x) e
keeps-line table keys (Derive size input) random x e = keeps-unless (unfit keys Prf table) keys random _ x (keeps-computed keys random (derived_reply size) (derive_answer keys table input size) x) e
keeps-line table keys (AsksEdit edit) random x e = keeps-asked keys random edit x e
keeps-line table keys (Save name outcome) random x e = keeps-saved keys random outcome x e
keeps-line table keys (Bad why) random x e = keeps-answered keys random _ x e

pub refusals_leave : RefusalsLeave
unfolding KeepsRefused
refusals_leave table keys line random x why e is = keeps-line table keys line random x e why is

-- ---- sessions

pub session_goes_on : SessionGoesOn
unfolding turns remains
session_goes_on table keys [] more random m e =
    let same = same_Some _ _ e in
    (ap (λ x. turns table x.keys more x.left) same, ap (λ x. remains table x.keys more x.left) same)
session_goes_on table keys (line ∷ later) more random m e = elim (serve table keys line random) as (λ o. option_and_then (λ s. remains table s.keys later s.left) o ≡ Some m
    → (turn_then keys line o (λ s. turns table s.keys (later ++ more) s.left) ≡ turn_then keys line o (λ s. turns table s.keys later s.left) ++ turns table m.keys more m.left)
    × (option_and_then (λ s. remains table s.keys (later ++ more) s.left) o ≡ remains table m.keys more m.left)) [
      | None ↦ λ k. clash k
      | Some x ↦ λ k.
          let behind = session_goes_on table x.keys later more x.left m k in
          (ap (λ ts. record { before = keys; line = line; reply = x.reply } ∷ ts) behind.0, behind.1)
    ] e
