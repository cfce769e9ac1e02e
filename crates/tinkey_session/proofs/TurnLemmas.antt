-- A session's turns, and the edits that lead to each.
use Rattle.std.proofs.Common.{◌≡◌, ◌∙◌, ◌⊎◌, inl, inr, refl, sym, ap, subst, ℕ, zero, suc, ltb, ◌<◌, Bool, true, false, cond, List, [], ◌∷◌, ◌++◌, length, drop, Option, Some, None, Result, Ok, Err, arith, option_map}
use Rattle.std.specs.Prelude.{slice_get}
use Rattle.std.specs.Option.{option_and_then}
use Rattle.std.specs.Str.{bytes_eq}
use Rattle.std.proofs.lemmas.Option.{same_Some}
use Rattle.key_msgs.specs.Templates.{Row, is_asymmetric, row_named, templates}
use Rattle.key_msgs.specs.declared.primitive.Primitive.{Primitive}
use Rattle.key_msgs.specs.declared.primitive.Primitive.TheVariants.{Aead, Daead, Mac, Prf}
use Rattle.keyset_model.specs.Keyset.{Keys}
use Rattle.managers.specs.Table.{Table}
use Rattle.tinkey_cmds.proofs.Among.{contains-among, find-among}
use Rattle.tinkey_cmds.proofs.Lists.{each-append}
use Rattle.tinkey_cmds.specs.Edits.{Edit, EditOf, Stepped, step}
use Rattle.tinkey_cmds.specs.Edits as edits
use Rattle.tinkey_cmds.specs.Laws.{HasTemplate, IsTemplate}
use Rattle.tinkey_cmds.specs.declared.command.EditRefusal.{EditRefusal}
use Rattle.tinkey_session.proofs.Options.{clash, map_some}
use Rattle.tinkey_session.specs.Laws.{Asked, IsAsked, IsEdited, after, kept}
use Rattle.tinkey_session.specs.SessionLaws.{SessionIsEdits}
use Rattle.tinkey_session.specs.Lines.{Line, Seal, Dseal, Open, Dopen, Reseal, Dreseal, Tag, Verify, Derive, Edit as AsksEdit, Save, Outcome, Bad}
use Rattle.tinkey_session.specs.Serving.{cannot_serve, Served, answered, asked_line, by_handle, computed, edit_line, drawn_size, edit_named, edit_served, if_opened, or_refused, refused_line, saved_line, saved_reply, sealed_reply, serve, stepped, template_of, template_or, unless_unfit}
use Rattle.tinkey_session.specs.declared.reply.LineRefusal.{LineRefusal}
use Rattle.tinkey_session.specs.declared.reply.Refusal.{Refusal}
use Rattle.tinkey_session.specs.declared.reply.LineRefusal.TheVariants.{OpenFailed, Refused}
use Rattle.tinkey_session.specs.declared.reply.Reply.{Reply}
use Rattle.tinkey_session.specs.declared.reply.Reply.TheVariants.{Refuses}
use Rattle.tinkey_session.specs.Session.{Turn, remains, turn_then, turns}
use Rattle.wrapped_prims.specs.Answers.{Sealed, derive_answer, dopen_answer, dseal_answer, open_answer, seal_answer, tag_answer}
use Rattle.wrapped_prims.specs.Fitness.{Unfit, unfit}

-- ---- edits

edited_same : (keys new : Keys) → keys ≡ new → IsEdited keys new
unfolding after
edited_same keys new e = record { edits = []; asked = tt; last = ap Some e }

after-append : (edits more : List Asked) (old mid : Keys) → after old edits ≡ Some mid → after old (edits ++ more) ≡ after mid more
unfolding after
after-append [] more old mid e = ap (λ k. after k more) (same_Some _ _ e)
after-append (asked ∷ later) more old mid e = elim (step old asked.edit asked.random) as (λ o. option_and_then (λ s. after (kept old s.answer) later) o ≡ Some mid → option_and_then (λ s. after (kept old s.answer) (later ++ more)) o ≡ after mid more) [
  | None ↦ λ k. clash k
  | Some s ↦ λ k. after-append later more (kept old s.answer) mid k
] e

pub edited_on : (old mid new : Keys) → IsEdited old mid → IsEdited mid new → IsEdited old new
edited_on old mid new a b = record {
  edits = a.edits ++ b.edits;
  asked = each-append IsAsked a.edits b.edits a.asked b.asked;
  last = after-append a.edits b.edits old mid a.last ∙ b.last;
}

pub served_keys : (edit : Edit) (keys : Keys) (answer : Result Keys EditRefusal) (left : List ℕ) → kept keys answer ≡ (edit_served edit keys answer left).keys
served_keys edit keys (Ok edited) left = refl
served_keys edit keys (Err fault) left = refl

edited_line : (keys : Keys) (random : List ℕ) (edit : Edit) (x : Served) → HasTemplate edit → edit_line keys random edit ≡ Some x → IsEdited keys x.keys
unfolding after
edited_line keys random edit x is e =
    let there = map_some (stepped edit keys) (step keys edit random) x e in
    record {
      edits = record { edit = edit; random = random } ∷ [];
      asked = (is, tt);
      last = ap (option_and_then (λ s. Some (kept keys s.answer))) there.1
          ∙ ap Some (served_keys edit keys there.0.answer there.0.left ∙ ap (λ y. y.keys) there.2);
    }

-- ---- what a line leaves

-- the keyset before it, or that of an edit of it
abbrev pub Leaves : Keys → List ℕ → Served → Type 0
Leaves keys random x = (keys ≡ x.keys) ⊎ ((edit : Edit) × HasTemplate edit × (edit_line keys random edit ≡ Some x))

-- a keyset that can serve, or the first record that can't
pub handle_cases : (u : Option (ℕ × Unfit)) (keys : Keys) (random : List ℕ) (served : Option Served) (x : Served) → unless_unfit u keys random served ≡ Some x
    → ((u ≡ None) × (served ≡ Some x)) ⊎ ((f : ℕ × Unfit) × (answered keys random (Refuses (Refused (cannot_serve f.0 f.1))) ≡ x))
handle_cases None keys random served x e = inl (refl, e)
handle_cases (Some f) keys random served x e = inr (f, same_Some _ _ e)

handled : (p : Primitive) (table : Table) (keys : Keys) (random : List ℕ) (served : Option Served) (x : Served) → by_handle p table keys random served ≡ Some x
    → (served ≡ Some x → keys ≡ x.keys) → Leaves keys random x
handled p table keys random served x e same = elim (handle_cases (unfit keys p table) keys random served x e) [
  | inl fit ↦ inl (same fit.1)
  | inr other ↦ inl (ap (λ y. y.keys) other.1)
]

pub answer_keeps : (keys : Keys) (random : List ℕ) (reply : Reply) (x : Served) → Some (answered keys random reply) ≡ Some x → keys ≡ x.keys
answer_keeps keys random reply x e = ap (λ y. y.keys) (same_Some _ _ e)

pub computed_keeps : {A : Type 0} (keys : Keys) (random : List ℕ) (reply : A → Reply) (answer : Option A) (x : Served) → computed keys random reply answer ≡ Some x → keys ≡ x.keys
computed_keeps keys random reply answer x e = ap (λ y. y.keys) (map_some (λ value. answered keys random (reply value)) answer x e).2

-- ---- templates

pub same_Ok : {A : Type 0} (a b : A) → ◌≡◌ {A = Result A Refusal} (Ok a) (Ok b) → a ≡ b
same_Ok a b e = cc

pub template_there : (name : List ℕ) (row : Row) → template_of name ≡ Ok row → IsTemplate row
unfolding row_named
template_there name row e = by (row_named name) (is_asymmetric name) refl e
  where
    by : (o : Option Row) (asymmetric : Bool) → row_named name ≡ o → template_or o asymmetric ≡ Ok row → IsTemplate row
    by (Some r) asymmetric t k =
        contains-among templates row (find-among (λ x. bytes_eq x.name name) templates row (t ∙ ap Some (same_Ok r row k))).0
    by None asymmetric t k = absurd cc

-- what is asked for is an edit, which has its template, or is refused for its name
abbrev pub GivesAsked : Keys → (List ℕ → Option Served) → Type 0
GivesAsked keys give =
    ((edit : Edit) × HasTemplate edit × ((random : List ℕ) → give random ≡ edit_line keys random edit))
    ⊎ ((why : LineRefusal) × ((random : List ℕ) → give random ≡ Some (answered keys random (Refuses why))))

-- an edit that was found by the name of a template
pub named_row : (edit : Row → Edit) (found : Result Row Refusal) (e : Edit) → or_refused {P = Result Edit Refusal} Err found (λ row. Ok (edit row)) ≡ Ok e → (row : Row) × (found ≡ Ok row) × (edit row ≡ e)
named_row edit (Ok row) e is = (row, refl, same_Ok _ _ is)
named_row edit (Err why) e is = absurd cc

pub named_template : (asked : EditOf (List ℕ)) (e : Edit) → edit_named asked ≡ Ok e → HasTemplate e
named_template (edits.Add name) e is = let m = named_row edits.Add (template_of name) e is in subst HasTemplate m.2 (template_there name m.0 m.1)
named_template (edits.Rotate name) e is = let m = named_row edits.Rotate (template_of name) e is in subst HasTemplate m.2 (template_there name m.0 m.1)
named_template (edits.Promote id) e is = subst HasTemplate (same_Ok _ _ is) tt
named_template (edits.Enable id) e is = subst HasTemplate (same_Ok _ _ is) tt
named_template (edits.Disable id) e is = subst HasTemplate (same_Ok _ _ is) tt
named_template (edits.Destroy id) e is = subst HasTemplate (same_Ok _ _ is) tt
named_template (edits.Delete id) e is = subst HasTemplate (same_Ok _ _ is) tt

pub asked_cases : (keys : Keys) (asked : EditOf (List ℕ)) → GivesAsked keys (λ random. asked_line keys random asked)
asked_cases keys asked = by (edit_named asked) (named_template asked)
  where
    by : (found : Result Edit Refusal) → ((e : Edit) → found ≡ Ok e → HasTemplate e) → GivesAsked keys (λ random. or_refused (refused_line keys random) found (edit_line keys random))
    by (Ok e) has = inl (e, has e refl, λ random. refl)
    by (Err why) has = inr (Refused why, λ random. refl)

asked_leaves : (keys : Keys) (asked : EditOf (List ℕ)) (random : List ℕ) (x : Served) → asked_line keys random asked ≡ Some x → Leaves keys random x
asked_leaves keys asked random x e = elim (asked_cases keys asked) [
  | inl found ↦ inr (found.0, found.1, sym (found.2 random) ∙ e)
  | inr refused ↦ inl (answer_keeps keys random (Refuses refused.0) x (sym (refused.1 random) ∙ e))
]

-- what is opened is sealed, or nothing opened
pub opened_keeps : (keys : Keys) (random : List ℕ) (o : Option (List ℕ)) (next : List ℕ → Option Served) (x : Served) → ((plain : List ℕ) → next plain ≡ Some x → keys ≡ x.keys) → if_opened keys random o next ≡ Some x → keys ≡ x.keys
opened_keeps keys random (Some plain) next x each e = each plain e
opened_keeps keys random None next x each e = answer_keeps keys random (Refuses OpenFailed) x e

pub sealed_keeps : (keys : Keys) (sealed : Option Sealed) (x : Served) → option_map (sealed_reply keys) sealed ≡ Some x → keys ≡ x.keys
sealed_keeps keys sealed x k = ap (λ y. y.keys) (map_some (sealed_reply keys) sealed x k).2

-- a save leaves the keyset
pub saved_keeps : (keys : Keys) (random : List ℕ) (outcome : Outcome) (x : Served) → saved_line keys random outcome ≡ Some x → keys ≡ x.keys
saved_keeps keys random outcome x e = by (ltb (length random) (drawn_size outcome)) e
  where
    by : (b : Bool) → cond b None (Some (answered keys (drop (drawn_size outcome) random) (saved_reply outcome.why))) ≡ Some x → keys ≡ x.keys
    by true k = clash k
    by false k = answer_keeps keys (drop (drawn_size outcome) random) (saved_reply outcome.why) x k

-- ---- every line

pub serve_leaves : (table : Table) (keys : Keys) (line : Line) (random : List ℕ) (x : Served) → serve table keys line random ≡ Some x → Leaves keys random x
unfolding serve
serve_leaves table keys (Seal plain ad) random x e = handled Aead table keys random _ x e
    (λ k. ap (λ y. y.keys) (map_some (sealed_reply keys) (seal_answer keys table plain ad random) x k).2)
serve_leaves table keys (Dseal plain ad) random x e = handled Daead table keys random _ x e (computed_keeps keys random _ (dseal_answer keys table plain ad) x)
serve_leaves table keys (Open sealed ad) random x e = handled Aead table keys random _ x e (answer_keeps keys random _ x)
serve_leaves table keys (Dopen sealed ad) random x e = handled Daead table keys random _ x e (answer_keeps keys random _ x)
serve_leaves table keys (Reseal sealed ad) random x e = handled Aead table keys random _ x e (opened_keeps keys random (open_answer keys table sealed ad) _ x (λ plain. sealed_keeps keys (seal_answer keys table plain ad random) x))
serve_leaves table keys (Dreseal sealed ad) random x e = handled Daead table keys random _ x e (opened_keeps keys random (dopen_answer keys table sealed ad) _ x (λ plain. computed_keeps keys random _ (dseal_answer keys table plain ad) x))
serve_leaves table keys (Tag body) random x e = handled Mac table keys random _ x e (computed_keeps keys random _ (tag_answer keys table body) x)
serve_leaves table keys (Verify tag body) random x e = handled Mac table keys random _ x e (answer_keeps keys random _ x)
serve_leaves table keys (Derive size input) random x e = handled Prf table keys random _ x e (computed_keeps keys random _ (derive_answer keys table input size) x)
serve_leaves table keys (AsksEdit edit) random x e = asked_leaves keys edit random x e
serve_leaves table keys (Save name outcome) random x e = inl (saved_keeps keys random outcome x e)
serve_leaves table keys (Bad why) random x e = inl (answer_keeps keys random _ x e)

pub serve_edits : (table : Table) (keys : Keys) (line : Line) (random : List ℕ) (x : Served) → serve table keys line random ≡ Some x → IsEdited keys x.keys
serve_edits table keys line random x e = elim (serve_leaves table keys line random x e) [
  | inl same ↦ edited_same keys x.keys same
  | inr edited ↦ edited_line keys random edited.0 x edited.1 edited.2
]

pub session_is_edits : SessionIsEdits
unfolding remains
session_is_edits table keys [] random m e = edited_same keys m.keys (ap (λ x. x.keys) (same_Some _ _ e))
session_is_edits table keys (line ∷ later) random m e = elim (serve table keys line random) as (λ o. serve table keys line random ≡ o → option_and_then (λ s. remains table s.keys later s.left) o ≡ Some m → IsEdited keys m.keys) [
  | None ↦ λ t k. clash k
  | Some x ↦ λ t k. edited_on keys x.keys m.keys (serve_edits table keys line random x t) (session_is_edits table x.keys later x.left m k)
] refl e

-- ---- turns

-- the turn of a line, over a keyset that edits led to
pub record Reached (table : Table) (keys : Keys) (t : Turn) : Type 0 where
  pub edited : IsEdited keys t.before
  pub random : List ℕ
  pub served : Served
  pub is : serve table t.before t.line random ≡ Some served
  pub reply : t.reply ≡ served.reply

reached_from : (table : Table) (keys mid : Keys) (t : Turn) → IsEdited keys mid → Reached table mid t → Reached table keys t
reached_from table keys mid t a r = record { edited = edited_on keys mid t.before a r.edited; random = r.random; served = r.served; is = r.is; reply = r.reply }

reached_now : (table : Table) (keys : Keys) (line : Line) (random : List ℕ) (x : Served) → serve table keys line random ≡ Some x → Reached table keys (record { before = keys; line = line; reply = x.reply })
reached_now table keys line random x e = record { edited = edited_same keys keys refl; random = random; served = x; is = e; reply = refl }

pub reached : (table : Table) (lines : List Line) (keys : Keys) (random : List ℕ) (j : ℕ) (t : Turn) → slice_get (turns table keys lines random) j ≡ Some t → Reached table keys t
unfolding turns
reached table [] keys random j t e = clash e
reached table (line ∷ later) keys random zero t e = elim (serve table keys line random) as (λ o. serve table keys line random ≡ o → slice_get (turn_then keys line o (λ s. turns table s.keys later s.left)) 0 ≡ Some t → Reached table keys t) [
  | None ↦ λ a k. clash k
  | Some x ↦ λ a k. subst (Reached table keys) (same_Some _ _ k) (reached_now table keys line random x a)
] refl e
reached table (line ∷ later) keys random (suc j) t e = elim (serve table keys line random) as (λ o. serve table keys line random ≡ o → slice_get (turn_then keys line o (λ s. turns table s.keys later s.left)) (suc j) ≡ Some t → Reached table keys t) [
  | None ↦ λ a k. clash k
  | Some x ↦ λ a k. reached_from table keys x.keys t (serve_edits table keys line random x a) (reached table later x.keys x.left j t k)
] refl e

pub turn_line : (table : Table) (lines : List Line) (keys : Keys) (random : List ℕ) (j : ℕ) (t : Turn) → slice_get (turns table keys lines random) j ≡ Some t → slice_get lines j ≡ Some t.line
unfolding turns
turn_line table [] keys random j t e = clash e
turn_line table (line ∷ later) keys random zero t e = elim (serve table keys line random) as (λ o. slice_get (turn_then keys line o (λ s. turns table s.keys later s.left)) 0 ≡ Some t → Some line ≡ Some t.line) [
  | None ↦ λ k. clash k
  | Some x ↦ λ k. ap (λ y. Some y.line) (same_Some _ _ k)
] e
turn_line table (line ∷ later) keys random (suc j) t e = elim (serve table keys line random) as (λ o. slice_get (turn_then keys line o (λ s. turns table s.keys later s.left)) (suc j) ≡ Some t → slice_get later j ≡ Some t.line) [
  | None ↦ λ k. clash k
  | Some x ↦ λ k. turn_line table later x.keys x.left j t k
] e

-- two turns, the second one over what edits made of the keyset before the first
pub record BothReached (table : Table) (keys : Keys) (s t : Turn) : Type 0 where
  pub one : Reached table keys s
  pub two : Reached table s.before t

pub both_reached : (table : Table) (lines : List Line) (keys : Keys) (random : List ℕ) (i j : ℕ) (s t : Turn) → i < j
    → slice_get (turns table keys lines random) i ≡ Some s → slice_get (turns table keys lines random) j ≡ Some t → BothReached table keys s t
unfolding turns
both_reached table [] keys random i j s t l a b = clash a
both_reached table (line ∷ later) keys random i zero s t l a b = absurd (omega arith)
both_reached table (line ∷ later) keys random zero (suc j) s t l a b = elim (serve table keys line random) as (λ o. serve table keys line random ≡ o
    → slice_get (turn_then keys line o (λ x. turns table x.keys later x.left)) 0 ≡ Some s → slice_get (turn_then keys line o (λ x. turns table x.keys later x.left)) (suc j) ≡ Some t → BothReached table keys s t) [
      | None ↦ λ e h k. clash h
      | Some x ↦ λ e h k.
          let first : Reached table keys s = subst (Reached table keys) (same_Some _ _ h) (reached_now table keys line random x e) in
          let second : Reached table keys t = reached_from table keys x.keys t (serve_edits table keys line random x e) (reached table later x.keys x.left j t k) in
          record { one = first; two = subst (λ start. Reached table start t) (ap (λ y. y.before) (same_Some _ _ h)) second }
    ] refl a b
both_reached table (line ∷ later) keys random (suc i) (suc j) s t l a b = elim (serve table keys line random) as (λ o. serve table keys line random ≡ o
    → slice_get (turn_then keys line o (λ x. turns table x.keys later x.left)) (suc i) ≡ Some s → slice_get (turn_then keys line o (λ x. turns table x.keys later x.left)) (suc j) ≡ Some t → BothReached table keys s t) [
      | None ↦ λ e h k. clash h
      | Some x ↦ λ e h k.
          let r = both_reached table later x.keys x.left i j s t (omega arith) h k in
          record { one = reached_from table keys x.keys s (serve_edits table keys line random x e) r.one; two = r.two }
    ] refl a b
