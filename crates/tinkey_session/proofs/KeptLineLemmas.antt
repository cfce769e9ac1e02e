-- A key that is ENABLED and alone under its prefix stays so, over the lines of a session that spare it.
use Rattle.std.proofs.Common.{◌≡◌, ◌∙◌, inl, inr, refl, sym, ap, subst, ℕ, zero, suc, List, [], ◌∷◌, Option, Some, None, Result, Ok, Err}
use Rattle.std.specs.Prelude.{IfSome, slice_get}
use Rattle.std.specs.Option.{option_and_then}
use Rattle.std.proofs.lemmas.Option.{same_Some}
use Rattle.key_msgs.specs.declared.primitive.Primitive.{Primitive}
use Rattle.key_msgs.specs.declared.primitive.Primitive.TheVariants.{Aead, Daead, Mac, Prf}
use Rattle.keyset_model.specs.Keyset.{Keys}
use Rattle.keyset_model.specs.declared.record.Record.{Record}
use Rattle.managers.specs.Table.{Table}
use Rattle.tinkey_cmds.specs.Edits.{Edit, EditOf, Stepped, step}
use Rattle.tinkey_cmds.specs.Edits as edits
use Rattle.tinkey_session.proofs.DistinctLemmas.{IsHeld, held_by_edit, ids_stay_distinct, no_other}
use Rattle.tinkey_session.proofs.DrawLemmas.{refusals_leave}
use Rattle.tinkey_session.proofs.EnabledLemmas.{data_stays}
use Rattle.tinkey_session.proofs.KeptKeyLemmas.{if_ok, kept_by_edits}
use Rattle.tinkey_session.proofs.Options.{clash, map_some}
use Rattle.tinkey_session.proofs.TurnLemmas.{answer_keeps, computed_keeps, handle_cases, opened_keeps, saved_keeps, sealed_keeps, served_keys, named_row, same_Ok}
use Rattle.tinkey_session.specs.KeptKeys.{HasData, SparesData, EnablesNoOther, HasDistinctIds, Spares, SparesKey}
use Rattle.tinkey_session.specs.KeptLines.{EachAcceptedLine, IsAccepted, KeptByLines, KeptBySession, LineIdsStayDistinct, LinesOfOthersSpare, OfEdit, SessionDataStays, SessionIdsStayDistinct}
use Rattle.tinkey_session.specs.Laws.{kept}
use Rattle.tinkey_session.specs.Lines.{Line, Seal, Dseal, Open, Dopen, Reseal, Dreseal, Tag, Verify, Derive, Edit as AsksEdit, Save, Bad}
use Rattle.tinkey_session.specs.Serving.{Served, asked_line, by_handle, edit_line, edit_named, or_refused, refused_line, sealed_reply, serve, stepped, template_of}
use Rattle.tinkey_session.specs.Session.{Remains, Turn, remains, turn_then, turns}
use Rattle.tinkey_session.specs.declared.reply.Refusal.{Refusal}
use Rattle.tinkey_session.specs.declared.reply.Reply.{Reply}
use Rattle.tinkey_session.specs.declared.reply.Reply.TheVariants.{Done, Gives, NewId, Refuses}
use Rattle.wrapped_prims.specs.Answers.{derive_answer, dopen_answer, dseal_answer, open_answer, seal_answer, tag_answer}
use Rattle.wrapped_prims.specs.Candidates.{prefix_of}
use Rattle.wrapped_prims.specs.Fitness.{unfit}
use Rattle.wrapped_prims.specs.Laws.{HasSameKey}
use Rattle.wrapped_prims.specs.Making.{HasWordId}

-- ---- an edit that is asked for by a name

-- it spares what was asked to be spared
pub record Follows (asked : EditOf (List ℕ)) (edit : Edit) : Type 0 where
  pub spares : (id : ℕ) → Spares id asked → Spares id edit
  pub no_other : (r : Record) (keys : Keys) → EnablesNoOther r keys asked → EnablesNoOther r keys edit
  pub data' : (id : ℕ) → SparesData id asked → SparesData id edit

pub follows_key : (r : Record) (keys : Keys) (asked : EditOf (List ℕ)) (edit : Edit) → Follows asked edit → SparesKey r keys asked → SparesKey r keys edit
follows_key r keys asked edit follows spares = record { spares = follows.spares r.id spares.spares; no_other = follows.no_other r keys spares.no_other }

-- what a line's edit leaves has this
abbrev pub EachEdit : (Keys → Type 0) → Keys → (random : List ℕ) → EditOf (List ℕ) → Type 0
EachEdit P keys random asked = (edit : Edit) → Follows asked edit → (s : Stepped) → step keys edit random ≡ Some s → P (kept keys s.answer)

edit_keeps : (P : Keys → Type 0) (keys : Keys) (random : List ℕ) (edit : Edit) (x : Served) → ((s : Stepped) → step keys edit random ≡ Some s → P (kept keys s.answer)) → edit_line keys random edit ≡ Some x → P x.keys
edit_keeps P keys random edit x each e =
    let there = map_some (stepped edit keys) (step keys edit random) x e in
    subst P (served_keys edit keys there.0.answer there.0.left ∙ ap (λ y. y.keys) there.2) (each there.0 there.1)

-- the edit that was found is as what was asked for
pub named_follows : (asked : EditOf (List ℕ)) (e : Edit) → edit_named asked ≡ Ok e → Follows asked e
named_follows (edits.Add name) e is = subst (Follows (edits.Add name)) (named_row edits.Add (template_of name) e is).2 (record { spares = λ id h. tt; no_other = λ r keys h. tt; data' = λ id h. tt })
named_follows (edits.Rotate name) e is = subst (Follows (edits.Rotate name)) (named_row edits.Rotate (template_of name) e is).2 (record { spares = λ id h. tt; no_other = λ r keys h. tt; data' = λ id h. tt })
named_follows (edits.Promote id) e is = subst (Follows (edits.Promote id)) (same_Ok _ _ is) (record { spares = λ id h. h; no_other = λ r keys h. h; data' = λ id h. h })
named_follows (edits.Enable id) e is = subst (Follows (edits.Enable id)) (same_Ok _ _ is) (record { spares = λ id h. h; no_other = λ r keys h. h; data' = λ id h. h })
named_follows (edits.Disable id) e is = subst (Follows (edits.Disable id)) (same_Ok _ _ is) (record { spares = λ id h. h; no_other = λ r keys h. h; data' = λ id h. h })
named_follows (edits.Destroy id) e is = subst (Follows (edits.Destroy id)) (same_Ok _ _ is) (record { spares = λ id h. h; no_other = λ r keys h. h; data' = λ id h. h })
named_follows (edits.Delete id) e is = subst (Follows (edits.Delete id)) (same_Ok _ _ is) (record { spares = λ id h. h; no_other = λ r keys h. h; data' = λ id h. h })

asked_keeps : (P : Keys → Type 0) (keys : Keys) (random : List ℕ) (asked : EditOf (List ℕ)) (x : Served) → P keys → EachEdit P keys random asked → asked_line keys random asked ≡ Some x → P x.keys
asked_keeps P keys random asked x p each e = by (edit_named asked) (named_follows asked) e
  where
    by : (found : Result Edit Refusal) → ((e : Edit) → found ≡ Ok e → Follows asked e) → or_refused (refused_line keys random) found (edit_line keys random) ≡ Some x → P x.keys
    by (Ok edit) follows e = edit_keeps P keys random edit x (each edit (follows edit refl)) e
    by (Err why) follows e = subst P (ap (λ y. y.keys) (same_Some _ _ e)) p

-- ---- every line

-- where a line asks for an edit, what that leaves has this
abbrev pub EachEditOf : (Keys → Type 0) → Keys → (random : List ℕ) → Line → Type 0
EachEditOf P keys random (AsksEdit asked) = EachEdit P keys random asked
EachEditOf P keys random line = Unit {0}

handled_keeps : (p : Primitive) (table : Table) (keys : Keys) (random : List ℕ) (served : Option Served) (x : Served) → by_handle p table keys random served ≡ Some x → (served ≡ Some x → keys ≡ x.keys) → keys ≡ x.keys
handled_keeps p table keys random served x e same = elim (handle_cases (unfit keys p table) keys random served x e) [
  | inl fit ↦ same fit.1
  | inr other ↦ ap (λ y. y.keys) other.1
]

pub line_keeps : (P : Keys → Type 0) (table : Table) (keys : Keys) (line : Line) (random : List ℕ) (x : Served) → P keys → EachEditOf P keys random line → serve table keys line random ≡ Some x → P x.keys
unfolding serve
line_keeps P table keys (Seal plain ad) random x p each e = subst P (handled_keeps Aead table keys random _ x e
    (λ k. ap (λ y. y.keys) (map_some (sealed_reply keys) (seal_answer keys table plain ad random) x k).2)) p
line_keeps P table keys (Dseal plain ad) random x p each e = subst P (handled_keeps Daead table keys random _ x e (computed_keeps keys random _ (dseal_answer keys table plain ad) x)) p
line_keeps P table keys (Open sealed ad) random x p each e = subst P (handled_keeps Aead table keys random _ x e (answer_keeps keys random _ x)) p
line_keeps P table keys (Dopen sealed ad) random x p each e = subst P (handled_keeps Daead table keys random _ x e (answer_keeps keys random _ x)) p
line_keeps P table keys (Reseal sealed ad) random x p each e = subst P (handled_keeps Aead table keys random _ x e (opened_keeps keys random (open_answer keys table sealed ad) _ x (λ plain. sealed_keeps keys (seal_answer keys table plain ad random) x))) p
line_keeps P table keys (Dreseal sealed ad) random x p each e = subst P (handled_keeps Daead table keys random _ x e (opened_keeps keys random (dopen_answer keys table sealed ad) _ x (λ plain. computed_keeps keys random _ (dseal_answer keys table plain ad) x))) p
line_keeps P table keys (Tag body) random x p each e = subst P (handled_keeps Mac table keys random _ x e (computed_keeps keys random _ (tag_answer keys table body) x)) p
line_keeps P table keys (Verify tag body) random x p each e = subst P (handled_keeps Mac table keys random _ x e (answer_keeps keys random _ x)) p
line_keeps P table keys (Derive size input) random x p each e = subst P (handled_keeps Prf table keys random _ x e (computed_keeps keys random _ (derive_answer keys table input size) x)) p
line_keeps P table keys (AsksEdit asked) random x p each e = asked_keeps P keys random asked x p each e
line_keeps P table keys (Save name outcome) random x p each e = subst P (saved_keeps keys random outcome x e) p
line_keeps P table keys (Bad why) random x p each e = subst P (answer_keeps keys random _ x e) p

-- what holds of each edit that a line may ask for holds of the line's
each_edit_of : (P : Keys → Type 0) (keys : Keys) (random : List ℕ) (line : Line) → ((asked : EditOf (List ℕ)) → line ≡ AsksEdit asked → EachEdit P keys random asked) → EachEditOf P keys random line
each_edit_of P keys random (Seal plain ad) each = tt
each_edit_of P keys random (Dseal plain ad) each = tt
each_edit_of P keys random (Open sealed ad) each = tt
each_edit_of P keys random (Dopen sealed ad) each = tt
each_edit_of P keys random (Reseal sealed ad) each = tt
each_edit_of P keys random (Dreseal sealed ad) each = tt
each_edit_of P keys random (Tag body) each = tt
each_edit_of P keys random (Verify tag body) each = tt
each_edit_of P keys random (Derive size input) each = tt
each_edit_of P keys random (AsksEdit asked) each = each asked refl
each_edit_of P keys random (Save name outcome) each = tt
each_edit_of P keys random (Bad why) each = tt

-- a refused line leaves the keyset
by_reply : (P : Keys → Type 0) (table : Table) (keys : Keys) (line : Line) (random : List ℕ) (x : Served) (reply : Reply) → P keys → serve table keys line random ≡ Some x → x.reply ≡ reply → (IsAccepted reply → P x.keys) → P x.keys
by_reply P table keys line random x Done p e is next = next tt
by_reply P table keys line random x (Gives bytes) p e is next = next tt
by_reply P table keys line random x (NewId id) p e is next = next tt
by_reply P table keys line random x (Refuses why) p e is next = subst P (sym (refusals_leave table keys line random x why e is)) p

-- what the edit of an accepted line keeps
accepted_keeps : (P : Keys → Type 0) (Claim : Keys → EditOf (List ℕ) → Type 0) (table : Table) (keys : Keys) (line : Line) (random : List ℕ) (x : Served) → P keys → serve table keys line random ≡ Some x → (IsAccepted x.reply → OfEdit Claim keys line)
    → ((asked : EditOf (List ℕ)) → Claim keys asked → EachEdit P keys random asked) → P x.keys
accepted_keeps P Claim table keys line random x p e spares each = by_reply P table keys line random x x.reply p e refl (λ accepted.
    line_keeps P table keys line random x p (each_edit_of P keys random line (λ asked is. each asked (subst (OfEdit Claim keys) is (spares accepted)))) e)

key_by_line : (table : Table) (r : Record) (prefix : List ℕ) → HasWordId r → prefix_of r ≡ Some prefix → (keys : Keys) (line : Line) (random : List ℕ) (x : Served)
    → HasSameKey r keys → serve table keys line random ≡ Some x → (IsAccepted x.reply → OfEdit (SparesKey r) keys line) → HasSameKey r x.keys
key_by_line table r prefix word has keys line random x key e spares = accepted_keeps (HasSameKey r) (SparesKey r) table keys line random x key e spares
    (λ asked claim edit follows s is. kept_by_edits keys r prefix edit random s word has key is (if_ok s.answer (follows_key r keys asked edit follows claim)))

distinct_by_line : (table : Table) (keys : Keys) (line : Line) (random : List ℕ) (x : Served) → HasDistinctIds keys → serve table keys line random ≡ Some x → HasDistinctIds x.keys
distinct_by_line table keys line random x apart e = line_keeps HasDistinctIds table keys line random x apart (each_edit_of HasDistinctIds keys random line
    (λ asked is edit follows s. ids_stay_distinct keys edit random s apart)) e

held_by_line : (table : Table) (r : Record) (prefix : List ℕ) → prefix_of r ≡ Some prefix → (keys : Keys) (line : Line) (random : List ℕ) (x : Served)
    → IsHeld r keys → serve table keys line random ≡ Some x → (IsAccepted x.reply → OfEdit (λ keys. Spares r.id) keys line) → IsHeld r x.keys
held_by_line table r prefix has keys line random x held e spares = accepted_keeps (IsHeld r) (λ keys. Spares r.id) table keys line random x held e spares
    (λ asked claim edit follows s is. held_by_edit keys r prefix edit random s has held is (if_ok s.answer (follows.spares r.id claim)))

-- ---- every session

-- what each line keeps
session_keeps : (P : Keys → Type 0) (Q : Keys → List Line → List ℕ → Type 0) (table : Table)
    → ((keys : Keys) (line : Line) (later : List Line) (random : List ℕ) (x : Served) → P keys → Q keys (line ∷ later) random → serve table keys line random ≡ Some x → P x.keys × Q x.keys later x.left)
    → (lines : List Line) (keys : Keys) (random : List ℕ) (m : Remains) → P keys → Q keys lines random → remains table keys lines random ≡ Some m → P m.keys
unfolding remains
session_keeps P Q table each [] keys random m p q e = subst P (ap (λ x. x.keys) (same_Some _ _ e)) p
session_keeps P Q table each (line ∷ later) keys random m p q e = elim (serve table keys line random) as (λ o. serve table keys line random ≡ o → option_and_then (λ s. remains table s.keys later s.left) o ≡ Some m → P m.keys) [
  | None ↦ λ t k. clash k
  | Some x ↦ λ t k. let next = each keys line later random x p q t in session_keeps P Q table each later x.keys x.left m next.0 next.1 k
] refl e

turn_keeps : (P : Keys → Type 0) (Q : Keys → List Line → List ℕ → Type 0) (table : Table)
    → ((keys : Keys) (line : Line) (later : List Line) (random : List ℕ) (x : Served) → P keys → Q keys (line ∷ later) random → serve table keys line random ≡ Some x → P x.keys × Q x.keys later x.left)
    → (lines : List Line) (keys : Keys) (random : List ℕ) (i : ℕ) (t : Turn) → P keys → Q keys lines random → slice_get (turns table keys lines random) i ≡ Some t → P t.before
unfolding turns
turn_keeps P Q table each [] keys random i t p q e = clash e
turn_keeps P Q table each (line ∷ later) keys random zero t p q e = elim (serve table keys line random) as (λ o. slice_get (turn_then keys line o (λ s. turns table s.keys later s.left)) 0 ≡ Some t → P t.before) [
  | None ↦ λ k. clash k
  | Some x ↦ λ k. subst P (ap (λ y. y.before) (same_Some _ _ k)) p
] e
turn_keeps P Q table each (line ∷ later) keys random (suc i) t p q e = elim (serve table keys line random) as (λ o. serve table keys line random ≡ o → slice_get (turn_then keys line o (λ s. turns table s.keys later s.left)) (suc i) ≡ Some t → P t.before) [
  | None ↦ λ a k. clash k
  | Some x ↦ λ a k. let next = each keys line later random x p q a in turn_keeps P Q table each later x.keys x.left i t next.0 next.1 k
] refl e

-- the claim on the first line, and on the lines behind it
claims_next : (table : Table) (Claim : Keys → EditOf (List ℕ) → Type 0) (keys : Keys) (line : Line) (later : List Line) (random : List ℕ) (x : Served)
    → EachAcceptedLine table Claim keys (line ∷ later) random → serve table keys line random ≡ Some x → (IsAccepted x.reply → OfEdit Claim keys line) × EachAcceptedLine table Claim x.keys later x.left
unfolding EachAcceptedLine
claims_next table Claim keys line later random x claims e = subst (λ o. IfSome o (λ s. (IsAccepted s.reply → OfEdit Claim keys line) × EachAcceptedLine table Claim s.keys later s.left)) e claims

key_next : (table : Table) (r : Record) (prefix : List ℕ) → HasWordId r → prefix_of r ≡ Some prefix → (keys : Keys) (line : Line) (later : List Line) (random : List ℕ) (x : Served)
    → HasSameKey r keys → EachAcceptedLine table (SparesKey r) keys (line ∷ later) random → serve table keys line random ≡ Some x → HasSameKey r x.keys × EachAcceptedLine table (SparesKey r) x.keys later x.left
key_next table r prefix word has keys line later random x key spares e =
    let next = claims_next table (SparesKey r) keys line later random x spares e in
    (key_by_line table r prefix word has keys line random x key e next.0, next.1)

pub kept_by_session : KeptBySession
kept_by_session table keys r prefix lines random m word has key spares e =
    session_keeps (HasSameKey r) (EachAcceptedLine table (SparesKey r)) table (key_next table r prefix word has) lines keys random m key spares e

pub kept_by_lines : KeptByLines
kept_by_lines table keys r prefix lines random i t word has key spares e =
    turn_keeps (HasSameKey r) (EachAcceptedLine table (SparesKey r)) table (key_next table r prefix word has) lines keys random i t key spares e

distinct_next : (table : Table) (keys : Keys) (line : Line) (later : List Line) (random : List ℕ) (x : Served) → HasDistinctIds keys → Unit {0} → serve table keys line random ≡ Some x → HasDistinctIds x.keys × Unit {0}
distinct_next table keys line later random x apart q e = (distinct_by_line table keys line random x apart e, tt)

pub session_ids_stay_distinct : SessionIdsStayDistinct
session_ids_stay_distinct table keys lines random m apart e = session_keeps HasDistinctIds (λ keys lines random. Unit {0}) table (distinct_next table) lines keys random m apart tt e

pub line_ids_stay_distinct : LineIdsStayDistinct
line_ids_stay_distinct table keys lines random i t apart e = turn_keeps HasDistinctIds (λ keys lines random. Unit {0}) table (distinct_next table) lines keys random i t apart tt e

held_next : (table : Table) (r : Record) (prefix : List ℕ) → prefix_of r ≡ Some prefix → (keys : Keys) (line : Line) (later : List Line) (random : List ℕ) (x : Served)
    → IsHeld r keys → EachAcceptedLine table (λ keys. Spares r.id) keys (line ∷ later) random → serve table keys line random ≡ Some x → IsHeld r x.keys × EachAcceptedLine table (λ keys. Spares r.id) x.keys later x.left
held_next table r prefix has keys line later random x held spares e =
    let next = claims_next table (λ keys. Spares r.id) keys line later random x spares e in
    (held_by_line table r prefix has keys line random x held e next.0, next.1)

pub held_by_session : (table : Table) (keys : Keys) (r : Record) (prefix : List ℕ) (lines : List Line) (random : List ℕ) (m : Remains) → prefix_of r ≡ Some prefix
    → IsHeld r keys → EachAcceptedLine table (λ keys. Spares r.id) keys lines random → remains table keys lines random ≡ Some m → IsHeld r m.keys
held_by_session table keys r prefix lines random m has held spares e =
    session_keeps (IsHeld r) (EachAcceptedLine table (λ keys. Spares r.id)) table (held_next table r prefix has) lines keys random m held spares e

line_of_other : (keys : Keys) (r : Record) (prefix : List ℕ) → prefix_of r ≡ Some prefix → IsHeld r keys → (line : Line) → OfEdit (λ keys. Spares r.id) keys line → OfEdit (SparesKey r) keys line
line_of_other keys r prefix has held (Seal plain ad) spares = tt
line_of_other keys r prefix has held (Dseal plain ad) spares = tt
line_of_other keys r prefix has held (Open sealed ad) spares = tt
line_of_other keys r prefix has held (Dopen sealed ad) spares = tt
line_of_other keys r prefix has held (Reseal sealed ad) spares = tt
line_of_other keys r prefix has held (Dreseal sealed ad) spares = tt
line_of_other keys r prefix has held (Tag body) spares = tt
line_of_other keys r prefix has held (Verify tag body) spares = tt
line_of_other keys r prefix has held (Derive size input) spares = tt
line_of_other keys r prefix has held (AsksEdit asked) spares = record { spares = spares; no_other = no_other keys r prefix asked held.apart held.words has held.key }
line_of_other keys r prefix has held (Save name outcome) spares = tt
line_of_other keys r prefix has held (Bad why) spares = tt

others_spare : (table : Table) (r : Record) (prefix : List ℕ) → prefix_of r ≡ Some prefix → (lines : List Line) (keys : Keys) (random : List ℕ) → IsHeld r keys → EachAcceptedLine table (λ keys. Spares r.id) keys lines random → EachAcceptedLine table (SparesKey r) keys lines random
unfolding EachAcceptedLine
others_spare table r prefix has [] keys random held spares = tt
others_spare table r prefix has (line ∷ later) keys random held spares =
    elim (serve table keys line random) as (λ o. serve table keys line random ≡ o → IfSome o (λ s. (IsAccepted s.reply → OfEdit (λ keys. Spares r.id) keys line) × EachAcceptedLine table (λ keys. Spares r.id) s.keys later s.left)
    → IfSome o (λ s. (IsAccepted s.reply → OfEdit (SparesKey r) keys line) × EachAcceptedLine table (SparesKey r) s.keys later s.left)) [
      | None ↦ λ t q. tt
      | Some x ↦ λ t q. (λ accepted. line_of_other keys r prefix has held line (q.0 accepted), others_spare table r prefix has later x.keys x.left (held_by_line table r prefix has keys line random x held t q.0) q.1)
    ] refl spares

pub lines_of_others_spare : LinesOfOthersSpare
lines_of_others_spare table keys r prefix lines random apart words has key spares = others_spare table r prefix has lines keys random (record { apart = apart; words = words; key = key }) spares

data_next : (table : Table) (r : Record) (keys : Keys) (line : Line) (later : List Line) (random : List ℕ) (x : Served)
    → HasData r keys → EachAcceptedLine table (λ keys. SparesData r.id) keys (line ∷ later) random → serve table keys line random ≡ Some x → HasData r x.keys × EachAcceptedLine table (λ keys. SparesData r.id) x.keys later x.left
data_next table r keys line later random x h spares e =
    let next = claims_next table (λ keys. SparesData r.id) keys line later random x spares e in (
      accepted_keeps (HasData r) (λ keys. SparesData r.id) table keys line random x h e next.0
          (λ asked claim edit follows s is. data_stays keys r edit random s h is (if_ok s.answer (follows.data' r.id claim))),
      next.1,
    )

pub session_data_stays : SessionDataStays
session_data_stays table keys r lines random m h spares e =
    session_keeps (HasData r) (EachAcceptedLine table (λ keys. SparesData r.id)) table (data_next table r) lines keys random m h spares e
