-- What runs and lines made, read by later runs and lines.
use Rattle.std.proofs.Common.{arith, ◌≡◌, ◌∙◌, inl, inr, sym, refl, ap, subst, ℕ, zero, suc, ◌≤◌, Bool, true, List, [], ◌∷◌, length, map as each, Option, Some, None, Result, Ok}
use Rattle.std.specs.Prelude.{slice_get}
use Rattle.std.specs.FinMap as map
use Rattle.std.specs.List.{AllByRecursion}
use Rattle.std.specs.Option.{option_and_then}
use Rattle.std.proofs.lemmas.Option.{same_Some}
use Rattle.key_msgs.specs.declared.primitive.Primitive.{Primitive}
use Rattle.key_msgs.specs.declared.primitive.Primitive.TheVariants.{Aead, Daead, Mac}
use Rattle.keyset_model.specs.Keyset.{Keys}
use Rattle.managers.specs.Standard.{standard_table}
use Rattle.managers.specs.Table.{Table}
use Rattle.tinkey_session.proofs.Options.{clash, map_some}
use Rattle.tinkey_session.proofs.TurnLemmas.{handle_cases}
use Rattle.tinkey_session.proofs.WithinLemmas.{all_within, within_limit}
use Rattle.tinkey_session.specs.Lines.{Line, line_of}
use Rattle.tinkey_session.specs.Reading.{IsWithin}
use Rattle.tinkey_session.specs.Serving.{cannot_serve, Served, answered, by_handle, computed, opened_reply, serve, unless_unfit, verified_reply}
use Rattle.tinkey_session.specs.Session.{Remains, Turn, lines_of, remains, turn_then, turns}
use Rattle.tinkey_session.specs.TalkLaws.{SavesAreTurns}
use Rattle.tinkey_session.specs.Talking.{line_limit}
use Rattle.tinkey_session.specs.declared.reply.Reply.{Reply}
use Rattle.tinkey_session.specs.declared.reply.LineRefusal.TheVariants.{Refused}
use Rattle.tinkey_session.specs.declared.reply.Reply.TheVariants.{Gives, Refuses}
use Rattle.wrapped_prims.specs.Answers.{Sealed, dopen_answer, open_answer, seal_answer, verify_answer}
use Rattle.wrapped_prims.specs.Fitness.{unfit}
use Rattle.tinkey_plans.specs.declared.origin.Origin.TheVariants as origins
use Rattle.tinkey_plans.specs.Commands.{command_plan}
use Rattle.tinkey_plans.specs.Plan.{Answer, Told, answer, exchanges, writes}
use Rattle.tinkey_plans.specs.Session.{holds_session, saves, saving_session}
use Rattle.tinkey_plans.specs.Using.{limit_for, works}
use Rattle.tinkey_words.specs.declared.words.rows.Format.{Format}
use Rattle.tinkey_words.specs.Words.{Asked, AskedWork, KeysetFile, session, to_seal, to_open, to_dseal, to_dopen, to_reseal, to_dreseal, to_tag, to_verify, to_derive, primitive_for}
use Rattle.ready_keysets.specs.Working.{answer as call_answer}
use Rattle.ready_keysets.specs.declared.work.Work.{Work}
use Rattle.tinkey_readable.proofs.CallLemmas.{call_dopens, call_opens, call_verifies}
use Rattle.tinkey_readable.specs.Calls.{asked_by, input_of}
use Rattle.tinkey_readable.specs.LineRuns.{asks, done_reply}
use Rattle.tinkey_readable.specs.Runs.{Does, Handing, HandsOn, Run, Written, bytes_at, hands_on, keyset_of, read_in, session_handing, told_lines}
use Rattle.tinkey_readable.proofs.ReachLemmas.{IsDoneAnswer, load_done}
use Rattle.tinkey_plans.specs.Sealers.{sealer_of}
use Rattle.tinkey_plans.specs.declared.sealer.Unopened.TheVariants as unopened
use Rattle.tinkey_readable.proofs.RunLemmas.{free_done, opens_so, talk_done, verifies_so}

-- ---- the replies of lines

-- a line that gave bytes had a keyset that serves the primitive, and this is what it gave
pub gave : (p : Primitive) (keys : Keys) (random : List ℕ) (served : Option Served) (x : Served) (bytes : List ℕ) → by_handle p standard_table keys random served ≡ Some x → x.reply ≡ Gives bytes
    → (unfit keys p standard_table ≡ None) × (served ≡ Some x)
gave p keys random served x bytes e reply = elim (handle_cases (unfit keys p standard_table) keys random served x e) [
  | inl is ↦ is
  | inr other ↦ let h : Refuses (Refused (cannot_serve other.0.0 other.0.1)) ≡ Gives bytes = ap (λ y. y.reply) other.1 ∙ reply in absurd (cc)
]

pub same_bytes : (a b : List ℕ) → Gives a ≡ Gives b → a ≡ b
same_bytes a b e = cc

-- under a keyset that serves the primitive, the reply is the answer
answer_is : (p : Primitive) (keys : Keys) (random : List ℕ) (reply : Reply) (x : Served) → unfit keys p standard_table ≡ None
    → by_handle p standard_table keys random (Some (answered keys random reply)) ≡ Some x → x.reply ≡ reply
answer_is p keys random reply x fit e =
    sym (ap (λ y. y.reply) (same_Some _ _ (sym (ap (λ u. unless_unfit u keys random (Some (answered keys random reply))) fit) ∙ e)))

-- what is computed without a draw
pub computed_gave : (p : Primitive) (keys : Keys) (random : List ℕ) (answer : Option (List ℕ)) (bytes : List ℕ) (x : Served)
    → by_handle p standard_table keys random (computed keys random Gives answer) ≡ Some x → x.reply ≡ Gives bytes
    → (unfit keys p standard_table ≡ None) × (answer ≡ Some bytes)
computed_gave p keys random answer bytes x e is =
    let g = gave p keys random (computed keys random Gives answer) x bytes e is in
    let there = map_some (λ value. answered keys random (Gives value)) answer x g.1 in
    (g.0, there.1 ∙ ap Some (same_bytes _ _ (ap (λ y. y.reply) there.2 ∙ is)))

-- ---- the turns of a session

-- a session goes on from a turn of it
pub turn_on : (table : Table) (lines : List Line) (keys : Keys) (random : List ℕ) (i : ℕ) (t : Turn) (m : Remains) → slice_get (turns table keys lines random) i ≡ Some t → remains table keys lines random ≡ Some m
    → (later : List Line) × (left : List ℕ) × (remains table t.before later left ≡ Some m)
unfolding turns remains
turn_on table [] keys random i t m at e = clash at
turn_on table (line ∷ later) keys random zero t m at e = elim (serve table keys line random) as (λ o. slice_get (turn_then keys line o (λ s. turns table s.keys later s.left)) 0 ≡ Some t → (rest : List Line) × (left : List ℕ) × (remains table t.before rest left ≡ Some m)) [
  | None ↦ λ k. clash k
  | Some x ↦ λ k. (line ∷ later, random, subst (λ keys. remains table keys (line ∷ later) random ≡ Some m) (ap (λ y. y.before) (same_Some _ _ k)) e)
] at
turn_on table (line ∷ later) keys random (suc i) t m at e = elim (serve table keys line random) as (λ o. slice_get (turn_then keys line o (λ s. turns table s.keys later s.left)) (suc i) ≡ Some t → option_and_then (λ s. remains table s.keys later s.left) o ≡ Some m
    → (rest : List Line) × (left : List ℕ) × (remains table t.before rest left ≡ Some m)) [
      | None ↦ λ k h. clash k
      | Some x ↦ λ k h. turn_on table later x.keys x.left i t m k h
    ] at e

-- what a session does
pub session_does : (table : Table) (told : Told) (old new : Keys) (asked : Asked) (name : List ℕ) (form : Format) (out : KeysetFile) (saved_only : Bool) → asked ≡ session None name form out saved_only → Does table told old new asked
    → (m : Remains) × (remains table old (told_lines table None out.form saved_only old told) told.random ≡ Some m) × (m.keys ≡ new)
session_does table told old new asked name form out saved_only is does = subst (λ a. Does table told old new a) is does

-- ---- the lines of a session that was Done

abbrev AreShort : List (List ℕ) → Type 0
AreShort lines = AllByRecursion (λ line. length line ≤ line_limit) lines

-- they are within the limit of a line, since the session went to its end
named_short : SavesAreTurns → (table : Table) (name : List ℕ) (form : Format) (out : KeysetFile) (saved_only : Bool) (file : Option (List ℕ)) (told : Told) (before : Written) (old : Keys) (h : Handing) → session_handing name form out file ≡ Some h
    → IsDoneAnswer (answer (command_plan table (session None name form out saved_only)) told) → h.taken.form ≡ before.form → bytes_at h.taken.file told.files told.input ≡ Some before.bytes → keyset_of before ≡ Some old → AreShort (lines_of told.input)
named_short law table name form out saved_only None told before old h e done form_is read is = clash e
named_short law table name form out saved_only (Some file) told before old h e done form_is read is =
    let same = same_Some _ _ e in
    let form_same : form ≡ before.form = ap (λ (x : Handing). x.taken.form) same ∙ form_is in
    let there : map.get told.files name ≡ Some before.bytes = ap (λ (x : Handing). bytes_at x.taken.file told.files told.input) same ∙ read in
    let l = load_done origins.Keyset name form before.bytes old (holds_session table None out saved_only) told there (ap (λ x. read_in x before.bytes) form_same ∙ is) done in
    let whole : IsDoneAnswer (answer (holds_session table None out saved_only old) told) = ap (λ (a : Answer). a.status) (sym l) ∙ done in
    let free = free_done out.file (λ free. exchanges (saving_session table None out.form saved_only old) (saves table None out)) told whole in
    (talk_done law table None out saved_only old told (ap (λ (a : Answer). a.status) (sym free) ∙ whole)).short

pub lines_short : SavesAreTurns → (table : Table) (run : Run) (before after : Written) (old : Keys) (name : List ℕ) (form : Format) (out : KeysetFile) (saved_only : Bool) → run.asked ≡ session None name form out saved_only → HandsOn table run before after → keyset_of before ≡ Some old → AreShort (lines_of run.told.input)
lines_short law table run before after old name form out saved_only is hands read =
    let d = hands.handed in
    named_short law table name form out saved_only out.file run.told before old hands.handing (ap hands_on (sym is) ∙ hands.hands)
    (ap (λ a. (answer (command_plan table a) run.told).status) (sym is) ∙ d.done) d.read_form d.read read

abbrev none_wrong : Line → Result Line (Unit {0})
none_wrong line = Ok line

-- what the line of a place spells is so too
pub line_at : (texts : List (List ℕ)) (i : ℕ) (line : Line) → AreShort texts → slice_get (each line_of texts) i ≡ Some line → IsWithin line_limit line
line_at [] i line short e = clash e
line_at (text ∷ texts) zero line short e = subst (IsWithin line_limit) (same_Some _ _ e) (within_limit (length text) line_limit (line_of text) short.0 (all_within (λ l. l) text (none_wrong (line_of text)) refl))
line_at (text ∷ texts) (suc i) line short e = line_at texts i line short.1 e

-- and so is within the limit of the command
pub input_fits : (work : AskedWork) (input : List ℕ) → IsWithin line_limit (asks work input) → length input ≤ limit_for work
input_fits (to_seal ad) input is = let short = is.0 in omega (arith, short)
input_fits (to_open ad) input is = let short = is.0 in omega (arith, short)
input_fits (to_dseal ad) input is = let short = is.0 in omega (arith, short)
input_fits (to_dopen ad) input is = let short = is.0 in omega (arith, short)
input_fits (to_reseal ad) input is = let short = is.0 in omega (arith, short)
input_fits (to_dreseal ad) input is = let short = is.0 in omega (arith, short)
input_fits to_tag input is = omega (arith, is)
input_fits (to_verify tag) input is = let short = is.1 in omega (arith, short)
input_fits (to_derive size) input is = omega (arith, is)

-- ---- where it is read

-- what a run, a line and a call answer over a keyset
pub record Answers (work : AskedWork) (input : List ℕ) (Is : List ℕ → Type 0) (new : Keys) : Type 0 where
  pub other : List ℕ
  pub is : Is other
  pub of_run : (told : Told) → (IsDoneAnswer (answer (works standard_table new work input writes) told)) × ((answer (works standard_table new work input writes) told).output ≡ other)
  pub of_line : (random : List ℕ) (x : Served) → unfit new (primitive_for work) standard_table ≡ None → serve standard_table new (asks work input) random ≡ Some x → x.reply ≡ done_reply work other
  pub of_call : (call : Work) → asked_by call ≡ work → input_of call ≡ input → call_answer new call ≡ Some other

-- ---- seals

pub record MakesSeal (plain ad sealed : List ℕ) (keys : Keys) : Type 0 where
  pub random : List ℕ
  pub made : Sealed
  pub is : seal_answer keys standard_table plain ad random ≡ Some made
  pub bytes : made.bytes ≡ sealed

pub open_answers : (Is : List ℕ → Type 0) (new : Keys) (sealed ad plain : List ℕ) → Is plain → open_answer new standard_table sealed ad ≡ Some plain → Answers (to_open ad) sealed Is new
unfolding serve
open_answers Is new sealed ad plain is e = record {
  other = plain;
  is = is;
  of_run = λ told. opens_so unopened.Text (sealer_of new sealed) (open_answer new standard_table sealed ad) plain told e;
  of_line = λ random x fit served. answer_is Aead new random _ x fit served ∙ ap opened_reply e;
  of_call = call_opens new ad sealed plain e;
}

-- ---- seals without an IV

pub dopen_answers : (Is : List ℕ → Type 0) (new : Keys) (sealed ad plain : List ℕ) → Is plain → dopen_answer new standard_table sealed ad ≡ Some plain → Answers (to_dopen ad) sealed Is new
unfolding serve
dopen_answers Is new sealed ad plain is e = record {
  other = plain;
  is = is;
  of_run = λ told. opens_so unopened.Text (sealer_of new sealed) (dopen_answer new standard_table sealed ad) plain told e;
  of_line = λ random x fit served. answer_is Daead new random _ x fit served ∙ ap opened_reply e;
  of_call = call_dopens new ad sealed plain e;
}

-- ---- tags

pub verify_answers : (new : Keys) (tag body : List ℕ) → verify_answer new standard_table tag body ≡ true → Answers (to_verify tag) body (λ other. other ≡ []) new
unfolding serve
verify_answers new tag body e = record {
  other = [];
  is = refl;
  of_run = λ told. verifies_so (verify_answer new standard_table tag body) told e;
  of_line = λ random x fit served. answer_is Mac new random _ x fit served ∙ ap verified_reply e;
  of_call = call_verifies new tag body e;
}
