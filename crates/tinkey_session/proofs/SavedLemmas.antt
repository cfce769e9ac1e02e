-- What a line saves is the keyset before it.
use Rattle.std.proofs.Common.{◌≡◌, ◌∙◌, refl, sym, ap, subst, ℕ, zero, suc, Bool, true, false, List, [], ◌∷◌, ◌++◌, take, Option, Some, None, Result, Ok, Err, option_map}
use Rattle.std.specs.Prelude.{◌&&◌, if◌then◌else◌, slice_get}
use Rattle.std.specs.Option.{option_and_then}
use Rattle.std.specs.Result.{result_ok}
use Rattle.std.proofs.lemmas.Option.{same_Some}
use Rattle.keyset_model.specs.Keyset.{Keys}
use Rattle.managers.specs.Table.{Table}
use Rattle.tinkey_session.proofs.Options.{clash}
use Rattle.tinkey_session.proofs.TalkLemmas.{same_outcome, save_reaches, serve_more}
use Rattle.tinkey_session.specs.Lines.{Line, Seal, Dseal, Open, Dopen, Reseal, Dreseal, Tag, Verify, Derive, Edit, Save, Outcome, Bad}
use Rattle.tinkey_session.specs.Saving.{FileAsked, Form, StoreAnswers, files_of, iv_drawn, outcome_of, resolved, written_by}
use Rattle.tinkey_session.specs.Serving.{Served, serve}
use Rattle.tinkey_session.specs.Session.{Remains, Turn, lines_by, lines_then, remains, turn_then, turns}
use Rattle.tinkey_session.specs.TalkLaws.{SavesAreBefore}
use Rattle.tinkey_session.specs.Talking.{unsaved_after, with_files}
use Rattle.tinkey_session.specs.declared.reply.LineRefusal.{LineRefusal}
use Rattle.tinkey_session.specs.declared.reply.LineRefusal.TheVariants.{NotSaved}

-- the line of a turn is a resolved one
record IsResolved (form : Form) (answers : StoreAnswers) (t : Turn) : Type 0 where
  first : List FileAsked
  unsaved : Bool
  random : List ℕ
  line : Line
  is : t.line ≡ resolved form answers first unsaved t.before random line

resolved_at : (table : Table) (form : Form) (answers : StoreAnswers) (before : List FileAsked) (unsaved : Bool) (keys : Keys) (lines : List Line) (random : List ℕ) (i : ℕ) (t : Turn)
    → slice_get (turns table keys (lines_by table (resolved form answers) before unsaved keys lines random) random) i ≡ Some t → IsResolved form answers t
unfolding turns lines_by
resolved_at table form answers before unsaved keys [] random i t e = clash e
resolved_at table form answers before unsaved keys (line ∷ later) random zero t e =
    let l = resolved form answers before unsaved keys random line in
    let over : Served → List Line = λ s. lines_by table (resolved form answers) (before ++ files_of l) (unsaved_after unsaved l s.reply) s.keys later s.left in
    elim (serve table keys l random) as (λ o. slice_get (turn_then keys l o (λ s. turns table s.keys (lines_then later o over) s.left)) 0 ≡ Some t → IsResolved form answers t) [
      | None ↦ λ k. clash k
      | Some x ↦ λ k. subst (IsResolved form answers) (same_Some _ _ k) (record { first = before; unsaved = unsaved; random = random; line = line; is = refl })
    ] e
resolved_at table form answers before unsaved keys (line ∷ later) random (suc i) t e =
    let l = resolved form answers before unsaved keys random line in
    let over : Served → List Line = λ s. lines_by table (resolved form answers) (before ++ files_of l) (unsaved_after unsaved l s.reply) s.keys later s.left in
    elim (serve table keys l random) as (λ o. slice_get (turn_then keys l o (λ s. turns table s.keys (lines_then later o over) s.left)) (suc i) ≡ Some t → IsResolved form answers t) [
      | None ↦ λ k. clash k
      | Some x ↦ λ k. resolved_at table form answers (before ++ files_of l) (unsaved_after unsaved l x.reply) x.keys later x.left i t k
    ] e

ok_of : (r : Result (List ℕ) LineRefusal) (bytes : List ℕ) → result_ok r ≡ Some bytes → r ≡ Ok bytes
ok_of (Ok other) bytes e = ap Ok (same_Some other bytes e)
ok_of (Err why) bytes e = clash e

-- a line that may be refused is no save
no_save : {P : Type 0} (b : Bool) (line : Line) (name : List ℕ) (outcome : Outcome) → (line ≡ Save name outcome → P) → (if b then Bad NotSaved else line) ≡ Save name outcome → P
no_save true line name outcome never e = let k : Bad NotSaved ≡ Save name outcome = e in absurd cc
no_save false line name outcome never e = never e

-- what a save asks for
file_of : (form : Form) (answers : StoreAnswers) (first : List FileAsked) (unsaved : Bool) (keys : Keys) (random : List ℕ) (line : Line) (name bytes : List ℕ) (outcome : Outcome)
    → resolved form answers first unsaved keys random line ≡ Save name outcome → outcome.file ≡ Some bytes → written_by form keys random ≡ Ok bytes
file_of form answers first unsaved keys random (Save other o) name bytes outcome is has =
    let e : Save other (outcome_of form keys random (answers first other)) ≡ Save name outcome = is in
    let same : outcome_of form keys random (answers first other) ≡ outcome = cc in
    ok_of (written_by form keys random) bytes (ap (λ x. x.file) same ∙ has)
file_of form answers first unsaved keys random (Seal plain ad) name bytes outcome is has = no_save (form.saved_only && unsaved) (Seal plain ad) name outcome (λ k. let e : Seal plain ad ≡ Save name outcome = k in absurd cc) is
file_of form answers first unsaved keys random (Dseal plain ad) name bytes outcome is has = no_save (form.saved_only && unsaved) (Dseal plain ad) name outcome (λ k. let e : Dseal plain ad ≡ Save name outcome = k in absurd cc) is
file_of form answers first unsaved keys random (Open sealed ad) name bytes outcome is has = let e : Open sealed ad ≡ Save name outcome = is in absurd cc
file_of form answers first unsaved keys random (Dopen sealed ad) name bytes outcome is has = let e : Dopen sealed ad ≡ Save name outcome = is in absurd cc
file_of form answers first unsaved keys random (Reseal sealed ad) name bytes outcome is has = no_save (form.saved_only && unsaved) (Reseal sealed ad) name outcome (λ k. let e : Reseal sealed ad ≡ Save name outcome = k in absurd cc) is
file_of form answers first unsaved keys random (Dreseal sealed ad) name bytes outcome is has = no_save (form.saved_only && unsaved) (Dreseal sealed ad) name outcome (λ k. let e : Dreseal sealed ad ≡ Save name outcome = k in absurd cc) is
file_of form answers first unsaved keys random (Tag body) name bytes outcome is has = no_save (form.saved_only && unsaved) (Tag body) name outcome (λ k. let e : Tag body ≡ Save name outcome = k in absurd cc) is
file_of form answers first unsaved keys random (Verify tag body) name bytes outcome is has = let e : Verify tag body ≡ Save name outcome = is in absurd cc
file_of form answers first unsaved keys random (Derive size input) name bytes outcome is has = let e : Derive size input ≡ Save name outcome = is in absurd cc
file_of form answers first unsaved keys random (Edit edit) name bytes outcome is has = let e : Edit edit ≡ Save name outcome = is in absurd cc
file_of form answers first unsaved keys random (Bad why) name bytes outcome is has = let e : Bad why ≡ Save name outcome = is in absurd cc

pub saves_are_before : SavesAreBefore
saves_are_before table form answers before unsaved keys lines random i t name bytes outcome at is has =
    let r = resolved_at table form answers before unsaved keys lines random i t at in
    (take (iv_drawn form t.before) r.random, file_of form answers r.first r.unsaved t.before r.random r.line name bytes outcome (sym r.is ∙ is) has)

-- ---- more random bytes behind

resolved_more : (table : Table) (form : Form) (answers : StoreAnswers) (before : List FileAsked) (unsaved : Bool) (keys : Keys) (line : Line) (random more : List ℕ) (s : Served) → serve table keys (resolved form answers before unsaved keys random line) random ≡ Some s
    → resolved form answers before unsaved keys (random ++ more) line ≡ resolved form answers before unsaved keys random line
resolved_more table form answers before unsaved keys (Save name outcome) random more s e =
    let saved = outcome_of form keys random (answers before name) in
    ap (Save name) (same_outcome form keys random more (answers before name)
    (save_reaches table form unsaved keys name random (answers before name) (with_files unsaved (Save name saved) s) (ap (option_map (with_files unsaved (Save name saved))) e)))
resolved_more table form answers before unsaved keys (Seal plain ad) random more s e = refl
resolved_more table form answers before unsaved keys (Dseal plain ad) random more s e = refl
resolved_more table form answers before unsaved keys (Open sealed ad) random more s e = refl
resolved_more table form answers before unsaved keys (Dopen sealed ad) random more s e = refl
resolved_more table form answers before unsaved keys (Reseal sealed ad) random more s e = refl
resolved_more table form answers before unsaved keys (Dreseal sealed ad) random more s e = refl
resolved_more table form answers before unsaved keys (Tag body) random more s e = refl
resolved_more table form answers before unsaved keys (Verify tag body) random more s e = refl
resolved_more table form answers before unsaved keys (Derive size input) random more s e = refl
resolved_more table form answers before unsaved keys (Edit edit) random more s e = refl
resolved_more table form answers before unsaved keys (Bad why) random more s e = refl

-- lines that are all answered are resolved by the random bytes that they draw
pub lines_more : (table : Table) (form : Form) (answers : StoreAnswers) (before : List FileAsked) (unsaved : Bool) (keys : Keys) (lines : List Line) (random more : List ℕ) (last : Remains)
    → remains table keys (lines_by table (resolved form answers) before unsaved keys lines random) random ≡ Some last
    → lines_by table (resolved form answers) before unsaved keys lines (random ++ more) ≡ lines_by table (resolved form answers) before unsaved keys lines random
unfolding remains lines_by
lines_more table form answers before unsaved keys [] random more last e = refl
lines_more table form answers before unsaved keys (line ∷ later) random more last e =
    by (λ y k. lines_more table form answers (before ++ files_of l) (unsaved_after unsaved l y.reply) y.keys later y.left more last k) (serve table keys l random) refl e
  where
    l : Line
    l = resolved form answers before unsaved keys random line

    over : Served → List Line
    over y = lines_by table (resolved form answers) (before ++ files_of l) (unsaved_after unsaved l y.reply) y.keys later y.left

    by : ((y : Served) → remains table y.keys (over y) y.left ≡ Some last → lines_by table (resolved form answers) (before ++ files_of l) (unsaved_after unsaved l y.reply) y.keys later (y.left ++ more) ≡ over y)
        → (o : Option Served) → serve table keys l random ≡ o → option_and_then (λ y. remains table y.keys (lines_then later o over) y.left) o ≡ Some last
        → lines_by table (resolved form answers) before unsaved keys (line ∷ later) (random ++ more) ≡ l ∷ lines_then later o over
    by behind None t k = clash k
    by behind (Some s) t k =
        ap (λ x. x ∷ lines_then later (serve table keys x (random ++ more)) (λ y. lines_by table (resolved form answers) (before ++ files_of x) (unsaved_after unsaved x y.reply) y.keys later y.left)) (resolved_more table form answers before unsaved keys line random more s t)
        ∙ ap (λ o. l ∷ lines_then later o over) (serve_more table keys l random more s t)
        ∙ ap (λ ls. l ∷ ls) (behind s k)
