-- The lines of a session, as they are resolved, and their turns.
use Rattle.std.proofs.Common.{◌≡◌, ◌≢◌, ◌⊎◌, ◌∙◌, inl, inr, sym, refl, ap, subst, ℕ, zero, suc, Bool, true, false, List, [], ◌∷◌, ◌++◌, length, take, map as each, Option, Some, None, append_assoc, append-nil}
use Rattle.std.specs.Prelude.{◌&&◌, if◌then◌else◌, slice_get}
use Rattle.std.specs.List.{flat_map}
use Rattle.std.specs.Option.{option_and_then}
use Rattle.std.proofs.lemmas.List.Concat.{flat_map-cons}
use Rattle.std.proofs.lemmas.Option.{same_Some}
use Rattle.keyset_model.specs.Keyset.{Keys}
use Rattle.managers.specs.Table.{Table}
use Rattle.tinkey_session.proofs.Options.{clash}
use Rattle.tinkey_session.specs.Lines.{Line, Seal, Dseal, Open, Dopen, Reseal, Dreseal, Tag, Verify, Derive, Edit, Save, Bad, Outcome, line_of}
use Rattle.tinkey_session.specs.Saving.{FileAsked, Form, StoreAnswers, files_of, makes, name_saved, resolved, unless_unsaved}
use Rattle.tinkey_session.specs.Serving.{Served, serve}
use Rattle.tinkey_session.specs.Session.{Turn, lines_by, lines_then, remains, turn_then, turns}
use Rattle.tinkey_session.specs.Talking.{unsaved_after}
use Rattle.tinkey_session.specs.declared.reply.LineRefusal.{LineRefusal}
use Rattle.tinkey_session.specs.declared.reply.LineRefusal.TheVariants.{NotSaved}
use Rattle.tinkey_readable.specs.LineRuns.{asks}
use Rattle.tinkey_words.specs.Words.{AskedWork, to_seal, to_open, to_dseal, to_dopen, to_reseal, to_dreseal, to_tag, to_verify, to_derive}

-- ---- lines that save, and others

-- it is as it was, or is refused
unless_or : (refuses : Bool) (line : Line) → (unless_unsaved refuses line ≡ line) ⊎ (unless_unsaved refuses line ≡ Bad NotSaved)
unless_or refuses line = by (makes line && refuses)
  where
    by : (b : Bool) → ((if b then Bad NotSaved else line) ≡ line) ⊎ ((if b then Bad NotSaved else line) ≡ Bad NotSaved)
    by true = inr refl
    by false = inl refl

-- The line stays as it is read, or is refused since the keyset isn't saved; and it asks for no file.
pub record AsksNoFile (line : Line) : Type 0 where
  pub same : (form : Form) (answers : StoreAnswers) (first : List FileAsked) (unsaved : Bool) (keys : Keys) (random : List ℕ)
      → (resolved form answers first unsaved keys random line ≡ line) ⊎ (resolved form answers first unsaved keys random line ≡ Bad NotSaved)
  pub none : (form : Form) (answers : StoreAnswers) (first : List FileAsked) (unsaved : Bool) (keys : Keys) (random : List ℕ) → files_of (resolved form answers first unsaved keys random line) ≡ []
  pub unnamed : (form : Form) (answers : StoreAnswers) (first : List FileAsked) (unsaved : Bool) (keys : Keys) (random : List ℕ) → name_saved (resolved form answers first unsaved keys random line) ≡ None

asks_none : {line : Line} → ((form : Form) (answers : StoreAnswers) (first : List FileAsked) (unsaved : Bool) (keys : Keys) (random : List ℕ) → resolved form answers first unsaved keys random line ≡ unless_unsaved (form.saved_only && unsaved) line) → files_of line ≡ [] → name_saved line ≡ None
    → ((name : List ℕ) × (outcome : Outcome) × (line ≡ Save name outcome)) ⊎ AsksNoFile line
asks_none {line} is none unnamed = inr (record {
  same = λ form answers first unsaved keys random. subst (λ l. (l ≡ line) ⊎ (l ≡ Bad NotSaved)) (sym (is form answers first unsaved keys random)) (unless_or (form.saved_only && unsaved) line);
  none = λ form answers first unsaved keys random. ap files_of (is form answers first unsaved keys random) ∙ of_either (form.saved_only && unsaved) files_of [] none refl (unless_or (form.saved_only && unsaved) line);
  unnamed = λ form answers first unsaved keys random. ap name_saved (is form answers first unsaved keys random) ∙ of_either (form.saved_only && unsaved) name_saved None unnamed refl (unless_or (form.saved_only && unsaved) line);
})
  where
    of_either : {A : Type 0} (refuses : Bool) (f : Line → A) (a : A) → f line ≡ a → f (Bad NotSaved) ≡ a → (unless_unsaved refuses line ≡ line) ⊎ (unless_unsaved refuses line ≡ Bad NotSaved) → f (unless_unsaved refuses line) ≡ a
    of_either refuses f a here refused (inl e) = ap f e ∙ here
    of_either refuses f a here refused (inr e) = ap f e ∙ refused

pub saves_or_not : (line : Line) → ((name : List ℕ) × (outcome : Outcome) × (line ≡ Save name outcome)) ⊎ AsksNoFile line
saves_or_not (Save name outcome) = inl (name, outcome, refl)
saves_or_not (Seal plain ad) = asks_none (λ form answers first unsaved keys random. refl) refl refl
saves_or_not (Dseal plain ad) = asks_none (λ form answers first unsaved keys random. refl) refl refl
saves_or_not (Open sealed ad) = asks_none (λ form answers first unsaved keys random. refl) refl refl
saves_or_not (Dopen sealed ad) = asks_none (λ form answers first unsaved keys random. refl) refl refl
saves_or_not (Reseal sealed ad) = asks_none (λ form answers first unsaved keys random. refl) refl refl
saves_or_not (Dreseal sealed ad) = asks_none (λ form answers first unsaved keys random. refl) refl refl
saves_or_not (Tag body) = asks_none (λ form answers first unsaved keys random. refl) refl refl
saves_or_not (Verify tag body) = asks_none (λ form answers first unsaved keys random. refl) refl refl
saves_or_not (Derive size input) = asks_none (λ form answers first unsaved keys random. refl) refl refl
saves_or_not (Edit edit) = asks_none (λ form answers first unsaved keys random. refl) refl refl
saves_or_not (Bad why) = asks_none (λ form answers first unsaved keys random. refl) refl refl

-- ---- the line of a turn

-- it is a line, resolved by what the lines before it left and asked for, and answered
pub record LineThere (table : Table) (form : Form) (answers : StoreAnswers) (before : List FileAsked) (unsaved : Bool) (keys : Keys) (lines : List Line) (random : List ℕ) (i : ℕ) (t : Turn) : Type 0 where
  pub line : Line
  pub at : slice_get lines i ≡ Some line
  pub front : List Line
  pub rest : List Line
  pub split : lines_by table (resolved form answers) before unsaved keys lines random ≡ front ++ t.line ∷ rest
  pub unsaved' : Bool
  pub left : List ℕ
  pub goes : remains table keys front random ≡ Some (record { keys = t.before; left = left })
  pub is : t.line ≡ resolved form answers (before ++ flat_map files_of front) unsaved' t.before left line
  pub served : Served
  pub serves : serve table t.before t.line left ≡ Some served
  pub reply : t.reply ≡ served.reply

pub line_there : (table : Table) (form : Form) (answers : StoreAnswers) (before : List FileAsked) (unsaved : Bool) (keys : Keys) (lines : List Line) (random : List ℕ) (i : ℕ) (t : Turn)
    → slice_get (turns table keys (lines_by table (resolved form answers) before unsaved keys lines random) random) i ≡ Some t → LineThere table form answers before unsaved keys lines random i t
unfolding turns lines_by remains
line_there table form answers before unsaved keys [] random i t e = clash e
line_there table form answers before unsaved keys (line ∷ later) random i t e = by (λ x j k. line_there table form answers (before ++ files_of l) (unsaved_after unsaved l x.reply) x.keys later x.left j t k) i (serve table keys l random) refl e
  where
    l : Line
    l = resolved form answers before unsaved keys random line

    over : Served → List Line
    over x = lines_by table (resolved form answers) (before ++ files_of l) (unsaved_after unsaved l x.reply) x.keys later x.left

    next : Served → List Line → List Turn
    next x lines = turns table x.keys lines x.left

    by : ((x : Served) (j : ℕ) → slice_get (next x (over x)) j ≡ Some t → LineThere table form answers (before ++ files_of l) (unsaved_after unsaved l x.reply) x.keys later x.left j t)
        → (i : ℕ) (o : Option Served) → serve table keys l random ≡ o → slice_get (turn_then keys l o (λ x. next x (lines_then later o over))) i ≡ Some t
        → LineThere table form answers before unsaved keys (line ∷ later) random i t
    by behind i None s k = clash k
    by behind zero (Some x) s k = subst (LineThere table form answers before unsaved keys (line ∷ later) random zero) (same_Some _ _ k) (record {
      line = line;
      at = refl;
      front = [];
      rest = over x;
      unsaved' = unsaved;
      split = ap (λ o. l ∷ lines_then later o over) s;
      left = random;
      goes = refl;
      is = ap (λ first. resolved form answers first unsaved keys random line) (sym (append-nil before));
      served = x;
      serves = s;
      reply = refl;
    })
    by behind (suc i) (Some x) s k =
        let r = behind x i k in
        record {
          line = r.line;
          at = r.at;
          front = l ∷ r.front;
          rest = r.rest;
          unsaved' = r.unsaved';
          split = ap (λ o. l ∷ lines_then later o over) s ∙ ap (λ lines. l ∷ lines) r.split;
          left = r.left;
          goes = ap (option_and_then (λ (y : Served). remains table y.keys r.front y.left)) s ∙ r.goes;
          is = r.is ∙ ap (λ first. resolved form answers first r.unsaved' t.before r.left r.line) (append_assoc before (files_of l) (flat_map files_of r.front) ∙ ap (λ files. before ++ files) (sym (flat_map-cons files_of l r.front)));
          served = r.served;
          serves = r.serves;
          reply = r.reply;
        }

-- ---- a line that asks for work

name_asked : (work : AskedWork) (input : List ℕ) → name_saved (asks work input) ≡ None
name_asked (to_seal ad) input = refl
name_asked (to_open ad) input = refl
name_asked (to_dseal ad) input = refl
name_asked (to_dopen ad) input = refl
name_asked (to_reseal ad) input = refl
name_asked (to_dreseal ad) input = refl
name_asked to_tag input = refl
name_asked (to_verify tag) input = refl
name_asked (to_derive size) input = refl

-- it isn't refused as it is read
asks_well : (work : AskedWork) (input : List ℕ) (why : LineRefusal) → asks work input ≢ Bad why
asks_well (to_seal ad) input why e = cc
asks_well (to_open ad) input why e = cc
asks_well (to_dseal ad) input why e = cc
asks_well (to_dopen ad) input why e = cc
asks_well (to_reseal ad) input why e = cc
asks_well (to_dreseal ad) input why e = cc
asks_well to_tag input why e = cc
asks_well (to_verify tag) input why e = cc
asks_well (to_derive size) input why e = cc

-- it is as it was read
pub work_read : (form : Form) (answers : StoreAnswers) (first : List FileAsked) (unsaved : Bool) (keys : Keys) (random : List ℕ) (line : Line) (work : AskedWork) (input : List ℕ) → resolved form answers first unsaved keys random line ≡ asks work input → line ≡ asks work input
work_read form answers first unsaved keys random line work input is = elim (saves_or_not line) [
  | inl save ↦ clash (sym (name_asked work input) ∙ ap name_saved (sym is ∙ ap (resolved form answers first unsaved keys random) save.2))
  | inr other ↦ elim (other.same form answers first unsaved keys random) [
    | inl same ↦ sym same ∙ is
    | inr refused ↦ absurd (asks_well work input NotSaved (sym is ∙ refused))
  ]
]

-- ---- more lines

-- the turns of the first lines are there with more lines behind them
pub turns_front : (table : Table) (form : Form) (answers : StoreAnswers) (before : List FileAsked) (unsaved : Bool) (keys : Keys) (lines later : List Line) (random : List ℕ) (i : ℕ) (t : Turn)
    → slice_get (turns table keys (lines_by table (resolved form answers) before unsaved keys lines random) random) i ≡ Some t
    → slice_get (turns table keys (lines_by table (resolved form answers) before unsaved keys (lines ++ later) random) random) i ≡ Some t
unfolding turns lines_by
turns_front table form answers before unsaved keys [] later random i t e = clash e
turns_front table form answers before unsaved keys (line ∷ lines) later random i t e = by (λ x j k. turns_front table form answers (before ++ files_of l) (unsaved_after unsaved l x.reply) x.keys lines later x.left j t k) i (serve table keys l random) e
  where
    l : Line
    l = resolved form answers before unsaved keys random line

    over : List Line → Served → List Line
    over ls x = lines_by table (resolved form answers) (before ++ files_of l) (unsaved_after unsaved l x.reply) x.keys ls x.left

    next : List Line → Option Served → Served → List Turn
    next ls o x = turns table x.keys (lines_then ls o (over ls)) x.left

    by : ((x : Served) (j : ℕ) → slice_get (turns table x.keys (over lines x) x.left) j ≡ Some t → slice_get (turns table x.keys (over (lines ++ later) x) x.left) j ≡ Some t)
        → (i : ℕ) (o : Option Served) → slice_get (turn_then keys l o (next lines o)) i ≡ Some t → slice_get (turn_then keys l o (next (lines ++ later) o)) i ≡ Some t
    by behind i None k = clash k
    by behind zero (Some x) k = k
    by behind (suc i) (Some x) k = behind x i k

-- the lines of the answered texts are the first ones
pub front_lines : (answered later : List (List ℕ)) (n : ℕ) → n ≡ length answered → take n (each line_of (answered ++ later)) ≡ each line_of answered
front_lines answered later n is = ap (λ m. take m (each line_of (answered ++ later))) is ∙ by answered
  where
    by : (answered : List (List ℕ)) → take (length answered) (each line_of (answered ++ later)) ≡ each line_of answered
    by [] = refl
    by (line ∷ lines) = ap (λ ls. line_of line ∷ ls) (by lines)
