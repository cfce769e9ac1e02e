-- What the lines of a session write, in clear or under a master.
use Rattle.std.proofs.Common.{◌≡◌, ◌∙◌, inl, inr, sym, refl, ap, subst, ℕ, ◌≤◌, Bool, true, false, List, [], ◌∷◌, ◌++◌, length, take, drop, Option, Some, None, Result, Ok, Err}
use Rattle.std.specs.Prelude.{nat_le, nat_lt, if◌then◌else◌}
use Rattle.std.specs.List.{AllByRecursion, Contains, flat_map}
use Rattle.std.specs.Option.{option_and_then}
use Rattle.std.proofs.lemmas.Bool.{leb-true}
use Rattle.std.proofs.lemmas.Grind.{flat_map-append}
use Rattle.std.proofs.lemmas.List.Concat.{flat_map-cons}
use Rattle.std.proofs.lemmas.Option.{same_Some}
use Rattle.keyset_model.specs.Keyset.{Keys}
use Rattle.keyset_model.specs.Writing.{binary_of}
use Rattle.managers.specs.Table.{Table}
use Rattle.seal_wrap.specs.Wrapped.{Wrapped, wrap_of}
use Rattle.tinkey_cmds.proofs.Among.{Among}
use Rattle.tinkey_session.proofs.Options.{clash}
use Rattle.tinkey_session.proofs.TurnLemmas.{edited_on, serve_edits}
use Rattle.tinkey_session.specs.Laws.{IsEdited}
use Rattle.tinkey_session.specs.Lines.{Line, Outcome, Save}
use Rattle.tinkey_session.specs.Saving.{FileAsked, Form, StoreAnswers, file_asked, files_of, iv_drawn, name_saved, outcome_of, resolved, why_of, written_by}
use Rattle.tinkey_session.specs.Serving.{Served, answered, drawn_size, saved_reply, serve}
use Rattle.tinkey_session.specs.Session.{Remains, Turn, lines_by, lines_then, remains}
use Rattle.tinkey_session.specs.Talking.{unsaved_after}
use Rattle.tinkey_session.specs.declared.reply.LineRefusal.{LineRefusal}
use Rattle.tinkey_session.specs.declared.reply.LineRefusal.TheVariants.{KeysetTooLong}
use Rattle.tinkey_session.specs.declared.reply.Reply.TheVariants.{Done}
use Rattle.std.specs.Result.{result_ok}
use Rattle.tinkey_plans.proofs.NamingLemmas.{among-contains}
use Rattle.tinkey_plans.specs.Session.{file_within, form_under, is_short, wrapped_within}
use Rattle.tinkey_plans.specs.Steps.{keyset_limit, written_in}
use Rattle.tinkey_plans.specs.Wrapping.{is_json, wrapped_limit}
use Rattle.tinkey_readable.proofs.RunLemmas.{each_of, no_edits}
use Rattle.tinkey_readable.proofs.SessionLineLemmas.{LineThere, saves_or_not}
use Rattle.tinkey_words.specs.declared.words.rows.Format.{Format}

-- ---- one file

same_bytes : (a b : List ℕ) → ◌≡◌ {A = Result (List ℕ) LineRefusal} (Ok a) (Ok b) → a ≡ b
same_bytes a b e = cc

within_file : (limit : ℕ) (text bytes : List ℕ) → file_within limit text ≡ Ok bytes → (text ≡ bytes) × (length text ≤ limit)
within_file limit text bytes is = by (nat_le (length text) limit) refl is
  where
    by : (b : Bool) → nat_le (length text) limit ≡ b → ◌≡◌ {A = Result (List ℕ) LineRefusal} (if b then Ok text else Err KeysetTooLong) (Ok bytes) → (text ≡ bytes) × (length text ≤ limit)
    by true at is = (same_bytes text bytes is, leb-true (length text) limit at)
    by false at is = absurd cc

-- in clear
pub written_clear : (table : Table) (form : Format) (keys : Keys) (iv bytes : List ℕ) → (form_under table None form).written keys iv ≡ Ok bytes → (written_in form keys ≡ bytes) × (length (written_in form keys) ≤ keyset_limit)
written_clear table form keys iv bytes is = within_file keyset_limit (written_in form keys) bytes is

-- under a master
pub record WrittenUnder (table : Table) (over : Keys) (form : Format) (keys : Keys) (iv bytes : List ℕ) : Type 0 where
  pub short : length (binary_of keys) ≤ keyset_limit
  pub wrapped : Wrapped
  pub is : wrap_of keys over table iv (is_json form) ≡ Some wrapped
  pub text : wrapped.text ≡ bytes
  pub within : length wrapped.text ≤ wrapped_limit

pub written_under : (table : Table) (over : Keys) (form : Format) (keys : Keys) (iv bytes : List ℕ) → (form_under table (Some over) form).written keys iv ≡ Ok bytes → WrittenUnder table over form keys iv bytes
written_under table over form keys iv bytes is = by (is_short keys) refl is
  where
    by_wrapped : length (binary_of keys) ≤ keyset_limit → (o : Option Wrapped) → wrap_of keys over table iv (is_json form) ≡ o → wrapped_within o ≡ Ok bytes → WrittenUnder table over form keys iv bytes
    by_wrapped short None at is = absurd cc
    by_wrapped short (Some w) at is = let f = within_file wrapped_limit w.text bytes is in record { short = short; wrapped = w; is = at; text = f.0; within = f.1 }

    by : (b : Bool) → is_short keys ≡ b → ◌≡◌ {A = Result (List ℕ) LineRefusal} (if b then wrapped_within (wrap_of keys over table iv (is_json form)) else Err KeysetTooLong) (Ok bytes) → WrittenUnder table over form keys iv bytes
    by true at is = by_wrapped (leb-true (length (binary_of keys)) keyset_limit at) (wrap_of keys over table iv (is_json form)) refl is
    by false at is = absurd cc

-- ---- the files of a session

-- the file is a keyset after some edits, written in the form with some IV
pub record WasWritten (form : Form) (keys : Keys) (a : FileAsked) : Type 0 where
  pub saved : Keys
  pub edited : IsEdited keys saved
  pub iv : List ℕ
  pub is : form.written saved iv ≡ Ok a.bytes

save_written : (form : Form) (answers : StoreAnswers) (before : List FileAsked) (unsaved : Bool) (keys : Keys) (random : List ℕ) (name : List ℕ) (outcome : Outcome) → AllByRecursion (WasWritten form keys) (files_of (resolved form answers before unsaved keys random (Save name outcome)))
save_written form answers before unsaved keys random name outcome = by (written_by form keys random) refl
  where
    by : (w : Result (List ℕ) LineRefusal) → written_by form keys random ≡ w → AllByRecursion (WasWritten form keys) (file_asked name (why_of (answers before name) w) (result_ok w))
    by (Ok bytes) is = (record { saved = keys; edited = no_edits keys; iv = take (iv_drawn form keys) random; is = is }, tt)
    by (Err why) is = tt

line_written : (form : Form) (answers : StoreAnswers) (before : List FileAsked) (unsaved : Bool) (keys : Keys) (random : List ℕ) (line : Line) → AllByRecursion (WasWritten form keys) (files_of (resolved form answers before unsaved keys random line))
line_written form answers before unsaved keys random line = elim (saves_or_not line) [
  | inl save ↦ subst (λ l. AllByRecursion (WasWritten form keys) (files_of (resolved form answers before unsaved keys random l))) (sym save.2) (save_written form answers before unsaved keys random save.0 save.1)
  | inr other ↦ subst (AllByRecursion (WasWritten form keys)) (sym (other.none form answers before unsaved keys random)) tt
]

all_both : {A : Type 0} (P : A → Type 0) (xs ys : List A) → AllByRecursion P xs → AllByRecursion P ys → AllByRecursion P (xs ++ ys)
all_both P [] ys first later = later
all_both P (x ∷ xs) ys first later = (first.0, all_both P xs ys first.1 later)

lines_written : (table : Table) (form : Form) (answers : StoreAnswers) (before : List FileAsked) (unsaved : Bool) (keys : Keys) (lines : List Line) (random : List ℕ) (last : Remains)
    → remains table keys (lines_by table (resolved form answers) before unsaved keys lines random) random ≡ Some last
    → AllByRecursion (WasWritten form keys) (flat_map files_of (lines_by table (resolved form answers) before unsaved keys lines random))
unfolding remains lines_by
lines_written table form answers before unsaved keys [] random last e = tt
lines_written table form answers before unsaved keys (line ∷ later) random last e = by (λ y k. lines_written table form answers (before ++ files_of l) (unsaved_after unsaved l y.reply) y.keys later y.left last k) (serve table keys l random) refl e
  where
    l : Line
    l = resolved form answers before unsaved keys random line

    over : Served → List Line
    over y = lines_by table (resolved form answers) (before ++ files_of l) (unsaved_after unsaved l y.reply) y.keys later y.left

    by : ((y : Served) → remains table y.keys (over y) y.left ≡ Some last → AllByRecursion (WasWritten form y.keys) (flat_map files_of (over y)))
        → (o : Option Served) → serve table keys l random ≡ o → option_and_then (λ y. remains table y.keys (lines_then later o over) y.left) o ≡ Some last
        → AllByRecursion (WasWritten form keys) (flat_map files_of (l ∷ lines_then later o over))
    by behind None t k = clash k
    by behind (Some s) t k =
        subst (AllByRecursion (WasWritten form keys)) (sym (flat_map-cons files_of l (over s)))
        (all_both (WasWritten form keys) (files_of l) (flat_map files_of (over s)) (line_written form answers before unsaved keys random line)
        (each_of (flat_map files_of (over s)) (λ a w. record { saved = w.saved; edited = edited_on keys s.keys w.saved (serve_edits table keys l random s t) w.edited; iv = w.iv; is = w.is }) (behind s k)))

each_among : {A : Type 0} (P : A → Type 0) (xs : List A) (x : A) → AllByRecursion P xs → Among x xs → P x
each_among P [] x all among = absurd among
each_among P (y ∷ ys) x all (inl is) = subst P is all.0
each_among P (y ∷ ys) x all (inr later) = each_among P ys x all.1 later

-- each file that lines ask for was written so
pub asked_written : (table : Table) (form : Form) (answers : StoreAnswers) (keys : Keys) (lines : List Line) (random : List ℕ) (last : Remains) (asked : List FileAsked) (a : FileAsked)
    → remains table keys (lines_by table (resolved form answers) [] false keys lines random) random ≡ Some last
    → asked ≡ flat_map files_of (lines_by table (resolved form answers) [] false keys lines random) → Contains asked a → WasWritten form keys a
asked_written table form answers keys lines random last asked a e same there =
    each_among (WasWritten form keys) asked a (subst (AllByRecursion (WasWritten form keys)) (sym same) (lines_written table form answers [] false keys lines random last e)) (among-contains asked a there)

-- ---- a save that was answered ok

-- it was refused for nothing
why_none : (why : Option LineRefusal) → saved_reply why ≡ Done → why ≡ None
why_none None e = refl
why_none (Some why) e = absurd cc

reply_none : (table : Table) (keys : Keys) (random : List ℕ) (name : List ℕ) (outcome : Outcome) (x : Served) → serve table keys (Save name outcome) random ≡ Some x → Done ≡ x.reply → outcome.why ≡ None
unfolding serve
reply_none table keys random name outcome x e reply = by (nat_lt (length random) (drawn_size outcome)) e
  where
    by : (few : Bool) → (if few then None else Some (answered keys (drop (drawn_size outcome) random) (saved_reply outcome.why))) ≡ Some x → outcome.why ≡ None
    by true e = clash e
    by false e = why_none outcome.why (ap (λ (y : Served). y.reply) (same_Some _ _ e) ∙ sym reply)

-- so it was written, and its name was free
record SavedSo (form : Form) (answers : StoreAnswers) (first : List FileAsked) (keys : Keys) (random : List ℕ) (name : List ℕ) (outcome : Outcome) : Type 0 where
  bytes : List ℕ
  written : written_by form keys random ≡ Ok bytes
  free : answers first name ≡ None
  file : outcome.file ≡ Some bytes

save_so : (form : Form) (answers : StoreAnswers) (first : List FileAsked) (unsaved : Bool) (keys : Keys) (random : List ℕ) (other : List ℕ) (o : Outcome) (name : List ℕ) (outcome : Outcome) → Save name outcome ≡ resolved form answers first unsaved keys random (Save other o) → outcome.why ≡ None → SavedSo form answers first keys random name outcome
save_so form answers first unsaved keys random other o name outcome is why =
    let e : Save name outcome ≡ Save other (outcome_of form keys random (answers first other)) = is in
    let same_name : other ≡ name = cc in
    let same : outcome ≡ outcome_of form keys random (answers first other) = cc in
    by same_name same (written_by form keys random) refl
  where
    by : other ≡ name → outcome ≡ outcome_of form keys random (answers first other) → (w : Result (List ℕ) LineRefusal) → written_by form keys random ≡ w → SavedSo form answers first keys random name outcome
    by same_name same (Ok bytes) is = record {
      bytes = bytes;
      written = is;
      free = ap (answers first) (sym same_name) ∙ ap (why_of (answers first other)) (sym is) ∙ ap (λ x. x.why) (sym same) ∙ why;
      file = ap (λ x. x.file) same ∙ ap result_ok is;
    }
    by same_name same (Err refusal) is = clash (sym why ∙ ap (λ x. x.why) same ∙ ap (why_of (answers first other)) is)

saved_so : (form : Form) (answers : StoreAnswers) (first : List FileAsked) (unsaved : Bool) (keys : Keys) (random : List ℕ) (line : Line) (name : List ℕ) (outcome : Outcome) → Save name outcome ≡ resolved form answers first unsaved keys random line → outcome.why ≡ None → SavedSo form answers first keys random name outcome
saved_so form answers first unsaved keys random line name outcome is why = elim (saves_or_not line) [
  | inl save ↦ save_so form answers first unsaved keys random save.0 save.1 name outcome (is ∙ ap (resolved form answers first unsaved keys random) save.2) why
  | inr other ↦ clash (sym (other.unnamed form answers first unsaved keys random) ∙ ap name_saved (sym is))
]

-- the file that it asks for
abbrev pub made_file : (name bytes : List ℕ) → FileAsked
made_file name bytes = record { name = name; bytes = bytes; why = None }

one_file : (name bytes : List ℕ) (outcome : Outcome) → outcome.why ≡ None → outcome.file ≡ Some bytes → files_of (Save name outcome) ≡ made_file name bytes ∷ []
one_file name bytes outcome why file = ap (λ w. file_asked name w outcome.file) why ∙ ap (file_asked name None) file

-- what it saved, and the file that it asked for, among those of all lines
pub record SavedAt (table : Table) (form : Form) (answers : StoreAnswers) (keys : Keys) (lines : List Line) (random : List ℕ) (saved : Keys) (name : List ℕ) : Type 0 where
  pub front : List Line
  pub left : List ℕ
  pub goes : remains table keys front random ≡ Some (record { keys = saved; left = left })
  pub bytes : List ℕ
  pub written : written_by form saved left ≡ Ok bytes
  pub first : List FileAsked
  pub later : List FileAsked
  pub split : flat_map files_of (lines_by table (resolved form answers) [] false keys lines random) ≡ first ++ made_file name bytes ∷ later

pub saved_at : (table : Table) (form : Form) (answers : StoreAnswers) (keys : Keys) (lines : List Line) (random : List ℕ) (i : ℕ) (t : Turn) (name : List ℕ) (outcome : Outcome)
    → LineThere table form answers [] false keys lines random i t → t.line ≡ Save name outcome → t.reply ≡ Done → SavedAt table form answers keys lines random t.before name
saved_at table form answers keys lines random i t name outcome p line reply =
    let why = reply_none table t.before p.left name outcome p.served (subst (λ asked. serve table t.before asked p.left ≡ Some p.served) line p.serves) (sym reply ∙ p.reply) in
    let s = saved_so form answers (flat_map files_of p.front) p.unsaved' t.before p.left p.line name outcome (sym line ∙ p.is) why in
    let later = flat_map files_of p.rest in
    record {
      front = p.front;
      left = p.left;
      goes = p.goes;
      bytes = s.bytes;
      written = s.written;
      first = flat_map files_of p.front;
      later = later;
      split = ap (flat_map files_of) p.split ∙ flat_map-append files_of p.front (t.line ∷ p.rest)
          ∙ ap (λ l. flat_map files_of p.front ++ l) (flat_map-cons files_of t.line p.rest ∙ ap (λ l. files_of l ++ later) line ∙ ap (λ l. l ++ later) (one_file name s.bytes outcome why s.file));
    }
