-- What answering a line says of it in a session that saves.
use Rattle.std.proofs.Common.{◌≡◌, ◌∙◌, refl, sym, ap, ℕ, ◌<◌, cond, true, false, Bool, List, [], ◌++◌, length, drop, Option, Some, None, Result, Ok, Err, arith, option_map}
use Rattle.std.specs.Prelude.{◌&&◌, if◌then◌else◌}
use Rattle.std.specs.Result.{result_ok}
use Rattle.std.proofs.lemmas.Bool.{lt-ltb}
use Rattle.std.proofs.lemmas.List.{take_all}
use Rattle.std.proofs.lemmas.Option.{same_Some}
use Rattle.keyset_model.specs.Keyset.{Keys}
use Rattle.managers.specs.Table.{Table}
use Rattle.tink_spec.specs.Files.{StoreState, Added, HoldsSome, KeptFiles, MayAdd}
use Rattle.tink_spec.specs.Outside.{EntropyState, Rose, Stood}
use Rattle.tinkey_session.proofs.DrawLemmas.{saved-more}
use Rattle.tinkey_session.proofs.Options.{clash}
use Rattle.tinkey_session.proofs.TalkLemmas.{same_outcome}
use Rattle.tinkey_session.specs.Answered.{IsAnswered, IsUnanswered, Serves}
use Rattle.tinkey_session.specs.Lines.{Line, Seal, Dseal, Open, Dopen, Reseal, Dreseal, Tag, Verify, Derive, Edit, Save, Outcome, Bad, line_of}
use Rattle.tinkey_session.specs.Saving.{Agrees, FileAsked, failed, made, there, Form, StoreAnswers, file_asked, files_of, iv_drawn, makes, name_saved, outcome_of, resolved, unless_unsaved, why_of, written_by}
use Rattle.tinkey_session.specs.Serving.{answered, drawn_size, saved_reply, serve}
use Rattle.tinkey_session.specs.Talking.{gives, saving, unsaved_after, unsaved_by_save, with_files}
use Rattle.tinkey_session.specs.Texts.{reply_text}
use Rattle.tinkey_session.specs.Writing.{IsSaved, IsUnsaved, Unwrote, Wrote}
use Rattle.tinkey_session.specs.declared.reply.LineRefusal.{LineRefusal}
use Rattle.tinkey_session.specs.declared.reply.LineRefusal.TheVariants.{NotSaved, OutputExists, StoreFault}
use Rattle.tinkey_session.specs.declared.reply.Reply.{Reply}
use Rattle.tinkey_session.specs.declared.reply.Reply.TheVariants.{Done, Refuses}
use Rattle.tinkey_session.specs.declared.session.LineFault.{LineFault}
use Rattle.tinkey_session.specs.declared.session.LineFault.TheVariants as line_faults
use Rattle.tinkey_talk.specs.Feeding.{IsReplied, IsUndrawn, IsUnreplied, given}

-- ---- a line that saves nothing

-- it is resolved as it is, or refused while the keyset isn't saved, and asks for no file
record IsPlain (form : Form) (line : Line) : Type 0 where
  same : (answers : StoreAnswers) (first : List FileAsked) (unsaved : Bool) (keys : Keys) (random : List ℕ) → resolved form answers first unsaved keys random line ≡ unless_unsaved (form.saved_only && unsaved) line
  none : files_of line ≡ []

is_plain : (form : Form) (line : Line) → name_saved line ≡ None → IsPlain form line
is_plain form (Save name outcome) e = clash (sym e)
is_plain form (Seal plain ad) e = record { same = λ answers first unsaved keys random. refl; none = refl }
is_plain form (Dseal plain ad) e = record { same = λ answers first unsaved keys random. refl; none = refl }
is_plain form (Open sealed ad) e = record { same = λ answers first unsaved keys random. refl; none = refl }
is_plain form (Dopen sealed ad) e = record { same = λ answers first unsaved keys random. refl; none = refl }
is_plain form (Reseal sealed ad) e = record { same = λ answers first unsaved keys random. refl; none = refl }
is_plain form (Dreseal sealed ad) e = record { same = λ answers first unsaved keys random. refl; none = refl }
is_plain form (Tag body) e = record { same = λ answers first unsaved keys random. refl; none = refl }
is_plain form (Verify tag body) e = record { same = λ answers first unsaved keys random. refl; none = refl }
is_plain form (Derive size input) e = record { same = λ answers first unsaved keys random. refl; none = refl }
is_plain form (Edit edit) e = record { same = λ answers first unsaved keys random. refl; none = refl }
is_plain form (Bad why) e = record { same = λ answers first unsaved keys random. refl; none = refl }

none_refused : (refuses : Bool) (line : Line) → files_of line ≡ [] → files_of (unless_unsaved refuses line) ≡ []
none_refused refuses line none = by (makes line && refuses)
  where
    by : (b : Bool) → files_of (if b then Bad NotSaved else line) ≡ []
    by true = refl
    by false = none

plain_gives : (table : Table) (form : Form) (unsaved : Bool) (keys : Keys) (bytes : List ℕ) (read line : Line) → read ≡ line_of bytes → line ≡ unless_unsaved (form.saved_only && unsaved) read → IsPlain form read → (answers : StoreAnswers) (first : List FileAsked) (random : List ℕ)
    → saving table form answers first unsaved keys bytes random ≡ gives table unsaved keys line random
plain_gives table form unsaved keys bytes read line is-read is-asked is answers first random =
    ap (λ l. gives table unsaved keys (resolved form answers first unsaved keys random l) random) (sym is-read) ∙ ap (λ l. gives table unsaved keys l random) (is.same answers first unsaved keys random ∙ sym is-asked)

pub plain_replied : (table : Table) (form : Form) (unsaved later : Bool) (keys last : Keys) (bytes text : List ℕ) (read line : Line) (reply : Reply) (d e : EntropyState) (s t : StoreState) → read ≡ line_of bytes → name_saved read ≡ None → line ≡ unless_unsaved (form.saved_only && unsaved) read → text ≡ reply_text reply
    → later ≡ unsaved_after unsaved line reply → s ≡ t → IsAnswered (serve table keys line) reply last d e → IsReplied (saving table form) unsaved keys bytes text later last d e s t
plain_replied table form unsaved later keys last bytes text read line reply d e s t is-read other is-asked spelled after still so = let is = is_plain form read other in record {
  reply = reply;
  spelled = spelled;
  drawn = so.drawn;
  drew = so.drew;
  stood = so.stood;
  asked = [];
  asks = still;
  is = λ answers first agrees more.
      plain_gives table form unsaved keys bytes read line is-read is-asked is answers first (so.drawn ++ more)
      ∙ ap (option_map (with_files unsaved line)) (so.is more)
      ∙ ap (λ l. Some (given reply (unsaved_after unsaved line reply) last more l)) (ap files_of is-asked ∙ none_refused (form.saved_only && unsaved) read is.none)
      ∙ ap (λ u. Some (given reply u last more [])) (sym after);
}

pub plain_undrawn : (table : Table) (form : Form) (unsaved : Bool) (keys : Keys) (bytes : List ℕ) (read line : Line) (d e : EntropyState) → read ≡ line_of bytes → name_saved read ≡ None → line ≡ unless_unsaved (form.saved_only && unsaved) read
    → IsUnanswered (serve table keys line) d e → IsUndrawn (saving table form) unsaved keys bytes d e
plain_undrawn table form unsaved keys bytes read line d e is-read other is-asked so = let is = is_plain form read other in record {
  rose = so.rose;
  drawn = so.drawn;
  gone = so.gone;
  undecided = λ answers first. plain_gives table form unsaved keys bytes read line is-read is-asked is answers first so.drawn ∙ ap (option_map (with_files unsaved line)) so.undecided;
}

-- ---- a save

named : (line : Line) (name : List ℕ) → Some name ≡ name_saved line → (outcome : Outcome) × (line ≡ Save name outcome)
named (Save other outcome) name e = (outcome, ap (λ n. Save n outcome) (sym (same_Some name other e)))
named (Seal plain ad) name e = clash (sym e)
named (Dseal plain ad) name e = clash (sym e)
named (Open sealed ad) name e = clash (sym e)
named (Dopen sealed ad) name e = clash (sym e)
named (Reseal sealed ad) name e = clash (sym e)
named (Dreseal sealed ad) name e = clash (sym e)
named (Tag body) name e = clash (sym e)
named (Verify tag body) name e = clash (sym e)
named (Derive size input) name e = clash (sym e)
named (Edit edit) name e = clash (sym e)
named (Bad why) name e = clash (sym e)

-- what becomes of a keyset that is written so
outcome_with : Form → Keys → Result (List ℕ) LineRefusal → Option LineRefusal → Outcome
outcome_with form keys answer why = record { size = form.size keys; why = why_of why answer; file = result_ok answer }

agreed : (form : Form) (keys : Keys) (name : List ℕ) (answers : StoreAnswers) (first : List FileAsked) (answer : Result (List ℕ) LineRefusal) (why : Option LineRefusal)
    → Agrees answers first (file_asked name (why_of why answer) (result_ok answer)) → outcome_with form keys answer (answers first name) ≡ outcome_with form keys answer why
unfolding outcome_with
agreed form keys name answers first (Ok bytes) why agrees = ap (λ w. record { size = form.size keys; why = w; file = Some bytes }) agrees.0
agreed form keys name answers first (Err refusal) why agrees = refl

written_as : (form : Form) (keys : Keys) (answer : Result (List ℕ) LineRefusal) (d e : EntropyState) (w : Wrote form keys answer d e) → written_by form keys w.drawn ≡ answer
written_as form keys answer d e w = ap (form.written keys) (take_all (iv_drawn form keys) w.drawn (omega (arith, w.exact))) ∙ w.is

save_gives : (table : Table) (unsaved : Bool) (keys : Keys) (name drawn more : List ℕ) (outcome : Outcome) → length drawn ≡ drawn_size outcome → gives table unsaved keys (Save name outcome) (drawn ++ more) ≡ Some (given (saved_reply outcome.why) (unsaved_by_save unsaved (saved_reply outcome.why)) keys more (file_asked name outcome.why outcome.file))
unfolding serve
save_gives table unsaved keys name drawn more outcome exact = ap (option_map (with_files unsaved (Save name outcome))) (saved-more keys outcome drawn more exact)

pub save_replied : (table : Table) (form : Form) (unsaved later : Bool) (keys : Keys) (bytes name text : List ℕ) (line : Line) (d e : EntropyState) (s t : StoreState) → line ≡ line_of bytes → Some name ≡ name_saved line
    → IsSaved form keys name text unsaved later d e s t → IsReplied (saving table form) unsaved keys bytes text later keys d e s t
unfolding outcome_with
save_replied table form unsaved later keys bytes name text line d e s t read is so =
    let asks = named line name is in
    let w = so.wrote in
    record {
      reply = saved_reply (why_of so.why so.answer);
      spelled = so.spelled;
      drawn = w.drawn;
      drew = w.drew;
      stood = w.stood;
      asked = file_asked name (why_of so.why so.answer) (result_ok so.answer);
      asks = so.asks;
      is = λ answers first agrees more.
          ap (λ l. gives table unsaved keys (resolved form answers first unsaved keys (w.drawn ++ more) l) (w.drawn ++ more)) (sym read ∙ asks.1)
          ∙ ap (λ o. gives table unsaved keys (Save name o) (w.drawn ++ more))
          (same_outcome form keys w.drawn more (answers first name) (omega (arith, w.exact))
          ∙ ap (λ a. outcome_with form keys a (answers first name)) (written_as form keys so.answer d e w)
          ∙ agreed form keys name answers first so.answer so.why agrees)
          ∙ save_gives table unsaved keys name w.drawn more (outcome_with form keys so.answer so.why) w.exact
          ∙ ap (λ u. Some (given (saved_reply (why_of so.why so.answer)) u keys more (file_asked name (why_of so.why so.answer) (result_ok so.answer))))
          (sym so.after');
    }

short_save : (table : Table) (unsaved : Bool) (keys : Keys) (name random : List ℕ) (outcome : Outcome) → length random < drawn_size outcome → gives table unsaved keys (Save name outcome) random ≡ None
unfolding serve
short_save table unsaved keys name random outcome less = ap (option_map (with_files unsaved (Save name outcome))) (ap (λ b. cond b None (Some (answered keys (drop (drawn_size outcome) random) (saved_reply outcome.why)))) (lt-ltb (length random) (drawn_size outcome) less))

pub save_undrawn : (table : Table) (form : Form) (unsaved : Bool) (keys : Keys) (bytes name : List ℕ) (line : Line) (d e : EntropyState) → line ≡ line_of bytes → Some name ≡ name_saved line
    → Unwrote form keys d e → IsUndrawn (saving table form) unsaved keys bytes d e
save_undrawn table form unsaved keys bytes name line d e read is so = let asks = named line name is in record {
  rose = so.rose;
  drawn = so.drawn;
  gone = so.gone;
  undecided = λ answers first.
      ap (λ l. gives table unsaved keys (resolved form answers first unsaved keys so.drawn l) so.drawn) (sym read ∙ asks.1)
      ∙ short_save table unsaved keys name so.drawn (outcome_of form keys so.drawn (answers first name)) so.fewer;
}

-- ---- what comes of a save

-- a store whose fields are as they were is as it was
pub same_store : (s t : StoreState) → s.files ≡ t.files → t.faults ≡ s.faults → t.given ≡ s.given → t ≡ s
same_store s t files faults given =
    ap (λ x. record t { files = x }) (sym files)
    ∙ ap (λ x. record t { files = s.files; faults = x }) faults
    ∙ ap (λ x. record s { given = x }) given

pub made_saved : (form : Form) (keys : Keys) (name bytes text : List ℕ) (unsaved : Bool) (d e : EntropyState) (s t : StoreState) → Wrote form keys (Ok bytes) d e → text ≡ reply_text Done → Added s t name bytes → Stood s.faults t.faults → t.given ≡ s.given → IsSaved form keys name text unsaved false d e s t
made_saved form keys name bytes text unsaved d e s t wrote spelled added stood given = record { answer = Ok bytes; wrote = wrote; why = None; asks = (t, made refl added stood given, refl); spelled = spelled; after' = refl }

pub exists_saved : (form : Form) (keys : Keys) (name bytes text : List ℕ) (unsaved : Bool) (d e : EntropyState) (s t : StoreState) → Wrote form keys (Ok bytes) d e → text ≡ reply_text (Refuses OutputExists) → KeptFiles s t × HoldsSome s name → Stood s.faults t.faults → t.given ≡ s.given
    → IsSaved form keys name text unsaved unsaved d e s t
exists_saved form keys name bytes text unsaved d e s t wrote spelled found stood given = record {
  answer = Ok bytes;
  wrote = wrote;
  why = Some OutputExists;
  asks = (t, there refl found.1 (sym (same_store s t found.0.files stood given)), refl);
  spelled = spelled;
  after' = refl;
}

pub failed_saved : (form : Form) (keys : Keys) (name bytes text : List ℕ) (unsaved : Bool) (d e : EntropyState) (s t : StoreState) → Wrote form keys (Ok bytes) d e → text ≡ reply_text (Refuses StoreFault) → MayAdd s t name bytes → Rose s.faults t.faults → t.given ≡ s.given
    → IsSaved form keys name text unsaved unsaved d e s t
failed_saved form keys name bytes text unsaved d e s t wrote spelled may rose given = record { answer = Ok bytes; wrote = wrote; why = Some StoreFault; asks = (t, failed refl may rose given, refl); spelled = spelled; after' = refl }

-- ---- why there is no reply

pub save_unreplied : (table : Table) (form : Form) (unsaved : Bool) (keys : Keys) (bytes name : List ℕ) (line : Line) (fault : LineFault) (d e : EntropyState) → line ≡ line_of bytes → Some name ≡ name_saved line
    → IsUnsaved form keys fault d e → IsUnreplied (saving table form) unsaved keys bytes fault d e
save_unreplied table form unsaved keys bytes name line line_faults.EntropyFault d e read is so = save_undrawn table form unsaved keys bytes name line d e read is so
save_unreplied table form unsaved keys bytes name line line_faults.NoMemory d e read is so = so

pub plain_unreplied : (table : Table) (form : Form) (unsaved : Bool) (keys last : Keys) (bytes : List ℕ) (read line : Line) (fault : LineFault) (d e : EntropyState) → read ≡ line_of bytes → name_saved read ≡ None → line ≡ unless_unsaved (form.saved_only && unsaved) read
    → Serves (serve table keys line) (Err fault) last d e → IsUnreplied (saving table form) unsaved keys bytes fault d e
plain_unreplied table form unsaved keys last bytes read line line_faults.EntropyFault d e is-read other is-asked so = plain_undrawn table form unsaved keys bytes read line d e is-read other is-asked so
plain_unreplied table form unsaved keys last bytes read line line_faults.NoMemory d e is-read other is-asked so = so
