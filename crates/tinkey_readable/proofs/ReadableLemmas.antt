-- What a run of a session wrote, and what of it is readable.
use Rattle.std.proofs.Common.{◌≡◌, ◌≢◌, ◌∙◌, inr, sym, refl, ap, subst, ℕ, Bool, true, false, List, [], ◌∷◌, ◌++◌, length, take, nat_le, append-nil, Option, Some, None, arith}
use Rattle.std.specs.Prelude.{if◌then◌else◌, map as each, option_map, slice_get}
use Rattle.std.specs.FinMap as map
use Rattle.std.proofs.lemmas.Bool.Decides.{nat_tests}
use Rattle.key_msgs.specs.declared.primitive.Primitive.TheVariants.{Aead}
use Rattle.keyset_model.specs.Keyset.{Keys}
use Rattle.keyset_model.specs.Writing.{ReadKeysFit}
use Rattle.managers.specs.Standard.{standard_table}
use Rattle.managers.specs.Table.{Table}
use Rattle.seal_wrap.specs.Wrapped.{Wrapped, wrap_of}
use Rattle.tink_spec.specs.Outside.{Took}
use Rattle.tinkey_cmds.specs.Draws.{Drawn}
use Rattle.tinkey_session.specs.Lines.{Line, Outcome, Save, line_of}
use Rattle.tinkey_session.specs.Serving.{cannot_serve}
use Rattle.tinkey_session.specs.Session.{Turn, lines_by, lines_of, turns}
use Rattle.tinkey_session.specs.SessionLaws.{HasTurns, SessionDopens, SessionDopensPresent, SessionOpens, SessionOpensPresent, SessionVerifies}
use Rattle.tinkey_session.specs.TalkLaws.{IsTurnsOf, SavesAreTurns}
use Rattle.tinkey_session.specs.declared.reply.Reply.TheVariants.{Done}
use Rattle.tinkey_session.proofs.Options.{clash}
use Rattle.tinkey_session.specs.Saving.{Agrees, Form, StoreAnswers, by_files, files_after, iv_drawn, resolved, with_saved_only}
use Rattle.tinkey_session.specs.Talking.{Stop, goes, wants, passes, long_line, many_lines, Talk}
use Rattle.wrapped_prims.specs.Fitness.{Unfit, unfit}
use Rattle.wrapped_prims.specs.Laws.{IsKeyset}
use Rattle.tinkey_plans.specs.declared.origin.Origin.TheVariants as origins
use Rattle.tinkey_plans.specs.declared.status.Status.{Status}
use Rattle.tinkey_plans.specs.declared.status.Status.TheVariants as status
use Rattle.tinkey_words.specs.declared.words.rows.Format.{Format}
use Rattle.tinkey_words.specs.declared.words.rows.Format.TheVariants as formats
use Rattle.tinkey_plans.specs.Commands.{asked_plan}
use Rattle.tinkey_plans.specs.Ends.{World}
use Rattle.tinkey_plans.specs.Handles.{handles, unless_unfit}
use Rattle.tinkey_plans.specs.Locks.{keyset_under, limit_under, opens_master, takes_under}
use Rattle.tinkey_plans.specs.Plan.{Told, Answer, Plan, answer, create_answer, creates, draw_answer, ends, exchanges, IsStated, look_answer, refused, talk_answer}
use Rattle.tinkey_plans.specs.Promises.{IsAnswer}
use Rattle.tinkey_readable.specs.Readable.{AnswersAreReadable, AreAmong, AreReadable, HasReplies, IsSavedAs, resolved_lines, turns_of}
use Rattle.tinkey_readable.specs.KeptRuns.{Has}
use Rattle.tinkey_readable.specs.Runs.{read_in, told_session}
use Rattle.tinkey_readable.proofs.FilesAfterLemmas.{agrees_later, agrees_lines, asks_so, made_stays, save_keeps}
use Rattle.tinkey_readable.proofs.SavedFormLemmas.{made_file, saved_at}
use Rattle.tinkey_readable.proofs.SessionLineLemmas.{line_there}
use Rattle.tinkey_plans.specs.Session.{finds_free, form_under, holds_session, saves, saves_as, saving_session, session_plan}
use Rattle.tinkey_plans.specs.Steps.{keyset_limit, keyset_in, with_made, within_limit, written_in}
use Rattle.tinkey_plans.specs.Wrapping.{as_wrapping, is_json, makes_wrapped, wrapped_limit}
use Rattle.tinkey_words.specs.Words.{Lock, Master, KeysetFile}
use Rattle.tinkey_readable.specs.Lying.{GivesKeyset, MasterThere}
use Rattle.tinkey_readable.proofs.LyingLemmas.{given_is_keyset, keyset_given}
use Rattle.tinkey_readable.proofs.ReachLemmas.{keyset_reached}
use Rattle.tinkey_plans.specs.UnfitKeys.{unfit_key}

-- a stated status is no fault of the entropy or of the sink
not_fault : (s : Status) → IsStated s → s ≡ status.EntropyFault → ⊥
not_fault s stated is = let h : IsStated status.EntropyFault = rw is at stated in h

not_unwritten : (s : Status) → IsStated s → s ≡ status.WriteFault → ⊥
not_unwritten s stated is = let h : IsStated status.WriteFault = rw is at stated in h

-- ---- turns

has_turns : (keys : Keys) (lines : List Line) (random : List ℕ) (s t : Turn) → AreAmong (turns standard_table keys lines random) s t → HasTurns keys lines random s t
has_turns keys lines random s t x = record { i = x.i; j = x.j; later = x.later; first = x.first; second = x.second }

pub are_readable : SessionOpens → SessionDopens → SessionOpensPresent → SessionDopensPresent → SessionVerifies → (keys : Keys) (lines : List Line) (random : List ℕ) → IsKeyset keys → AreReadable (turns standard_table keys lines random)
are_readable opens dopens opens_present dopens_present verifies keys lines random is = record {
  opens = λ s t r prefix plain ad sealed x. opens keys lines random prefix plain ad sealed s t r is (has_turns keys lines random s t x);
  dopens = λ s t r prefix plain ad sealed x. dopens keys lines random prefix plain ad sealed s t r is (has_turns keys lines random s t x);
  opens_present = λ s t r plain ad sealed x. opens_present keys lines random plain ad sealed s t r is (has_turns keys lines random s t x);
  dopens_present = λ s t r plain ad sealed x. dopens_present keys lines random plain ad sealed s t r is (has_turns keys lines random s t x);
  verifies = λ s t r tag body x. verifies keys lines random body tag s t r is (has_turns keys lines random s t x);
}

-- no turn is readable
none_among : {P : Type 0} (s t : Turn) → AreAmong [] s t → P
none_among s t x = absurd (cc)

none_readable : AreReadable []
none_readable = record {
  opens = λ s t r prefix plain ad sealed x. none_among s t x;
  dopens = λ s t r prefix plain ad sealed x. none_among s t x;
  opens_present = λ s t r plain ad sealed x. none_among s t x;
  dopens_present = λ s t r plain ad sealed x. none_among s t x;
  verifies = λ s t r tag body x. none_among s t x;
}

-- ---- the answer of a session

-- saving writes nothing
abbrev makes_file : (name : List ℕ) → List ℕ → Plan
makes_file name bytes = creates name bytes status.OutExists tt

files_nothing : (name bytes : List ℕ) (told : Told) → (answer (makes_file name bytes) told).output ≡ []
files_nothing name bytes told = by (map.get told.files name)
  where
    by : (found : Option (List ℕ)) → (create_answer found told name bytes (refused told status.OutExists)).output ≡ []
    by None = refl
    by (Some there) = refl

within_nothing : (limit : ℕ) (next : List ℕ → Plan) (bytes : List ℕ) (told : Told) → (answer (next bytes) told).output ≡ [] → (answer (within_limit limit next bytes) told).output ≡ []
within_nothing limit next bytes told nothing = by (nat_le (length bytes) limit)
  where
    by : (b : Bool) → (answer (if b then next bytes else ends status.KeysetOutgrown tt) told).output ≡ []
    by true = nothing
    by false = refl

text_nothing : (table : Table) (over : Keys) (form : Format) (keys : Keys) (name : List ℕ) (told : Told) → (answer (makes_wrapped keys over table form (makes_file name)) told).output ≡ []
text_nothing table over form keys name told = by (wrap_of keys over table told.random (is_json form))
  where
    by : (o : Option Wrapped) → (draw_answer (option_map as_wrapping o) (refused told status.EntropyFault) (λ (d : Drawn (List ℕ)). answer (with_made d.answer (within_limit wrapped_limit (makes_file name))) (record told { random = d.left }))).output ≡ []
    by None = refl
    by (Some w) = within_nothing wrapped_limit (makes_file name) w.text (record told { random = w.left }) (files_nothing name w.text (record told { random = w.left }))

saves_nothing : (table : Table) (master : Option Keys) (file : Option (List ℕ)) (form : Format) (keys : Keys) (told : Told) → (answer (saves_as table master file form keys) told).output ≡ []
saves_nothing table master None form keys told = refl
saves_nothing table None (Some name) form keys told = within_nothing keyset_limit (makes_file name) (written_in form keys) told (files_nothing name (written_in form keys) told)
saves_nothing table (Some over) (Some name) form keys told =
    within_nothing keyset_limit (λ plain. makes_wrapped keys over table form (makes_file name)) (written_in formats.Binary keys) told (text_nothing table over form keys name told)

-- what the answer of the session itself says of the run
talk_replied : SessionOpens → SessionDopens → SessionOpensPresent → SessionDopensPresent → SessionVerifies → SavesAreTurns → (table : Table) (master : Option Keys) (out : KeysetFile) (saved_only : Bool) (keys : Keys) (told : Told) (old : World) (s : Status) (new : World)
    → IsKeyset keys → IsStated s → IsAnswer (answer (exchanges (saving_session table master out.form saved_only keys) (saves table master out)) told) old s new → HasReplies table (with_saved_only saved_only (form_under table master out.form)) keys told old s new
talk_replied opens dopens opens_present dopens_present verifies law table master out saved_only keys told old s new is stated a = by_stop x.stop refl a
  where
    x : Talk
    x = told_session table master out.form saved_only keys told

    made : Told
    made = record told { files = files_after told.files x.asked }

    next : Answer
    next = answer (saves table master out x.keys) (record made { input = []; random = x.random })

    form : Form
    form = with_saved_only saved_only (form_under table master out.form)

    answers : StoreAnswers
    answers = by_files told.files

    is_saved : ((name bytes : List ℕ) → map.get made.files name ≡ Some bytes → Has new.store name bytes)
        → (t : IsTurnsOf table (λ answered. lines_by table (resolved form answers) [] false keys (each line_of answered) told.random) keys told.input told.random true x)
        → (i : ℕ) (turn : Turn) (name : List ℕ) (outcome : Outcome) → slice_get (turns_of table form answers keys t.answered told.random) i ≡ Some turn → turn.line ≡ Save name outcome → turn.reply ≡ Done → IsSavedAs form turn.before new.store name
    is_saved on t i turn name outcome at line reply =
        let there = line_there table form answers [] false keys (each line_of t.answered) told.random i turn at in
        let w = saved_at table form answers keys (each line_of t.answered) told.random i turn name outcome there line reply in
        let a = made_file name w.bytes in
        let agrees : Agrees answers [] (w.first ++ a ∷ w.later) = subst (Agrees answers []) w.split (agrees_lines table form answers [] false keys (each line_of t.answered) told.random t.last t.remains') in
        let kept = ap (λ l. map.get (files_after told.files l) name) (t.asked ∙ w.split) ∙ made_stays told.files w.first a w.later (agrees_later answers [] w.first (a ∷ w.later) agrees) refl in
        record {
          iv = take (iv_drawn form turn.before) w.left;
          bytes = w.bytes;
          written = w.written;
          has = on name w.bytes kept;
        }

    told_so : ((name bytes : List ℕ) → map.get made.files name ≡ Some bytes → Has new.store name bytes) → (s ≡ status.Done → x.stop ≡ goes) → (output : List ℕ) → output ≡ x.output → Took old.sink new.sink output → HasReplies table (with_saved_only saved_only (form_under table master out.form)) keys told old s new
    told_so on done output same took =
        let t = law table form answers keys told.input told.random true in
        let agrees : Agrees answers [] x.asked = subst (Agrees answers []) (sym t.asked) (agrees_lines table form answers [] false keys (each line_of t.answered) told.random t.last t.remains') in
        record {
          answers = answers;
          store = record { asked = x.asked; after = Some (files_after told.files x.asked); asks = asks_so told.files [] x.asked agrees; agrees = agrees };
          answered = t.answered;
          later = t.later;
          cut = t.cut;
          all = λ h. t.all (done h);
          whole = t.whole;
          unasked = [];
          files = sym t.asked ∙ sym (append-nil x.asked);
          none_unasked = λ other. refl;
          saved = λ other i turn name outcome at line reply. is_saved on t i turn name outcome at line reply;
          took = λ other. subst (λ bytes. Took old.sink new.sink bytes) (same ∙ t.output) took;
          front = λ fault. absurd (not_unwritten s stated fault);
          readable = λ standard. subst (λ (tb : Table). AreReadable (turns_of tb (with_saved_only saved_only (form_under tb master out.form)) answers keys t.answered told.random)) (sym standard) (are_readable opens dopens opens_present dopens_present verifies keys (resolved_lines standard_table (with_saved_only saved_only (form_under standard_table master out.form)) answers keys t.answered told.random) told.random is);
        }

    by_stop : (stop : Stop) → x.stop ≡ stop → IsAnswer (talk_answer stop x made next) old s new → HasReplies table (with_saved_only saved_only (form_under table master out.form)) keys told old s new
    by_stop goes is a = told_so (λ name bytes at. (next.files, a.files, save_keeps table name bytes master out.file out.form x.keys (record made { input = []; random = x.random }) at)) (λ h. is) (x.output ++ next.output) (ap (λ l. x.output ++ l) (saves_nothing table master out.file out.form x.keys (record made { input = []; random = x.random })) ∙ append-nil x.output) a.output
    by_stop wants is a = absurd (not_fault s stated a.status)
    by_stop (passes long_line) is a = told_so (λ name bytes at. (made.files, a.files, at)) (λ h. let clash : status.Done ≡ status.LineTooLong = sym h ∙ a.status in absurd (cc)) x.output refl a.output
    by_stop (passes many_lines) is a = told_so (λ name bytes at. (made.files, a.files, at)) (λ h. let clash : status.Done ≡ status.TooManyLines = sym h ∙ a.status in absurd (cc)) x.output refl a.output

-- nothing was written, and no line was answered
pub none_replied : (table : Table) (form : Form) (keys : Keys) (told : Told) (old : World) (s : Status) (new : World) → s ≢ status.Done → s ≢ status.WriteFault → Took old.sink new.sink [] → HasReplies table form keys told old s new
unfolding turns lines_by
none_replied table form keys told old s new undone other took = record {
  answers = λ before name. None;
  store = record { asked = []; after = Some told.files; asks = refl; agrees = tt };
  answered = [];
  later = lines_of told.input;
  cut = refl;
  all = λ h. absurd (undone h);
  whole = refl;
  unasked = [];
  files = refl;
  none_unasked = λ other. refl;
  saved = λ other i t name outcome at line reply. clash at;
  took = λ h. took;
  front = λ h. absurd (other h);
  readable = λ standard. none_readable;
}

-- behind a name that was looked up
replied : SessionOpens → SessionDopens → SessionOpensPresent → SessionDopensPresent → SessionVerifies → SavesAreTurns → (table : Table) (master : Option Keys) (out : KeysetFile) (saved_only : Bool) (keys : Keys) (told : Told) (old : World) (s : Status) (new : World)
    → IsKeyset keys → IsStated s → IsAnswer (answer (holds_session table master out saved_only keys) told) old s new → HasReplies table (with_saved_only saved_only (form_under table master out.form)) keys told old s new
replied opens dopens opens_present dopens_present verifies law table master out saved_only keys told old s new is stated a = by_file out.file a
  where
    went : IsAnswer (answer (exchanges (saving_session table master out.form saved_only keys) (saves table master out)) told) old s new → HasReplies table (with_saved_only saved_only (form_under table master out.form)) keys told old s new
    went a = talk_replied opens dopens opens_present dopens_present verifies law table master out saved_only keys told old s new is stated a

    by_found : (found : Option (List ℕ)) → IsAnswer (look_answer found (refused told status.OutExists) (answer (exchanges (saving_session table master out.form saved_only keys) (saves table master out)) told)) old s new → HasReplies table (with_saved_only saved_only (form_under table master out.form)) keys told old s new
    by_found None a = went a
    by_found (Some there) a = none_replied table (with_saved_only saved_only (form_under table master out.form)) keys told old s new (λ h. let clash : status.Done ≡ status.OutExists = sym h ∙ a.status in absurd (cc)) (not_unwritten s stated) a.output

    by_file : (file : Option (List ℕ)) → IsAnswer (answer (finds_free file (λ free. exchanges (saving_session table master out.form saved_only keys) (saves table master out))) told) old s new → HasReplies table (with_saved_only saved_only (form_under table master out.form)) keys told old s new
    by_file None a = went a
    by_file (Some name) a = by_found (map.get told.files name) a

-- behind the text that is taken
text_replied : SessionOpens → SessionDopens → SessionOpensPresent → SessionDopensPresent → SessionVerifies → SavesAreTurns → ReadKeysFit → (table : Table) (master : Option Keys) (name : List ℕ) (form : Format) (out : KeysetFile) (saved_only : Bool) (bytes : List ℕ) (keys : Keys) (told : Told) (old : World) (s : Status) (new : World)
    → map.get told.files name ≡ Some bytes → GivesKeyset table master form bytes keys → IsStated s
    → IsAnswer (answer (takes_under origins.Keyset table master (record { file = Some name; form = form }) (holds_session table master out saved_only)) told) old s new → HasReplies table (with_saved_only saved_only (form_under table master out.form)) keys told old s new
text_replied opens dopens opens_present dopens_present verifies law fit table master name form out saved_only bytes keys told old s new there gives stated a = by (nat_le (length bytes) (limit_under master)) refl (rw there at a)
  where
    by : (t : Bool) → nat_le (length bytes) (limit_under master) ≡ t → IsAnswer (if t then answer (keyset_under origins.Keyset table master form bytes (holds_session table master out saved_only)) told else refused told (status.KeysetTooLong origins.Keyset)) old s new → HasReplies table (with_saved_only saved_only (form_under table master out.form)) keys told old s new
    by true is a =
        replied opens dopens opens_present dopens_present verifies law table master out saved_only keys told old s new (given_is_keyset fit table master form bytes keys gives (grind (arith, nat_tests, is))) stated
        (subst (λ x. IsAnswer x old s new) (keyset_given origins.Keyset table master form bytes keys (holds_session table master out saved_only) told gives) a)
    by false is a =
        none_replied table (with_saved_only saved_only (form_under table master out.form)) keys told old s new (λ h. let clash : status.Done ≡ status.KeysetTooLong origins.Keyset = sym h ∙ a.status in absurd (cc)) (not_unwritten s stated) a.output

-- behind a lock
lock_replied : (table : Table) (form : Form) (lock : Master) (bytes : List ℕ) (over : Keys) (next : Option Keys → Plan) (keys : Keys) (told : Told) (old : World) (s : Status) (new : World)
    → map.get told.files lock.file ≡ Some bytes → read_in lock.form bytes ≡ Some over → IsStated s → IsAnswer (answer (opens_master origins.Master table lock next) told) old s new
    → (IsAnswer (answer (next (Some over)) told) old s new → HasReplies table form keys told old s new) → HasReplies table form keys told old s new
lock_replied table form lock bytes over next keys told old s new there read stated a later = by (nat_le (length bytes) keyset_limit) (rw there at a)
  where
    fits : Keys → Plan
    fits m = handles origins.Master table Aead m (λ fit. next (Some m))

    none : (other : Status) → (other ≡ status.Done → ⊥) → s ≡ other → Took old.sink new.sink [] → HasReplies table form keys told old s new
    none other undone is took = none_replied table form keys told old s new (λ h. undone (sym is ∙ h)) (not_unwritten s stated) took

    by_fit : (u : Option (ℕ × Unfit)) → IsAnswer (answer (unless_unfit (unfit_key origins.Master over) u (next (Some over))) told) old s new → HasReplies table form keys told old s new
    by_fit None a = later a
    by_fit (Some found) a = none (status.Unfit (cannot_serve found.0 found.1) (unfit_key origins.Master over found.0)) (λ h. absurd (cc)) a.status a.output

    by : (t : Bool) → IsAnswer (if t then answer (keyset_in origins.Master lock.form bytes fits) told else refused told (status.KeysetTooLong origins.Master)) old s new → HasReplies table form keys told old s new
    by true a = by_fit (unfit over Aead table) (subst (λ x. IsAnswer x old s new) (keyset_reached origins.Master lock.form bytes over fits told read) a)
    by false a = none (status.KeysetTooLong origins.Master) (λ h. absurd (cc)) a.status a.output

pub readable_answer : SessionOpens → SessionDopens → SessionOpensPresent → SessionDopensPresent → SessionVerifies → SavesAreTurns → ReadKeysFit → AnswersAreReadable
readable_answer opens dopens opens_present dopens_present verifies law fit table words old s new stated never answers = record {
  replies = λ told lock name form out saved_only keys tells is gives.
      by told lock name form out saved_only keys gives.bytes gives.there gives.master gives.read gives.gives (subst (λ p. IsAnswer (answer p told) old s new) (ap (λ r. asked_plan table r words) is) (answers.over told tells stated (inr never)));
}
  where
    text : (told : Told) (master : Option Keys) (name : List ℕ) (form : Format) (out : KeysetFile) (saved_only : Bool) (keys : Keys) (bytes : List ℕ) → map.get told.files name ≡ Some bytes → GivesKeyset table master form bytes keys
        → IsAnswer (answer (takes_under origins.Keyset table master (record { file = Some name; form = form }) (holds_session table master out saved_only)) told) old s new → HasReplies table (with_saved_only saved_only (form_under table master out.form)) keys told old s new
    text told master name form out saved_only keys bytes there gives a = text_replied opens dopens opens_present dopens_present verifies law fit table master name form out saved_only bytes keys told old s new there gives stated a

    by : (told : Told) (lock : Lock) (name : List ℕ) (form : Format) (out : KeysetFile) (saved_only : Bool) (keys : Keys) (bytes : List ℕ) → map.get told.files name ≡ Some bytes → (master : Option Keys) → MasterThere lock told master → GivesKeyset table master form bytes keys
        → IsAnswer (answer (session_plan table lock name form out saved_only) told) old s new → HasReplies table (with_saved_only saved_only (form_under table master out.form)) keys told old s new
    by told None name form out saved_only keys bytes there None read gives a = text told None name form out saved_only keys bytes there gives a
    by told None name form out saved_only keys bytes there (Some over) read gives a = absurd read
    by told (Some lock) name form out saved_only keys bytes there None read gives a = absurd read
    by told (Some lock) name form out saved_only keys bytes there (Some over) (of_lock, lies, read) gives a =
        lock_replied table (with_saved_only saved_only (form_under table (Some over) out.form)) lock of_lock over (λ master. takes_under origins.Keyset table master (record { file = Some name; form = form }) (holds_session table master out saved_only)) keys told old s new lies read stated a
        (λ later. text told (Some over) name form out saved_only keys bytes there gives later)
