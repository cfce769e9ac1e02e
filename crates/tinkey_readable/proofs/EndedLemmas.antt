-- What a run of a session wrote, however it ended.
use Rattle.std.proofs.Common.{◌≡◌, ◌≢◌, ◌∙◌, ◌⊎◌, inl, inr, sym, refl, ap, subst, ℕ, suc, ◌≤◌, Bool, true, false, List, [], ◌∷◌, ◌++◌, length, take, append_assoc, append-nil, Option, Some, None, Result, Ok, Err, option_map}
use Rattle.std.specs.Prelude.{◌==◌, if◌then◌else◌, nat_le, IfSome, map as each, slice_get}
use Rattle.std.specs.FinMap as map
use Rattle.std.specs.List.{flat_map}
use Rattle.std.specs.Option.{option_and_then}
use Rattle.std.proofs.lemmas.Bool.{eqb-true}
use Rattle.std.proofs.lemmas.List.Concat.{flat_map-cons}
use Rattle.std.proofs.lemmas.Option.{same_Some}
use Rattle.keyset_json.specs.Reading.{reads_json}
use Rattle.key_msgs.specs.declared.primitive.Primitive.TheVariants.{Aead}
use Rattle.keyset_model.specs.Keyset.{Keys}
use Rattle.keyset_model.specs.Reading.{reads_binary}
use Rattle.keyset_model.specs.Writing.{ReadKeysFit}
use Rattle.managers.specs.Standard.{standard_table}
use Rattle.managers.specs.Table.{Table}
use Rattle.seal_wrap.specs.Unwrapped.{Refusal}
use Rattle.tink_spec.proofs.Moves.{lost_nothing, took_same}
use Rattle.tink_spec.specs.Files.{StoreState, Files, Holds}
use Rattle.tink_spec.specs.Outside.{DrewLosing, EntropyState, SinkState, Took, TookPrefix}
use Rattle.tinkey_session.proofs.CutLemmas.{lines_go_on, no_newline, no_newline-more}
use Rattle.tinkey_session.proofs.Options.{clash}
use Rattle.tinkey_session.proofs.SavedLemmas.{lines_more}
use Rattle.tinkey_session.proofs.TalkLemmas.{byte_by, over-stopped, serve_more}
use Rattle.tinkey_session.proofs.UnsavedLemmas.{some_session}
use Rattle.tinkey_session.specs.Lines.{Line, Outcome, Save, line_of}
use Rattle.tinkey_session.specs.Serving.{Served, serve}
use Rattle.tinkey_session.specs.Session.{Remains, Turn, lines_by, lines_of, lines_then, remains, turn_then, turns}
use Rattle.tinkey_session.specs.TalkLaws.{SavesAreTurns, replies_text}
use Rattle.tinkey_session.specs.Saving.{Agrees, Asks, FileAsked, Form, StoreAnswers, files_of, iv_drawn, resolved, with_saved_only}
use Rattle.tinkey_session.specs.Talking.{Exchange, Limit, many_lines, long_line, Stop, goes, wants, passes, Talk, replied, line_ended, byte_taken, line_limit, count_limit, over, going, saving, talk_by, unsaved_after, with_files}
use Rattle.tinkey_session.specs.Talks.{HasAsked, HasTalked, Talks, limit_fault}
use Rattle.tinkey_session.specs.Talks as talks
use Rattle.tinkey_session.specs.Texts.{reply_text}
use Rattle.tinkey_session.specs.declared.reply.Reply.TheVariants.{Done}
use Rattle.tinkey_session.specs.declared.talk.TalkFault.{TalkFault}
use Rattle.tinkey_session.specs.declared.talk.TalkFault.TheVariants as talk_faults
use Rattle.tinkey_cmds.specs.declared.command.EditRefusal.{EditRefusal}
use Rattle.wrapped_prims.specs.Fitness.{Unfit, unfit}
use Rattle.wrapped_prims.specs.Laws.{IsKeyset}
use Rattle.tinkey_plans.specs.Origins.{begins_of}
use Rattle.tinkey_plans.specs.declared.origin.Origin.{Origin}
use Rattle.tinkey_plans.specs.declared.origin.Origin.TheVariants as origins
use Rattle.tinkey_plans.specs.declared.status.Status.{Status}
use Rattle.seal_wrap.specs.Unwrapped.{is_wrapped_binary, is_wrapped_json}
use Rattle.tinkey_plans.specs.declared.status.Status.TheVariants as status
use Rattle.tinkey_words.specs.declared.words.rows.Format.{Format}
use Rattle.tinkey_words.specs.declared.words.rows.Format.TheVariants as formats
use Rattle.tinkey_plans.specs.Commands.{asked_plan}
use Rattle.tinkey_plans.specs.Ends.{World, Ends, loaded, load_absent, load_long, load_failed, load_starved, made, name_taken, create_failed, create_starved, look_free, look_taken, look_failed, exchanged, exchange_ended, talk_status, sides_of, settled, draw_failed, draw_starved}
use Rattle.tinkey_plans.specs.Plan as plans
use Rattle.tinkey_plans.specs.Plan.{Told, Plan, creates, exchanges, limit_status}
use Rattle.tinkey_plans.specs.Promises.{AsksOver, Tells, over_files}
use Rattle.tinkey_plans.specs.Session.{finds_free, form_under, holds_session, saves, saves_as, saving_session, session_plan}
use Rattle.tinkey_plans.specs.Steps.{keyset_limit, keyset_in, with_json, with_keyset, with_made, within_limit, written_in}
use Rattle.tinkey_plans.specs.Wrapping.{is_keyset, keyset_sealer, makes_wrapped, with_unwrapped, wrapped_limit}
use Rattle.tinkey_plans.specs.Handles.{handles, unless_unfit}
use Rattle.tinkey_plans.specs.Locks.{keyset_under, limit_under, takes_under}
use Rattle.tinkey_plans.proofs.FaultLemmas.{went, Went, of_fault, of_limit}
use Rattle.tinkey_plans.proofs.GivenLemmas.{asks_over}
use Rattle.tinkey_words.specs.Words.{Lock, Master, KeysetFile}
use Rattle.tinkey_readable.specs.Lying.{GivesKeyset, MasterThere}
use Rattle.tinkey_readable.proofs.LyingLemmas.{given_is_keyset}
use Rattle.tinkey_readable.specs.Readable.{AreReadable, HasReplies, IsSavedAs, SessionsAreReadable, StoreGave, resolved_lines, turns_of}
use Rattle.tinkey_readable.specs.KeptRuns.{Has}
use Rattle.tinkey_readable.specs.Runs.{read_in}
use Rattle.tinkey_readable.proofs.ReadableLemmas.{none_replied}
use Rattle.tinkey_readable.proofs.FileLemmas.{stays}
use Rattle.tinkey_readable.proofs.FilesAfterLemmas.{made_over}
use Rattle.tinkey_readable.proofs.RunLemmas.{ok_of}
use Rattle.tinkey_readable.proofs.SavedFormLemmas.{made_file, saved_at}
use Rattle.tinkey_readable.proofs.SessionLineLemmas.{line_there}
use Rattle.tinkey_plans.specs.UnfitKeys.{unfit_key}

-- ---- the lines of the first bytes of an input

-- what a session over these bytes has answered are the first lines, whatever follows
record Answered (table : Table) (form : Form) (answers : StoreAnswers) (keys : Keys) (told : List ℕ) (first : List FileAsked) (unsaved : Bool) (random text : List ℕ) (x : Talk) : Type 0 where
  answered : List (List ℕ)
  cut : (more : List ℕ) → (later : List (List ℕ)) × (lines_of (text ++ more) ≡ answered ++ later)
  output : x.output ≡ told ++ replies_text (turns table keys (lines_by table (resolved form answers) first unsaved keys (each line_of answered) random) random)
  asked : x.asked ≡ first ++ flat_map files_of (lines_by table (resolved form answers) first unsaved keys (each line_of answered) random)
  whole : length (turns table keys (lines_by table (resolved form answers) first unsaved keys (each line_of answered) random) random) ≡ length answered
  last : Remains
  remains' : remains table keys (lines_by table (resolved form answers) first unsaved keys (each line_of answered) random) random ≡ Some last

none_answered : (table : Table) (form : Form) (answers : StoreAnswers) (keys : Keys) (told : List ℕ) (first : List FileAsked) (unsaved : Bool) (random text : List ℕ) (x : Talk) → x.output ≡ told → x.asked ≡ first → Answered table form answers keys told first unsaved random text x
unfolding turns remains lines_by
none_answered table form answers keys told first unsaved random text x same asked = record {
  answered = [];
  cut = λ more. (lines_of (text ++ more), refl);
  output = same ∙ sym (append-nil told);
  asked = asked ∙ sym (append-nil first);
  whole = refl;
  last = record { keys = keys; left = random };
  remains' = refl;
}

one_answered : (table : Table) (form : Form) (answers : StoreAnswers) (keys : Keys) (told : List ℕ) (first : List FileAsked) (unsaved : Bool) (random line bytes : List ℕ) (x : Talk) (s : Served) → serve table keys (resolved form answers first unsaved keys random (line_of line)) random ≡ Some s → no_newline line ≡ true
    → Answered table form answers s.keys (told ++ reply_text s.reply) (first ++ files_of (resolved form answers first unsaved keys random (line_of line))) (unsaved_after unsaved (resolved form answers first unsaved keys random (line_of line)) s.reply) s.left bytes x → Answered table form answers keys told first unsaved random (line ++ 10 ∷ bytes) x
unfolding turns remains lines_by
one_answered table form answers keys told first unsaved random line bytes x s e none a =
    let asks = resolved form answers first unsaved keys random (line_of line) in
    let turn : Turn = record { before = keys; line = asks; reply = s.reply } in
    let later : List Line = lines_by table (resolved form answers) (first ++ files_of asks) (unsaved_after unsaved asks s.reply) s.keys (each line_of a.answered) s.left in
    let behind = turns table s.keys later s.left in
    let lines : lines_by table (resolved form answers) first unsaved keys (each line_of (line ∷ a.answered)) random ≡ asks ∷ later =
    ap (λ o. asks ∷ lines_then (each line_of a.answered) o (λ y. lines_by table (resolved form answers) (first ++ files_of asks) (unsaved_after unsaved asks y.reply) y.keys (each line_of a.answered) y.left)) e in
    let all : turns table keys (lines_by table (resolved form answers) first unsaved keys (each line_of (line ∷ a.answered)) random) random ≡ turn ∷ behind =
    ap (λ ls. turns table keys ls random) lines ∙ ap (λ o. turn_then keys asks o (λ y. turns table y.keys later y.left)) e in
    record {
      answered = line ∷ a.answered;
      cut = λ more. let c = a.cut more in (c.0, ap lines_of (append_assoc line (10 ∷ bytes) more) ∙ lines_go_on line (bytes ++ more) none ∙ ap (λ lines. line ∷ lines) c.1);
      output = a.output ∙ append_assoc told (reply_text s.reply) (replies_text behind) ∙ ap (λ l. told ++ l) (sym (flat_map-cons (λ t. reply_text t.reply) turn behind)) ∙ ap (λ ts. told ++ replies_text ts) (sym all);
      asked = a.asked ∙ append_assoc first (files_of asks) (flat_map files_of later) ∙ ap (λ l. first ++ l) (sym (flat_map-cons files_of asks later)) ∙ ap (λ ls. first ++ flat_map files_of ls) (sym lines);
      whole = ap length all ∙ ap suc a.whole;
      last = a.last;
      remains' = ap (λ ls. remains table keys ls random) lines ∙ ap (option_and_then (λ y. remains table y.keys later y.left)) e ∙ a.remains';
    }

-- what is proved of the bytes that follow
abbrev Follows : Table → Form → StoreAnswers → List ℕ → Type 0
Follows table form answers bytes = (keys : Keys) (line : List ℕ) (before : ℕ) (told : List ℕ) (first : List FileAsked) (unsaved : Bool) (random : List ℕ) → no_newline line ≡ true
    → Answered table form answers keys told first unsaved random (line ++ bytes) (over (saving table form answers) (going keys line before unsaved told first random) bytes)

-- a session that is stopped answers no more
stopped : (table : Table) (form : Form) (answers : StoreAnswers) (keys : Keys) (told : List ℕ) (first : List FileAsked) (unsaved : Bool) (random text bytes : List ℕ) (x : Talk) → x.stop ≢ goes → x.output ≡ told → x.asked ≡ first → Answered table form answers keys told first unsaved random text (over (saving table form answers) x bytes)
stopped table form answers keys told first unsaved random text bytes x never same asked =
    subst (Answered table form answers keys told first unsaved random text) (sym (over-stopped (saving table form answers) x bytes never)) (none_answered table form answers keys told first unsaved random text x same asked)

wants≢goes : wants ≢ goes
wants≢goes e = cc

passes≢goes : (limit : Limit) → passes limit ≢ goes
passes≢goes limit e = cc

line_answered : (table : Table) (form : Form) (answers : StoreAnswers) (b : ℕ) (bytes : List ℕ) → Follows table form answers bytes → (keys : Keys) (line : List ℕ) (before : ℕ) (told : List ℕ) (first : List FileAsked) (unsaved : Bool) (random : List ℕ) → no_newline line ≡ true → b ≡ 10
    → Answered table form answers keys told first unsaved random (line ++ b ∷ bytes) (over (saving table form answers) (line_ended (saving table form answers) (going keys line before unsaved told first random)) bytes)
line_answered table form answers b bytes follows keys line before told first unsaved random none is = by (serve table keys asks random) refl
  where
    asks : Line
    asks = resolved form answers first unsaved keys random (line_of line)

    by : (o : Option Served) → serve table keys asks random ≡ o → Answered table form answers keys told first unsaved random (line ++ b ∷ bytes) (over (saving table form answers) (replied (going keys line before unsaved told first random) (option_map (with_files unsaved asks) o)) bytes)
    by None e = stopped table form answers keys told first unsaved random (line ++ b ∷ bytes) bytes (record (going keys line before unsaved told first random) { random = []; stop = wants }) wants≢goes refl refl
    by (Some s) e =
        subst (λ c. Answered table form answers keys told first unsaved random (line ++ c ∷ bytes) (over (saving table form answers) (replied (going keys line before unsaved told first random) (Some (with_files unsaved asks s))) bytes)) (sym is)
        (one_answered table form answers keys told first unsaved random line bytes _ s e none (follows s.keys [] (suc before) (told ++ reply_text s.reply) (first ++ files_of asks) (unsaved_after unsaved asks s.reply) s.left refl))

byte_answered : (table : Table) (form : Form) (answers : StoreAnswers) (b : ℕ) (bytes : List ℕ) → Follows table form answers bytes → (keys : Keys) (line : List ℕ) (before : ℕ) (told : List ℕ) (first : List FileAsked) (unsaved : Bool) (random : List ℕ) → no_newline line ≡ true
    → Answered table form answers keys told first unsaved random (line ++ b ∷ bytes) (over (saving table form answers) (byte_taken (saving table form answers) (going keys line before unsaved told first random) b) bytes)
byte_answered table form answers b bytes follows keys line before told first unsaved random none = by (nat_le count_limit before) (b == 10) refl (nat_le line_limit (length line))
  where
    by : (many ends : Bool) → (b == 10) ≡ ends → (long : Bool) → Answered table form answers keys told first unsaved random (line ++ b ∷ bytes) (over (saving table form answers) (byte_by many ends long (saving table form answers) (going keys line before unsaved told first random) b) bytes)
    by true ends n long = stopped table form answers keys told first unsaved random (line ++ b ∷ bytes) bytes (record (going keys line before unsaved told first random) { stop = passes many_lines }) (passes≢goes many_lines) refl refl
    by false true n long = line_answered table form answers b bytes follows keys line before told first unsaved random none (eqb-true _ _ n)
    by false false n true = stopped table form answers keys told first unsaved random (line ++ b ∷ bytes) bytes (record (going keys line before unsaved told first random) { stop = passes long_line }) (passes≢goes long_line) refl refl
    by false false n false =
        subst (λ t. Answered table form answers keys told first unsaved random t (over (saving table form answers) (going keys (line ++ b ∷ []) before unsaved told first random) bytes)) (append_assoc line (b ∷ []) bytes)
        (follows keys (line ++ b ∷ []) before told first unsaved random (no_newline-more line b none n))

taken_answered : (table : Table) (form : Form) (answers : StoreAnswers) (taken : List ℕ) → Follows table form answers taken
unfolding over
taken_answered table form answers [] keys line before told first unsaved random none = none_answered table form answers keys told first unsaved random (line ++ []) (going keys line before unsaved told first random) refl refl
taken_answered table form answers (b ∷ bytes) keys line before told first unsaved random none = byte_answered table form answers b bytes (taken_answered table form answers bytes) keys line before told first unsaved random none

-- ---- more random bytes

-- behind random bytes that suffice more of them change no turn
turns_more : (table : Table) (keys : Keys) (lines : List Line) (random more : List ℕ) (last : Remains) → remains table keys lines random ≡ Some last → turns table keys lines (random ++ more) ≡ turns table keys lines random
unfolding turns remains
turns_more table keys [] random more last e = refl
turns_more table keys (line ∷ later) random more last e = by (λ s h. turns_more table s.keys later s.left more last h) (serve table keys line random) refl e
  where
    next : Served → List Turn
    next y = turns table y.keys later y.left

    by : ((s : Served) → remains table s.keys later s.left ≡ Some last → turns table s.keys later (s.left ++ more) ≡ next s) → (o : Option Served) → serve table keys line random ≡ o → option_and_then (λ y. remains table y.keys later y.left) o ≡ Some last
        → turn_then keys line (serve table keys line (random ++ more)) next ≡ turn_then keys line o next
    by behind None t k = clash k
    by behind (Some s) t k =
        ap (λ o. turn_then keys line o next) (serve_more table keys line random more s t)
        ∙ ap (λ ts. record { before = keys; line = line; reply = s.reply } ∷ ts) (behind s k)

-- ---- what was written

-- the output is that of the first lines of the input, of all of them where that is so, and so are the files asked for
record Wrote (table : Table) (form : Form) (answers : StoreAnswers) (keys : Keys) (input random : List ℕ) (x : Talk) (done : Type 0) : Type 0 where
  answered : List (List ℕ)
  later : List (List ℕ)
  cut : lines_of input ≡ answered ++ later
  all : done → later ≡ []
  whole : length (turns_of table form answers keys answered random) ≡ length answered
  is : x.output ≡ replies_text (turns_of table form answers keys answered random)
  files : x.asked ≡ flat_map files_of (resolved_lines table form answers keys answered random)

-- so it is with more random bytes
record More (table : Table) (form : Form) (answers : StoreAnswers) (keys : Keys) (answered : List (List ℕ)) (drawn rest : List ℕ) : Type 0 where
  lines : resolved_lines table form answers keys answered (drawn ++ rest) ≡ resolved_lines table form answers keys answered drawn
  turns' : turns_of table form answers keys answered (drawn ++ rest) ≡ turns_of table form answers keys answered drawn

with_more : (table : Table) (form : Form) (answers : StoreAnswers) (keys : Keys) (answered : List (List ℕ)) (drawn rest : List ℕ) (last : Remains) → remains table keys (resolved_lines table form answers keys answered drawn) drawn ≡ Some last → More table form answers keys answered drawn rest
with_more table form answers keys answered drawn rest last is =
    let same = lines_more table form answers [] false keys (each line_of answered) drawn rest last is in
    record { lines = same; turns' = ap (λ ls. turns table keys ls (drawn ++ rest)) same ∙ turns_more table keys (resolved_lines table form answers keys answered drawn) drawn rest last is }

of_front : (table : Table) (form : Form) (answers : StoreAnswers) (keys : Keys) (taken more drawn rest : List ℕ) → Wrote table form answers keys (taken ++ more) (drawn ++ rest) (talk_by (saving table form answers) keys taken drawn false) ⊥
of_front table form answers keys taken more drawn rest =
    let a = taken_answered table form answers taken keys [] 0 [] [] false drawn refl in
    let c = a.cut more in
    let m = with_more table form answers keys a.answered drawn rest a.last a.remains' in
    record {
      answered = a.answered;
      later = c.0;
      cut = c.1;
      all = λ h. absurd h;
      whole = ap length m.turns' ∙ a.whole;
      is = a.output ∙ ap replies_text (sym m.turns');
      files = a.asked ∙ ap (flat_map files_of) (sym m.lines);
    }

of_whole : SavesAreTurns → (table : Table) (form : Form) (answers : StoreAnswers) (keys : Keys) (input drawn rest : List ℕ) → Wrote table form answers keys input (drawn ++ rest) (talk_by (saving table form answers) keys input drawn true) ((talk_by (saving table form answers) keys input drawn true).stop ≡ goes)
of_whole law table form answers keys input drawn rest =
    let t = law table form answers keys input drawn true in
    let m = with_more table form answers keys t.answered drawn rest t.last t.remains' in
    record {
      answered = t.answered;
      later = t.later;
      cut = t.cut;
      all = t.all;
      whole = ap length m.turns' ∙ t.whole;
      is = t.output ∙ ap replies_text (sym m.turns');
      files = t.asked ∙ ap (flat_map files_of) (sym m.lines);
    }

-- where it isn't asked that all lines were answered
some_of : (table : Table) (form : Form) (answers : StoreAnswers) (keys : Keys) (input random : List ℕ) (x : Talk) (done : Type 0) → Wrote table form answers keys input random x done → Wrote table form answers keys input random x ⊥
some_of table form answers keys input random x done w = record { answered = w.answered; later = w.later; cut = w.cut; all = λ h. absurd h; whole = w.whole; is = w.is; files = w.files }

-- what was given and drawn are the first of the bytes that are told
split : (left before : Option (List ℕ)) (told piece : List ℕ) → before ≡ Some told → before ≡ option_map (λ rest. piece ++ rest) left → (rest : List ℕ) × (left ≡ Some rest) × (told ≡ piece ++ rest)
split None before told piece is gave = absurd (cc)
split (Some rest) before told piece is gave = (rest, refl, cc)

at_end : (left : Option (List ℕ)) (rest : List ℕ) → left ≡ Some rest → IfSome left (λ r. r ≡ []) → rest ≡ []
at_end left rest is end = let h : IfSome (Some rest) (λ r. r ≡ []) = rw is at end in h

-- the output of these bytes is that of the first lines that are told
abbrev WroteTold : (table : Table) (form : Form) (answers : StoreAnswers) (keys : Keys) (told : Told) (taken drawn : List ℕ) (ended : Bool) (done : Type 0) → Type 0
WroteTold table form answers keys told taken drawn ended done = Wrote table form answers keys told.input told.random (talk_by (saving table form answers) keys taken drawn ended) done

told_front : (table : Table) (form : Form) (answers : StoreAnswers) (keys : Keys) (told : Told) (taken more drawn rest : List ℕ) → told.input ≡ taken ++ more → told.random ≡ drawn ++ rest → WroteTold table form answers keys told taken drawn false ⊥
told_front table form answers keys told taken more drawn rest input random =
    let x = talk_by (saving table form answers) keys taken drawn false in
    subst (λ i. Wrote table form answers keys i told.random x ⊥) (sym input)
    (subst (λ r. Wrote table form answers keys (taken ++ more) r x ⊥) (sym random) (of_front table form answers keys taken more drawn rest))

told_whole : SavesAreTurns → (table : Table) (form : Form) (answers : StoreAnswers) (keys : Keys) (told : Told) (taken drawn rest : List ℕ) → told.input ≡ taken → told.random ≡ drawn ++ rest → WroteTold table form answers keys told taken drawn true ((talk_by (saving table form answers) keys taken drawn true).stop ≡ goes)
told_whole law table form answers keys told taken drawn rest input random =
    let x = talk_by (saving table form answers) keys taken drawn true in
    subst (λ i. Wrote table form answers keys i told.random x (x.stop ≡ goes)) (sym input)
    (subst (λ r. Wrote table form answers keys taken r x (x.stop ≡ goes)) (sym random) (of_whole law table form answers keys taken drawn rest))

told_either : SavesAreTurns → (table : Table) (form : Form) (answers : StoreAnswers) (keys : Keys) (told : Told) (taken more drawn rest : List ℕ) (ended : Bool) → told.input ≡ taken ++ more → told.random ≡ drawn ++ rest → (ended ≡ true → more ≡ []) → WroteTold table form answers keys told taken drawn ended ⊥
told_either law table form answers keys told taken more drawn rest false input random end = told_front table form answers keys told taken more drawn rest input random
told_either law table form answers keys told taken more drawn rest true input random end =
    some_of table form answers keys told.input told.random _ _ (told_whole law table form answers keys told taken drawn rest (input ∙ ap (λ l. taken ++ l) (end refl) ∙ append-nil taken) random)

-- ---- the ends of a session

-- the turns of lines over a keyset are readable
abbrev TurnsAreReadable : Type 0
TurnsAreReadable = (keys : Keys) (lines : List Line) (random : List ℕ) → IsKeyset keys → AreReadable (turns standard_table keys lines random)

-- what is there of these files is there after the run
abbrev StaysIn : Option Files → World → Type 0
StaysIn files new = (name bytes : List ℕ) → Has (over_files files) name bytes → Has new.store name bytes

-- so is what a line saved, if it was answered ok
is_written : (table : Table) (form : Form) (answers : StoreAnswers) (keys : Keys) (told : Told) (store : StoreGave answers told.files) (new : World) (answered : List (List ℕ)) (unasked : List FileAsked) → StaysIn store.after new
    → flat_map files_of (resolved_lines table form answers keys answered told.random) ≡ store.asked ++ unasked → unasked ≡ []
    → (i : ℕ) (t : Turn) (name : List ℕ) (outcome : Outcome) → slice_get (turns_of table form answers keys answered told.random) i ≡ Some t → t.line ≡ Save name outcome → t.reply ≡ Done → IsSavedAs form t.before new.store name
is_written table form answers keys told store new answered unasked on files none i t name outcome at line reply =
    let there = line_there table form answers [] false keys (each line_of answered) told.random i t at in
    let w = saved_at table form answers keys (each line_of answered) told.random i t name outcome there line reply in
    let asked : store.asked ≡ w.first ++ made_file name w.bytes ∷ w.later = sym (append-nil store.asked) ∙ ap (λ l. store.asked ++ l) (sym none) ∙ sym files ∙ w.split in
    let asks = subst (λ l. AsksOver l (Some told.files) store.after) asked store.asks in
    record {
      iv = take (iv_drawn form t.before) w.left;
      bytes = w.bytes;
      written = w.written;
      has = on name w.bytes (made_over w.first (made_file name w.bytes) w.later told.files (Some told.files) store.after refl asks refl);
    }

has_replies : TurnsAreReadable → (table : Table) (form : Form) (answers : StoreAnswers) (keys : Keys) (told : Told) (store : StoreGave answers told.files) (old : World) (s : Status) (new : World) (x : Talk) (unasked : List FileAsked) (done : Type 0) → IsKeyset keys → StaysIn store.after new
    → Wrote table form answers keys told.input told.random x done → x.asked ≡ store.asked ++ unasked → (s ≢ status.WriteFault → unasked ≡ [])
    → (s ≡ status.Done → done) → (s ≢ status.WriteFault → Took old.sink new.sink x.output) → (s ≡ status.WriteFault → TookPrefix old.sink new.sink x.output) → HasReplies table form keys told old s new
has_replies readable table form answers keys told store old s new x unasked done is on w asked none all took front = record {
  answers = answers;
  store = store;
  answered = w.answered;
  later = w.later;
  cut = w.cut;
  all = λ h. w.all (all h);
  whole = w.whole;
  unasked = unasked;
  files = sym w.files ∙ asked;
  none_unasked = none;
  saved = λ other i t name outcome at line reply. is_written table form answers keys told store new w.answered unasked on (sym w.files ∙ asked) (none other) i t name outcome at line reply;
  took = λ other. subst (λ bytes. Took old.sink new.sink bytes) w.is (took other);
  front = λ fault. subst (λ bytes. TookPrefix old.sink new.sink bytes) w.is (front fault);
  readable = λ standard. subst (λ (t : Table). AreReadable (turns_of t form answers keys w.answered told.random)) (sym standard) (readable keys (resolved_lines standard_table form answers keys w.answered told.random) told.random is);
}

-- saving writes nothing to the sink
abbrev Quiet : World → Status → World → Type 0
Quiet old s new = (s ≢ status.WriteFault) × (old.sink ≡ new.sink)

abbrev makes_file : (name : List ℕ) → List ℕ → Plan
makes_file name bytes = creates name bytes status.OutExists tt

file_quiet : (name bytes : List ℕ) (old : World) (s : Status) (new : World) → Ends (makes_file name bytes) old s new → Quiet old s new
file_quiet name bytes old s new (made is only stood given added) = (λ h. absurd (cc), only.sink)
file_quiet name bytes old s new (name_taken is only kept stood given there) = (λ h. absurd (cc), only.sink)
file_quiet name bytes old s new (create_failed is only rose given may) = (λ h. absurd (cc), only.sink)
file_quiet name bytes old s new (create_starved is only kept stood given) = (λ h. absurd (cc), only.sink)

within_quiet : (limit : ℕ) (next : List ℕ → Plan) (bytes : List ℕ) (old : World) (s : Status) (new : World) → (Ends (next bytes) old s new → Quiet old s new) → Ends (within_limit limit next bytes) old s new → Quiet old s new
within_quiet limit next bytes old s new later ended = by (nat_le (length bytes) limit) ended
  where
    by : (b : Bool) → Ends (if b then next bytes else plans.ends status.KeysetOutgrown tt) old s new → Quiet old s new
    by true run = later run
    by false (is, same) = (λ h. absurd (cc), ap (λ (w : World). w.sink) same)

made_quiet : (given : Result (List ℕ) EditRefusal) (name : List ℕ) (old : World) (s : Status) (new : World) → Ends (with_made given (within_limit wrapped_limit (makes_file name))) old s new → Quiet old s new
made_quiet (Ok text) name old s new run = within_quiet wrapped_limit (makes_file name) text old s new (file_quiet name text old s new) run
made_quiet (Err fault) name old s new (is, same) = (λ h. absurd (cc), ap (λ (w : World). w.sink) same)

text_quiet : (table : Table) (over : Keys) (form : Format) (keys : Keys) (name : List ℕ) (old : World) (s : Status) (new : World) → Ends (makes_wrapped keys over table form (makes_file name)) old s new → Quiet old s new
text_quiet table over form keys name old s new (inr (is, same)) = (λ h. absurd (cc), ap (λ (w : World). w.sink) same)
text_quiet table over form keys name old s new (inl (settled drawn entropy given drew stood settles (inl run))) = made_quiet given name (record old { entropy = entropy }) s new run
text_quiet table over form keys name old s new (inl (settled drawn entropy given drew stood settles (inr (is, same)))) = (λ h. absurd (cc), ap (λ (w : World). w.sink) same)
text_quiet table over form keys name old s new (inl (draw_failed is only out)) = (λ h. absurd (cc), only.sink)
text_quiet table over form keys name old s new (inl (draw_starved parts is only drawn drew stood few)) = (λ h. absurd (cc), only.sink)

saved : (table : Table) (master : Option Keys) (file : Option (List ℕ)) (form : Format) (keys : Keys) (old : World) (s : Status) (new : World) → Ends (saves_as table master file form keys) old s new → Quiet old s new
saved table master None form keys old s new (is, same) = (λ h. absurd (cc), ap (λ (w : World). w.sink) same)
saved table None (Some name) form keys old s new (inr (is, same)) = (λ h. absurd (cc), ap (λ (w : World). w.sink) same)
saved table None (Some name) form keys old s new (inl run) = within_quiet keyset_limit (makes_file name) (written_in form keys) old s new (file_quiet name (written_in form keys) old s new) run
saved table (Some over) (Some name) form keys old s new (inr (is, same)) = (λ h. absurd (cc), ap (λ (w : World). w.sink) same)
saved table (Some over) (Some name) form keys old s new (inl run) =
    within_quiet keyset_limit (λ plain. makes_wrapped keys over table form (makes_file name)) (written_in formats.Binary keys) old s new (text_quiet table over form keys name old s new) run

-- no fault of a session is its end
not_done : (fault : TalkFault) → talk_status fault ≢ status.Done
not_done talk_faults.LineTooLong e = cc
not_done talk_faults.TooManyLines e = cc
not_done talk_faults.ReadFault e = cc
not_done talk_faults.WriteFault e = cc
not_done talk_faults.EntropyFault e = cc
not_done talk_faults.NoMemory e = cc

limit_other : (limit : Limit) → limit_status limit ≢ status.WriteFault
limit_other long_line e = cc
limit_other many_lines e = cc

-- what the store did
abbrev store_gave : (answers : StoreAnswers) (told : Told) (old new : World) (asked : List FileAsked) → old.store.files ≡ Some told.files → Asks asked old.store new.store → Agrees answers [] asked → StoreGave answers told.files
store_gave answers told old new asked tells asks agrees = record {
  asked = asked;
  after = new.store.files;
  asks = subst (λ (files : Option Files). AsksOver asked files new.store.files) tells (asks_over asked old.store new.store asks);
  agrees = agrees;
}

-- a session that came to its end
session_done : TurnsAreReadable → SavesAreTurns → (table : Table) (form : Form) (answers : StoreAnswers) (keys last : Keys) (told : Told) (store : StoreGave answers told.files) (old mid : World) (s : Status) (new : World) → IsKeyset keys → Tells old told → StaysIn store.after new
    → Went (talk_by (saving table form answers) keys) last store.asked (sides_of old) (sides_of mid) → (s ≢ status.WriteFault) × (mid.sink ≡ new.sink) → HasReplies table form keys told old s new
session_done readable law table form answers keys last told store old mid s new is tells on w quiet =
    let input = split mid.source.left old.source.left told.input w.taken tells.input w.has.gave.left in
    let random = split mid.entropy.left old.entropy.left told.random w.drawn tells.random w.has.drew.left in
    let none = at_end mid.source.left input.0 input.1 (w.has.end refl) in
    let x = talk_by (saving table form answers) keys w.taken w.drawn true in
    let wrote = told_whole law table form answers keys told w.taken w.drawn random.0 (input.2 ∙ ap (λ l. w.taken ++ l) none ∙ append-nil w.taken) random.2 in
    has_replies readable table form answers keys told store old s new x [] _ is on wrote (w.files ∙ sym (append-nil store.asked)) (λ other. refl)
    (λ h. w.has.stands) (λ other. subst (λ (k : SinkState). Took old.sink k x.output) quiet.1 w.has.took) (λ h. absurd (quiet.0 h))

-- a session that was left before its end
session_left : TurnsAreReadable → SavesAreTurns → (table : Table) (form : Form) (answers : StoreAnswers) (keys : Keys) (told : Told) (store : StoreGave answers told.files) (old : World) (s : Status) (new : World) (fault : TalkFault) → IsKeyset keys → Tells old told → StaysIn store.after new
    → s ≡ talk_status fault → (so : Talks (talk_by (saving table form answers) keys) (Err fault) (sides_of old) (sides_of new)) → HasAsked (talk_by (saving table form answers) keys) (Err fault) (sides_of old) (sides_of new) store.asked so → HasReplies table form keys told old s new
session_left readable law table form answers keys told store old s new fault is tells on ended so has_asked = by so has_asked
  where
    exchange : Exchange
    exchange = talk_by (saving table form answers) keys

    undone : s ≡ status.Done → ⊥
    undone h = not_done fault (sym ended ∙ h)

    some_lines : (taken more drawn rest : List ℕ) → told.input ≡ taken ++ more → told.random ≡ drawn ++ rest → (end : Bool) → (end ≡ true → more ≡ []) → (unasked : List FileAsked) → (exchange taken drawn end).asked ≡ store.asked ++ unasked → (s ≢ status.WriteFault → unasked ≡ [])
        → (s ≢ status.WriteFault → Took old.sink new.sink (exchange taken drawn end).output) → (s ≡ status.WriteFault → TookPrefix old.sink new.sink (exchange taken drawn end).output) → HasReplies table form keys told old s new
    some_lines taken more drawn rest input random end whole unasked asked none took front =
        has_replies readable table form answers keys told store old s new (exchange taken drawn end) unasked _ is on (told_either law table form answers keys told taken more drawn rest end input random whole) asked none undone took front

    of_talk : {D : (old new : EntropyState) → List ℕ → Type 0} (taken drawn : List ℕ) (end : Bool) (stop : Stop) → HasTalked D exchange taken drawn end stop (sides_of old) (sides_of new) → (exchange taken drawn end).asked ≡ store.asked → DrewLosing old.entropy new.entropy drawn → s ≢ status.WriteFault → HasReplies table form keys told old s new
    of_talk taken drawn end stop has asked gone other =
        let input = split new.source.left old.source.left told.input taken tells.input has.gave.left in
        let random = split new.entropy.left old.entropy.left told.random (drawn ++ gone.lost) tells.random gone.drew.left in
        some_lines taken input.0 drawn (gone.lost ++ random.0) input.2 (random.2 ∙ append_assoc drawn gone.lost random.0) end (λ h. at_end new.source.left input.0 input.1 (has.end h)) [] (asked ∙ sym (append-nil store.asked)) (λ h. refl) (λ h. has.took) (λ h. absurd (other h))

    by : (so : Talks exchange (Err fault) (sides_of old) (sides_of new)) → HasAsked exchange (Err fault) (sides_of old) (sides_of new) store.asked so → HasReplies table form keys told old s new
    by (talks.talked taken drawn r has none) asked = absurd (cc)
    by (talks.passed taken drawn limit r has none) asked = of_talk taken drawn false (passes limit) has asked (lost_nothing _ _ drawn has.drew) (λ h. limit_other limit (sym (of_limit s fault limit ended r) ∙ h))
    by (talks.unread taken drawn r has rose sink entropy) asked = let e : s ≡ status.ReadFault = of_fault s fault talk_faults.ReadFault ended r in of_talk taken drawn false goes has asked (lost_nothing _ _ drawn has.drew) (λ h. absurd (cc))
    by (talks.undrawn taken drawn end r has rose source sink) asked = let e : s ≡ status.EntropyFault = of_fault s fault talk_faults.EntropyFault ended r in of_talk taken drawn end wants has asked has.drew (λ h. absurd (cc))
    by (talks.unwritten taken drawn end r gave drew front at rose source entropy) asked =
        let e : s ≡ status.WriteFault = of_fault s fault talk_faults.WriteFault ended r in
        let input = split new.source.left old.source.left told.input taken tells.input gave.left in
        let random = split new.entropy.left old.entropy.left told.random drawn tells.random drew.left in
        some_lines taken input.0 drawn random.0 input.2 random.2 end (λ h. at_end new.source.left input.0 input.1 (at h)) asked.0 asked.1 (λ other. absurd (other e)) (λ other. absurd (other e)) (λ h. front)
    by (talks.starved taken more drawn part r gave drew took stop none) asked =
        let e : s ≡ status.NoMemory = of_fault s fault talk_faults.NoMemory ended r in
        let input = split new.source.left old.source.left told.input (taken ++ more) tells.input gave.left in
        let random = split new.entropy.left old.entropy.left told.random (drawn ++ part) tells.random drew.left in
        some_lines taken (more ++ input.0) drawn (part ++ random.0) (input.2 ∙ append_assoc taken more input.0) (random.2 ∙ append_assoc drawn part random.0) false (λ h. absurd (cc)) [] (asked ∙ sym (append-nil store.asked)) (λ h. refl) (λ h. took) (λ h. absurd (cc))

talk_ends : TurnsAreReadable → SavesAreTurns → (table : Table) (master : Option Keys) (out : KeysetFile) (saved_only : Bool) (keys : Keys) (told : Told) (old : World) (s : Status) (new : World) → IsKeyset keys → Tells old told → Ends (exchanges (saving_session table master out.form saved_only keys) (saves table master out)) old s new
    → HasReplies table (with_saved_only saved_only (form_under table master out.form)) keys told old s new
talk_ends readable law table master out saved_only keys told old s new is tells (exchanged last mid talk steady later) =
    let so = some_session (saving_session table master out.form saved_only keys) (Ok last) (sides_of old) (sides_of mid) old.store mid.store talk in
    let store = store_gave so.0 told old mid talk.asked tells.files talk.asks so.1 in
    session_done readable law table (with_saved_only saved_only (form_under table master out.form)) so.0 keys last told store old mid s new is tells (λ name bytes has. stays (saves table master out last) mid s new name bytes later has)
    (went (saving_session table master out.form saved_only keys so.0) last talk.asked (sides_of old) (sides_of mid) so.2 so.3) (saved table master out.file out.form last mid s new later)
talk_ends readable law table master out saved_only keys told old s new is tells (exchange_ended fault ended talk steady) =
    let so = some_session (saving_session table master out.form saved_only keys) (Err fault) (sides_of old) (sides_of new) old.store new.store talk in
    let store = store_gave so.0 told old new talk.asked tells.files talk.asks so.1 in
    session_left readable law table (with_saved_only saved_only (form_under table master out.form)) so.0 keys told store old s new fault is tells (λ name bytes has. has) ended so.2 so.3

-- behind a name that was looked up
session_ends : TurnsAreReadable → SavesAreTurns → (table : Table) (master : Option Keys) (out : KeysetFile) (saved_only : Bool) (keys : Keys) (told : Told) (old : World) (s : Status) (new : World) → IsKeyset keys → Tells old told → Ends (holds_session table master out saved_only keys) old s new → HasReplies table (with_saved_only saved_only (form_under table master out.form)) keys told old s new
session_ends readable law table master out saved_only keys told old s new is tells run = by out.file run
  where
    by : (file : Option (List ℕ)) → Ends (finds_free file (λ free. exchanges (saving_session table master out.form saved_only keys) (saves table master out))) old s new → HasReplies table (with_saved_only saved_only (form_under table master out.form)) keys told old s new
    by None run = talk_ends readable law table master out saved_only keys told old s new is tells run
    by (Some name) (look_free store kept stood given holds run) =
        let r = talk_ends readable law table master out saved_only keys told (record old { store = store }) s new is (record { input = tells.input; files = sym kept.files ∙ tells.files; random = tells.random }) run in
        record { answers = r.answers; store = r.store; answered = r.answered; later = r.later; cut = r.cut; all = r.all; whole = r.whole; unasked = r.unasked; files = r.files; none_unasked = r.none_unasked; saved = r.saved; took = r.took; front = r.front; readable = r.readable }
    by (Some name) (look_taken e only kept stood given there) = none_replied table (with_saved_only saved_only (form_under table master out.form)) keys told old s new (λ h. let clash : status.Done ≡ status.OutExists = sym h ∙ e in absurd (cc)) (λ h. let clash : status.WriteFault ≡ status.OutExists = sym h ∙ e in absurd (cc)) (took_same old.sink new.sink only.sink)
    by (Some name) (look_failed e only kept rose given) = none_replied table (with_saved_only saved_only (form_under table master out.form)) keys told old s new (λ h. absurd (cc)) (λ h. absurd (cc)) (took_same old.sink new.sink only.sink)

-- ---- the keyset before it

-- a keyset that is read goes on, or memory was wanting
keyset_ends : (from : Origin) (form : Format) (bytes : List ℕ) (keys : Keys) (next : Keys → Plan) (old : World) (s : Status) (new : World) → read_in form bytes ≡ Some keys → Ends (keyset_in from form bytes next) old s new → Ends (next keys) old s new ⊎ ((s ≡ status.NoMemory) × (old ≡ new))
keyset_ends from formats.Json bytes keys next old s new read (inl run) = inl (subst (λ r. Ends (with_json from (begins_of bytes) (is_wrapped_json bytes) r next) old s new) (ok_of (reads_json bytes) keys read) run)
keyset_ends from formats.Json bytes keys next old s new read (inr starved) = inr starved
keyset_ends from formats.Binary bytes keys next old s new read (inl run) = inl (subst (λ r. Ends (with_keyset from (begins_of bytes) (is_wrapped_binary bytes) r next) old s new) (ok_of (reads_binary bytes) keys read) run)
keyset_ends from formats.Binary bytes keys next old s new read (inr starved) = inr starved

-- and so under a master
under_ends : (from : Origin) (table : Table) (master : Option Keys) (form : Format) (bytes : List ℕ) (keys : Keys) (next : Keys → Plan) (old : World) (s : Status) (new : World) → GivesKeyset table master form bytes keys → Ends (keyset_under from table master form bytes next) old s new → Ends (next keys) old s new ⊎ ((s ≡ status.NoMemory) × (old ≡ new))
under_ends from table None form bytes keys next old s new gives run = keyset_ends from form bytes keys next old s new gives run
under_ends from table (Some over) form bytes keys next old s new gives (inl run) = inl (subst (λ (r : Result Keys Refusal). Ends (with_unwrapped from (begins_of bytes) (is_keyset form bytes) (keyset_sealer form over bytes) r next) old s new) gives run)
under_ends from table (Some over) form bytes keys next old s new gives (inr starved) = inr starved

file_told : (store : StoreState) (files : Files) (name bytes : List ℕ) → store.files ≡ Some files → Holds store name (Some bytes) → map.get files name ≡ Some bytes
file_told store files name bytes told holds = let h : IfSome (Some files) (λ f. map.get f name ≡ Some bytes) = rw told at holds in h

-- memory was wanting
starved_replies : (table : Table) (form : Form) (keys : Keys) (told : Told) (old : World) (s : Status) (new : World) → s ≡ status.NoMemory → old.sink ≡ new.sink → HasReplies table form keys told old s new
starved_replies table form keys told old s new is same = none_replied table form keys told old s new (λ h. absurd (cc)) (λ h. absurd (cc)) (took_same old.sink new.sink same)

-- nothing was written before the session
abbrev none_written : (table : Table) (form : Form) (keys : Keys) (told : Told) (old : World) (s : Status) (new : World) → s ≢ status.Done → s ≢ status.WriteFault → old.sink ≡ new.sink → HasReplies table form keys told old s new
none_written table form keys told old s new undone other same = none_replied table form keys told old s new undone other (took_same old.sink new.sink same)

text_ends : TurnsAreReadable → SavesAreTurns → ReadKeysFit → (table : Table) (master : Option Keys) (name bytes : List ℕ) (form : Format) (out : KeysetFile) (saved_only : Bool) (keys : Keys) (told : Told) (old : World) (s : Status) (new : World) → Tells old told → map.get told.files name ≡ Some bytes → GivesKeyset table master form bytes keys
    → Ends (takes_under origins.Keyset table master (record { file = Some name; form = form }) (holds_session table master out saved_only)) old s new → HasReplies table (with_saved_only saved_only (form_under table master out.form)) keys told old s new
text_ends readable law fit table master name bytes form out saved_only keys told old s new tells there gives (loaded found store kept stood given within holds run) =
    let same : bytes ≡ found = same_Some _ _ (sym there ∙ file_told old.store told.files name found tells.files holds) in
    let mid : World = record old { store = store } in
    let mid_tells : Tells mid told = record { input = tells.input; files = sym kept.files ∙ tells.files; random = tells.random } in
    let is = given_is_keyset fit table master form bytes keys gives (subst (λ l. length l ≤ limit_under master) (sym same) within) in
    by mid mid_tells is refl (under_ends origins.Keyset table master form bytes keys (holds_session table master out saved_only) mid s new gives (subst (λ l. Ends (keyset_under origins.Keyset table master form l (holds_session table master out saved_only)) mid s new) (sym same) run))
  where
    by : (mid : World) → Tells mid told → IsKeyset keys → mid.sink ≡ old.sink → Ends (holds_session table master out saved_only keys) mid s new ⊎ ((s ≡ status.NoMemory) × (mid ≡ new)) → HasReplies table (with_saved_only saved_only (form_under table master out.form)) keys told old s new
    by mid tells is sink (inl run) =
        let r = session_ends readable law table master out saved_only keys told mid s new is tells run in
        record {
          answers = r.answers;
          store = r.store;
          answered = r.answered;
          later = r.later;
          cut = r.cut;
          all = r.all;
          whole = r.whole;
          unasked = r.unasked;
          files = r.files;
          none_unasked = r.none_unasked;
          saved = r.saved;
          took = λ other. subst (λ (k : SinkState). Took k new.sink (replies_text (turns_of table (with_saved_only saved_only (form_under table master out.form)) r.answers keys r.answered told.random))) sink (r.took other);
          front = λ fault. subst (λ (k : SinkState). TookPrefix k new.sink (replies_text (turns_of table (with_saved_only saved_only (form_under table master out.form)) r.answers keys r.answered told.random))) sink (r.front fault);
          readable = r.readable;
        }
    by mid tells is sink (inr (e, same)) = starved_replies table (with_saved_only saved_only (form_under table master out.form)) keys told old s new e (sym sink ∙ ap (λ (w : World). w.sink) same)
text_ends readable law fit table master name bytes form out saved_only keys told old s new tells there gives (load_absent is only kept stood given holds) = none_written table (with_saved_only saved_only (form_under table master out.form)) keys told old s new (λ h. absurd (cc)) (λ h. absurd (cc)) only.sink
text_ends readable law fit table master name bytes form out saved_only keys told old s new tells there gives (load_long is only kept stood given holds) = none_written table (with_saved_only saved_only (form_under table master out.form)) keys told old s new (λ h. absurd (cc)) (λ h. absurd (cc)) only.sink
text_ends readable law fit table master name bytes form out saved_only keys told old s new tells there gives (load_failed is only kept rose given) = none_written table (with_saved_only saved_only (form_under table master out.form)) keys told old s new (λ h. absurd (cc)) (λ h. absurd (cc)) only.sink
text_ends readable law fit table master name bytes form out saved_only keys told old s new tells there gives (load_starved is only kept stood given) = starved_replies table (with_saved_only saved_only (form_under table master out.form)) keys told old s new is only.sink

-- behind a lock
lock_ends : TurnsAreReadable → SavesAreTurns → ReadKeysFit → (table : Table) (lock : Master) (of_lock : List ℕ) (over : Keys) (name bytes : List ℕ) (form : Format) (out : KeysetFile) (saved_only : Bool) (keys : Keys) (told : Told) (old : World) (s : Status) (new : World)
    → Tells old told → map.get told.files lock.file ≡ Some of_lock → read_in lock.form of_lock ≡ Some over → map.get told.files name ≡ Some bytes → GivesKeyset table (Some over) form bytes keys
    → Ends (session_plan table (Some lock) name form out saved_only) old s new → HasReplies table (with_saved_only saved_only (form_under table (Some over) out.form)) keys told old s new
lock_ends readable law fit table lock of_lock over name bytes form out saved_only keys told old s new tells lies read there gives (loaded found store kept stood given within holds run) =
    let same : of_lock ≡ found = same_Some _ _ (sym lies ∙ file_told old.store told.files lock.file found tells.files holds) in
    by_keyset (keyset_ends origins.Master lock.form of_lock over fits mid s new read (subst (λ l. Ends (keyset_in origins.Master lock.form l fits) mid s new) (sym same) run))
  where
    mid : World
    mid = record old { store = store }

    mid_tells : Tells mid told
    mid_tells = record { input = tells.input; files = sym kept.files ∙ tells.files; random = tells.random }

    taken : Option Keys → Plan
    taken master = takes_under origins.Keyset table master (record { file = Some name; form = form }) (holds_session table master out saved_only)

    fits : Keys → Plan
    fits m = handles origins.Master table Aead m (λ fit. taken (Some m))

    by_fit : (u : Option (ℕ × Unfit)) → Ends (unless_unfit (unfit_key origins.Master over) u (taken (Some over))) mid s new → HasReplies table (with_saved_only saved_only (form_under table (Some over) out.form)) keys told old s new
    by_fit None run =
        let r = text_ends readable law fit table (Some over) name bytes form out saved_only keys told mid s new mid_tells there gives run in
        record { answers = r.answers; store = r.store; answered = r.answered; later = r.later; cut = r.cut; all = r.all; whole = r.whole; unasked = r.unasked; files = r.files; none_unasked = r.none_unasked; saved = r.saved; took = r.took; front = r.front; readable = r.readable }
    by_fit (Some found) (is, same) = none_written table (with_saved_only saved_only (form_under table (Some over) out.form)) keys told old s new (λ h. absurd (cc)) (λ h. absurd (cc)) (ap (λ (w : World). w.sink) same)

    by_handles : Ends (fits over) mid s new → HasReplies table (with_saved_only saved_only (form_under table (Some over) out.form)) keys told old s new
    by_handles (inl run) = by_fit (unfit over Aead table) run
    by_handles (inr (is, same)) = starved_replies table (with_saved_only saved_only (form_under table (Some over) out.form)) keys told old s new is (ap (λ (w : World). w.sink) same)

    by_keyset : Ends (fits over) mid s new ⊎ ((s ≡ status.NoMemory) × (mid ≡ new)) → HasReplies table (with_saved_only saved_only (form_under table (Some over) out.form)) keys told old s new
    by_keyset (inl run) = by_handles run
    by_keyset (inr (is, same)) = starved_replies table (with_saved_only saved_only (form_under table (Some over) out.form)) keys told old s new is (ap (λ (w : World). w.sink) same)
lock_ends readable law fit table lock of_lock over name bytes form out saved_only keys told old s new tells lies read there gives (load_absent is only kept stood given holds) = none_written table (with_saved_only saved_only (form_under table (Some over) out.form)) keys told old s new (λ h. absurd (cc)) (λ h. absurd (cc)) only.sink
lock_ends readable law fit table lock of_lock over name bytes form out saved_only keys told old s new tells lies read there gives (load_long is only kept stood given holds) = none_written table (with_saved_only saved_only (form_under table (Some over) out.form)) keys told old s new (λ h. absurd (cc)) (λ h. absurd (cc)) only.sink
lock_ends readable law fit table lock of_lock over name bytes form out saved_only keys told old s new tells lies read there gives (load_failed is only kept rose given) = none_written table (with_saved_only saved_only (form_under table (Some over) out.form)) keys told old s new (λ h. absurd (cc)) (λ h. absurd (cc)) only.sink
lock_ends readable law fit table lock of_lock over name bytes form out saved_only keys told old s new tells lies read there gives (load_starved is only kept stood given) = starved_replies table (with_saved_only saved_only (form_under table (Some over) out.form)) keys told old s new is only.sink

plan_ends : TurnsAreReadable → SavesAreTurns → ReadKeysFit → (table : Table) (lock : Lock) (name : List ℕ) (form : Format) (out : KeysetFile) (saved_only : Bool) (keys : Keys) (told : Told) (old : World) (s : Status) (new : World) → Tells old told → (bytes : List ℕ) → map.get told.files name ≡ Some bytes → (master : Option Keys) → MasterThere lock told master → GivesKeyset table master form bytes keys
    → Ends (session_plan table lock name form out saved_only) old s new → HasReplies table (with_saved_only saved_only (form_under table master out.form)) keys told old s new
plan_ends readable law fit table None name form out saved_only keys told old s new tells bytes there None read gives run = text_ends readable law fit table None name bytes form out saved_only keys told old s new tells there gives run
plan_ends readable law fit table None name form out saved_only keys told old s new tells bytes there (Some over) read gives run = absurd read
plan_ends readable law fit table (Some lock) name form out saved_only keys told old s new tells bytes there None read gives run = absurd read
plan_ends readable law fit table (Some lock) name form out saved_only keys told old s new tells bytes there (Some over) (of_lock, lies, read) gives run =
    lock_ends readable law fit table lock of_lock over name bytes form out saved_only keys told old s new tells lies read there gives run

pub readable_ends : TurnsAreReadable → SavesAreTurns → ReadKeysFit → SessionsAreReadable
readable_ends readable law fit table words old s new (inl run) = record {
  replies = λ told lock name form out saved_only keys tells is gives.
      plan_ends readable law fit table lock name form out saved_only keys told old s new tells gives.bytes gives.there gives.master gives.read gives.gives (subst (λ p. Ends p old s new) (ap (λ r. asked_plan table r words) is) run);
}
readable_ends readable law fit table words old s new (inr (is, same)) = record {
  replies = λ told lock name form out saved_only keys tells asked gives. starved_replies table (with_saved_only saved_only (form_under table gives.master out.form)) keys told old s new is (ap (λ (w : World). w.sink) same);
}
