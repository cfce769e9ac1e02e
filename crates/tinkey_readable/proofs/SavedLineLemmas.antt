-- What a line of a session saved, and what its lines made.
use Rattle.std.proofs.Common.{arith, ◌≡◌, ◌∙◌, inl, inr, sym, refl, ap, subst, ℕ, zero, suc, ◌≤◌, Bool, true, false, cond, List, [], ◌∷◌, ◌++◌, length, take, drop, map as each, Option, Some, None, Ok}
use Rattle.std.specs.Prelude.{find, slice_get}
use Rattle.std.specs.FinMap as map
use Rattle.std.specs.List.{flat_map}
use Rattle.std.proofs.lemmas.List.{take-append-drop}
use Rattle.std.proofs.lemmas.Option.{same_Some}
use Rattle.keyset_model.specs.Keyset.{Keys, fault_of, is_primary, primary_of}
use Rattle.keyset_model.specs.declared.record.Record.{Record}
use Rattle.managers.specs.Standard.{standard_table}
use Rattle.seal_wrap.specs.Sealings.{DsealingsFit, SealingsFit}
use Rattle.tinkey_session.proofs.EnabledLemmas.{enabled_is_alone}
use Rattle.tinkey_session.proofs.KeptLineLemmas.{session_ids_stay_distinct}
use Rattle.tinkey_session.proofs.Options.{clash}
use Rattle.tinkey_session.specs.HeldLaws.{AreBytes, AreStored}
use Rattle.tinkey_session.specs.KeptKeys.{HasDistinctIds}
use Rattle.tinkey_session.specs.Laws.{KeptDopen, KeptOpen}
use Rattle.tinkey_session.specs.Lines.{Line, Save, line_of}
use Rattle.tinkey_session.specs.Reading.{IsWithin}
use Rattle.tinkey_session.specs.Saving.{Agrees, Form, by_files, files_after, files_of, iv_drawn, resolved, written_by, with_saved_only}
use Rattle.tinkey_session.specs.Serving.{Served, serve}
use Rattle.tinkey_session.specs.Session.{Remains, Turn, asked_in, lines_by, remains, turns}
use Rattle.tinkey_session.specs.TalkLaws.{IsTurnsOf, SavesAreTurns}
use Rattle.tinkey_session.specs.Talking.{Stop, Talk, goes, line_limit, long_line, many_lines, passes, wants}
use Rattle.tinkey_session.specs.declared.reply.Reply.TheVariants.{Done}
use Rattle.wrapped_prims.specs.Candidates.{prefix_of}
use Rattle.wrapped_prims.specs.Fitness.{unfit}
use Rattle.wrapped_prims.specs.Laws.{HasKey, HasSameKey, IsKeyset}
use Rattle.tinkey_plans.specs.Commands.{command_plan}
use Rattle.tinkey_plans.specs.Locks.{limit_under}
use Rattle.tinkey_plans.specs.Plan.{Answer, Told, answer}
use Rattle.tinkey_plans.specs.Session.{form_under}
use Rattle.tinkey_plans.specs.Steps.{keyset_limit}
use Rattle.tinkey_plans.specs.Wrapping.{wrapped_limit}
use Rattle.tinkey_readable.proofs.DoneSessionLemmas.{session_reached, stands}
use Rattle.tinkey_readable.proofs.FilesAfterLemmas.{agrees_later, agrees_lines, made_stays, save_keeps}
use Rattle.tinkey_readable.proofs.LineRunLemmas.{input_fits, line_at}
use Rattle.tinkey_readable.proofs.LockLemmas.{given_is_keyset}
use Rattle.tinkey_readable.proofs.LockedRunLemmas.{StepLaws, UnderSeal, given_again, session_left}
use Rattle.tinkey_readable.proofs.ResealLemmas.{dresealed_reads, resealed_reads}
use Rattle.tinkey_readable.proofs.RunLemmas.{each_of, kept, read_faultless}
use Rattle.tinkey_readable.proofs.SavedFormLemmas.{made_file, saved_at, written_clear, written_under}
use Rattle.tinkey_readable.proofs.SessionLineLemmas.{LineThere, front_lines, line_there, turns_front, work_read}
use Rattle.tinkey_readable.specs.Anywhere.{DopensAnywhere, DopensSomehowAnywhere, IsReadAnywhere, IsReadSomehowAnywhere, OpensAnywhere, OpensSomehowAnywhere, VerifiesAnywhere, WasMadeBy, by_line, by_locked_line}
use Rattle.tinkey_readable.specs.LineRuns.{IsTurnAt, asks}
use Rattle.tinkey_readable.specs.LockedRuns.{IsDoneUnder}
use Rattle.tinkey_readable.specs.Lying.{GivesKeyset, LiesThere, OpensLock, OpensMaster}
use Rattle.tinkey_readable.specs.Runs.{IsDone, Written, keyset_of, told_session}
use Rattle.tinkey_readable.specs.SavedLines.{SessionStarts, HasMade, HasSaved, IsSavedFile, LinesMake, ReadsLines, SavedInClear, SavedUnderMaster, StillAlone, StillThere, session_turns}
use Rattle.tinkey_words.specs.declared.words.rows.Format.{Format}
use Rattle.tinkey_words.specs.Words.{AskedWork, KeysetFile, Lock, primitive_for, session, to_dopen, to_dreseal, to_dseal, to_open, to_reseal, to_seal, to_tag, to_verify}

-- ---- the turns of a told session

-- what is known of sessions, keysets and what is read
pub record SavedLaws : Type 0 where
  pub step : StepLaws
  pub opens : OpensAnywhere
  pub dopens : DopensAnywhere
  pub verifies : VerifiesAnywhere
  pub opens_somehow : OpensSomehowAnywhere
  pub dopens_somehow : DopensSomehowAnywhere
  pub sizes : SealingsFit
  pub dsizes : DsealingsFit
  pub kept_open : KeptOpen
  pub kept_dopen : KeptDopen

-- how a told session saves
abbrev pub form_of : (master : Option Keys) → Format → (saved_only : Bool) → Form
form_of master form saved_only = with_saved_only saved_only (form_under standard_table master form)

-- the lines that were answered, of which its turns are
abbrev Answered : (master : Option Keys) → Format → (saved_only : Bool) → Keys → Told → Type 0
Answered master form saved_only keys told = IsTurnsOf standard_table
    (λ answered. lines_by standard_table (resolved (form_of master form saved_only) (by_files told.files)) [] false keys (each line_of answered) told.random)
    keys told.input told.random true (told_session standard_table master form saved_only keys told)

answered_lines : (master : Option Keys) (form : Format) (saved_only : Bool) (keys : Keys) (told : Told) (t : Answered master form saved_only keys told) → take (told_session standard_table master form saved_only keys told).count (asked_in told.input) ≡ each line_of t.answered
answered_lines master form saved_only keys told t =
    ap (λ ls. take (told_session standard_table master form saved_only keys told).count (each line_of ls)) t.cut
    ∙ front_lines t.answered t.later (told_session standard_table master form saved_only keys told).count t.count

abbrev Place : (master : Option Keys) → Format → (saved_only : Bool) → Keys → Told → List (List ℕ) → ℕ → Turn → Type 0
Place master form saved_only keys told lines i turn = LineThere standard_table (form_of master form saved_only) (by_files told.files) [] false keys (each line_of lines) told.random i turn

placed : (master : Option Keys) (form : Format) (saved_only : Bool) (keys : Keys) (told : Told) (t : Answered master form saved_only keys told) (i : ℕ) (turn : Turn) → slice_get (session_turns master form saved_only keys told) i ≡ Some turn → Place master form saved_only keys told t.answered i turn
placed master form saved_only keys told t i turn at =
    line_there standard_table (form_of master form saved_only) (by_files told.files) [] false keys (each line_of t.answered) told.random i turn
    (subst (λ ls. slice_get (turns standard_table keys (lines_by standard_table (resolved (form_of master form saved_only) (by_files told.files)) [] false keys ls told.random) told.random) i ≡ Some turn) (answered_lines master form saved_only keys told t) at)

-- ---- what a line made

-- its turn is one of the whole session
turn_at : (master : Option Keys) (form : Format) (saved_only : Bool) (keys : Keys) (told : Told) (i : ℕ) (turn : Turn) → slice_get (session_turns master form saved_only keys told) i ≡ Some turn → IsTurnAt (form_of master form saved_only) (by_files told.files) keys told i turn
turn_at master form saved_only keys told i turn at =
    let n = (told_session standard_table master form saved_only keys told).count in
    let lines = asked_in told.input in
    subst (λ ls. slice_get (turns standard_table keys (lines_by standard_table (resolved (form_of master form saved_only) (by_files told.files)) [] false keys ls told.random) told.random) i ≡ Some turn) (take-append-drop n lines)
    (turns_front standard_table (form_of master form saved_only) (by_files told.files) [] false keys (take n lines) (drop n lines) told.random i turn at)

-- its input is short, as its line is
made_within : SavesAreTurns → (master : Option Keys) (form : Format) (saved_only : Bool) (keys : Keys) (told : Told) (work : AskedWork) (input output : List ℕ) (r : Record) → HasMade (session_turns master form saved_only keys told) work input output r → IsWithin line_limit (asks work input)
made_within law master form saved_only keys told work input output r made =
    let t = law standard_table (form_of master form saved_only) (by_files told.files) keys told.input told.random true in
    let p = placed master form saved_only keys told t made.place made.t made.there in
    let read = work_read (form_of master form saved_only) (by_files told.files) (flat_map files_of p.front) p.unsaved' made.t.before p.left p.line work input (sym p.is ∙ made.line) in
    subst (IsWithin line_limit) read (line_at t.answered made.place p.line t.short p.at)

pub lines_make : SavesAreTurns → LinesMake
lines_make law lock name form out saved_only told keys begun work input output r made = by lock begun.master begun.opens begun.lies made
  where
    by : (lock : Lock) (master : Option Keys) → OpensLock standard_table lock told master → (lies : LiesThere standard_table master (record { file = Some name; form = form }) told keys)
        → HasMade (session_turns master out.form saved_only keys told) work input output r → WasMadeBy work input output r
    by None None opens lies made =
        let fits = input_fits work input (made_within law None out.form saved_only keys told work input output r made) in
        by_line (record { bytes = lies.bytes; form = form }) told made.t (record {
          keys = keys;
          read = lies.gives;
          form = form_of None out.form saved_only;
          answers = by_files told.files;
          place = made.place;
          there = turn_at None out.form saved_only keys told made.place made.t made.there;
        }) fits made.line made.reply made.primary
    by (Some lock) (Some over) opens lies made =
        let fits = input_fits work input (made_within law (Some over) out.form saved_only keys told work input output r made) in
        by_locked_line (record { bytes = opens.lies.bytes; form = lock.form }) (record { bytes = lies.bytes; form = form }) told made.t (record {
          over = over;
          read = opens.lies.gives;
          keys = keys;
          gives = lies.gives;
          form = form_of (Some over) out.form saved_only;
          answers = by_files told.files;
          place = made.place;
          there = turn_at (Some over) out.form saved_only keys told made.place made.t made.there;
        }) fits made.line made.reply made.primary
    by None (Some over) opens lies made = absurd opens
    by (Some lock) None opens lies made = absurd opens

-- ---- what a line saved

-- the keyset before the line, how it came to be, and the bytes that it became
record SavedThere (master : Option Keys) (form : Format) (saved_only : Bool) (keys : Keys) (told : Told) (file : List ℕ) (saved : Keys) : Type 0 where
  front : List Line
  left : List ℕ
  goes : remains standard_table keys front told.random ≡ Some (record { keys = saved; left = left })
  bytes : List ℕ
  written : written_by (form_of master form saved_only) saved left ≡ Ok bytes
  there : map.get (files_after told.files (told_session standard_table master form saved_only keys told).asked) file ≡ Some bytes

saved_there : SavesAreTurns → (master : Option Keys) (form : Format) (saved_only : Bool) (keys : Keys) (told : Told) (file : List ℕ) (saved : Keys) → HasSaved (session_turns master form saved_only keys told) file saved → SavedThere master form saved_only keys told file saved
saved_there law master form saved_only keys told file saved has =
    let f = form_of master form saved_only in
    let answers = by_files told.files in
    let t = law standard_table f answers keys told.input told.random true in
    let turn : Turn = record { before = saved; line = Save file has.outcome; reply = Done } in
    let s = saved_at standard_table f answers keys (each line_of t.answered) told.random has.place turn file has.outcome (placed master form saved_only keys told t has.place turn has.there) refl refl in
    let agrees = agrees_lines standard_table f answers [] false keys (each line_of t.answered) told.random t.last t.remains' in
    let split = t.asked ∙ s.split in
    let agrees' : Agrees answers [] (s.first ++ made_file file s.bytes ∷ s.later) = subst (Agrees answers []) s.split agrees in
    record {
      front = s.front;
      left = s.left;
      goes = s.goes;
      bytes = s.bytes;
      written = s.written;
      there = ap (λ l. map.get (files_after told.files l) file) split ∙ made_stays told.files s.first (made_file file s.bytes) s.later (agrees_later answers [] s.first (made_file file s.bytes ∷ s.later) agrees') refl;
    }

-- ---- the file after the run

-- it is there whatever stops the session
pub there_after : (lock : Lock) (name : List ℕ) (form : Format) (out : KeysetFile) (saved_only : Bool) (told : Told) (keys : Keys) (begun : SessionStarts lock name form out told keys) (file bytes : List ℕ)
    → map.get (files_after told.files (told_session standard_table begun.master out.form saved_only keys told).asked) file ≡ Some bytes
    → map.get (answer (command_plan standard_table (session lock name form out saved_only)) told).files file ≡ Some bytes
there_after lock name form out saved_only told keys begun file bytes at =
    ap (λ (a : Answer). map.get a.files file) (session_reached standard_table lock name form out saved_only told begun.master keys begun.opens begun.lies begun.free) ∙ by x.stop
  where
    x : Talk
    x = told_session standard_table begun.master out.form saved_only keys told

    made : Told
    made = record told { files = files_after told.files x.asked }

    by : (stop : Stop) → map.get (stands standard_table begun.master keys out saved_only told stop).files file ≡ Some bytes
    by goes = save_keeps standard_table file bytes begun.master out.file out.form x.keys (record made { input = []; random = x.random }) at
    by wants = at
    by (passes long_line) = at
    by (passes many_lines) = at

-- ---- what is known of the keyset that was saved

pub record SavedKeyset (keys saved : Keys) : Type 0 where
  pub faultless : fault_of saved ≡ None
  pub stored : AreStored saved
  pub distinct : HasDistinctIds keys → HasDistinctIds saved

saved_keyset : StepLaws → (master : Option Keys) (form : Format) (saved_only : Bool) (keys : Keys) (told : Told) (file : List ℕ) (saved : Keys) → IsKeyset keys → AreStored keys → AreBytes told.random → SavedThere master form saved_only keys told file saved → SavedKeyset keys saved
saved_keyset l master form saved_only keys told file saved keyset stored random s =
    let m : Remains = record { keys = saved; left = s.left } in
    record {
      faultless = (l.edited keys saved (l.sessions standard_table keys s.front told.random m s.goes) keyset).faultless;
      stored = l.keep_sessions standard_table keys s.front told.random m random stored s.goes;
      distinct = λ distinct. session_ids_stay_distinct standard_table keys s.front told.random m distinct s.goes;
    }

-- a key that is found is there
found_place : (test : Record → Bool) (xs : List Record) (x : Record) → find test xs ≡ Some x → (i : ℕ) × (slice_get xs i ≡ Some x)
found_place test [] x e = clash e
found_place test (y ∷ xs) x e = (elim (test y) as (λ (b : Bool). cond b (Some y) (find test xs) ≡ Some x → (i : ℕ) × (slice_get (y ∷ xs) i ≡ Some x)) [
  | true ↦ λ h. (0, h)
  | false ↦ λ h. let p = found_place test xs x h in (suc p.0, p.1)
]) e

-- the primary key is there, ENABLED
primary_there : StepLaws → (keys : Keys) (r : Record) → fault_of keys ≡ None → primary_of keys ≡ Some r → HasKey r keys
primary_there l keys r faultless primary =
    let known = ((l.faultless keys).0 faultless).primary in
    let same : known.0 ≡ r = same_Some _ _ (sym known.1 ∙ primary) in
    let p = found_place (is_primary keys.primary) keys.records r primary in
    record {
      place = p.0;
      other = r;
      there = p.1;
      same = record { enabled = ap (λ x. x.status) (sym same) ∙ known.3; id = refl; prefix = refl; url = refl; value = refl; material = refl };
    }

still_there : StepLaws → (keys saved : Keys) (r : Record) → SavedKeyset keys saved → StillThere r saved → HasKey r saved
still_there l keys saved r k (inl has) = has
still_there l keys saved r k (inr primary) = primary_there l saved r k.faultless primary

still_alone : StepLaws → (keys saved : Keys) (r : Record) (prefix : List ℕ) → SavedKeyset keys saved → prefix_of r ≡ Some prefix → StillAlone r keys saved → HasSameKey r saved
still_alone l keys saved r prefix k is (inl same) = same
still_alone l keys saved r prefix k is (inr (primary, distinct)) =
    enabled_is_alone saved r prefix (k.distinct distinct) (each_of saved.records (λ x s. s.held.id) k.stored) is (primary_there l saved r k.faultless primary)

-- ---- what is read over it

-- what is read anywhere is read over it
abbrev pub ReadsThere : (saved : Keys) → (AskedWork → (input output : List ℕ) → Type 0) → Type 1
ReadsThere saved Reads = (While : Record → Keys → Type 0) (work : AskedWork) (input output : List ℕ) (r : Record) → IsReadAnywhere While work input output r → While r saved → unfit saved (primitive_for work) standard_table ≡ None → Reads work input output

abbrev pub SomehowThere : (saved : Keys) → (AskedWork → (input output : List ℕ) → Type 0) → Type 0
SomehowThere saved Reads = (work : AskedWork) (input : List ℕ) (r : Record) → IsReadSomehowAnywhere work input r → HasKey r saved → unfit saved (primitive_for work) standard_table ≡ None → (other : List ℕ) × Reads work input other

-- the line that resealed
pub reseal_served : SavesAreTurns → (master : Option Keys) (form : Format) (saved_only : Bool) (keys : Keys) (told : Told) (i : ℕ) (t : Turn) → slice_get (session_turns master form saved_only keys told) i ≡ Some t → (random : List ℕ) × (x : Served) × (serve standard_table t.before t.line random ≡ Some x) × (t.reply ≡ x.reply)
reseal_served law master form saved_only keys told i t at =
    let p = placed master form saved_only keys told (law standard_table (form_of master form saved_only) (by_files told.files) keys told.input told.random true) i t at in
    (p.left, p.served, p.serves, p.reply)

pub reads_lines : SavedLaws → (lock : Lock) (name : List ℕ) (form : Format) (out : KeysetFile) (saved_only : Bool) (told : Told) (keys saved : Keys) (begun : SessionStarts lock name form out told keys) → SavedKeyset keys saved
    → (Reads : AskedWork → (input output : List ℕ) → Type 0) → ReadsThere saved Reads → SomehowThere saved Reads → ReadsLines (session_turns begun.master out.form saved_only keys told) keys saved Reads
reads_lines l lock name form out saved_only told keys saved begun k Reads reads somehow = record {
  opens = λ ad plain sealed prefix r made is still fit.
      reads HasSameKey (to_open ad) sealed plain r (l.opens ad plain sealed prefix r is (makes (to_seal ad) plain sealed r made)) (alone r prefix is still) fit;
  reopens = λ ad old new prefix r made is still fit.
      let s = reseal_served law begun.master out.form saved_only keys told made.place made.t made.there in
      let short = (made_within law begun.master out.form saved_only keys told (to_reseal ad) old new r made).0 in
      let w = resealed_reads l.sizes l.kept_open ad old new prefix r made.t.before s.0 s.1 (subst (λ asked. serve standard_table made.t.before asked s.0 ≡ Some s.1) made.line s.2) (sym s.3 ∙ made.reply) made.primary is (omega (arith, short)) in
      (w.0, w.1, reads HasSameKey (to_open ad) new w.0 r w.2 (alone r prefix is still) fit);
  dopens = λ ad plain sealed prefix r made is still fit.
      reads HasSameKey (to_dopen ad) sealed plain r (l.dopens ad plain sealed prefix r is (makes (to_dseal ad) plain sealed r made)) (alone r prefix is still) fit;
  redopens = λ ad old new prefix r made is still fit.
      let s = reseal_served law begun.master out.form saved_only keys told made.place made.t made.there in
      let short = (made_within law begun.master out.form saved_only keys told (to_dreseal ad) old new r made).0 in
      let w = dresealed_reads l.dsizes l.kept_dopen ad old new prefix r made.t.before s.0 s.1 (subst (λ asked. serve standard_table made.t.before asked s.0 ≡ Some s.1) made.line s.2) (sym s.3 ∙ made.reply) made.primary is (omega (arith, short)) in
      (w.0, w.1, reads HasSameKey (to_dopen ad) new w.0 r w.2 (alone r prefix is still) fit);
  opens_present = λ ad plain sealed r made still fit.
      somehow (to_open ad) sealed r (l.opens_somehow ad plain sealed r (makes (to_seal ad) plain sealed r made)) (still_there l.step keys saved r k still) fit;
  dopens_present = λ ad plain sealed r made still fit.
      somehow (to_dopen ad) sealed r (l.dopens_somehow ad plain sealed r (makes (to_dseal ad) plain sealed r made)) (still_there l.step keys saved r k still) fit;
  verifies = λ tag body r made still fit.
      reads HasKey (to_verify tag) body [] r (l.verifies tag body r (makes to_tag body tag r made)) (still_there l.step keys saved r k still) fit;
}
  where
    law : SavesAreTurns
    law = l.step.turns

    makes : (work : AskedWork) (input output : List ℕ) (r : Record) → HasMade (session_turns begun.master out.form saved_only keys told) work input output r → WasMadeBy work input output r
    makes work input output r made = lines_make law lock name form out saved_only told keys begun work input output r made

    alone : (r : Record) (prefix : List ℕ) → prefix_of r ≡ Some prefix → StillAlone r keys saved → HasSameKey r saved
    alone r prefix is still = still_alone l.step keys saved r prefix k is still

-- ---- in clear

pub saved_in_clear : SavedLaws → SavedInClear
saved_in_clear l name file form out saved_only told keys saved begun holds random has = by begun.master begun.opens refl
  where
    step : StepLaws
    step = l.step

    by : (master : Option Keys) → OpensLock standard_table None told master → master ≡ begun.master → IsSavedFile (session_turns None out.form saved_only keys told) keys saved out.form (map.get (answer (command_plan standard_table (session None name form out saved_only)) told).files file)
    by (Some over) opens same = absurd opens
    by None opens same =
        let s = saved_there step.turns None out.form saved_only keys told file saved has in
        let clear : LiesThere standard_table None (record { file = Some name; form = form }) told keys = record { bytes = begun.lies.bytes; there = begun.lies.there; within = subst (λ m. length begun.lies.bytes ≤ limit_under m) (sym same) begun.lies.within; gives = subst (λ m. GivesKeyset standard_table m form begun.lies.bytes keys) (sym same) begun.lies.gives } in
        let before : Written = record { bytes = begun.lies.bytes; form = form } in
        let stored = step.stored before keys holds clear.within clear.gives in
        let keyset : IsKeyset keys = record { faultless = read_faultless before keys clear.gives; words = each_of keys.records (λ r x. x.held.id) stored } in
        let k = saved_keyset step None out.form saved_only keys told file saved keyset stored random s in
        let w = written_clear standard_table out.form saved (take (iv_drawn (form_of None out.form saved_only) saved) s.left) s.bytes s.written in
        let put : Written = record { bytes = s.bytes; form = out.form } in
        let keeps = kept step.faultless step.binary step.json saved out.form put (Some s.bytes) refl refl (ap Some (sym w.0)) w.1 k.faultless k.stored in
        let start : SessionStarts None name form out told keys = record { master = None; opens = tt; lies = clear; free = begun.free } in
        record {
          file = put;
          is = there_after None name form out saved_only told keys start file s.bytes s.there;
          same = refl;
          keeps = keeps;
          reads = reads_lines l None name form out saved_only told keys saved start k (λ work input output. IsDone work put input output)
              (λ While work input output r read while' fit. read.by_run put saved (record { read = keeps.read; within = keeps.within; fit = fit }) while')
              (λ work input r read has fit. read.by_run put saved (record { read = keeps.read; within = keeps.within; fit = fit }) has);
        }

-- ---- under a master

bytes_taken : (n : ℕ) (xs : List ℕ) → AreBytes xs → AreBytes (take n xs)
bytes_taken zero xs all = tt
bytes_taken (suc n) [] all = tt
bytes_taken (suc n) (x ∷ xs) all = (all.0, bytes_taken n xs all.1)

pub saved_under_master : SavedLaws → SavedUnderMaster
saved_under_master l lock name file form out saved_only told over keys saved master lock_form lies begun opened stored random has =
    let s = saved_there step.turns (Some over) out.form saved_only keys told file saved has in
    let keyset = given_is_keyset over before keys start.lies.gives in
    let k = saved_keyset step (Some over) out.form saved_only keys told file saved keyset stored random s in
    let iv = take (iv_drawn (form_of (Some over) out.form saved_only) saved) s.left in
    let w = written_under standard_table over out.form saved iv s.bytes s.written in
    let text : Written = record { bytes = s.bytes; form = out.form } in
    let left = session_left standard_table keys s.front told.random (record { keys = saved; left = s.left }) random s.goes in
    let within : length text.bytes ≤ wrapped_limit = subst (λ b. length b ≤ wrapped_limit) w.text w.within in
    let seal : UnderSeal master text saved = record {
      over = over;
      read = ap (λ b. keyset_of (record { bytes = b; form = master.form })) (sym bytes) ∙ ap (λ f. keyset_of (record { bytes = opens.lies.bytes; form = f })) (sym lock_form) ∙ opens.lies.gives;
      within = subst (λ b. length b ≤ keyset_limit) bytes opens.lies.within;
      random = iv;
      bytes = bytes_taken (iv_drawn (form_of (Some over) out.form saved_only) saved) s.left left;
      wrapped = w.wrapped;
      is = w.is;
      same = w.text;
      short = within;
      faultless = k.faultless;
      stored = k.stored;
    } in
    record {
      text = text;
      is = there_after (Some lock) name form out saved_only told keys start file s.bytes s.there;
      same = refl;
      within = within;
      gives = λ later still. given_again step master later text saved still seal;
      reads = λ later still serves. reads_lines l (Some lock) name form out saved_only told keys saved start k (λ work input output. IsDoneUnder work later text input output)
          (λ While work input output r read while' fit. read.by_locked later text saved (record { over = still.new; opens = serves; gives = given_again step master later text saved still seal; within = within; fit = fit }) while')
          (λ work input r read has fit. read.by_locked later text saved (record { over = still.new; opens = serves; gives = given_again step master later text saved still seal; within = within; fit = fit }) has);
    }
  where
    step : StepLaws
    step = l.step

    start : SessionStarts (Some lock) name form out told keys
    start = record {
      master = Some over;
      opens = subst (OpensLock standard_table (Some lock) told) opened begun.opens;
      lies = subst (λ m. LiesThere standard_table m (record { file = Some name; form = form }) told keys) opened begun.lies;
      free = begun.free;
    }

    before : Written
    before = record { bytes = start.lies.bytes; form = form }

    opens : OpensMaster standard_table lock told over
    opens = start.opens

    bytes : opens.lies.bytes ≡ master.bytes
    bytes = same_Some _ _ (sym opens.lies.there ∙ lies)
