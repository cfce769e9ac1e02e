-- What the lines of a session with --saved made, and over which file it is read.
use Rattle.std.proofs.Common.{◌≡◌, ◌∙◌, inl, inr, sym, refl, ap, subst, ℕ, ◌≤◌, true, false, List, [], length, take, map as each, Option, Some, None, option_map}
use Rattle.std.specs.FinMap as map
use Rattle.std.proofs.lemmas.Option.{same_Some}
use Rattle.key_msgs.specs.declared.primitive.Primitive.TheVariants.{Aead, Daead, Mac}
use Rattle.keyset_model.specs.Keyset.{Keys}
use Rattle.keyset_model.specs.declared.record.Record.{Record}
use Rattle.managers.specs.Standard.{standard_table}
use Rattle.tinkey_session.specs.Lines.{Dreseal, Dseal, Line, Reseal, Save, Seal, Tag, line_of}
use Rattle.tinkey_session.specs.Saving.{Agrees, by_files, makes, with_saved_only}
use Rattle.tinkey_session.specs.Serving.{Served, computed, if_opened, sealed_reply, serve}
use Rattle.tinkey_session.specs.Session.{Turn, asked_in}
use Rattle.tinkey_session.specs.TalkLaws.{SavedBeforeSealing, SavesAreTurns, WasSaved}
use Rattle.tinkey_session.specs.declared.reply.Reply.{Reply}
use Rattle.tinkey_session.specs.declared.reply.Reply.TheVariants.{Done, Gives}
use Rattle.wrapped_prims.specs.Answers.{dopen_answer, dseal_answer, open_answer, seal_answer, tag_answer}
use Rattle.wrapped_prims.specs.Fitness.{unfit}
use Rattle.tinkey_plans.specs.Commands.{command_plan}
use Rattle.tinkey_plans.specs.Locks.{limit_under}
use Rattle.tinkey_plans.specs.Plan.{Answer, Told, answer}
use Rattle.tinkey_plans.specs.Session.{form_under}
use Rattle.tinkey_readable.proofs.FilesAfterLemmas.{agrees_lines, stays_there}
use Rattle.tinkey_readable.proofs.LineRunLemmas.{computed_gave, gave}
use Rattle.tinkey_readable.proofs.LockLemmas.{given_is_keyset}
use Rattle.tinkey_readable.proofs.LockedRunLemmas.{StepLaws}
use Rattle.tinkey_readable.proofs.RunLemmas.{read_faultless}
use Rattle.tinkey_readable.proofs.SavedLineLemmas.{SavedKeyset, SavedLaws, form_of, reads_lines, reseal_served, saved_in_clear, saved_under_master, there_after}
use Rattle.tinkey_readable.specs.Anywhere.{Serves}
use Rattle.tinkey_readable.specs.LineRuns.{asks}
use Rattle.tinkey_readable.specs.Lying.{GivesKeyset, LiesThere, OpensLock, OpensMaster}
use Rattle.tinkey_readable.specs.Runs.{Written, keyset_of, told_session}
use Rattle.tinkey_readable.specs.SavedLines.{HasMade, HasSaved, ReadsLines, SessionStarts, session_turns}
use Rattle.tinkey_readable.specs.SavedReplies.{IsReadAfter, IsReadUnder, ReadsAll, SavedBefore, SavedReplies, SavedRepliesInClear, SavedRepliesUnderMaster}
use Rattle.tinkey_words.specs.declared.words.rows.Format.{Format}
use Rattle.tinkey_words.specs.Words.{AskedWork, KeysetFile, Lock, session, to_dreseal, to_dseal, to_reseal, to_seal, to_tag}

-- ---- the keyset before a line

-- the line that saved, as it stands among the turns
saved_before : (ts : List Turn) (i : ℕ) (t : Turn) → WasSaved ts i t → SavedBefore ts i t.before
saved_before ts i t was =
    let same : was.save ≡ record { before = t.before; line = Save was.name was.outcome; reply = Done } = same_turn was.save t.before (Save was.name was.outcome) Done was.same was.saves was.done in
    record { file = was.name; has = record { place = was.j; outcome = was.outcome; there = was.at ∙ ap Some same }; earlier = was.earlier }
  where
    same_turn : (save : Turn) (before : Keys) (line : Line) (reply : Reply) → save.before ≡ before → save.line ≡ line → save.reply ≡ reply → save ≡ record { before = before; line = line; reply = reply }
    same_turn save before line reply e f g =
        ap (λ (b : Keys). record { before = b; line = save.line; reply = save.reply }) e
        ∙ ap (λ (l : Line). record { before = before; line = l; reply = save.reply }) f
        ∙ ap (λ (r : Reply). record { before = before; line = line; reply = r }) g

pub saved_replies : SavedBeforeSealing → SavedReplies
saved_replies law lock name form out told keys starts work input output r is made =
    let f = with_saved_only true (form_under standard_table starts.master out.form) in
    let lines = take (told_session standard_table starts.master out.form true keys told).count (asked_in told.input) in
    elim (law standard_table f (by_files told.files) keys lines told.random made.place made.t output refl made.there (ap makes made.line ∙ is) made.reply) [
      | inl same ↦ inl same
      | inr was ↦ inr (saved_before (session_turns starts.master out.form true keys told) made.place made.t was)
    ]

-- ---- it serves, as it made something

fit_seal : (keys : Keys) (ad plain sealed random : List ℕ) (x : Served) → serve standard_table keys (Seal plain ad) random ≡ Some x → x.reply ≡ Gives sealed → unfit keys Aead standard_table ≡ None
unfolding serve
fit_seal keys ad plain sealed random x e is = (gave Aead keys random (option_map (sealed_reply keys) (seal_answer keys standard_table plain ad random)) x sealed e is).0

fit_reseal : (keys : Keys) (ad old new random : List ℕ) (x : Served) → serve standard_table keys (Reseal old ad) random ≡ Some x → x.reply ≡ Gives new → unfit keys Aead standard_table ≡ None
unfolding serve
fit_reseal keys ad old new random x e is =
    (gave Aead keys random (if_opened keys random (open_answer keys standard_table old ad) (λ plain. option_map (sealed_reply keys) (seal_answer keys standard_table plain ad random))) x new e is).0

fit_dseal : (keys : Keys) (ad plain sealed random : List ℕ) (x : Served) → serve standard_table keys (Dseal plain ad) random ≡ Some x → x.reply ≡ Gives sealed → unfit keys Daead standard_table ≡ None
unfolding serve
fit_dseal keys ad plain sealed random x e is = (computed_gave Daead keys random (dseal_answer keys standard_table plain ad) sealed x e is).0

fit_dreseal : (keys : Keys) (ad old new random : List ℕ) (x : Served) → serve standard_table keys (Dreseal old ad) random ≡ Some x → x.reply ≡ Gives new → unfit keys Daead standard_table ≡ None
unfolding serve
fit_dreseal keys ad old new random x e is =
    (gave Daead keys random (if_opened keys random (dopen_answer keys standard_table old ad) (λ plain. computed keys random Gives (dseal_answer keys standard_table plain ad))) x new e is).0

fit_tag : (keys : Keys) (body tag random : List ℕ) (x : Served) → serve standard_table keys (Tag body) random ≡ Some x → x.reply ≡ Gives tag → unfit keys Mac standard_table ≡ None
unfolding serve
fit_tag keys body tag random x e is = (computed_gave Mac keys random (tag_answer keys standard_table body) tag x e is).0

-- ---- what is read over each keyset

-- what is read in one way is read in another
abbrev Leads : (Reads Others : AskedWork → (input output : List ℕ) → Type 0) → Type 0
Leads Reads Others = (work : AskedWork) (input output : List ℕ) → Reads work input output → Others work input output

reads_so : {Reads Others : AskedWork → (input output : List ℕ) → Type 0} (ts : List Turn) (keys saved : Keys) → Leads Reads Others → ReadsLines ts keys saved Reads → ReadsLines ts keys saved Others
reads_so ts keys saved leads x = record {
  opens = λ ad plain sealed prefix r made is still fit. leads _ _ _ (x.opens ad plain sealed prefix r made is still fit);
  reopens = λ ad old new prefix r made is still fit. let w = x.reopens ad old new prefix r made is still fit in (w.0, w.1, leads _ _ _ w.2);
  dopens = λ ad plain sealed prefix r made is still fit. leads _ _ _ (x.dopens ad plain sealed prefix r made is still fit);
  redopens = λ ad old new prefix r made is still fit. let w = x.redopens ad old new prefix r made is still fit in (w.0, w.1, leads _ _ _ w.2);
  opens_present = λ ad plain sealed r made still fit. let w = x.opens_present ad plain sealed r made still fit in (w.0, leads _ _ _ w.1);
  dopens_present = λ ad plain sealed r made still fit. let w = x.dopens_present ad plain sealed r made still fit in (w.0, leads _ _ _ w.1);
  verifies = λ tag body r made still fit. leads _ _ _ (x.verifies tag body r made still fit);
}

-- so is all that lines made, where it is so over the first keyset, and over each that was saved
reads_all : SavesAreTurns → SavedBeforeSealing → (lock : Lock) (name : List ℕ) (form : Format) (out : KeysetFile) (told : Told) (keys : Keys) (starts : SessionStarts lock name form out told keys) (Reads : AskedWork → (input output : List ℕ) → Type 0)
    → let ts = session_turns starts.master out.form true keys told in ReadsLines ts keys keys Reads → ((file : List ℕ) (saved : Keys) → HasSaved ts file saved → ReadsLines ts keys saved Reads) → ReadsAll ts keys Reads
reads_all turns law lock name form out told keys starts Reads first later = record {
  opens = λ ad plain sealed prefix r made is distinct.
      (over (to_seal ad) plain sealed r refl made).opens ad plain sealed prefix r made is (inr (made.primary, distinct)) (seals ad plain sealed r made);
  reopens = λ ad old new prefix r made is distinct.
      let s = served (to_reseal ad) old new r made in
      (over (to_reseal ad) old new r refl made).reopens ad old new prefix r made is (inr (made.primary, distinct)) (fit_reseal made.t.before ad old new s.0 s.1 s.2 s.3);
  dopens = λ ad plain sealed prefix r made is distinct.
      (over (to_dseal ad) plain sealed r refl made).dopens ad plain sealed prefix r made is (inr (made.primary, distinct)) (dseals ad plain sealed r made);
  redopens = λ ad old new prefix r made is distinct.
      let s = served (to_dreseal ad) old new r made in
      (over (to_dreseal ad) old new r refl made).redopens ad old new prefix r made is (inr (made.primary, distinct)) (fit_dreseal made.t.before ad old new s.0 s.1 s.2 s.3);
  opens_present = λ ad plain sealed r made. (over (to_seal ad) plain sealed r refl made).opens_present ad plain sealed r made (inr made.primary) (seals ad plain sealed r made);
  dopens_present = λ ad plain sealed r made. (over (to_dseal ad) plain sealed r refl made).dopens_present ad plain sealed r made (inr made.primary) (dseals ad plain sealed r made);
  verifies = λ tag body r made.
      let s = served to_tag body tag r made in
      (over to_tag body tag r refl made).verifies tag body r made (inr made.primary) (fit_tag made.t.before body tag s.0 s.1 s.2 s.3);
}
  where
    ts : List Turn
    ts = session_turns starts.master out.form true keys told

    over : (work : AskedWork) (input output : List ℕ) (r : Record) → makes (asks work input) ≡ true → (made : HasMade ts work input output r) → ReadsLines ts keys made.t.before Reads
    over work input output r is made = elim (saved_replies law lock name form out told keys starts work input output r is made) [
      | inl same ↦ subst (λ k. ReadsLines ts keys k Reads) (sym same) first
      | inr saved ↦ later saved.file made.t.before saved.has
    ]

    served : (work : AskedWork) (input output : List ℕ) (r : Record) (made : HasMade ts work input output r) → (random : List ℕ) × (x : Served) × (serve standard_table made.t.before (asks work input) random ≡ Some x) × (x.reply ≡ Gives output)
    served work input output r made =
        let s = reseal_served turns starts.master out.form true keys told made.place made.t made.there in
        (s.0, s.1, subst (λ asked. serve standard_table made.t.before asked s.0 ≡ Some s.1) made.line s.2, sym s.3 ∙ made.reply)

    seals : (ad plain sealed : List ℕ) (r : Record) (made : HasMade ts (to_seal ad) plain sealed r) → unfit made.t.before Aead standard_table ≡ None
    seals ad plain sealed r made = let s = served (to_seal ad) plain sealed r made in fit_seal made.t.before ad plain sealed s.0 s.1 s.2 s.3

    dseals : (ad plain sealed : List ℕ) (r : Record) (made : HasMade ts (to_dseal ad) plain sealed r) → unfit made.t.before Daead standard_table ≡ None
    dseals ad plain sealed r made = let s = served (to_dseal ad) plain sealed r made in fit_dseal made.t.before ad plain sealed s.0 s.1 s.2 s.3

-- ---- the file that the session read

-- it is there after the run
first_there : SavesAreTurns → (lock : Lock) (name : List ℕ) (form : Format) (out : KeysetFile) (told : Told) (keys : Keys) (starts : SessionStarts lock name form out told keys) → map.get (answer (command_plan standard_table (session lock name form out true)) told).files name ≡ Some starts.lies.bytes
first_there turns lock name form out told keys starts =
    let f = form_of starts.master out.form true in
    let answers = by_files told.files in
    let x = told_session standard_table starts.master out.form true keys told in
    let t = turns standard_table f answers keys told.input told.random true in
    let agrees : Agrees answers [] x.asked = subst (Agrees answers []) (sym t.asked) (agrees_lines standard_table f answers [] false keys (each line_of t.answered) told.random t.last t.remains') in
    there_after lock name form out true told keys starts name starts.lies.bytes (stays_there told.files [] x.asked name starts.lies.bytes agrees starts.lies.there)

-- ---- in clear

pub saved_replies_in_clear : SavedLaws → SavedBeforeSealing → SavedRepliesInClear
saved_replies_in_clear l law name form out told keys starts holds random = by starts.master starts.opens refl
  where
    step : StepLaws
    step = l.step

    a : Answer
    a = answer (command_plan standard_table (session None name form out true)) told

    by : (master : Option Keys) → OpensLock standard_table None told master → master ≡ starts.master → ReadsAll (session_turns None out.form true keys told) keys (IsReadAfter a)
    by (Some over) opens same = absurd opens
    by None opens same =
        let clear : LiesThere standard_table None (record { file = Some name; form = form }) told keys = record { bytes = starts.lies.bytes; there = starts.lies.there; within = subst (λ m. length starts.lies.bytes ≤ limit_under m) (sym same) starts.lies.within; gives = subst (λ m. GivesKeyset standard_table m form starts.lies.bytes keys) (sym same) starts.lies.gives } in
        let start : SessionStarts None name form out told keys = record { master = None; opens = tt; lies = clear; free = starts.free } in
        let file : Written = record { bytes = clear.bytes; form = form } in
        let there = first_there step.turns None name form out told keys start in
        let k : SavedKeyset keys keys = record { faultless = read_faultless file keys clear.gives; stored = step.stored file keys holds clear.within clear.gives; distinct = λ distinct. distinct } in
        let ts = session_turns None out.form true keys told in
        let first : ReadsLines ts keys keys (IsReadAfter a) = reads_lines l None name form out true told keys keys start k (IsReadAfter a)
        (λ While work input output r read while' fit. record { name = name; file = file; there = there; read = read.by_run file keys (record { read = clear.gives; within = clear.within; fit = fit }) while' })
        (λ work input r read has fit. let d = read.by_run file keys (record { read = clear.gives; within = clear.within; fit = fit }) has in (d.0, record { name = name; file = file; there = there; read = d.1 })) in
        reads_all step.turns law None name form out told keys start (IsReadAfter a) first (λ other saved has.
        let s = saved_in_clear l name other form out true told keys saved start holds random has in
        reads_so ts keys saved (λ work input output read. record { name = other; file = s.file; there = s.is; read = read }) s.reads)

-- ---- under a master

pub saved_replies_under_master : SavedLaws → SavedBeforeSealing → SavedRepliesUnderMaster
saved_replies_under_master l law lock name form out told over keys master lock_form lies begun opened stored random still =
    reads_all step.turns law (Some lock) name form out told keys start (IsReadUnder master a) first (λ other saved has.
    let s = saved_under_master l lock name other form out true told over keys saved master lock_form lies start refl stored random has in
    reads_so ts keys saved (λ work input output read. record { name = other; text = s.text; there = s.is; read = read }) (s.reads master still (subst (Serves Aead master) (same_Some _ _ (sym serves.read ∙ still.read_again)) serves)))
  where
    step : StepLaws
    step = l.step

    a : Answer
    a = answer (command_plan standard_table (session (Some lock) name form out true)) told

    ts : List Turn
    ts = session_turns (Some over) out.form true keys told

    start : SessionStarts (Some lock) name form out told keys
    start = record {
      master = Some over;
      opens = subst (OpensLock standard_table (Some lock) told) opened begun.opens;
      lies = subst (λ m. LiesThere standard_table m (record { file = Some name; form = form }) told keys) opened begun.lies;
      free = begun.free;
    }

    opens : OpensMaster standard_table lock told over
    opens = start.opens

    bytes : opens.lies.bytes ≡ master.bytes
    bytes = same_Some _ _ (sym opens.lies.there ∙ lies)

    serves : Serves Aead master over
    serves = record {
      read = ap (λ b. keyset_of (record { bytes = b; form = master.form })) (sym bytes) ∙ ap (λ f. keyset_of (record { bytes = opens.lies.bytes; form = f })) (sym lock_form) ∙ opens.lies.gives;
      within = subst (λ b. length b ≤ limit_under None) bytes opens.lies.within;
      fit = opens.fit;
    }

    text : Written
    text = record { bytes = start.lies.bytes; form = form }

    k : SavedKeyset keys keys
    k = record { faultless = (given_is_keyset over text keys start.lies.gives).faultless; stored = stored; distinct = λ distinct. distinct }

    there : map.get a.files name ≡ Some text.bytes
    there = first_there step.turns (Some lock) name form out told keys start

    first : ReadsLines ts keys keys (IsReadUnder master a)
    first = reads_lines l (Some lock) name form out true told keys keys start k (IsReadUnder master a)
        (λ While work input output r read while' fit. record { name = name; text = text; there = there; read = read.by_locked master text keys (record { over = over; opens = serves; gives = start.lies.gives; within = start.lies.within; fit = fit }) while' })
        (λ work input r read has fit. let d = read.by_locked master text keys (record { over = over; opens = serves; gives = start.lies.gives; within = start.lies.within; fit = fit }) has in (d.0, record { name = name; text = text; there = there; read = d.1 }))
