-- Runs that take a keyset on under masters.
use Rattle.std.proofs.Common.{◌≡◌, ◌∙◌, sym, refl, ap, subst, ℕ, ◌≤◌, Bool, List, [], ◌∷◌, ◌++◌, length, Option, Some, None, Result, Ok}
use Rattle.std.specs.Prelude.{option_and_then}
use Rattle.std.specs.FinMap as map
use Rattle.std.specs.List.{AllByRecursion}
use Rattle.std.proofs.lemmas.Option.{same_Some}
use Rattle.key_msgs.specs.Templates.{Row, row_named}
use Rattle.key_msgs.specs.declared.primitive.Primitive.{Primitive}
use Rattle.key_msgs.specs.declared.primitive.Primitive.TheVariants.{Stream}
use Rattle.keyset_json.specs.Writing.{JsonBack}
use Rattle.keyset_model.specs.Keyset.{Keys, fault_of, primary_of}
use Rattle.keyset_model.specs.WellFormed.{FaultlessKeysets}
use Rattle.keyset_model.specs.Writing.{BinaryBack, ReadKeysFit, binary_of}
use Rattle.managers.specs.Standard.{standard_table}
use Rattle.managers.specs.Table.{Table}
use Rattle.seal_wrap.specs.Info.{info_of}
use Rattle.seal_wrap.specs.Laws.{WrapBackBytes}
use Rattle.seal_wrap.specs.Unwrapped.{unwrap_of}
use Rattle.seal_wrap.specs.Wrapped.{Wrapped, wrap_of, wrapped_with}
use Rattle.segment_stream.specs.StreamKeys.{stream_unfit}
use Rattle.tinkey_cmds.proofs.Fronts.{fronts-first, fronts-step}
use Rattle.tinkey_cmds.specs.Draws.{Drawn}
use Rattle.tinkey_cmds.specs.Edits.{Edit, first, step}
use Rattle.tinkey_cmds.specs.Laws.{EditsKeepKeysets, FirstsAreKeysets}
use Rattle.tinkey_cmds.specs.declared.command.EditRefusal.{EditRefusal}
use Rattle.tinkey_session.proofs.DrawLemmas.{lines_draw_fronts}
use Rattle.tinkey_session.proofs.Options.{clash, map_some}
use Rattle.tinkey_session.proofs.TurnLemmas.{edited_on, named_template}
use Rattle.tinkey_session.specs.HeldLaws.{AreBytes, AreStored, EditsKeepStored, FirstsAreStored, SessionsKeepStored}
use Rattle.tinkey_session.specs.Laws.{EditedIsKeyset, EditedIsSound, IsEdited, SoundIsUsable}
use Rattle.tinkey_session.specs.Lines.{Line}
use Rattle.tinkey_session.specs.Serving.{serve}
use Rattle.tinkey_session.specs.Session.{Remains, remains}
use Rattle.tinkey_session.specs.SessionLaws.{SessionIsEdits}
use Rattle.tinkey_session.specs.TalkLaws.{SavesAreTurns}
use Rattle.wrapped_prims.specs.Answers.{seal_answer}
use Rattle.wrapped_prims.specs.Laws.{IsKeyset}
use Rattle.tinkey_plans.specs.declared.origin.Origin.TheVariants as origins
use Rattle.tinkey_plans.specs.Commands.{command_plan}
use Rattle.tinkey_plans.specs.Locks.{opens_master, put_origin, puts_under, takes_under}
use Rattle.tinkey_plans.specs.Plan.{Answer, Plan, Told, answer, exchanges}
use Rattle.tinkey_plans.specs.Session.{holds_session, saves, saves_as, saving_session}
use Rattle.tinkey_plans.specs.Steps.{keyset_limit, makes_keyset, puts, written_in}
use Rattle.tinkey_plans.specs.Wrapping.{is_json, makes_wrapped, wrapped_limit}
use Rattle.tinkey_readable.proofs.LockLemmas.{lock_done, under_done}
use Rattle.tinkey_readable.proofs.ReachLemmas.{IsDoneAnswer, behind, bytes_put, found_edit, found_row, made_done}
use Rattle.tinkey_readable.proofs.RunLemmas.{done_edits, each_of, free_done, json_back, no_edits, primary_word, read_faultless, read_keyset, still_fit, talk_done, template_row}
use Rattle.tinkey_readable.proofs.WrappedRunLemmas.{behind_random, gives_key, text_made, unwrap_keeps, within_done, wraps_done}
use Rattle.tinkey_readable.proofs.WrittenBytesLemmas.{written_bytes}
use Rattle.tinkey_readable.proofs.StreamKeyLemmas.{fit_sound, sound_fit}
use Rattle.tinkey_readable.specs.Anywhere.{CreatedServe, CreatedServeStreams, LocksServe, LocksServeStreams}
use Rattle.tinkey_readable.specs.LockedRuns.{GivesUnder}
use Rattle.tinkey_readable.specs.Runs.{AreLocked, CreatesUnder, Does, DrawsBytes, GoesLocked, GoesUnder, HoldsBytes, IsCreated, Keeps, LockedHanding, LocksStep, ReadIsStored, Run, StillOpens, HandsUnder, Wraps, Written, bytes_at, hands_under, keyset_of, master_told, read_in, session_under, told_lines}
use Rattle.tinkey_words.specs.declared.words.rows.Format.{Format}
use Rattle.tinkey_words.specs.declared.words.rows.Format.TheVariants as formats
use Rattle.tinkey_words.specs.Words.{Asked, AskedEdit, Master, KeysetFile, as_taken, convert_keyset, create_keyset, edit_keyset, help, in_clear, key_of, list_key_templates, list_keyset, open_range, self_test, session, under, use_envelope, use_keyset, use_stream, version}

-- what is known of keysets, edits, sessions and wrapping
pub record StepLaws : Type 0 where
  pub faultless : FaultlessKeysets
  pub binary : BinaryBack
  pub json : JsonBack
  pub stored : ReadIsStored
  pub back : WrapBackBytes
  pub keeps : EditsKeepKeysets
  pub keeps_stored : EditsKeepStored
  pub turns : SavesAreTurns
  pub sessions : SessionIsEdits
  pub edited : EditedIsKeyset
  pub keep_sessions : SessionsKeepStored

-- ---- the random bytes that are left

bytes_behind : (front left : List ℕ) → AreBytes (front ++ left) → AreBytes left
bytes_behind [] left all = all
bytes_behind (b ∷ front) left all = bytes_behind front left all.1

step_left : (keys : Keys) (edit : Edit) (random : List ℕ) (s : Drawn Keys) → AreBytes random → step keys edit random ≡ Some s → AreBytes s.left
step_left keys edit random s all e =
    let front = fronts-step keys edit random s e in
    bytes_behind front.0 s.left (subst AreBytes front.1 all)

pub session_left : (table : Table) (keys : Keys) (lines : List Line) (random : List ℕ) (m : Remains) → AreBytes random → remains table keys lines random ≡ Some m → AreBytes m.left
unfolding remains
session_left table keys [] random m all e = subst (λ (x : Remains). AreBytes x.left) (same_Some _ _ e) all
session_left table keys (line ∷ later) random m all e = elim (serve table keys line random) as (λ o. serve table keys line random ≡ o → option_and_then (λ s. remains table s.keys later s.left) o ≡ Some m → AreBytes m.left) [
  | None ↦ λ t k. clash k
  | Some x ↦ λ t k. session_left table x.keys later x.left m (bytes_behind (lines_draw_fronts table keys line random x t).0 x.left (subst AreBytes (lines_draw_fronts table keys line random x t).1 all)) k
] refl e

-- ---- a keyset that lies sealed

-- so it does as this text, under this master
pub record UnderSeal (master text : Written) (keys : Keys) : Type 0 where
  pub over : Keys
  pub read : keyset_of master ≡ Some over
  pub within : length master.bytes ≤ keyset_limit
  pub random : List ℕ
  pub bytes : AreBytes random
  pub wrapped : Wrapped
  pub is : wrap_of keys over standard_table random (is_json text.form) ≡ Some wrapped
  pub same : wrapped.text ≡ text.bytes
  pub short : length text.bytes ≤ wrapped_limit
  pub faultless : fault_of keys ≡ None
  pub stored : AreStored keys

-- a master that still opens it gives it
pub given_again : StepLaws → (master later text : Written) (keys : Keys) (o : StillOpens master later) → UnderSeal master text keys → unwrap_of o.new standard_table text.bytes (is_json text.form) ≡ Ok keys
given_again l master later text keys o s =
    let primary : primary_of s.over ≡ Some o.r = ap (λ k. primary_of k) (same_Some _ _ (sym s.read ∙ o.read)) ∙ o.primary in
    let made = map_some (wrapped_with (is_json text.form) (info_of keys)) (seal_answer s.over standard_table (binary_of keys) [] s.random) s.wrapped s.is in
    ap (λ bytes. unwrap_of o.new standard_table bytes (is_json text.form)) (sym s.same)
    ∙ l.back (is_json text.form) standard_table keys s.over o.new o.r o.prefix s.random s.wrapped primary o.prefixed
    (gives_key s.over o.r (binary_of keys) [] s.random made.0 primary made.1)
    o.same s.faultless (each_of keys.records (λ r x. x.held) s.stored)
    (each_of s.over.records (λ r x. x.bytes) (l.stored master s.over o.holds s.within s.read))
    (written_bytes formats.Binary keys ((l.faultless keys).0 s.faultless) (primary_word l.faultless keys s.faultless s.stored) s.stored (json_back l.json keys s.faultless s.stored))
    s.bytes s.is

-- ---- a keyset that is put under a master

record PutUnder (over : Keys) (out : KeysetFile) (keys : Keys) (told : Told) : Type 0 where
  wrapped : Wrapped
  is : wrap_of keys over standard_table told.random (is_json out.form) ≡ Some wrapped
  short : length wrapped.text ≤ wrapped_limit
  there : bytes_at out.file (answer (puts_under standard_table (Some over) out keys) told).files (answer (puts_under standard_table (Some over) out keys) told).output ≡ Some wrapped.text

put_under : (over : Keys) (out : KeysetFile) (keys : Keys) (told : Told) → IsDoneAnswer (answer (puts_under standard_table (Some over) out keys) told) → PutUnder over out keys told
put_under over out keys told done =
    let make : List ℕ → Plan = λ plain. makes_wrapped keys over standard_table out.form (puts out.file) in
    let w = within_done keyset_limit make (written_in formats.Binary keys) told done in
    let m = text_made keys over out.form (puts out.file) told (ap (λ (a : Answer). a.status) (sym w.1) ∙ done) in
    let whole = w.1 ∙ m.goes_on in
    let p = bytes_put out.file m.wrapped.text (record told { random = m.wrapped.left }) (ap (λ (a : Answer). a.status) (sym whole) ∙ done) in
    record { wrapped = m.wrapped; is = m.is; short = m.within; there = ap (λ (a : Answer). bytes_at out.file a.files a.output) whole ∙ p }

sealed_so : (put after : Written) (over keys : Keys) (out : KeysetFile) (told : Told) (p : PutUnder over out keys told) (found : Option (List ℕ)) → keyset_of put ≡ Some over → length put.bytes ≤ keyset_limit → AreBytes told.random → out.form ≡ after.form → found ≡ Some after.bytes → found ≡ Some p.wrapped.text → fault_of keys ≡ None → AreStored keys
    → UnderSeal put after keys
sealed_so put after over keys out told p found read within bytes form there is faultless stored = record {
  over = over;
  read = read;
  within = within;
  random = told.random;
  bytes = bytes;
  wrapped = p.wrapped;
  is = ap (λ f. wrap_of keys over standard_table told.random (is_json f)) (sym form) ∙ p.is;
  same = same_Some _ _ (sym is ∙ there);
  short = subst (λ b. length b ≤ wrapped_limit) (same_Some _ _ (sym is ∙ there)) p.short;
  faultless = faultless;
  stored = stored;
}

-- ---- one run

-- what a run did to the keyset under a master, and where it lies then
record StepUnder (asked : Asked) (told : Told) (old : Keys) (put after : Written) : Type 0 where
  new : Keys
  does : Does standard_table told old new asked
  seal : UnderSeal put after new

-- the run took that text under one master, and was done
record Went (asked : Asked) (told : Told) (master text put after : Written) (over old : Keys) (x : LockedHanding) : Type 0 where
  form : x.lock.form ≡ master.form
  lies : map.get told.files x.lock.file ≡ Some master.bytes
  read : keyset_of master ≡ Some over
  new_form : x.new.form ≡ put.form
  new_lies : map.get told.files x.new.file ≡ Some put.bytes
  new_over : Keys
  new_read : keyset_of put ≡ Some new_over
  gives : unwrap_of over standard_table text.bytes (is_json text.form) ≡ Ok old
  faultless : fault_of old ≡ None
  stored : AreStored old
  random : AreBytes told.random
  done : IsDoneAnswer (answer (command_plan standard_table asked) told)
  taken_form : x.handing.taken.form ≡ text.form
  taken : bytes_at x.handing.taken.file told.files told.input ≡ Some text.bytes
  put_form : x.handing.put.form ≡ after.form
  put' : bytes_at x.handing.put.file (answer (command_plan standard_table asked) told).files (answer (command_plan standard_table asked) told).output ≡ Some after.bytes

-- one lock is one master
abbrev same_handing : Master → KeysetFile → KeysetFile → LockedHanding
same_handing lock in' out = record { lock = lock; new = lock; handing = record { taken = in'; put = out } }

one_master : {asked : Asked} {told : Told} {text after : Written} {over old : Keys} (lock : Master) (in' out : KeysetFile) (master put : Written) → Went asked told master text put after over old (same_handing lock in' out) → master ≡ put
one_master lock in' out master put w =
    ap (λ (bytes : List ℕ). record { bytes = bytes; form = master.form }) (same_Some _ _ (sym w.lies ∙ w.new_lies))
    ∙ ap (λ (form : Format). record { bytes = put.bytes; form = form }) (sym w.form ∙ w.new_form)

edit_under : StepLaws → (lock : Master) (edit : AskedEdit) (in' out : KeysetFile) (told : Told) (master text put after : Written) (over old : Keys)
    → Went (edit_keyset (Some lock) edit in' out) told master text put after over old (same_handing lock in' out)
    → StepUnder (edit_keyset (Some lock) edit in' out) told old put after
edit_under l lock edit in' out told master text put after over old w =
    let makes : Edit → Option Keys → Plan = λ e m. takes_under origins.In standard_table m in' (λ keys. makes_keyset (step keys e) (puts_under standard_table m out)) in
    let f = found_edit edit (λ e. opens_master origins.Master standard_table lock (makes e)) told w.done in
    let d1 : IsDoneAnswer (answer (opens_master origins.Master standard_table lock (makes f.edit)) told) = ap (λ (a : Answer). a.status) (sym f.goes_on) ∙ w.done in
    let o = lock_done origins.Master standard_table lock.file lock.form master.bytes over (makes f.edit) told w.lies (ap (λ x. read_in x master.bytes) w.form ∙ w.read) d1 in
    let d2 : IsDoneAnswer (answer (makes f.edit (Some over)) told) = ap (λ (a : Answer). a.status) (sym o.goes_on) ∙ d1 in
    let t = under_done origins.In over in' text.bytes old (λ keys. makes_keyset (step keys f.edit) (puts_under standard_table (Some over) out)) told w.taken (ap (λ x. unwrap_of over standard_table text.bytes (is_json x)) w.taken_form ∙ w.gives) d2 in
    let behind' = behind in'.file told in
    let m = made_done (step old f.edit) (puts_under standard_table (Some over) out) behind' (ap (λ (a : Answer). a.status) (sym t) ∙ d2) in
    let left = record behind' { random = m.drawn.left } in
    let whole = f.goes_on ∙ o.goes_on ∙ t ∙ m.goes_on in
    let p = put_under over out m.new left (ap (λ (a : Answer). a.status) (sym whole) ∙ w.done) in
    let gave : step old f.edit told.random ≡ Some m.drawn = ap (step old f.edit) (sym (behind_random in'.file told)) ∙ m.gave in
    let template = named_template edit f.edit f.is in
    let seal = sealed_so master after over m.new out left p _ w.read o.within (step_left old f.edit told.random m.drawn w.random gave) w.put_form w.put' (ap (λ (a : Answer). bytes_at out.file a.files a.output) whole ∙ p.there)
    (l.keeps old m.new f.edit told.random m.drawn template w.faultless gave m.made)
    (l.keeps_stored old m.new f.edit told.random m.drawn template w.random w.stored gave m.made) in
    record {
      new = m.new;
      does = record { edit = f.edit; is = f.is; stepped = m.drawn; steps = gave; accepted = m.made };
      seal = subst (λ x. UnderSeal x after m.new) (one_master lock in' out master put w) seal;
    }

convert_under : (lock : Master) (in' out : KeysetFile) (told : Told) (master text put after : Written) (over old : Keys)
    → Went (convert_keyset (Some lock) as_taken in' out) told master text put after over old (same_handing lock in' out)
    → StepUnder (convert_keyset (Some lock) as_taken in' out) told old put after
convert_under lock in' out told master text put after over old w =
    let puts' : Option Keys → Plan = λ m. takes_under origins.In standard_table m in' (puts_under standard_table m out) in
    let o = lock_done origins.Master standard_table lock.file lock.form master.bytes over puts' told w.lies (ap (λ x. read_in x master.bytes) w.form ∙ w.read) w.done in
    let d : IsDoneAnswer (answer (puts' (Some over)) told) = ap (λ (a : Answer). a.status) (sym o.goes_on) ∙ w.done in
    let t = under_done origins.In over in' text.bytes old (puts_under standard_table (Some over) out) told w.taken (ap (λ x. unwrap_of over standard_table text.bytes (is_json x)) w.taken_form ∙ w.gives) d in
    let behind' = behind in'.file told in
    let whole = o.goes_on ∙ t in
    let p = put_under over out old behind' (ap (λ (a : Answer). a.status) (sym whole) ∙ w.done) in
    let seal = sealed_so master after over old out behind' p _ w.read o.within (subst AreBytes (sym (behind_random in'.file told)) w.random) w.put_form w.put' (ap (λ (a : Answer). bytes_at out.file a.files a.output) whole ∙ p.there) w.faultless w.stored in
    record { new = old; does = refl; seal = subst (λ x. UnderSeal x after old) (one_master lock in' out master put w) seal }

rewrap_under : (lock new : Master) (in' out : KeysetFile) (told : Told) (master text put after : Written) (over old : Keys)
    → Went (convert_keyset (Some lock) (under new) in' out) told master text put after over old (record { lock = lock; new = new; handing = record { taken = in'; put = out } })
    → StepUnder (convert_keyset (Some lock) (under new) in' out) told old put after
rewrap_under lock new in' out told master text put after over old w =
    let puts' : Option Keys → Option Keys → Plan = λ m n. takes_under origins.In standard_table m in' (puts_under standard_table n out) in
    let opens : Option Keys → Plan = λ m. opens_master (put_origin m) standard_table new (puts' m) in
    let o = lock_done origins.Master standard_table lock.file lock.form master.bytes over opens told w.lies (ap (λ x. read_in x master.bytes) w.form ∙ w.read) w.done in
    let d1 : IsDoneAnswer (answer (opens (Some over)) told) = ap (λ (a : Answer). a.status) (sym o.goes_on) ∙ w.done in
    let n = lock_done origins.NewMaster standard_table new.file new.form put.bytes w.new_over (puts' (Some over)) told w.new_lies (ap (λ x. read_in x put.bytes) w.new_form ∙ w.new_read) d1 in
    let d2 : IsDoneAnswer (answer (puts' (Some over) (Some w.new_over)) told) = ap (λ (a : Answer). a.status) (sym n.goes_on) ∙ d1 in
    let t = under_done origins.In over in' text.bytes old (puts_under standard_table (Some w.new_over) out) told w.taken (ap (λ x. unwrap_of over standard_table text.bytes (is_json x)) w.taken_form ∙ w.gives) d2 in
    let behind' = behind in'.file told in
    let whole = o.goes_on ∙ n.goes_on ∙ t in
    let p = put_under w.new_over out old behind' (ap (λ (a : Answer). a.status) (sym whole) ∙ w.done) in
    record {
      new = old;
      does = refl;
      seal = sealed_so put after w.new_over old out behind' p _ w.new_read n.within (subst AreBytes (sym (behind_random in'.file told)) w.random) w.put_form w.put' (ap (λ (a : Answer). bytes_at out.file a.files a.output) whole ∙ p.there) w.faultless w.stored;
    }

-- what a session saved under a master
record SavedUnder (over : Keys) (out : KeysetFile) (keys : Keys) (told : Told) (file : List ℕ) : Type 0 where
  put : PutUnder over out keys told
  there : map.get (answer (saves standard_table (Some over) out keys) told).files file ≡ Some put.wrapped.text

saved_under : (over : Keys) (form : Format) (keys : Keys) (told : Told) (file : List ℕ) → IsDoneAnswer (answer (saves_as standard_table (Some over) (Some file) form keys) told) → SavedUnder over (record { file = Some file; form = form }) keys told file
saved_under over form keys told file done =
    let p = put_under over (record { file = Some file; form = form }) keys told done in
    record { put = p; there = p.there }

-- the master that is told is the one that lies in the file of the lock
pub master_is : (lock : Master) (told : Told) (master : Written) (over : Keys) → lock.form ≡ master.form → map.get told.files lock.file ≡ Some master.bytes → keyset_of master ≡ Some over → master_told (Some lock) told ≡ Some over
master_is lock told master over form lies read = ap (option_and_then (read_in lock.form)) lies ∙ ap (λ x. read_in x master.bytes) form ∙ read

session_step : StepLaws → (lock : Master) (name : List ℕ) (form of_out : Format) (saved_only : Bool) (file : List ℕ) (told : Told) (master text put after : Written) (over old : Keys)
    → Went (session (Some lock) name form (record { file = Some file; form = of_out }) saved_only) told master text put after over old (same_handing lock (record { file = Some name; form = form }) (record { file = Some file; form = of_out }))
    → StepUnder (session (Some lock) name form (record { file = Some file; form = of_out }) saved_only) told old put after
session_step l lock name form of_out saved_only file told master text put after over old w =
    let in' : KeysetFile = record { file = Some name; form = form } in
    let out : KeysetFile = record { file = Some file; form = of_out } in
    let holds : Option Keys → Plan = λ m. takes_under origins.Keyset standard_table m in' (holds_session standard_table m out saved_only) in
    let o = lock_done origins.Master standard_table lock.file lock.form master.bytes over holds told w.lies (ap (λ x. read_in x master.bytes) w.form ∙ w.read) w.done in
    let d1 : IsDoneAnswer (answer (holds (Some over)) told) = ap (λ (a : Answer). a.status) (sym o.goes_on) ∙ w.done in
    let t = under_done origins.Keyset over in' text.bytes old (holds_session standard_table (Some over) out saved_only) told w.taken (ap (λ x. unwrap_of over standard_table text.bytes (is_json x)) w.taken_form ∙ w.gives) d1 in
    let d2 : IsDoneAnswer (answer (holds_session standard_table (Some over) out saved_only old) told) = ap (λ (a : Answer). a.status) (sym t) ∙ d1 in
    let free = free_done out.file (λ free. exchanges (saving_session standard_table (Some over) of_out saved_only old) (saves standard_table (Some over) out)) told d2 in
    let d = talk_done l.turns standard_table (Some over) out saved_only old told (ap (λ (a : Answer). a.status) (sym free) ∙ d2) in
    let s = saved_under over of_out d.last.keys d.left file d.done in
    let keyset : IsKeyset old = record { faultless = w.faultless; words = each_of old.records (λ r x. x.held.id) w.stored } in
    let lines = told_lines standard_table (Some over) of_out saved_only old told in
    let files = ap (λ (a : Answer). map.get a.files file) (o.goes_on ∙ t ∙ free) ∙ ap (λ f. map.get f file) d.goes_on ∙ s.there in
    let seal = sealed_so master after over d.last.keys out d.left s.put _ w.read o.within (subst AreBytes d.left_bytes (session_left standard_table old lines told.random d.last w.random d.is)) w.put_form w.put' files
    (l.edited old d.last.keys (l.sessions standard_table old lines told.random d.last d.is) keyset).faultless
    (l.keep_sessions standard_table old lines told.random d.last w.random w.stored d.is) in
    let does = subst (λ m. remains standard_table old (told_lines standard_table m of_out saved_only old told) told.random ≡ Some d.last) (sym (master_is lock told master over w.form w.lies w.read)) d.is in
    record { new = d.last.keys; does = (d.last, does, refl); seal = subst (λ x. UnderSeal x after d.last.keys) (one_master lock in' out master put w) seal }

session_by_file : StepLaws → (lock : Master) (name : List ℕ) (form of_out : Format) (saved_only : Bool) (file : Option (List ℕ)) (told : Told) (master text put after : Written) (over old : Keys) (x : LockedHanding)
    → session_under lock name form (record { file = file; form = of_out }) file ≡ Some x
    → Went (session (Some lock) name form (record { file = file; form = of_out }) saved_only) told master text put after over old x
    → StepUnder (session (Some lock) name form (record { file = file; form = of_out }) saved_only) told old put after
session_by_file l lock name form of_out saved_only None told master text put after over old x e w = clash e
session_by_file l lock name form of_out saved_only (Some file) told master text put after over old x e w =
    session_step l lock name form of_out saved_only file told master text put after over old
    (subst (λ h. Went (session (Some lock) name form (record { file = Some file; form = of_out }) saved_only) told master text put after over old h) (sym (same_Some _ _ e)) w)

step_by : StepLaws → (asked : Asked) (told : Told) (master text put after : Written) (over old : Keys) (x : LockedHanding) → hands_under asked ≡ Some x → Went asked told master text put after over old x → StepUnder asked told old put after
step_by l (edit_keyset (Some lock) edit in' out) told master text put after over old x e w =
    edit_under l lock edit in' out told master text put after over old (subst (λ h. Went (edit_keyset (Some lock) edit in' out) told master text put after over old h) (sym (same_Some _ _ e)) w)
step_by l (convert_keyset (Some lock) as_taken in' out) told master text put after over old x e w =
    convert_under lock in' out told master text put after over old (subst (λ h. Went (convert_keyset (Some lock) as_taken in' out) told master text put after over old h) (sym (same_Some _ _ e)) w)
step_by l (convert_keyset (Some lock) (under new) in' out) told master text put after over old x e w =
    rewrap_under lock new in' out told master text put after over old (subst (λ h. Went (convert_keyset (Some lock) (under new) in' out) told master text put after over old h) (sym (same_Some _ _ e)) w)
step_by l (session (Some lock) name form out saved_only) told master text put after over old x e w = session_by_file l lock name form out.form saved_only out.file told master text put after over old x e w
step_by l (edit_keyset None edit in' out) told master text put after over old x e w = clash e
step_by l (convert_keyset None how in' out) told master text put after over old x e w = clash e
step_by l (convert_keyset (Some lock) in_clear in' out) told master text put after over old x e w = clash e
step_by l (session None name form out saved_only) told master text put after over old x e w = clash e
step_by l (create_keyset lock template out) told master text put after over old x e w = clash e
step_by l (list_keyset lock in') told master text put after over old x e w = clash e
step_by l (key_of lock name form kind ad) told master text put after over old x e w = clash e
step_by l (list_key_templates primitive) told master text put after over old x e w = clash e
step_by l (use_keyset lock name form work out) told master text put after over old x e w = clash e
step_by l (use_envelope lock name form template work out) told master text put after over old x e w = clash e
step_by l (use_stream lock name form work ad out) told master text put after over old x e w = clash e
step_by l (open_range lock name form ad range out) told master text put after over old x e w = clash e
step_by l (self_test seed lines) told master text put after over old x e w = clash e
step_by l (help topic) told master text put after over old x e w = clash e
step_by l version told master text put after over old x e w = clash e

-- ---- many runs

-- each of the runs keeps this
abbrev pub EachUnder : (Keys → Type 0) → (runs : List Run) → (master text last after : Written) → AreLocked standard_table runs master text last after → Type 0
EachUnder P [] master text last after are = Unit {0}
EachUnder P (run ∷ later) master text last after (opening, put, between, opens, hands, are) =
    ((keys new : Keys) → GivesUnder opens.new text keys → AreStored keys → P keys → Does standard_table run.told keys new run.asked → P new)
    × EachUnder P later put between last after are

each_none : (runs : List Run) (master text last after : Written) (are : AreLocked standard_table runs master text last after) → EachUnder (λ keys. Unit {0}) runs master text last after are
each_none [] master text last after are = tt
each_none (run ∷ later) master text last after (opening, put, between, opens, hands, are) =
    (λ keys new gives stored p does. tt, each_none later put between last after are)

record LedUnder (P : Keys → Type 0) (old : Keys) (last after : Written) : Type 0 where
  new : Keys
  edited : IsEdited old new
  has : P new
  seal : UnderSeal last after new

went_so : (run : Run) (opening text put after : Written) (over old : Keys) (hands : HandsUnder standard_table run opening text put after) → keyset_of opening ≡ Some over → unwrap_of over standard_table text.bytes (is_json text.form) ≡ Ok old → fault_of old ≡ None → AreStored old → DrawsBytes run
    → Went run.asked run.told opening text put after over old hands.locked
went_so run opening text put after over old hands read gives faultless stored random = record {
  form = hands.form;
  lies = hands.lies;
  read = read;
  new_form = hands.new_form;
  new_lies = hands.new_lies;
  new_over = hands.over;
  new_read = hands.read;
  gives = gives;
  faultless = faultless;
  stored = stored;
  random = random;
  done = hands.handed.done;
  taken_form = hands.handed.read_form;
  taken = hands.handed.read;
  put_form = hands.handed.put_form;
  put' = hands.handed.put;
}

led_under : (P : Keys → Type 0) → StepLaws → (runs : List Run) (master text last after : Written) (old : Keys) (are : AreLocked standard_table runs master text last after) → EachUnder P runs master text last after are → P old → AllByRecursion DrawsBytes runs → UnderSeal master text old → LedUnder P old last after
led_under P l [] master text last after old (one, same) each p bytes s = record {
  new = old;
  edited = no_edits old;
  has = p;
  seal = subst (λ x. UnderSeal last x old) same (subst (λ x. UnderSeal x text old) one s);
}
led_under P l (run ∷ later) master text last after old (opening, put, between, opens, hands, are) each p bytes s =
    let gives = given_again l master opening text old opens s in
    let went = went_so run opening text put between opens.new old hands opens.read_again gives s.faultless s.stored bytes.0 in
    let step' = step_by l run.asked run.told opening text put between opens.new old hands.locked hands.hands went in
    let rest = led_under P l later put between last after step'.new are each.1 (each.0 old step'.new gives s.stored p step'.does) bytes.1 step'.seal in
    record {
      new = rest.new;
      edited = edited_on old step'.new rest.new (done_edits l.sessions standard_table run.told run.asked old step'.new step'.does) rest.edited;
      has = rest.has;
      seal = rest.seal;
    }

-- the keyset, as its last text gives it
record GivesLast (P : Keys → Type 0) (old : Keys) (over : Keys) (text : Written) : Type 0 where
  new : Keys
  edited : IsEdited old new
  has : P new
  gives : unwrap_of over standard_table text.bytes (is_json text.form) ≡ Ok new
  short : length text.bytes ≤ wrapped_limit
  faultless : fault_of new ≡ None
  stored : AreStored new

-- a keyset that was wrapped lies so
pub wrapped_first : StepLaws → (wrap : Run) (master before first : Written) (over old : Keys) → Wraps standard_table wrap master before first → keyset_of master ≡ Some over → keyset_of before ≡ Some old → HoldsBytes before → DrawsBytes wrap → UnderSeal master first old
wrapped_first l wrap master before first over old wraps read is holds random =
    let w = wraps_done wrap master before first over old wraps read is in
    record {
      over = over;
      read = read;
      within = w.master_within;
      random = wrap.told.random;
      bytes = random;
      wrapped = w.wrapped;
      is = w.is;
      same = w.same;
      short = w.short;
      faultless = read_faultless before old is;
      stored = l.stored before old holds w.within is;
    }

gives_last : (P : Keys → Type 0) → StepLaws → (wrap : Run) (locked : List Run) (before later text : Written) (old : Keys) (goes : GoesUnder standard_table wrap locked before later text) → DrawsBytes wrap → AllByRecursion DrawsBytes locked → HoldsBytes before → keyset_of before ≡ Some old → EachUnder P locked goes.master goes.first goes.last text goes.are → P old → GivesLast P old goes.opens.new text
gives_last P l wrap locked before later text old goes random bytes holds is each p =
    let start = wrapped_first l wrap goes.master before goes.first goes.over old goes.wraps goes.read is holds random in
    let d = led_under P l locked goes.master goes.first goes.last text old goes.are each p bytes start in
    record {
      new = d.new;
      edited = d.edited;
      has = d.has;
      gives = given_again l goes.last later text d.new goes.opens d.seal;
      short = d.seal.short;
      faultless = d.seal.faultless;
      stored = d.seal.stored;
    }

pub record KeptLast (P : Keys → Type 0) (old : Keys) (after : Written) : Type 0 where
  pub new : Keys
  pub edited : IsEdited old new
  pub has : P new
  pub keeps : Keeps new after

pub locks_keep : (P : Keys → Type 0) → StepLaws → (wrap : Run) (locked : List Run) (unwrap : Run) (before after : Written) (old : Keys) (goes : GoesLocked standard_table wrap locked unwrap before after) → DrawsBytes wrap → AllByRecursion DrawsBytes locked → HoldsBytes before → keyset_of before ≡ Some old
    → EachUnder P locked goes.goes.master goes.goes.first goes.goes.last goes.text goes.goes.are → P old → KeptLast P old after
locks_keep P l wrap locked unwrap before after old goes random bytes holds is each p =
    let d = gives_last P l wrap locked before goes.later goes.text old goes.goes random bytes holds is each p in
    record {
      new = d.new;
      edited = d.edited;
      has = d.has;
      keeps = unwrap_keeps l.faultless l.binary l.json unwrap goes.later goes.text after goes.goes.opens.new d.new goes.unwraps goes.goes.opens.read_again d.gives d.faultless d.stored;
    }

pub locks_step : StepLaws → LocksStep
locks_step l wrap locked unwrap before after old goes random bytes holds is =
    let g = goes.goes in
    let k = locks_keep (λ keys. Unit {0}) l wrap locked unwrap before after old goes random bytes holds is (each_none locked g.master g.first g.last goes.text g.are) tt in
    record { new = k.new; edited = k.edited; keeps = k.keeps }

-- it serves there under the last master, where its records can serve
record LastServes (later text : Written) (old over : Keys) : Type 0 where
  new : Keys
  edited : IsEdited old new
  keyset : IsKeyset old
  gives : GivesUnder over text new
  within : length text.bytes ≤ wrapped_limit

last_serves : ReadKeysFit → StepLaws → (wrap : Run) (locked : List Run) (before later text : Written) (old over : Keys) → GoesUnder standard_table wrap locked before later text → DrawsBytes wrap → AllByRecursion DrawsBytes locked → HoldsBytes before → keyset_of before ≡ Some old → keyset_of later ≡ Some over → LastServes later text old over
last_serves fit l wrap locked before later text old over goes random bytes holds is read =
    let d = gives_last (λ keys. Unit {0}) l wrap locked before later text old goes random bytes holds is (each_none locked goes.master goes.first goes.last text goes.are) tt in
    let w = wraps_done wrap goes.master before goes.first goes.over old goes.wraps goes.read is in
    record {
      new = d.new;
      edited = d.edited;
      keyset = read_keyset fit before.form before.bytes old w.within is;
      gives = subst (λ k. unwrap_of k standard_table text.bytes (is_json text.form) ≡ Ok d.new) (same_Some _ _ (sym goes.opens.read_again ∙ read)) d.gives;
      within = d.short;
    }

pub locks_serve : (p : Primitive) → SoundIsUsable p → EditedIsSound → ReadKeysFit → StepLaws → LocksServe p
locks_serve p usable sound fit l wrap locked before later text old over goes random bytes holds is serves fits =
    let x = last_serves fit l wrap locked before later text old over goes random bytes holds is serves.read in
    record {
      new = x.new;
      edited = x.edited;
      serves = record { over = over; opens = serves; gives = x.gives; within = x.within; fit = still_fit p usable sound l.edited old x.new x.keyset x.edited fits };
    }

-- edits keep what serves streams
streams_still : EditedIsSound → (old new : Keys) → IsKeyset old → IsEdited old new → stream_unfit old ≡ None → stream_unfit new ≡ None
streams_still sound old new keyset edited fits = sound_fit new (sound Stream old new edited (fit_sound old keyset fits))

pub locks_serve_streams : EditedIsSound → ReadKeysFit → StepLaws → LocksServeStreams
locks_serve_streams sound fit l wrap locked before later text old over goes random bytes holds is serves fits =
    let x = last_serves fit l wrap locked before later text old over goes random bytes holds is serves.read in
    record {
      new = x.new;
      edited = x.edited;
      serves = record {
        taken = record { master = Some over; opens = serves; gives = x.gives; within = x.within };
        fit = streams_still sound old x.new x.keyset x.edited fits;
      };
    }

-- ---- a keyset that was created under a master

first_left : (row : Row) (random : List ℕ) (s : Drawn Keys) → AreBytes random → first row random ≡ Some s → AreBytes s.left
first_left row random s all e =
    let front = fronts-first row random s e in
    bytes_behind front.0 s.left (subst AreBytes front.1 all)

record CreatedUnder (template random : List ℕ) (master text : Written) : Type 0 where
  new : Keys
  created : IsCreated template random new
  seal : UnderSeal master text new

created_under : FirstsAreKeysets → FirstsAreStored → (lock : Master) (template : List ℕ) (out : KeysetFile) (told : Told) (master text : Written) (over : Keys) → lock.form ≡ master.form → map.get told.files lock.file ≡ Some master.bytes → keyset_of master ≡ Some over → AreBytes told.random
    → IsDoneAnswer (answer (command_plan standard_table (create_keyset (Some lock) template out)) told) → out.form ≡ text.form
    → bytes_at out.file (answer (command_plan standard_table (create_keyset (Some lock) template out)) told).files (answer (command_plan standard_table (create_keyset (Some lock) template out)) told).output ≡ Some text.bytes
    → CreatedUnder template told.random master text
created_under firsts firsts_stored lock template out told master text over form lies read random done put_form put =
    let makes : Row → Option Keys → Plan = λ row m. makes_keyset (first row) (puts_under standard_table m out) in
    let f = found_row (row_named template) template (λ row. opens_master origins.Master standard_table lock (makes row)) told done in
    let d1 : IsDoneAnswer (answer (opens_master origins.Master standard_table lock (makes f.0)) told) = ap (λ (a : Answer). a.status) (sym f.2) ∙ done in
    let o = lock_done origins.Master standard_table lock.file lock.form master.bytes over (makes f.0) told lies (ap (λ x. read_in x master.bytes) form ∙ read) d1 in
    let m = made_done (first f.0) (puts_under standard_table (Some over) out) told (ap (λ (a : Answer). a.status) (sym o.goes_on) ∙ d1) in
    let left = record told { random = m.drawn.left } in
    let whole = f.2 ∙ o.goes_on ∙ m.goes_on in
    let p = put_under over out m.new left (ap (λ (a : Answer). a.status) (sym whole) ∙ done) in
    let row = template_row template f.0 f.1 in
    record {
      new = m.new;
      created = record { row = f.0; named = f.1; stepped = m.drawn; steps = m.gave; accepted = m.made };
      seal = sealed_so master text over m.new out left p _ read o.within (first_left f.0 told.random m.drawn random m.gave) put_form put (ap (λ (a : Answer). bytes_at out.file a.files a.output) whole ∙ p.there)
          (firsts m.new f.0 told.random m.drawn row m.gave m.made)
          (firsts_stored m.new f.0 told.random m.drawn row random m.gave m.made);
    }

created_by : FirstsAreKeysets → FirstsAreStored → (run : Run) (template : List ℕ) (master text : Written) (over : Keys) → CreatesUnder standard_table run template master text → keyset_of master ≡ Some over → DrawsBytes run → CreatedUnder template run.told.random master text
created_by firsts firsts_stored run template master text over x read random =
    let a : Asked → Answer = λ asked. answer (command_plan standard_table asked) run.told in
    created_under firsts firsts_stored x.lock template x.out run.told master text over x.form x.lies read random
    (ap (λ asked. (a asked).status) (sym x.asked) ∙ x.done) x.put_form
    (ap (λ asked. bytes_at x.out.file (a asked).files (a asked).output) (sym x.asked) ∙ x.put)

-- what was created, and went on
record CreatedLast (template random : List ℕ) (later text : Written) (over : Keys) : Type 0 where
  old : Keys
  created : IsCreated template random old
  last : LastServes later text old over

created_last : FirstsAreKeysets → FirstsAreStored → StepLaws → (run : Run) (locked : List Run) (template : List ℕ) (master first last later text : Written) (begun over : Keys) → CreatesUnder standard_table run template master first → keyset_of master ≡ Some begun
    → AreLocked standard_table locked master first last text → StillOpens last later → DrawsBytes run → AllByRecursion DrawsBytes locked → keyset_of later ≡ Some over → CreatedLast template run.told.random later text over
created_last firsts firsts_stored l run locked template master first last later text begun over x read are opens random bytes read_again =
    let c = created_by firsts firsts_stored run template master first begun x read random in
    let d = led_under (λ keys. Unit {0}) l locked master first last text c.new are (each_none locked master first last text are) tt bytes c.seal in
    record {
      old = c.new;
      created = c.created;
      last = record {
        new = d.new;
        edited = d.edited;
        keyset = record { faultless = c.seal.faultless; words = each_of c.new.records (λ r s. s.held.id) c.seal.stored };
        gives = subst (λ k. unwrap_of k standard_table text.bytes (is_json text.form) ≡ Ok d.new) (same_Some _ _ (sym opens.read_again ∙ read_again)) (given_again l last later text d.new opens d.seal);
        within = d.seal.short;
      };
    }

pub created_serve : (p : Primitive) → SoundIsUsable p → EditedIsSound → FirstsAreKeysets → FirstsAreStored → StepLaws → CreatedServe p
created_serve p usable sound firsts firsts_stored l run locked template master first last later text begun over x read are opens random bytes serves =
    let c = created_last firsts firsts_stored l run locked template master first last later text begun over x read are opens random bytes serves.read in
    let w = c.last in (
      c.old,
      c.created,
      λ fits. record {
        new = w.new;
        edited = w.edited;
        serves = record { over = over; opens = serves; gives = w.gives; within = w.within; fit = still_fit p usable sound l.edited c.old w.new w.keyset w.edited fits };
      },
    )

pub created_serve_streams : EditedIsSound → FirstsAreKeysets → FirstsAreStored → StepLaws → CreatedServeStreams
created_serve_streams sound firsts firsts_stored l run locked template master first last later text begun over x read are opens random bytes serves =
    let c = created_last firsts firsts_stored l run locked template master first last later text begun over x read are opens random bytes serves.read in
    let w = c.last in (
      c.old,
      c.created,
      λ fits. record {
        new = w.new;
        edited = w.edited;
        serves = record {
          taken = record { master = Some over; opens = serves; gives = w.gives; within = w.within };
          fit = streams_still sound c.old w.new w.keyset w.edited fits;
        };
      },
    )

-- one template makes one keyset of random bytes
created_once : (template random : List ℕ) (old new : Keys) → IsCreated template random old → IsCreated template random new → new ≡ old
created_once template random old new x y =
    let rows : y.row ≡ x.row = same_Some _ _ (sym y.named ∙ x.named) in
    let steps : y.stepped ≡ x.stepped = same_Some _ _ (sym y.steps ∙ ap (λ (row : Row). first row random) rows ∙ x.steps) in
    let answers : ◌≡◌ {A = Result Keys EditRefusal} (Ok new) (Ok old) = sym y.accepted ∙ ap (λ (s : Drawn Keys). s.answer) steps ∙ x.accepted in
    cc

-- so does one that was created under a master
pub created_first : FirstsAreKeysets → FirstsAreStored → (run : Run) (template : List ℕ) (master text : Written) (over old : Keys) → CreatesUnder standard_table run template master text → keyset_of master ≡ Some over → IsCreated template run.told.random old → DrawsBytes run → UnderSeal master text old
created_first firsts firsts_stored run template master text over old x read created random =
    let c = created_by firsts firsts_stored run template master text over x read random in
    subst (UnderSeal master text) (created_once template run.told.random old c.new created c.created) c.seal

-- and gives it under a master that still opens it
pub created_gives : FirstsAreKeysets → FirstsAreStored → StepLaws → (run : Run) (template : List ℕ) (master text later : Written) → CreatesUnder standard_table run template master text → DrawsBytes run → (opens : StillOpens master later) → (keys : Keys) × IsCreated template run.told.random keys × GivesUnder opens.new text keys
created_gives firsts firsts_stored l run template master text later x random opens =
    let c = created_by firsts firsts_stored run template master text opens.old x opens.read random in
    (c.new, c.created, given_again l master later text c.new opens c.seal)

-- ---- one more run

-- what it did to the keyset that its text gave, and what the text that it put gives under a master
pub record OneMore (P : Keys → Type 0) (run : Run) (over : Keys) (after : Written) : Type 0 where
  pub old : Keys
  pub has : P old
  pub stored : AreStored old
  pub new : Keys
  pub does : Does standard_table run.told old new run.asked
  pub gives : GivesUnder over after new

pub one_more : (P : Keys → Type 0) → StepLaws → (locked : List Run) (run : Run) (master first last opening text put after later : Written) (old : Keys) (are : AreLocked standard_table locked master first last text) → EachUnder P locked master first last text are → P old → AllByRecursion DrawsBytes locked → UnderSeal master first old
    → StillOpens last opening → HandsUnder standard_table run opening text put after → DrawsBytes run → (opens : StillOpens put later) → OneMore P run opens.new after
one_more P l locked run master first last opening text put after later old are each p bytes s still hands random opens =
    let d = led_under P l locked master first last text old are each p bytes s in
    let went = went_so run opening text put after still.new d.new hands still.read_again (given_again l last opening text d.new still d.seal) d.seal.faultless d.seal.stored random in
    let step' = step_by l run.asked run.told opening text put after still.new d.new hands.locked hands.hands went in
    record {
      old = d.new;
      has = d.has;
      stored = d.seal.stored;
      new = step'.new;
      does = step'.does;
      gives = given_again l put later after step'.new opens step'.seal;
    }
