-- Runs that hand a keyset on: what one does, and what is readable after many.
use Rattle.std.proofs.Common.{◌≡◌, ◌∙◌, sym, refl, ap, subst, arith, ℕ, ◌<◌, ◌≤◌, ◌^◌, Bool, true, false, cond, List, [], ◌∷◌, ◌++◌, length, map as each, append-nil, Option, Some, None, option_map, Result, Ok, Err}
use Rattle.std.specs.Prelude.{find, IsSome}
use Rattle.std.specs.FinMap as map
use Rattle.std.specs.List.{AllByRecursion}
use Rattle.std.specs.Result.{result_ok}
use Rattle.std.proofs.lemmas.Option.{same_Some}
use Rattle.key_msgs.specs.Templates.{Row, is_asymmetric, row_named}
use Rattle.key_msgs.specs.declared.primitive.Primitive.{Primitive}
use Rattle.keyset_json.specs.Reading.{reads_json}
use Rattle.keyset_json.specs.Reading as json
use Rattle.keyset_json.specs.Writing.{JsonBack, json_of}
use Rattle.keyset_json.proofs.StoredLemmas.{json_is_stored}
use Rattle.keyset_model.specs.Keyset.{Keys, built, fault_of, is_primary, primary_of, unless_fault}
use Rattle.keyset_model.specs.Reading.{reads_binary}
use Rattle.keyset_model.specs.Reading as binary
use Rattle.keyset_model.specs.WellFormed.{FaultlessKeysets}
use Rattle.keyset_model.specs.Writing.{BinaryBack, ReadKeysFit}
use Rattle.keyset_model.specs.declared.keyset.KeysetRefusal.{KeysetRefusal}
use Rattle.keyset_model.specs.declared.record.Record.{Record}
use Rattle.managers.specs.Standard.{standard_table}
use Rattle.managers.specs.Table.{Table}
use Rattle.tinkey_cmds.specs.Draws.{Drawn}
use Rattle.tinkey_cmds.specs.Edits.{step}
use Rattle.tinkey_cmds.specs.Laws.{EditsKeepKeysets, IsTemplate}
use Rattle.tinkey_session.proofs.Options.{clash, no_truth}
use Rattle.tinkey_session.proofs.StoredLemmas.{byte_there}
use Rattle.tinkey_session.proofs.TurnLemmas.{edited_on, named_template, template_there}
use Rattle.tinkey_session.specs.Serving.{template_or}
use Rattle.tinkey_session.specs.HeldLaws.{AreBytes, AreStored, EditsKeepStored, IsStored, SessionsKeepStored}
use Rattle.tinkey_session.specs.Laws.{EditedIsKeyset, EditedIsSound, IsEdited, SoundIsUsable, after}
use Rattle.tinkey_session.specs.Lines.{line_of}
use Rattle.tinkey_session.specs.Session.{Remains, lines_of, remains}
use Rattle.tinkey_session.specs.Talking.{Stop, goes, wants, passes, line_limit, long_line, many_lines, Talk}
use Rattle.tinkey_session.specs.Saving.{by_files, files_after, with_saved_only}
use Rattle.tinkey_session.specs.SessionLaws.{SessionIsEdits}
use Rattle.tinkey_session.specs.TalkLaws.{SavesAreTurns}
use Rattle.wrapped_prims.specs.Answers.{Sealed, dseal_answer, seal_answer, tag_answer}
use Rattle.wrapped_prims.specs.Laws.{IsKeyset}
use Rattle.wrapped_prims.specs.Making.{HasWordId}
use Rattle.wrapped_prims.specs.Fitness.{unfit}
use Rattle.tinkey_plans.specs.declared.origin.Origin.TheVariants as origins
use Rattle.tinkey_plans.specs.declared.status.Status.TheVariants as status
use Rattle.tinkey_words.specs.declared.words.rows.Format.{Format}
use Rattle.tinkey_words.specs.declared.words.rows.Format.TheVariants as formats
use Rattle.tinkey_plans.specs.Commands.{command_plan}
use Rattle.tinkey_plans.specs.Plan.{Told, Answer, Plan, answer, exchanges, writes, draw_answer, look_answer, refused, talk_answer}
use Rattle.tinkey_plans.specs.Session.{finds_free, form_under, holds_session, saves, saves_as, saving_session}
use Rattle.tinkey_readable.specs.Runs.{Handing, hands_on, session_handing, AreRuns, Does, Gives, HandsOn, HoldsBytes, IsDone, Keeps, LeadOn, ReadIsStored, Passage, PassesBytes, Run, RunStep, WasDone, LocksStep, Written, by_run, by_wrap, bytes_at, keyset_of, master_told, read_in, saving_lines, shown, told_lines, told_session}
use Rattle.tinkey_plans.specs.Laws.{FitKeysetsAnswer}
use Rattle.tinkey_plans.specs.Steps.{input_limit, sealed_limit, keyset_limit, takes_keyset, makes_keyset, puts_keyset, with_made, written_in}
use Rattle.tinkey_plans.specs.declared.sealer.Sealer.{Sealer}
use Rattle.tinkey_plans.specs.declared.sealer.Unopened.{Unopened}
use Rattle.tinkey_plans.specs.Using.{as_drawn, limit_for, made_bytes, with_opened, with_verified, works, puts_output}
use Rattle.tinkey_words.specs.Words.{Asked, AskedEdit, AskedWork, Output, KeysetFile, create_keyset, edit_keyset, list_keyset, key_of, as_taken, in_clear, under, convert_keyset, list_key_templates, use_keyset, use_envelope, use_stream, open_range, self_test, session, to_seal, to_dseal, to_tag, primitive_for, help, version}
use Rattle.seal_wrap.specs.Sealings.{DsealingsFit, SealingsFit}
use Rattle.tinkey_readable.proofs.ReachLemmas.{load_done, load_within, IsDoneAnswer, UsedKeys, behind, found_edit, made_done, put_done, taken_done, taken_within, used_done, used_reached, used_within}
use Rattle.tinkey_readable.proofs.PutLemmas.{made_is, made_put, made_written, worked}
use Rattle.tinkey_readable.proofs.WrittenBytesLemmas.{written_bytes}

-- ---- what is read is a keyset

of_built : (keys got : Keys) (o : Option KeysetRefusal) → fault_of got ≡ o → unless_fault o got ≡ Ok keys → fault_of keys ≡ None
of_built keys got None is e = let same : got ≡ keys = cc in ap fault_of (sym same) ∙ is
of_built keys got (Some fault) is e = absurd (cc)

pub read_binary_keyset : (bytes : List ℕ) (keys : Keys) → reads_binary bytes ≡ Ok keys → fault_of keys ≡ None
unfolding reads_binary
read_binary_keyset bytes keys e = of_read _ e
  where
    of_checked : (got : Keys) (r : Result Keys KeysetRefusal) → built got ≡ r → binary.without_fault r ≡ Ok keys → fault_of keys ≡ None
    of_checked got (Ok k) is e = let same : k ≡ keys = cc in of_built keys got (fault_of got) refl (is ∙ ap Ok same)
    of_checked got (Err fault) is e = absurd (cc)

    of_read : (r : Result Keys ℕ) → binary.well_formed r ≡ Ok keys → fault_of keys ≡ None
    of_read (Ok got) e = of_checked got (built got) refl e
    of_read (Err at) e = absurd (cc)

read_json_keyset : (bytes : List ℕ) (keys : Keys) → reads_json bytes ≡ Ok keys → fault_of keys ≡ None
unfolding reads_json
read_json_keyset bytes keys e = of_read _ e
  where
    of_checked : (got : Keys) (r : Result Keys KeysetRefusal) → built got ≡ r → json.without_fault r ≡ Ok keys → fault_of keys ≡ None
    of_checked got (Ok k) is e = let same : k ≡ keys = cc in of_built keys got (fault_of got) refl (is ∙ ap Ok same)
    of_checked got (Err fault) is e = absurd (cc)

    of_keys : (r : Result Keys _) → json.well_formed r ≡ Ok keys → fault_of keys ≡ None
    of_keys (Ok got) e = of_checked got (built got) refl e
    of_keys (Err path) e = absurd (cc)

    of_read : (d : Option _) → json.of_value d ≡ Ok keys → fault_of keys ≡ None
    of_read None e = absurd (cc)
    of_read (Some d) e = of_keys _ e

pub ok_of : {A E : Type 0} (r : Result A E) (x : A) → result_ok r ≡ Some x → r ≡ Ok x
ok_of (Ok y) x e = ap Ok (same_Some _ _ e)
ok_of (Err y) x e = clash e

pub read_faultless : (written : Written) (keys : Keys) → keyset_of written ≡ Some keys → fault_of keys ≡ None
read_faultless written keys e = by_form written.form e
  where
    by_form : (form : Format) → read_in form written.bytes ≡ Some keys → fault_of keys ≡ None
    by_form formats.Json e = read_json_keyset written.bytes keys (ok_of (reads_json written.bytes) keys e)
    by_form formats.Binary e = read_binary_keyset written.bytes keys (ok_of (reads_binary written.bytes) keys e)

pub each_of : {A : Type 0} {P Q : A → Type 0} (xs : List A) → ((x : A) → P x → Q x) → AllByRecursion P xs → AllByRecursion Q xs
each_of [] f all = tt
each_of (x ∷ xs) f all = (f x all.0, each_of xs f all.1)

read_words : ReadKeysFit → (form : Format) (bytes : List ℕ) (keys : Keys) → length bytes ≤ keyset_limit → read_in form bytes ≡ Some keys → AllByRecursion HasWordId keys.records
read_words fit formats.Json bytes keys within e = each_of keys.records (λ r b. b.id) (json_is_stored bytes keys (ok_of (reads_json bytes) keys e)).2
read_words fit formats.Binary bytes keys within e = each_of keys.records (λ r b. b.id) (fit bytes keys (omega (arith, within)) (ok_of (reads_binary bytes) keys e)).1

pub read_keyset : ReadKeysFit → (form : Format) (bytes : List ℕ) (keys : Keys) → length bytes ≤ keyset_limit → read_in form bytes ≡ Some keys → IsKeyset keys
read_keyset fit form bytes keys within e = record { faultless = read_faultless (record { bytes = bytes; form = form }) keys e; words = read_words fit form bytes keys within e }

-- ---- what is written is read back

found_each : (P : Record → Type 0) (test : Record → Bool) (xs : List Record) (x : Record) → find test xs ≡ Some x → AllByRecursion P xs → P x
found_each P test [] x e all = clash e
found_each P test (y ∷ xs) x e all = (elim (test y) as (λ (b : Bool). cond b (Some y) (find test xs) ≡ Some x → P x) [
  | true ↦ λ h. subst P (same_Some _ _ h) all.0
  | false ↦ λ h. found_each P test xs x h all.1
]) e

pub primary_word : FaultlessKeysets → (keys : Keys) → fault_of keys ≡ None → AreStored keys → keys.primary < 2 ^ 32
primary_word law keys faultless stored =
    let there = ((law keys).0 faultless).primary in
    let r = found_each IsStored (is_primary keys.primary) keys.records there.0 there.1 stored in
    subst (λ n. n < 2 ^ 32) there.2 r.held.id

pub json_back : JsonBack → (keys : Keys) → fault_of keys ≡ None → AreStored keys → reads_json (json_of keys) ≡ Ok keys
json_back json keys faultless stored = json keys faultless (each_of keys.records (λ r s. record { id = s.held.id; utf8 = s.held.utf8; bytes = byte_there r.value s.bytes }) stored)

pub written_back : BinaryBack → JsonBack → (form : Format) (keys : Keys) → fault_of keys ≡ None → AreStored keys → read_in form (written_in form keys) ≡ Some keys
written_back binary json formats.Json keys faultless stored = ap result_ok (json_back json keys faultless stored)
written_back binary json formats.Binary keys faultless stored = ap result_ok (binary keys faultless (each_of keys.records (λ r s. record { id = s.held.id; utf8 = s.held.utf8; short = s.held.short }) stored))

-- ---- one run

pub template_row : (name : List ℕ) (row : Row) → row_named name ≡ Some row → IsTemplate row
template_row name row e = template_there name row (ap (λ (o : Option Row). template_or o (is_asymmetric name)) e)

-- a keyset that was put out is there, and is read back
pub kept : FaultlessKeysets → BinaryBack → JsonBack → (new : Keys) (form : Format) (after : Written) (found : Option (List ℕ)) → form ≡ after.form → found ≡ Some after.bytes → found ≡ Some (written_in form new) → length (written_in form new) ≤ keyset_limit → fault_of new ≡ None → AreStored new
    → Keeps new after
kept law binary json new form after found same put is within faultless stored = record {
  read = subst (λ f. read_in f after.bytes ≡ Some new) same (ap (read_in form) (same_Some _ _ (sym put ∙ is)) ∙ written_back binary json form new faultless stored);
  stored = stored;
  within = subst (λ bytes. length bytes ≤ keyset_limit) (same_Some _ _ (sym is ∙ put)) within;
  holds = subst AreBytes (same_Some _ _ (sym is ∙ put)) (written_bytes form new ((law new).0 faultless) (primary_word law new faultless stored) stored (json_back json new faultless stored));
}

-- what a run did, and so what keyset was written
given : FaultlessKeysets → BinaryBack → JsonBack → (table : Table) (run : Run) (old new : Keys) (out : KeysetFile) (after : Written) → out.form ≡ after.form
    → bytes_at out.file (answer (command_plan table run.asked) run.told).files (answer (command_plan table run.asked) run.told).output ≡ Some after.bytes
    → bytes_at out.file (answer (command_plan table run.asked) run.told).files (answer (command_plan table run.asked) run.told).output ≡ Some (written_in out.form new)
    → length (written_in out.form new) ≤ keyset_limit → fault_of new ≡ None → AreStored new → Does table run.told old new run.asked → Gives table run old after
given law binary json table run old new out after form put is within faultless stored does =
    let k = kept law binary json new out.form after _ form put is within faultless stored in
    record { new = new; read = k.read; does = does; stored = stored; within = k.within; holds = k.holds }

behind_random : (file : Option (List ℕ)) (told : Told) → (behind file told).random ≡ told.random
behind_random (Some name) told = refl
behind_random None told = refl

edit_step : FaultlessKeysets → BinaryBack → JsonBack → EditsKeepKeysets → EditsKeepStored → (table : Table) (edit : AskedEdit) (in' out : KeysetFile) (told : Told) (before after : Written) (old : Keys)
    → IsDoneAnswer (answer (command_plan table (edit_keyset None edit in' out)) told)
    → in'.form ≡ before.form → bytes_at in'.file told.files told.input ≡ Some before.bytes → out.form ≡ after.form
    → bytes_at out.file (answer (command_plan table (edit_keyset None edit in' out)) told).files (answer (command_plan table (edit_keyset None edit in' out)) told).output ≡ Some after.bytes
    → AllByRecursion (λ b. b < 256) told.random → keyset_of before ≡ Some old → AreStored old
    → Gives table (record { asked = edit_keyset None edit in' out; told = told }) old after
edit_step law binary json keeps keeps_stored table edit in' out told before after old done form read put_form put random is stored =
    let f = found_edit edit (λ e. takes_keyset in' (λ keys. makes_keyset (step keys e) (puts_keyset out))) told done in
    let d : IsDoneAnswer (answer (takes_keyset in' (λ keys. makes_keyset (step keys f.edit) (puts_keyset out))) told) = ap (λ (a : Answer). a.status) (sym f.goes_on) ∙ done in
    let t = taken_done in' before.bytes old (λ keys. makes_keyset (step keys f.edit) (puts_keyset out)) told read (ap (λ x. read_in x before.bytes) form ∙ is) d in
    let behind' = behind in'.file told in
    let m = made_done (step old f.edit) (puts_keyset out) behind' (ap (λ (a : Answer). a.status) (sym t) ∙ d) in
    let left = record behind' { random = m.drawn.left } in
    let whole = f.goes_on ∙ t ∙ m.goes_on in
    let p = put_done out m.new left (ap (λ (a : Answer). a.status) (sym whole) ∙ done) in
    let gave : step old f.edit told.random ≡ Some m.drawn = ap (step old f.edit) (sym (behind_random in'.file told)) ∙ m.gave in
    let template = named_template edit f.edit f.is in
    let faultless = read_faultless before old is in
    given law binary json table (record { asked = edit_keyset None edit in' out; told = told }) old m.new out after put_form put
    (ap (λ (a : Answer). bytes_at out.file a.files a.output) whole ∙ p.there)
    p.within
    (keeps old m.new f.edit told.random m.drawn template faultless gave m.made)
    (keeps_stored old m.new f.edit told.random m.drawn template random stored gave m.made)
    (record { edit = f.edit; is = f.is; stepped = m.drawn; steps = gave; accepted = m.made })

convert_step : FaultlessKeysets → BinaryBack → JsonBack → (table : Table) (in' out : KeysetFile) (told : Told) (before after : Written) (old : Keys)
    → IsDoneAnswer (answer (command_plan table (convert_keyset None as_taken in' out)) told)
    → in'.form ≡ before.form → bytes_at in'.file told.files told.input ≡ Some before.bytes → out.form ≡ after.form
    → bytes_at out.file (answer (command_plan table (convert_keyset None as_taken in' out)) told).files (answer (command_plan table (convert_keyset None as_taken in' out)) told).output ≡ Some after.bytes
    → keyset_of before ≡ Some old → AreStored old
    → Gives table (record { asked = convert_keyset None as_taken in' out; told = told }) old after
convert_step law binary json table in' out told before after old done form read put_form put is stored =
    let t = taken_done in' before.bytes old (puts_keyset out) told read (ap (λ x. read_in x before.bytes) form ∙ is) done in
    let p = put_done out old (behind in'.file told) (ap (λ (a : Answer). a.status) (sym t) ∙ done) in
    given law binary json table (record { asked = convert_keyset None as_taken in' out; told = told }) old old out after put_form put
    (ap (λ (a : Answer). bytes_at out.file a.files a.output) t ∙ p.there)
    p.within
    (read_faultless before old is) stored refl

-- the answer of a session over its whole input that is Done, and what goes on
pub record SessionDone (table : Table) (master : Option Keys) (out : KeysetFile) (saved_only : Bool) (old : Keys) (told : Told) : Type 0 where
  pub last : Remains
  pub is : remains table old (told_lines table master out.form saved_only old told) told.random ≡ Some last
  pub short : AllByRecursion (λ line. length line ≤ line_limit) (lines_of told.input)
  pub left : Told
  pub left_bytes : last.left ≡ left.random
  pub goes_on : (answer (exchanges (saving_session table master out.form saved_only old) (saves table master out)) told).files ≡ (answer (saves table master out last.keys) left).files
  pub done : IsDoneAnswer (answer (saves table master out last.keys) left)

pub talk_done : SavesAreTurns → (table : Table) (master : Option Keys) (out : KeysetFile) (saved_only : Bool) (old : Keys) (told : Told) → IsDoneAnswer (answer (exchanges (saving_session table master out.form saved_only old) (saves table master out)) told) → SessionDone table master out saved_only old told
talk_done law table master out saved_only old told done = by_stop x.stop refl done
  where
    x : Talk
    x = told_session table master out.form saved_only old told

    made : Told
    made = record told { files = files_after told.files x.asked }

    left : Told
    left = record made { input = []; random = x.random }

    next : Answer
    next = answer (saves table master out x.keys) left

    by_stop : (s : Stop) → x.stop ≡ s → IsDoneAnswer (talk_answer s x made next) → SessionDone table master out saved_only old told
    by_stop goes is done =
        let t = law table (with_saved_only saved_only (form_under table master out.form)) (by_files told.files) old told.input told.random true in
        let all : lines_of told.input ≡ t.answered = t.cut ∙ ap (λ l. t.answered ++ l) (t.all is) ∙ append-nil t.answered in
        record {
          last = t.last;
          is = ap (λ l. remains table old (saving_lines table (with_saved_only saved_only (form_under table master out.form)) (by_files told.files) old (each line_of l) told.random) told.random) all ∙ t.remains';
          short = subst (λ l. AllByRecursion (λ line. length line ≤ line_limit) l) (sym all) t.short;
          left = left;
          left_bytes = t.left (λ h. let e : goes ≡ wants = sym is ∙ h in absurd (cc));
          goes_on = ap (λ (a : Answer). a.files) (ap (λ s. talk_answer s x made next) is) ∙ ap (λ k. (answer (saves table master out k) left).files) (sym t.keys');
          done = ap (λ k. (answer (saves table master out k) left).status) t.keys' ∙ done;
        }
    by_stop wants is done = absurd (cc)
    by_stop (passes long_line) is done = absurd (cc)
    by_stop (passes many_lines) is done = absurd (cc)

-- where the whole is Done, the name was free
pub free_done : (file : Option (List ℕ)) (next : Unit {0} → Plan) (told : Told) → IsDoneAnswer (answer (finds_free file next) told) → answer (finds_free file next) told ≡ answer (next tt) told
free_done None next told done = refl
free_done (Some name) next told done = by (map.get told.files name) done
  where
    by : (found : Option (List ℕ)) → IsDoneAnswer (look_answer found (refused told status.OutExists) (answer (next tt) told)) → look_answer found (refused told status.OutExists) (answer (next tt) told) ≡ answer (next tt) told
    by None done = refl
    by (Some there) done = absurd (cc)

-- what a session saved is within the limit, and is there
record SavedKeyset (table : Table) (out : KeysetFile) (keys : Keys) (told : Told) (file : List ℕ) : Type 0 where
  within : length (written_in out.form keys) ≤ keyset_limit
  there : map.get (answer (saves table None out keys) told).files file ≡ Some (written_in out.form keys)

saved : (table : Table) (out : KeysetFile) (keys : Keys) (told : Told) (file : List ℕ) → out.file ≡ Some file → IsDoneAnswer (answer (saves table None out keys) told) → SavedKeyset table out keys told file
saved table out keys told file is done = by out.file refl is done
  where
    by : (f : Option (List ℕ)) → out.file ≡ f → f ≡ Some file → IsDoneAnswer (answer (saves_as table None f out.form keys) told) → SavedKeyset table out keys told file
    by None at is done = clash is
    by (Some other) at is done =
        let p = put_done (record { file = Some other; form = out.form }) keys told done in
        record {
          within = p.within;
          there = ap (λ f. map.get (answer (saves_as table None f out.form keys) told).files file) at
              ∙ subst (λ n. map.get (answer (saves_as table None (Some other) out.form keys) told).files n ≡ Some (written_in out.form keys)) (same_Some _ _ is) p.there;
        }

session_step : FaultlessKeysets → BinaryBack → JsonBack → SavesAreTurns → SessionIsEdits → EditedIsKeyset → SessionsKeepStored → (table : Table) (name : List ℕ) (form : Format) (out : KeysetFile) (saved_only : Bool) (file : List ℕ) (told : Told) (before after : Written) (old : Keys)
    → out.file ≡ Some file → IsDoneAnswer (answer (command_plan table (session None name form out saved_only)) told)
    → form ≡ before.form → map.get told.files name ≡ Some before.bytes → out.form ≡ after.form
    → bytes_at out.file (answer (command_plan table (session None name form out saved_only)) told).files (answer (command_plan table (session None name form out saved_only)) told).output ≡ Some after.bytes
    → AllByRecursion (λ b. b < 256) told.random → keyset_of before ≡ Some old → AreStored old
    → Gives table (record { asked = session None name form out saved_only; told = told }) old after
session_step law binary json turns sessions edited keeps table name form out saved_only file told before after old named done form_is read put_form put random is stored =
    let l = load_done origins.Keyset name form before.bytes old (holds_session table None out saved_only) told read (ap (λ x. read_in x before.bytes) form_is ∙ is) done in
    let whole : IsDoneAnswer (answer (holds_session table None out saved_only old) told) = ap (λ (a : Answer). a.status) (sym l) ∙ done in
    let free = free_done out.file (λ free. exchanges (saving_session table None out.form saved_only old) (saves table None out)) told whole in
    let d = talk_done turns table None out saved_only old told (ap (λ (a : Answer). a.status) (sym free) ∙ whole) in
    let p = saved table out d.last.keys d.left file named d.done in
    let faultless = read_faultless before old is in
    let keyset : IsKeyset old = record { faultless = faultless; words = each_of old.records (λ r s. s.held.id) stored } in
    let files = ap (λ (a : Answer). a.files) l ∙ ap (λ (a : Answer). a.files) free ∙ d.goes_on in
    given law binary json table (record { asked = session None name form out saved_only; told = told }) old d.last.keys out after put_form put
    (ap (λ f. bytes_at f (answer (command_plan table (session None name form out saved_only)) told).files (answer (command_plan table (session None name form out saved_only)) told).output) named ∙ ap (λ f. map.get f file) files ∙ p.there)
    p.within
    (edited old d.last.keys (sessions table old (told_lines table None out.form saved_only old told) told.random d.last d.is) keyset).faultless
    (keeps table old (told_lines table None out.form saved_only old told) told.random d.last random stored d.is)
    (d.last, d.is, refl)

by_asked : FaultlessKeysets → BinaryBack → JsonBack → EditsKeepKeysets → EditsKeepStored → SavesAreTurns → SessionIsEdits → EditedIsKeyset → SessionsKeepStored → (table : Table) (asked : Asked) (told : Told) (before after : Written) (old : Keys) (h : Handing)
    → hands_on asked ≡ Some h → IsDoneAnswer (answer (command_plan table asked) told)
    → h.taken.form ≡ before.form → bytes_at h.taken.file told.files told.input ≡ Some before.bytes → h.put.form ≡ after.form
    → bytes_at h.put.file (answer (command_plan table asked) told).files (answer (command_plan table asked) told).output ≡ Some after.bytes
    → AllByRecursion (λ b. b < 256) told.random → keyset_of before ≡ Some old → AreStored old
    → Gives table (record { asked = asked; told = told }) old after
by_asked law binary json keeps keeps_stored turns sessions edited keep_sessions table (edit_keyset None edit in' out) told before after old h e done form read put_form put random is stored =
    let same = same_Some _ _ e in
    edit_step law binary json keeps keeps_stored table edit in' out told before after old done
    (ap (λ (x : Handing). x.taken.form) same ∙ form) (ap (λ (x : Handing). bytes_at x.taken.file told.files told.input) same ∙ read) (ap (λ (x : Handing). x.put.form) same ∙ put_form)
    (ap (λ (x : Handing). bytes_at x.put.file (answer (command_plan table (edit_keyset None edit in' out)) told).files (answer (command_plan table (edit_keyset None edit in' out)) told).output) same ∙ put)
    random is stored
by_asked law binary json keeps keeps_stored turns sessions edited keep_sessions table (convert_keyset None as_taken in' out) told before after old h e done form read put_form put random is stored =
    let same = same_Some _ _ e in
    convert_step law binary json table in' out told before after old done
    (ap (λ (x : Handing). x.taken.form) same ∙ form) (ap (λ (x : Handing). bytes_at x.taken.file told.files told.input) same ∙ read) (ap (λ (x : Handing). x.put.form) same ∙ put_form)
    (ap (λ (x : Handing). bytes_at x.put.file (answer (command_plan table (convert_keyset None as_taken in' out)) told).files (answer (command_plan table (convert_keyset None as_taken in' out)) told).output) same ∙ put)
    is stored
by_asked law binary json keeps keeps_stored turns sessions edited keep_sessions table (session None name form out saved_only) told before after old h e done form_is read put_form put random is stored = by_file out.file refl e
  where
    by_file : (f : Option (List ℕ)) → out.file ≡ f → session_handing name form out f ≡ Some h → Gives table (record { asked = session None name form out saved_only; told = told }) old after
    by_file None named e = clash e
    by_file (Some file) named e =
        let same = same_Some _ _ e in
        session_step law binary json turns sessions edited keep_sessions table name form out saved_only file told before after old named done
        (ap (λ (x : Handing). x.taken.form) same ∙ form_is) (ap (λ (x : Handing). bytes_at x.taken.file told.files told.input) same ∙ read) (ap (λ (x : Handing). x.put.form) same ∙ put_form)
        (ap (λ (x : Handing). bytes_at x.put.file (answer (command_plan table (session None name form out saved_only)) told).files (answer (command_plan table (session None name form out saved_only)) told).output) same ∙ put)
        random is stored
by_asked law binary json keeps keeps_stored turns sessions edited keep_sessions table (edit_keyset (Some master) edit in' out) told before after old h e done form read put_form put random is stored = clash e
by_asked law binary json keeps keeps_stored turns sessions edited keep_sessions table (convert_keyset (Some master) how in' out) told before after old h e done form read put_form put random is stored = clash e
by_asked law binary json keeps keeps_stored turns sessions edited keep_sessions table (convert_keyset None in_clear in' out) told before after old h e done form read put_form put random is stored = clash e
by_asked law binary json keeps keeps_stored turns sessions edited keep_sessions table (convert_keyset None (under master) in' out) told before after old h e done form read put_form put random is stored = clash e
by_asked law binary json keeps keeps_stored turns sessions edited keep_sessions table (session (Some master) name form' out saved_only) told before after old h e done form read put_form put random is stored = clash e
by_asked law binary json keeps keeps_stored turns sessions edited keep_sessions table (create_keyset lock template out) told before after old h e done form read put_form put random is stored = clash e
by_asked law binary json keeps keeps_stored turns sessions edited keep_sessions table (list_keyset lock in') told before after old h e done form read put_form put random is stored = clash e
by_asked law binary json keeps keeps_stored turns sessions edited keep_sessions table (key_of lock name form' kind ad) told before after old h e done form read put_form put random is stored = clash e
by_asked law binary json keeps keeps_stored turns sessions edited keep_sessions table (list_key_templates primitive) told before after old h e done form read put_form put random is stored = clash e
by_asked law binary json keeps keeps_stored turns sessions edited keep_sessions table (use_keyset lock name form' work out) told before after old h e done form read put_form put random is stored = clash e
by_asked law binary json keeps keeps_stored turns sessions edited keep_sessions table (use_envelope lock name form' template work out) told before after old h e done form read put_form put random is stored = clash e
by_asked law binary json keeps keeps_stored turns sessions edited keep_sessions table (use_stream lock name form' work ad out) told before after old h e done form read put_form put random is stored = clash e
by_asked law binary json keeps keeps_stored turns sessions edited keep_sessions table (open_range lock name form' ad range out) told before after old h e done form read put_form put random is stored = clash e
by_asked law binary json keeps keeps_stored turns sessions edited keep_sessions table (self_test seed lines) told before after old h e done form read put_form put random is stored = clash e
by_asked law binary json keeps keeps_stored turns sessions edited keep_sessions table (help topic) told before after old h e done form read put_form put random is stored = clash e
by_asked law binary json keeps keeps_stored turns sessions edited keep_sessions table version told before after old h e done form read put_form put random is stored = clash e

-- what it read is within the limit
asked_within : (table : Table) (asked : Asked) (told : Told) (bytes : List ℕ) (h : Handing) → hands_on asked ≡ Some h → IsDoneAnswer (answer (command_plan table asked) told)
    → bytes_at h.taken.file told.files told.input ≡ Some bytes → length bytes ≤ keyset_limit
asked_within table (edit_keyset None edit in' out) told bytes h e done read =
    let f = found_edit edit (λ e. takes_keyset in' (λ keys. makes_keyset (step keys e) (puts_keyset out))) told done in
    taken_within in' bytes (λ keys. makes_keyset (step keys f.edit) (puts_keyset out)) told (ap (λ (x : Handing). bytes_at x.taken.file told.files told.input) (same_Some _ _ e) ∙ read) (ap (λ (a : Answer). a.status) (sym f.goes_on) ∙ done)
asked_within table (convert_keyset None as_taken in' out) told bytes h e done read = taken_within in' bytes (puts_keyset out) told (ap (λ (x : Handing). bytes_at x.taken.file told.files told.input) (same_Some _ _ e) ∙ read) done
asked_within table (session None name form out saved_only) told bytes h e done read = by_file out.file e
  where
    by_file : (f : Option (List ℕ)) → session_handing name form out f ≡ Some h → length bytes ≤ keyset_limit
    by_file None e = clash e
    by_file (Some file) e = load_within origins.Keyset name form bytes (holds_session table None out saved_only) told (ap (λ (x : Handing). bytes_at x.taken.file told.files told.input) (same_Some _ _ e) ∙ read) done
asked_within table (edit_keyset (Some master) edit in' out) told bytes h e done read = clash e
asked_within table (convert_keyset (Some master) how in' out) told bytes h e done read = clash e
asked_within table (convert_keyset None in_clear in' out) told bytes h e done read = clash e
asked_within table (convert_keyset None (under master) in' out) told bytes h e done read = clash e
asked_within table (session (Some master) name form' out saved_only) told bytes h e done read = clash e
asked_within table (create_keyset lock template out) told bytes h e done read = clash e
asked_within table (list_keyset lock in') told bytes h e done read = clash e
asked_within table (key_of lock name form kind ad) told bytes h e done read = clash e
asked_within table (list_key_templates primitive) told bytes h e done read = clash e
asked_within table (use_keyset lock name form work out) told bytes h e done read = clash e
asked_within table (use_envelope lock name form template work out) told bytes h e done read = clash e
asked_within table (use_stream lock name form work ad out) told bytes h e done read = clash e
asked_within table (open_range lock name form ad range out) told bytes h e done read = clash e
asked_within table (self_test seed lines) told bytes h e done read = clash e
asked_within table (help topic) told bytes h e done read = clash e
asked_within table version told bytes h e done read = clash e

pub hands_within : (table : Table) (run : Run) (before after : Written) → HandsOn table run before after → length before.bytes ≤ keyset_limit
hands_within table run before after h = asked_within table run.asked run.told before.bytes h.handing h.hands h.handed.done h.handed.read

pub run_step : FaultlessKeysets → BinaryBack → JsonBack → EditsKeepKeysets → EditsKeepStored → SavesAreTurns → SessionIsEdits → EditedIsKeyset → SessionsKeepStored → ReadIsStored → RunStep
run_step law binary json keeps keeps_stored turns sessions edited keep_sessions read_stored table run before after old h random holds is =
    let d = h.handed in
    by_asked law binary json keeps keeps_stored turns sessions edited keep_sessions table run.asked run.told before after old h.handing h.hands d.done d.read_form d.read d.put_form d.put random is
    (read_stored before old holds (hands_within table run before after h) is)

-- ---- many runs

-- what a run does is some edits
pub done_edits : SessionIsEdits → (table : Table) (told : Told) (asked : Asked) (old new : Keys) → Does table told old new asked → IsEdited old new
unfolding after
done_edits sessions table told (edit_keyset lock edit in' out) old new does = record {
  edits = record { edit = does.edit; random = told.random } ∷ [];
  asked = (named_template edit does.edit does.is, tt);
  last = rw does.steps (rw does.accepted refl);
}
done_edits sessions table told (convert_keyset lock how in' out) old new does = record { edits = []; asked = tt; last = ap Some does }
done_edits sessions table told (session lock name form out saved_only) old new does = subst (λ k. IsEdited old k) does.2 (sessions table old (told_lines table (master_told lock told) out.form saved_only old told) told.random does.0 does.1)
done_edits sessions table told (create_keyset lock template out) old new does = absurd does
done_edits sessions table told (list_keyset lock in') old new does = absurd does
done_edits sessions table told (key_of lock name form kind ad) old new does = absurd does
done_edits sessions table told (list_key_templates primitive) old new does = absurd does
done_edits sessions table told (use_keyset lock name form work out) old new does = absurd does
done_edits sessions table told (use_envelope lock name form template work out) old new does = absurd does
done_edits sessions table told (use_stream lock name form work ad out) old new does = absurd does
done_edits sessions table told (open_range lock name form ad range out) old new does = absurd does
done_edits sessions table told (self_test seed lines) old new does = absurd does
done_edits sessions table told (help topic) old new does = absurd does
done_edits sessions table told version old new does = absurd does

pub record Led (old : Keys) (after : Written) : Type 0 where
  pub new : Keys
  pub read : keyset_of after ≡ Some new
  pub edited : IsEdited old new
  pub within : length after.bytes ≤ keyset_limit

pub no_edits : (old : Keys) → IsEdited old old
unfolding after
no_edits old = record { edits = []; asked = tt; last = refl }

pub led : RunStep → LocksStep → SessionIsEdits → (runs : List Passage) (before after : Written) (old : Keys) → AreRuns standard_table runs before after → AllByRecursion PassesBytes runs → HoldsBytes before → keyset_of before ≡ Some old → length before.bytes ≤ keyset_limit → Led old after
led law wrap sessions [] before after old are bytes holds is within = record {
  new = old;
  read = ap keyset_of (sym are) ∙ is;
  edited = no_edits old;
  within = subst (λ (w : Written). length w.bytes ≤ keyset_limit) are within;
}
led law wrap sessions (by_wrap wrap_run locked unwrap_run ∷ later) before after old (between, went, are) bytes holds is within =
    let k = wrap wrap_run locked unwrap_run before between old went bytes.0.0 bytes.0.1 holds is in
    let rest = led law wrap sessions later between after k.new are bytes.1 k.keeps.holds k.keeps.read k.keeps.within in
    record { new = rest.new; read = rest.read; within = rest.within; edited = edited_on old k.new rest.new k.edited rest.edited }
led law wrap sessions (by_run run ∷ later) before after old (between, hands, are) bytes holds is within =
    let step' = law standard_table run before between old hands bytes.0 holds is in
    let rest = led law wrap sessions later between after step'.new are bytes.1 step'.holds step'.read step'.within in
    record {
      new = rest.new;
      read = rest.read;
      within = rest.within;
      edited = edited_on old step'.new rest.new (done_edits sessions standard_table run.told run.asked old step'.new step'.does) rest.edited;
    }

-- the two keysets that runs lead from and to
pub record Ends (runs : List Passage) (before after : Written) (r : Record) (old new : Keys) : Type 0 where
  pub edited : IsEdited old new
  pub keyset : IsKeyset old
  pub primary : primary_of old ≡ Some r
  pub read : keyset_of before ≡ Some old
  pub read_again : keyset_of after ≡ Some new
  pub within : length after.bytes ≤ keyset_limit

pub lead_ends : ReadKeysFit → RunStep → LocksStep → SessionIsEdits → (runs : List Passage) (before after : Written) (r : Record) → length before.bytes ≤ keyset_limit → (x : LeadOn runs before after r) → Ends runs before after r x.old x.new
lead_ends fit law wrap sessions runs before after r within x =
    let l = led law wrap sessions runs before after x.old x.are x.bytes x.holds x.read within in
    record {
      edited = subst (λ k. IsEdited x.old k) (same_Some _ _ (sym l.read ∙ x.read_again)) l.edited;
      keyset = read_keyset fit before.form before.bytes x.old within x.read;
      primary = x.primary;
      read = x.read;
      read_again = x.read_again;
      within = l.within;
    }

-- each record of the last keyset serves where each of the first one does
pub still_fit : (p : Primitive) → SoundIsUsable p → EditedIsSound → EditedIsKeyset → (old new : Keys) → IsKeyset old → IsEdited old new → unfit old p standard_table ≡ None → unfit new p standard_table ≡ None
still_fit p usable sound keyset old new is edited fit =
    (usable new (keyset old new edited is)).1 (sound p old new edited ((usable old is).0 fit))

-- ---- work before and after

-- work over the first keyset was done
pub record Started (work : AskedWork) (old : Keys) (told : Told) (output : List ℕ) : Type 0 where
  pub fit : unfit old (primitive_for work) standard_table ≡ None
  pub fits : length told.input ≤ limit_for work
  pub status' : IsDoneAnswer (answer (works standard_table old work told.input writes) (record told { input = [] }))
  pub gave : (answer (works standard_table old work told.input writes) (record told { input = [] })).output ≡ output

-- by what went on behind the keyset
pub started_by : (work : AskedWork) (old : Keys) (told : Told) (output : List ℕ) (out : Output) {a : Answer} → UsedKeys standard_table old work (puts_output out) told a → IsDoneAnswer a → bytes_at out.file a.files a.output ≡ Some (shown out.hex output) → (out.hex ≡ true → AreBytes output)
    → Started work old told output
started_by work old told output out u is gave bytes =
    let left = record told { input = [] } in
    let steps = works standard_table old work told.input in
    let done : IsDoneAnswer (answer (works standard_table old work told.input (puts_output out)) left) = ap (λ (a : Answer). a.status) (sym u.goes_on) ∙ is in
    let w = worked standard_table old work told.input (puts_output out) left done in
    let same = made_is steps left out.hex out.file output w done (ap (λ (a : Answer). bytes_at out.file a.files a.output) (sym u.goes_on) ∙ gave) bytes in
    let written' = made_written steps left output w same in
    record { fit = u.fit; fits = u.fits; status' = written'.0; gave = written'.1 }

pub started : (work : AskedWork) (written : Written) (old : Keys) (told : Told) (output : List ℕ) → keyset_of written ≡ Some old → WasDone work written told output → Started work old told output
started work written old told output is was =
    let u = used_done standard_table was.name written.form work (puts_output was.out) written.bytes old told was.lies is was.done in
    started_by work old told output was.out u was.done was.gave was.bytes

-- the keyset that it was done over is within the limit
pub done_within : (work : AskedWork) (written : Written) (told : Told) (output : List ℕ) → WasDone work written told output → length written.bytes ≤ keyset_limit
done_within work written told output was = used_within standard_table was.name written.form work (puts_output was.out) written.bytes told was.lies was.done

-- work over the last one is done, where its keys answer so
pub finished : (work : AskedWork) (written : Written) (new : Keys) (input output : List ℕ) → keyset_of written ≡ Some new → length written.bytes ≤ keyset_limit → unfit new (primitive_for work) standard_table ≡ None → length input ≤ limit_for work
    → ((told : Told) → (IsDoneAnswer (answer (works standard_table new work input writes) told)) × ((answer (works standard_table new work input writes) told).output ≡ output))
    → IsDone work written input output
finished work written new input output is within fit fits gives told name out lies same free =
    let left = record told { input = [] } in
    let r = used_reached standard_table name written.form work (puts_output out) written.bytes new told lies is within fit (subst (λ i. length i ≤ limit_for work) (sym same) fits) ∙ ap (λ i. answer (works standard_table new work i (puts_output out)) left) same in
    let g = gives left in
    let w = worked standard_table new work input writes left g.0 in
    let p = made_put (works standard_table new work input) left out.hex out.file output w g.1 free in
    (ap (λ (a : Answer). a.status) r ∙ p.0, ap (λ (a : Answer). bytes_at out.file a.files a.output) r ∙ p.1)

-- what was sealed, by the answer of its work
pub sealed_by : (old : Keys) (ad : List ℕ) (told : Told) (output : List ℕ) → Started (to_seal ad) old told output → (s : Sealed) × (seal_answer old standard_table told.input ad told.random ≡ Some s) × (s.bytes ≡ output)
sealed_by old ad told output x = by (seal_answer old standard_table told.input ad told.random) refl x.status' x.gave
  where
    a : Option Sealed → Answer
    a o = draw_answer (option_map as_drawn o) (refused (record told { input = [] }) status.EntropyFault) (λ (d : Drawn (List ℕ)). answer (with_made d.answer writes) (record { input = []; files = told.files; random = d.left }))

    by : (o : Option Sealed) → seal_answer old standard_table told.input ad told.random ≡ o → IsDoneAnswer (a o) → (a o).output ≡ output → (s : Sealed) × (seal_answer old standard_table told.input ad told.random ≡ Some s) × (s.bytes ≡ output)
    by None is done gave = absurd (cc)
    by (Some s) is done gave = (s, is, gave)

made_some : (o : Option (List ℕ)) → IsSome o → (bytes : List ℕ) × (o ≡ Some bytes)
made_some (Some bytes) some = (bytes, refl)
made_some None some = no_truth some

-- opening gives that plaintext
pub opens_so : (what : Unopened) (sealer : Sealer) (o : Option (List ℕ)) (plain : List ℕ) (told : Told) → o ≡ Some plain → (IsDoneAnswer (answer (with_opened what sealer o writes) told)) × ((answer (with_opened what sealer o writes) told).output ≡ plain)
opens_so what sealer o plain told is = rw is (refl, refl)

-- what was sealed is within the limit of what is opened
pub sealed_fits : SealingsFit → (old : Keys) (plain ad random : List ℕ) (s : Sealed) (sealed : List ℕ) → seal_answer old standard_table plain ad random ≡ Some s → s.bytes ≡ sealed → length plain ≤ input_limit → length sealed ≤ sealed_limit
sealed_fits sizes old plain ad random s sealed is same within = subst (λ bytes. length bytes ≤ sealed_limit) same (omega (arith, sizes standard_table old plain ad random s is, within))

pub dsealed_fits : DsealingsFit → (old : Keys) (plain ad sealed : List ℕ) → dseal_answer old standard_table plain ad ≡ Some sealed → length plain ≤ input_limit → length sealed ≤ sealed_limit
dsealed_fits sizes old plain ad sealed is within = omega (arith, sizes standard_table old plain ad sealed is, within)

-- what was made without a draw
pub dsealed_by : FitKeysetsAnswer → (old : Keys) (ad : List ℕ) (told : Told) (output : List ℕ) → IsKeyset old → Started (to_dseal ad) old told output → dseal_answer old standard_table told.input ad ≡ Some output
dsealed_by fit old ad told output is x =
    let m = made_some (dseal_answer old standard_table told.input ad) (fit.dseal standard_table old told.input ad (record { faultless = is.faultless; fit = x.fit })) in
    m.1 ∙ ap Some (sym (ap made_bytes m.1) ∙ x.gave)

pub tagged_by : FitKeysetsAnswer → (old : Keys) (told : Told) (output : List ℕ) → IsKeyset old → Started to_tag old told output → tag_answer old standard_table told.input ≡ Some output
tagged_by fit old told output is x =
    let m = made_some (tag_answer old standard_table told.input) (fit.tag standard_table old told.input (record { faultless = is.faultless; fit = x.fit })) in
    m.1 ∙ ap Some (sym (ap made_bytes m.1) ∙ x.gave)

-- verifying is done, with no output
pub verifies_so : (b : Bool) (told : Told) → b ≡ true → (IsDoneAnswer (answer (with_verified b writes) told)) × ((answer (with_verified b writes) told).output ≡ [])
verifies_so b told is = rw is (refl, refl)
