-- That a plan comes to its end exactly where none of its steps refuses.
use Rattle.std.proofs.Common.{arith, ◌≡◌, ◌≢◌, sym, refl, subst, ℕ, ◌≤◌, Bool, true, false, List, [], length, take, drop, nat_le, Option, Some, None, Result, Ok, Err}
use Rattle.std.specs.Prelude.{◌↔◌, if◌then◌else◌}
use Rattle.std.specs.FinMap as map
use Rattle.std.proofs.lemmas.Bool.Decides.{nat_tests}
use Rattle.key_msgs.specs.Templates.{row_named}
use Rattle.key_msgs.specs.declared.primitive.Primitive.TheVariants.{Aead}
use Rattle.keyset_model.specs.Keyset.{Keys}
use Rattle.managers.specs.Table.{Table, scheme_at}
use Rattle.envelopes.specs.Enveloping.{url_made}
use Rattle.segment_stream.specs.Opening.{StreamRefusal, too_many, failed}
use Rattle.segment_stream.specs.Pumping.{Part}
use Rattle.segment_stream.specs.KeysModel.{KeysForStreams}
use Rattle.segment_stream.specs.StreamKeys as streams
use Rattle.tinkey_cmds.specs.Draws.{Draw, Drawn}
use Rattle.tinkey_cmds.specs.Edits.{first, step}
use Rattle.tinkey_cmds.specs.declared.command.EditRefusal.{EditRefusal}
use Rattle.wrapped_prims.specs.Fitness.{unfit}
use Rattle.tinkey_plans.specs.declared.status.Status.{Status}
use Rattle.tinkey_plans.specs.declared.origin.Origin.TheVariants as origins
use Rattle.tinkey_plans.specs.declared.status.Status.TheVariants as status
use Rattle.tinkey_words.specs.declared.words.rows.Format.{Format}
use Rattle.tinkey_words.specs.declared.words.rows.SealedForm.{SealedForm}
use Rattle.tinkey_words.specs.declared.words.rows.SealedForm.TheVariants as sealed
use Rattle.tinkey_words.specs.declared.words.request.StreamWork.{StreamWork}
use Rattle.tinkey_words.specs.declared.words.request.StreamWork.TheVariants as works
use Rattle.tinkey_plans.specs.Going.{DoneExactly, NoneRefuses}
use Rattle.tinkey_plans.specs.Plan.{Answer, Of, Plan, Told, answer, collect_answer, create_answer, draw_answer, load_answer, look_answer, range_answer, pump_answer, refused, stream_status, talk_answer, limit_status, ends, writes, creates, looks, allocates, loads, reads_all, reads_front, ranges, draws, pumps, collects, exchanges}
use Rattle.tinkey_plans.specs.KeyOf.{key_of_answer, stream_record_line, tells_front, tells_keys}
use Rattle.tinkey_plans.specs.Locks.{puts_under}
use Rattle.tinkey_plans.specs.Steps.{makes_keyset, puts}
use Rattle.tinkey_plans.specs.Using.{hex_line, puts_output, shows}
use Rattle.tinkey_selftest.specs.Trial as trial
use Rattle.tinkey_selftest.specs.declared.counts.Counts.{Counts}
use Rattle.tinkey_plans.specs.SelfTesting.{tells_counts}
use Rattle.tinkey_plans.specs.Session.{finds_free, holds_session, saves_as}
use Rattle.tinkey_plans.specs.Streaming.{begins_file, keys_for, passes_stream, passes_to, with_keys}
use Rattle.tinkey_plans.specs.Streaming as streaming
use Rattle.tinkey_plans.specs.FileRange.{Opened, FileRange, range_in}
use Rattle.tinkey_session.proofs.Options.{clash}
use Rattle.tinkey_session.specs.Saving.{by_files, files_after}
use Rattle.tinkey_session.specs.Talking.{Stop, goes, wants, passes, long_line, many_lines, Talk, Limit}
use Rattle.tinkey_plans.specs.Commands.{command_plan}
use Rattle.tinkey_words.specs.Words.{Asked, self_test, KeysetFile, primitive_for, create_keyset, edit_keyset, list_keyset, key_of, convert_keyset, list_key_templates, use_keyset, use_envelope, use_stream, open_range, session, help, version}
use Rattle.tinkey_plans.proofs.EachLemmas.{AreAll, IsClosed, IsOpen, dek_each, envelope_each, scheme_each, range_each, edit_each, fit_each, lines_each, loaded_each, lock_each, locked_each, made_each, new_lock_each, row_each, under_each, work_each, written_under_each}
use Rattle.tinkey_plans.specs.declared.unfit.UnfitKey.{UnfitKey}

-- the refusals of its steps aren't Done
abbrev IsProper : Plan → Type 0
IsProper (ends s stated) = Unit {0}
IsProper (writes output) = Unit {0}
IsProper (creates name output taken stated) = taken ≢ status.Done
IsProper (looks name taken stated next) = (taken ≢ status.Done) × IsProper next
IsProper (allocates next) = IsProper next
IsProper (loads name limit absent long a l next) = (absent ≢ status.Done) × (long ≢ status.Done) × ((bytes : List ℕ) → IsProper (next bytes))
IsProper (ranges x absent a next) = (absent ≢ status.Done) × ((opened : Opened) → IsProper (next opened))
IsProper (reads_all limit long stated next) = (long ≢ status.Done) × ((all : List ℕ) → IsProper (next all))
IsProper (reads_front size next) = (front : List ℕ) → IsProper (next front)
IsProper (draws kind give next) = (given : Result (Of kind) EditRefusal) → IsProper (next given)
IsProper (pumps part) = Unit {0}
IsProper (collects part next) = (output : List ℕ) → IsProper (next output)
IsProper (exchanges exchange next) = (keys : Keys) → IsProper (next keys)

-- ---- a step

refusal_other : (refusal : StreamRefusal) → stream_status refusal ≢ status.Done
refusal_other too_many e = cc
refusal_other (failed number) e = cc

limit_other : (limit : Limit) → limit_status limit ≢ status.Done
limit_other long_line e = cc
limit_other many_lines e = cc

entropy_other : status.EntropyFault ≢ status.Done
entropy_other e = cc

abbrev IsDone : Answer → Type 0
IsDone a = a.status ≡ status.Done

created : (found : Option (List ℕ)) (told : Told) (name output : List ℕ) (taken : Status) → taken ≢ status.Done → IsDone (create_answer found told name output (refused told taken)) ↔ (found ≡ None)
created None told name output taken other = (λ d. refl, λ e. refl)
created (Some bytes) told name output taken other = (λ d. absurd (other d), λ e. absurd (cc))

looked : (found : Option (List ℕ)) (told : Told) (taken : Status) (next : Answer) (Then : Type 0) → taken ≢ status.Done → (IsDone next ↔ Then) → IsDone (look_answer found (refused told taken) next) ↔ ((found ≡ None) × Then)
looked None told taken next Then other each = (λ d. (refl, each.0 d), λ x. each.1 x.1)
looked (Some bytes) told taken next Then other each = (λ d. absurd (other d), λ x. let e : Some bytes ≡ None = x.0 in absurd (cc))

loaded : (found : Option (List ℕ)) (limit : ℕ) (told : Told) (absent long : Status) (next : List ℕ → Answer) (Then : List ℕ → Type 0) → absent ≢ status.Done → long ≢ status.Done → ((bytes : List ℕ) → IsDone (next bytes) ↔ Then bytes)
    → IsDone (load_answer found limit (refused told absent) (refused told long) next) ↔ ((bytes : List ℕ) × (found ≡ Some bytes) × (length bytes ≤ limit) × Then bytes)
loaded None limit told absent long next Then other past each = (λ d. absurd (other d), λ x. clash x.1)
loaded (Some bytes) limit told absent long next Then other past each = (
  λ d. by (nat_le (length bytes) limit) refl d,
  λ x. let same : bytes ≡ x.0 = (let e : Some bytes ≡ Some x.0 = x.1 in cc) in
      back (nat_le (length bytes) limit) (let fits : length bytes ≤ limit = subst (λ b. length b ≤ limit) (sym same) x.2 in grind (arith, nat_tests, fits)) (subst Then (sym same) x.3),
)
  where
    by : (b : Bool) → nat_le (length bytes) limit ≡ b → IsDone (if b then next bytes else refused told long) → (found : List ℕ) × (Some bytes ≡ Some found) × (length found ≤ limit) × Then found
    by true is d = (bytes, refl, grind (arith, nat_tests, is), (each bytes).0 d)
    by false is d = absurd (past d)

    back : (b : Bool) → b ≡ true → Then bytes → IsDone (if b then next bytes else refused told long)
    back true is x = (each bytes).1 x
    back false is x = absurd (cc)

range_done : (found : Option (List ℕ)) (x : FileRange) (told : Told) (absent : Status) (next : Opened → Answer) (Then : Opened → Type 0) → absent ≢ status.Done → ((opened : Opened) → IsDone (next opened) ↔ Then opened)
    → IsDone (range_answer found x (refused told absent) next) ↔ ((bytes : List ℕ) × (found ≡ Some bytes) × Then (range_in x bytes))
range_done None x told absent next Then other each = (λ d. absurd (other d), λ y. clash y.1)
range_done (Some bytes) x told absent next Then other each = (
  λ d. (bytes, refl, (each (range_in x bytes)).0 d),
  λ y. let same : bytes ≡ y.0 = (let e : Some bytes ≡ Some y.0 = y.1 in cc) in
      (each (range_in x bytes)).1 (subst (λ b. Then (range_in x b)) (sym same) y.2),
)

read_in : (input : List ℕ) (limit : ℕ) (went long : Answer) (Then : Type 0) → long.status ≢ status.Done → (IsDone went ↔ Then) → IsDone (if nat_le (length input) limit then went else long) ↔ ((length input ≤ limit) × Then)
read_in input limit went long Then past each = (λ d. by (nat_le (length input) limit) refl d, λ x. back (nat_le (length input) limit) (let fits = x.0 in grind (arith, nat_tests, fits)) x.1)
  where
    by : (b : Bool) → nat_le (length input) limit ≡ b → IsDone (if b then went else long) → (length input ≤ limit) × Then
    by true is d = (grind (arith, nat_tests, is), each.0 d)
    by false is d = absurd (past d)

    back : (b : Bool) → b ≡ true → Then → IsDone (if b then went else long)
    back true is x = each.1 x
    back false is x = absurd (cc)

drawn_in : {A : Type 0} (o : Option (Drawn A)) (told : Told) (next : Drawn A → Answer) (Then : Drawn A → Type 0) → ((drawn : Drawn A) → IsDone (next drawn) ↔ Then drawn)
    → IsDone (draw_answer o (refused told status.EntropyFault) next) ↔ ((drawn : Drawn A) × (o ≡ Some drawn) × Then drawn)
drawn_in None told next Then each = (λ d. absurd (entropy_other d), λ x. clash x.1)
drawn_in (Some drawn) told next Then each = (λ d. (drawn, refl, (each drawn).0 d), λ x. let same : drawn ≡ x.0 = (let e : Some drawn ≡ Some x.0 = x.1 in cc) in (each drawn).1 (subst Then (sym same) x.2))

pumped : (part : Part) (told : Told) (o : Option StreamRefusal) → IsDone (pump_answer part told o) ↔ (o ≡ None)
pumped part told None = (λ d. refl, λ e. refl)
pumped part told (Some refusal) = (λ d. absurd (refusal_other refusal d), λ e. absurd (cc))

gathered : (o : Option StreamRefusal) (told : Told) (next : Answer) (Then : Type 0) → (IsDone next ↔ Then) → IsDone (collect_answer o told next) ↔ ((o ≡ None) × Then)
gathered None told next Then each = (λ d. (refl, each.0 d), λ x. each.1 x.1)
gathered (Some refusal) told next Then each = (λ d. absurd (refusal_other refusal d), λ x. let e : Some refusal ≡ None = x.0 in absurd (cc))

talked : (stop : Stop) (x : Talk) (told : Told) (next : Answer) (Then : Type 0) → (IsDone next ↔ Then) → IsDone (talk_answer stop x told next) ↔ ((stop ≡ goes) × Then)
talked goes x told next Then each = (λ d. (refl, each.0 d), λ y. each.1 y.1)
talked wants x told next Then each = (λ d. absurd (entropy_other d), λ y. let e : wants ≡ goes = y.0 in absurd (cc))
talked (passes limit) x told next Then each = (λ d. absurd (limit_other limit d), λ y. let e : passes limit ≡ goes = y.0 in absurd (cc))

-- ---- a plan

done_exactly : (p : Plan) (told : Told) → IsProper p → IsDone (answer p told) ↔ NoneRefuses p told
done_exactly (ends s stated) told proper = (λ d. d, λ d. d)
done_exactly (writes output) told proper = (λ d. tt, λ x. refl)
done_exactly (creates name output taken stated) told proper = created (map.get told.files name) told name output taken proper
done_exactly (looks name taken stated next) told proper = looked (map.get told.files name) told taken _ _ proper.0 (done_exactly next told proper.1)
done_exactly (allocates next) told proper = done_exactly next told proper
done_exactly (loads name limit absent long a l next) told proper = loaded (map.get told.files name) limit told absent long _ _ proper.0 proper.1 (λ bytes. done_exactly (next bytes) told (proper.2 bytes))
done_exactly (ranges x absent a next) told proper = range_done (map.get told.files x.name) x told absent _ _ proper.0 (λ opened. done_exactly (next opened) told (proper.1 opened))
done_exactly (reads_all limit long stated next) told proper = read_in told.input limit _ _ _ proper.0 (done_exactly (next told.input) (record told { input = [] }) (proper.1 told.input))
done_exactly (reads_front size next) told proper = done_exactly (next (take size told.input)) (record told { input = drop size told.input }) (proper (take size told.input))
done_exactly (draws kind give next) told proper = drawn_in (give told.random) told _ _ (λ drawn. done_exactly (next drawn.answer) (record told { random = drawn.left }) (proper drawn.answer))
done_exactly (pumps part) told proper = pumped part told (part.refusal told.input true)
done_exactly (collects part next) told proper =
    gathered (part.refusal told.input true) told _ _ (done_exactly (next (part.output told.input true)) (record told { input = [] }) (proper (part.output told.input true)))
done_exactly (exchanges exchange next) told proper =
    let x = exchange (by_files told.files) told.input told.random true in
    let saved = record told { files = files_after told.files x.asked } in
    talked x.stop x saved _ _ (done_exactly (next x.keys) (record saved { input = []; random = x.random }) (proper x.keys))

-- ---- the commands

closed : IsClosed IsProper
closed = record { ended = λ s stated. tt; allocated = λ next all. all }

open' : IsOpen IsProper
open' = record { closed = closed; loaded = λ from limit name next all. (λ e. cc, λ e. cc, all); read = λ limit next all. (λ e. cc, all) }

draw_proper : (give : Draw Keys) (next : Keys → Plan) → AreAll IsProper next → IsProper (makes_keyset give next)
draw_proper give next proper = λ given. made_each IsProper closed given next proper

put_proper : (file : Option (List ℕ)) (output : List ℕ) → IsProper (puts file output)
put_proper (Some name) output = λ e. cc
put_proper None output = tt

out_proper : (table : Table) (master : Option Keys) (out : KeysetFile) (keys : Keys) → IsProper (puts_under table master out keys)
out_proper table master out keys = written_under_each IsProper closed table master out.form keys (λ m next all. all) (puts out.file) (put_proper out.file)

shown_proper : (hex : Bool) (file : Option (List ℕ)) (bytes : List ℕ) → IsProper (shows hex bytes (puts file))
shown_proper false file bytes = put_proper file bytes
shown_proper true file bytes = put_proper file (hex_line bytes)

counts_proper : (r : Result Counts EditRefusal) (lines : ℕ) → IsProper (tells_counts lines r writes)
counts_proper (Ok n) lines = tt
counts_proper (Err fault) lines = tt

-- the keys of a keyset for streams
stream_fit_proper : (name : ℕ → UnfitKey) (found : Option (ℕ × streams.StreamUnfit)) (next : Plan) → IsProper next → IsProper (streaming.unless_unfit name found next)
stream_fit_proper name None next proper = proper
stream_fit_proper name (Some (i, streams.not_stream)) next proper = tt
stream_fit_proper name (Some (i, streams.bad_key rule)) next proper = tt

stream_keys_proper : (found : Option KeysForStreams) (next : KeysForStreams → Plan) → AreAll IsProper next → IsProper (with_keys found next)
stream_keys_proper None next proper = tt
stream_keys_proper (Some keys) next proper = proper keys

-- the new file of a stream, or the sink
passes_proper : (out : Option (List ℕ)) (part : Part) → IsProper (passes_to out part)
passes_proper None part = tt
passes_proper (Some name) part = λ output e. cc

begins_proper : (out : Option (List ℕ)) (next : Plan) → IsProper next → IsProper (begins_file out next)
begins_proper None next proper = proper
begins_proper (Some name) next proper = (λ e. cc, proper)

stream_proper : (work : StreamWork) (ad : List ℕ) (out : Option (List ℕ)) (keys : KeysForStreams) → IsProper (passes_stream work keys ad out)
stream_proper works.Seal ad out keys = λ made. made_each IsProper closed made _ (λ random. passes_proper out _)
stream_proper works.Open ad out keys = passes_proper out _
stream_proper works.Reseal ad out keys = λ made. made_each IsProper closed made _ (λ random. passes_proper out _)

saves_proper : (table : Table) (master : Option Keys) (file : Option (List ℕ)) (form : Format) (keys : Keys) → IsProper (saves_as table master file form keys)
saves_proper table master None form keys = tt
saves_proper table master (Some name) form keys = written_under_each IsProper closed table master form keys (λ m next all. all) (λ output. creates name output status.OutExists tt) (λ output e. cc)

free_proper : (file : Option (List ℕ)) (next : Unit {0} → Plan) → IsProper (next tt) → IsProper (finds_free file next)
free_proper None next proper = proper
free_proper (Some name) next proper = (λ e. cc, proper)

tells_proper : (kind : SealedForm) (ad : List ℕ) (keys : Keys) → IsProper (tells_keys kind ad keys writes)
tells_proper sealed.Text ad keys = λ front. lines_each IsProper closed (key_of_answer keys front) writes (λ lines. tt)
tells_proper sealed.Envelope ad keys = λ front. lines_each IsProper closed (key_of_answer keys (drop 4 front)) writes (λ lines. tt)
tells_proper sealed.Stream ad keys = stream_fit_proper _ (streams.stream_unfit keys) _ (stream_keys_proper (keys_for keys) (tells_front ad keys writes) (λ those front. lines_each IsProper closed (stream_record_line keys ad front) writes (λ lines. tt)))

commands_are_proper : (table : Table) (asked : Asked) → IsProper (command_plan table asked)
commands_are_proper table (create_keyset lock name out) = (row_each IsProper closed (row_named name) name _ (λ row. lock_each IsProper open' table lock _ (λ master. draw_proper (first row) _ (out_proper table master out))))
commands_are_proper table (edit_keyset lock edit in' out) = (edit_each IsProper closed edit _ (λ edit. lock_each IsProper open' table lock _ (λ master. under_each IsProper open' origins.In table master in' _ (λ keys. draw_proper (step keys edit) _ (out_proper table master out)))))
commands_are_proper table (list_keyset lock in') = (locked_each IsProper open' origins.In table lock in' _ (λ keys. tt))
commands_are_proper table (key_of lock name form kind ad) = loaded_each IsProper open' table lock name form _ (tells_proper kind ad)
commands_are_proper table (convert_keyset lock new in' out) = (lock_each IsProper open' table lock _ (λ taken. new_lock_each IsProper open' table new taken _ (λ put. under_each IsProper open' origins.In table taken in' _ (out_proper table put out))))
commands_are_proper table (list_key_templates primitive) = tt
commands_are_proper table (use_keyset lock name form work out) = (loaded_each IsProper open' table lock name form _ (λ keys. fit_each IsProper closed _ (unfit keys (primitive_for work) table) _ (λ e. cc, λ input. work_each IsProper closed table keys work input (λ plain ad next all. all) (puts_output out) (shown_proper out.hex out.file))))
commands_are_proper table (use_envelope lock name form template work out) = (dek_each IsProper closed template _ (λ row. loaded_each IsProper open' table lock name form _ (λ keys. fit_each IsProper closed _ (unfit keys Aead table) _ (scheme_each IsProper closed (scheme_at table Aead (url_made row)) _ (λ scheme. (λ e. cc, λ input. envelope_each IsProper closed table keys scheme row work input (λ ad next all. all) (λ plain ad next all. all) (puts out) (put_proper out)))))))
commands_are_proper table (use_stream lock name form work ad out) = loaded_each IsProper open' table lock name form _ (λ keys. stream_fit_proper _ (streams.stream_unfit keys) _ (stream_keys_proper (keys_for keys) _ (λ k. begins_proper out (passes_stream work k ad out) (stream_proper work ad out k))))
commands_are_proper table (open_range lock name form ad range out) = (loaded_each IsProper open' table lock name form _ (λ keys. stream_fit_proper _ (streams.stream_unfit keys) _ (stream_keys_proper (keys_for keys) _ (λ k. (λ e. cc, λ opened. range_each IsProper closed opened _ (put_proper out))))))
commands_are_proper table (self_test seed lines) = (counts_proper (trial.self_test table seed lines) lines)
commands_are_proper table (session lock name form out saved_only) = lock_each IsProper open' table lock _ (λ master. under_each IsProper open' origins.Keyset table master (record { file = Some name; form = form }) (holds_session table master out saved_only) (λ keys. free_proper out.file _ (λ last. saves_proper table master out.file out.form last)))
commands_are_proper table (help topic) = tt
commands_are_proper table version = tt

pub commands_done_exactly : DoneExactly
commands_done_exactly table asked told = done_exactly (command_plan table asked) told (commands_are_proper table asked)
