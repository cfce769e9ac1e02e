-- What draws in the plan of a command is one of the six steps or a session over a keyset.
use Rattle.std.proofs.Common.{refl, ℕ, ◌+◌, Bool, true, false, List, [], ◌∷◌, drop, Option, Some, None, Result, Ok, Err}
use Rattle.key_msgs.specs.Templates.{row_named}
use Rattle.key_msgs.specs.declared.primitive.Primitive.TheVariants.{Aead}
use Rattle.keyset_model.specs.Keyset.{Keys}
use Rattle.managers.specs.Table.{Table, scheme_at}
use Rattle.random_draws.specs.Runs.{IsSaving}
use Rattle.random_draws.specs.Steps.{IsStep, Step, creation, edition, enveloping, heading, sealing, wrapping}
use Rattle.envelopes.specs.Enveloping.{url_made}
use Rattle.segment_stream.specs.KeysModel.{KeysForStreams}
use Rattle.segment_stream.specs.Pumping.{Part}
use Rattle.segment_stream.specs.StreamKeys as streams
use Rattle.tinkey_cmds.specs.Draws.{Draw}
use Rattle.tinkey_cmds.specs.Edits.{first, step}
use Rattle.tinkey_cmds.specs.declared.command.EditRefusal.{EditRefusal}
use Rattle.tinkey_plans.proofs.EachLemmas.{AreAll, IsClosed, IsOpen, dek_each, edit_each, envelope_each, fit_each, lines_each, loaded_each, lock_each, locked_each, made_each, new_lock_each, row_each, scheme_each, range_each, under_each, work_each, written_under_each}
use Rattle.tinkey_plans.specs.Commands.{asked_plan, command_plan, plan_of}
use Rattle.tinkey_plans.specs.KeyOf.{key_of_answer, stream_record_line, tells_front, tells_keys}
use Rattle.tinkey_plans.specs.Locks.{puts_under, writes_under}
use Rattle.tinkey_plans.specs.Plan.{Of, Plan, ends, writes, creates, looks, allocates, loads, reads_all, reads_front, ranges, draws, pumps, collects, exchanges, keysets}
use Rattle.tinkey_plans.specs.SelfTesting.{tells_counts}
use Rattle.tinkey_plans.specs.Session.{finds_free, form_under, holds_session, saves_as}
use Rattle.tinkey_plans.specs.Steps.{makes_keyset, puts}
use Rattle.tinkey_plans.specs.FileRange.{Opened}
use Rattle.tinkey_plans.specs.Streaming as streaming
use Rattle.tinkey_plans.specs.Using.{hex_line, puts_output, shows}
use Rattle.tinkey_plans.specs.declared.origin.Origin.TheVariants as origins
use Rattle.tinkey_plans.specs.declared.status.Status.TheVariants as status
use Rattle.tinkey_selftest.specs.Trial as trial
use Rattle.tinkey_selftest.specs.declared.counts.Counts.{Counts}
use Rattle.tinkey_session.specs.Saving.{Form, with_saved_only}
use Rattle.tinkey_words.specs.declared.words.misuse.Misuse.{Misuse}
use Rattle.tinkey_words.specs.declared.words.request.StreamWork.{StreamWork}
use Rattle.tinkey_words.specs.declared.words.request.StreamWork.TheVariants as works
use Rattle.tinkey_words.specs.declared.words.rows.Format.{Format}
use Rattle.tinkey_words.specs.declared.words.rows.SealedForm.{SealedForm}
use Rattle.tinkey_words.specs.declared.words.rows.SealedForm.TheVariants as sealed
use Rattle.tinkey_words.specs.Words.{Asked, Lock, KeysetFile, primitive_for, create_keyset, edit_keyset, list_keyset, key_of, convert_keyset, list_key_templates, use_keyset, use_envelope, use_stream, open_range, self_test, session, help, version, words_of}
use Rattle.wrapped_prims.specs.Fitness.{unfit}
use Rattle.tinkey_plans.specs.declared.unfit.UnfitKey.{UnfitKey}

abbrev pub IsDrawing : Plan → Type 0
IsDrawing (ends s stated) = Unit {0}
IsDrawing (writes output) = Unit {0}
IsDrawing (creates name output taken stated) = Unit {0}
IsDrawing (looks name taken stated next) = IsDrawing next
IsDrawing (allocates next) = IsDrawing next
IsDrawing (loads name limit absent long a l next) = (bytes : List ℕ) → IsDrawing (next bytes)
IsDrawing (ranges x absent a next) = (opened : Opened) → IsDrawing (next opened)
IsDrawing (reads_all limit long stated next) = (all : List ℕ) → IsDrawing (next all)
IsDrawing (reads_front size next) = (front : List ℕ) → IsDrawing (next front)
IsDrawing (draws kind give next) =
    ((used : Step) × IsStep kind give used) × ((given : Result (Of kind) EditRefusal) → IsDrawing (next given))
IsDrawing (pumps part) = Unit {0}
IsDrawing (collects part next) = (output : List ℕ) → IsDrawing (next output)
IsDrawing (exchanges exchange next) =
    ((table : Table) × (form : Form) × (keys : Keys) × IsSaving exchange table form keys) × ((keys : Keys) → IsDrawing (next keys))

closed : IsClosed IsDrawing
closed = record { ended = λ s stated. tt; allocated = λ next all. all }

open_drawing : IsOpen IsDrawing
open_drawing = record { closed = closed; loaded = λ from limit name next all. all; read = λ limit next all. all }

made_drawing : (give : Draw Keys) (used : Step) → IsStep keysets give used → (next : Keys → Plan) → AreAll IsDrawing next → IsDrawing (makes_keyset give next)
made_drawing give used is next all = ((used, is), λ given. made_each IsDrawing closed given next all)

put_drawing : (file : Option (List ℕ)) (output : List ℕ) → IsDrawing (puts file output)
put_drawing (Some name) output = tt
put_drawing None output = tt

-- the IV of a wrapping is one of the six steps
written_drawing : (table : Table) (master : Option Keys) (form : Format) (keys : Keys) (next : List ℕ → Plan) → AreAll IsDrawing next → IsDrawing (writes_under table master form keys next)
written_drawing table master form keys next all =
    written_under_each IsDrawing closed table master form keys (λ m next all. ((wrapping table keys m form, refl), all)) next all

out_drawing : (table : Table) (master : Option Keys) (out : KeysetFile) (keys : Keys) → IsDrawing (puts_under table master out keys)
out_drawing table master out keys = written_drawing table master out.form keys (puts out.file) (put_drawing out.file)

shown_drawing : (hex : Bool) (file : Option (List ℕ)) (bytes : List ℕ) → IsDrawing (shows hex bytes (puts file))
shown_drawing false file bytes = put_drawing file bytes
shown_drawing true file bytes = put_drawing file (hex_line bytes)

counts_drawing : (r : Result Counts EditRefusal) (lines : ℕ) → IsDrawing (tells_counts lines r writes)
counts_drawing (Ok n) lines = tt
counts_drawing (Err fault) lines = tt

stream_fit_drawing : (name : ℕ → UnfitKey) (found : Option (ℕ × streams.StreamUnfit)) (next : Plan) → IsDrawing next → IsDrawing (streaming.unless_unfit name found next)
stream_fit_drawing name None next all = all
stream_fit_drawing name (Some (i, streams.not_stream)) next all = tt
stream_fit_drawing name (Some (i, streams.bad_key rule)) next all = tt

stream_keys_drawing : (found : Option KeysForStreams) (next : KeysForStreams → Plan) → AreAll IsDrawing next → IsDrawing (streaming.with_keys found next)
stream_keys_drawing None next all = tt
stream_keys_drawing (Some keys) next all = all keys

-- a pass draws nothing, and nor does the look for the name of its new file
passed_drawing : (out : Option (List ℕ)) (part : Part) → IsDrawing (streaming.passes_to out part)
passed_drawing None part = tt
passed_drawing (Some name) part = λ output. tt

begun_drawing : (out : Option (List ℕ)) (next : Plan) → IsDrawing next → IsDrawing (streaming.begins_file out next)
begun_drawing None next all = all
begun_drawing (Some name) next all = all

stream_drawing : (work : StreamWork) (ad : List ℕ) (out : Option (List ℕ)) (keys : KeysForStreams) → IsDrawing (streaming.passes_stream work keys ad out)
stream_drawing works.Seal ad out keys = ((heading (keys.primary.derived + 7), refl), λ made. made_each IsDrawing closed made _ (λ random. passed_drawing out _))
stream_drawing works.Open ad out keys = passed_drawing out _
stream_drawing works.Reseal ad out keys = ((heading (keys.primary.derived + 7), refl), λ made. made_each IsDrawing closed made _ (λ random. passed_drawing out _))

saved_drawing : (table : Table) (master : Option Keys) (file : Option (List ℕ)) (form : Format) (keys : Keys) → IsDrawing (saves_as table master file form keys)
saved_drawing table master None form keys = tt
saved_drawing table master (Some name) form keys = written_drawing table master form keys (λ output. creates name output status.OutExists tt) (λ output. tt)

free_drawing : (file : Option (List ℕ)) (next : Unit {0} → Plan) → IsDrawing (next tt) → IsDrawing (finds_free file next)
free_drawing None next all = all
free_drawing (Some name) next all = all

session_drawing : (table : Table) (master : Option Keys) (out : KeysetFile) (saved_only : Bool) (keys : Keys) → IsDrawing (holds_session table master out saved_only keys)
session_drawing table master out saved_only keys = free_drawing out.file _ ((table, with_saved_only saved_only (form_under table master out.form), keys, λ answers. refl), saved_drawing table master out.file out.form)

streams_drawing : (table : Table) (lock : Lock) (name : List ℕ) (form : Format) (next : KeysForStreams → Plan) → AreAll IsDrawing next → IsDrawing (streaming.loads_stream_keys table lock name form next)
streams_drawing table lock name form next all = loaded_each IsDrawing open_drawing table lock name form _ (λ keys. stream_fit_drawing _ (streams.stream_unfit keys) _ (stream_keys_drawing (streaming.keys_for keys) next all))

tells_drawing : (kind : SealedForm) (ad : List ℕ) (keys : Keys) → IsDrawing (tells_keys kind ad keys writes)
tells_drawing sealed.Text ad keys = λ front. lines_each IsDrawing closed (key_of_answer keys front) writes (λ lines. tt)
tells_drawing sealed.Envelope ad keys = λ front. lines_each IsDrawing closed (key_of_answer keys (drop 4 front)) writes (λ lines. tt)
tells_drawing sealed.Stream ad keys = stream_fit_drawing _ (streams.stream_unfit keys) _ (stream_keys_drawing (streaming.keys_for keys) (tells_front ad keys writes) (λ those front. lines_each IsDrawing closed (stream_record_line keys ad front) writes (λ lines. tt)))

commands_are_drawing : (table : Table) (asked : Asked) → IsDrawing (command_plan table asked)
commands_are_drawing table (create_keyset lock name out) = row_each IsDrawing closed (row_named name) name _ (λ row. lock_each IsDrawing open_drawing table lock _ (λ master. made_drawing (first row) (creation row) refl _ (out_drawing table master out)))
commands_are_drawing table (edit_keyset lock edit in' out) = edit_each IsDrawing closed edit _ (λ edit. lock_each IsDrawing open_drawing table lock _ (λ master. under_each IsDrawing open_drawing origins.In table master in' _ (λ keys. made_drawing (step keys edit) (edition keys edit) refl _ (out_drawing table master out))))
commands_are_drawing table (list_keyset lock in') = locked_each IsDrawing open_drawing origins.In table lock in' _ (λ keys. tt)
commands_are_drawing table (key_of lock name form kind ad) = loaded_each IsDrawing open_drawing table lock name form _ (tells_drawing kind ad)
commands_are_drawing table (convert_keyset lock new in' out) = lock_each IsDrawing open_drawing table lock _ (λ taken. new_lock_each IsDrawing open_drawing table new taken _ (λ put. under_each IsDrawing open_drawing origins.In table taken in' _ (out_drawing table put out)))
commands_are_drawing table (list_key_templates primitive) = tt
commands_are_drawing table (use_keyset lock name form work out) = loaded_each IsDrawing open_drawing table lock name form _ (λ keys. fit_each IsDrawing closed _ (unfit keys (primitive_for work) table) _ (λ input. work_each IsDrawing closed table keys work input (λ plain ad next all. ((sealing table keys plain ad, refl), all)) (puts_output out) (shown_drawing out.hex out.file)))
commands_are_drawing table (use_envelope lock name form template work out) = dek_each IsDrawing closed template _ (λ row. loaded_each IsDrawing open_drawing table lock name form _ (λ keys. fit_each IsDrawing closed _ (unfit keys Aead table) _ (scheme_each IsDrawing closed (scheme_at table Aead (url_made row)) _ (λ scheme input. envelope_each IsDrawing closed table keys scheme row work input (λ ad next all. ((enveloping table keys scheme row input ad, refl), all)) (λ plain ad next all. ((sealing table keys plain ad, refl), all)) (puts out) (put_drawing out)))))
commands_are_drawing table (use_stream lock name form work ad out) = streams_drawing table lock name form _ (λ k. begun_drawing out (streaming.passes_stream work k ad out) (stream_drawing work ad out k))
commands_are_drawing table (open_range lock name form ad range out) = streams_drawing table lock name form _ (λ k opened. range_each IsDrawing closed opened _ (put_drawing out))
commands_are_drawing table (self_test seed lines) = counts_drawing (trial.self_test table seed lines) lines
commands_are_drawing table (session lock name form out saved_only) = lock_each IsDrawing open_drawing table lock _ (λ master. under_each IsDrawing open_drawing origins.Keyset table master (record { file = Some name; form = form }) _ (session_drawing table master out saved_only))
commands_are_drawing table (help topic) = tt
commands_are_drawing table version = tt

asked_drawing : (table : Table) (r : Result Asked Misuse) (words : List (List ℕ)) → IsDrawing (asked_plan table r words)
asked_drawing table (Ok asked) words = commands_are_drawing table asked
asked_drawing table (Err misuse) [] = tt
asked_drawing table (Err misuse) (name ∷ words) = tt

pub plans_are_drawing : (table : Table) (words : List (List ℕ)) → IsDrawing (plan_of table words)
plans_are_drawing table words = asked_drawing table (words_of words) words
