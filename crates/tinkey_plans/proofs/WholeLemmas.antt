-- Plans that write nothing but at their end.
use Rattle.std.proofs.Common.{inl, inr, ℕ, Bool, true, false, List, drop, Option, Some, None, Result, Ok, Err}
use Rattle.key_msgs.specs.Templates.{row_named}
use Rattle.key_msgs.specs.declared.primitive.Primitive.TheVariants.{Aead}
use Rattle.keyset_model.specs.Keyset.{Keys}
use Rattle.tinkey_cmds.specs.Draws.{Draw}
use Rattle.tinkey_cmds.specs.Edits.{first, step}
use Rattle.tinkey_cmds.specs.declared.command.EditRefusal.{EditRefusal}
use Rattle.managers.specs.Table.{Table, scheme_at}
use Rattle.envelopes.specs.Enveloping.{url_made}
use Rattle.wrapped_prims.specs.Fitness.{unfit}
use Rattle.tinkey_words.specs.declared.words.rows.SealedForm.{SealedForm}
use Rattle.tinkey_words.specs.declared.words.rows.SealedForm.TheVariants as sealed
use Rattle.tinkey_words.specs.declared.words.request.StreamWork.{StreamWork}
use Rattle.tinkey_words.specs.declared.words.request.StreamWork.TheVariants as works
use Rattle.tinkey_plans.specs.Laws.{CommandsAreWhole}
use Rattle.tinkey_plans.specs.declared.origin.Origin.TheVariants as origins
use Rattle.tinkey_plans.specs.Plan.{writes, Plan}
use Rattle.tinkey_plans.specs.Promises.{IsWhole}
use Rattle.tinkey_plans.proofs.EachLemmas.{AreAll, IsClosed, IsOpen, dek_each, envelope_each, scheme_each, range_each, edit_each, fit_each, lines_each, loaded_each, lock_each, locked_each, made_each, new_lock_each, row_each, under_each, work_each, written_under_each}
use Rattle.tinkey_plans.specs.KeyOf.{key_of_answer, stream_record_line, tells_front, tells_keys}
use Rattle.tinkey_plans.specs.Locks.{puts_under}
use Rattle.tinkey_plans.specs.Steps.{makes_keyset, puts}
use Rattle.tinkey_plans.specs.Using.{hex_line, puts_output, shows}
use Rattle.tinkey_selftest.specs.Trial as trial
use Rattle.segment_stream.specs.KeysModel.{KeysForStreams}
use Rattle.segment_stream.specs.StreamKeys as streams
use Rattle.tinkey_plans.specs.Streaming as streaming
use Rattle.tinkey_selftest.specs.declared.counts.Counts.{Counts}
use Rattle.tinkey_plans.specs.SelfTesting.{tells_counts}
use Rattle.tinkey_words.specs.Words.{self_test, KeysetFile, primitive_for, create_keyset, edit_keyset, list_keyset, key_of, convert_keyset, list_key_templates, use_keyset, use_envelope, use_stream, open_range, session, help, version}
use Rattle.tinkey_plans.specs.declared.unfit.UnfitKey.{UnfitKey}

closed : IsClosed IsWhole
closed = record { ended = λ s stated. tt; allocated = λ next all. all }

open' : IsOpen IsWhole
open' = record { closed = closed; loaded = λ from limit name next all. all; read = λ limit next all. all }

draw_whole : (give : Draw Keys) (next : Keys → Plan) → AreAll IsWhole next → IsWhole (makes_keyset give next)
draw_whole give next whole = λ given. made_each IsWhole closed given next whole

put_whole : (file : Option (List ℕ)) (output : List ℕ) → IsWhole (puts file output)
put_whole (Some name) output = tt
put_whole None output = tt

out_whole : (table : Table) (master : Option Keys) (out : KeysetFile) (keys : Keys) → IsWhole (puts_under table master out keys)
out_whole table master out keys = written_under_each IsWhole closed table master out.form keys (λ m next all. all) (puts out.file) (put_whole out.file)

shown_whole : (hex : Bool) (file : Option (List ℕ)) (bytes : List ℕ) → IsWhole (shows hex bytes (puts file))
shown_whole false file bytes = put_whole file bytes
shown_whole true file bytes = put_whole file (hex_line bytes)

counts_whole : (r : Result Counts EditRefusal) (lines : ℕ) → IsWhole (tells_counts lines r writes)
counts_whole (Ok n) lines = tt
counts_whole (Err fault) lines = tt

stream_fit_whole : (name : ℕ → UnfitKey) (found : Option (ℕ × streams.StreamUnfit)) (next : Plan) → IsWhole next → IsWhole (streaming.unless_unfit name found next)
stream_fit_whole name None next whole = whole
stream_fit_whole name (Some (i, streams.not_stream)) next whole = tt
stream_fit_whole name (Some (i, streams.bad_key rule)) next whole = tt

stream_keys_whole : (found : Option KeysForStreams) (next : KeysForStreams → Plan) → AreAll IsWhole next → IsWhole (streaming.with_keys found next)
stream_keys_whole None next whole = tt
stream_keys_whole (Some keys) next whole = whole keys

tells_whole : (kind : SealedForm) (ad : List ℕ) (keys : Keys) → IsWhole (tells_keys kind ad keys writes)
tells_whole sealed.Text ad keys = λ front. lines_each IsWhole closed (key_of_answer keys front) writes (λ lines. tt)
tells_whole sealed.Envelope ad keys = λ front. lines_each IsWhole closed (key_of_answer keys (drop 4 front)) writes (λ lines. tt)
tells_whole sealed.Stream ad keys = stream_fit_whole _ (streams.stream_unfit keys) _ (stream_keys_whole (streaming.keys_for keys) (tells_front ad keys writes) (λ those front. lines_each IsWhole closed (stream_record_line keys ad front) writes (λ lines. tt)))

-- a stream that becomes a new file
stream_whole : (work : StreamWork) (ad name : List ℕ) (keys : KeysForStreams) → IsWhole (streaming.begins_file (Some name) (streaming.passes_stream work keys ad (Some name)))
stream_whole works.Seal ad name keys = λ made. made_each IsWhole closed made _ (λ random output. tt)
stream_whole works.Open ad name keys = λ output. tt
stream_whole works.Reseal ad name keys = λ made. made_each IsWhole closed made _ (λ random output. tt)

pub commands_are_whole : CommandsAreWhole
commands_are_whole table (create_keyset lock name out) = inl (row_each IsWhole closed (row_named name) name _ (λ row. lock_each IsWhole open' table lock _ (λ master. draw_whole (first row) _ (out_whole table master out))))
commands_are_whole table (edit_keyset lock edit in' out) = inl (edit_each IsWhole closed edit _ (λ edit. lock_each IsWhole open' table lock _ (λ master. under_each IsWhole open' origins.In table master in' _ (λ keys. draw_whole (step keys edit) _ (out_whole table master out)))))
commands_are_whole table (list_keyset lock in') = inl (locked_each IsWhole open' origins.In table lock in' _ (λ keys. tt))
commands_are_whole table (key_of lock name form kind ad) = inl (loaded_each IsWhole open' table lock name form _ (tells_whole kind ad))
commands_are_whole table (convert_keyset lock new in' out) = inl (lock_each IsWhole open' table lock _ (λ taken. new_lock_each IsWhole open' table new taken _ (λ put. under_each IsWhole open' origins.In table taken in' _ (out_whole table put out))))
commands_are_whole table (list_key_templates primitive) = inl tt
commands_are_whole table (use_keyset lock name form work out) = inl (loaded_each IsWhole open' table lock name form _ (λ keys. fit_each IsWhole closed _ (unfit keys (primitive_for work) table) _ (λ input. work_each IsWhole closed table keys work input (λ plain ad next all. all) (puts_output out) (shown_whole out.hex out.file))))
commands_are_whole table (use_envelope lock name form template work out) = inl (dek_each IsWhole closed template _ (λ row. loaded_each IsWhole open' table lock name form _ (λ keys. fit_each IsWhole closed _ (unfit keys Aead table) _ (scheme_each IsWhole closed (scheme_at table Aead (url_made row)) _ (λ scheme. (λ input. envelope_each IsWhole closed table keys scheme row work input (λ ad next all. all) (λ plain ad next all. all) (puts out) (put_whole out)))))))
commands_are_whole table (use_stream lock name form work ad None) = inr (inl tt)
commands_are_whole table (use_stream lock name form work ad (Some out)) = inl (loaded_each IsWhole open' table lock name form _ (λ keys. stream_fit_whole _ (streams.stream_unfit keys) _ (stream_keys_whole (streaming.keys_for keys) _ (stream_whole work ad out))))
commands_are_whole table (open_range lock name form ad range out) = inl (loaded_each IsWhole open' table lock name form _ (λ keys. stream_fit_whole _ (streams.stream_unfit keys) _ (stream_keys_whole (streaming.keys_for keys) _ (λ k opened. range_each IsWhole closed opened _ (put_whole out)))))
commands_are_whole table (self_test seed lines) = inl (counts_whole (trial.self_test table seed lines) lines)
commands_are_whole table (session lock name form out saved_only) = inr (inr tt)
commands_are_whole table (help topic) = inl tt
commands_are_whole table version = inl tt
