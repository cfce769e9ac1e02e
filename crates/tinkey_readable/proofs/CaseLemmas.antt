-- What was made before runs that hand a keyset on, and is read after them: cases of what is read over any
-- keyset that has the key.
use Rattle.std.proofs.Common.{◌≡◌, ◌∙◌, sym, ap, refl, ℕ, ◌≤◌, List, length, None}
use Rattle.key_msgs.specs.declared.primitive.Primitive.{Primitive}
use Rattle.key_msgs.specs.declared.primitive.Primitive.TheVariants.{Aead, Daead, Mac, Stream}
use Rattle.keyset_model.specs.Writing.{ReadKeysFit}
use Rattle.keyset_model.specs.declared.record.Record.{Record}
use Rattle.managers.specs.Standard.{standard_table}
use Rattle.segment_stream.specs.StreamKeys.{stream_unfit}
use Rattle.tinkey_session.specs.Laws.{EditedIsKeyset, EditedIsSound, SoundIsUsable}
use Rattle.tinkey_session.specs.SessionLaws.{SessionIsEdits}
use Rattle.wrapped_prims.specs.Fitness.{unfit}
use Rattle.tinkey_plans.specs.Plan.{Told}
use Rattle.tinkey_plans.specs.Steps.{keyset_limit, puts}
use Rattle.tinkey_plans.specs.Streaming.{begins_file, seals_stream}
use Rattle.tinkey_readable.proofs.EnvelopeRunLemmas.{used_done}
use Rattle.tinkey_readable.proofs.LyingLemmas.{clear_lies, clear_taken, clear_within, same_lying}
use Rattle.tinkey_readable.proofs.RunLemmas.{done_within, lead_ends, started, still_fit}
use Rattle.tinkey_readable.proofs.StreamKeyLemmas.{fit_sound, sound_fit}
use Rattle.tinkey_readable.proofs.StreamRunLemmas.{keys_loaded}
use Rattle.tinkey_readable.proofs.WrappedRunLemmas.{wraps_done}
use Rattle.tinkey_readable.specs.Anywhere.{DopensAnywhere, DopensSomehowAnywhere, OpensAnywhere, OpensEnvelopeAnywhere, OpensFirstAnywhere, OpensRangeAnywhere, OpensSomehowAnywhere, OpensStreamAnywhere, Serves, ServesStreams, UnwrapsAnywhere, VerifiesAnywhere, by_run}
use Rattle.tinkey_readable.specs.EnvelopeRuns.{RunsOpenEnvelope}
use Rattle.tinkey_readable.specs.Lying.{clear}
use Rattle.tinkey_readable.specs.RangeRuns.{RunsOpenRange}
use Rattle.tinkey_readable.specs.Runs.{LeadOn, Passage, RunStep, RunsDopen, RunsDopenPresent, RunsOpen, RunsOpenPresent, RunsUnwrap, RunsVerify, LocksStep, Written}
use Rattle.tinkey_readable.specs.StreamRuns.{RunsOpenStream, RunsOpenStreamPresent, WasSealed}
use Rattle.tinkey_words.specs.Words.{to_dseal, to_eseal, to_seal, to_tag}

-- ---- the last keyset serves where the first one does

-- what is known of runs and edits
pub record RunLaws : Type 0 where
  pub fit : ReadKeysFit
  pub run : RunStep
  pub wrap : LocksStep
  pub sessions : SessionIsEdits
  pub sound : EditedIsSound
  pub keyset : EditedIsKeyset

served_after : (p : Primitive) → SoundIsUsable p → RunLaws → (runs : List Passage) (before after : Written) (r : Record) → length before.bytes ≤ keyset_limit → (x : LeadOn runs before after r) → unfit x.old p standard_table ≡ None → Serves p after x.new
served_after p usable l runs before after r within x fit =
    let e = lead_ends l.fit l.run l.wrap l.sessions runs before after r within x in
    record { read = e.read_again; within = e.within; fit = still_fit p usable l.sound l.keyset x.old x.new e.keyset e.edited fit }

streams_after : RunLaws → (runs : List Passage) (before after : Written) (r : Record) (ad stream : List ℕ) (told : Told) (x : LeadOn runs before after r) → WasSealed ad (clear before) told stream → ServesStreams (clear after) x.new
streams_after l runs before after r ad stream told x was =
    let u = keys_loaded standard_table None was.name before.form (λ k. begins_file was.out (seals_stream k ad was.out)) told was.done in
    let same : u.keys ≡ x.old = same_lying (clear before) x.old u.keys told was.lock was.name (clear_lies before x.old x.read) was.lies u.lies in
    let within = clear_within standard_table was.name before told u.keys was.lies.lies u.lies in
    let e = lead_ends l.fit l.run l.wrap l.sessions runs before after r within x in
    record {
      taken = clear_taken after x.new e.read_again e.within;
      fit = sound_fit x.new (l.sound Stream x.old x.new e.edited (fit_sound x.old e.keyset (ap stream_unfit (sym same) ∙ u.fit)));
    }

-- ---- whole inputs

pub runs_open : OpensAnywhere → SoundIsUsable Aead → RunLaws → RunsOpen
runs_open anywhere usable l runs before after r prefix ad sealed told x same is was =
    (anywhere ad told.input sealed prefix r is (by_run before x.old x.read told was refl x.primary)).by_run after x.new
    (served_after Aead usable l runs before after r (done_within (to_seal ad) before told sealed was) x (started (to_seal ad) before x.old told sealed x.read was).fit) same

pub runs_open_present : OpensSomehowAnywhere → SoundIsUsable Aead → RunLaws → RunsOpenPresent
runs_open_present anywhere usable l runs before after r ad sealed told x has was =
    (anywhere ad told.input sealed r (by_run before x.old x.read told was refl x.primary)).by_run after x.new
    (served_after Aead usable l runs before after r (done_within (to_seal ad) before told sealed was) x (started (to_seal ad) before x.old told sealed x.read was).fit) has

pub runs_dopen : DopensAnywhere → SoundIsUsable Daead → RunLaws → RunsDopen
runs_dopen anywhere usable l runs before after r prefix ad sealed told x same is was =
    (anywhere ad told.input sealed prefix r is (by_run before x.old x.read told was refl x.primary)).by_run after x.new
    (served_after Daead usable l runs before after r (done_within (to_dseal ad) before told sealed was) x (started (to_dseal ad) before x.old told sealed x.read was).fit) same

pub runs_dopen_present : DopensSomehowAnywhere → SoundIsUsable Daead → RunLaws → RunsDopenPresent
runs_dopen_present anywhere usable l runs before after r ad sealed told x has was =
    (anywhere ad told.input sealed r (by_run before x.old x.read told was refl x.primary)).by_run after x.new
    (served_after Daead usable l runs before after r (done_within (to_dseal ad) before told sealed was) x (started (to_dseal ad) before x.old told sealed x.read was).fit) has

pub runs_verify : VerifiesAnywhere → SoundIsUsable Mac → RunLaws → RunsVerify
runs_verify anywhere usable l runs before after r tag told x has was =
    (anywhere tag told.input r (by_run before x.old x.read told was refl x.primary)).by_run after x.new
    (served_after Mac usable l runs before after r (done_within to_tag before told tag was) x (started to_tag before x.old told tag x.read was).fit) has

-- ---- streams

pub runs_open_stream : OpensStreamAnywhere → RunLaws → RunsOpenStream
runs_open_stream anywhere l runs before after r ad stream told x has only was =
    anywhere (clear before) (clear after) x.old x.new r ad stream told (clear_lies before x.old x.read) x.primary was (streams_after l runs before after r ad stream told x was) has only

pub runs_open_stream_present : OpensFirstAnywhere → RunLaws → RunsOpenStreamPresent
runs_open_stream_present anywhere l runs before after r ad stream told x has was =
    anywhere (clear before) (clear after) x.old x.new r ad stream told (clear_lies before x.old x.read) x.primary was (streams_after l runs before after r ad stream told x was) has

pub runs_open_range : OpensRangeAnywhere → RunLaws → RunsOpenRange
runs_open_range anywhere l runs before after r ad stream told x has only was =
    anywhere (clear before) (clear after) x.old x.new r ad stream told (clear_lies before x.old x.read) x.primary was (streams_after l runs before after r ad stream told x was) has only

-- ---- envelopes and wrapped keysets

pub runs_open_envelope : OpensEnvelopeAnywhere → SoundIsUsable Aead → RunLaws → RunsOpenEnvelope
runs_open_envelope anywhere usable l runs before after r prefix template other ad sealed told x same is one_type was =
    let u = used_done standard_table None was.name before.form template (to_eseal ad) (puts was.out) told was.done in
    let same_keys : u.keys ≡ x.old = same_lying (clear before) x.old u.keys told was.lock was.name (clear_lies before x.old x.read) was.lies u.lies in
    let within = clear_within standard_table was.name before told u.keys was.lies.lies u.lies in
    let s = served_after Aead usable l runs before after r within x (ap (λ k. unfit k Aead standard_table) (sym same_keys) ∙ u.fit) in
    anywhere (clear before) (clear after) x.old x.new r prefix template other ad sealed told (clear_lies before x.old x.read) x.primary is was one_type
    (record { taken = clear_taken after x.new s.read s.within; fit = s.fit }) same

pub runs_unwrap : UnwrapsAnywhere → SoundIsUsable Aead → RunLaws → RunsUnwrap
runs_unwrap anywhere usable l runs master later r prefix lead same prefixed wrap before text keys x random holds is =
    let w = wraps_done wrap master before text lead.old keys x lead.read is in
    anywhere master later lead.old lead.new r prefix lead.holds lead.read lead.primary prefixed wrap before text keys x random holds is
    (served_after Aead usable l runs master later r w.master_within lead w.fit) same
