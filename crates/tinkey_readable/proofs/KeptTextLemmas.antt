-- What was made under a key stays readable over the runs that spare it.
use Rattle.std.proofs.Common.{◌≡◌, ◌∙◌, sym, ap, subst, ℕ, ◌≤◌, List, [], ◌∷◌, length, Some, None}
use Rattle.std.specs.List.{AllByRecursion}
use Rattle.std.proofs.lemmas.Option.{same_Some}
use Rattle.key_msgs.specs.declared.primitive.Primitive.TheVariants.{Aead, Daead, Mac, Stream}
use Rattle.keyset_model.specs.Keyset.{Keys}
use Rattle.keyset_model.specs.Writing.{ReadKeysFit}
use Rattle.keyset_model.specs.declared.record.Record.{Record}
use Rattle.managers.specs.Standard.{standard_table}
use Rattle.segment_stream.specs.StreamKeys.{stream_unfit}
use Rattle.tinkey_session.proofs.TurnLemmas.{edited_on}
use Rattle.tinkey_session.specs.Laws.{EditedIsKeyset, EditedIsSound, SoundIsUsable}
use Rattle.tinkey_session.specs.SessionLaws.{SessionIsEdits}
use Rattle.wrapped_prims.specs.Candidates.{prefix_of}
use Rattle.wrapped_prims.specs.Fitness.{unfit}
use Rattle.wrapped_prims.specs.Laws.{HasSameKey, IsKeyset}
use Rattle.tinkey_plans.specs.Steps.{keyset_limit}
use Rattle.tinkey_readable.proofs.KeptRunLemmas.{alone_is_there, goes_of, hands_on_of, same_written}
use Rattle.tinkey_readable.proofs.LyingLemmas.{clear_taken}
use Rattle.tinkey_readable.proofs.RunLemmas.{Led, done_edits, no_edits, read_keyset, still_fit}
use Rattle.tinkey_readable.proofs.StreamKeyLemmas.{fit_sound, sound_fit}
use Rattle.tinkey_readable.specs.Anywhere.{DopensAnywhere, OpensAnywhere, OpensEnvelopeAnywhere, OpensRangeAnywhere, OpensStreamAnywhere, Serves, ServesStreams, UnwrapsAnywhere, VerifiesAnywhere}
use Rattle.tinkey_readable.specs.KeptRuns.{Course, Event, EventDraws, HaveLed, KeptByCommands, KeptByItsIdAlone, LiesAlone, passed_by, passed_on, passed_wrapped}
use Rattle.tinkey_readable.specs.KeptTexts.{ReadsAfterCommands, ReadsByItsIdAlone, StillReads}
use Rattle.tinkey_readable.specs.Lying.{clear}
use Rattle.tinkey_readable.specs.Runs.{HoldsBytes, LocksStep, RunStep, Written, keyset_of}

-- ---- what events lead to

-- some edits of the first keyset
events_led : RunStep → LocksStep → SessionIsEdits → (events : List Event) (before after : Written) (led : HaveLed events before after) → AllByRecursion EventDraws events → HoldsBytes before → (old : Keys) → keyset_of before ≡ Some old → length before.bytes ≤ keyset_limit → Led old after
events_led law wrap sessions [] before after led bytes holds old is within = record {
  new = old;
  read = ap keyset_of (sym led) ∙ is;
  edited = no_edits old;
  within = subst (λ (w : Written). length w.bytes ≤ keyset_limit) led within;
}
events_led law wrap sessions (passed_on run ∷ later) before after (between, on, led) bytes holds old is within =
    let g = law standard_table run before between old (hands_on_of run before between on) bytes.0 holds is in
    let rest = events_led law wrap sessions later between after led bytes.1 g.holds g.new g.read g.within in
    record {
      new = rest.new;
      read = rest.read;
      within = rest.within;
      edited = edited_on old g.new rest.new (done_edits sessions standard_table run.told run.asked old g.new g.does) rest.edited;
    }
events_led law wrap sessions (passed_wrapped wrap_run locked unwrap_run ∷ later) before after (between, went, led) bytes holds old is within =
    let k = wrap wrap_run locked unwrap_run before between old (goes_of wrap_run locked unwrap_run before between went) bytes.0.0 bytes.0.1 holds is in
    let rest = events_led law wrap sessions later between after led bytes.1 k.keeps.holds k.new k.keeps.read k.keeps.within in
    record { new = rest.new; read = rest.read; within = rest.within; edited = edited_on old k.new rest.new k.edited rest.edited }
events_led law wrap sessions (passed_by ∷ later) before after (between, stays, led) bytes holds old is within =
    let same : between ≡ before = same_written before between stays in
    events_led law wrap sessions later between after led bytes.1 (subst HoldsBytes (sym same) holds) old (ap keyset_of same ∙ is) (subst (λ (w : Written). length w.bytes ≤ keyset_limit) (sym same) within)

-- a keyset that served a primitive does so after some edits
pub record StillServes (old : Keys) (after : Written) (keys : Keys) : Type 0 where
  pub aead : unfit old Aead standard_table ≡ None → Serves Aead after keys
  pub daead : unfit old Daead standard_table ≡ None → Serves Daead after keys
  pub mac : unfit old Mac standard_table ≡ None → Serves Mac after keys
  pub streams : stream_unfit old ≡ None → ServesStreams (clear after) keys

pub record EditLaws : Type 0 where
  pub aead : SoundIsUsable Aead
  pub daead : SoundIsUsable Daead
  pub mac : SoundIsUsable Mac
  pub sound : EditedIsSound
  pub keyset : EditedIsKeyset

still_serves : EditLaws → (old : Keys) (after : Written) → IsKeyset old → (l : Led old after) → StillServes old after l.new
still_serves e old after is l = record {
  aead = λ fit. record { read = l.read; within = l.within; fit = still_fit Aead e.aead e.sound e.keyset old l.new is l.edited fit };
  daead = λ fit. record { read = l.read; within = l.within; fit = still_fit Daead e.daead e.sound e.keyset old l.new is l.edited fit };
  mac = λ fit. record { read = l.read; within = l.within; fit = still_fit Mac e.mac e.sound e.keyset old l.new is l.edited fit };
  streams = λ fit. record { taken = clear_taken after l.new l.read l.within; fit = sound_fit l.new (e.sound Stream old l.new l.edited (fit_sound old is fit)) };
}

-- ---- what is read there

pub record AnywhereLaws : Type 0 where
  pub opens : OpensAnywhere
  pub dopens : DopensAnywhere
  pub verifies : VerifiesAnywhere
  pub opens_stream : OpensStreamAnywhere
  pub opens_range : OpensRangeAnywhere
  pub opens_envelope : OpensEnvelopeAnywhere
  pub unwraps : UnwrapsAnywhere

reads_there : AnywhereLaws → (old keys : Keys) (r : Record) (prefix : List ℕ) (after : Written) → prefix_of r ≡ Some prefix → keyset_of after ≡ Some keys → HasSameKey r keys → StillServes old after keys → StillReads old r after
reads_there a old keys r prefix after has read key serves = record {
  opens = λ fit ad plain sealed made. (a.opens ad plain sealed prefix r has made).by_run after keys (serves.aead fit) key;
  dopens = λ fit ad plain sealed made. (a.dopens ad plain sealed prefix r has made).by_run after keys (serves.daead fit) key;
  verifies = λ fit tag body made. (a.verifies tag body r made).by_run after keys (serves.mac fit) (alone_is_there r keys key);
  streams = λ fit before first found ad stream told is primary was there at only.
      let serves' = subst (ServesStreams (clear after)) (same_Some _ _ (sym read ∙ there)) (serves.streams fit) in
      (a.opens_stream before (clear after) first found r ad stream told is primary was serves' at only, a.opens_range before (clear after) first found r ad stream told is primary was serves' at only);
  envelopes = λ fit before first template again ad sealed told is primary was one_type.
      let s = serves.aead fit in
      a.opens_envelope before (clear after) first keys r prefix template again ad sealed told is primary has was one_type (record { taken = clear_taken after keys s.read s.within; fit = s.fit }) key;
  unwraps = λ fit master first holds is primary wrap before text wrapped x random holds_too is_too.
      a.unwraps master after first keys r prefix holds is primary has wrap before text wrapped x random holds_too is_too (serves.aead fit) key;
}

-- after a course of events in which the key stayed
read_after : ReadKeysFit → RunStep → LocksStep → SessionIsEdits → EditLaws → AnywhereLaws → (events : List Event) (before after : Written) (old : Keys) (r : Record) (prefix : List ℕ) → Course events before after old
    → length before.bytes ≤ keyset_limit → prefix_of r ≡ Some prefix → LiesAlone r after → StillReads old r after
read_after fit law wrap sessions e a events before after old r prefix course within has lies =
    let l = events_led law wrap sessions events before after course.led course.bytes course.holds old course.read within in
    let s = still_serves e old after (read_keyset fit before.form before.bytes old within course.read) l in
    reads_there a old l.new r prefix after has l.read (subst (HasSameKey r) (same_Some _ _ (sym lies.read ∙ l.read)) lies.key) s

pub reads_after_commands : ReadKeysFit → RunStep → LocksStep → SessionIsEdits → EditLaws → AnywhereLaws → KeptByCommands → ReadsAfterCommands
reads_after_commands fit law wrap sessions e a kept events before after old r prefix course within has key spares =
    read_after fit law wrap sessions e a events before after old r prefix course within has (kept events before after old r prefix course has key spares)

pub reads_by_its_id_alone : ReadKeysFit → RunStep → LocksStep → SessionIsEdits → EditLaws → AnywhereLaws → KeptByItsIdAlone → ReadsByItsIdAlone
reads_by_its_id_alone fit law wrap sessions e a kept events before after old r prefix course within apart has key spares =
    read_after fit law wrap sessions e a events before after old r prefix course within has (kept events before after old r prefix course apart has key spares)
