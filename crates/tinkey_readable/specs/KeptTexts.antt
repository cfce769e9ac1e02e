-- What stays readable over runs with whatever outcome that spare the key.
--
--   StillReads            what was made under a key opens or verifies over the keyset that lies here
--   ReadsAfterCommands    so it does where no run took the key away or put another one under its prefix
--   ReadsByItsIdAlone     where ids are distinct, where no run took it away by its own id
use Rattle.std.specs.Prelude.{◌≡◌, ◌≤◌, ℕ, List, [], length, Some, None}
use Rattle.key_msgs.specs.declared.primitive.Primitive.TheVariants.{Aead, Daead, Mac}
use Rattle.keyset_model.specs.Keyset.{Keys, primary_of}
use Rattle.keyset_model.specs.declared.record.Record.{Record}
use Rattle.managers.specs.Standard.{standard_table}
use Rattle.segment_stream.specs.StreamKeys.{stream_unfit}
use Rattle.tinkey_session.specs.KeptKeys.{HasDistinctIds, Spares, SparesKey}
use Rattle.wrapped_prims.specs.Candidates.{prefix_of}
use Rattle.wrapped_prims.specs.Fitness.{unfit}
use Rattle.wrapped_prims.specs.Laws.{HasKey, HasSameKey}
use Rattle.tinkey_plans.specs.Plan.{Told}
use Rattle.tinkey_plans.specs.Steps.{keyset_limit}
use Rattle.tinkey_readable.specs.Anywhere.{WasMadeBy}
use Rattle.tinkey_readable.specs.EnvelopeRuns.{IsEnveloped, MakeOneType, WasEnveloped}
use Rattle.tinkey_readable.specs.KeptRuns.{Course, Event, OfEvents}
use Rattle.tinkey_readable.specs.Lying.{Lies, Lying, clear}
use Rattle.tinkey_readable.specs.RangeRuns.{IsRanged}
use Rattle.tinkey_readable.specs.Runs.{DrawsBytes, HoldsBytes, IsDone, IsUnwrapped, Run, Wraps, Written, keyset_of}
use Rattle.tinkey_readable.specs.StreamRuns.{IsOpened, NoOtherBefore, WasSealed}
use Rattle.tinkey_words.specs.Words.{to_dopen, to_dseal, to_eopen, to_eseal, to_open, to_seal, to_tag, to_verify}

-- What was made under the key of this record, over whichever keyset, opens or verifies over the keyset that
-- lies here to what it was made of, where the old keyset serves the primitive. A stream does so where no
-- other key before that one opens its first segment.
pub record StillReads (old : Keys) (r : Record) (after : Written) : Type 0 where
  pub opens : unfit old Aead standard_table ≡ None → (ad plain sealed : List ℕ)
      → WasMadeBy (to_seal ad) plain sealed r → IsDone (to_open ad) after sealed plain
  pub dopens : unfit old Daead standard_table ≡ None → (ad plain sealed : List ℕ)
      → WasMadeBy (to_dseal ad) plain sealed r → IsDone (to_dopen ad) after sealed plain
  pub verifies : unfit old Mac standard_table ≡ None → (tag body : List ℕ)
      → WasMadeBy to_tag body tag r → IsDone (to_verify tag) after body []
  pub streams : stream_unfit old ≡ None → (before : Lying) (first keys : Keys)
      (ad stream : List ℕ) (told : Told)
      → Lies before first → primary_of first ≡ Some r → WasSealed ad before told stream
      → keyset_of after ≡ Some keys → (has : HasKey r keys) → NoOtherBefore r has.place ad stream keys
      → IsOpened ad (clear after) stream told.input × IsRanged ad (clear after) stream told.input
  pub envelopes : unfit old Aead standard_table ≡ None → (before : Lying) (first : Keys)
      (template again ad sealed : List ℕ) (told : Told)
      → Lies before first → primary_of first ≡ Some r
      → WasEnveloped (to_eseal ad) template before told sealed → MakeOneType template again
      → IsEnveloped (to_eopen ad) again (clear after) sealed told.input
  pub unwraps : unfit old Aead standard_table ≡ None → (master : Written) (first : Keys)
      → HoldsBytes master → keyset_of master ≡ Some first → primary_of first ≡ Some r
      → (wrap : Run) (before text : Written) (keys : Keys)
      → Wraps standard_table wrap master before text → DrawsBytes wrap
      → HoldsBytes before → keyset_of before ≡ Some keys → IsUnwrapped after text keys

-- So it does after any runs with whatever outcome, of which no accepted edit or line disables, destroys or
-- deletes the key's id, or enables another key under its prefix, where it was ENABLED and alone under that.
abbrev pub ReadsAfterCommands : Type 0
ReadsAfterCommands = (events : List Event) (before after : Written) (old : Keys) (r : Record)
    (prefix : List ℕ) (course : Course events before after old)
    → length before.bytes ≤ keyset_limit → prefix_of r ≡ Some prefix → HasSameKey r old
    → OfEvents (SparesKey r) events before after course.led
    → StillReads old r after

-- Where ids are distinct, only an accepted edit or line that disables, destroys or deletes its own id takes a
-- key's texts away.
abbrev pub ReadsByItsIdAlone : Type 0
ReadsByItsIdAlone = (events : List Event) (before after : Written) (old : Keys) (r : Record)
    (prefix : List ℕ) (course : Course events before after old)
    → length before.bytes ≤ keyset_limit → HasDistinctIds old
    → prefix_of r ≡ Some prefix → HasSameKey r old
    → OfEvents (λ keys. Spares r.id) events before after course.led
    → StillReads old r after
