-- What was made under a key, and any keyset that has this key: a backup, a branch, another tool's copy.
-- Nothing is said of how that keyset came to be.
--
--   Serves               a keyset that the command for this primitive accepts
--   ServesUnder          one that lies under a master, and is accepted so
--   WasMadeBy            what a run, a line of a session or a call of the library made under a key
--   IsReadAnywhere       what opens or verifies it, over any keyset that has the key
--   OpensAnywhere ..     the laws
use Rattle.std.specs.Prelude.{◌≡◌, ℕ, ◌≤◌, List, [], length, Option, Some, None}
use Rattle.std.specs.List.{AllByRecursion}
use Rattle.key_msgs.specs.declared.primitive.Primitive.{Primitive}
use Rattle.key_msgs.specs.declared.primitive.Primitive.TheVariants.{Aead}
use Rattle.keyset_model.specs.Keyset.{Keys, primary_of}
use Rattle.keyset_model.specs.declared.record.Record.{Record}
use Rattle.managers.specs.Standard.{standard_table}
use Rattle.segment_stream.specs.StreamKeys.{stream_unfit}
use Rattle.tinkey_session.specs.Laws.{IsEdited}
use Rattle.tinkey_session.specs.Saving.{Form, StoreAnswers}
use Rattle.tinkey_session.specs.Session.{Turn}
use Rattle.tinkey_session.specs.declared.reply.Reply.TheVariants.{Gives}
use Rattle.wrapped_prims.specs.Candidates.{prefix_of}
use Rattle.wrapped_prims.specs.Fitness.{unfit}
use Rattle.wrapped_prims.specs.Laws.{HasKey, HasSameKey}
use Rattle.tinkey_plans.specs.Locks.{limit_under}
use Rattle.tinkey_plans.specs.Plan.{Told}
use Rattle.tinkey_plans.specs.Steps.{keyset_limit}
use Rattle.tinkey_plans.specs.Using.{limit_for}
use Rattle.tinkey_plans.specs.Wrapping.{wrapped_limit}
use Rattle.ready_keysets.specs.declared.ready.ReadyKeyset.{ReadyKeyset}
use Rattle.tinkey_readable.specs.Calls.{CallsGive, IsCalled, IsHandle, WasCalled}
use Rattle.tinkey_readable.specs.EnvelopeRuns.{IsEnveloped, MakeOneType, WasEnveloped}
use Rattle.tinkey_readable.specs.LineRuns.{HasTurn, IsTurnAt, asks, done_reply}
use Rattle.tinkey_readable.specs.LockedRuns.{GivesUnder, IsDoneUnder, WasDoneUnder}
use Rattle.tinkey_readable.specs.Lying.{GivesKeyset, Lies, Lying, sealed_under}
use Rattle.tinkey_readable.specs.RangeRuns.{IsRanged}
use Rattle.tinkey_readable.specs.Runs.{AreLocked, CreatesUnder, DrawsBytes, GoesUnder, HoldsBytes, IsCreated, IsDone, IsUnwrapped, Run, StillOpens, WasDone, Wraps, Written, keyset_of}
use Rattle.tinkey_readable.specs.StreamRuns.{IsOpened, NoOtherBefore, OpensFirst, WasSealed}
use Rattle.tinkey_words.specs.Words.{AskedWork, primitive_for, to_dopen, to_dseal, to_eopen, to_eseal, to_open, to_seal, to_tag, to_verify}

-- The keyset that lies here is within its limit, and its ENABLED records all serve the primitive: such a
-- keyset is accepted by the commands that use it, and any other one is refused.
pub record Serves (primitive : Primitive) (written : Written) (keys : Keys) : Type 0 where
  pub read : keyset_of written ≡ Some keys
  pub within : length written.bytes ≤ keyset_limit
  pub fit : unfit keys primitive standard_table ≡ None

-- Under this master, which can serve as one, the text that lies here gives a keyset whose ENABLED records all
-- serve the primitive, and it is within the limit of such texts.
pub record ServesUnder (primitive : Primitive) (master text : Written) (keys : Keys) : Type 0 where
  pub over : Keys
  pub opens : Serves Aead master over
  pub gives : GivesUnder over text keys
  pub within : length text.bytes ≤ wrapped_limit
  pub fit : unfit keys primitive standard_table ≡ None

-- the keyset of a master that serves as one, where there is a master
abbrev pub ServesAsMaster : Option Written → Option Keys → Type 0
ServesAsMaster None None = Unit {0}
ServesAsMaster (Some written) (Some over) = Serves Aead written over
ServesAsMaster _ _ = ⊥

-- The keyset that lies so, in clear or under a master that serves as one, is taken by each command, as what
-- lies there is within its limit.
pub record IsTaken (lying : Lying) (keys : Keys) : Type 0 where
  pub master : Option Keys
  pub opens : ServesAsMaster lying.master master
  pub gives : GivesKeyset standard_table master lying.text.form lying.text.bytes keys
  pub within : length lying.text.bytes ≤ limit_under master

-- its ENABLED records all give keys for streams
pub record ServesStreams (lying : Lying) (keys : Keys) : Type 0 where
  pub taken : IsTaken lying keys
  pub fit : stream_unfit keys ≡ None

-- they all serve as AEADs, for the data keys of envelopes
pub record ServesEnvelopes (lying : Lying) (keys : Keys) : Type 0 where
  pub taken : IsTaken lying keys
  pub fit : unfit keys Aead standard_table ≡ None

-- What went on under masters serves there, under a master that serves, where the first keyset served: it is
-- that one after the edits that were accepted on the way.
pub record ServesOn (primitive : Primitive) (later text : Written) (old : Keys) : Type 0 where
  pub new : Keys
  pub edited : IsEdited old new
  pub serves : ServesUnder primitive later text new

abbrev pub LocksServe : Primitive → Type 0
LocksServe primitive = (wrap : Run) (locked : List Run) (before later text : Written) (old over : Keys)
    → GoesUnder standard_table wrap locked before later text → DrawsBytes wrap
    → AllByRecursion DrawsBytes locked → HoldsBytes before → keyset_of before ≡ Some old
    → Serves Aead later over → unfit old primitive standard_table ≡ None
    → ServesOn primitive later text old

-- So it is of a keyset that was created under a master, and never lay in clear.
abbrev pub CreatedServe : Primitive → Type 0
CreatedServe primitive = (run : Run) (locked : List Run) (template : List ℕ)
    (master first last later text : Written) (begun over : Keys)
    → CreatesUnder standard_table run template master first → keyset_of master ≡ Some begun
    → AreLocked standard_table locked master first last text → StillOpens last later
    → DrawsBytes run → AllByRecursion DrawsBytes locked → Serves Aead later over
    → (old : Keys) × IsCreated template run.told.random old
    × (unfit old primitive standard_table ≡ None → ServesOn primitive later text old)

-- Both hold of streams too: what went on so serves streams there, where the first keyset did.
pub record ServesStreamsOn (later text : Written) (old : Keys) : Type 0 where
  pub new : Keys
  pub edited : IsEdited old new
  pub serves : ServesStreams (sealed_under later text) new

abbrev pub LocksServeStreams : Type 0
LocksServeStreams = (wrap : Run) (locked : List Run) (before later text : Written) (old over : Keys)
    → GoesUnder standard_table wrap locked before later text → DrawsBytes wrap
    → AllByRecursion DrawsBytes locked → HoldsBytes before → keyset_of before ≡ Some old
    → Serves Aead later over → stream_unfit old ≡ None
    → ServesStreamsOn later text old

abbrev pub CreatedServeStreams : Type 0
CreatedServeStreams = (run : Run) (locked : List Run) (template : List ℕ)
    (master first last later text : Written) (begun over : Keys)
    → CreatesUnder standard_table run template master first → keyset_of master ≡ Some begun
    → AreLocked standard_table locked master first last text → StillOpens last later
    → DrawsBytes run → AllByRecursion DrawsBytes locked → Serves Aead later over
    → (old : Keys) × IsCreated template run.told.random old
    × (stream_unfit old ≡ None → ServesStreamsOn later text old)

-- a turn of a session over the keyset that this text gives under a master, of the lines and random bytes that
-- are told, in whatever form it saves, and whatever the store answers
pub record HasTurnUnder (told : Told) (master text : Written) (t : Turn) : Type 0 where
  pub over : Keys
  pub read : keyset_of master ≡ Some over
  pub keys : Keys
  pub gives : GivesUnder over text keys
  pub form : Form
  pub answers : StoreAnswers
  pub place : ℕ
  pub there : IsTurnAt form answers keys told place t

-- By this work this output was made of this input, by the key of this primary record: by a run of the
-- command that was Done, over a keyset in clear or under a master; by a line of a session, with or without
-- a file for its keyset, and however it ended behind that line; or by a call of the library. The line's input is
-- within the limit of the command, as those of all lines that are answered. So is the call's, which could be
-- longer.
pub data WasMadeBy (work : AskedWork) (input output : List ℕ) (r : Record) : Type 0 where
  by_run : (before : Written) (old : Keys) → keyset_of before ≡ Some old → (told : Told) →
      WasDone work before told output → told.input ≡ input → primary_of old ≡ Some r →
      WasMadeBy work input output r
  by_locked : (master text : Written) (over old : Keys) → keyset_of master ≡ Some over →
      GivesUnder over text old → (told : Told) → WasDoneUnder work master text told output →
      told.input ≡ input → primary_of old ≡ Some r → WasMadeBy work input output r
  by_line : (before : Written) (told : Told) (t : Turn) → HasTurn told before t →
      length input ≤ limit_for work → t.line ≡ asks work input → t.reply ≡ Gives output →
      primary_of t.before ≡ Some r → WasMadeBy work input output r
  by_locked_line : (master text : Written) (told : Told) (t : Turn) → HasTurnUnder told master text t →
      length input ≤ limit_for work → t.line ≡ asks work input → t.reply ≡ Gives output →
      primary_of t.before ≡ Some r → WasMadeBy work input output r
  by_call : WasCalled work input output r → length input ≤ limit_for work →
      WasMadeBy work input output r

-- This work on this input is done with this output over each keyset that serves it, while that has the
-- record's key as it is said here: by a run of the command, in whichever file the keyset lies, in clear or
-- under a master; by each line of a session over any keyset; and by each call of a handle of one.
pub record IsReadAnywhere (While : Record → Keys → Type 0) (work : AskedWork)
    (input output : List ℕ) (r : Record) : Type 0 where
  pub by_run : (written : Written) (keys : Keys) → Serves (primitive_for work) written keys
      → While r keys → IsDone work written input output
  pub by_locked : (master text : Written) (keys : Keys)
      → ServesUnder (primitive_for work) master text keys → While r keys
      → IsDoneUnder work master text input output
  pub by_line : (written : Written) (told : Told) (t : Turn) → HasTurn told written t
      → t.line ≡ asks work input → unfit t.before (primitive_for work) standard_table ≡ None
      → While r t.before → t.reply ≡ done_reply work output
  pub by_locked_line : (master text : Written) (told : Told) (t : Turn) → HasTurnUnder told master text t
      → t.line ≡ asks work input → unfit t.before (primitive_for work) standard_table ≡ None
      → While r t.before → t.reply ≡ done_reply work output
  pub by_call : IsCalled While work input output r

-- the same with some output, while the key is there, ENABLED
pub record IsReadSomehowAnywhere (work : AskedWork) (input : List ℕ) (r : Record) : Type 0 where
  pub by_run : (written : Written) (keys : Keys) → Serves (primitive_for work) written keys
      → HasKey r keys → (other : List ℕ) × IsDone work written input other
  pub by_locked : (master text : Written) (keys : Keys)
      → ServesUnder (primitive_for work) master text keys → HasKey r keys
      → (other : List ℕ) × IsDoneUnder work master text input other
  pub by_line : (written : Written) (told : Told) (t : Turn) → HasTurn told written t
      → t.line ≡ asks work input → unfit t.before (primitive_for work) standard_table ≡ None
      → HasKey r t.before → (other : List ℕ) × (t.reply ≡ done_reply work other)
  pub by_locked_line : (master text : Written) (told : Told) (t : Turn) → HasTurnUnder told master text t
      → t.line ≡ asks work input → unfit t.before (primitive_for work) standard_table ≡ None
      → HasKey r t.before → (other : List ℕ) × (t.reply ≡ done_reply work other)
  pub by_call : (keys : Keys) (ready : ReadyKeyset) → IsHandle (primitive_for work) keys ready
      → HasKey r keys → (other : List ℕ) × CallsGive work ready input other

-- What was sealed under a key with a prefix opens to its plaintext, with its associated data, under each
-- keyset that serves AEADs and in which that key is ENABLED and alone under its prefix.
abbrev pub OpensAnywhere : Type 0
OpensAnywhere = (ad plain sealed prefix : List ℕ) (r : Record) → prefix_of r ≡ Some prefix
    → WasMadeBy (to_seal ad) plain sealed r
    → IsReadAnywhere HasSameKey (to_open ad) sealed plain r

-- the same without an IV
abbrev pub DopensAnywhere : Type 0
DopensAnywhere = (ad plain sealed prefix : List ℕ) (r : Record) → prefix_of r ≡ Some prefix
    → WasMadeBy (to_dseal ad) plain sealed r
    → IsReadAnywhere HasSameKey (to_dopen ad) sealed plain r

-- while the key is there, ENABLED, it opens to some plaintext, whatever the output prefix type
abbrev pub OpensSomehowAnywhere : Type 0
OpensSomehowAnywhere = (ad plain sealed : List ℕ) (r : Record)
    → WasMadeBy (to_seal ad) plain sealed r → IsReadSomehowAnywhere (to_open ad) sealed r

-- the same without an IV
abbrev pub DopensSomehowAnywhere : Type 0
DopensSomehowAnywhere = (ad plain sealed : List ℕ) (r : Record)
    → WasMadeBy (to_dseal ad) plain sealed r → IsReadSomehowAnywhere (to_dopen ad) sealed r

-- a tag verifies, while the key is there, ENABLED, whatever the output prefix type
abbrev pub VerifiesAnywhere : Type 0
VerifiesAnywhere = (tag body : List ℕ) (r : Record)
    → WasMadeBy to_tag body tag r → IsReadAnywhere HasKey (to_verify tag) body [] r

-- What was sealed as a stream opens to its plaintext under each keyset that serves streams and has the key,
-- ENABLED, where no other key before it opens the stream's first segment. Both keysets lie in clear or under
-- masters.
abbrev pub OpensStreamAnywhere : Type 0
OpensStreamAnywhere = (before other : Lying) (old keys : Keys) (r : Record) (ad stream : List ℕ)
    (told : Told) → Lies before old → primary_of old ≡ Some r
    → WasSealed ad before told stream
    → ServesStreams other keys → (has : HasKey r keys) → NoOtherBefore r has.place ad stream keys
    → IsOpened ad other stream told.input

-- of such a stream, ranges are slices of its plaintext
abbrev pub OpensRangeAnywhere : Type 0
OpensRangeAnywhere = (before other : Lying) (old keys : Keys) (r : Record) (ad stream : List ℕ)
    (told : Told) → Lies before old → primary_of old ≡ Some r
    → WasSealed ad before told stream
    → ServesStreams other keys → (has : HasKey r keys) → NoOtherBefore r has.place ad stream keys
    → IsRanged ad other stream told.input

-- while the key is there, ENABLED, the first segment opens, under that key or another one before it
abbrev pub OpensFirstAnywhere : Type 0
OpensFirstAnywhere = (before other : Lying) (old keys : Keys) (r : Record) (ad stream : List ℕ)
    (told : Told) → Lies before old → primary_of old ≡ Some r
    → WasSealed ad before told stream → ServesStreams other keys → HasKey r keys
    → OpensFirst ad other keys stream

-- What was sealed in an envelope under a key with a prefix opens to its plaintext, with its associated data
-- and any template of its data key's type. Both keysets lie in clear or under masters.
abbrev pub OpensEnvelopeAnywhere : Type 0
OpensEnvelopeAnywhere = (before other : Lying) (old keys : Keys) (r : Record)
    (prefix template again ad sealed : List ℕ) (told : Told)
    → Lies before old → primary_of old ≡ Some r → prefix_of r ≡ Some prefix
    → WasEnveloped (to_eseal ad) template before told sealed → MakeOneType template again
    → ServesEnvelopes other keys → HasSameKey r keys
    → IsEnveloped (to_eopen ad) again other sealed told.input

-- What was wrapped under a key with a prefix is unwrapped to the keyset.
abbrev pub UnwrapsAnywhere : Type 0
UnwrapsAnywhere = (master other : Written) (old new : Keys) (r : Record) (prefix : List ℕ)
    → HoldsBytes master → keyset_of master ≡ Some old → primary_of old ≡ Some r
    → prefix_of r ≡ Some prefix
    → (wrap : Run) (before text : Written) (keys : Keys)
    → Wraps standard_table wrap master before text → DrawsBytes wrap
    → HoldsBytes before → keyset_of before ≡ Some keys
    → Serves Aead other new → HasSameKey r new
    → IsUnwrapped other text keys
