-- Where a command is answered Done, in the words of what it asks, with a lock or without.
--
--   EditsDone   where an edit is Done, and where the first, another form or master, or the listing of a
--               keyset is
--   WorksDone   where work by keys on a whole input is
--   StreamsDone where a stream is sealed, and where one is opened
--   RangesDone, SessionsDone, EnvelopesDone   where those are
--   KeyOfDone   where key-of finds a key under which the input stands
use Rattle.std.specs.Prelude.{◌≡◌, ◌↔◌, ◌⊎◌, ℕ, ◌+◌, ◌≤◌, Bool, true, List, ◌++◌, length, take, Option, Some, None, Ok}
use Rattle.std.specs.FinMap as map
use Rattle.std.specs.List.{Contains}
use Rattle.key_msgs.specs.Templates.{Row, row_named}
use Rattle.key_msgs.specs.declared.key.KeyKind.{KeyKind}
use Rattle.key_msgs.specs.declared.primitive.Primitive.TheVariants.{Aead}
use Rattle.keyset_model.specs.Keyset.{Keys}
use Rattle.keyset_model.specs.declared.record.Record.{Record}
use Rattle.managers.specs.Schemes.{Scheme}
use Rattle.managers.specs.Table.{Table, scheme_at}
use Rattle.managers.specs.Uses.{iv_size}
use Rattle.envelopes.specs.Enveloped.{envelope_of, open_envelope_of, reseal_envelope_of}
use Rattle.envelopes.specs.Enveloping.{IsAead, url_made}
use Rattle.segment_stream.specs.Opening.{decides, fits, released}
use Rattle.segment_stream.specs.Range.{range_of}
use Rattle.segment_stream.specs.Sealing.{seal_decides}
use Rattle.segment_stream.specs.Segments.{cipher_of, ciphers_of}
use Rattle.segment_stream.specs.StreamKeys.{stream_keys, stream_unfit}
use Rattle.segment_stream.specs.StreamKeys as streams
use Rattle.segment_stream.specs.declared.key.StreamKey.{StreamKey}
use Rattle.tinkey_session.specs.Saving.{files_after}
use Rattle.tinkey_session.specs.Talking.{goes}
use Rattle.wrapped_prims.specs.Answers.{Sealed, derive_answer, dopen_answer, open_answer, primary_key, verify_answer}
use Rattle.wrapped_prims.specs.Candidates.{is_raw, prefix_of}
use Rattle.wrapped_prims.specs.Fitness.{unfit}
use Rattle.tinkey_plans.specs.declared.status.Status.TheVariants as status
use Rattle.tinkey_plans.specs.Commands.{command_plan}
use Rattle.tinkey_plans.specs.Envelopes.{envelope_limit}
use Rattle.tinkey_plans.specs.Plan.{Told, answer}
use Rattle.tinkey_plans.specs.Using.{limit_for}
use Rattle.tinkey_words.specs.declared.words.rows.Format.{Format}
use Rattle.tinkey_words.specs.declared.words.rows.SealedForm.{SealedForm}
use Rattle.tinkey_words.specs.declared.words.rows.SealedForm.TheVariants as forms
use Rattle.tinkey_words.specs.Words.{AskedEdit, AskedEnvelope, AskedRange, AskedWork, Lock, NewLock, Output, KeysetFile, convert_keyset, create_keyset, edit_keyset, key_of, list_keyset, open_range, open_stream, reseal_stream, seal_stream, session, to_eopen, to_ereseal, to_eseal, use_envelope, use_keyset, to_seal, to_open, to_dseal, to_dopen, to_reseal, to_dreseal, to_tag, to_verify, to_derive, primitive_for}
use Rattle.tinkey_readable.specs.Lying.{FitsThere, LiesBehind, LiesThere, OpensLock, OpensNewLock}
use Rattle.tinkey_readable.specs.Runs.{IsCreated, IsEdit, IsFree, told_session}

-- ---- edits

-- The lock opens, and a keyset lies there; the edit that is asked for is accepted, of a template of the table
-- where it has one, with random bytes that suffice; and the keyset that it makes fits there, with a name that
-- is free. What it draws comes before the IV under which that keyset is sealed.
pub record EditGoes (table : Table) (lock : Lock) (asked : AskedEdit) (in' out : KeysetFile) (told : Told)
    : Type 0 where
  pub master : Option Keys
  pub opens : OpensLock table lock told master
  pub old : Keys
  pub lies : LiesThere table master in' told old
  pub new : Keys
  pub accepted : IsEdit asked told.random old new
  pub fits : FitsThere table master out.form new accepted.stepped.left
  pub free : IsFree out.file told.files

-- The template is of the table, and the lock opens; the random bytes suffice for an id and a key; and the
-- keyset fits there, with a name that is free.
pub record CreateGoes (table : Table) (lock : Lock) (template : List ℕ) (out : KeysetFile) (told : Told)
    : Type 0 where
  pub master : Option Keys
  pub opens : OpensLock table lock told master
  pub new : Keys
  pub created : IsCreated template told.random new
  pub fits : FitsThere table master out.form new created.stepped.left
  pub free : IsFree out.file told.files

-- Both locks open, and a keyset lies there; in the form and under the master that are asked for it fits, with
-- a name that is free.
pub record ConvertGoes (table : Table) (lock : Lock) (new : NewLock) (in' out : KeysetFile) (told : Told)
    : Type 0 where
  pub taken : Option Keys
  pub opens : OpensLock table lock told taken
  pub put : Option Keys
  pub opens_new : OpensNewLock table new taken told put
  pub keys : Keys
  pub lies : LiesThere table taken in' told keys
  pub fits : FitsThere table put out.form keys told.random
  pub free : IsFree out.file told.files

-- A keyset is edited, created, converted and listed exactly where that is so. One is wrapped, and unwrapped,
-- where it is converted so.
pub record EditsDone : Type 0 where
  pub edited : (table : Table) (lock : Lock) (asked : AskedEdit) (in' out : KeysetFile) (told : Told)
      → ((answer (command_plan table (edit_keyset lock asked in' out)) told).status ≡ status.Done)
      ↔ EditGoes table lock asked in' out told
  pub created : (table : Table) (lock : Lock) (template : List ℕ) (out : KeysetFile) (told : Told)
      → ((answer (command_plan table (create_keyset lock template out)) told).status ≡ status.Done)
      ↔ CreateGoes table lock template out told
  pub converted : (table : Table) (lock : Lock) (new : NewLock) (in' out : KeysetFile) (told : Told)
      → ((answer (command_plan table (convert_keyset lock new in' out)) told).status ≡ status.Done)
      ↔ ConvertGoes table lock new in' out told
  pub listed : (table : Table) (lock : Lock) (in' : KeysetFile) (told : Told)
      → ((answer (command_plan table (list_keyset lock in')) told).status ≡ status.Done)
      ↔ ((keys : Keys) × LiesBehind table lock in' told keys)

-- ---- whole inputs

-- the random bytes suffice for an IV for the primary key
abbrev pub HasIv : Table → Keys → (random : List ℕ) → Type 0
HasIv table keys random = (key : KeyKind)
    × (primary_key keys table Aead ≡ Some key) × (iv_size key ≤ length random)

-- what the work wants of the keys, the input and the random bytes: an IV for the primary key; a candidate
-- that opens, or whose tag it is; at most as many bytes as can be derived
abbrev pub WorkGoes : Table → Keys → AskedWork → (input random : List ℕ) → Type 0
WorkGoes table keys (to_seal ad) input random = HasIv table keys random
WorkGoes table keys (to_open ad) input random =
    (plain : List ℕ) × (open_answer keys table input ad ≡ Some plain)
WorkGoes table keys (to_dseal ad) input random = Unit {0}
WorkGoes table keys (to_dopen ad) input random =
    (plain : List ℕ) × (dopen_answer keys table input ad ≡ Some plain)
WorkGoes table keys (to_reseal ad) input random =
    ((plain : List ℕ) × (open_answer keys table input ad ≡ Some plain)) × HasIv table keys random
WorkGoes table keys (to_dreseal ad) input random =
    (plain : List ℕ) × (dopen_answer keys table input ad ≡ Some plain)
WorkGoes table keys to_tag input random = Unit {0}
WorkGoes table keys (to_verify tag) input random = verify_answer keys table tag input ≡ true
WorkGoes table keys (to_derive size) input random =
    (bytes : List ℕ) × (derive_answer keys table input size ≡ Some (Ok bytes))

-- A keyset lies in the file of this name, behind its lock, whose ENABLED records can all serve for the work; the
-- input is within the limit of the work, which goes; and the name of a new file is free.
pub record WorkIsDone (table : Table) (lock : Lock) (name : List ℕ) (form : Format) (work : AskedWork)
    (out : Output) (told : Told) : Type 0 where
  pub keys : Keys
  pub lies : LiesBehind table lock (record { file = Some name; form = form }) told keys
  pub fit : unfit keys (primitive_for work) table ≡ None
  pub short : length told.input ≤ limit_for work
  pub goes : WorkGoes table keys work told.input told.random
  pub free : IsFree out.file told.files

-- work on a whole input is answered Done exactly where that is so
abbrev pub WorksDone : Type 0
WorksDone = (table : Table) (lock : Lock) (name : List ℕ) (form : Format) (work : AskedWork)
    (out : Output) (told : Told)
    → ((answer (command_plan table (use_keyset lock name form work out)) told).status ≡ status.Done)
    ↔ WorkIsDone table lock name form work out told

-- ---- streams

-- A keyset lies in the file of this name, behind its lock, each ENABLED record of which gives a key for
-- streams; the random bytes suffice for salt and nonce prefix of the primary one; the input is no more than 2^32
-- segments; and the name of a new file is free.
pub record StreamSeals (table : Table) (lock : Lock) (name : List ℕ) (form : Format) (ad : List ℕ)
    (out : Option (List ℕ)) (told : Told) : Type 0 where
  pub keys : Keys
  pub lies : LiesBehind table lock (record { file = Some name; form = form }) told keys
  pub fit : stream_unfit keys ≡ None
  pub primary : StreamKey
  pub there : streams.primary_key keys ≡ Some primary
  pub enough : primary.derived + 7 ≤ length told.random
  pub few : seal_decides (cipher_of ad primary) (take (primary.derived + 7) told.random) told.input
      ≡ None
  pub free : IsFree out told.files

-- The same of the keyset and of the name; and under the first of its keys that opens the first segment, each
-- segment opens in its place, the final one as the last.
pub record StreamOpens (table : Table) (lock : Lock) (name : List ℕ) (form : Format) (ad : List ℕ)
    (out : Option (List ℕ)) (told : Told) : Type 0 where
  pub keys : Keys
  pub lies : LiesBehind table lock (record { file = Some name; form = form }) told keys
  pub fit : stream_unfit keys ≡ None
  pub primary : StreamKey
  pub there : streams.primary_key keys ≡ Some primary
  pub opens : decides (ciphers_of ad (stream_keys keys)) told.input true ≡ None
  pub free : IsFree out told.files

-- Both of that: each segment opens in its place, and of what it opens to the primary key seals no more than
-- 2^32 segments.
pub record StreamReseals (table : Table) (lock : Lock) (name : List ℕ) (form : Format) (ad : List ℕ)
    (out : Option (List ℕ)) (told : Told) : Type 0 where
  pub keys : Keys
  pub lies : LiesBehind table lock (record { file = Some name; form = form }) told keys
  pub fit : stream_unfit keys ≡ None
  pub primary : StreamKey
  pub there : streams.primary_key keys ≡ Some primary
  pub enough : primary.derived + 7 ≤ length told.random
  pub opens : decides (ciphers_of ad (stream_keys keys)) told.input true ≡ None
  pub few : seal_decides (cipher_of ad primary) (take (primary.derived + 7) told.random)
      (released (ciphers_of ad (stream_keys keys)) told.input true) ≡ None
  pub free : IsFree out told.files

-- a stream is sealed, opened, and resealed, to its end exactly where that is so
pub record StreamsDone : Type 0 where
  pub sealed : (table : Table) (lock : Lock) (name : List ℕ) (form : Format) (ad : List ℕ)
      (out : Option (List ℕ)) (told : Told)
      → ((answer (command_plan table (seal_stream lock name form ad out)) told).status ≡ status.Done)
      ↔ StreamSeals table lock name form ad out told
  pub opened : (table : Table) (lock : Lock) (name : List ℕ) (form : Format) (ad : List ℕ)
      (out : Option (List ℕ)) (told : Told)
      → ((answer (command_plan table (open_stream lock name form ad out)) told).status ≡ status.Done)
      ↔ StreamOpens table lock name form ad out told
  pub resealed : (table : Table) (lock : Lock) (name : List ℕ) (form : Format) (ad : List ℕ)
      (out : Option (List ℕ)) (told : Told)
      → ((answer (command_plan table (reseal_stream lock name form ad out)) told).status ≡ status.Done)
      ↔ StreamReseals table lock name form ad out told

-- ---- ranges

-- Such a keyset lies in its file, and a stream in its own; of that the first of the keys that opens the first
-- segment opens the final one and those that cover the range, which ends within the plaintext; and the name
-- of a new file is free.
pub record RangeOpens (table : Table) (lock : Lock) (name : List ℕ) (form : Format) (ad : List ℕ)
    (range : AskedRange) (out : Option (List ℕ)) (told : Told) : Type 0 where
  pub keys : Keys
  pub lies : LiesBehind table lock (record { file = Some name; form = form }) told keys
  pub fit : stream_unfit keys ≡ None
  pub primary : StreamKey
  pub there : streams.primary_key keys ≡ Some primary
  pub stream : List ℕ
  pub holds : map.get told.files range.file ≡ Some stream
  pub plain : List ℕ
  pub opens : range_of (ciphers_of ad (stream_keys keys)) stream range.from (range.from + range.size)
      ≡ Ok plain
  pub free : IsFree out told.files

-- a range is opened exactly where that is so
abbrev pub RangesDone : Type 0
RangesDone = (table : Table) (lock : Lock) (name : List ℕ) (form : Format) (ad : List ℕ)
    (range : AskedRange) (out : Option (List ℕ)) (told : Told)
    → ((answer (command_plan table (open_range lock name form ad range out)) told).status ≡ status.Done)
    ↔ RangeOpens table lock name form ad range out told

-- ---- sessions

-- the last keyset, where it is to be saved, fits there
abbrev pub IsSavedWithin : Table → (master : Option Keys) → Option (List ℕ) → Format → Keys
    → (random : List ℕ) → Type 0
IsSavedWithin table master None form keys random = Unit {0}
IsSavedWithin table master (Some name) form keys random = FitsThere table master form keys random

-- The lock opens, and a keyset lies in the file of this name; the name of a new file is free, and no line has
-- saved the keyset under it; the lines and their number are within their limits and the random bytes suffice for
-- them, so that the session goes on to the end of its input; and the last keyset can be saved, of the random
-- bytes that are left.
pub record SessionGoes (table : Table) (lock : Lock) (name : List ℕ) (form : Format) (out : KeysetFile)
    (saved_only : Bool) (told : Told) : Type 0 where
  pub master : Option Keys
  pub opens : OpensLock table lock told master
  pub keys : Keys
  pub lies : LiesThere table master (record { file = Some name; form = form }) told keys
  pub goes_on : (told_session table master out.form saved_only keys told).stop ≡ goes
  pub free : IsFree out.file (files_after told.files (told_session table master out.form saved_only keys told).asked)
  pub saved : let x = told_session table master out.form saved_only keys told in
      IsSavedWithin table master out.file out.form x.keys x.random

-- a session is answered Done exactly where that is so
abbrev pub SessionsDone : Type 0
SessionsDone = (table : Table) (lock : Lock) (name : List ℕ) (form : Format) (out : KeysetFile)
    (saved_only : Bool) (told : Told)
    → ((answer (command_plan table (session lock name form out saved_only)) told).status ≡ status.Done)
    ↔ SessionGoes table lock name form out saved_only told

-- ---- envelopes

-- what the work wants of the keys, the input and the random bytes: an envelope of them, for which they
-- suffice and whose data key breaks no rule; one that opens; or one whose data key opens and is sealed anew,
-- for which they suffice
abbrev pub EnvelopeGoes : Table → Keys → Scheme → Row → AskedEnvelope → (input random : List ℕ) → Type 0
EnvelopeGoes table keys scheme row (to_eseal ad) input random = (bytes left : List ℕ)
    × (envelope_of keys table scheme row input ad random
    ≡ Some (record { answer = Ok bytes; left = left }))
EnvelopeGoes table keys scheme row (to_eopen ad) input random =
    (plain : List ℕ) × (open_envelope_of keys table scheme input ad ≡ Some plain)
EnvelopeGoes table keys scheme row to_ereseal input random =
    (resealed : Sealed) × (reseal_envelope_of keys table scheme input random ≡ Some resealed)

-- The template is of the table and makes keys of AEADs, for which there is a manager; a keyset lies in the
-- file of this name, behind its lock, whose ENABLED records can all serve as AEADs; the input is within the
-- limit of the work, which goes; and the name of a new file is free.
pub record EnvelopeIsDone (table : Table) (lock : Lock) (name : List ℕ) (form : Format)
    (template : List ℕ) (work : AskedEnvelope) (out : Option (List ℕ)) (told : Told) : Type 0 where
  pub row : Row
  pub named : row_named template ≡ Some row
  pub aead : IsAead row
  pub scheme : Scheme
  pub served : scheme_at table Aead (url_made row) ≡ Some scheme
  pub keys : Keys
  pub lies : LiesBehind table lock (record { file = Some name; form = form }) told keys
  pub fit : unfit keys Aead table ≡ None
  pub short : length told.input ≤ envelope_limit work
  pub goes : EnvelopeGoes table keys scheme row work told.input told.random
  pub free : IsFree out told.files

-- an envelope is sealed, opened or resealed exactly where that is so
abbrev pub EnvelopesDone : Type 0
EnvelopesDone = (table : Table) (lock : Lock) (name : List ℕ) (form : Format) (template : List ℕ)
    (work : AskedEnvelope) (out : Option (List ℕ)) (told : Told)
    → ((answer (command_plan table (use_envelope lock name form template work out)) told).status
    ≡ status.Done) ↔ EnvelopeIsDone table lock name form template work out told

-- ---- the keys under which some bytes stand

-- this output prefix stands in these bytes, behind so many others
pub record StandsBehind (skipped : ℕ) (prefix bytes : List ℕ) : Type 0 where
  pub first : List ℕ
  pub size : length first ≡ skipped
  pub rest : List ℕ
  pub are : bytes ≡ first ++ prefix ++ rest

-- A record of the keyset, whatever its status, may have made these bytes: its output prefix stands in them, behind
-- so many others; or it is RAW, and so has no prefix.
pub record OneMayHaveMade (skipped : ℕ) (keys : Keys) (bytes : List ℕ) : Type 0 where
  pub r : Record
  pub among : Contains keys.records r
  pub stands : ((prefix : List ℕ) × (prefix_of r ≡ Some prefix) × StandsBehind skipped prefix bytes)
      ⊎ (is_raw r ≡ true)

-- each ENABLED record gives a key for streams, and under one of these keys the first segment opens
pub record OneOpensFirst (keys : Keys) (ad bytes : List ℕ) : Type 0 where
  pub fit : stream_unfit keys ≡ None
  pub key : StreamKey
  pub among : Contains (stream_keys keys) key
  pub opens : fits (cipher_of ad key) bytes ≡ true

-- what the input wants of the keys: a text and a tag begin with a prefix, and an envelope with the four bytes of a
-- length and then a prefix; the first segment of a stream opens
abbrev pub KeyOfGoes : SealedForm → (ad : List ℕ) → Keys → (input : List ℕ) → Type 0
KeyOfGoes forms.Text ad keys input = OneMayHaveMade 0 keys input
KeyOfGoes forms.Envelope ad keys input = OneMayHaveMade 4 keys input
KeyOfGoes forms.Stream ad keys input = OneOpensFirst keys ad input

-- A keyset lies in the file of this name, behind its lock, and the input stands under one of its keys.
pub record KeyOfIsDone (table : Table) (lock : Lock) (name : List ℕ) (form : Format) (kind : SealedForm)
    (ad : List ℕ) (told : Told) : Type 0 where
  pub keys : Keys
  pub lies : LiesBehind table lock (record { file = Some name; form = form }) told keys
  pub goes : KeyOfGoes kind ad keys told.input

-- key-of is answered Done exactly where that is so
abbrev pub KeyOfDone : Type 0
KeyOfDone = (table : Table) (lock : Lock) (name : List ℕ) (form : Format) (kind : SealedForm) (ad : List ℕ)
    (told : Told)
    → ((answer (command_plan table (key_of lock name form kind ad)) told).status ≡ status.Done)
    ↔ KeyOfIsDone table lock name form kind ad told
