-- Runs of sseal and sopen, with runs between them that hand the keyset on. What each of them puts out goes to
-- standard output, or into a new file.
--
--   NoOtherBefore           no other key before that one opens the first segment of a stream
--   RunsOpenStream          what was sealed as a stream before runs opens after them
--   RunsOpenStreamPresent   its first segment opens, under that key or another one
use Rattle.std.specs.Prelude.{◌≡◌, ℕ, List, take, true, Option, Some, Ok, slice_get}
use Rattle.std.specs.List.{AllByRecursion, filter_map}
use Rattle.keyset_model.specs.Keyset.{Keys}
use Rattle.keyset_model.specs.declared.record.Record.{Record}
use Rattle.managers.specs.Standard.{standard_table}
use Rattle.segment_stream.specs.Opening.{fits}
use Rattle.segment_stream.specs.Pumping.{opening_under}
use Rattle.segment_stream.specs.Segments.{cipher_of}
use Rattle.segment_stream.specs.StreamKeys.{key_in, stream_key_of, stream_keys}
use Rattle.segment_stream.specs.declared.key.StreamKey.{StreamKey}
use Rattle.wrapped_prims.specs.Laws.{HasKey}
use Rattle.tinkey_plans.specs.declared.status.Status.TheVariants as status
use Rattle.tinkey_plans.specs.Commands.{command_plan}
use Rattle.tinkey_plans.specs.Plan.{Answer, Told, answer}
use Rattle.tinkey_plans.specs.Streaming.{passes_to}
use Rattle.tinkey_words.specs.Words.{seal_stream, open_stream}
use Rattle.tinkey_readable.specs.Lying.{LiesAs, Lying, clear, lock_in}
use Rattle.tinkey_readable.specs.Runs.{IsFree, LeadOn, Passage, Written, bytes_at}

-- the answer of sseal, and that of sopen, by the keys of the keyset that lies in the file of this name, under
-- the master, if there is one, that lies in the file of the lock
abbrev pub sseal_answer : (ad : List ℕ) → (out : Option (List ℕ)) → Lying → (lock name : List ℕ) → Told
    → Answer
sseal_answer ad out lying lock name told =
    answer (command_plan standard_table
    (seal_stream (lock_in lying.master lock) name lying.text.form ad out)) told

abbrev pub sopen_answer : (ad : List ℕ) → (out : Option (List ℕ)) → Lying → (lock name : List ℕ) → Told
    → Answer
sopen_answer ad out lying lock name told =
    answer (command_plan standard_table
    (open_stream (lock_in lying.master lock) name lying.text.form ad out)) told

-- a run of sseal over a keyset was answered Done, and put this stream, to standard output or into a new file
pub record WasSealed (ad : List ℕ) (lying : Lying) (told : Told) (stream : List ℕ) : Type 0 where
  pub lock : List ℕ
  pub name : List ℕ
  pub out : Option (List ℕ)
  pub lies : LiesAs lying told lock name
  pub done : (sseal_answer ad out lying lock name told).status ≡ status.Done
  pub gave : let a = sseal_answer ad out lying lock name told in
      bytes_at out a.files a.output ≡ Some stream

-- a run of sopen over a keyset is answered Done, and puts this output, in whichever files the keyset and its
-- master lie, and wherever the output is asked to be put, where the name of a new file is free
abbrev pub IsOpened : (ad : List ℕ) → Lying → (stream output : List ℕ) → Type 0
IsOpened ad lying stream output = (told : Told) (lock name : List ℕ) (out : Option (List ℕ))
    → LiesAs lying told lock name → told.input ≡ stream → IsFree out told.files
    → let a = sopen_answer ad out lying lock name told in
    (a.status ≡ status.Done) × (bytes_at out a.files a.output ≡ Some output)

-- Among the ENABLED records before this place none gives a key for streams, other than that of this
-- record, under which the first segment of the stream opens. Nothing in a stream tells its key, so the
-- first one that opens its first segment is taken.
abbrev pub NoOtherBefore : (r : Record) (place : ℕ) (ad stream : List ℕ) → Keys → Type 0
NoOtherBefore r place ad stream keys =
    AllByRecursion (λ key. fits (cipher_of ad key) stream ≡ true → stream_key_of r ≡ Ok key)
    (filter_map key_in (take place keys.records))

-- What was sealed as a stream opens to its plaintext, with its associated data, while the key that
-- sealed it is there, ENABLED, and no other key before it opens the stream's first segment.
abbrev pub RunsOpenStream : Type 0
RunsOpenStream = (runs : List Passage) (before after : Written) (r : Record) (ad stream : List ℕ)
    (told : Told) (lead : LeadOn runs before after r) (has : HasKey r lead.new)
    → NoOtherBefore r has.place ad stream lead.new
    → WasSealed ad (clear before) told stream
    → IsOpened ad (clear after) stream told.input

-- The first segment of the stream opens under a key of the keyset, and a run of sopen over it is answered
-- as under that key alone, wherever its output is asked to be put, where the name of a new file is free.
pub record OpensFirst (ad : List ℕ) (lying : Lying) (keys : Keys) (stream : List ℕ) : Type 0
  where
    pub key : StreamKey
    pub place : ℕ
    pub there : slice_get (stream_keys keys) place ≡ Some key
    pub first : fits (cipher_of ad key) stream ≡ true
    pub answers : (told : Told) (lock name : List ℕ) (out : Option (List ℕ)) → LiesAs lying told lock name
        → told.input ≡ stream → IsFree out told.files
        → sopen_answer ad out lying lock name told
        ≡ answer (passes_to out (opening_under (cipher_of ad key))) told

-- While the key that sealed it is there, ENABLED, its first segment opens: under that key, or by chance
-- under another one before it, which may refuse a later segment then.
abbrev pub RunsOpenStreamPresent : Type 0
RunsOpenStreamPresent = (runs : List Passage) (before after : Written) (r : Record)
    (ad stream : List ℕ) (told : Told) (lead : LeadOn runs before after r)
    → HasKey r lead.new
    → WasSealed ad (clear before) told stream
    → OpensFirst ad (clear after) lead.new stream
