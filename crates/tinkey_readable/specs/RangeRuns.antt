-- Runs of srange over what sseal put out, with runs between them that hand the keyset on.
--
--   IsRanged        ranges of a stream that end within a plaintext are its slices, and others are refused
--   RunsOpenRange   so are those of what was sealed as a stream before runs, after them
use Rattle.std.specs.Prelude.{◌≡◌, ℕ, ◌+◌, ◌<◌, ◌≤◌, List, length, take, drop, Option, Some}
use Rattle.std.specs.FinMap as map
use Rattle.keyset_model.specs.declared.record.Record.{Record}
use Rattle.managers.specs.Standard.{standard_table}
use Rattle.wrapped_prims.specs.Laws.{HasKey}
use Rattle.tinkey_plans.specs.declared.status.Status.TheVariants as status
use Rattle.tinkey_plans.specs.Commands.{command_plan}
use Rattle.tinkey_plans.specs.Plan.{Answer, Told, answer, refused}
use Rattle.tinkey_words.specs.Words.{AskedRange, open_range}
use Rattle.tinkey_readable.specs.Lying.{LiesAs, Lying, clear, lock_in}
use Rattle.tinkey_readable.specs.Runs.{IsFree, LeadOn, Passage, Written, bytes_at}
use Rattle.tinkey_readable.specs.StreamRuns.{NoOtherBefore, WasSealed}

-- the answer of srange by the keys of the keyset that lies in the file of this name, under the master, if
-- there is one, that lies in the file of the lock
abbrev pub srange_answer : (ad : List ℕ) → AskedRange → (out : Option (List ℕ)) → Lying
    → (lock name : List ℕ) → Told → Answer
srange_answer ad range out lying lock name told =
    answer (command_plan standard_table
    (open_range (lock_in lying.master lock) name lying.text.form ad range out)) told

-- the keyset lies in its files, and the stream in that of the range, whichever they are
pub record LieIn (lying : Lying) (stream : List ℕ) (range : AskedRange) (told : Told)
    (lock name : List ℕ) : Type 0 where
  pub keyset : LiesAs lying told lock name
  pub sealed : map.get told.files range.file ≡ Some stream

-- A run of srange over a keyset and such a stream is answered Done, and puts out that slice of the
-- plaintext: where the range ends within it, and the name of a new file is free. One whose range ends
-- behind it is refused, with nothing put out.
pub record IsRanged (ad : List ℕ) (lying : Lying) (stream plain : List ℕ) : Type 0 where
  pub within : (told : Told) (lock name : List ℕ) (range : AskedRange) (out : Option (List ℕ))
      → LieIn lying stream range told lock name → IsFree out told.files
      → range.from + range.size ≤ length plain
      → let a = srange_answer ad range out lying lock name told in
      (a.status ≡ status.Done)
      × (bytes_at out a.files a.output ≡ Some (take range.size (drop range.from plain)))
  pub past : (told : Told) (lock name : List ℕ) (range : AskedRange) (out : Option (List ℕ))
      → LieIn lying stream range told lock name → length plain < range.from + range.size
      → srange_answer ad range out lying lock name told ≡ refused told status.PastEnd

-- Of what was sealed as a stream, ranges are slices of its plaintext, with its associated data, while the
-- key that sealed it is there, ENABLED, and no other key before it opens the stream's first segment.
abbrev pub RunsOpenRange : Type 0
RunsOpenRange = (runs : List Passage) (before after : Written) (r : Record) (ad stream : List ℕ)
    (told : Told) (lead : LeadOn runs before after r) (has : HasKey r lead.new)
    → NoOtherBefore r has.place ad stream lead.new
    → WasSealed ad (clear before) told stream
    → IsRanged ad (clear after) stream told.input
