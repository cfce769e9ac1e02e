-- A range of a sealed stream in a file, as a step of plans. What the range is is said apart from plans, in
-- Range of segment_stream.
use Rattle.std.specs.Prelude.{ℕ, ◌+◌, List, Result, Ok, Err}
use Rattle.std.specs.Global.{Vec}
use Rattle.managers.specs.Table.{Table}
use Rattle.segment_stream.specs.KeysModel.{KeysForStreams}
use Rattle.segment_stream.specs.Range.{stream_failed, past_end}
use Rattle.segment_stream.specs.Segments.{ciphers_of}
use Rattle.segment_stream.specs.StreamKeys.{largest_of}
use Rattle.stream_range.specs.declared.range.RangeFault.{RangeFault}
use Rattle.stream_range.specs.declared.range.RangeFault.TheVariants as faults
use Rattle.tinkey_plans.specs.declared.status.Status.{Status}
use Rattle.tinkey_plans.specs.declared.status.Status.TheVariants as status
use Rattle.tinkey_plans.specs.Plan.{Plan, ends, allocates, ranges}
use Rattle.tinkey_plans.specs.Streaming.{loads_stream_keys}
use Rattle.tinkey_plans.specs.FileRange.{Opened, FileRange}
use Rattle.tinkey_words.specs.declared.words.rows.Format.{Format}
use Rattle.tinkey_words.specs.Words.{AskedRange, Lock}

-- the plaintext goes on, or its refusal is the answer
abbrev pub with_range : Opened → (List ℕ → Plan) → Plan
with_range (Ok plain) next = next plain
with_range (Err (stream_failed number)) next = ends (status.StreamFailed number) tt
with_range (Err past_end) next = ends status.PastEnd tt

-- the status of a range that isn't opened, and of want of memory
abbrev pub range_status : RangeFault → Status
range_status (faults.StreamFailed number) = status.StreamFailed number
range_status faults.PastEnd = status.PastEnd
range_status faults.ReadFault = status.StoreFault
range_status faults.NoMemory = status.NoMemory

-- a range that was opened, or the status of one that wasn't
abbrev pub opened_or : Result (Vec ℕ) RangeFault → Result (List ℕ) Status
opened_or (Ok plain) = Ok plain.items
opened_or (Err fault) = Err (range_status fault)

-- the range that is asked for, under these keys
abbrev pub range_for : KeysForStreams → (ad : List ℕ) → AskedRange → FileRange
range_for keys ad range = record {
  name = range.file;
  keys = ciphers_of ad keys.keys;
  largest = largest_of keys.keys;
  from = range.from;
  to = range.from + range.size;
}

-- it is opened
abbrev pub opens_file_range : KeysForStreams → (ad : List ℕ) → AskedRange → (List ℕ → Plan) → Plan
opens_file_range keys ad range next =
    allocates (ranges (range_for keys ad range) status.StreamMissing tt
    (λ opened. with_range opened next))

-- srange: a range of a stream in a file, by the keys of the keyset in another one
abbrev pub range_output : Table → Lock → List ℕ → Format → (ad : List ℕ) → AskedRange
    → (List ℕ → Plan) → Plan
range_output table lock name form ad range next =
    loads_stream_keys table lock name form (λ keys. opens_file_range keys ad range next)
