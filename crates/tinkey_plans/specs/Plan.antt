-- What a command does, step by step in the order of refusals, and the answer that it has where
-- nothing fails.
use Rattle.std.specs.Prelude.{ℕ, ◌+◌, List, [], ◌++◌, length, take, drop, true, Option, Some, None, Result, nat_le, if◌then◌else◌}
use Rattle.std.specs.FinMap as map
use Rattle.tink_spec.specs.Files.{Files}
use Rattle.key_msgs.specs.declared.rule.Rule.{Rule}
use Rattle.keyset_model.specs.Keyset.{Keys}
use Rattle.segment_stream.specs.Opening.{StreamRefusal, too_many, failed}
use Rattle.segment_stream.specs.Pumping.{Part}
use Rattle.tinkey_cmds.specs.Draws.{Draw, Drawn}
use Rattle.tinkey_cmds.specs.declared.command.EditRefusal.{EditRefusal}
use Rattle.tinkey_session.specs.Saving.{StoreAnswers, by_files, files_after}
use Rattle.tinkey_session.specs.Talking.{Exchange, Talk, Stop, goes, wants, passes, Limit, long_line, many_lines}
use Rattle.tinkey_plans.specs.FileRange.{Opened, FileRange, range_in}
use Rattle.tinkey_plans.specs.declared.status.Status.{Status}
use Rattle.tinkey_plans.specs.declared.status.Status.TheVariants as status

-- a status that the words and the bytes settle: no fault, and no want of memory
abbrev pub IsStated : Status → Type 0
IsStated status.ReadFault = ⊥
IsStated status.WriteFault = ⊥
IsStated status.EntropyFault = ⊥
IsStated status.StoreFault = ⊥
IsStated status.NoMemory = ⊥
IsStated _ = Unit {0}

-- what a step makes of random bytes
pub data Made : Type 0 where
  keysets : Made
  sealings : Made
  -- an envelope, or the rule that its data key breaks
  envelopings : Made

-- its type, as it is seen
abbrev pub Of : Made → Type 0
Of keysets = Keys
Of sealings = List ℕ
Of envelopings = Result (List ℕ) Rule

-- memory may be wanting between the fills of random bytes that it takes
abbrev pub IsMadeInParts : Made → Type 0
IsMadeInParts keysets = ⊥
IsMadeInParts sealings = ⊥
IsMadeInParts envelopings = Unit {0}

-- the steps of a command, in the order of refusals
pub data Plan : Type 0 where
  -- this is the answer
  ends : (s : Status) → IsStated s → Plan
  -- these bytes go to the sink, and the answer is Done
  writes : (output : List ℕ) → Plan
  -- these bytes become a file of this name, and the answer is Done; one that is there is answered so
  creates : (name output : List ℕ) (taken : Status) → IsStated taken → Plan
  -- the name of a new file is looked up; one that is taken is answered so
  looks : (name : List ℕ) (taken : Status) → IsStated taken → (next : Plan) → Plan
  -- from here on memory may be wanting
  allocates : (next : Plan) → Plan
  -- a file is loaded; one that is missing, or of more bytes than the limit, is answered so
  loads : (name : List ℕ) (limit : ℕ) (absent long : Status) → IsStated absent → IsStated long →
      (next : List ℕ → Plan) → Plan
  -- the whole source is read; one of more bytes than the limit is answered so
  reads_all : (limit : ℕ) (long : Status) → IsStated long → (next : List ℕ → Plan) → Plan
  -- the first bytes of the source are read, so many, or all of them where there are fewer; no byte behind them
  -- is taken
  reads_front : (size : ℕ) → (next : List ℕ → Plan) → Plan
  -- a range of the stream in a file is opened; it or its refusal goes on, and a file that is missing is
  -- answered so
  ranges : (range : FileRange) (absent : Status) → IsStated absent → (next : Opened → Plan) → Plan
  -- something is made of random bytes, as many as that takes; it or its refusal goes on
  draws : (kind : Made) → (give : Draw (Of kind)) → (next : Result (Of kind) EditRefusal → Plan) → Plan
  -- the source is read and the sink written in turn: what is settled is given out, and what is decided
  -- is the answer
  pumps : (part : Part) → Plan
  -- the source is read in a pass of which nothing is given out before its end: all of its output goes on, and a
  -- stream that is refused is answered so
  collects : (part : Part) → (next : (output : List ℕ) → Plan) → Plan
  -- a session: each line of the source is answered in turn, of random bytes where it takes some, and with a new file
  -- where it saves the keyset; and the last keyset goes on. What it is depends on what the store answers. One that is
  -- past a limit is answered so
  exchanges : (exchange : StoreAnswers → Exchange) → (next : Keys → Plan) → Plan

-- what the outside objects tell
pub record Told : Type 0 where
  pub input : List ℕ
  pub files : Files
  pub random : List ℕ

-- the status, the output, the files after it, and the input and the random bytes that are left. Of the
-- input nothing is said where a stream is refused or a session is past a limit, as that may come
-- before its end.
pub record Answer : Type 0 where
  pub status : Status
  pub input : Option (List ℕ)
  pub output : List ℕ
  pub files : Files
  pub random : List ℕ

-- a refusal, of no further use of what is told
abbrev pub refused : Told → Status → Answer
refused told s = record {
  status = s;
  input = Some told.input;
  output = [];
  files = told.files;
  random = told.random;
}

-- the status of a stream that is refused
abbrev pub stream_status : StreamRefusal → Status
stream_status too_many = status.TooManySegments
stream_status (failed number) = status.StreamFailed number

-- the answer of a pass over the whole input
abbrev pub pump_answer : Part → Told → Option StreamRefusal → Answer
pump_answer part told None = record (refused told status.Done) {
  input = Some [];
  output = part.output told.input true;
}
pump_answer part told (Some refusal) = record (refused told (stream_status refusal)) {
  input = None;
  output = part.output told.input true;
}

-- the answer after a pass of which nothing is given out before its end
abbrev pub collect_answer : Option StreamRefusal → Told → Answer → Answer
collect_answer None told next = next
collect_answer (Some refusal) told next = record (refused told (stream_status refusal)) { input = None }

-- the status of a session that is past a limit
abbrev pub limit_status : Limit → Status
limit_status long_line = status.LineTooLong
limit_status many_lines = status.TooManyLines

-- The answer of a session over the whole input, and of what comes after it, with the files that it made. Where the
-- random bytes don't suffice, the entropy can but fail.
abbrev pub talk_answer : Stop → Talk → Told → (next : Answer) → Answer
talk_answer goes x told next = record next { output = x.output ++ next.output }
talk_answer wants x told next = record (refused told status.EntropyFault) {
  input = None;
  output = x.output;
  random = x.random;
}
talk_answer (passes limit) x told next = record (refused told (limit_status limit)) {
  input = None;
  output = x.output;
  random = x.random;
}

-- the answer after a load
abbrev pub load_answer : Option (List ℕ) → ℕ → Answer → Answer → (List ℕ → Answer) → Answer
load_answer None limit absent long next = absent
load_answer (Some bytes) limit absent long next =
    if nat_le (length bytes) limit then next bytes else long

-- the answer after a range was opened
abbrev pub range_answer : Option (List ℕ) → FileRange → Answer → (Opened → Answer) → Answer
range_answer None range absent next = absent
range_answer (Some bytes) range absent next = next (range_in range bytes)

-- the answer of a new file of this name, where that is free
abbrev pub create_answer : Option (List ℕ) → Told → (name output : List ℕ) → Answer → Answer
create_answer (Some there) told name output taken = taken
create_answer None told name output taken = record (refused told status.Done) {
  files = map.insert told.files name output;
}

-- the answer where this name has to be free
abbrev pub look_answer : Option (List ℕ) → Answer → Answer → Answer
look_answer None taken next = next
look_answer (Some there) taken next = taken

-- the answer after random bytes were drawn; where they don't suffice, the entropy can but fail
abbrev pub draw_answer : {A : Type 0} → Option (Drawn A) → Answer → (Drawn A → Answer) → Answer
draw_answer None short next = short
draw_answer (Some drawn) short next = next drawn

-- the stated answer over what is told
abbrev pub answer : Plan → Told → Answer
answer (ends s stated) told = refused told s
answer (writes output) told = record (refused told status.Done) { output = output }
answer (creates name output taken stated) told =
    create_answer (map.get told.files name) told name output (refused told taken)
answer (looks name taken stated next) told =
    look_answer (map.get told.files name) (refused told taken) (answer next told)
answer (allocates next) told = answer next told
answer (loads name limit absent long a l next) told =
    load_answer (map.get told.files name) limit (refused told absent) (refused told long)
    (λ bytes. answer (next bytes) told)
answer (reads_all limit long stated next) told =
    if nat_le (length told.input) limit then answer (next told.input) (record told { input = [] })
    else record (refused told long) { input = Some (drop (limit + 1) told.input) }
answer (reads_front size next) told =
    answer (next (take size told.input)) (record told { input = drop size told.input })
answer (ranges range absent a next) told =
    range_answer (map.get told.files range.name) range (refused told absent)
    (λ opened. answer (next opened) told)
answer (draws kind give next) told =
    draw_answer (give told.random) (refused told status.EntropyFault)
    (λ drawn. answer (next drawn.answer) (record told { random = drawn.left }))
answer (pumps part) told = pump_answer part told (part.refusal told.input true)
answer (collects part next) told =
    collect_answer (part.refusal told.input true) told
    (answer (next (part.output told.input true)) (record told { input = [] }))
answer (exchanges exchange next) told =
    let x = exchange (by_files told.files) told.input told.random true in
    let saved = record told { files = files_after told.files x.asked } in
    talk_answer x.stop x saved (answer (next x.keys) (record saved { input = []; random = x.random }))
