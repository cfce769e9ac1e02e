-- The laws of what the program answers, over the definitions alone. Grammar of tinkey_words has
-- those of its words.
use Rattle.std.specs.Prelude.{◌≡◌, ◌⊎◌, List, [], ℕ, ◌+◌, ◌*◌, ◌<◌, ◌≤◌, take, drop, Option, None, Some, Ok, IsSome}
use Rattle.key_msgs.specs.declared.primitive.Primitive.{Primitive}
use Rattle.key_msgs.specs.declared.primitive.Primitive.TheVariants.{Daead, Mac, Prf}
use Rattle.keyset_json.specs.Reading.{reads_json}
use Rattle.keyset_model.specs.Keyset.{Keys, fault_of}
use Rattle.keyset_model.specs.Reading.{reads_binary}
use Rattle.managers.specs.Standard.{standard_table}
use Rattle.managers.specs.Table.{Table}
use Rattle.segment_stream.specs.KeysModel.{KeysForStreams}
use Rattle.segment_stream.specs.StreamKeys.{largest_of, stream_unfit}
use Rattle.seal_wrap.specs.Unwrapped.{unwrap_of}
use Rattle.tink_spec.specs.Files.{Holds, StoreState}
use Rattle.tink_spec.specs.Outside.{Took, TookPrefix}
use Rattle.tinkey_cmds.specs.Edits.{id_of}
use Rattle.tinkey_cmds.specs.declared.command.EditRefusal.TheVariants.{IdsExhausted}
use Rattle.tinkey_session.specs.declared.reply.Refusal.TheVariants.{Command}
use Rattle.tinkey_selftest.specs.Numbers.{random_bytes}
use Rattle.tinkey_selftest.specs.Telling.{counts_text}
use Rattle.tinkey_selftest.specs.Trial.{random_size}
use Rattle.tinkey_selftest.specs.declared.counts.Counts.{Counts}
use Rattle.wrapped_prims.specs.Answers.{primary_key, dseal_answer, tag_answer, derive_answer}
use Rattle.wrapped_prims.specs.Fitness.{unfit}
use Rattle.tinkey_plans.specs.declared.status.Status.{Status}
use Rattle.tinkey_plans.specs.declared.status.Status.TheVariants as status
use Rattle.tinkey_plans.specs.Commands.{command_plan, plan_of}
use Rattle.tinkey_plans.specs.Ends.{World, Ends, GaveWithin}
use Rattle.tinkey_plans.specs.Plan.{Answer, Told, answer}
use Rattle.tinkey_plans.specs.Promises.{IsWhole}
use Rattle.tinkey_plans.specs.Ranging.{range_for}
use Rattle.tinkey_plans.specs.Steps.{keyset_limit}
use Rattle.tinkey_plans.specs.Streaming.{keys_for}
use Rattle.tinkey_plans.specs.FileRange.{GivesAtMost}
use Rattle.tinkey_plans.specs.Wrapping.{is_json, wrapped_limit}
use Rattle.tinkey_words.specs.declared.words.rows.Format.{Format}
use Rattle.tinkey_words.specs.declared.words.rows.Format.TheVariants as formats
use Rattle.tinkey_words.specs.Words.{Asked, AskedEnvelope, AskedRange, Lock, open_range, self_test, session, use_envelope, use_stream, words_of}

-- a keyset without a fault, each record of which can serve for the primitive
pub record IsFit (table : Table) (primitive : Primitive) (keys : Keys) : Type 0 where
  pub faultless : fault_of keys ≡ None
  pub fit : unfit keys primitive table ≡ None

-- its primary key is there, under any table, and so is what it makes of any input
pub record FitKeysetsAnswer : Type 0 where
  pub primary : (table : Table) (primitive : Primitive) (keys : Keys) →
      IsFit table primitive keys → IsSome (primary_key keys table primitive)
  pub dseal : (table : Table) (keys : Keys) (plain ad : List ℕ) →
      IsFit table Daead keys → IsSome (dseal_answer keys table plain ad)
  pub tag : (table : Table) (keys : Keys) (body : List ℕ) →
      IsFit table Mac keys → IsSome (tag_answer keys table body)
  pub derive : (table : Table) (keys : Keys) (input : List ℕ) (size : ℕ) →
      IsFit table Prf keys → IsSome (derive_answer keys table input size)
  -- so are its keys for streams, where each ENABLED record gives one
  pub stream : (keys : Keys) → fault_of keys ≡ None → stream_unfit keys ≡ None
      → IsSome (keys_for keys)

-- a stream is asked for, and no new file for it
abbrev pub IsStream : Asked → Type 0
IsStream (use_stream lock keyset form work ad None) = Unit {0}
IsStream _ = ⊥

-- a session is asked for
abbrev pub IsSession : Asked → Type 0
IsSession (session lock keyset form out saved_only) = Unit {0}
IsSession _ = ⊥

-- every other command writes nothing but at its end
abbrev pub CommandsAreWhole : Type 0
CommandsAreWhole = (table : Table) (asked : Asked) →
    IsWhole (command_plan table asked) ⊎ IsStream asked ⊎ IsSession asked

-- ---- data keys

-- a data key had no manager, or was refused
abbrev pub IsDekStatus : Status → Type 0
IsDekStatus status.NoDekManager = Unit {0}
IsDekStatus (status.DekRefused rule) = Unit {0}
IsDekStatus _ = ⊥

-- Over the standard table no run of eseal, eopen or ereseal ends so, whatever fails.
abbrev pub DataKeysCome : Type 0
DataKeysCome = (words : List (List ℕ)) (lock : Lock) (name : List ℕ) (form : Format)
    (template : List ℕ) (work : AskedEnvelope) (out : Option (List ℕ)) (old : World) (s : Status)
    (new : World) → words_of words ≡ Ok (use_envelope lock name form template work out)
    → Ends (plan_of standard_table words) old s new → IsDekStatus s → ⊥

-- ---- ranges

-- the bytes are this keyset, in this form
abbrev pub IsKeysetIn : Format → List ℕ → Keys → Type 0
IsKeysetIn formats.Json bytes keys = reads_json bytes ≡ Ok keys
IsKeysetIn formats.Binary bytes keys = reads_binary bytes ≡ Ok keys

-- the keyset of a lock lies in its file; without a lock there is none
abbrev pub MasterLiesIn : StoreState → Lock → (master : Option Keys) → Type 0
MasterLiesIn store None None = Unit {0}
MasterLiesIn store (Some lock) (Some master) = (bytes : List ℕ)
    × Holds store lock.file (Some bytes) × IsKeysetIn lock.form bytes master
MasterLiesIn store _ _ = ⊥

-- the bytes are this keyset, in this form, or give it under a master
abbrev pub GivesKeysetIn : Table → (master : Option Keys) → Format → List ℕ → Keys → Type 0
GivesKeysetIn table None form bytes keys = IsKeysetIn form bytes keys
GivesKeysetIn table (Some master) form bytes keys = unwrap_of master table bytes (is_json form) ≡ Ok keys

-- the keys for streams of the keyset in the file of this name, in clear or behind its lock
pub record KeysLieIn (table : Table) (store : StoreState) (lock : Lock) (name : List ℕ) (form : Format)
    (keys : KeysForStreams) : Type 0 where
  pub master : Option Keys
  pub opens : MasterLiesIn store lock master
  pub bytes : List ℕ
  pub holds : Holds store name (Some bytes)
  pub keyset : Keys
  pub gives : GivesKeysetIn table master form bytes keyset
  pub are : keys_for keyset ≡ Some keys

-- how many bytes the greatest keyset has, or behind a lock, the greatest master and the greatest text
abbrev pub limit_behind : Lock → ℕ
limit_behind None = keyset_limit
limit_behind (Some lock) = keyset_limit + wrapped_limit

-- The store has given at most the greatest keyset, with its master if it has one, and what the range takes:
-- two segments of the largest size, and as many as cover it under the key chosen; where it ends behind the
-- plaintext, two alone.
pub record RangeGave (table : Table) (lock : Lock) (name : List ℕ) (form : Format) (ad : List ℕ)
    (range : AskedRange) (old : StoreState) (s : Status) (new : StoreState) : Type 0 where
  pub keys : KeysForStreams
  pub lie : KeysLieIn table old lock name form keys
  pub most : ℕ
  pub least : GivesAtMost old.files (range_for keys ad range) most
  pub past : s ≡ status.PastEnd → most ≤ 2 * largest_of keys.keys
  pub within : GaveWithin old new (limit_behind lock + most)

-- A run of srange reads no more than that, whatever fails; without keys for streams, the keyset and its master
-- alone, and of one that is too long one byte more than its limit.
abbrev pub RangesReadLittle : Type 0
RangesReadLittle = (table : Table) (words : List (List ℕ)) (lock : Lock) (name : List ℕ) (form : Format)
    (ad : List ℕ) (range : AskedRange) (out : Option (List ℕ)) (old : World) (s : Status) (new : World)
    → words_of words ≡ Ok (open_range lock name form ad range out) → Ends (plan_of table words) old s new
    → GaveWithin old.store new.store (limit_behind lock + 1)
    ⊎ RangeGave table lock name form ad range old.store s new.store

-- ---- the self-test

-- The counts of so many lines, as they are put out: each line counts once, and under the program's
-- table no open was refused whose key was there.
pub record TellsLines (table : Table) (lines : ℕ) (output : List ℕ) : Type 0 where
  pub n : Counts
  pub text : output ≡ counts_text lines n
  pub add_up : n.sealed + n.opened + n.refused + n.edited + n.declined ≡ lines
  pub none_lost : table ≡ standard_table → n.lost ≡ 0

-- Among the random bytes of a seed the first 64 groups of four bytes give no id: each is the number 0.
abbrev pub HasNoId : (seed lines : ℕ) → Type 0
HasNoId seed lines = (i : ℕ) → i < 64
    → id_of (take 4 (drop (4 * i) (random_bytes seed (random_size lines)))) ≡ 0

-- the counts are told, or there is no id for the first key
abbrev pub TellsOrRefuses : Table → (seed lines : ℕ) → Answer → Type 0
TellsOrRefuses table seed lines a =
    ((HasNoId seed lines → ⊥) × (a.status ≡ status.Done) × TellsLines table lines a.output)
    ⊎ (HasNoId seed lines × (a.status ≡ status.Refused (Command IdsExhausted)) × (a.output ≡ []))

-- The stated answer of a self-test is Done and tells its counts, but exactly where there is no id.
abbrev pub SelfTestsTell : Type 0
SelfTestsTell = (table : Table) (seed lines : ℕ) (told : Told)
    → TellsOrRefuses table seed lines (answer (command_plan table (self_test seed lines)) told)

-- a run of a self-test told its counts, or the first bytes of them where the sink failed; or there is no
-- id, or memory was wanting
pub data HasTested (table : Table) (seed lines : ℕ) (old : World) (s : Status) (new : World)
    : Type 0 where
  tested : (output : List ℕ) → s ≡ status.Done → TellsLines table lines output →
      Took old.sink new.sink output → HasTested table seed lines old s new
  cut_short : (output : List ℕ) → s ≡ status.WriteFault → TellsLines table lines output →
      TookPrefix old.sink new.sink output → HasTested table seed lines old s new
  refused : HasNoId seed lines → s ≡ status.Refused (Command IdsExhausted) → old ≡ new →
      HasTested table seed lines old s new
  starved : s ≡ status.NoMemory → old ≡ new → HasTested table seed lines old s new

-- So it is of each run, whatever fails.
abbrev pub SelfTestRuns : Type 0
SelfTestRuns = (table : Table) (words : List (List ℕ)) (seed lines : ℕ) (old : World) (s : Status)
    (new : World) → words_of words ≡ Ok (self_test seed lines) → Ends (plan_of table words) old s new
    → HasTested table seed lines old s new
