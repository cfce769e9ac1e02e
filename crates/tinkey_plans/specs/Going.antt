-- Where a plan comes to its end, said of its steps alone: the conditions of each, in order.
--
--   NoneRefuses   no step of a plan refuses, over what is told
--   DoneExactly   that is where the stated answer is Done
use Rattle.std.specs.Prelude.{◌≡◌, ◌↔◌, ℕ, ◌≤◌, List, [], length, take, drop, true, Some, None}
use Rattle.std.specs.FinMap as map
use Rattle.key_msgs.specs.declared.key.KeyKind.{KeyKind}
use Rattle.key_msgs.specs.declared.primitive.Primitive.TheVariants.{Aead}
use Rattle.keyset_model.specs.Keyset.{Keys}
use Rattle.managers.specs.Table.{Table}
use Rattle.managers.specs.Uses.{iv_size}
use Rattle.tinkey_cmds.specs.Draws.{Drawn}
use Rattle.tinkey_session.specs.Saving.{by_files, files_after}
use Rattle.tinkey_session.specs.Talking.{goes}
use Rattle.wrapped_prims.specs.Answers.{Sealed, primary_key, seal_answer}
use Rattle.tinkey_plans.specs.declared.status.Status.TheVariants as status
use Rattle.tinkey_plans.specs.Commands.{command_plan}
use Rattle.tinkey_plans.specs.Laws.{IsFit}
use Rattle.tinkey_plans.specs.FileRange.{range_in}
use Rattle.tinkey_plans.specs.Plan.{Of, Plan, Told, answer, ends, writes, creates, looks, allocates, loads, reads_all, reads_front, ranges, draws, pumps, collects, exchanges}
use Rattle.tinkey_words.specs.Words.{Asked}

-- The end is Done; the name of a new file is free; a file to load is there, within its limit, and one to
-- open a range of is there; the input is within its limit; the random bytes suffice for what is made; a stream isn't refused; and a
-- session comes to the end of its input.
abbrev pub NoneRefuses : Plan → Told → Type 0
NoneRefuses (ends s stated) told = s ≡ status.Done
NoneRefuses (writes output) told = Unit {0}
NoneRefuses (creates name output taken stated) told = map.get told.files name ≡ None
NoneRefuses (looks name taken stated next) told = (map.get told.files name ≡ None) × NoneRefuses next told
NoneRefuses (allocates next) told = NoneRefuses next told
NoneRefuses (loads name limit absent long a l next) told =
    (bytes : List ℕ) × (map.get told.files name ≡ Some bytes) × (length bytes ≤ limit)
    × NoneRefuses (next bytes) told
NoneRefuses (ranges x absent a next) told =
    (bytes : List ℕ) × (map.get told.files x.name ≡ Some bytes)
    × NoneRefuses (next (range_in x bytes)) told
NoneRefuses (reads_all limit long stated next) told =
    (length told.input ≤ limit) × NoneRefuses (next told.input) (record told { input = [] })
NoneRefuses (reads_front size next) told =
    NoneRefuses (next (take size told.input)) (record told { input = drop size told.input })
NoneRefuses (draws kind give next) told =
    (drawn : Drawn (Of kind)) × (give told.random ≡ Some drawn)
    × NoneRefuses (next drawn.answer) (record told { random = drawn.left })
NoneRefuses (pumps part) told = part.refusal told.input true ≡ None
NoneRefuses (collects part next) told =
    (part.refusal told.input true ≡ None)
    × NoneRefuses (next (part.output told.input true)) (record told { input = [] })
NoneRefuses (exchanges exchange next) told =
    let x = exchange (by_files told.files) told.input told.random true in
    (x.stop ≡ goes) × NoneRefuses (next x.keys)
    (record told { input = []; files = files_after told.files x.asked; random = x.random })

-- The stated answer of a command is Done exactly where none of its steps refuses.
abbrev pub DoneExactly : Type 0
DoneExactly = (table : Table) (asked : Asked) (told : Told)
    → ((answer (command_plan table asked) told).status ≡ status.Done)
    ↔ NoneRefuses (command_plan table asked) told

-- A keyset without a fault, each record of which can serve as an AEAD, has a primary key, and seals
-- exactly where the random bytes suffice for its IV.
abbrev pub FitKeysetsSeal : Type 0
FitKeysetsSeal = (table : Table) (keys : Keys) (plain ad random : List ℕ) → IsFit table Aead keys
    → (key : KeyKind) × (primary_key keys table Aead ≡ Some key)
    × ((iv_size key ≤ length random)
    ↔ ((sealed : Sealed) × (seal_answer keys table plain ad random ≡ Some sealed)))
