-- The laws of self-tests, over the definitions alone.
use Rattle.std.specs.Prelude.{◌≡◌, ◌↔◌, ℕ, ◌+◌, ◌<◌, true, Some, Ok}
use Rattle.keyset_model.specs.Keyset.{Keys}
use Rattle.keyset_model.specs.declared.record.Record.{Record}
use Rattle.managers.specs.Standard.{standard_table}
use Rattle.managers.specs.Table.{Table}
use Rattle.tinkey_cmds.specs.Edits.{Stepped, first}
use Rattle.tinkey_selftest.specs.Numbers.{random_bytes, words_of}
use Rattle.tinkey_selftest.specs.Trial.{after_lines, first_row, has_key, line_of_task, random_size, self_test, start, task_of}
use Rattle.tinkey_selftest.specs.declared.counts.Counts.{Counts}
use Rattle.tinkey_session.specs.Serving.{Served, serve}
use Rattle.wrapped_prims.specs.Laws.{HasKey}

-- each line counts once
abbrev pub CountsAddUp : Type 0
CountsAddUp = (table : Table) (seed lines : ℕ) (n : Counts)
    → self_test table seed lines ≡ Ok n
    → n.sealed + n.opened + n.refused + n.edited + n.declined ≡ lines

-- under the standard managers no open is refused whose key is there
abbrev pub NothingIsLost : Type 0
NothingIsLost = (seed lines : ℕ) (n : Counts) → self_test standard_table seed lines ≡ Ok n
    → n.lost ≡ 0

-- the random bytes suffice for the first keyset, and for each line
abbrev pub EntropySuffices : Type 0
EntropySuffices = (table : Table) (seed lines : ℕ) →
    (s : Stepped) × (first first_row (random_bytes seed (random_size lines)) ≡ Some s)
    × ((keys : Keys) (k : ℕ) → s.answer ≡ Ok keys → k < lines →
    let trial = after_lines table seed (start keys s.left) k in
    (x : Served)
    × (serve table trial.keys (line_of_task (task_of (words_of seed k) trial)) trial.left ≡ Some x))

-- the test is what the laws of keysets say of a key that is still there
abbrev pub KeysAreFound : Type 0
KeysAreFound = (r : Record) (keys : Keys) → (has_key r keys ≡ true) ↔ HasKey r keys
