-- What may be shown to others: a listing of a keyset, and what a run tells on standard error.
use Rattle.std.specs.Prelude.{◌≡◌, List, [], ◌++◌, ℕ, Some}
use Rattle.keyset_model.specs.Keyset.{Keys}
use Rattle.keyset_model.specs.Listing.{info_of}
use Rattle.managers.specs.Table.{Table}
use Rattle.seal_wrap.specs.Info.{without_keys}
use Rattle.tink_spec.specs.Outside.{SinkState, Rose}
use Rattle.tinkey_plans.specs.Commands.{command_plan}
use Rattle.tinkey_plans.specs.Plan.{Told, answer}
use Rattle.tinkey_plans.specs.Status.{Reports}
use Rattle.tinkey_plans.specs.declared.mention.Mention.{Mention}
use Rattle.tinkey_plans.specs.declared.status.Status.{Status}
use Rattle.tinkey_readable.specs.Lying.{LiesBehind}
use Rattle.tinkey_words.specs.Words.{Lock, KeysetFile, list_keyset}

-- Two keysets that differ in key messages and key material types alone, which `without_keys` clears, have
-- one listing.
abbrev pub ListingHidesKeys : Type 0
ListingHidesKeys = (keys other : Keys) → without_keys keys ≡ without_keys other
    → info_of keys ≡ info_of other

-- So list-keyset puts out the same of them, wherever they lie and in whichever form, each in clear or behind
-- its own lock.
abbrev pub ListedAlike : Type 0
ListedAlike = (table : Table) (lock behind : Lock) (in' from : KeysetFile) (told other : Told) (one two : Keys)
    → LiesBehind table lock in' told one → LiesBehind table behind from other two
    → without_keys one ≡ without_keys two
    → ((answer (command_plan table (list_keyset lock in')) told).output
    ≡ (answer (command_plan table (list_keyset behind from)) other).output)

-- the sink, which held these bytes before, took the first of this text, and all of it where no write
-- failed
pub record TookOf (text : List ℕ) (old new : SinkState) (before : List ℕ) : Type 0 where
  pub front : List ℕ
  pub rest : List ℕ
  pub whole : front ++ rest ≡ text
  pub written : new.written ≡ Some (before ++ front)
  pub all : (Rose old.faults new.faults → ⊥) → rest ≡ []

-- There is one text for each status and for what a second line takes from the words, which is the command that they
-- name and what is left of an output. What is reported of a run is of that text: it goes by these alone, whatever keys
-- and plaintexts the run was over.
abbrev pub ReportsGoByStatus : Type 0
ReportsGoByStatus = (mention : Mention) (s : Status) → (text : List ℕ)
    × ((old new : SinkState) (before : List ℕ) → old.written ≡ Some before → Reports mention s old new
    → TookOf text old new before)
