-- What the types of a record hold it to, and that edits and sessions keep it.
--
--   IsStored    a record of a keyset that code can hold
--   AreStored   a keyset of such records
use Rattle.std.specs.Prelude.{◌≡◌, ℕ, ◌<◌, List, Some, Ok}
use Rattle.std.specs.List.{AllByRecursion}
use Rattle.key_msgs.specs.Templates.{Row}
use Rattle.keyset_model.specs.Keyset.{Keys}
use Rattle.keyset_model.specs.Writing.{HasWireBounds}
use Rattle.keyset_model.specs.declared.record.Record.{Record}
use Rattle.managers.specs.Table.{Table}
use Rattle.tinkey_cmds.specs.Edits.{Edit, Stepped, first, step}
use Rattle.tinkey_cmds.specs.Laws.{HasTemplate, IsTemplate}
use Rattle.tinkey_session.specs.Lines.{Line}
use Rattle.tinkey_session.specs.Session.{Remains, remains}

-- each is below 256
abbrev pub AreBytes : List ℕ → Type 0
AreBytes bytes = AllByRecursion (λ b. b < 256) bytes

-- what the types of a record hold it to: an id of 32 bits, a URL that is text, at most 2 ^ 32 bytes of
-- URL and value together, and a value of bytes
pub record IsStored (r : Record) : Type 0 where
  pub held : HasWireBounds r
  pub bytes : AreBytes r.value

-- each record of the keyset is held to it
abbrev pub AreStored : Keys → Type 0
AreStored keys = AllByRecursion IsStored keys.records

-- An accepted edit keeps it.
abbrev pub EditsKeepStored : Type 0
EditsKeepStored = (old new : Keys) (edit : Edit) (random : List ℕ) (s : Stepped)
    → HasTemplate edit → AreBytes random → AreStored old
    → step old edit random ≡ Some s → s.answer ≡ Ok new → AreStored new

-- The first keyset of a template has it.
abbrev pub FirstsAreStored : Type 0
FirstsAreStored = (new : Keys) (row : Row) (random : List ℕ) (s : Stepped)
    → IsTemplate row → AreBytes random
    → first row random ≡ Some s → s.answer ≡ Ok new → AreStored new

-- What a session leaves has it, where the keyset before it had.
abbrev pub SessionsKeepStored : Type 0
SessionsKeepStored = (table : Table) (keys : Keys) (lines : List Line) (random : List ℕ)
    (m : Remains) → AreBytes random → AreStored keys
    → remains table keys lines random ≡ Some m → AreStored m.keys
