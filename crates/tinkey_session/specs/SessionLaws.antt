-- The laws of sessions: what stays readable from turn to turn, and how turns, lines and edits hang
-- together.
--
--   HasTurns    two turns of one session
use Rattle.std.specs.Prelude.{◌≡◌, ℕ, ◌<◌, List, ◌∷◌, ◌++◌, true, Some, slice_get, not, ◌==◌}
use Rattle.std.specs.List.{list_all}
use Rattle.keyset_model.specs.Keyset.{Keys, primary_of}
use Rattle.keyset_model.specs.declared.record.Record.{Record}
use Rattle.managers.specs.Standard.{standard_table}
use Rattle.managers.specs.Table.{Table}
use Rattle.tinkey_session.specs.Laws.{IsEdited}
use Rattle.tinkey_session.specs.Lines.{Line, Seal, Dseal, Open, Dopen, Tag, Verify, line_of}
use Rattle.tinkey_session.specs.declared.reply.Reply.TheVariants.{Done, Gives}
use Rattle.tinkey_session.specs.Session.{Remains, Turn, asked_in, lines_of, remains, turns}
use Rattle.wrapped_prims.specs.Candidates.{prefix_of}
use Rattle.wrapped_prims.specs.Laws.{HasKey, HasSameKey, IsKeyset}

-- two turns of the session of these lines over these keys, the second one later
pub record HasTurns (keys : Keys) (lines : List Line) (random : List ℕ) (s t : Turn) : Type 0 where
  pub i : ℕ
  pub j : ℕ
  pub later : i < j
  pub first : slice_get (turns standard_table keys lines random) i ≡ Some s
  pub second : slice_get (turns standard_table keys lines random) j ≡ Some t

-- What a line `seal` gave, a later line `open` with the same associated data answers with its
-- plaintext, while the key that sealed is ENABLED in the keyset and alone under its prefix. That key isn't
-- RAW.
abbrev pub SessionOpens : Type 0
SessionOpens = (keys : Keys) (lines : List Line) (random prefix plain ad sealed : List ℕ)
    (s t : Turn) (r : Record) → IsKeyset keys → HasTurns keys lines random s t
    → s.line ≡ Seal plain ad → s.reply ≡ Gives sealed
    → primary_of s.before ≡ Some r → prefix_of r ≡ Some prefix
    → t.line ≡ Open sealed ad → HasSameKey r t.before
    → t.reply ≡ Gives plain

-- the same of `dseal` and `dopen`
abbrev pub SessionDopens : Type 0
SessionDopens = (keys : Keys) (lines : List Line) (random prefix plain ad sealed : List ℕ)
    (s t : Turn) (r : Record) → IsKeyset keys → HasTurns keys lines random s t
    → s.line ≡ Dseal plain ad → s.reply ≡ Gives sealed
    → primary_of s.before ≡ Some r → prefix_of r ≡ Some prefix
    → t.line ≡ Dopen sealed ad → HasSameKey r t.before
    → t.reply ≡ Gives plain

-- for a key of any prefix type the answer is some plaintext, while it is there, ENABLED
abbrev pub SessionOpensPresent : Type 0
SessionOpensPresent = (keys : Keys) (lines : List Line) (random plain ad sealed : List ℕ)
    (s t : Turn) (r : Record) → IsKeyset keys → HasTurns keys lines random s t
    → s.line ≡ Seal plain ad → s.reply ≡ Gives sealed
    → primary_of s.before ≡ Some r
    → t.line ≡ Open sealed ad → HasKey r t.before
    → (other : List ℕ) × (t.reply ≡ Gives other)

-- the same of sealing without an IV: the reply gives some plaintext
abbrev pub SessionDopensPresent : Type 0
SessionDopensPresent = (keys : Keys) (lines : List Line) (random plain ad sealed : List ℕ)
    (s t : Turn) (r : Record) → IsKeyset keys → HasTurns keys lines random s t
    → s.line ≡ Dseal plain ad → s.reply ≡ Gives sealed
    → primary_of s.before ≡ Some r
    → t.line ≡ Dopen sealed ad → HasKey r t.before
    → (other : List ℕ) × (t.reply ≡ Gives other)

-- What a line `tag` gave, a later line `verify` accepts, whatever the prefix type.
abbrev pub SessionVerifies : Type 0
SessionVerifies = (keys : Keys) (lines : List Line) (random body tag : List ℕ)
    (s t : Turn) (r : Record) → IsKeyset keys → HasTurns keys lines random s t
    → s.line ≡ Tag body → s.reply ≡ Gives tag → primary_of s.before ≡ Some r
    → t.line ≡ Verify tag body → HasKey r t.before
    → t.reply ≡ Done

-- the turn of a place is that of the line of that place
abbrev pub TurnsAreLines : Type 0
TurnsAreLines = (table : Table) (keys : Keys) (lines : List Line) (random : List ℕ) (i : ℕ)
    (t : Turn) → slice_get (turns table keys lines random) i ≡ Some t
    → slice_get lines i ≡ Some t.line

-- of the lines of an input it is that of the line that stands there
abbrev pub TurnsAreSpelled : Type 0
TurnsAreSpelled = (table : Table) (keys : Keys) (input random : List ℕ) (i : ℕ) (t : Turn)
    → slice_get (turns table keys (asked_in input) random) i ≡ Some t
    → (line : List ℕ) × (slice_get (lines_of input) i ≡ Some line) × (line_of line ≡ t.line)

-- the keyset that a session leaves is the first one after some edits
abbrev pub SessionIsEdits : Type 0
SessionIsEdits = (table : Table) (keys : Keys) (lines : List Line) (random : List ℕ) (m : Remains)
    → remains table keys lines random ≡ Some m → IsEdited keys m.keys

-- so is the keyset before each line
abbrev pub TurnIsEdits : Type 0
TurnIsEdits = (table : Table) (keys : Keys) (lines : List Line) (random : List ℕ) (i : ℕ)
    (t : Turn) → slice_get (turns table keys lines random) i ≡ Some t → IsEdited keys t.before

-- bytes with no newline, and a newline behind them, are the first line of a text
abbrev pub LinesGoOn : Type 0
LinesGoOn = (line more : List ℕ) → list_all (λ b. not (b == 10)) line ≡ true
    → lines_of (line ++ 10 ∷ more) ≡ line ∷ lines_of more

-- a session over more lines is that over the first of them, and one over what it left
abbrev pub SessionGoesOn : Type 0
SessionGoesOn = (table : Table) (keys : Keys) (lines more : List Line) (random : List ℕ)
    (m : Remains) → remains table keys lines random ≡ Some m
    → (turns table keys (lines ++ more) random
    ≡ turns table keys lines random ++ turns table m.keys more m.left)
    × (remains table keys (lines ++ more) random ≡ remains table m.keys more m.left)
