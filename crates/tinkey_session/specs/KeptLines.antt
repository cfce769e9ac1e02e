-- What no line of a session takes away: a key that is ENABLED and alone under its prefix.
--
--   OfEdit             a claim on the edit that a line asks for
--   EachAcceptedLine   the claim on each accepted line of a session, over what those before it left
use Rattle.std.specs.Prelude.{◌≡◌, ℕ, List, [], ◌∷◌, Some, IfSome, slice_get}
use Rattle.std.specs.List.{AllByRecursion}
use Rattle.keyset_model.specs.Keyset.{Keys}
use Rattle.keyset_model.specs.declared.record.Record.{Record}
use Rattle.managers.specs.Table.{Table}
use Rattle.tinkey_session.specs.KeptKeys.{HasData, HasDistinctIds, Spares, SparesData, SparesKey}
use Rattle.tinkey_cmds.specs.Edits.{EditOf}
use Rattle.tinkey_session.specs.Lines.{Line, Edit}
use Rattle.tinkey_session.specs.Serving.{serve}
use Rattle.tinkey_session.specs.Session.{Remains, Turn, remains, turns}
use Rattle.tinkey_session.specs.declared.reply.Reply.{Reply}
use Rattle.tinkey_session.specs.declared.reply.Reply.TheVariants.{Refuses}
use Rattle.wrapped_prims.specs.Candidates.{prefix_of}
use Rattle.wrapped_prims.specs.Laws.{HasSameKey}
use Rattle.wrapped_prims.specs.Making.{HasWordId}

-- where it asks for an edit, the claim holds of that over this keyset
abbrev pub OfEdit : (Keys → EditOf (List ℕ) → Type 0) → Keys → Line → Type 0
OfEdit Claim keys (Edit edit) = Claim keys edit
OfEdit Claim keys line = Unit {0}

-- the line was not refused
abbrev pub IsAccepted : Reply → Type 0
IsAccepted (Refuses why) = ⊥
IsAccepted reply = Unit {0}

-- The claim holds of the edit of each accepted line of a session, over the keyset that the lines before it
-- left. A refused line leaves the keyset, so nothing is asked of it.
unfoldable pub EachAcceptedLine : Table → (Keys → EditOf (List ℕ) → Type 0) → Keys → List Line
    → (random : List ℕ) → Type 0
EachAcceptedLine table Claim keys [] random = Unit {0}
EachAcceptedLine table Claim keys (line ∷ later) random =
    IfSome (serve table keys line random) (λ s. (IsAccepted s.reply → OfEdit Claim keys line)
    × EachAcceptedLine table Claim s.keys later s.left)

-- A key with a prefix that is ENABLED and alone under it stays so over a session whose accepted lines
-- don't disable, destroy or delete its id, and don't enable another key under its prefix: before each line,
-- and in what the session leaves.
abbrev pub KeptByLines : Type 0
KeptByLines = (table : Table) (keys : Keys) (r : Record) (prefix : List ℕ) (lines : List Line)
    (random : List ℕ) (i : ℕ) (t : Turn)
    → HasWordId r → prefix_of r ≡ Some prefix → HasSameKey r keys
    → EachAcceptedLine table (SparesKey r) keys lines random
    → slice_get (turns table keys lines random) i ≡ Some t
    → HasSameKey r t.before

abbrev pub KeptBySession : Type 0
KeptBySession = (table : Table) (keys : Keys) (r : Record) (prefix : List ℕ) (lines : List Line)
    (random : List ℕ) (m : Remains)
    → HasWordId r → prefix_of r ≡ Some prefix → HasSameKey r keys
    → EachAcceptedLine table (SparesKey r) keys lines random → remains table keys lines random ≡ Some m
    → HasSameKey r m.keys

-- A keyset whose ids are distinct has distinct ids before each line of a session, and at its end.
abbrev pub LineIdsStayDistinct : Type 0
LineIdsStayDistinct = (table : Table) (keys : Keys) (lines : List Line) (random : List ℕ) (i : ℕ)
    (t : Turn) → HasDistinctIds keys → slice_get (turns table keys lines random) i ≡ Some t
    → HasDistinctIds t.before

abbrev pub SessionIdsStayDistinct : Type 0
SessionIdsStayDistinct = (table : Table) (keys : Keys) (lines : List Line) (random : List ℕ)
    (m : Remains) → HasDistinctIds keys → remains table keys lines random ≡ Some m
    → HasDistinctIds m.keys

-- Where ids are distinct, and of 32 bits, only an accepted line that disables, destroys or deletes its own
-- id takes a key with a prefix away: the lines enable no other key under its prefix.
abbrev pub LinesOfOthersSpare : Type 0
LinesOfOthersSpare = (table : Table) (keys : Keys) (r : Record) (prefix : List ℕ)
    (lines : List Line) (random : List ℕ)
    → HasDistinctIds keys → AllByRecursion HasWordId keys.records
    → prefix_of r ≡ Some prefix → HasSameKey r keys
    → EachAcceptedLine table (λ keys. Spares r.id) keys lines random
    → EachAcceptedLine table (SparesKey r) keys lines random

-- All that makes a key stays over a session whose accepted lines don't destroy or delete its id.
abbrev pub SessionDataStays : Type 0
SessionDataStays = (table : Table) (keys : Keys) (r : Record) (lines : List Line) (random : List ℕ)
    (m : Remains) → HasData r keys → EachAcceptedLine table (λ keys. SparesData r.id) keys lines random
    → remains table keys lines random ≡ Some m
    → HasData r m.keys
