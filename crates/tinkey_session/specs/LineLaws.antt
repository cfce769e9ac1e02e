-- The laws of a line by itself: what it draws, what a refusal leaves, and what is opened again.
use Rattle.std.specs.Prelude.{◌≡◌, ◌⊎◌, ◌∷◌, [], ℕ, ◌+◌, ◌<◌, ◌≤◌, List, ◌++◌, length, Some, None}
use Rattle.std.specs.List.{AllByRecursion}
use Rattle.key_msgs.specs.Templates.{Row}
use Rattle.keyset_model.specs.Keyset.{Keys, fault_of, primary_of}
use Rattle.keyset_model.specs.declared.record.Record.{Record}
use Rattle.managers.specs.Standard.{standard_table}
use Rattle.managers.specs.Table.{Table}
use Rattle.tinkey_cmds.specs.Edits.{EditOf, Stepped, first}
use Rattle.tinkey_cmds.specs.Laws.{IsTemplate}
use Rattle.tinkey_session.specs.Laws.{IsEdited}
use Rattle.tinkey_session.specs.Lines.{Line, Seal, Open, Edit, bytes_in, word_of}
use Rattle.tinkey_session.specs.Serving.{Served, serve}
use Rattle.tinkey_session.specs.declared.reply.LineRefusal.{LineRefusal}
use Rattle.tinkey_session.specs.declared.reply.LineRefusal.TheVariants.{Refused}
use Rattle.tinkey_session.specs.declared.reply.Refusal.{Refusal}
use Rattle.tinkey_session.specs.declared.reply.Reply.TheVariants.{Gives, NewId, Refuses}
use Rattle.wrapped_prims.specs.Candidates.{prefix_of}
use Rattle.wrapped_prims.specs.Laws.{HasKey, HasSameKey, IsKeyset}

-- a refused line leaves the keyset
abbrev pub RefusalsLeave : Type 0
RefusalsLeave = (table : Table) (keys : Keys) (line : Line) (random : List ℕ) (x : Served)
    (why : LineRefusal) → serve table keys line random ≡ Some x → x.reply ≡ Refuses why
    → x.keys ≡ keys

-- An accepted line that makes a key answers the id of the one new record, which stands last. Any
-- other answer of it is a refusal, as of a command.
abbrev pub TellsNewId : (List ℕ → EditOf (List ℕ)) → Type 0
TellsNewId asks = (table : Table) (keys : Keys) (name random : List ℕ) (x : Served)
    → serve table keys (Edit (asks name)) random ≡ Some x
    → ((why : Refusal) × (x.reply ≡ Refuses (Refused why)))
    ⊎ ((r : Record) × (x.reply ≡ NewId r.id) × (x.keys.records ≡ keys.records ++ r ∷ []))

-- The bytes drawn stand in front of those left, and whatever stands behind them, the line gives the
-- same.
abbrev pub LinesDrawFronts : Type 0
LinesDrawFronts = (table : Table) (keys : Keys) (line : Line) (random : List ℕ) (x : Served)
    → serve table keys line random ≡ Some x
    → (drawn : List ℕ) × (random ≡ drawn ++ x.left)
    × ((more : List ℕ) → serve table keys line (drawn ++ more) ≡ Some (record x { left = more }))

-- Over a keyset a line that has 320 random bytes is answered, and draws no more. An edit draws at
-- most 64 ids of four bytes and a key of 64, and a seal at most 16 bytes.
abbrev pub LinesDrawFew : Type 0
LinesDrawFew = (table : Table) (keys : Keys) (line : Line) (random : List ℕ)
    → fault_of keys ≡ None → 320 ≤ length random
    → (x : Served) × (serve table keys line random ≡ Some x)
    × (length random ≤ length x.left + 320)

-- so is the first keyset of a template
abbrev pub FirstsDrawFew : Type 0
FirstsDrawFew = (row : Row) (random : List ℕ) → IsTemplate row → 320 ≤ length random
    → (s : Stepped) × (first row random ≡ Some s) × (length random ≤ length s.left + 320)

-- What a line `seal` gave under a key that isn't RAW, a line `open` with the same associated data
-- answers with its plaintext, after any edits, while that key is ENABLED in the keyset and alone under its
-- prefix.
abbrev pub LinesOpen : Type 0
LinesOpen = (old new : Keys) (r : Record) (prefix plain ad sealed random drawn : List ℕ)
    (x y : Served) → IsKeyset old → IsEdited old new → HasSameKey r new
    → primary_of old ≡ Some r → prefix_of r ≡ Some prefix
    → serve standard_table old (Seal plain ad) random ≡ Some x → x.reply ≡ Gives sealed
    → serve standard_table new (Open sealed ad) drawn ≡ Some y
    → y.reply ≡ Gives plain

-- For a key of any prefix type the answer is some plaintext, while it is there, ENABLED.
abbrev pub LinesOpenPresent : Type 0
LinesOpenPresent = (old new : Keys) (r : Record) (plain ad sealed random drawn : List ℕ)
    (x y : Served) → IsKeyset old → IsEdited old new → HasKey r new
    → primary_of old ≡ Some r
    → serve standard_table old (Seal plain ad) random ≡ Some x → x.reply ≡ Gives sealed
    → serve standard_table new (Open sealed ad) drawn ≡ Some y
    → (other : List ℕ) × (y.reply ≡ Gives other)

-- a word that spells bytes in lower case is read as these bytes
abbrev pub WordsReadBack : Type 0
WordsReadBack = (bytes : List ℕ) → AllByRecursion (λ b. b < 256) bytes
    → bytes_in (word_of bytes) ≡ Some bytes
