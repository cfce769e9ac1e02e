-- Laws of the slices of a session: that they lie one behind the other, and that the IVs and the new
-- keys of its replies are of them.
use Rattle.std.specs.Prelude.{◌≡◌, ◌≢◌, ◌⊎◌, ℕ, suc, ◌+◌, ◌≤◌, List, [], ◌∷◌, ◌++◌, length, take, drop, Ok, Some, slice_get}
use Rattle.key_msgs.specs.Templates.{Row}
use Rattle.key_msgs.specs.declared.key.KeyKind.{KeyKind}
use Rattle.key_msgs.specs.declared.primitive.Primitive.TheVariants.{Aead}
use Rattle.keyset_model.specs.Keyset.{Keys, primary_of}
use Rattle.keyset_model.specs.declared.record.Record.{Record}
use Rattle.managers.specs.Table.{Table}
use Rattle.managers.specs.Uses.{iv_size, seal_of}
use Rattle.random_draws.specs.Slices.{AreApart, Slice, Id, Iv, IsIn, Key, size_of, slices, slices_from, fills, placed, bytes_of}
use Rattle.tinkey_cmds.specs.Edits.{EditOf, id_of, record_of}
use Rattle.tinkey_session.specs.Lines.{Edit, Line, Reseal, Seal}
use Rattle.tinkey_session.specs.Serving.{Served, serve, template_of}
use Rattle.tinkey_session.specs.Session.{Remains, Turn, remains, turns}
use Rattle.tinkey_session.specs.declared.reply.LineRefusal.TheVariants.{Refused}
use Rattle.tinkey_session.specs.declared.reply.Refusal.{Refusal}
use Rattle.tinkey_session.specs.declared.reply.Reply.TheVariants.{Gives, NewId, Refuses}
use Rattle.wrapped_prims.specs.Answers.{open_answer}
use Rattle.wrapped_prims.specs.Candidates.{prefix_bytes, prefix_of}
use Rattle.wrapped_prims.specs.Fitness.{key_of_record}

-- ---- in order, without a gap

-- A slice begins at the end of those before it, and the first one at place 0.
abbrev pub SlicesFollow : Type 0
SlicesFollow = (table : Table) (keys : Keys) (lines : List Line) (random : List ℕ) (i : ℕ) (d : Slice)
    → slice_get (slices table keys lines random) i ≡ Some d
    → d.place ≡ size_of (take i (slices table keys lines random))

-- Each is among the random bytes.
abbrev pub SlicesAreWithin : Type 0
SlicesAreWithin = (table : Table) (keys : Keys) (lines : List Line) (random : List ℕ) (i : ℕ)
    (d : Slice) → slice_get (slices table keys lines random) i ≡ Some d
    → d.place + d.size ≤ length random

-- Where all lines are answered, exactly the random bytes behind the last slice are left: the session
-- passes none over, and uses none that isn't in a slice.
abbrev pub SlicesAreAll : Type 0
SlicesAreAll = (table : Table) (keys : Keys) (lines : List Line) (random : List ℕ) (m : Remains)
    → remains table keys lines random ≡ Some m
    → m.left ≡ drop (size_of (slices table keys lines random)) random

-- Line i is answered from the random bytes behind the slices of the lines before it, and its own
-- slices are the next ones.
pub record HasSlices (table : Table) (keys : Keys) (lines : List Line) (random : List ℕ) (i : ℕ)
    (t : Turn) : Type 0 where
  pub before : List Slice
  pub after : List Slice
  pub split : slices table keys lines random
      ≡ before ++ placed i (size_of before) (fills table t.before t.line (drop (size_of before) random))
      ++ after
  pub served : Served
  pub is : serve table t.before t.line (drop (size_of before) random) ≡ Some served
  pub reply : t.reply ≡ served.reply

-- That is so of each line that has a turn.
abbrev pub TurnsHaveSlices : Type 0
TurnsHaveSlices = (table : Table) (keys : Keys) (lines : List Line) (random : List ℕ) (i : ℕ)
    (t : Turn) → slice_get (turns table keys lines random) i ≡ Some t
    → HasSlices table keys lines random i t

-- ---- apart

-- No two slices of a session have a byte in common.
abbrev pub SlicesApart : Type 0
SlicesApart = (table : Table) (keys : Keys) (lines : List Line) (random : List ℕ) (i j : ℕ)
    (d e : Slice)
    → slice_get (slices table keys lines random) i ≡ Some d
    → slice_get (slices table keys lines random) j ≡ Some e
    → i ≢ j → AreApart d e

-- The same of each byte: two slices in which it is are one.
abbrev pub NoByteServesTwice : Type 0
NoByteServesTwice = (table : Table) (keys : Keys) (lines : List Line) (random : List ℕ)
    (i j place : ℕ) (d e : Slice)
    → slice_get (slices table keys lines random) i ≡ Some d
    → slice_get (slices table keys lines random) j ≡ Some e
    → IsIn d place → IsIn e place → i ≡ j

-- ---- IVs

-- a line that seals this plaintext: `seal`, which has it, or `reseal`, whose text opens to it
abbrev pub SealsPlain : Table → Keys → Line → (plain ad : List ℕ) → Type 0
SealsPlain table keys line plain ad = (line ≡ Seal plain ad)
    ⊎ ((bytes : List ℕ) × (line ≡ Reseal bytes ad) × (open_answer keys table bytes ad ≡ Some plain))

-- what line i sealed, under the primary key and with the bytes of this slice of its own as IV
pub record IsSealedWith (all : List Slice) (random : List ℕ) (table : Table) (i : ℕ) (keys : Keys)
    (plain ad sealed : List ℕ) (iv : Slice) : Type 0 where
  pub under' : Record
  pub primary : primary_of keys ≡ Some under'
  pub key : KeyKind
  pub is : key_of_record table Aead under' ≡ Some key
  pub at : ℕ
  pub there : slice_get all at ≡ Some iv
  pub line : iv.line ≡ i
  pub purpose : iv.purpose ≡ Iv
  pub size : iv.size ≡ iv_size key
  pub bytes : sealed
      ≡ prefix_bytes (prefix_of under') ++ seal_of key (bytes_of iv random) plain ad

-- Each line `seal` or `reseal` that gave something gave such a sealing.
abbrev pub IvsAreDrawn : Type 0
IvsAreDrawn = (table : Table) (keys : Keys) (lines : List Line) (random plain ad sealed : List ℕ)
    (i : ℕ) (t : Turn)
    → slice_get (turns table keys lines random) i ≡ Some t
    → SealsPlain table t.before t.line plain ad → t.reply ≡ Gives sealed
    → (iv : Slice) × IsSealedWith (slices table keys lines random) random table i t.before plain ad
    sealed iv

-- behind the prefix of this record the reply to line i begins with the bytes of this slice, an IV of
-- that line, of the size for the record's key
pub record IsIvOf (all : List Slice) (random : List ℕ) (table : Table) (i : ℕ) (r : Record)
    (sealed : List ℕ) (iv : Slice) : Type 0 where
  pub key : KeyKind
  pub is : key_of_record table Aead r ≡ Some key
  pub size : iv.size ≡ iv_size key
  pub at : ℕ
  pub there : slice_get all at ≡ Some iv
  pub line : iv.line ≡ i
  pub purpose : iv.purpose ≡ Iv
  pub stands : take iv.size (drop (length (prefix_bytes (prefix_of r))) sealed) ≡ bytes_of iv random

-- So the IV can be read in each reply with a sealing, whichever kind of AEAD the primary key is of.
abbrev pub IvsStandInReplies : Type 0
IvsStandInReplies = (table : Table) (keys : Keys) (lines : List Line) (random plain ad sealed : List ℕ)
    (i : ℕ) (r : Record) (t : Turn)
    → slice_get (turns table keys lines random) i ≡ Some t
    → SealsPlain table t.before t.line plain ad → t.reply ≡ Gives sealed → primary_of t.before ≡ Some r
    → (iv : Slice) × IsIvOf (slices table keys lines random) random table i r sealed iv

-- Two lines that seal have IVs at different places of the random bytes, with no byte in common. So they can
-- be equal only if the random bytes themselves repeat.
abbrev pub IvsApart : Type 0
IvsApart = (table : Table) (keys : Keys) (lines : List Line) (random : List ℕ) (i j : ℕ)
    (s t : Turn) (plain ad sealed other more resealed : List ℕ) (q r : Record)
    → slice_get (turns table keys lines random) i ≡ Some s
    → slice_get (turns table keys lines random) j ≡ Some t → i ≢ j
    → SealsPlain table s.before s.line plain ad → s.reply ≡ Gives sealed → primary_of s.before ≡ Some q
    → SealsPlain table t.before t.line other more → t.reply ≡ Gives resealed → primary_of t.before ≡ Some r
    → (iv iv' : Slice) × AreApart iv iv'
    × IsIvOf (slices table keys lines random) random table i q sealed iv
    × IsIvOf (slices table keys lines random) random table j r resealed iv'

-- ---- new keys

-- The record of a new key of line i: its id is one slice of that line, its key the one behind it.
pub record IsMadeWith (all : List Slice) (random : List ℕ) (i : ℕ) (row : Row) (r : Record)
    (id key : Slice) : Type 0 where
  pub at : ℕ
  pub id_there : slice_get all at ≡ Some id
  pub key_there : slice_get all (suc at) ≡ Some key
  pub id_line : id.line ≡ i
  pub id_purpose : id.purpose ≡ Id
  pub key_line : key.line ≡ i
  pub key_purpose : key.purpose ≡ Key
  pub made : r ≡ record_of row (id_of (bytes_of id random)) (bytes_of key random)

-- A line `add` or `rotate` is refused as a command is, or it makes such a record, which stands last, and answers its id.
abbrev pub NewKeysAreDrawn : (List ℕ → EditOf (List ℕ)) → Type 0
NewKeysAreDrawn asks = (table : Table) (keys : Keys) (lines : List Line) (random name : List ℕ)
    (i : ℕ) (t : Turn)
    → slice_get (turns table keys lines random) i ≡ Some t → t.line ≡ Edit (asks name)
    → (h : HasSlices table keys lines random i t)
    × (((why : Refusal) × (t.reply ≡ Refuses (Refused why)))
    ⊎ ((row : Row) × (r : Record) × (id : Slice) × (key : Slice) × (template_of name ≡ Ok row)
    × IsMadeWith (slices table keys lines random) random i row r id key
    × (t.reply ≡ NewId r.id) × (h.served.keys.records ≡ t.before.records ++ r ∷ [])))

-- ---- more lines

-- The slices of a session over lines and more lines are those of the lines, and behind them those of the
-- others, over what the lines left.
abbrev pub SlicesGoOn : Type 0
SlicesGoOn = (table : Table) (keys : Keys) (lines more : List Line) (random : List ℕ) (m : Remains)
    → remains table keys lines random ≡ Some m
    → slices table keys (lines ++ more) random
    ≡ slices table keys lines random
    ++ slices_from (length lines) (size_of (slices table keys lines random)) table m.keys more m.left

-- ---- more random bytes

-- Where the random bytes suffice for all lines, more of them behind these change no turn and no slice.
abbrev pub SlicesAreSettled : Type 0
SlicesAreSettled = (table : Table) (keys : Keys) (lines : List Line) (random more : List ℕ) (m : Remains)
    → remains table keys lines random ≡ Some m
    → (turns table keys lines (random ++ more) ≡ turns table keys lines random)
    × (slices table keys lines (random ++ more) ≡ slices table keys lines random)
