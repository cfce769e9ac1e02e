-- What a session draws: for each line the fills that it makes, and for the whole session where each
-- of them stands among the random bytes, which are numbered from 0.
--
--   Fill       what one fill of random bytes is for, and its size
--   fills      the fills of one line, in order
--   Slice      a fill of a line in its place
--   slices     those of a whole session, in order
--   bytes_of   the random bytes in a slice
use Rattle.std.specs.Prelude.{◌⊎◌, ℕ, zero, suc, ◌+◌, ◌<◌, ◌≤◌, List, [], ◌∷◌, ◌++◌, take, drop, Option, Some, None, Result, if◌then◌else◌, sum_by}
use Rattle.key_msgs.specs.Templates.{random_of}
use Rattle.key_msgs.specs.declared.key.KeyKind.{KeyKind}
use Rattle.key_msgs.specs.declared.primitive.Primitive.TheVariants.{Aead}
use Rattle.keyset_model.specs.Keyset.{Keys}
use Rattle.keyset_model.specs.declared.record.Record.{Record}
use Rattle.managers.specs.Table.{Table}
use Rattle.managers.specs.Uses.{iv_size}
use Rattle.tinkey_cmds.specs.Edits.{Edit, id_of, is_taken, refusal_of}
use Rattle.tinkey_cmds.specs.Edits as edits
use Rattle.tinkey_session.specs.Lines.{Line, Reseal, Save, Seal, Edit as AsksEdit}
use Rattle.tinkey_session.specs.Serving.{Served, drawn_size, edit_named, or_refused, serve}
use Rattle.tinkey_session.specs.declared.reply.Refusal.{Refusal}
use Rattle.wrapped_prims.specs.Answers.{open_answer, primary_key}
use Rattle.wrapped_prims.specs.Fitness.{unfit}

-- ---- fills

-- An IV to seal with; a candidate for the id of a new key; all random bytes of the new key, also
-- where it has two parts, as AES-CTR-HMAC; those of an envelope's data key; or the salt of a stream
-- with the nonce prefix behind it, which are drawn together.
pub data Purpose : Type 0 where
  Iv Id Key DataKey Header : Purpose

-- one fill
pub record Fill : Type 0 where
  pub purpose : Purpose
  -- in bytes
  pub size : ℕ

-- the fill for this purpose, of so many bytes
abbrev pub fill_of : Purpose → (size : ℕ) → Fill
fill_of purpose size = record { purpose = purpose; size = size }

-- the bytes of these fills together
abbrev pub total : List Fill → ℕ
total filled = sum_by (λ f. f.size) filled

-- ---- those of a line

-- under a key of an AEAD the IV that it takes, and where there is no key nothing
abbrev pub iv_fills : Option KeyKind → List Fill
iv_fills None = []
iv_fills (Some key) = fill_of Iv (iv_size key) ∷ []

-- A new key with at most so many tries at its id, of four bytes each: those that are 0 or in use,
-- the first that isn't, and then the key. If none is free, no key is drawn.
unfoldable pub new_fills : (tries key_size : ℕ) → List Record → (random : List ℕ) → List Fill
new_fills zero key_size records random = []
new_fills (suc tries) key_size records random =
    fill_of Id 4 ∷ (if is_taken records (id_of (take 4 random))
    then new_fills tries key_size records (drop 4 random)
    else fill_of Key key_size ∷ [])

-- of the edits that are accepted, add and rotate make a key
abbrev pub effect_fills : Keys → Edit → (random : List ℕ) → List Fill
effect_fills keys (edits.Add row) random = new_fills 64 (random_of row) keys.records random
effect_fills keys (edits.Rotate row) random = new_fills 64 (random_of row) keys.records random
effect_fills keys edit random = []

-- a refusal that comes before the fills leaves none of them
abbrev pub unless_there : {A : Type 0} → Option A → List Fill → List Fill
unless_there None filled = filled
unless_there (Some refused) filled = []

-- an edit
abbrev pub edit_fills : Keys → (random : List ℕ) → Edit → List Fill
edit_fills keys random edit = unless_there (refusal_of keys edit) (effect_fills keys edit random)

-- what the edit that was found draws; where it is refused, nothing
abbrev pub asked_fills : Keys → (random : List ℕ) → Result Edit Refusal → List Fill
asked_fills keys random found = or_refused (λ why. []) found (edit_fills keys random)

-- what is sealed where something opened; where nothing did, nothing
abbrev pub opened_fills : {A : Type 0} → Option A → List Fill → List Fill
opened_fills None filled = []
opened_fills (Some plain) filled = filled

-- the IV of a save, where it has one
abbrev pub save_fills : (size : ℕ) → List Fill
save_fills zero = []
save_fills (suc size) = fill_of Iv (suc size) ∷ []

-- Of the lines of a session `seal` draws an IV, if the keyset can serve, `reseal` too if its text opens, and
-- an edit draws what it needs, and so does a save. All others draw nothing.
unfoldable pub fills : Table → Keys → Line → (random : List ℕ) → List Fill
fills table keys (Seal plain ad) random =
    unless_there (unfit keys Aead table) (iv_fills (primary_key keys table Aead))
fills table keys (AsksEdit edit) random =
    asked_fills keys random (edit_named edit)
fills table keys (Reseal sealed ad) random =
    unless_there (unfit keys Aead table) (opened_fills (open_answer keys table sealed ad)
    (iv_fills (primary_key keys table Aead)))
fills table keys (Save name outcome) random = save_fills (drawn_size outcome)
fills table keys line random = []

-- ---- in their places

-- A fill that was made: by the line of this number, from 0 on, for this purpose, of the random bytes
-- from this place on.
pub record Slice : Type 0 where
  pub line : ℕ
  pub purpose : Purpose
  pub place : ℕ
  pub size : ℕ

-- the random bytes that it consists of
abbrev pub bytes_of : Slice → (random : List ℕ) → List ℕ
bytes_of d random = take d.size (drop d.place random)

-- the bytes of these slices together
abbrev pub size_of : List Slice → ℕ
size_of all = sum_by (λ d. d.size) all

-- the byte at this place is one of its bytes
abbrev pub IsIn : Slice → (place : ℕ) → Type 0
IsIn d place = (d.place ≤ place) × (place < d.place + d.size)

-- they have no byte in common: one ends before the other begins
abbrev pub AreApart : Slice → Slice → Type 0
AreApart d e = (d.place + d.size ≤ e.place) ⊎ (e.place + e.size ≤ d.place)

-- fills of one line, one behind the other from this place on
unfoldable pub placed : (line place : ℕ) → List Fill → List Slice
placed line place [] = []
placed line place (f ∷ later) =
    record { line = line; purpose = f.purpose; place = place; size = f.size }
    ∷ placed line (place + f.size) later

-- ---- a session

-- the slices of a line that is answered, with those behind it; none where it isn't
abbrev pub slices_then : Option Served → (Served → List Slice) → List Slice
slices_then None all = []
slices_then (Some s) all = all s

-- These lines, numbered from this number on, over random bytes that stand from this place on. A
-- line for which they don't suffice isn't answered, so no answer holds what it was given.
unfoldable pub slices_from : (line place : ℕ) → Table → Keys → List Line → (random : List ℕ)
    → List Slice
slices_from line place table keys [] random = []
slices_from line place table keys (asked ∷ later) random =
    slices_then (serve table keys asked random) (λ s.
    placed line place (fills table keys asked random)
    ++ slices_from (line + 1) (place + total (fills table keys asked random)) table s.keys later s.left)

-- the slices of a whole session
abbrev pub slices : Table → Keys → List Line → (random : List ℕ) → List Slice
slices table keys lines random = slices_from 0 0 table keys lines random
