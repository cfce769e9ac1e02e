-- A wrapped keyset, read and opened under a master keyset. Of the text the encrypted bytes alone are
-- read, and nothing of its info is believed.
--
--   encrypted_in   the encrypted bytes of the fields of an `EncryptedKeyset` message
--   encrypted_of   those of a JSON value
--   sealed_in      those of a text in one of the two forms
--   encrypted_bytes   those bytes, as they were read
--   unwrap_of      the keyset of a text, or the refusal of the first step that fails
--   is_wrapped_json, is_wrapped_binary   the text is an encrypted keyset, by what it shows in clear
--
-- Places are those of tags, counted in bytes from 0.
use Rattle.std.specs.Prelude.{ℕ, Bool, false, not, ◌||◌, ◌&&◌, ◌==◌, nat_lt, List, [], length, codes, filter, if◌then◌else◌, Option, Some, None, Result, Ok, Err}
use Rattle.std.specs.Option.{option_and_then, option_or}
use Rattle.serde_json.specs.Data.{Data, null}
use Rattle.serde_json.specs.Find.{get}
use Rattle.tink_spec.specs.Wire.{WireField, cut}
use Rattle.tink_spec.specs.Messages.{is_bytes, of_number, first_other, unless_at, last_bytes, number_in, bytes_in}
use Rattle.tink_spec.specs.Messages as messages
use Rattle.keyset_model.specs.declared.keyset.KeysetRefusal.{KeysetRefusal}
use Rattle.keyset_model.specs.Keyset.{Keys}
use Rattle.keyset_model.specs.Reading.{reads_binary}
use Rattle.keyset_model.specs.Reading as reading
use Rattle.keyset_json.specs.Reading.{bytes_of, json_value, object_of, without_newline}
use Rattle.managers.specs.Table.{Table}
use Rattle.wrapped_prims.specs.Answers.{open_answer}

-- why a text gives no keyset, in the order of the steps
pub data Refusal : Type 0 where
  -- of the outer message, the field at this place can't be cut, or isn't bytes
  OuterWire : (at : ℕ) → Refusal
  -- the text is no JSON
  NotJson : Refusal
  -- the value isn't an object, or the member of the encrypted bytes isn't base64
  Member : Refusal
  -- no key of the master opens the encrypted bytes
  NotOpened : Refusal
  -- of the keyset inside, the field at this place can't be cut or read
  InnerWire : (at : ℕ) → Refusal
  -- the keyset inside has this fault, the first one
  Fault : (fault : KeysetRefusal) → Refusal

infixl 10 ◌>>=◌
-- what comes next, unless there is a refusal
abbrev pub ◌>>=◌ : {A B : Type 0} → Result A Refusal → (A → Result B Refusal) → Result B Refusal
(Ok value) >>= next = next value
(Err refusal) >>= next = Err refusal

-- ---- the binary form

-- encrypted_keyset 2 or keyset_info 3
abbrev pub is_known : WireField → Bool
is_known field = field.number == 2 || field.number == 3

-- the bytes of the last encrypted_keyset, none where it isn't there; or the place of the first of both
-- that isn't bytes
abbrev pub encrypted_in : List WireField → Result (List ℕ) ℕ
encrypted_in fields =
    unless_at (first_other is_bytes (filter is_known fields)) (last_bytes (of_number 2 fields)).1

-- the same bytes, or the place as that of the outer message
abbrev pub at_outer : Result (List ℕ) ℕ → Result (List ℕ) Refusal
at_outer (Ok sealed) = Ok sealed
at_outer (Err at) = Err (OuterWire at)

-- the whole is cut first
unfoldable pub sealed_in_binary : List ℕ → Result (List ℕ) Refusal
sealed_in_binary text = at_outer (messages.◌>>=◌ (cut 0 text) encrypted_in)

-- ---- the JSON form

-- the bytes of a member; what isn't there, or is null, has none
abbrev pub member_bytes : Option Data → Option (List ℕ)
member_bytes None = Some []
member_bytes (Some null) = Some []
member_bytes (Some d) = bytes_of d

-- the member `encryptedKeyset` or, where the object has none of that name, `encrypted_keyset`; no
-- other member is looked at
abbrev pub encrypted_member : Data → Option Data
encrypted_member d = option_or (get (codes "encryptedKeyset") d) (get (codes "encrypted_keyset") d)

-- the encrypted bytes of an object
unfoldable pub encrypted_of : Data → Option (List ℕ)
encrypted_of d = option_and_then (λ whole. member_bytes (encrypted_member whole)) (object_of d)

-- the bytes, or why a value has none
abbrev pub or_member : Option (List ℕ) → Result (List ℕ) Refusal
or_member None = Err Member
or_member (Some sealed) = Ok sealed

-- those of a value, where there is one
abbrev pub of_value : Option Data → Result (List ℕ) Refusal
of_value None = Err NotJson
of_value (Some d) = or_member (encrypted_of d)

-- one newline at the end is left off
unfoldable pub sealed_in_json : List ℕ → Result (List ℕ) Refusal
sealed_in_json text = of_value (json_value (without_newline text))

-- ---- unwrapping

-- JSON, or else the binary form
abbrev pub sealed_in : (json : Bool) → (text : List ℕ) → Result (List ℕ) Refusal
sealed_in json text = if json then sealed_in_json text else sealed_in_binary text

-- the encrypted bytes that were read, or none
abbrev pub encrypted_bytes : Result (List ℕ) Refusal → List ℕ
encrypted_bytes (Ok sealed) = sealed
encrypted_bytes (Err refusal) = []

-- the plaintext, where there is one
abbrev pub or_not_opened : Option (List ℕ) → Result (List ℕ) Refusal
or_not_opened None = Err NotOpened
or_not_opened (Some plain) = Ok plain

-- the keyset that was read, or why it is none, as said of the keyset inside
abbrev pub inside : Result Keys reading.Refusal → Result Keys Refusal
inside (Ok keys) = Ok keys
inside (Err (reading.Wire at)) = Err (InnerWire at)
inside (Err (reading.Fault fault)) = Err (Fault fault)

-- what the sealed bytes give: they are opened with empty associated data, and the plaintext is read as
-- the binary form of a keyset
abbrev pub open_keyset : Keys → Table → (sealed : List ℕ) → Result Keys Refusal
open_keyset master table sealed =
    or_not_opened (open_answer master table sealed [])
    >>= λ plain. inside (reads_binary plain)

-- the keyset of a text, or the refusal of the first step that fails
abbrev pub unwrap_of : (master : Keys) → Table → (text : List ℕ) → (json : Bool) → Result Keys Refusal
unwrap_of master table text json = sealed_in json text >>= open_keyset master table

-- ---- is a text an encrypted keyset?

-- bytes are read, at least one
abbrev pub has_sealed : {E : Type 0} → Result (List ℕ) E → Bool
has_sealed (Ok sealed) = nat_lt 0 (length sealed)
has_sealed (Err why) = false

-- as JSON: its encrypted bytes are read, and aren't empty
unfoldable pub is_wrapped_json : (text : List ℕ) → Bool
is_wrapped_json text = has_sealed (sealed_in_json text)

-- an id is read, and is 0, as one that is missing
abbrev pub is_no_id : Result ℕ ℕ → Bool
is_no_id (Ok id) = id == 0
is_no_id (Err at) = false

-- bytes are read, at least one, wherever they are
abbrev pub has_info : Result (ℕ × List ℕ) ℕ → Bool
has_info (Ok (start, info)) = nat_lt 0 (length info)
has_info (Err at) = false

-- In the binary form: there are encrypted bytes, and no primary_key_id, 1. A `Keyset` in clear has that, and
-- its keys have the number of the encrypted bytes. Where an info is wanted, there is one: keyset_info, 3,
-- which a `Keyset` hasn't, and an `EncryptedKeyset` may leave out.
abbrev pub is_encrypted : (informed : Bool) → List WireField → Bool
is_encrypted informed fields =
    has_sealed (encrypted_in fields)
    && is_no_id (number_in 1 fields)
    && (not informed || has_info (bytes_in 3 fields))

-- the same of fields that can be cut
abbrev pub are_encrypted : Result (List WireField) ℕ → (informed : Bool) → Bool
are_encrypted (Ok fields) informed = is_encrypted informed fields
are_encrypted (Err at) informed = false

-- the same of a text
unfoldable pub is_wrapped_binary : (text : List ℕ) → (informed : Bool) → Bool
is_wrapped_binary text informed = are_encrypted (cut 0 text) informed
