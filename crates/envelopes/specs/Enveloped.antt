-- Envelope sealing, as Google's Tink writes it (KmsEnvelopeAead): a plaintext is sealed under a data
-- key that was made for it alone, and the data key under a keyset. An envelope is
--
--   the length of the sealed data key, four bytes, the highest first
--   the sealed data key: its message, sealed under the keyset with empty associated data
--   the payload: IV, ciphertext and tag under the data key, without a prefix
--
--   data_key_of        the message of the data key that a template makes of random bytes
--   envelope           those three parts, joined
--   envelope_of        the envelope of a plaintext and its associated data
--   open_envelope_of   the plaintext of an envelope
--   parts_in           the message of an envelope's data key, and the payload behind it
--   reseal_envelope_of the envelope with its data key sealed anew, and the same payload
use Rattle.std.specs.Prelude.{ℕ, ◌==◌, ◌||◌, nat_lt, if◌then◌else◌, List, [], ◌++◌, length, take, drop, Option, Some, None, option_map, Result, Ok, Err}
use Rattle.std.specs.Int.{from_be_bytes, to_be_bytes, w32}
use Rattle.std.specs.Option.{option_and_then}
use Rattle.key_msgs.specs.Templates.{Row, made, random_of}
use Rattle.key_msgs.specs.Writing.{value_of}
use Rattle.key_msgs.specs.declared.key.KeyKind.{KeyKind}
use Rattle.key_msgs.specs.declared.rule.Rule.{Rule}
use Rattle.keyset_model.specs.Keyset.{Keys}
use Rattle.managers.specs.Schemes.{Scheme, key_under}
use Rattle.managers.specs.Table.{Table}
use Rattle.managers.specs.Uses.{open_key}
use Rattle.wrapped_prims.specs.Answers.{Sealed, open_answer, seal_answer, seal_behind}

-- the message of the data key that a template makes of these random bytes
abbrev pub data_key_of : Row → (random : List ℕ) → List ℕ
data_key_of row random = value_of (made row random)

-- ---- sealing

-- the length of the sealed data key, and that
abbrev pub before_payload : (sealed : List ℕ) → List ℕ
before_payload sealed = to_be_bytes w32 (length sealed) ++ sealed

-- the length of the sealed data key, that, and the payload
abbrev pub envelope : (sealed payload : List ℕ) → List ℕ
envelope sealed payload = to_be_bytes w32 (length sealed) ++ (sealed ++ payload)

-- the envelope, or the rule that the data key breaks; and the random bytes that are left
pub record Enveloped : Type 0 where
  pub answer : Result (List ℕ) Rule
  pub left : List ℕ

-- behind a sealed data key, the plaintext under that key; nothing stands in front of its IV, for which
-- the next random bytes are taken
abbrev pub behind_data_key : (plain ad : List ℕ) → KeyKind → Sealed → Option Enveloped
behind_data_key plain ad key sealed =
    option_map (λ (payload : Sealed). record {
      answer = Ok (envelope sealed.bytes payload.bytes);
      left = payload.left;
    }) (seal_behind [] plain ad sealed.left key)

-- under the data key that a message reads as; a message that breaks a rule isn't sealed
abbrev pub under_data_key : Keys → Table → (value plain ad random : List ℕ) → Result KeyKind Rule → Option Enveloped
under_data_key keys table value plain ad random (Ok key) =
    option_and_then (behind_data_key plain ad key) (seal_answer keys table value [] random)
under_data_key keys table value plain ad random (Err rule) =
    Some (record { answer = Err rule; left = random })

-- The envelope of a plaintext: the first random bytes are those of the data key, the next ones the IV
-- under the keyset, and then those of the payload. The rule is the first that the data key's message
-- breaks under the scheme. None where the random bytes are too few, or the keyset's primary record has
-- no key under the table.
abbrev pub envelope_of : Keys → Table → Scheme → Row → (plain ad random : List ℕ) → Option Enveloped
envelope_of keys table scheme row plain ad random =
    let value = data_key_of row (take (random_of row) random) in
    if nat_lt (length random) (random_of row) then None
    else under_data_key keys table value plain ad (drop (random_of row) random) (key_under scheme value)

-- ---- opening

-- what a payload opens to under the data key that a message reads as
abbrev pub open_payload : (payload ad : List ℕ) → Result KeyKind Rule → Option (List ℕ)
open_payload payload ad (Ok key) = open_key key payload ad
open_payload payload ad (Err rule) = None

-- where the sealed data key has this size, what comes of its message and of the payload behind it
abbrev pub behind_length : {A : Type 0} → Keys → Table → ((value payload : List ℕ) → Option A)
    → (size : ℕ) → (rest : List ℕ) → Option A
behind_length keys table next size rest =
    if size == 0 || nat_lt (length rest) size then None
    else option_and_then (λ value. next value (drop size rest))
    (open_answer keys table (take size rest) [])

-- What comes of the two of an envelope. None where it has fewer than four bytes, the length in them is 0
-- or more than what follows, or no key of the keyset opens the data key.
abbrev pub in_envelope : {A : Type 0} → Keys → Table → ((value payload : List ℕ) → Option A)
    → (bytes : List ℕ) → Option A
in_envelope keys table next bytes =
    if nat_lt (length bytes) 4 then None
    else behind_length keys table next (from_be_bytes w32 (take 4 bytes)) (drop 4 bytes)

-- what the payload opens to under the data key with this message
abbrev pub open_under : Scheme → (ad value payload : List ℕ) → Option (List ℕ)
open_under scheme ad value payload = open_payload payload ad (key_under scheme value)

-- where the sealed data key has this size, what stands behind the size opens to
abbrev pub open_behind : Keys → Table → Scheme → (size : ℕ) → (rest ad : List ℕ) → Option (List ℕ)
open_behind keys table scheme size rest ad =
    behind_length keys table (open_under scheme ad) size rest

-- The plaintext of an envelope. None where it has fewer than four bytes, the length in them is 0 or
-- more than what follows, no key of the keyset opens the data key, the data key isn't a valid one of
-- the scheme, or the payload doesn't open under it.
abbrev pub open_envelope_of : Keys → Table → Scheme → (bytes ad : List ℕ) → Option (List ℕ)
open_envelope_of keys table scheme bytes ad = in_envelope keys table (open_under scheme ad) bytes

-- ---- resealing

-- the message of a data key, and the payload behind that key
pub record Parts : Type 0 where
  pub value : List ℕ
  pub payload : List ℕ

-- the two, where the message reads as a key
abbrev pub with_key : (value payload : List ℕ) → Result KeyKind Rule → Option Parts
with_key value payload (Ok key) = Some (record { value = value; payload = payload })
with_key value payload (Err rule) = None

-- the two, where the message is a valid key of the scheme
abbrev pub valid_parts : Scheme → (value payload : List ℕ) → Option Parts
valid_parts scheme value payload = with_key value payload (key_under scheme value)

-- where the sealed data key has this size, the parts of what stands behind the size
abbrev pub parts_behind : Keys → Table → Scheme → (size : ℕ) → (rest : List ℕ) → Option Parts
parts_behind keys table scheme size rest = behind_length keys table (valid_parts scheme) size rest

-- The parts of an envelope. None where it has fewer than four bytes, the length in them is 0 or more than
-- what follows, no key of the keyset opens the data key, or that isn't a valid one of the scheme.
abbrev pub parts_in : Keys → Table → Scheme → (bytes : List ℕ) → Option Parts
parts_in keys table scheme bytes = in_envelope keys table (valid_parts scheme) bytes

-- the envelope of this payload behind a data key that was sealed
abbrev pub with_payload : (payload : List ℕ) → Sealed → Sealed
with_payload payload sealed =
    record { bytes = envelope sealed.bytes payload; left = sealed.left }

-- the envelope of the parts, of random bytes
abbrev pub seal_parts : Keys → Table → (random : List ℕ) → Parts → Option Sealed
seal_parts keys table random parts =
    option_map (with_payload parts.payload) (seal_answer keys table parts.value [] random)

-- The envelope whose data key is sealed anew under the keyset, with an IV of the random bytes, and whose
-- payload is the same, byte for byte; it isn't opened. None where there are no parts, as parts_in says, or
-- the random bytes are too few.
abbrev pub reseal_envelope_of : Keys → Table → Scheme → (bytes random : List ℕ) → Option Sealed
reseal_envelope_of keys table scheme bytes random =
    option_and_then (seal_parts keys table random) (parts_in keys table scheme bytes)
