-- The laws of envelope sealing, over the definitions alone.
--
--   EnvelopeBack     what was sealed opens
--   EnvelopesFit     how long it is
--   AreKeysResealed  envelopes, each of which was resealed of the one before it
--   EnvelopeResealed     what was sealed, and whose data key was sealed anew any number of times, opens
--   ResealedFit      how long that is
--   DataKeysAreServed, DataKeysAreValid   under the standard table a data key is always made
use Rattle.std.specs.Prelude.{◌≡◌, ℕ, ◌+◌, ◌≤◌, List, [], ◌∷◌, length, Contains, Some, Ok}
use Rattle.key_msgs.specs.KeyTypes.{primitive_of_type}
use Rattle.key_msgs.specs.Templates.{Row, made, random_of, templates, type_made}
use Rattle.key_msgs.specs.declared.primitive.Primitive.TheVariants.{Aead}
use Rattle.keyset_model.specs.Keyset.{Keys, primary_of}
use Rattle.keyset_model.specs.declared.record.Record.{Record}
use Rattle.managers.specs.Schemes.{Scheme, key_under, type_under}
use Rattle.managers.specs.Standard.{standard_table}
use Rattle.managers.specs.Table.{Table, scheme_at}
use Rattle.wrapped_prims.specs.Candidates.{prefix_of}
use Rattle.wrapped_prims.specs.Laws.{GivesKeyFor, HasSameKey}
use Rattle.wrapped_prims.specs.Answers.{Sealed}
use Rattle.envelopes.specs.Enveloped.{data_key_of, envelope_of, open_envelope_of, reseal_envelope_of}
use Rattle.envelopes.specs.Enveloping.{IsAead, url_made}

-- a row of the table of templates that makes keys of AEADs
pub record IsDataKeyRow (row : Row) : Type 0 where
  pub known : Contains templates row
  pub aead : IsAead row

-- the scheme's keys are those of an AEAD
abbrev pub IsAeadScheme : Scheme → Type 0
IsAeadScheme scheme = primitive_of_type (type_under scheme) ≡ Aead

-- What was sealed in an envelope under an old keyset opens, with the same scheme of an AEAD and the same
-- associated data, under a new keyset in which the same key is ENABLED and alone under its prefix. The
-- primary record of the old keyset has a prefix; of RAW records another one may open the data key by
-- chance.
abbrev pub EnvelopeBack : Type 0
EnvelopeBack = (table : Table) (scheme : Scheme) (row : Row) (old new : Keys) (r : Record)
    (prefix plain ad random bytes left : List ℕ) → IsDataKeyRow row → IsAeadScheme scheme
    → primary_of old ≡ Some r → prefix_of r ≡ Some prefix
    → GivesKeyFor table Aead r → HasSameKey r new
    → envelope_of old table scheme row plain ad random
    ≡ Some (record { answer = Ok bytes; left = left })
    → open_envelope_of new table scheme bytes ad ≡ Some plain

-- an envelope, and the keyset with the primary record under whose key its data key was sealed
pub record EnvelopeUnder : Type 0 where
  pub bytes : List ℕ
  pub keys : Keys
  pub primary : Record

-- The new envelope was resealed of the old one, under a keyset in which the old one's key, which has a prefix,
-- is ENABLED and alone under it.
pub record IsKeyResealed (table : Table) (scheme : Scheme) (old new : EnvelopeUnder) : Type 0 where
  pub prefix : List ℕ
  pub has : prefix_of old.primary ≡ Some prefix
  pub there : HasSameKey old.primary new.keys
  pub is_primary : primary_of new.keys ≡ Some new.primary
  pub gives : GivesKeyFor table Aead new.primary
  pub random : List ℕ
  pub resealed : Sealed
  pub is : reseal_envelope_of new.keys table scheme old.bytes random ≡ Some resealed
  pub bytes : resealed.bytes ≡ new.bytes

-- each of these envelopes was resealed so of the one before it, the first of them of this one, and the last is
-- that
unfoldable pub AreKeysResealed : Table → Scheme → (first : EnvelopeUnder) → List EnvelopeUnder
    → (last : EnvelopeUnder) → Type 0
AreKeysResealed table scheme first [] last = first ≡ last
AreKeysResealed table scheme first (next ∷ later) last =
    IsKeyResealed table scheme first next × AreKeysResealed table scheme next later last

-- What was sealed in an envelope, and then resealed any number of times, opens with the same scheme and the
-- same associated data under every keyset in which the key of the last resealing, which has a prefix, is
-- ENABLED and alone under it: whatever became of the keys before it. It is no longer than one that wasn't
-- resealed may be.
abbrev pub EnvelopeResealed : Type 0
EnvelopeResealed = (table : Table) (scheme : Scheme) (row : Row) (first last : EnvelopeUnder)
    (between : List EnvelopeUnder) (new : Keys) (prefix plain ad random left : List ℕ)
    → IsDataKeyRow row → IsAeadScheme scheme
    → primary_of first.keys ≡ Some first.primary → GivesKeyFor table Aead first.primary
    → envelope_of first.keys table scheme row plain ad random
    ≡ Some (record { answer = Ok first.bytes; left = left })
    → AreKeysResealed table scheme first between last
    → prefix_of last.primary ≡ Some prefix → HasSameKey last.primary new
    → (open_envelope_of new table scheme last.bytes ad ≡ Some plain)
    × (length last.bytes ≤ length plain + 251)

-- An envelope that was resealed has at most 85 bytes more than it had, whoever made it.
abbrev pub ResealedFit : Type 0
ResealedFit = (table : Table) (scheme : Scheme) (keys : Keys) (bytes random : List ℕ) (resealed : Sealed)
    → reseal_envelope_of keys table scheme bytes random ≡ Some resealed
    → length resealed.bytes ≤ length bytes + 85

-- An envelope has at most 251 bytes more than the plaintext: 4 of the length, at most 82 of the data
-- key's message, 85 that its sealing adds, and 80 of IV and tag of the payload.
abbrev pub EnvelopesFit : Type 0
EnvelopesFit = (table : Table) (scheme : Scheme) (row : Row) (keys : Keys)
    (plain ad random bytes left : List ℕ) → IsDataKeyRow row
    → envelope_of keys table scheme row plain ad random
    ≡ Some (record { answer = Ok bytes; left = left })
    → length bytes ≤ length plain + 251

-- The standard table has an AEAD manager for the keys of each template that makes keys of AEADs, and
-- its scheme is that of their type.
abbrev pub DataKeysAreServed : Type 0
DataKeysAreServed = (row : Row) → IsAead row → (scheme : Scheme)
    × (scheme_at standard_table Aead (url_made row) ≡ Some scheme)
    × (type_under scheme ≡ type_made row)

-- Whatever its random bytes are, a data key of such a template reads under that scheme as the key that
-- was made.
abbrev pub DataKeysAreValid : Type 0
DataKeysAreValid = (row : Row) (scheme : Scheme) (random : List ℕ) → IsDataKeyRow row
    → scheme_at standard_table Aead (url_made row) ≡ Some scheme → length random ≡ random_of row
    → key_under scheme (data_key_of row random) ≡ Ok (made row random)
