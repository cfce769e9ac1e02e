-- What the calls of envelope sealing answer, by the definitions.
--
--   IsDataKeyFault    why a template has no manager for its keys
--   IsEnveloping      an envelope, and the random bytes that were drawn for it
--   IsEnvelopeFault   why there is none, and what was drawn
--
-- Three fills at most are asked for: the random bytes of the data key, an IV of the keyset's primary
-- key, and an IV of the data key. An IV of no bytes isn't asked for.
use Rattle.std.specs.Prelude.{◌≡◌, ◌≢◌, ◌⊎◌, ℕ, ◌+◌, ◌<◌, ◌≤◌, List, [], ◌++◌, length, Some, None, IfSome, IsTrue, Ok, Err}
use Rattle.key_msgs.specs.KeyTypes.{primitive_of_type, url_of_type}
use Rattle.key_msgs.specs.Templates.{Row, random_of, type_made}
use Rattle.key_msgs.specs.declared.key.KeyKind.{KeyKind}
use Rattle.key_msgs.specs.declared.primitive.Primitive.TheVariants.{Aead}
use Rattle.key_msgs.specs.declared.rule.Rule.{Rule}
use Rattle.keyset_model.specs.Keyset.{Keys}
use Rattle.managers.specs.Schemes.{Scheme, key_under}
use Rattle.managers.specs.Table.{Table, scheme_at}
use Rattle.managers.specs.Uses.{iv_size}
use Rattle.tink_spec.specs.Outside.{Drew, DrewLosing, EntropyState, Rose, Stood}
use Rattle.wrapped_prims.specs.Answers.{primary_key}
use Rattle.envelopes.specs.Enveloped.{data_key_of, envelope_of}
use Rattle.envelopes.specs.declared.data_keys.DataKeyFault.{DataKeyFault}
use Rattle.envelopes.specs.declared.data_keys.DataKeyFault.TheVariants as data_keys
use Rattle.envelopes.specs.declared.envelope.EnvelopeFault.{EnvelopeFault}
use Rattle.envelopes.specs.declared.envelope.EnvelopeFault.TheVariants as faults

-- the template makes keys of AEADs
abbrev pub IsAead : Row → Type 0
IsAead row = primitive_of_type (type_made row) ≡ Aead

-- the type URL of the keys that a template makes
abbrev pub url_made : Row → List ℕ
url_made row = url_of_type (type_made row)

-- the template's keys are those of another primitive; or no AEAD manager has their type URL
abbrev pub IsDataKeyFault : Table → Row → DataKeyFault → Type 0
IsDataKeyFault table row data_keys.NotAead = primitive_of_type (type_made row) ≢ Aead
IsDataKeyFault table row data_keys.NoManager =
    IsAead row × (scheme_at table Aead (url_made row) ≡ None)

-- The bytes were drawn that the envelope takes, and no more: whatever follows them, the envelope is
-- this one and leaves what follows.
pub record IsEnveloping (keys : Keys) (table : Table) (scheme : Scheme) (row : Row)
    (plain ad : List ℕ) (old new : EntropyState) (bytes : List ℕ) : Type 0 where
  pub drawn : List ℕ
  pub drew : Drew old new drawn
  pub answer : (more : List ℕ) → envelope_of keys table scheme row plain ad (drawn ++ more)
      ≡ Some (record { answer = Ok bytes; left = more })

-- the random bytes of a data key, and the key that their message reads as under the scheme
pub record MakesDataKey (scheme : Scheme) (row : Row) (random : List ℕ) (key : KeyKind) : Type 0 where
  pub whole : length random ≡ random_of row
  pub valid : key_under scheme (data_key_of row random) ≡ Ok key

-- behind the random bytes of a valid data key an IV of the primary key is asked for
pub record AsksIv (keys : Keys) (table : Table) (scheme : Scheme) (row : Row) (drawn : List ℕ)
    (asked : ℕ) : Type 0 where
  pub data_key : KeyKind
  pub makes : MakesDataKey scheme row drawn data_key
  pub key : KeyKind
  pub primary : primary_key keys table Aead ≡ Some key
  pub size : asked ≡ iv_size key

-- and behind both an IV of the data key
pub record AsksPayloadIv (keys : Keys) (table : Table) (scheme : Scheme) (row : Row) (drawn : List ℕ)
    (asked : ℕ) : Type 0 where
  pub random : List ℕ
  pub iv : List ℕ
  pub both : drawn ≡ random ++ iv
  pub data_key : KeyKind
  pub makes : MakesDataKey scheme row random data_key
  pub key : KeyKind
  pub primary : primary_key keys table Aead ≡ Some key
  pub whole : length iv ≡ iv_size key
  pub size : asked ≡ iv_size data_key

-- behind these bytes so many are asked for: nothing was drawn yet, or one fill, or two
abbrev pub Asks : Keys → Table → Scheme → Row → (drawn : List ℕ) → (asked : ℕ) → Type 0
Asks keys table scheme row drawn asked =
    ((drawn ≡ []) × (asked ≡ random_of row))
    ⊎ (AsksIv keys table scheme row drawn asked ⊎ AsksPayloadIv keys table scheme row drawn asked)

-- the entropy gave the fills before one, and failed at that one, of some bytes: its count of faults rose,
-- at most so many as were asked for are lost, and if it is steady, fewer were left, where it tells
pub record FailedAtFill (keys : Keys) (table : Table) (scheme : Scheme) (row : Row)
    (old new : EntropyState) : Type 0 where
  pub before : List ℕ
  pub asked : ℕ
  pub asks : Asks keys table scheme row before asked
  pub some : 0 < asked
  pub rose : Rose old.faults new.faults
  pub gone : DrewLosing old new before
  pub few : length gone.lost ≤ asked
  pub short : IsTrue old.steady → IfSome old.left (λ left. length left < length before + asked)

-- the entropy didn't fail, and gave the fills before one, and that one or nothing of it
pub record StoodAtFill (keys : Keys) (table : Table) (scheme : Scheme) (row : Row)
    (old new : EntropyState) : Type 0 where
  pub before : List ℕ
  pub asked : ℕ
  pub asks : Asks keys table scheme row before asked
  pub fill : List ℕ
  pub part : (fill ≡ []) ⊎ (length fill ≡ asked)
  pub drew : Drew old new (before ++ fill)
  pub stood : Stood old.faults new.faults

-- the entropy didn't fail, and gave the random bytes of a data key that breaks this rule first, and no
-- more
pub record RefusedKey (keys : Keys) (table : Table) (scheme : Scheme) (row : Row)
    (plain ad : List ℕ) (old new : EntropyState) (rule : Rule) : Type 0 where
  pub drawn : List ℕ
  pub drew : Drew old new drawn
  pub whole : length drawn ≡ random_of row
  pub answer : (more : List ℕ) → envelope_of keys table scheme row plain ad (drawn ++ more)
      ≡ Some (record { answer = Err rule; left = more })
  pub stood : Stood old.faults new.faults

-- What happened to the entropy: it failed at one of the fills; or it gave the bytes of a data key that
-- was refused; or memory was wanting before a fill, or behind it.
abbrev pub IsEnvelopeFault : Keys → Table → Scheme → Row → (plain ad : List ℕ) → EntropyState
    → EntropyState → EnvelopeFault → Type 0
IsEnvelopeFault keys table scheme row plain ad old new faults.EntropyFault =
    FailedAtFill keys table scheme row old new
IsEnvelopeFault keys table scheme row plain ad old new (faults.Refused rule) =
    RefusedKey keys table scheme row plain ad old new rule
IsEnvelopeFault keys table scheme row plain ad old new faults.NoMemory =
    StoodAtFill keys table scheme row old new
