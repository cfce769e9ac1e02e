-- What sealing under a handle says of the random bytes.
use Rattle.std.specs.Prelude.{◌≡◌, ◌⊎◌, ℕ, ◌<◌, List, [], ◌++◌, length, Some}
use Rattle.key_msgs.specs.declared.key.KeyKind.{KeyKind}
use Rattle.key_msgs.specs.declared.primitive.Primitive.TheVariants.{Aead}
use Rattle.keyset_model.specs.Keyset.{Keys}
use Rattle.managers.specs.Table.{Table}
use Rattle.managers.specs.Uses.{iv_size, seal_of}
use Rattle.tink_spec.specs.Outside.{EntropyState, Drew, RanShort, Stood}
use Rattle.wrapped_prims.specs.Answers.{primary_key, seal_answer}
use Rattle.wrapped_prims.specs.declared.sealing.SealFault.{SealFault}
use Rattle.wrapped_prims.specs.declared.sealing.SealFault.TheVariants as faults
use Rattle.wrapped_prims.specs.declared.sealing.SealIntoFault.{SealIntoFault}
use Rattle.wrapped_prims.specs.declared.sealing.SealIntoFault.TheVariants as intos

-- The bytes were drawn that the answer takes, and no more: whatever follows them, the answer is this
-- one and leaves what follows.
pub record IsSealing (keys : Keys) (table : Table) (plain ad : List ℕ) (old new : EntropyState)
    (sealed : List ℕ) : Type 0 where
  pub drawn : List ℕ
  pub drew : Drew old new drawn
  pub answer : (more : List ℕ) → seal_answer keys table plain ad (drawn ++ more)
      ≡ Some (record { bytes = sealed; left = more })

-- as many bytes were drawn as a key takes for an IV
pub record DrewIv (key : KeyKind) (old new : EntropyState) : Type 0 where
  pub drawn : List ℕ
  pub drew : Drew old new drawn
  pub whole : length drawn ≡ iv_size key

-- what happened to the entropy: it failed at an IV of the key, which has some bytes; or it didn't
-- fail, and gave an IV or nothing
abbrev pub IsKeyFault : KeyKind → EntropyState → EntropyState → SealFault → Type 0
IsKeyFault key old new faults.EntropyFault =
    (0 < iv_size key) × RanShort old new (iv_size key)
IsKeyFault key old new faults.NoMemory =
    Stood old.faults new.faults × (Drew old new [] ⊎ DrewIv key old new)

-- the same of the primary record's key
pub record IsSealFault (keys : Keys) (table : Table) (old new : EntropyState) (fault : SealFault)
    : Type 0 where
  pub key : KeyKind
  pub primary : primary_key keys table Aead ≡ Some key
  pub entropy : IsKeyFault key old new fault

-- an IV of the key was drawn, and the sealing with it stands behind a prefix
pub record IsKeySealing (key : KeyKind) (prefix plain ad : List ℕ) (old new : EntropyState)
    (sealed : List ℕ) : Type 0 where
  pub drawn : List ℕ
  pub drew : Drew old new drawn
  pub whole : length drawn ≡ iv_size key
  pub made : sealed ≡ prefix ++ seal_of key drawn plain ad

-- what happened where nothing was written: the entropy failed, or the sealing that was drawn for is
-- longer than the room
abbrev pub IsKeyIntoFault : KeyKind → (prefix plain ad : List ℕ) → (old new : EntropyState) → ℕ → SealIntoFault → Type 0
IsKeyIntoFault key prefix plain ad old new room intos.EntropyFault = IsKeyFault key old new faults.EntropyFault
IsKeyIntoFault key prefix plain ad old new room intos.NoRoom =
    (sealed : List ℕ) × IsKeySealing key prefix plain ad old new sealed × (room < length sealed)

-- the same of the primary record's key
abbrev pub IsSealIntoFault : Keys → Table → (plain ad : List ℕ) → (old new : EntropyState) → ℕ → SealIntoFault → Type 0
IsSealIntoFault keys table plain ad old new room intos.EntropyFault = IsSealFault keys table old new faults.EntropyFault
IsSealIntoFault keys table plain ad old new room intos.NoRoom =
    (sealed : List ℕ) × IsSealing keys table plain ad old new sealed × (room < length sealed)
