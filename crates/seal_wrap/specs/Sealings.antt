-- The laws of what keysets seal, over the definitions alone.
--
--   SealingsFit        how long it is
--   DsealingsFit       the same without an IV
--   AreBytes           these numbers are bytes
--   HasByteValues      the key messages of a keyset are
--   SealingsAreBytes   what is sealed of bytes is
use Rattle.std.specs.Prelude.{◌≡◌, ℕ, ◌+◌, ◌<◌, ◌≤◌, List, length, Some}
use Rattle.std.specs.List.{AllByRecursion}
use Rattle.base64.specs.GeneralPurpose.{IsBytes}
use Rattle.keyset_model.specs.Keyset.{Keys}
use Rattle.keyset_model.specs.declared.record.Record.{Record}
use Rattle.managers.specs.Table.{Table}
use Rattle.wrapped_prims.specs.Answers.{Sealed, dseal_answer, seal_answer}

-- What a keyset seals has at most 85 bytes more than the plaintext: an output prefix has 5, an IV at
-- most 16 and a tag at most 64.
abbrev pub SealingsFit : Type 0
SealingsFit = (table : Table) (keys : Keys) (plain ad random : List ℕ) (sealed : Sealed)
    → seal_answer keys table plain ad random ≡ Some sealed
    → length sealed.bytes ≤ length plain + 85

-- without an IV at most 21 more: the prefix, and a tag of 16 bytes
abbrev pub DsealingsFit : Type 0
DsealingsFit = (table : Table) (keys : Keys) (plain ad bytes : List ℕ)
    → dseal_answer keys table plain ad ≡ Some bytes → length bytes ≤ length plain + 21

-- each is below 256, one after another; `IsBytes` of base64 says so place by place
abbrev pub AreBytes : List ℕ → Type 0
AreBytes bytes = AllByRecursion (λ b. b < 256) bytes

-- the key messages of a keyset are bytes
abbrev pub HasByteValues : Keys → Type 0
HasByteValues keys = AllByRecursion (λ (r : Record). AreBytes r.value) keys.records

-- What is sealed of bytes are bytes, whatever the associated data, where the key messages of the keyset
-- and the random bytes are.
abbrev pub SealingsAreBytes : Type 0
SealingsAreBytes = (table : Table) (keys : Keys) (plain ad random : List ℕ) (sealed : Sealed)
    → HasByteValues keys → AreBytes plain → AreBytes random
    → seal_answer keys table plain ad random ≡ Some sealed → IsBytes sealed.bytes
