-- What the laws of this crate say.
use Rattle.std.specs.Prelude.{◌≡◌, ℕ, List, length}
use Rattle.tink_base.specs.declared.hash.Hash.{Hash}
use Rattle.tink_base.specs.Hash.{hash_size}
use Rattle.mac_prf.specs.Hmac.{hmac}
use Rattle.mac_prf.specs.Hkdf.{hkdf}
use Rattle.mac_prf.specs.Cmac.{cmac}
use Rattle.aes_core.specs.Bytes.{IsBytes}

-- a whole tag has the size of its hash function's digest
abbrev pub TagsHaveTheirSize : Type 0
TagsHaveTheirSize = (hash : Hash) (key m : List ℕ) → length (hmac hash key m) ≡ hash_size hash

-- a whole tag consists of bytes
abbrev pub TagsAreBytes : Type 0
TagsAreBytes = (hash : Hash) (key m : List ℕ) → IsBytes (hmac hash key m)

-- a tag of CMAC is a block of 16 bytes, under a key of bytes
abbrev pub CmacHasABlock : Type 0
CmacHasABlock = (key m : List ℕ) → IsBytes key
    → (length (cmac key m) ≡ 16) × IsBytes (cmac key m)

-- what HKDF derives has the length that is asked for, and consists of bytes
abbrev pub HkdfGivesBytes : Type 0
HkdfGivesBytes = (hash : Hash) (ikm salt info : List ℕ) (size : ℕ)
    → (length (hkdf hash ikm salt info size) ≡ size) × IsBytes (hkdf hash ikm salt info size)
