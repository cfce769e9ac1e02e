-- HKDF (RFC 5869) on lists of bytes, with the HMAC of RFC 2104. Numbers in parentheses are the RFC's
-- sections, and its HashLen is `hash_size`.
--
--   used_salt    the salt, which has a value of its own where none is given
--   extract      PRK
--   block        T i
--   blocks       T(1) | T(2) | .. | T(n)
--   expand       OKM, of a PRK
--   hkdf         OKM, of IKM, salt, info and L
use Rattle.std.specs.Prelude.{ℕ, zero, suc, ◌+◌, ◌-◌, ◌/◌, ◌==◌, List, [], ◌∷◌, ◌++◌, length, take, replicate, if◌then◌else◌}
use Rattle.tink_base.specs.declared.hash.Hash.{Hash}
use Rattle.tink_base.specs.Hash.{hash_size}
use Rattle.mac_prf.specs.Hmac.{hmac}

-- the salt; HashLen zeros stand for one that isn't given, which is the empty one here (2.2)
abbrev pub used_salt : Hash → List ℕ → List ℕ
used_salt hash salt = if length salt == 0 then replicate (hash_size hash) 0 else salt

-- PRK = HMAC-Hash(salt, IKM) (2.2)
abbrev pub extract : Hash → List ℕ → List ℕ → List ℕ
extract hash salt ikm = hmac hash (used_salt hash salt) ikm

-- T(0) is empty, and T i = HMAC-Hash(PRK, T(i - 1) | info | i), with i in one byte (2.3)
unfoldable pub block : Hash → List ℕ → List ℕ → ℕ → List ℕ
block hash prk info zero = []
block hash prk info (suc i) = hmac hash prk (block hash prk info i ++ info ++ suc i ∷ [])

-- T(1) | T(2) | .. | T(n), which is T as far as n (2.3)
unfoldable pub blocks : Hash → List ℕ → List ℕ → ℕ → List ℕ
blocks hash prk info zero = []
blocks hash prk info (suc n) = blocks hash prk info n ++ block hash prk info (suc n)

-- N = ceil(L/HashLen) (2.3)
abbrev pub block_count : Hash → ℕ → ℕ
block_count hash size = (size + (hash_size hash - 1)) / hash_size hash

-- OKM, the first L bytes of T (2.3)
unfoldable pub expand : Hash → List ℕ → List ℕ → ℕ → List ℕ
expand hash prk info size = take size (blocks hash prk info (block_count hash size))

-- OKM of `size` bytes: extract, then expand (2.1)
abbrev pub hkdf : Hash → List ℕ → List ℕ → List ℕ → ℕ → List ℕ
hkdf hash ikm salt info size = expand hash (extract hash salt ikm) info size
