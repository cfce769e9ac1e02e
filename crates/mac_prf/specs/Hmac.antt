-- HMAC (RFC 2104, which FIPS 198-1 keeps) on lists of bytes, with the hash functions of FIPS 180-4.
-- Section 2 of RFC 2104 is all of it, and the steps are that section's.
--
--   digest         H
--   block_size     B
--   ipad, opad     the byte that ipad, or opad, has B times
--   block_key      K in B bytes
--   xored          K XOR ipad, and K XOR opad
--   inner_digest   H(K XOR ipad, text)
--   hmac           the whole tag under a hash function and a key, of a text
use Rattle.std.specs.Prelude.{ℕ, ◌-◌, List, ◌++◌, length, map, replicate, bit_xor, nat_lt, if◌then◌else◌}
use Rattle.tink_base.specs.declared.hash.Hash.{Hash}
use Rattle.tink_base.specs.declared.hash.Hash.TheVariants.{Sha1, Sha224, Sha256, Sha384, Sha512}
use Rattle.sha1.specs.Sha1.{sha1}
use Rattle.sha2.specs.Sha256.{sha224, sha256}
use Rattle.sha2.specs.Sha512.{sha384, sha512}

-- H (FIPS 180-4, 6)
abbrev pub digest : Hash → List ℕ → List ℕ
digest Sha1 m = sha1 m
digest Sha224 m = sha224 m
digest Sha256 m = sha256 m
digest Sha384 m = sha384 m
digest Sha512 m = sha512 m

-- B, the bytes of a block of H (FIPS 180-4, figure 1)
abbrev pub block_size : Hash → ℕ
block_size Sha1 = 64
block_size Sha224 = 64
block_size Sha256 = 64
block_size Sha384 = 128
block_size Sha512 = 128

-- the byte of ipad, and the byte of opad
abbrev pub ipad : ℕ
ipad = 0x36

-- the byte of the outer pad
abbrev pub opad : ℕ
opad = 0x5C

-- the key that is used: one of more than B bytes is hashed first
abbrev pub used_key : Hash → List ℕ → List ℕ
used_key hash key = if nat_lt (block_size hash) (length key) then digest hash key else key

-- zeros appended to the key, up to B bytes in all (step 1)
abbrev pub block_key : Hash → List ℕ → List ℕ
block_key hash key =
    used_key hash key ++ replicate (block_size hash - length (used_key hash key)) 0

-- K XOR ipad, and K XOR opad: each byte of the key with the pad's byte (steps 2 and 5)
abbrev pub xored : List ℕ → ℕ → List ℕ
xored block pad = map (λ byte. bit_xor byte pad) block

-- H(K XOR ipad, text) (steps 3 and 4)
abbrev pub inner_digest : Hash → List ℕ → List ℕ → List ℕ
inner_digest hash key text = digest hash (xored (block_key hash key) ipad ++ text)

-- H(K XOR opad, H(K XOR ipad, text)) (steps 6 and 7)
unfoldable pub hmac : Hash → List ℕ → List ℕ → List ℕ
hmac hash key text =
    digest hash (xored (block_key hash key) opad ++ inner_digest hash key text)
