-- The hash functions that Tink numbers, and the sizes of their digests.
use Rattle.std.specs.Prelude.{ℕ, Option, Some, None, ◌==◌, if◌then◌else◌}
use Rattle.tink_base.specs.declared.hash.Hash.{Hash}
use Rattle.tink_base.specs.declared.hash.Hash.TheVariants.{Sha1, Sha224, Sha256, Sha384, Sha512}

-- the size of a digest in bytes (FIPS 180-4, figure 1)
abbrev pub hash_size : Hash → ℕ
hash_size Sha1 = 20
hash_size Sha224 = 28
hash_size Sha256 = 32
hash_size Sha384 = 48
hash_size Sha512 = 64

-- the hash function of a number (Tink's common.proto, HashType)
abbrev pub hash_of_number : ℕ → Option Hash
hash_of_number n =
    if n == 1 then Some Sha1
    else if n == 2 then Some Sha384
    else if n == 3 then Some Sha256
    else if n == 4 then Some Sha512
    else if n == 5 then Some Sha224
    else None
