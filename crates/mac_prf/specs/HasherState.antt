-- What a running hasher of ours stands for.
use Rattle.std.specs.Prelude.{◌≡◌, ℕ, List}
use Rattle.sha1.specs.Sha1 as sha1
use Rattle.sha2.specs.Hashers.{Holds224, Holds256, Holds384, Holds512}
use Rattle.tink_base.specs.declared.hash.Hash.{Hash}
use Rattle.tink_base.specs.declared.hash.Hash.TheVariants.{Sha1, Sha224, Sha256, Sha384, Sha512}
use Rattle.mac_prf.specs.declared.hasher.Hasher.{Hasher}
use Rattle.mac_prf.specs.declared.hasher.Hasher.TheVariants as hasher

-- the hash function of a hasher
abbrev pub hash_under : Hasher → Hash
hash_under (hasher.Sha1 _) = Sha1
hash_under (hasher.Sha224 _) = Sha224
hash_under (hasher.Sha256 _) = Sha256
hash_under (hasher.Sha384 _) = Sha384
hash_under (hasher.Sha512 _) = Sha512

-- the hasher has taken the message m
abbrev pub HasTaken : Hasher → List ℕ → Type 0
HasTaken (hasher.Sha1 inside) m = sha1.Holds inside m
HasTaken (hasher.Sha224 inside) m = Holds224 inside m
HasTaken (hasher.Sha256 inside) m = Holds256 inside m
HasTaken (hasher.Sha384 inside) m = Holds384 inside m
HasTaken (hasher.Sha512 inside) m = Holds512 inside m

-- the hasher is of this hash function, and has taken the message m
abbrev pub IsAfter : Hasher → Hash → List ℕ → Type 0
IsAfter taker hash m = (hash_under taker ≡ hash) × HasTaken taker m
