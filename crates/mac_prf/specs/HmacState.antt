-- What an HMAC in the making stands for.
use Rattle.std.specs.Prelude.{ℕ, List, ◌++◌}
use Rattle.tink_base.specs.declared.hash.Hash.{Hash}
use Rattle.mac_prf.specs.declared.hmac.Hmac.{Hmac}
use Rattle.mac_prf.specs.HasherState.{hash_under, IsAfter}
use Rattle.mac_prf.specs.Hmac.{block_key, ipad, opad, xored}

-- the hash function of an HMAC
unfoldable pub hash_of : Hmac → Hash
hash_of state = hash_under state.inner

-- the HMAC is under this hash function and this key, and has taken the message m
unfoldable pub Holds : Hmac → Hash → List ℕ → List ℕ → Type 0
Holds state hash key m =
    IsAfter state.inner hash (xored (block_key hash key) ipad ++ m)
    × IsAfter state.outer hash (xored (block_key hash key) opad)
