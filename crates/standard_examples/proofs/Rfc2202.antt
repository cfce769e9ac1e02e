-- HMAC with SHA-1: printed cases of RFC 2202, section 3, proved of the definition alone by computing
-- it.
use Rattle.std.proofs.Common.{◌≡◌, ℕ, List, ◌++◌, codes, refl}
use Rattle.std.specs.Prelude.{replicate}
use Rattle.std.specs.Int.{to_be_bytes, w32, w128}
use Rattle.tink_base.specs.declared.hash.Hash.TheVariants.{Sha1}
use Rattle.mac_prf.specs.Hmac.{hmac}
use Rattle.standard_examples.proofs.OnLiterals.{hmac_on_literals}

-- test case 2: a key shorter than a digest
abbrev key : List ℕ
key = codes "Jefe"

abbrev text : List ℕ
text = codes "what do ya want for nothing?"

pub hmac-sha1 : hmac Sha1 key text ≡
    to_be_bytes w128 0xEFFCDF6AE5EB2FA2D27416D5F184DF9C ++ to_be_bytes w32 0x259A7C79
unfolding hmac_on_literals
hmac-sha1 = refl

-- test case 6: a key longer than a block, which is hashed first
abbrev long_text : List ℕ
long_text = codes "Test Using Larger Than Block-Size Key - Hash Key First"

pub hmac-sha1-long_key : hmac Sha1 (replicate 80 0xAA) long_text ≡
    to_be_bytes w128 0xAA4AE5E15272D00E95705637CE8A3B55 ++ to_be_bytes w32 0xED402112
unfolding hmac_on_literals
hmac-sha1-long_key = refl
