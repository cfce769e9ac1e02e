-- What the running GHASH of an AES-GCM of ours stands for.
use Rattle.std.specs.Prelude.{ℕ, List}
use Rattle.ghash.specs.GhashState.{Holds}
use Rattle.ghash.specs.declared.hash.Ghash.{Ghash}
use Rattle.aead_kinds.specs.Gcm.{hash_subkey}

-- the GHASH is under H of this key, whatever blocks it has taken: each message starts it again
abbrev pub RunsUnder : Ghash → List ℕ → Type 0
RunsUnder hash key = (blocks : List ℕ) × Holds hash (hash_subkey key) blocks
