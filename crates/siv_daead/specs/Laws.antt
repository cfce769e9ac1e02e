-- The laws of AES-SIV, over its definitions alone. They hold of keys of any length.
use Rattle.std.specs.Prelude.{◌≡◌, ◌↔◌, ℕ, ◌+◌, Some, List, length}
use Rattle.aes_core.specs.Bytes.{IsBytes}
use Rattle.siv_daead.specs.Siv.{siv_open, siv_seal}

-- bytes open to a plaintext exactly where they are its sealing
abbrev pub SivOpensSealings : Type 0
SivOpensSealings = (key bytes plain ad : List ℕ)
    → siv_open key bytes ad ≡ Some plain ↔ bytes ≡ siv_seal key plain ad

-- sealed bytes are 16 more than the plaintext has
abbrev pub SivSealsSixteenMore : Type 0
SivSealsSixteenMore = (key plain ad : List ℕ)
    → length (siv_seal key plain ad) ≡ 16 + length plain

-- sealed bytes are bytes, under a key of bytes
abbrev pub SivSealsBytes : Type 0
SivSealsBytes = (key plain ad : List ℕ) → IsBytes key → IsBytes plain
    → IsBytes (siv_seal key plain ad)
