-- The laws of AES-GCM-SIV, over its definitions alone. They hold of keys of any length.
use Rattle.std.specs.Prelude.{◌≡◌, ◌↔◌, ℕ, ◌+◌, Some, List, length, take}
use Rattle.aes_core.specs.Bytes.{IsBytes}
use Rattle.aead_kinds.specs.GcmSiv.{gcm_siv_open, gcm_siv_seal}

-- bytes open to a plaintext exactly where they are its sealing under the nonce at their own front
abbrev pub GcmSivOpensSealings : Type 0
GcmSivOpensSealings = (key bytes plain ad : List ℕ)
    → gcm_siv_open key bytes ad ≡ Some plain ↔ bytes ≡ gcm_siv_seal key (take 12 bytes) plain ad

-- sealed bytes are bytes, and 16 more than nonce and plaintext have
abbrev pub GcmSivSealsBytes : Type 0
GcmSivSealsBytes = (key iv plain ad : List ℕ) → IsBytes key → IsBytes iv → IsBytes plain
    → (length (gcm_siv_seal key iv plain ad) ≡ length iv + length plain + 16)
    × IsBytes (gcm_siv_seal key iv plain ad)
