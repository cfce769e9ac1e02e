-- AES-GCM-SIV (RFC 8452 of 2019): the POLYVAL of its appendix A, and examples of its appendix C under
-- keys of 16 bytes (C.1) and of 32 (C.2) and where the counter wraps (C.3), computed from the
-- definitions alone. OpenSSL, by Python's cryptography, gives the same sealings.
use Rattle.std.proofs.Common.{◌≡◌, ℕ, Some, None, List, [], ◌∷◌, ◌++◌, take, replicate, refl}
use Rattle.std.specs.Int.{w128, to_be_bytes}
use Rattle.aead_kinds.specs.GcmSiv.{authentication_key, encryption_key, gcm_siv_open, gcm_siv_seal}
use Rattle.aead_kinds.specs.Polyval.{polyval, polyval_by_dot}
use Rattle.standard_examples.proofs.OnLiterals.{gcm_siv_on_literals, polyval_on_literals}

-- ---- POLYVAL (appendix A)

abbrev h : List ℕ
h = to_be_bytes w128 0x25629347589242761D31F826BA4B757B

abbrev x_1 : List ℕ
x_1 = to_be_bytes w128 0x4F4F95668C83DFB6401762BB2D01A262

abbrev x_2 : List ℕ
x_2 = to_be_bytes w128 0xD1A24DDD2721D006BBE45F20D3C9F362

pub polyval-printed : polyval h (x_1 ∷ x_2 ∷ [])
    ≡ to_be_bytes w128 0xF7A3B47B846119FAE5B7866CF5E5B77E
unfolding polyval_on_literals
polyval-printed = refl

pub polyval_by_dot-printed : polyval_by_dot h (x_1 ∷ x_2 ∷ [])
    ≡ to_be_bytes w128 0xF7A3B47B846119FAE5B7866CF5E5B77E
unfolding polyval_on_literals
polyval_by_dot-printed = refl

-- ---- AEAD_AES_128_GCM_SIV (C.1)

-- the key and the nonce of the first examples, and a block that begins with a byte
abbrev block : ℕ → List ℕ
block n = n ∷ replicate 15 0

abbrev iv : List ℕ
iv = 3 ∷ replicate 11 0

pub authentication_key-printed : authentication_key (block 1) iv
    ≡ to_be_bytes w128 0xD9B360279694941AC5DBC6987ADA7377
unfolding gcm_siv_on_literals
authentication_key-printed = refl

pub encryption_key-printed : encryption_key (block 1) iv
    ≡ to_be_bytes w128 0x4004A0DCD862F2A57360219D2D44EF6C
unfolding gcm_siv_on_literals
encryption_key-printed = refl

-- neither plaintext nor additional data
pub seal_128-empty : gcm_siv_seal (block 1) iv [] []
    ≡ iv ++ to_be_bytes w128 0xDC20E2D83F25705BB49E439ECA56DE25
unfolding gcm_siv_on_literals
seal_128-empty = refl

-- it opens, and with the last byte changed it doesn't
pub open_128-empty : gcm_siv_open (block 1)
    (iv ++ to_be_bytes w128 0xDC20E2D83F25705BB49E439ECA56DE25) [] ≡ Some []
unfolding gcm_siv_on_literals
open_128-empty = refl

pub open_128-changed : gcm_siv_open (block 1)
    (iv ++ to_be_bytes w128 0xDC20E2D83F25705BB49E439ECA56DE24) [] ≡ None
unfolding gcm_siv_on_literals
open_128-changed = refl

-- a part of a block
pub seal_128-8_bytes : gcm_siv_seal (block 1) iv (take 8 (block 1)) []
    ≡ iv ++ take 8 (to_be_bytes w128 0xB5D839330AC7B7860000000000000000)
    ++ to_be_bytes w128 0x578782FFF6013B815B287C22493A364C
unfolding gcm_siv_on_literals
seal_128-8_bytes = refl

-- two blocks, and a byte of additional data
pub seal_128-data : gcm_siv_seal (block 1) iv (block 2 ++ block 3) (1 ∷ [])
    ≡ iv ++ to_be_bytes w128 0x620048EF3C1E73E57E02BB8562C416A3
    ++ to_be_bytes w128 0x19E73E4CAAC8E96A1ECB2933145A1D71
    ++ to_be_bytes w128 0xE6AF6A7F87287DA059A71684ED3498E1
unfolding gcm_siv_on_literals
seal_128-data = refl

pub open_128-data : gcm_siv_open (block 1)
    (iv ++ to_be_bytes w128 0x620048EF3C1E73E57E02BB8562C416A3
    ++ to_be_bytes w128 0x19E73E4CAAC8E96A1ECB2933145A1D71
    ++ to_be_bytes w128 0xE6AF6A7F87287DA059A71684ED3498E1) (1 ∷ [])
    ≡ Some (block 2 ++ block 3)
unfolding gcm_siv_on_literals
open_128-data = refl

-- all of the key and of the nonce count
pub seal_128-other_key : gcm_siv_seal (to_be_bytes w128 0x36864200E0EAF5284D884A0E77D31646)
    (take 12 (to_be_bytes w128 0xBAE8E37FC83441B16034566B00000000)) (0x7A ∷ 0x80 ∷ 0x6C ∷ [])
    (0x46 ∷ 0xBB ∷ 0x91 ∷ 0xC3 ∷ 0xC5 ∷ [])
    ≡ take 12 (to_be_bytes w128 0xBAE8E37FC83441B16034566B00000000)
    ++ (0xAF ∷ 0x60 ∷ 0xEB ∷ []) ++ to_be_bytes w128 0x711BD85BC1E4D3E0A462E074EEA428A8
unfolding gcm_siv_on_literals
seal_128-other_key = refl

-- ---- AEAD_AES_256_GCM_SIV (C.2)

pub seal_256-empty : gcm_siv_seal (block 1 ++ block 0) iv [] []
    ≡ iv ++ to_be_bytes w128 0x07F5F4169BBF55A8400CD47EA6FD400F
unfolding gcm_siv_on_literals
seal_256-empty = refl

-- a block
pub seal_256-block : gcm_siv_seal (block 1 ++ block 0) iv (block 1) []
    ≡ iv ++ to_be_bytes w128 0x85A01B63025BA19B7FD3DDFC033B3E76
    ++ to_be_bytes w128 0xC9EAC6FA700942702E90862383C6C366
unfolding gcm_siv_on_literals
seal_256-block = refl

-- a part of a block, and a byte of additional data
pub seal_256-data : gcm_siv_seal (block 1 ++ block 0) iv (take 12 (block 2)) (1 ∷ [])
    ≡ iv ++ take 12 (to_be_bytes w128 0x163D6F9CC1B346CD453A2E4C00000000)
    ++ to_be_bytes w128 0xC1A4A19AE800941CCDC57CC8413C277F
unfolding gcm_siv_on_literals
seal_256-data = refl

-- ---- the counter wraps (C.3)

-- the tag's first four bytes are ones, so the counter is 0 for the second block, and the other twelve
-- bytes stay
pub seal-wraps : gcm_siv_seal (replicate 32 0) (replicate 12 0)
    (replicate 16 0 ++ to_be_bytes w128 0x4DB923DC793EE6497C76DCC03A98E108) []
    ≡ replicate 12 0 ++ to_be_bytes w128 0xF3F80F2CF0CB2DD9C5984FCDA908456C
    ++ to_be_bytes w128 0xC537703B5BA70324A6793A7BF218D3EA
    ++ to_be_bytes w128 0xFFFFFFFF000000000000000000000000
unfolding gcm_siv_on_literals
seal-wraps = refl

pub seal-wraps_in_a_part : gcm_siv_seal (replicate 32 0) (replicate 12 0)
    (to_be_bytes w128 0xEB3640277C7FFD1303C7A542D02D3E4C ++ replicate 8 0) []
    ≡ replicate 12 0 ++ to_be_bytes w128 0x18CE4F0B8CB4D0CAC65FEA8F79257B20
    ++ take 8 (to_be_bytes w128 0x888E53E72299E56D0000000000000000)
    ++ to_be_bytes w128 0xFFFFFFFF000000000000000000000000
unfolding gcm_siv_on_literals
seal-wraps_in_a_part = refl
