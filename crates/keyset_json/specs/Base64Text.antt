-- Bytes as text: base64 (RFC 4648, sections 4 and 5) with the standard alphabet or the one for URLs
-- and file names, with its padding or without any. Bits behind the last byte are 0. A text of both
-- alphabets stands for nothing.
--
-- The engines are those of the crate `base64`.
use Rattle.std.specs.Prelude.{◌≡◌, ◌≢◌, ◌⊎◌, List, [], ◌∷◌, ℕ, Option, Some, None}
use Rattle.base64.specs.GeneralPurpose.{encode_of, decoded_of, IsBytes}
use Rattle.base64.specs.declared.engine.general_purpose.GeneralPurpose.{GeneralPurpose}
use Rattle.base64.specs.Engines.{standard, standard_no_pad, url_safe, url_safe_no_pad}
use Rattle.keyset_model.specs.Keyset.{first_some}

-- what the first engine that reads the text gives
unfoldable pub bytes_of_text : List ℕ → Option (List ℕ)
bytes_of_text text = first_some (
    decoded_of standard text
    ∷ decoded_of standard_no_pad text
    ∷ decoded_of url_safe text
    ∷ decoded_of url_safe_no_pad text
    ∷ [])

-- the text is the engine's encoding of the bytes that it gives, or of none
abbrev pub IsEncodingBy : GeneralPurpose → List ℕ → Option (List ℕ) → Type 0
IsEncodingBy engine text (Some bytes) = IsBytes bytes × (text ≡ encode_of engine bytes)
IsEncodingBy engine text None = (bytes : List ℕ) → IsBytes bytes → text ≢ encode_of engine bytes

-- the text is an encoding of the bytes
abbrev pub Encodes : List ℕ → List ℕ → Type 0
Encodes text bytes =
    (text ≡ encode_of standard bytes)
    ⊎ ((text ≡ encode_of standard_no_pad bytes)
    ⊎ ((text ≡ encode_of url_safe bytes)
    ⊎ (text ≡ encode_of url_safe_no_pad bytes)))

-- the text is an encoding of the bytes that it gives, or of none
abbrev pub IsEncoding : List ℕ → Option (List ℕ) → Type 0
IsEncoding text (Some bytes) = IsBytes bytes × Encodes text bytes
IsEncoding text None = (bytes : List ℕ) → IsBytes bytes → ¬ Encodes text bytes
