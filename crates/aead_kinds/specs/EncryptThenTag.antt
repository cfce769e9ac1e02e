-- Sealing by encryption and a tag over what was encrypted, as EAX and AES-CTR-HMAC do it. `crypt` makes
-- the ciphertext of IV and plaintext, and the plaintext of IV and ciphertext; `tag` makes the tag of IV,
-- associated data and ciphertext.
--
--   sealed_by    IV, ciphertext and tag, joined
--   opened_by    the plaintext of those bytes, or none where they aren't authentic
use Rattle.std.specs.Prelude.{ℕ, ◌+◌, ◌-◌, nat_lt, if◌then◌else◌, Option, Some, None, List, ◌++◌, length, take, drop}
use Rattle.std.specs.Str.{bytes_eq}

-- the IV, the ciphertext, and the tag of IV, associated data and ciphertext, joined
unfoldable pub sealed_by : (List ℕ → List ℕ → List ℕ) → (List ℕ → List ℕ → List ℕ → List ℕ)
    → List ℕ → List ℕ → List ℕ → List ℕ
sealed_by crypt tag iv plain ad = let text = crypt iv plain in iv ++ text ++ tag iv ad text

-- ---- IV, ciphertext and tag of the bytes that are opened, by the sizes of IV and tag

-- the IV in front
abbrev pub iv_of : ℕ → List ℕ → List ℕ
iv_of iv_size bytes = take iv_size bytes

-- the ciphertext between IV and tag
abbrev pub text_of : ℕ → ℕ → List ℕ → List ℕ
text_of iv_size tag_size bytes = take (length bytes - (iv_size + tag_size)) (drop iv_size bytes)

-- the tag at the end
abbrev pub tag_of : ℕ → List ℕ → List ℕ
tag_of tag_size bytes = drop (length bytes - tag_size) bytes

-- the plaintext; none where there are fewer bytes than IV and tag have, and where the tag isn't the one
-- computed anew
unfoldable pub opened_by : (List ℕ → List ℕ → List ℕ) → (List ℕ → List ℕ → List ℕ → List ℕ)
    → ℕ → ℕ → List ℕ → List ℕ → Option (List ℕ)
opened_by crypt tag iv_size tag_size bytes ad =
    let iv = iv_of iv_size bytes in
    let text = text_of iv_size tag_size bytes in
    if nat_lt (length bytes) (iv_size + tag_size) then None
    else if bytes_eq (tag_of tag_size bytes) (tag iv ad text) then Some (crypt iv text)
    else None
