-- Both of Tink's schemes are ciphers of segments.
use Rattle.std.proofs.Common.{◌≡◌, ℕ, ◌+◌, ◌-◌, ◌<◌, ◌≤◌, cond, nat_lt, Some, None, List, [], ◌∷◌, ◌++◌, length, refl, sym, ap, ◌∙◌, arith}
use Rattle.std.specs.Prelude.{All, Bool}
use Rattle.std.specs.List.{AllByRecursion}
use Rattle.std.proofs.lemmas.Bool.{cond-false, cond-true, cond_both, le-ltb, lt-ltb, ltb-false}
use Rattle.std.proofs.lemmas.List.{drop_at, length-append, length-take-le, take_at}
use Rattle.std.proofs.lemmas.List.Elements.{All-cons}
use Rattle.std.proofs.lemmas.Option.{none-some, same_Some}
use Rattle.std.proofs.lemmas.Slice.Eq.{bytes_eq-Decides}
use Rattle.std.specs.Str.{bytes_eq}
use Rattle.tink_base.specs.Hash.{hash_size}
use Rattle.tink_base.specs.declared.hash.Hash.{Hash}
use Rattle.aes_core.specs.declared.counter.CtrKind.TheVariants.{All128}
use Rattle.aes_core.proofs.CounterMode.{ctr-ctr, length-ctr}
use Rattle.mac_prf.specs.Hmac.{hmac}
use Rattle.mac_prf.proofs.HmacLemmas.{length-hmac}
use Rattle.aead_kinds.specs.Gcm.{gcm_tag, gcm_text}
use Rattle.aead_kinds.specs.Segment.{body_of, opened_with, sealed_with, segment_open, segment_seal, segment_tag, segment_text, tag_of}
use Rattle.aead_kinds.proofs.GcmLemmas.{gcm_text-gcm_text, length-gcm_tag, length-gcm_text}
use Rattle.segment_stream.specs.Cipher.{IsCipher}
use Rattle.segment_stream.specs.Segments.{HasTag, IsSound, cipher_of, ciphers_of, keys_under, nonce, nonce_prefix, opens_under, salt_of, seals_under, start_of, tag_size_of}
use Rattle.segment_stream.specs.declared.key.StreamKey.{StreamKey}
use Rattle.segment_stream.specs.declared.key.SegmentScheme.{SegmentScheme}
use Rattle.segment_stream.specs.declared.key.SegmentScheme.TheVariants as schemes

-- the cipher undoes itself and keeps lengths, and the tag has t bytes
pub record IsPair (crypt tag : List ℕ → List ℕ) (t : ℕ) : Type 0 where
  pub back : (text : List ℕ) → crypt (crypt text) ≡ text
  pub long : (text : List ℕ) → length (crypt text) ≡ length text
  pub size : (text : List ℕ) → length (tag text) ≡ t

pub length-sealed_with : (crypt tag : List ℕ → List ℕ) (t : ℕ) (plain : List ℕ)
    → IsPair crypt tag t → length (sealed_with crypt tag plain) ≡ length plain + t
unfolding sealed_with
length-sealed_with crypt tag t plain is =
    omega (
      arith,
      length-append (crypt plain) (tag (crypt plain)),
      is.long plain,
      is.size (crypt plain),
    )

-- a segment whose tag is the one computed anew opens
pub authentic-opens : (crypt tag : List ℕ → List ℕ) (t : ℕ) (segment : List ℕ)
    → t ≤ length segment → tag_of t segment ≡ tag (body_of t segment)
    → opened_with crypt tag t segment ≡ Some (crypt (body_of t segment))
unfolding opened_with
authentic-opens crypt tag t segment long same =
    let anew = tag (body_of t segment) in
    let plain = Some (crypt (body_of t segment)) in
    let test = bytes_eq (tag_of t segment) anew in
    cond-false (nat_lt (length segment) t) None (cond test plain None)
    (le-ltb (length segment) t long)
    ∙ cond-true test plain None ((bytes_eq-Decides (tag_of t segment) anew).1 same)

pub short-closed : (crypt tag : List ℕ → List ℕ) (t : ℕ) (segment : List ℕ)
    → length segment < t → opened_with crypt tag t segment ≡ None
unfolding opened_with
short-closed crypt tag t segment short =
    let anew = tag (body_of t segment) in
    let plain = Some (crypt (body_of t segment)) in
    cond-true (nat_lt (length segment) t) None
    (cond (bytes_eq (tag_of t segment) anew) plain None) (lt-ltb (length segment) t short)

pub other_tag-closed : (crypt tag : List ℕ → List ℕ) (t : ℕ) (segment : List ℕ)
    → t ≤ length segment → (tag_of t segment ≡ tag (body_of t segment) → ⊥)
    → opened_with crypt tag t segment ≡ None
unfolding opened_with
other_tag-closed crypt tag t segment long other =
    let anew = tag (body_of t segment) in
    let plain = Some (crypt (body_of t segment)) in
    let test = bytes_eq (tag_of t segment) anew in
    cond-false (nat_lt (length segment) t) None (cond test plain None)
    (le-ltb (length segment) t long)
    ∙ cond_both test plain None (λ o. o ≡ None)
    (λ same. absurd (other ((bytes_eq-Decides (tag_of t segment) anew).0 same))) (λ e. refl)

-- what opens has a tag more than its plaintext
pub opened_with-length : (crypt tag : List ℕ → List ℕ) (t : ℕ) (segment plain : List ℕ)
    → IsPair crypt tag t → opened_with crypt tag t segment ≡ Some plain
    → length segment ≡ length plain + t
unfolding opened_with
opened_with-length crypt tag t segment plain is =
    let text : List ℕ = crypt (body_of t segment) in
    let test = bytes_eq (tag_of t segment) (tag (body_of t segment)) in
    let fact : Type 0 = length segment ≡ length plain + t in
    cond_both (nat_lt (length segment) t) None (cond test (Some text) None)
    (λ o. o ≡ Some plain → fact)
    (λ short e. absurd (none-some plain e))
    (λ long. cond_both test (Some text) None
    (λ o. o ≡ Some plain → fact)
    (λ same e. omega (
      arith,
      ap (λ l. length l) (same_Some text plain e),
      is.long (body_of t segment),
      ltb-false (length segment) t long,
      length-take-le (length segment - t) segment (omega arith),
    ))
    (λ other e. absurd (none-some plain e)))

-- what was sealed opens
pub sealed_with-opens : (crypt tag : List ℕ → List ℕ) (t : ℕ) (plain : List ℕ)
    → IsPair crypt tag t → opened_with crypt tag t (sealed_with crypt tag plain) ≡ Some plain
unfolding sealed_with
sealed_with-opens crypt tag t plain is =
    let text = crypt plain in
    let made = tag text in
    let segment = text ++ made in
    let whole = length-append text made in
    let cut : length text ≡ length segment - t = omega (arith, whole, is.size text) in
    let body : body_of t segment ≡ text = take_at text made (length segment - t) cut in
    let back : tag_of t segment ≡ made = drop_at text made (length segment - t) cut in
    authentic-opens crypt tag t segment (omega (arith, whole, is.size text))
    (back ∙ ap (λ l. tag l) (sym body))
    ∙ ap (λ l. Some (crypt l)) body ∙ ap (λ l. Some l) (is.back plain)

-- ---- the two schemes

pub gcm-is_pair : (aes iv : List ℕ) → IsPair (gcm_text aes iv) (gcm_tag aes iv []) 16
gcm-is_pair aes iv = record {
  back = gcm_text-gcm_text aes iv;
  long = length-gcm_text aes iv;
  size = length-gcm_tag aes iv [];
}

pub ctr_hmac-is_pair : (aes : List ℕ) (hash : Hash) (mac : List ℕ) (t : ℕ) (start : List ℕ)
    → t ≤ hash_size hash → IsPair (segment_text aes start) (segment_tag hash mac t start) t
unfolding segment_text segment_tag
ctr_hmac-is_pair aes hash mac t start h = record {
  back = ctr-ctr aes start All128;
  long = length-ctr aes start All128;
  size = λ text. length-take-le t (hmac hash mac (start ++ text))
      (omega (arith, h, length-hmac hash mac (start ++ text)));
}

scheme-lengthens : (scheme : SegmentScheme) (key : StreamKey) (ad salt prefix : List ℕ)
    (number : ℕ) (last : Bool) (plain : List ℕ) → HasTag scheme
    → length (seals_under (keys_under scheme key ad salt) prefix number last plain)
    ≡ length plain + tag_size_of scheme
unfolding keys_under seals_under segment_seal
scheme-lengthens schemes.Gcm key ad salt prefix number last plain h =
    length-sealed_with _ _ 16 plain (gcm-is_pair _ (nonce prefix number last))
scheme-lengthens (schemes.CtrHmac hash t) key ad salt prefix number last plain h =
    length-sealed_with _ _ t plain (ctr_hmac-is_pair _ hash _ t (start_of prefix number last) h.1)

scheme-opens : (scheme : SegmentScheme) (key : StreamKey) (ad salt prefix : List ℕ)
    (number : ℕ) (last : Bool) (plain : List ℕ) → HasTag scheme
    → opens_under (keys_under scheme key ad salt) prefix number last
    (seals_under (keys_under scheme key ad salt) prefix number last plain) ≡ Some plain
unfolding keys_under seals_under opens_under segment_seal segment_open
scheme-opens schemes.Gcm key ad salt prefix number last plain h =
    sealed_with-opens _ _ 16 plain (gcm-is_pair _ (nonce prefix number last))
scheme-opens (schemes.CtrHmac hash t) key ad salt prefix number last plain h =
    sealed_with-opens _ _ t plain (ctr_hmac-is_pair _ hash _ t (start_of prefix number last) h.1)

scheme-shortens : (scheme : SegmentScheme) (key : StreamKey) (ad salt prefix : List ℕ)
    (number : ℕ) (last : Bool) (segment plain : List ℕ) → HasTag scheme
    → opens_under (keys_under scheme key ad salt) prefix number last segment ≡ Some plain
    → length segment ≡ length plain + tag_size_of scheme
unfolding keys_under opens_under segment_open
scheme-shortens schemes.Gcm key ad salt prefix number last segment plain h =
    opened_with-length _ _ 16 segment plain (gcm-is_pair _ (nonce prefix number last))
scheme-shortens (schemes.CtrHmac hash t) key ad salt prefix number last segment plain h =
    opened_with-length _ _ t segment plain
    (ctr_hmac-is_pair _ hash _ t (start_of prefix number last) h.1)

pub cipher_of-is_cipher : (ad : List ℕ) (key : StreamKey) → IsSound key → IsCipher (cipher_of ad key)
cipher_of-is_cipher ad key sound = record {
  some = omega arith;
  room = sound.room;
  lengthens = λ header number last plain.
      scheme-lengthens key.scheme key ad (salt_of key header) (nonce_prefix key header) number last plain sound.tag;
  opens_back = λ header number last plain a b c.
      scheme-opens key.scheme key ad (salt_of key header) (nonce_prefix key header) number last plain sound.tag;
  shortens = λ header number last bytes plain.
      scheme-shortens key.scheme key ad (salt_of key header) (nonce_prefix key header) number last bytes plain
      sound.tag;
}

pub ciphers_of-are_ciphers : (ad : List ℕ) (keys : List StreamKey) → AllByRecursion IsSound keys
    → All IsCipher (ciphers_of ad keys)
ciphers_of-are_ciphers ad [] sound = λ k d lt. absurd (omega arith)
ciphers_of-are_ciphers ad (key ∷ keys) sound =
    All-cons IsCipher (cipher_of ad key) (ciphers_of ad keys) (cipher_of-is_cipher ad key sound.0)
    (ciphers_of-are_ciphers ad keys sound.1)
