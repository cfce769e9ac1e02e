-- What the calls on segments compute, in the words of the definitions.
use Rattle.std.proofs.Common.{◌≡◌, ℕ, ◌+◌, ◌-◌, ◌<◌, ◌≤◌, List, [], ◌∷◌, ◌++◌, length, set, replicate, take, drop, refl, sym, subst, ◌∙◌, ap, arith, append_assoc, ◌⊎◌, inl, inr}
use Rattle.std.specs.Prelude.{Bool, Some, None}
use Rattle.std.proofs.lemmas.List.{drop_at, length-append, set-append_right, take_at}
use Rattle.tink_base.specs.declared.hash.Hash.{Hash}
use Rattle.mac_prf.specs.Hkdf.{hkdf}
use Rattle.aead_kinds.specs.Gcm.{gcm_tag, gcm_text}
use Rattle.aead_kinds.specs.Segment.{body_of, opened_with, sealed_with, segment_open, segment_seal, segment_tag, segment_text, tag_of}
use borrow.Rule.Slice.PartMut.{put_mid}
use Rattle.segment_stream.specs.Segments.{FitsHash, HasTag, IsSound, cipher_of, header_size, keys_of, keys_under, nonce, nonce_prefix, opens_under, salt_of, seals_under, start_of, tag_size_of, tag_size_under}
use Rattle.segment_stream.specs.Streams.{IsUnder, StreamState}
use Rattle.segment_stream.specs.Cipher.{SegmentCipher}
use Rattle.segment_stream.specs.declared.key.StreamKey.{StreamKey}
use Rattle.segment_stream.specs.declared.key.SegmentScheme.{SegmentScheme}
use Rattle.segment_stream.specs.declared.key.SegmentScheme.TheVariants as schemes
use Rattle.segment_stream.specs.declared.segments.SegmentKeys.{SegmentKeys}
use Rattle.segment_stream.specs.declared.segments.SegmentKeys.TheVariants as keys_for
use Rattle.segment_stream.proofs.CipherLemmas.{authentic-opens, cipher_of-is_cipher, other_tag-closed, short-closed}

-- ---- derived keys

pub gcm_under : (key : StreamKey) (ad salt out aes : List ℕ) (n : ℕ) → aes ≡ out
    → out ≡ hkdf key.hash key.value salt ad n → n ≡ key.derived
    → keys_for.Gcm aes ≡ keys_under schemes.Gcm key ad salt
unfolding keys_under
gcm_under key ad salt out aes n a o e =
    ap (λ (l : List ℕ). keys_for.Gcm l) (a ∙ o ∙ ap (hkdf key.hash key.value salt ad) e)

pub ctr_hmac_under : (key : StreamKey) (hash : Hash) (tag_size : ℕ) (ad salt out aes mac : List ℕ)
    (n : ℕ) → aes ≡ take key.derived out → mac ≡ drop key.derived out
    → out ≡ hkdf key.hash key.value salt ad n → n ≡ key.derived + 32
    → keys_for.CtrHmac (record { aes = aes; hash = hash; mac = mac; tag_size = tag_size }) ≡ keys_under (schemes.CtrHmac hash tag_size) key ad salt
unfolding keys_under
ctr_hmac_under key hash tag_size ad salt out aes mac n a m o e =
    let all : out ≡ hkdf key.hash key.value salt ad (key.derived + 32)
    = o ∙ ap (hkdf key.hash key.value salt ad) e in
    ap (λ (l : List ℕ). keys_for.CtrHmac (record { aes = l; hash = hash; mac = mac; tag_size = tag_size })) (a ∙ ap (take key.derived) all)
    ∙ ap (λ (l : List ℕ). keys_for.CtrHmac (record { aes = take key.derived (hkdf key.hash key.value salt ad (key.derived + 32)); hash = hash; mac = l; tag_size = tag_size }))
    (m ∙ ap (drop key.derived) all)

pub at_most : (n : ℕ) → (n ≡ 16) ⊎ (n ≡ 32) → n ≤ 32
at_most n (inl e) = omega arith
at_most n (inr e) = omega arith

pub fits_under : (scheme : SegmentScheme) (key : StreamKey) (ad salt : List ℕ) (keys : SegmentKeys)
    → HasTag scheme → keys ≡ keys_under scheme key ad salt → FitsHash keys
unfolding keys_under
fits_under schemes.Gcm key ad salt keys h e = subst (λ (k : SegmentKeys). FitsHash k) (sym e) tt
fits_under (schemes.CtrHmac hash tag_size) key ad salt keys h e =
    subst (λ (k : SegmentKeys). FitsHash k) (sym e) h.1

tag_under : (scheme : SegmentScheme) (key : StreamKey) (ad salt : List ℕ)
    → tag_size_under (keys_under scheme key ad salt) ≡ tag_size_of scheme
unfolding keys_under
tag_under schemes.Gcm key ad salt = refl
tag_under (schemes.CtrHmac hash tag_size) key ad salt = refl

-- the keys of a stream and its nonce prefix seal and open as the cipher does
pub derived_under : (key : StreamKey) (ad header prefix : List ℕ) (keys : SegmentKeys) → IsSound key
    → length header ≡ header_size key → keys ≡ keys_of key ad header
    → prefix ≡ nonce_prefix key header
    → IsUnder (record { keys = keys; prefix = prefix; size = key.segment }) (cipher_of ad key) header
derived_under key ad header prefix keys sound whole k p = record {
  is = cipher_of-is_cipher ad key sound;
  size = refl;
  tag = ap tag_size_under k ∙ tag_under key.scheme key ad (salt_of key header);
  whole = whole;
  seals = λ number last plain.
      ap (λ (x : SegmentKeys). seals_under x prefix number last plain) k
      ∙ ap (λ (l : List ℕ). seals_under (keys_of key ad header) l number last plain) p;
  opens = λ number last segment.
      ap (λ (x : SegmentKeys). opens_under x prefix number last segment) k
      ∙ ap (λ (l : List ℕ). opens_under (keys_of key ad header) l number last segment) p;
}

-- the stream is left as it was
pub still_under : (was now : StreamState) (key : SegmentCipher) (header : List ℕ) → now ≡ was
    → IsUnder was key header → IsUnder now key header
still_under was now key header e u = subst (λ (s : StreamState). IsUnder s key header) (sym e) u

-- ---- a nonce, written part by part

pub nonce_parts : (prefix number : List ℕ) (last : ℕ) → length prefix ≡ 7 → length number ≡ 4
    → set (put_mid 7 4 (prefix ++ 0 ∷ 0 ∷ 0 ∷ 0 ∷ 0 ∷ []) number) 11 last
    ≡ prefix ++ (number ++ (last ∷ []))
nonce_parts prefix number last p n =
    let zeros : List ℕ = 0 ∷ 0 ∷ 0 ∷ 0 ∷ 0 ∷ [] in
    let first : put_mid 7 4 (prefix ++ zeros) number ≡ (prefix ++ number) ++ 0 ∷ []
    = ap (λ (l : List ℕ). l ++ (number ++ drop 4 (drop 7 (prefix ++ zeros)))) (take_at prefix zeros 7 p)
    ∙ ap (λ (l : List ℕ). prefix ++ (number ++ drop 4 l)) (drop_at prefix zeros 7 p)
    ∙ sym (append_assoc prefix number (0 ∷ [])) in
    let long : length (prefix ++ number) ≡ 11 = omega (arith, length-append prefix number, p, n) in
    ap (λ (l : List ℕ). set l 11 last) first
    ∙ set-append_right (prefix ++ number) (0 ∷ []) 11 11 last long (omega arith)
    ∙ append_assoc prefix number (last ∷ [])

-- ---- ciphertext and tag

pub joined-opens : (crypt tag : List ℕ → List ℕ) (t : ℕ) (body made plain : List ℕ)
    → length made ≡ t → tag body ≡ made → plain ≡ crypt body
    → opened_with crypt tag t (body ++ made) ≡ Some plain
joined-opens crypt tag t body made plain size same is =
    let whole = length-append body made in
    let cut : length body ≡ length (body ++ made) - t = omega (arith, whole, size) in
    let front : body_of t (body ++ made) ≡ body = take_at body made (length (body ++ made) - t) cut in
    let back : tag_of t (body ++ made) ≡ made = drop_at body made (length (body ++ made) - t) cut in
    authentic-opens crypt tag t (body ++ made) (omega (arith, whole, size))
    (back ∙ sym same ∙ ap tag (sym front))
    ∙ ap (λ (l : List ℕ). Some (crypt l)) front ∙ ap (λ (l : List ℕ). Some l) (sym is)

pub joined-closed : (crypt tag : List ℕ → List ℕ) (t : ℕ) (body made : List ℕ)
    → length made ≡ t → (tag body ≡ made → ⊥)
    → opened_with crypt tag t (body ++ made) ≡ None
joined-closed crypt tag t body made size other =
    let whole = length-append body made in
    let cut : length body ≡ length (body ++ made) - t = omega (arith, whole, size) in
    let front : body_of t (body ++ made) ≡ body = take_at body made (length (body ++ made) - t) cut in
    let back : tag_of t (body ++ made) ≡ made = drop_at body made (length (body ++ made) - t) cut in
    other_tag-closed crypt tag t (body ++ made) (omega (arith, whole, size))
    (λ e. other (ap tag (sym front) ∙ sym e ∙ back))

-- ---- under the keys of a stream

pub gcm-seals : (keys : SegmentKeys) (aes prefix plain body made : List ℕ) (number : ℕ) (last : Bool)
    (iv : List ℕ) → keys ≡ keys_for.Gcm aes → iv ≡ nonce prefix number last
    → body ≡ gcm_text aes iv plain → made ≡ gcm_tag aes iv [] body
    → body ++ made ≡ seals_under keys prefix number last plain
unfolding seals_under sealed_with
gcm-seals keys aes prefix plain body made number last iv k e b m =
    let text : body ≡ gcm_text aes (nonce prefix number last) plain
    = b ∙ ap (λ (l : List ℕ). gcm_text aes l plain) e in
    ap (λ (l : List ℕ). body ++ l) (m ∙ ap (λ (l : List ℕ). gcm_tag aes l [] body) e)
    ∙ ap (λ (l : List ℕ). l ++ gcm_tag aes (nonce prefix number last) [] l) text
    ∙ ap (λ (x : SegmentKeys). seals_under x prefix number last plain) (sym k)

pub ctr_hmac-seals : (keys : SegmentKeys) (aes : List ℕ) (hash : Hash) (mac : List ℕ) (t : ℕ)
    (prefix plain body made : List ℕ) (number : ℕ) (last : Bool) (iv start : List ℕ) (n : ℕ)
    → keys ≡ keys_for.CtrHmac (record { aes = aes; hash = hash; mac = mac; tag_size = t }) → iv ≡ nonce prefix number last
    → start ≡ iv ++ replicate 4 0 → n ≡ tag_size_under keys → body ≡ segment_text aes start plain
    → made ≡ segment_tag hash mac n start body
    → body ++ made ≡ seals_under keys prefix number last plain
unfolding seals_under segment_seal sealed_with
ctr_hmac-seals keys aes hash mac t prefix plain body made number last iv start n k e s z b m =
    let at : start ≡ start_of prefix number last = s ∙ ap (λ (l : List ℕ). l ++ replicate 4 0) e in
    let text : body ≡ segment_text aes (start_of prefix number last) plain
    = b ∙ ap (λ (l : List ℕ). segment_text aes l plain) at in
    let size : n ≡ t = z ∙ ap tag_size_under k in
    ap (λ (l : List ℕ). body ++ l) (m ∙ ap (λ i. segment_tag hash mac i start body) size
    ∙ ap (λ (l : List ℕ). segment_tag hash mac t l body) at)
    ∙ ap (λ (l : List ℕ). l ++ segment_tag hash mac t (start_of prefix number last) l) text
    ∙ ap (λ (x : SegmentKeys). seals_under x prefix number last plain) (sym k)

pub gcm-opens : (keys : SegmentKeys) (aes prefix body made plain : List ℕ) (number : ℕ) (last : Bool)
    (iv : List ℕ) → keys ≡ keys_for.Gcm aes → iv ≡ nonce prefix number last
    → length made ≡ tag_size_under keys → gcm_tag aes iv [] body ≡ made
    → plain ≡ gcm_text aes iv body
    → opens_under keys prefix number last (body ++ made) ≡ Some plain
unfolding opens_under
gcm-opens keys aes prefix body made plain number last iv k e size same is =
    ap (λ (x : SegmentKeys). opens_under x prefix number last (body ++ made)) k
    ∙ joined-opens (gcm_text aes (nonce prefix number last))
    (gcm_tag aes (nonce prefix number last) []) 16 body made plain (size ∙ ap tag_size_under k)
    (ap (λ (l : List ℕ). gcm_tag aes l [] body) (sym e) ∙ same)
    (is ∙ ap (λ (l : List ℕ). gcm_text aes l body) e)

pub gcm-closed : (keys : SegmentKeys) (aes prefix body made : List ℕ) (number : ℕ) (last : Bool)
    (iv : List ℕ) → keys ≡ keys_for.Gcm aes → iv ≡ nonce prefix number last
    → length made ≡ tag_size_under keys → (gcm_tag aes iv [] body ≡ made → ⊥)
    → opens_under keys prefix number last (body ++ made) ≡ None
unfolding opens_under
gcm-closed keys aes prefix body made number last iv k e size other =
    ap (λ (x : SegmentKeys). opens_under x prefix number last (body ++ made)) k
    ∙ joined-closed (gcm_text aes (nonce prefix number last))
    (gcm_tag aes (nonce prefix number last) []) 16 body made (size ∙ ap tag_size_under k)
    (λ h. other (ap (λ (l : List ℕ). gcm_tag aes l [] body) e ∙ h))

pub ctr_hmac-opens : (keys : SegmentKeys) (aes : List ℕ) (hash : Hash) (mac : List ℕ) (t : ℕ)
    (prefix body made plain : List ℕ) (number : ℕ) (last : Bool) (iv start : List ℕ)
    → keys ≡ keys_for.CtrHmac (record { aes = aes; hash = hash; mac = mac; tag_size = t }) → iv ≡ nonce prefix number last
    → start ≡ iv ++ replicate 4 0 → length made ≡ tag_size_under keys
    → segment_tag hash mac (length made) start body ≡ made → plain ≡ segment_text aes start body
    → opens_under keys prefix number last (body ++ made) ≡ Some plain
unfolding opens_under segment_open
ctr_hmac-opens keys aes hash mac t prefix body made plain number last iv start k e s z same is =
    let first = start_of prefix number last in
    let at : start ≡ first = s ∙ ap (λ (l : List ℕ). l ++ replicate 4 0) e in
    let size : length made ≡ t = z ∙ ap tag_size_under k in
    ap (λ (x : SegmentKeys). opens_under x prefix number last (body ++ made)) k
    ∙ joined-opens (segment_text aes first) (segment_tag hash mac t first) t body made plain size
    (ap (λ (l : List ℕ). segment_tag hash mac t l body) (sym at)
    ∙ ap (λ i. segment_tag hash mac i start body) (sym size) ∙ same)
    (is ∙ ap (λ (l : List ℕ). segment_text aes l body) at)

pub ctr_hmac-closed : (keys : SegmentKeys) (aes : List ℕ) (hash : Hash) (mac : List ℕ) (t : ℕ)
    (prefix body made : List ℕ) (number : ℕ) (last : Bool) (iv start : List ℕ)
    → keys ≡ keys_for.CtrHmac (record { aes = aes; hash = hash; mac = mac; tag_size = t }) → iv ≡ nonce prefix number last
    → start ≡ iv ++ replicate 4 0 → length made ≡ tag_size_under keys
    → (segment_tag hash mac (length made) start body ≡ made → ⊥)
    → opens_under keys prefix number last (body ++ made) ≡ None
unfolding opens_under segment_open
ctr_hmac-closed keys aes hash mac t prefix body made number last iv start k e s z other =
    let first = start_of prefix number last in
    let at : start ≡ first = s ∙ ap (λ (l : List ℕ). l ++ replicate 4 0) e in
    let size : length made ≡ t = z ∙ ap tag_size_under k in
    ap (λ (x : SegmentKeys). opens_under x prefix number last (body ++ made)) k
    ∙ joined-closed (segment_text aes first) (segment_tag hash mac t first) t body made size
    (λ h. other (ap (λ i. segment_tag hash mac i start body) size
    ∙ ap (λ (l : List ℕ). segment_tag hash mac t l body) at ∙ h))

-- fewer bytes than a tag open nothing
pub short-opens_none : (keys : SegmentKeys) (prefix : List ℕ) (number : ℕ) (last : Bool)
    (segment : List ℕ) → length segment < tag_size_under keys
    → opens_under keys prefix number last segment ≡ None
unfolding opens_under segment_open
short-opens_none (keys_for.Gcm aes) prefix number last segment short =
    short-closed _ _ 16 segment short
short-opens_none (keys_for.CtrHmac keys) prefix number last segment short =
    short-closed _ _ keys.tag_size segment short
