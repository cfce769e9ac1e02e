-- Sizes under valid keys, and what holds of sealing and opening, by one line for each kind.
use Rattle.std.proofs.Common.{◌≡◌, ◌↔◌, ◌∙◌, ℕ, ◌+◌, ◌<◌, ◌≤◌, Bool, true, false, refl, Option, Some, None, List, [], ◌∷◌, ◌++◌, length, take, ap, arith, sym, subst}
use Rattle.std.specs.Prelude.{nat_lt, if◌then◌else◌, not}
use Rattle.std.specs.List.{All}
use Rattle.std.specs.Str.{bytes_eq}
use Rattle.std.proofs.lemmas.List.{append_assoc, length-append, length-drop, length-take, take_at}
use Rattle.std.proofs.lemmas.List.Elements.{All-nil}
use Rattle.std.proofs.lemmas.Option.{same_Some}
use Rattle.aead_kinds.proofs.CtrHmacLemmas.{ctr_hmac-is_scheme}
use Rattle.aead_kinds.proofs.EaxLemmas.{eax-is_scheme, eax-opened}
use Rattle.aead_kinds.proofs.EncryptThenTagLemmas.{length-sealed_by}
use Rattle.aead_kinds.proofs.GcmLemmas.{length-gcm_seal, opened-sealed}
use Rattle.aead_kinds.specs.CtrHmac.{authenticated, ctr_hmac_open, ctr_hmac_seal, ctr_hmac_tag, ctr_hmac_text}
use Rattle.aead_kinds.specs.Eax.{eax_open, eax_seal, eax_tag, eax_text}
use Rattle.aead_kinds.specs.EncryptThenTag.{iv_of, opened_by, sealed_by, tag_of, text_of}
use Rattle.aead_kinds.specs.Gcm.{gcm_open, gcm_seal, gcm_tag, gcm_text}
use Rattle.aead_kinds.specs.Laws.{CtrHmacOpensSealings, CtrHmacSealsBytes, EaxOpensSealings, EaxSealsBytes, GcmOpensSealings, GcmSealsBytes}
use Rattle.aead_kinds.proofs.GcmSivLemmas.{length-gcm_siv_seal, length-gcm_siv_text}
use Rattle.aead_kinds.specs.GcmSiv.{gcm_siv_open, gcm_siv_seal, gcm_siv_tag, gcm_siv_text, is_authentic, plain_of}
use Rattle.aead_kinds.specs.GcmSivLaws.{GcmSivOpensSealings, GcmSivSealsBytes}
use Rattle.siv_daead.proofs.SivLemmas.{length-siv_seal, length-siv_text}
use Rattle.siv_daead.specs.Laws.{SivOpensSealings}
use Rattle.siv_daead.specs.Siv.{siv_open}
use Rattle.key_msgs.specs.KeyTypes.{primitive_of_type}
use Rattle.key_msgs.specs.Keys.{IsValid, contents_of, type_of, hash_number}
use Rattle.key_msgs.specs.declared.key.KeyKind.{KeyKind}
use Rattle.key_msgs.specs.declared.primitive.Primitive.TheVariants.{Aead, Daead}
use Rattle.mac_prf.proofs.HmacLemmas.{length-hmac}
use Rattle.mac_prf.specs.Hmac.{hmac}
use Rattle.managers.specs.Laws.{IsFor}
use Rattle.managers.specs.Uses.{dopen_key, dseal_of, iv_size, open_key, seal_of, sealed_size}
use Rattle.tink_base.specs.Hash.{hash_size, hash_of_number}
use Rattle.tink_base.specs.declared.hash.Hash.{Hash}
use Rattle.tink_base.specs.declared.hash.Hash.TheVariants.{Sha1, Sha224, Sha256, Sha384, Sha512}
use Rattle.std.proofs.lemmas.Grind.{common_steps}
use Rattle.key_msgs.specs.Rules.{hash_fits, key_fits, iv_fits, tag_fits, is_either, is_tag_of, is_within}
use Rattle.key_msgs.specs.declared.rule.Rule.{Rule}
use Rattle.aead_kinds.specs.GcmSiv as gcm_siv
use Rattle.siv_daead.specs.Siv as siv
use Rattle.key_msgs.specs.declared.key.KeyKind.TheVariants as kinds
use Rattle.key_msgs.specs.declared.key_type.KeyType.TheVariants as types
use Rattle.key_msgs.specs.declared.rule.Rule.TheVariants as broken

-- ---- what valid keys have

past : (b : Bool) (rule : Rule) (rest : Option Rule) → (if not b then Some rule else rest) ≡ None → (b ≡ true) × (rest ≡ None)
past true rule rest none = (refl, none)
past false rule rest none = cc

within : (least most n : ℕ) → is_within least most n ≡ true → (least ≤ n) × (n ≤ most)
within least most n is = grind (arith, common_steps)

tag_within : (hash : Hash) (n : ℕ) → is_tag_of (hash_of_number (hash_number hash)) n ≡ true → (10 ≤ n) × (n ≤ hash_size hash)
tag_within Sha1 n is = within 10 20 n is
tag_within Sha224 n is = within 10 28 n is
tag_within Sha256 n is = within 10 32 n is
tag_within Sha384 n is = within 10 48 n is
tag_within Sha512 n is = within 10 64 n is

-- the sizes of tags of AES-CTR-HMAC
pub ctr_hmac_tag-fits : (aes : List ℕ) (size : ℕ) (hash : Hash) (mac : List ℕ) (tag_size : ℕ)
    → IsValid (kinds.AesCtrHmac aes size hash mac tag_size) → (10 ≤ tag_size) × (tag_size ≤ hash_size hash)
ctr_hmac_tag-fits aes size hash mac tag_size valid =
    let key = kinds.AesCtrHmac aes size hash mac tag_size in
    let m = contents_of key in
    let from_hash = (past (hash_fits types.AesCtrHmac m) broken.Hash _ valid).1 in
    let from_key = (past (key_fits types.AesCtrHmac m) broken.KeySize _ from_hash).1 in
    let from_iv = (past (iv_fits types.AesCtrHmac m) broken.IvSize _ from_key).1 in
    tag_within hash tag_size (past (tag_fits types.AesCtrHmac m) broken.TagSize _ from_iv).0

either_small : (n : ℕ) → is_either 12 16 n ≡ true → n ≤ 16
either_small n is = grind (arith, common_steps)

-- an IV has at most 16 bytes
eax_iv-short : (key : List ℕ) (size : ℕ) → IsValid (kinds.AesEax key size) → size ≤ 16
eax_iv-short key size valid =
    let m = contents_of (kinds.AesEax key size) in
    let from_key = (past (key_fits types.AesEax m) broken.KeySize _ valid).1 in
    either_small size (past (iv_fits types.AesEax m) broken.IvSize _ from_key).0

ctr_hmac_iv-short : (aes : List ℕ) (size : ℕ) (hash : Hash) (mac : List ℕ) (tag_size : ℕ) → IsValid (kinds.AesCtrHmac aes size hash mac tag_size) → size ≤ 16
ctr_hmac_iv-short aes size hash mac tag_size valid =
    let m = contents_of (kinds.AesCtrHmac aes size hash mac tag_size) in
    let from_hash = (past (hash_fits types.AesCtrHmac m) broken.Hash _ valid).1 in
    let from_key = (past (key_fits types.AesCtrHmac m) broken.KeySize _ from_hash).1 in
    (within 12 16 size (past (iv_fits types.AesCtrHmac m) broken.IvSize _ from_key).0).1

-- ---- what holds of a key

-- each is below 256
abbrev pub Bytes : List ℕ → Type 0
Bytes xs = All (λ b. b < 256) xs

-- the laws of the schemes that seal under an IV: of bytes they seal bytes, and they open what they seal
pub record SealBytes : Type 0 where
  pub gcm : GcmSealsBytes
  pub eax : EaxSealsBytes
  pub ctr_hmac : CtrHmacSealsBytes
  pub gcm_siv : GcmSivSealsBytes

pub record OpenSealings : Type 0 where
  pub gcm : GcmOpensSealings
  pub eax : EaxOpensSealings
  pub ctr_hmac : CtrHmacOpensSealings
  pub gcm_siv : GcmSivOpensSealings

-- what holds of sealing under an IV, and of opening
pub record SealFacts (key : KeyKind) : Type 0 where
  -- an IV has at most 16 bytes, and stands at the front
  pub iv : IsValid key → iv_size key ≤ 16
  pub front : (iv plain ad : List ℕ) → length iv ≡ iv_size key → take (iv_size key) (seal_of key iv plain ad) ≡ iv
  -- a sealing is at most 64 bytes longer than IV and plaintext
  pub long : (iv plain ad : List ℕ) → length (seal_of key iv plain ad) ≤ length iv + length plain + 64
  -- it has as many bytes as are said, few more than the plaintext
  pub size : (iv plain ad : List ℕ) → IsValid key → length iv ≡ iv_size key → length (seal_of key iv plain ad) ≡ sealed_size key (length plain)
  pub most : (n : ℕ) → IsValid key → sealed_size key n ≤ n + 96
  -- where it has room for the plaintext, it is one of that
  pub same : (n : ℕ) (iv p q ad : List ℕ) → (iv_size key + n ≤ sealed_size key n → p ≡ q) → seal_of key iv p ad ≡ seal_of key iv q ad
  -- of bytes it is bytes
  pub bytes : SealBytes → (iv plain ad : List ℕ) → IsValid key → Bytes (contents_of key).key → Bytes iv → Bytes plain → Bytes (seal_of key iv plain ad)
  -- what is opened is what is sealed, and no longer than its sealing
  pub opens : OpenSealings → (bytes plain ad : List ℕ) → IsFor Aead key
      → open_key key bytes ad ≡ Some plain ↔ bytes ≡ seal_of key (take (iv_size key) bytes) plain ad
  pub short : (bytes plain ad : List ℕ) → open_key key bytes ad ≡ Some plain → length plain ≤ length bytes

-- the same without an IV
pub record DsealFacts (key : KeyKind) : Type 0 where
  pub long : (plain ad : List ℕ) → length (dseal_of key plain ad) ≤ length plain + 16
  pub opens : SivOpensSealings → (bytes plain ad : List ℕ) → IsFor Daead key → dopen_key key bytes ad ≡ Some plain ↔ bytes ≡ dseal_of key plain ad
  pub short : (bytes plain ad : List ℕ) → dopen_key key bytes ad ≡ Some plain → length plain ≤ length bytes

-- ---- every scheme

-- the first of three lists stands at the front
take-front : (n : ℕ) (xs ys zs : List ℕ) → length xs ≡ n → take n (xs ++ ys ++ zs) ≡ xs
take-front n xs ys zs is = ap (λ (all : List ℕ). take n all) (append_assoc xs ys zs) ∙ take_at xs (ys ++ zs) n is

tested : (short authentic : Bool) (text plain : List ℕ) → (if short then None else if authentic then Some text else None) ≡ Some plain → text ≡ plain
tested true b text plain e = cc
tested false true text plain e = same_Some _ _ e
tested false false text plain e = cc

-- ---- AES-GCM

gcm-front : (key iv plain ad : List ℕ) → length iv ≡ 12 → take 12 (gcm_seal key iv plain ad) ≡ iv
unfolding gcm_seal
gcm-front key iv plain ad whole = take-front 12 iv (gcm_text key iv plain) (gcm_tag key iv ad (gcm_text key iv plain)) whole

gcm-short : (key bytes plain ad : List ℕ) → gcm_open key bytes ad ≡ Some plain → length plain ≤ length bytes
gcm-short key bytes plain ad e = omega (arith, ap length (opened-sealed key bytes plain ad e), length-gcm_seal key (take 12 bytes) plain ad)

gcm_facts : (key : List ℕ) → SealFacts (kinds.AesGcm key)
gcm_facts key = record {
  iv = λ valid. omega arith;
  front = λ iv plain ad whole. gcm-front key iv plain ad whole;
  long = λ iv plain ad. omega (arith, length-gcm_seal key iv plain ad);
  size = λ iv plain ad valid whole. omega (arith, length-gcm_seal key iv plain ad, whole);
  most = λ n valid. omega arith;
  same = λ n iv p q ad is. ap (λ (plain : List ℕ). gcm_seal key iv plain ad) (is (omega arith));
  bytes = λ laws iv plain ad valid k i p. (laws.gcm key iv plain ad k i p).1;
  opens = λ laws bytes plain ad is. laws.gcm key bytes plain ad;
  short = λ bytes plain ad e. gcm-short key bytes plain ad e;
}

-- ---- EAX

pub length-eax : (key iv plain ad : List ℕ) → length (eax_seal key iv plain ad) ≡ length iv + length plain + 16
unfolding eax_seal
length-eax key iv plain ad = length-sealed_by (eax_text key) (eax_tag key) 16 iv plain ad (eax-is_scheme key)

eax-front : (key : List ℕ) (size : ℕ) (iv plain ad : List ℕ) → length iv ≡ size → take size (eax_seal key iv plain ad) ≡ iv
unfolding eax_seal sealed_by
eax-front key size iv plain ad whole = take-front size iv (eax_text key iv plain) (eax_tag key iv ad (eax_text key iv plain)) whole

eax-short : (key : List ℕ) (size : ℕ) (bytes plain ad : List ℕ) → eax_open key size bytes ad ≡ Some plain → length plain ≤ length bytes
eax-short key size bytes plain ad e = omega (arith, ap length (eax-opened key size bytes plain ad e), length-eax key (take size bytes) plain ad)

eax_facts : (key : List ℕ) (size : ℕ) → SealFacts (kinds.AesEax key size)
eax_facts key size = record {
  iv = λ valid. eax_iv-short key size valid;
  front = λ iv plain ad whole. eax-front key size iv plain ad whole;
  long = λ iv plain ad. omega (arith, length-eax key iv plain ad);
  size = λ iv plain ad valid whole. omega (arith, length-eax key iv plain ad, whole);
  most = λ n valid. omega (arith, eax_iv-short key size valid);
  same = λ n iv p q ad is. ap (λ (plain : List ℕ). eax_seal key iv plain ad) (is (omega arith));
  bytes = λ laws iv plain ad valid k i p. (laws.eax key iv plain ad k i p).1;
  opens = λ laws bytes plain ad is. laws.eax key size bytes plain ad;
  short = λ bytes plain ad e. eax-short key size bytes plain ad e;
}

-- ---- AES-CTR-HMAC

digest-small : (hash : Hash) → hash_size hash ≤ 64
digest-small Sha1 = omega arith
digest-small Sha224 = omega arith
digest-small Sha256 = omega arith
digest-small Sha384 = omega arith
digest-small Sha512 = omega arith

length-ctr_hmac : (aes : List ℕ) (hash : Hash) (mac : List ℕ) (tag_size : ℕ) (iv plain ad : List ℕ) → length (ctr_hmac_seal aes hash mac tag_size iv plain ad) ≤ length iv + length plain + 64
unfolding ctr_hmac_seal sealed_by ctr_hmac_tag
length-ctr_hmac aes hash mac tag_size iv plain ad =
    let text : List ℕ = ctr_hmac_text aes iv plain in
    let whole : List ℕ = hmac hash mac (authenticated iv ad text) in
    omega (
      arith,
      digest-small hash,
      length-hmac hash mac (authenticated iv ad text),
      (ctr_hmac-is_scheme aes Sha1 mac 1 (omega arith) (omega arith)).long iv plain,
      length-append iv text,
      length-append (iv ++ text) (take tag_size whole),
      length-take tag_size whole,
    )

-- with all bytes of its tag
whole-ctr_hmac : (aes : List ℕ) (size : ℕ) (hash : Hash) (mac : List ℕ) (tag_size : ℕ) (iv plain ad : List ℕ)
    → IsValid (kinds.AesCtrHmac aes size hash mac tag_size)
    → length (ctr_hmac_seal aes hash mac tag_size iv plain ad) ≡ length iv + length plain + tag_size
unfolding ctr_hmac_seal
whole-ctr_hmac aes size hash mac tag_size iv plain ad valid =
    let fits = ctr_hmac_tag-fits aes size hash mac tag_size valid in
    length-sealed_by (ctr_hmac_text aes) (ctr_hmac_tag hash mac tag_size) tag_size iv plain ad
    (ctr_hmac-is_scheme aes hash mac tag_size (omega (arith, fits)) fits.1)

ctr_hmac-front : (aes : List ℕ) (size : ℕ) (hash : Hash) (mac : List ℕ) (tag_size : ℕ) (iv plain ad : List ℕ) → length iv ≡ size
    → take size (ctr_hmac_seal aes hash mac tag_size iv plain ad) ≡ iv
unfolding ctr_hmac_seal sealed_by
ctr_hmac-front aes size hash mac tag_size iv plain ad whole =
    let text = ctr_hmac_text aes iv plain in take-front size iv text (ctr_hmac_tag hash mac tag_size iv ad text) whole

ctr_hmac-short : (aes : List ℕ) (size : ℕ) (hash : Hash) (mac : List ℕ) (tag_size : ℕ) (bytes plain ad : List ℕ)
    → ctr_hmac_open aes size hash mac tag_size bytes ad ≡ Some plain → length plain ≤ length bytes
unfolding ctr_hmac_open opened_by
ctr_hmac-short aes size hash mac tag_size bytes plain ad e =
    let iv : List ℕ = iv_of size bytes in
    let text : List ℕ = text_of size tag_size bytes in
    let is = tested (nat_lt (length bytes) (size + tag_size)) (bytes_eq (tag_of tag_size bytes) (ctr_hmac_tag hash mac tag_size iv ad text)) (ctr_hmac_text aes iv text) plain e in
    omega (
      arith,
      ap length is,
      (ctr_hmac-is_scheme aes Sha1 mac 1 (omega arith) (omega arith)).long iv text,
      length-take {A = ℕ},
      length-drop {A = ℕ},
    )

ctr_hmac_facts : (aes : List ℕ) (size : ℕ) (hash : Hash) (mac : List ℕ) (tag_size : ℕ) → SealFacts (kinds.AesCtrHmac aes size hash mac tag_size)
ctr_hmac_facts aes size hash mac tag_size = record {
  iv = λ valid. ctr_hmac_iv-short aes size hash mac tag_size valid;
  front = λ iv plain ad whole. ctr_hmac-front aes size hash mac tag_size iv plain ad whole;
  long = λ iv plain ad. length-ctr_hmac aes hash mac tag_size iv plain ad;
  size = λ iv plain ad valid whole. omega (arith, whole-ctr_hmac aes size hash mac tag_size iv plain ad valid, whole);
  most = λ n valid. omega (
    arith,
    ctr_hmac_iv-short aes size hash mac tag_size valid,
    ctr_hmac_tag-fits aes size hash mac tag_size valid,
    digest-small hash,
  );
  same = λ n iv p q ad is. ap (λ (plain : List ℕ). ctr_hmac_seal aes hash mac tag_size iv plain ad) (is (omega arith));
  bytes = λ laws iv plain ad valid k i p.
      let fits = ctr_hmac_tag-fits aes size hash mac tag_size valid in
      (laws.ctr_hmac aes hash mac tag_size iv plain ad (omega (arith, fits.0)) fits.1 k i p).1;
  opens = λ laws bytes plain ad is.
      let fits = ctr_hmac_tag-fits aes size hash mac tag_size is.1 in
      laws.ctr_hmac aes size hash mac tag_size bytes plain ad (omega (arith, fits)) fits.1;
  short = λ bytes plain ad e. ctr_hmac-short aes size hash mac tag_size bytes plain ad e;
}

-- ---- AES-GCM-SIV

gcm_siv-front : (key iv plain ad : List ℕ) → length iv ≡ 12 → take 12 (gcm_siv_seal key iv plain ad) ≡ iv
unfolding gcm_siv_seal
gcm_siv-front key iv plain ad whole =
    let tag = gcm_siv_tag key iv ad plain in take-front 12 iv (gcm_siv_text key iv tag plain) tag whole

gcm_siv-short : (key bytes plain ad : List ℕ) → gcm_siv_open key bytes ad ≡ Some plain → length plain ≤ length bytes
unfolding gcm_siv_open
gcm_siv-short key bytes plain ad e =
    let is = tested (nat_lt (length bytes) 28) (is_authentic key bytes ad) (plain_of key bytes) plain e in
    omega (
      arith,
      ap length is,
      length-gcm_siv_text key (gcm_siv.iv_of bytes) (gcm_siv.tag_of bytes) (gcm_siv.text_of bytes),
      length-take {A = ℕ},
      length-drop {A = ℕ},
    )

gcm_siv_facts : (key : List ℕ) → SealFacts (kinds.AesGcmSiv key)
gcm_siv_facts key = record {
  iv = λ valid. omega arith;
  front = λ iv plain ad whole. gcm_siv-front key iv plain ad whole;
  long = λ iv plain ad. omega (arith, length-gcm_siv_seal key iv plain ad);
  size = λ iv plain ad valid whole. omega (arith, length-gcm_siv_seal key iv plain ad, whole);
  most = λ n valid. omega arith;
  same = λ n iv p q ad is. ap (λ (plain : List ℕ). gcm_siv_seal key iv plain ad) (is (omega arith));
  bytes = λ laws iv plain ad valid k i p. (laws.gcm_siv key iv plain ad k i p).1;
  opens = λ laws bytes plain ad is. laws.gcm_siv key bytes plain ad;
  short = λ bytes plain ad e. gcm_siv-short key bytes plain ad e;
}

-- ---- AES-SIV

siv-short : (key bytes plain ad : List ℕ) → siv_open key bytes ad ≡ Some plain → length plain ≤ length bytes
unfolding siv_open
siv-short key bytes plain ad e =
    let is = tested (nat_lt (length bytes) 16) (siv.is_authentic key bytes ad) (siv.plain_of key bytes) plain e in
    omega (arith, ap length is, length-siv_text key (siv.siv_of bytes) (siv.text_of bytes), length-drop {A = ℕ})

siv_facts : (key : List ℕ) → DsealFacts (kinds.AesSiv key)
siv_facts key = record {
  long = λ plain ad. omega (arith, length-siv_seal key plain ad);
  opens = λ siv bytes plain ad is. siv key bytes plain ad;
  short = λ bytes plain ad e. siv-short key bytes plain ad e;
}

-- ---- keys that seal nothing

none-there : (xs : List ℕ) → length xs ≡ 0 → [] ≡ xs
none-there [] e = refl
none-there (x ∷ xs) e = absurd (omega (arith, e))

none-opened : {P : Type 0} (o : Option (List ℕ)) (plain : List ℕ) → o ≡ None → o ≡ Some plain → P
none-opened o plain none some = absurd cc

no_seal : (key : KeyKind) → (primitive_of_type (type_of key) ≡ Aead → ⊥) → iv_size key ≡ 0
    → ((n : ℕ) → sealed_size key n ≡ 0) → ((iv plain ad : List ℕ) → seal_of key iv plain ad ≡ [])
    → ((bytes ad : List ℕ) → open_key key bytes ad ≡ None) → SealFacts key
no_seal key other none no_size empty nothing = record {
  iv = λ valid. omega (arith, none);
  front = λ iv plain ad whole. ap (λ (n : ℕ). take n (seal_of key iv plain ad)) none ∙ none-there iv (whole ∙ none);
  long = λ iv plain ad. omega (arith, ap length (empty iv plain ad));
  size = λ iv plain ad valid whole. ap length (empty iv plain ad) ∙ sym (no_size (length plain));
  most = λ n valid. omega (arith, no_size n);
  same = λ n iv p q ad is. empty iv p ad ∙ sym (empty iv q ad);
  bytes = λ laws iv plain ad valid k i p. subst Bytes (sym (empty iv plain ad)) (All-nil _);
  opens = λ laws bytes plain ad is. absurd (other is.0);
  short = λ bytes plain ad e. none-opened (open_key key bytes ad) plain (nothing bytes ad) e;
}

no_dseal : (key : KeyKind) → (primitive_of_type (type_of key) ≡ Daead → ⊥)
    → ((plain ad : List ℕ) → dseal_of key plain ad ≡ []) → ((bytes ad : List ℕ) → dopen_key key bytes ad ≡ None) → DsealFacts key
no_dseal key other empty nothing = record {
  long = λ plain ad. omega (arith, ap length (empty plain ad));
  opens = λ siv bytes plain ad is. absurd (other is.0);
  short = λ bytes plain ad e. none-opened (dopen_key key bytes ad) plain (nothing bytes ad) e;
}

-- ---- every kind

pub seal_facts : (key : KeyKind) → SealFacts key
seal_facts (kinds.AesGcm key) = gcm_facts key
seal_facts (kinds.AesEax key size) = eax_facts key size
seal_facts (kinds.AesCtrHmac aes size hash mac tag_size) = ctr_hmac_facts aes size hash mac tag_size
seal_facts (kinds.AesSiv key) = no_seal _ (λ e. cc) refl (λ n. refl) (λ iv plain ad. refl) (λ bytes ad. refl)
seal_facts (kinds.Hmac key hash tag_size) = no_seal _ (λ e. cc) refl (λ n. refl) (λ iv plain ad. refl) (λ bytes ad. refl)
seal_facts (kinds.AesCmac key tag_size) = no_seal _ (λ e. cc) refl (λ n. refl) (λ iv plain ad. refl) (λ bytes ad. refl)
seal_facts (kinds.HkdfPrf key hash salt) = no_seal _ (λ e. cc) refl (λ n. refl) (λ iv plain ad. refl) (λ bytes ad. refl)
seal_facts (kinds.HmacPrf key hash) = no_seal _ (λ e. cc) refl (λ n. refl) (λ iv plain ad. refl) (λ bytes ad. refl)
seal_facts (kinds.CmacPrf key) = no_seal _ (λ e. cc) refl (λ n. refl) (λ iv plain ad. refl) (λ bytes ad. refl)
seal_facts (kinds.GcmStream key segment derived hash) = no_seal _ (λ e. cc) refl (λ n. refl) (λ iv plain ad. refl) (λ bytes ad. refl)
seal_facts (kinds.CtrStream key segment derived hash mac_hash tag_size) = no_seal _ (λ e. cc) refl (λ n. refl) (λ iv plain ad. refl) (λ bytes ad. refl)
seal_facts (kinds.AesGcmSiv key) = gcm_siv_facts key

pub dseal_facts : (key : KeyKind) → DsealFacts key
dseal_facts (kinds.AesGcm key) = no_dseal _ (λ e. cc) (λ plain ad. refl) (λ bytes ad. refl)
dseal_facts (kinds.AesEax key size) = no_dseal _ (λ e. cc) (λ plain ad. refl) (λ bytes ad. refl)
dseal_facts (kinds.AesCtrHmac aes size hash mac tag_size) = no_dseal _ (λ e. cc) (λ plain ad. refl) (λ bytes ad. refl)
dseal_facts (kinds.AesSiv key) = siv_facts key
dseal_facts (kinds.Hmac key hash tag_size) = no_dseal _ (λ e. cc) (λ plain ad. refl) (λ bytes ad. refl)
dseal_facts (kinds.AesCmac key tag_size) = no_dseal _ (λ e. cc) (λ plain ad. refl) (λ bytes ad. refl)
dseal_facts (kinds.HkdfPrf key hash salt) = no_dseal _ (λ e. cc) (λ plain ad. refl) (λ bytes ad. refl)
dseal_facts (kinds.HmacPrf key hash) = no_dseal _ (λ e. cc) (λ plain ad. refl) (λ bytes ad. refl)
dseal_facts (kinds.CmacPrf key) = no_dseal _ (λ e. cc) (λ plain ad. refl) (λ bytes ad. refl)
dseal_facts (kinds.GcmStream key segment derived hash) = no_dseal _ (λ e. cc) (λ plain ad. refl) (λ bytes ad. refl)
dseal_facts (kinds.CtrStream key segment derived hash mac_hash tag_size) = no_dseal _ (λ e. cc) (λ plain ad. refl) (λ bytes ad. refl)
dseal_facts (kinds.AesGcmSiv key) = no_dseal _ (λ e. cc) (λ plain ad. refl) (λ bytes ad. refl)

-- an IV has at most 16 bytes
pub iv-short : (key : KeyKind) → IsValid key → iv_size key ≤ 16
iv-short key valid = (seal_facts key).iv valid
