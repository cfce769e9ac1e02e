-- What AES-GCM-SIV gives has its length, consists of bytes and opens again.
use Rattle.std.proofs.Common.{◌≡◌, ℕ, ◌+◌, ◌-◌, ◌<◌, ◌≤◌, cond, eqb, nat_lt, Some, None, List, ◌++◌, length, take, drop, refl, sym, ap, ◌∙◌, arith}
use Rattle.std.proofs.lemmas.Bool.{cond-false, cond-true, cond_both, le-ltb, lt-ltb, ltb-false}
use Rattle.std.proofs.lemmas.List.{append_assoc, drop-drop, drop_at, length-append, length-drop, length-take, length-take-le, take-append-drop, take_at}
use Rattle.std.proofs.lemmas.List.Elements.{All-append, All-take}
use Rattle.std.proofs.lemmas.Option.{none-some, same_Some}
use Rattle.std.proofs.lemmas.Slice.Eq.{bytes_eq-Decides}
use Rattle.std.specs.Int.{w32, to_le_bytes}
use Rattle.aes_core.specs.Aes.{cipher}
use Rattle.aes_core.specs.Bytes.{IsBytes}
use Rattle.aes_core.specs.declared.counter.CtrKind.TheVariants.{First32}
use Rattle.aes_core.proofs.Bounds.{cipher-has_a_block, ctr-gives_bytes}
use Rattle.aes_core.proofs.CounterMode.{ctr-ctr, length-cipher, length-ctr}
use Rattle.aead_kinds.specs.GcmSiv.{derived_half, encryption_key, first_counter, gcm_siv_open, gcm_siv_seal, gcm_siv_tag, gcm_siv_text, hashed, is_authentic, iv_of, masked, plain_of, tag_of, text_of, with_nonce}

pub length-derived_half : (key iv : List ℕ) (n : ℕ) → length (derived_half key iv n) ≡ 8
unfolding derived_half
length-derived_half key iv n =
    let block : List ℕ = to_le_bytes w32 n ++ iv in
    length-take-le 8 (cipher key block) (omega (arith, length-cipher key block))

pub length-gcm_siv_text : (key iv tag text : List ℕ)
    → length (gcm_siv_text key iv tag text) ≡ length text
unfolding gcm_siv_text
length-gcm_siv_text key iv tag text =
    length-ctr (encryption_key key iv) (first_counter tag) First32 text

pub length-gcm_siv_tag : (key iv ad plain : List ℕ) → length (gcm_siv_tag key iv ad plain) ≡ 16
unfolding gcm_siv_tag
length-gcm_siv_tag key iv ad plain =
    length-cipher (encryption_key key iv) (masked (with_nonce (hashed key iv ad plain) iv))

pub gcm_siv_text-gcm_siv_text : (key iv tag text : List ℕ)
    → gcm_siv_text key iv tag (gcm_siv_text key iv tag text) ≡ text
unfolding gcm_siv_text
gcm_siv_text-gcm_siv_text key iv tag text =
    ctr-ctr (encryption_key key iv) (first_counter tag) First32 text

-- ---- the parts of sealed bytes

length-joined : (iv text tag : List ℕ) → length tag ≡ 16
    → length (iv ++ text ++ tag) ≡ length iv + length text + 16
length-joined iv text tag h =
    omega (arith, length-append (iv ++ text) tag, length-append iv text)

-- bytes of at least an IV and a tag are their parts, joined
parts-join : (bytes : List ℕ) → 28 ≤ length bytes
    → iv_of bytes ++ text_of bytes ++ tag_of bytes ≡ bytes
parts-join bytes h =
    let rest : ℕ = length bytes - 28 in
    let same : length bytes - 16 ≡ 12 + rest = omega arith in
    append_assoc (iv_of bytes) (text_of bytes) (tag_of bytes)
    ∙ ap (λ tag. iv_of bytes ++ (text_of bytes ++ tag))
    (ap (λ n. drop n bytes) same ∙ sym (drop-drop rest 12 bytes))
    ∙ ap (λ back. iv_of bytes ++ back) (take-append-drop rest (drop 12 bytes))
    ∙ take-append-drop 12 bytes

text_of-joined : (iv text tag : List ℕ) → length iv ≡ 12 → length tag ≡ 16
    → text_of (iv ++ text ++ tag) ≡ text
text_of-joined iv text tag hi ht =
    let rest : ℕ = length (iv ++ text ++ tag) - 28 in
    let same : length text ≡ rest = omega (arith, length-joined iv text tag ht) in
    ap (λ back. take rest back)
    (ap (λ all. drop 12 all) (append_assoc iv text tag) ∙ drop_at iv (text ++ tag) 12 hi)
    ∙ take_at text tag rest same

tag_of-joined : (iv text tag : List ℕ) → length tag ≡ 16 → tag_of (iv ++ text ++ tag) ≡ tag
tag_of-joined iv text tag h =
    drop_at (iv ++ text) tag (length (iv ++ text ++ tag) - 16)
    (omega (arith, length-append (iv ++ text) tag))

iv_of-joined : (iv text tag : List ℕ) → length iv ≡ 12 → iv_of (iv ++ text ++ tag) ≡ iv
iv_of-joined iv text tag h =
    ap (λ all. take 12 all) (append_assoc iv text tag) ∙ take_at iv (text ++ tag) 12 h

-- ---- opening and sealing

-- where the test of the tag holds and the bytes are long enough, they open
pub opens : (key bytes ad : List ℕ) → 28 ≤ length bytes
    → tag_of bytes ≡ gcm_siv_tag key (iv_of bytes) ad (plain_of key bytes)
    → gcm_siv_open key bytes ad ≡ Some (plain_of key bytes)
unfolding gcm_siv_open
opens key bytes ad long same =
    let decides = bytes_eq-Decides (tag_of bytes)
    (gcm_siv_tag key (iv_of bytes) ad (plain_of key bytes)) in
    let plain = Some (plain_of key bytes) in
    cond-false (nat_lt (length bytes) 28) None (cond (is_authentic key bytes ad) plain None)
    (le-ltb (length bytes) 28 long)
    ∙ cond-true (is_authentic key bytes ad) plain None (decides.1 same)

-- where they are too short, or the test fails, they don't
pub closed-short : (key bytes ad : List ℕ) → length bytes < 28 → gcm_siv_open key bytes ad ≡ None
unfolding gcm_siv_open
closed-short key bytes ad short = cond-true _ _ _ (lt-ltb (length bytes) 28 short)

pub closed : (key bytes ad : List ℕ) → 28 ≤ length bytes
    → (tag_of bytes ≡ gcm_siv_tag key (iv_of bytes) ad (plain_of key bytes) → ⊥)
    → gcm_siv_open key bytes ad ≡ None
unfolding gcm_siv_open
closed key bytes ad long other =
    let decides = bytes_eq-Decides (tag_of bytes)
    (gcm_siv_tag key (iv_of bytes) ad (plain_of key bytes)) in
    cond-false _ _ _ (le-ltb (length bytes) 28 long)
    ∙ cond_both (is_authentic key bytes ad) (Some (plain_of key bytes)) None (λ o. o ≡ None)
    (λ same. absurd (other (decides.0 same))) (λ e. refl)

-- a plaintext comes only where both hold
opened : (key bytes plain ad : List ℕ) → gcm_siv_open key bytes ad ≡ Some plain
    → (28 ≤ length bytes)
    × (tag_of bytes ≡ gcm_siv_tag key (iv_of bytes) ad (plain_of key bytes))
    × (plain_of key bytes ≡ plain)
unfolding gcm_siv_open
opened key bytes plain ad =
    let decides = bytes_eq-Decides (tag_of bytes)
    (gcm_siv_tag key (iv_of bytes) ad (plain_of key bytes)) in
    let text : List ℕ = plain_of key bytes in
    let facts : Type 0 = (28 ≤ length bytes)
    × (tag_of bytes ≡ gcm_siv_tag key (iv_of bytes) ad text) × (text ≡ plain) in
    cond_both (nat_lt (length bytes) 28) None (cond (is_authentic key bytes ad) (Some text) None)
    (λ o. o ≡ Some plain → facts)
    (λ short e. absurd (none-some plain e))
    (λ long. cond_both (is_authentic key bytes ad) (Some text) None
    (λ o. o ≡ Some plain → facts)
    (λ same e. (ltb-false (length bytes) 28 long, decides.0 same, same_Some text plain e))
    (λ other e. absurd (none-some plain e)))

pub opened-sealed : (key bytes plain ad : List ℕ) → gcm_siv_open key bytes ad ≡ Some plain
    → bytes ≡ gcm_siv_seal key (iv_of bytes) plain ad
unfolding gcm_siv_seal
opened-sealed key bytes plain ad e =
    let facts = opened key bytes plain ad e in
    let iv : List ℕ = iv_of bytes in
    let text : List ℕ = text_of bytes in
    let tag : tag_of bytes ≡ gcm_siv_tag key iv ad plain
    = facts.1 ∙ ap (λ p. gcm_siv_tag key iv ad p) facts.2 in
    let same : text ≡ gcm_siv_text key iv (tag_of bytes) plain
    = sym (gcm_siv_text-gcm_siv_text key iv (tag_of bytes) text)
    ∙ ap (λ p. gcm_siv_text key iv (tag_of bytes) p) facts.2 in
    sym (parts-join bytes facts.0) ∙ ap (λ t. iv ++ t ++ tag_of bytes) same
    ∙ ap (λ t. iv ++ gcm_siv_text key iv t plain ++ t) tag

pub sealed-opened : (key iv plain ad : List ℕ) → length iv ≡ 12
    → gcm_siv_open key (gcm_siv_seal key iv plain ad) ad ≡ Some plain
unfolding gcm_siv_seal
sealed-opened key iv plain ad h =
    let tag : List ℕ = gcm_siv_tag key iv ad plain in
    let text : List ℕ = gcm_siv_text key iv tag plain in
    let size = length-gcm_siv_tag key iv ad plain in
    let bytes : List ℕ = iv ++ text ++ tag in
    let iv_is : iv_of bytes ≡ iv = iv_of-joined iv text tag h in
    let text_is : text_of bytes ≡ text = text_of-joined iv text tag h size in
    let tag_is : tag_of bytes ≡ tag = tag_of-joined iv text tag size in
    let back : plain_of key bytes ≡ plain
    = (λ i. gcm_siv_text key (iv_is i) (tag_is i) (text_is i))
    ∙ gcm_siv_text-gcm_siv_text key iv tag plain in
    opens key bytes ad (omega (arith, length-joined iv text tag size))
    (tag_is ∙ sym (λ i. gcm_siv_tag key (iv_is i) ad (back i)))
    ∙ ap (λ p. Some p) back

pub length-gcm_siv_seal : (key iv plain ad : List ℕ)
    → length (gcm_siv_seal key iv plain ad) ≡ length iv + length plain + 16
unfolding gcm_siv_seal
length-gcm_siv_seal key iv plain ad =
    let tag : List ℕ = gcm_siv_tag key iv ad plain in
    let text : List ℕ = gcm_siv_text key iv tag plain in
    omega (
      arith,
      length-joined iv text tag (length-gcm_siv_tag key iv ad plain),
      length-gcm_siv_text key iv tag plain,
    )

pub sealed_under_first : (key bytes plain ad : List ℕ)
    → bytes ≡ gcm_siv_seal key (iv_of bytes) plain ad → gcm_siv_open key bytes ad ≡ Some plain
sealed_under_first key bytes plain ad e =
    let all = ap (λ l. length l) e ∙ length-gcm_siv_seal key (iv_of bytes) plain ad in
    let twelve : length (iv_of bytes) ≡ 12 = omega (arith, all, length-take 12 bytes) in
    ap (λ l. gcm_siv_open key l ad) e ∙ sealed-opened key (iv_of bytes) plain ad twelve

-- ---- the parts that the code works on

-- the IV and the tag of bytes, and the text between them
pub record AreParts (bytes iv text tag : List ℕ) : Type 0 where
  pub front : iv ≡ iv_of bytes
  pub middle : text ≡ text_of bytes
  pub back : tag ≡ tag_of bytes
  pub long : 28 ≤ length bytes

-- the tag, as it is cut off behind the IV
pub tag_behind : (bytes rest : List ℕ) → rest ≡ drop 12 bytes → 28 ≤ length bytes
    → drop (length rest - 16) rest ≡ tag_of bytes
tag_behind bytes rest behind long =
    let before : ℕ = length (drop 12 bytes) - 16 in
    let size : 12 + before ≡ length bytes - 16 = omega (arith, length-drop 12 bytes) in
    ap (λ r. drop (length r - 16) r) behind ∙ drop-drop before 12 bytes
    ∙ ap (λ n. drop n bytes) size

plain_is : (key bytes iv text tag : List ℕ) → AreParts bytes iv text tag
    → gcm_siv_text key iv tag text ≡ plain_of key bytes
plain_is key bytes iv text tag parts =
    λ i. gcm_siv_text key (parts.front i) (parts.back i) (parts.middle i)

anew_is : (key bytes ad iv text tag : List ℕ) → AreParts bytes iv text tag
    → gcm_siv_tag key iv ad (gcm_siv_text key iv tag text)
    ≡ gcm_siv_tag key (iv_of bytes) ad (plain_of key bytes)
anew_is key bytes ad iv text tag parts =
    λ i. gcm_siv_tag key (parts.front i) ad (plain_is key bytes iv text tag parts i)

pub parts-open : (key bytes ad iv text tag : List ℕ) → AreParts bytes iv text tag
    → tag ≡ gcm_siv_tag key iv ad (gcm_siv_text key iv tag text)
    → gcm_siv_open key bytes ad ≡ Some (gcm_siv_text key iv tag text)
parts-open key bytes ad iv text tag parts same =
    opens key bytes ad parts.long
    (sym parts.back ∙ same ∙ anew_is key bytes ad iv text tag parts)
    ∙ ap (λ p. Some p) (sym (plain_is key bytes iv text tag parts))

pub parts-closed : (key bytes ad iv text tag : List ℕ) → AreParts bytes iv text tag
    → (tag ≡ gcm_siv_tag key iv ad (gcm_siv_text key iv tag text) → ⊥)
    → gcm_siv_open key bytes ad ≡ None
parts-closed key bytes ad iv text tag parts other =
    closed key bytes ad parts.long
    (λ same. other (parts.back ∙ same ∙ sym (anew_is key bytes ad iv text tag parts)))

-- ---- bytes

half-bytes : (key iv : List ℕ) (n : ℕ) → IsBytes key → IsBytes (derived_half key iv n)
unfolding derived_half
half-bytes key iv n k = All-take (λ b. b < 256) 8 _ (cipher-has_a_block key _ k).1

pub bytes-encryption_key : (key iv : List ℕ) → IsBytes key → IsBytes (encryption_key key iv)
unfolding encryption_key
bytes-encryption_key key iv k =
    let pair = λ (m n : ℕ). All-append (λ b. b < 256) (derived_half key iv m)
    (derived_half key iv n) (half-bytes key iv m k) (half-bytes key iv n k) in
    cond_both (eqb (length key) 32) _ _ (λ l. IsBytes l)
    (λ long. All-append (λ b. b < 256) _ _ (pair 2 3) (pair 4 5)) (λ short. pair 2 3)

pub bytes-gcm_siv_seal : (key iv plain ad : List ℕ) → IsBytes key → IsBytes iv → IsBytes plain
    → IsBytes (gcm_siv_seal key iv plain ad)
unfolding gcm_siv_seal gcm_siv_text gcm_siv_tag
bytes-gcm_siv_seal key iv plain ad k i p =
    let own = bytes-encryption_key key iv k in
    let tag : List ℕ = gcm_siv_tag key iv ad plain in
    let text : List ℕ = gcm_siv_text key iv tag plain in
    let is_text = ctr-gives_bytes (encryption_key key iv) (first_counter tag) First32 plain own p in
    let is_tag = cipher-has_a_block (encryption_key key iv) _ own in
    All-append (λ b. b < 256) (iv ++ text) tag
    (All-append (λ b. b < 256) iv text i is_text.1) is_tag.1
