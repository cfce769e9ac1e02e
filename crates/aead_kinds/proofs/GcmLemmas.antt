-- What AES-GCM gives has its length, consists of bytes and opens again.
use Rattle.std.proofs.Common.{◌≡◌, ℕ, zero, suc, ◌+◌, ◌-◌, ◌<◌, ◌≤◌, cond, nat_lt, Some, None, List, [], ◌∷◌, ◌++◌, length, take, drop, refl, sym, ap, ◌∙◌, arith}
use Rattle.std.proofs.lemmas.Bool.{cond-false, cond-true, cond_both, le-ltb, lt-ltb, ltb-false}
use Rattle.std.proofs.lemmas.List.{append_assoc, drop-drop, drop_at, length-append, length-take, take-append-drop, take_at}
use Rattle.std.proofs.lemmas.List.Elements.{All-append, All-from_recursion, All-nil}
use Rattle.std.proofs.lemmas.Option.{none-some, same_Some}
use Rattle.std.proofs.lemmas.Slice.Eq.{bytes_eq-Decides}
use Rattle.std.specs.Int.{byte_at, bytes_high_first}
use Rattle.aes_core.specs.Bytes.{IsBytes}
use Rattle.aes_core.specs.declared.counter.CtrKind.TheVariants.{Low32}
use Rattle.aes_core.proofs.Bounds.{ctr-gives_bytes}
use Rattle.aes_core.proofs.CounterMode.{ctr-ctr, length-ctr}
use Rattle.aead_kinds.specs.Gcm.{first_counter, gcm_open, gcm_seal, gcm_tag, gcm_text, hashed, incremented, is_authentic, iv_of, tag_of, text_of}

pub length-gcm_text : (key iv text : List ℕ) → length (gcm_text key iv text) ≡ length text
unfolding gcm_text
length-gcm_text key iv text = length-ctr key (incremented (first_counter iv)) Low32 text

pub length-gcm_tag : (key iv ad text : List ℕ) → length (gcm_tag key iv ad text) ≡ 16
unfolding gcm_tag hashed
length-gcm_tag key iv ad text = length-ctr key (first_counter iv) Low32 (hashed key ad text)

pub gcm_text-gcm_text : (key iv text : List ℕ) → gcm_text key iv (gcm_text key iv text) ≡ text
unfolding gcm_text
gcm_text-gcm_text key iv text = ctr-ctr key (incremented (first_counter iv)) Low32 text

-- ---- the parts of sealed bytes

pub length-joined : (iv text tag : List ℕ) → length tag ≡ 16
    → length (iv ++ text ++ tag) ≡ length iv + length text + 16
length-joined iv text tag h =
    omega (arith, length-append (iv ++ text) tag, length-append iv text)

-- bytes of at least an IV and a tag are their parts, joined
pub parts-join : (bytes : List ℕ) → 28 ≤ length bytes
    → iv_of bytes ++ text_of bytes ++ tag_of bytes ≡ bytes
parts-join bytes h =
    let rest : ℕ = length bytes - 28 in
    let same : length bytes - 16 ≡ 12 + rest = omega arith in
    append_assoc (iv_of bytes) (text_of bytes) (tag_of bytes)
    ∙ ap (λ tag. iv_of bytes ++ (text_of bytes ++ tag))
    (ap (λ n. drop n bytes) same ∙ sym (drop-drop rest 12 bytes))
    ∙ ap (λ back. iv_of bytes ++ back) (take-append-drop rest (drop 12 bytes))
    ∙ take-append-drop 12 bytes

pub text_of-joined : (iv text tag : List ℕ) → length iv ≡ 12 → length tag ≡ 16
    → text_of (iv ++ text ++ tag) ≡ text
text_of-joined iv text tag hi ht =
    let rest : ℕ = length (iv ++ text ++ tag) - 28 in
    let same : length text ≡ rest = omega (arith, length-joined iv text tag ht) in
    ap (λ back. take rest back)
    (ap (λ all. drop 12 all) (append_assoc iv text tag) ∙ drop_at iv (text ++ tag) 12 hi)
    ∙ take_at text tag rest same

pub tag_of-joined : (iv text tag : List ℕ) → length tag ≡ 16 → tag_of (iv ++ text ++ tag) ≡ tag
tag_of-joined iv text tag h =
    drop_at (iv ++ text) tag (length (iv ++ text ++ tag) - 16)
    (omega (arith, length-append (iv ++ text) tag))

-- ---- opening and sealing

-- where the test of the tag holds and the bytes are long enough, they open
pub opens : (key bytes ad : List ℕ) → 28 ≤ length bytes
    → tag_of bytes ≡ gcm_tag key (iv_of bytes) ad (text_of bytes)
    → gcm_open key bytes ad ≡ Some (gcm_text key (iv_of bytes) (text_of bytes))
unfolding gcm_open
opens key bytes ad long same =
    let decides = bytes_eq-Decides (tag_of bytes) (gcm_tag key (iv_of bytes) ad (text_of bytes)) in
    let plain = Some (gcm_text key (iv_of bytes) (text_of bytes)) in
    cond-false (nat_lt (length bytes) 28) None (cond (is_authentic key bytes ad) plain None)
    (le-ltb (length bytes) 28 long)
    ∙ cond-true (is_authentic key bytes ad) plain None (decides.1 same)

-- where they are too short, or the test fails, they don't
pub closed-short : (key bytes ad : List ℕ) → length bytes < 28 → gcm_open key bytes ad ≡ None
unfolding gcm_open
closed-short key bytes ad short =
    cond-true (nat_lt (length bytes) 28) None
    (cond (is_authentic key bytes ad) (Some (gcm_text key (iv_of bytes) (text_of bytes))) None)
    (lt-ltb (length bytes) 28 short)

pub closed : (key bytes ad : List ℕ) → 28 ≤ length bytes
    → (tag_of bytes ≡ gcm_tag key (iv_of bytes) ad (text_of bytes) → ⊥)
    → gcm_open key bytes ad ≡ None
unfolding gcm_open
closed key bytes ad long other =
    let decides = bytes_eq-Decides (tag_of bytes) (gcm_tag key (iv_of bytes) ad (text_of bytes)) in
    let plain = Some (gcm_text key (iv_of bytes) (text_of bytes)) in
    cond-false (nat_lt (length bytes) 28) None (cond (is_authentic key bytes ad) plain None)
    (le-ltb (length bytes) 28 long)
    ∙ cond_both (is_authentic key bytes ad) plain None (λ o. o ≡ None)
    (λ same. absurd (other (decides.0 same))) (λ e. refl)

-- a plaintext comes only where both hold
pub opened : (key bytes plain ad : List ℕ) → gcm_open key bytes ad ≡ Some plain
    → (28 ≤ length bytes) × (tag_of bytes ≡ gcm_tag key (iv_of bytes) ad (text_of bytes))
    × (gcm_text key (iv_of bytes) (text_of bytes) ≡ plain)
unfolding gcm_open
opened key bytes plain ad =
    let decides = bytes_eq-Decides (tag_of bytes) (gcm_tag key (iv_of bytes) ad (text_of bytes)) in
    let text : List ℕ = gcm_text key (iv_of bytes) (text_of bytes) in
    let facts : Type 0 = (28 ≤ length bytes)
    × (tag_of bytes ≡ gcm_tag key (iv_of bytes) ad (text_of bytes)) × (text ≡ plain) in
    cond_both (nat_lt (length bytes) 28) None (cond (is_authentic key bytes ad) (Some text) None)
    (λ o. o ≡ Some plain → facts)
    (λ short e. absurd (none-some plain e))
    (λ long. cond_both (is_authentic key bytes ad) (Some text) None
    (λ o. o ≡ Some plain → facts)
    (λ same e. (ltb-false (length bytes) 28 long, decides.0 same, same_Some text plain e))
    (λ other e. absurd (none-some plain e)))

pub opened-sealed : (key bytes plain ad : List ℕ) → gcm_open key bytes ad ≡ Some plain
    → bytes ≡ gcm_seal key (iv_of bytes) plain ad
unfolding gcm_seal
opened-sealed key bytes plain ad e =
    let facts = opened key bytes plain ad e in
    let text = text_of bytes in
    let same : text ≡ gcm_text key (iv_of bytes) plain
    = sym (gcm_text-gcm_text key (iv_of bytes) text)
    ∙ ap (λ p. gcm_text key (iv_of bytes) p) facts.2 in
    sym (parts-join bytes facts.0) ∙ ap (λ tag. iv_of bytes ++ text ++ tag) facts.1
    ∙ ap (λ t. iv_of bytes ++ t ++ gcm_tag key (iv_of bytes) ad t) same

pub sealed-opened : (key iv plain ad : List ℕ) → length iv ≡ 12
    → gcm_open key (gcm_seal key iv plain ad) ad ≡ Some plain
unfolding gcm_seal
sealed-opened key iv plain ad h =
    let text : List ℕ = gcm_text key iv plain in
    let tag : List ℕ = gcm_tag key iv ad text in
    let size = length-gcm_tag key iv ad text in
    let bytes : List ℕ = iv ++ text ++ tag in
    let iv_is : iv_of bytes ≡ iv
    = ap (λ all. take 12 all) (append_assoc iv text tag) ∙ take_at iv (text ++ tag) 12 h in
    let text_is : text_of bytes ≡ text = text_of-joined iv text tag h size in
    let anew : gcm_tag key (iv_of bytes) ad (text_of bytes) ≡ tag
    = ap (λ v. gcm_tag key v ad (text_of bytes)) iv_is ∙ ap (λ t. gcm_tag key iv ad t) text_is in
    opens key bytes ad (omega (arith, length-joined iv text tag size))
    (tag_of-joined iv text tag size ∙ sym anew)
    ∙ ap (λ v. Some (gcm_text key v (text_of bytes))) iv_is
    ∙ ap (λ t. Some (gcm_text key iv t)) text_is
    ∙ ap (λ p. Some p) (gcm_text-gcm_text key iv plain)

pub length-gcm_seal : (key iv plain ad : List ℕ)
    → length (gcm_seal key iv plain ad) ≡ length iv + length plain + 16
unfolding gcm_seal
length-gcm_seal key iv plain ad =
    let text : List ℕ = gcm_text key iv plain in
    let tag : List ℕ = gcm_tag key iv ad text in
    omega (
      arith,
      length-joined iv text tag (length-gcm_tag key iv ad text),
      length-gcm_text key iv plain,
    )

pub sealed_under_first : (key bytes plain ad : List ℕ)
    → bytes ≡ gcm_seal key (iv_of bytes) plain ad → gcm_open key bytes ad ≡ Some plain
sealed_under_first key bytes plain ad e =
    let all = ap (λ l. length l) e ∙ length-gcm_seal key (iv_of bytes) plain ad in
    let twelve : length (iv_of bytes) ≡ 12 = omega (arith, all, length-take 12 bytes) in
    ap (λ l. gcm_open key l ad) e ∙ sealed-opened key (iv_of bytes) plain ad twelve

-- ---- bytes

byte_at-lt : (i n : ℕ) → byte_at i n < 256
byte_at-lt zero n = omega arith
byte_at-lt (suc i) n = omega arith

bytes-high_first : (k n : ℕ) → IsBytes (bytes_high_first k n)
bytes-high_first zero n = All-nil (λ b. b < 256)
bytes-high_first (suc k) n =
    All-append (λ b. b < 256) (byte_at k n ∷ []) (bytes_high_first k n)
    (All-from_recursion (λ b. b < 256) (byte_at k n ∷ []) (byte_at-lt k n, tt))
    (bytes-high_first k n)

pub bytes-gcm_seal : (key iv plain ad : List ℕ) → IsBytes key → IsBytes iv → IsBytes plain
    → IsBytes (gcm_seal key iv plain ad)
unfolding gcm_seal gcm_text gcm_tag hashed
bytes-gcm_seal key iv plain ad k i p =
    let start : List ℕ = first_counter iv in
    let text : List ℕ = gcm_text key iv plain in
    let is_text = ctr-gives_bytes key (incremented start) Low32 plain k p in
    let is_tag = ctr-gives_bytes key start Low32 (hashed key ad text) k (bytes-high_first 16 _) in
    All-append (λ b. b < 256) (iv ++ text) (gcm_tag key iv ad text)
    (All-append (λ b. b < 256) iv text i is_text.1) is_tag.1
