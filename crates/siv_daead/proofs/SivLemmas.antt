-- What AES-SIV gives has its length, consists of bytes and opens again.
use Rattle.std.proofs.Common.{◌≡◌, ℕ, suc, ◌+◌, ◌-◌, ◌/◌, ◌<◌, ◌≤◌, ◌≢◌, cond, nat_lt, Some, None, List, ◌++◌, length, sym, ap, ◌∙◌, arith, refl}
use Rattle.std.proofs.lemmas.Bool.{cond-false, cond-true, cond_both, le-ltb, lt-ltb, ltb-false}
use Rattle.std.proofs.lemmas.List.{drop_at, length-append, take-append-drop, take_at}
use Rattle.std.proofs.lemmas.Option.{none-some, same_Some}
use Rattle.std.proofs.lemmas.Slice.Eq.{bytes_eq-Decides}
use Rattle.aes_core.specs.Bytes.{xor_bytes}
use Rattle.aes_core.specs.Counter.{ctr}
use Rattle.aes_core.specs.declared.counter.CtrKind.TheVariants.{All128}
use Rattle.aes_core.proofs.BlockXor.{length-xor_bytes}
use Rattle.aes_core.proofs.CounterMode.{ctr-ctr, length-cipher, length-ctr}
use Rattle.mac_prf.specs.Cmac.{block_count, chain, cmac, doubled_block, message_block, zero_block}
use Rattle.siv_daead.specs.Siv.{ctr_key, datum_block, first_counter, is_authentic, mac_key, mac_text, plain_of, s2v, siv_of, siv_open, siv_seal, siv_text, text_of}

pub length-cmac : (key m : List ℕ) → length (cmac key m) ≡ 16
unfolding chain cmac
length-cmac key m =
    let before = block_count m - 1 in
    let count : block_count m ≡ suc before = omega arith in
    ap (λ n. length (chain key m n)) count
    ∙ length-cipher key (xor_bytes (chain key m before) (message_block key m (suc before)))

pub length-datum_block : (key ad : List ℕ) → length (datum_block key ad) ≡ 16
unfolding datum_block
length-datum_block key ad =
    length-xor_bytes (doubled_block (cmac key zero_block)) (cmac key ad)
    (omega (arith, length-cmac key ad))

pub length-s2v : (key ad plain : List ℕ) → length (s2v key ad plain) ≡ 16
unfolding s2v
length-s2v key ad plain = length-cmac key (mac_text (datum_block key ad) plain)

pub length-siv_text : (key v text : List ℕ) → length (siv_text key v text) ≡ length text
unfolding siv_text
length-siv_text key v text = length-ctr (ctr_key key) (first_counter v) All128 text

pub siv_text-siv_text : (key v text : List ℕ) → siv_text key v (siv_text key v text) ≡ text
unfolding siv_text
siv_text-siv_text key v text = ctr-ctr (ctr_key key) (first_counter v) All128 text

pub length-siv_seal : (key plain ad : List ℕ)
    → length (siv_seal key plain ad) ≡ 16 + length plain
unfolding siv_seal
length-siv_seal key plain ad =
    let v : List ℕ = s2v (mac_key key) ad plain in
    omega (
      arith,
      length-append v (siv_text key v plain),
      length-s2v (mac_key key) ad plain,
      length-siv_text key v plain,
    )

-- ---- the halves of a key, joined

half : (mac ctr : List ℕ) → length mac ≡ length ctr → length (mac ++ ctr) / 2 ≡ length mac
half mac ctr same = omega (arith, length-append mac ctr)

pub mac_key-joined : (mac ctr : List ℕ) → length mac ≡ length ctr → mac_key (mac ++ ctr) ≡ mac
mac_key-joined mac ctr same =
    take_at mac ctr (length (mac ++ ctr) / 2) (sym (half mac ctr same))

pub ctr_key-joined : (mac ctr : List ℕ) → length mac ≡ length ctr → ctr_key (mac ++ ctr) ≡ ctr
ctr_key-joined mac ctr same =
    drop_at mac ctr (length (mac ++ ctr) / 2) (sym (half mac ctr same))

-- counter mode under the second half
pub siv_text-joined : (mac second v text : List ℕ) → length mac ≡ length second
    → ctr second (first_counter v) All128 text ≡ siv_text (mac ++ second) v text
unfolding siv_text
siv_text-joined mac second v text same =
    ap (λ (k : List ℕ). ctr k (first_counter v) All128 text) (sym (ctr_key-joined mac second same))

-- ---- opening and sealing

-- where the test of V holds and the bytes are long enough, they open
pub opens : (key bytes ad : List ℕ) → 16 ≤ length bytes
    → siv_of bytes ≡ s2v (mac_key key) ad (plain_of key bytes)
    → siv_open key bytes ad ≡ Some (plain_of key bytes)
unfolding siv_open
opens key bytes ad long same =
    let decides = bytes_eq-Decides (siv_of bytes) (s2v (mac_key key) ad (plain_of key bytes)) in
    let plain = Some (plain_of key bytes) in
    cond-false (nat_lt (length bytes) 16) None (cond (is_authentic key bytes ad) plain None)
    (le-ltb (length bytes) 16 long)
    ∙ cond-true (is_authentic key bytes ad) plain None (decides.1 same)

pub open-short : (key bytes ad : List ℕ) → length bytes < 16 → siv_open key bytes ad ≡ None
unfolding siv_open
open-short key bytes ad short = cond-true _ _ _ (lt-ltb (length bytes) 16 short)

pub open-other : (key bytes ad : List ℕ) → 16 ≤ length bytes
    → siv_of bytes ≢ s2v (mac_key key) ad (plain_of key bytes) → siv_open key bytes ad ≡ None
unfolding siv_open
open-other key bytes ad long other =
    let decides = bytes_eq-Decides (siv_of bytes) (s2v (mac_key key) ad (plain_of key bytes)) in
    cond-false _ _ _ (le-ltb (length bytes) 16 long)
    ∙ cond_both (is_authentic key bytes ad) (Some (plain_of key bytes)) None (λ o. o ≡ None)
    (λ same. absurd (other (decides.0 same))) (λ no. refl)

-- and only there
pub opened : (key bytes plain ad : List ℕ) → siv_open key bytes ad ≡ Some plain
    → (16 ≤ length bytes) × (siv_of bytes ≡ s2v (mac_key key) ad (plain_of key bytes))
    × (plain_of key bytes ≡ plain)
unfolding siv_open
opened key bytes plain ad =
    let decides = bytes_eq-Decides (siv_of bytes) (s2v (mac_key key) ad (plain_of key bytes)) in
    let text : List ℕ = plain_of key bytes in
    let facts : Type 0 = (16 ≤ length bytes) × (siv_of bytes ≡ s2v (mac_key key) ad text)
    × (text ≡ plain) in
    cond_both (nat_lt (length bytes) 16) None (cond (is_authentic key bytes ad) (Some text) None)
    (λ o. o ≡ Some plain → facts)
    (λ short e. absurd (none-some plain e))
    (λ long. cond_both (is_authentic key bytes ad) (Some text) None
    (λ o. o ≡ Some plain → facts)
    (λ same e. (ltb-false (length bytes) 16 long, decides.0 same, same_Some text plain e))
    (λ other e. absurd (none-some plain e)))

pub opened-sealed : (key bytes plain ad : List ℕ) → siv_open key bytes ad ≡ Some plain
    → bytes ≡ siv_seal key plain ad
unfolding siv_seal
opened-sealed key bytes plain ad e =
    let facts = opened key bytes plain ad e in
    let v : List ℕ = siv_of bytes in
    let siv : v ≡ s2v (mac_key key) ad plain
    = facts.1 ∙ ap (λ p. s2v (mac_key key) ad p) facts.2 in
    let text : text_of bytes ≡ siv_text key v plain
    = sym (siv_text-siv_text key v (text_of bytes)) ∙ ap (λ p. siv_text key v p) facts.2 in
    sym (take-append-drop 16 bytes) ∙ ap (λ t. v ++ t) text
    ∙ ap (λ u. u ++ siv_text key u plain) siv

pub sealed-opened : (key plain ad : List ℕ)
    → siv_open key (siv_seal key plain ad) ad ≡ Some plain
unfolding siv_seal
sealed-opened key plain ad =
    let v : List ℕ = s2v (mac_key key) ad plain in
    let text : List ℕ = siv_text key v plain in
    let bytes : List ℕ = v ++ text in
    let size = length-s2v (mac_key key) ad plain in
    let siv : siv_of bytes ≡ v = take_at v text 16 size in
    let rest : text_of bytes ≡ text = drop_at v text 16 size in
    let back : plain_of key bytes ≡ plain
    = ap (λ u. siv_text key u (text_of bytes)) siv ∙ ap (λ t. siv_text key v t) rest
    ∙ siv_text-siv_text key v plain in
    opens key bytes ad (omega (arith, length-append v text, size))
    (siv ∙ sym (ap (λ p. s2v (mac_key key) ad p) back))
    ∙ ap (λ p. Some p) back
