-- The chain before the last block, and the last block.
use Rattle.std.proofs.Common.{◌≡◌, ◌+◌, ◌-◌, ◌*◌, ◌/◌, ◌%◌, ◌<◌, ◌≤◌, ◌≢◌, ◌++◌, ◌∷◌, ◌∙◌, ℕ, zero, suc, List, ap, arith, drop, length, length-append, max, refl, replicate, sym, take}
use Rattle.std.proofs.Math.Seq.{drop-append_seam}
use Rattle.std.proofs.lemmas.Bool.Decides.{nat_tests}
use Rattle.std.proofs.lemmas.Bool.{lt-ltb, le-ltb, cond-true, cond-false}
use Rattle.std.proofs.lemmas.List.{take_at}
use Rattle.aes_core.specs.Aes.{cipher}
use Rattle.aes_core.specs.Bytes.{xor_bytes}
use Rattle.aes_core.specs.Chain.{chained, whole_blocks}
use Rattle.aes_core.proofs.ChainLemmas.{chain_more, chained-append, length-whole_blocks, whole_blocks-append}
use Rattle.mac_prf.specs.Cmac.{block_count, chain, cmac, masked, message_block, subkey1, subkey2, zero_block}

-- ---- the chain before the last block

-- whole blocks are chained behind others
pub chained-behind : (key front more : List ℕ) → length front % 16 ≡ 0
    → chained key (chained key zero_block (whole_blocks front)) (whole_blocks more)
    ≡ chained key zero_block (whole_blocks (front ++ more))
chained-behind key front more whole =
    sym (chained-append key zero_block (whole_blocks front) (whole_blocks more))
    ∙ ap (chained key zero_block) (sym (whole_blocks-append front more whole))

-- before the last block none is masked
chain-before : (key m : List ℕ) (i : ℕ) → i < block_count m
    → chain key m i ≡ chained key zero_block (take i (whole_blocks m))
unfolding chain chained
chain-before key m zero before = refl
chain-before key m (suc i) before =
    let place : (suc i - 1) * 16 ≡ 16 * i = omega arith in
    let next : i + 1 ≡ suc i = omega arith in
    let block : message_block key m (suc i) ≡ take 16 (drop (16 * i) m)
    = cond-true _ _ _ (lt-ltb (suc i) (block_count m) before)
    ∙ ap (λ n. take 16 (drop n m)) place in
    chain_more key zero_block m (chain key m i) (message_block key m (suc i)) i (omega arith)
    (chain-before key m i (omega arith)) block
    ∙ ap (λ n. chained key zero_block (take n (whole_blocks m))) next

counted : (i p n : ℕ) → n ≡ i * 16 + p → p ≤ 16 → (p ≡ 0 → i ≡ 0) → max 1 ((n + 15) / 16) ≡ suc i
counted zero p n total size some = omega arith
counted (suc i) zero n total size some = absurd (omega (arith, some refl))
counted (suc i) (suc p) n total size some = omega arith

-- the tag of whole blocks in front and the part behind them, which is none only of the empty message
pub cmac-parts : (key front part : List ℕ) → length front % 16 ≡ 0 → length part ≤ 16
    → (length part ≡ 0 → length front ≡ 0)
    → cipher key (xor_bytes (chained key zero_block (whole_blocks front)) (masked key part))
    ≡ cmac key (front ++ part)
unfolding chain cmac
cmac-parts key front part whole size some =
    let m = front ++ part in
    let i = length front / 16 in
    let total : length m ≡ i * 16 + length part = omega (arith, length-append front part) in
    let none : length part ≡ 0 → i ≡ 0 = λ e. omega (arith, some e) in
    let count : block_count m ≡ suc i = counted i (length part) (length m) total size none in
    let place : (suc i - 1) * 16 ≡ length front = omega arith in
    let before : chain key m i ≡ chained key zero_block (whole_blocks front)
    = chain-before key m i (omega arith)
    ∙ ap (chained key zero_block) (ap (take i) (whole_blocks-append front part whole)
    ∙ take_at (whole_blocks front) (whole_blocks part) i (length-whole_blocks front)) in
    let last : message_block key m (suc i) ≡ masked key part
    = cond-false _ _ _ (le-ltb (suc i) (block_count m) (omega arith))
    ∙ ap (λ n. masked key (drop n m)) place ∙ ap (masked key) (drop-append_seam front part) in
    (λ k. cipher key (xor_bytes (sym before k) (sym last k))) ∙ ap (chain key m) (sym count)

-- ---- the last block

pub masked-whole : (key part : List ℕ) → length part ≡ 16
    → masked key part ≡ xor_bytes (subkey1 key) part
masked-whole key part whole = rw whole

pub masked-part : (key part : List ℕ) → length part ≢ 16
    → masked key part ≡ xor_bytes (subkey2 key) (part ++ 0x80 ∷ replicate (15 - length part) 0)
masked-part key part short = grind (arith, nat_tests)
