-- EAX seals and opens by a cipher that undoes itself, and its tag is a block.
use Rattle.std.proofs.Common.{◌≡◌, ℕ, suc, ◌-◌, Some, List, ◌++◌, length, take, ap, ◌∙◌, arith}
use Rattle.std.specs.Int.{w128, to_be_bytes}
use Rattle.aes_core.specs.Bytes.{xor_bytes}
use Rattle.aes_core.specs.declared.counter.CtrKind.TheVariants.{All128}
use Rattle.aes_core.proofs.BlockXor.{length-xor_bytes}
use Rattle.aes_core.proofs.CounterMode.{ctr-ctr, length-cipher, length-ctr}
use Rattle.mac_prf.specs.Cmac.{block_count, chain, cmac, message_block}
use Rattle.aead_kinds.specs.Eax.{eax_open, eax_seal, eax_tag, eax_text, omac}
use Rattle.aead_kinds.proofs.EncryptThenTagLemmas.{IsScheme, opened-sealed_by, sealed_by_first-opens}

pub length-omac : (t : ℕ) (key m : List ℕ) → length (omac t key m) ≡ 16
unfolding omac chain cmac
length-omac t key m =
    let all : List ℕ = to_be_bytes w128 t ++ m in
    let before = block_count all - 1 in
    let count : block_count all ≡ suc before = omega arith in
    ap (λ n. length (chain key all n)) count
    ∙ length-cipher key (xor_bytes (chain key all before) (message_block key all (suc before)))

pub length-eax_tag : (key iv ad text : List ℕ) → length (eax_tag key iv ad text) ≡ 16
unfolding eax_tag
length-eax_tag key iv ad text =
    let n = omac 0 key iv in
    let h = omac 1 key ad in
    let first = length-omac 0 key iv in
    let both : length (xor_bytes n h) ≡ 16
    = length-xor_bytes n h (omega (arith, first, length-omac 1 key ad)) ∙ first in
    length-xor_bytes (xor_bytes n h) (omac 2 key text)
    (omega (arith, both, length-omac 2 key text)) ∙ both

pub eax-is_scheme : (key : List ℕ) → IsScheme (eax_text key) (eax_tag key) 16
unfolding eax_text
eax-is_scheme key = record {
  some = omega arith;
  back = λ iv text. ctr-ctr key (omac 0 key iv) All128 text;
  size = λ iv ad text. length-eax_tag key iv ad text;
  long = λ iv text. length-ctr key (omac 0 key iv) All128 text;
}

pub eax-opened : (key : List ℕ) (v : ℕ) (bytes plain ad : List ℕ)
    → eax_open key v bytes ad ≡ Some plain → bytes ≡ eax_seal key (take v bytes) plain ad
unfolding eax_open eax_seal
eax-opened key v bytes plain ad e =
    opened-sealed_by (eax_text key) (eax_tag key) v 16 bytes plain ad (eax-is_scheme key) e

pub eax-opens : (key : List ℕ) (v : ℕ) (bytes plain ad : List ℕ)
    → bytes ≡ eax_seal key (take v bytes) plain ad → eax_open key v bytes ad ≡ Some plain
unfolding eax_open eax_seal
eax-opens key v bytes plain ad e =
    sealed_by_first-opens (eax_text key) (eax_tag key) v 16 bytes plain ad (eax-is_scheme key) e
