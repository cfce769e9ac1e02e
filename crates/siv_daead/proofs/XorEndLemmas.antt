-- A list XORed onto the end of another one, byte by byte; and counter mode of it.
use Rattle.std.proofs.Common.{◌≡◌, ℕ, ◌+◌, ◌-◌, ◌<◌, ◌≤◌, List, ◌++◌, length, take, drop, replicate, get_or, inl, inr, sym, ap, ◌∙◌, arith, length-append}
use Rattle.std.proofs.lemmas.Bool.{cases_lt}
use Rattle.std.proofs.lemmas.List.{ext_get_or, get_or_append_left, get_or-append_right, get_or-drop, get_or-replicate, get_or-take, length-drop, length-replicate, length-take-le}
use lib.Bits.{bit_xor, xor_assoc, xor_comm, xor_self, xor_zero_r}
use Rattle.aes_core.specs.Bytes.{xor_bytes}
use Rattle.aes_core.specs.Counter.{ctr}
use Rattle.aes_core.specs.declared.counter.CtrKind.{CtrKind}
use Rattle.aes_core.proofs.BlockXor.{get_or-xor_bytes, length-xor_bytes}
use Rattle.aes_core.proofs.CounterMode.{ctr_from_bytes, get_or-ctr, length-ctr, output_byte}
use Rattle.siv_daead.specs.Siv.{xor_end}

-- byte i of what is XORed, where n bytes are left as they are
abbrev end_byte : List ℕ → ℕ → ℕ → ℕ
end_byte b n i = get_or (replicate n 0 ++ b) i 0

pub length-xor_end : (a b : List ℕ) → length b ≤ length a → length (xor_end a b) ≡ length a
length-xor_end a b fits =
    let n : ℕ = length a - length b in
    omega (
      arith,
      length-append (take n a) (xor_bytes (drop n a) b),
      length-take-le n a (omega arith),
      length-xor_bytes (drop n a) b (omega (arith, length-drop n a)),
      length-drop n a,
    )

get_or-xor_end : (a b : List ℕ) (n i : ℕ) → length a ≡ n + length b → i < length a
    → get_or (xor_end a b) i 0 ≡ bit_xor (get_or a i 0) (end_byte b n i)
get_or-xor_end a b n i size h =
    let cut : length a - length b ≡ n = omega arith in
    let front : List ℕ = take n a in
    let back : List ℕ = xor_bytes (drop n a) b in
    let zeros : List ℕ = replicate n 0 in
    let first : length front ≡ n = length-take-le n a (omega arith) in
    let none : length zeros ≡ n = length-replicate n 0 in
    ap (λ (k : ℕ). get_or (take k a ++ xor_bytes (drop k a) b) i 0) cut
    ∙ elim (cases_lt i n) [
      | inl lt ↦
          get_or_append_left front back 0 i (omega arith)
          ∙ get_or-take n a i 0 lt
          ∙ sym (ap (bit_xor (get_or a i 0)) (get_or_append_left zeros b 0 i (omega arith)
          ∙ get_or-replicate n i 0 0 lt)
          ∙ xor_zero_r (get_or a i 0))
      | inr le ↦
          let j : ℕ = i - n in
          let place : n + j ≡ i = omega arith in
          get_or-append_right front back n i 0 first le
          ∙ get_or-xor_bytes (drop n a) b j (omega (arith, length-drop n a)) (omega arith)
          ∙ ap (λ (x : ℕ). bit_xor x (get_or b j 0))
          (get_or-drop n a j 0 ∙ ap (λ (k : ℕ). get_or a k 0) place)
          ∙ ap (bit_xor (get_or a i 0)) (sym (get_or-append_right zeros b n i 0 none le))
    ]

-- a second time gives the list back
pub xor_end-xor_end : (a b : List ℕ) → length b ≤ length a → xor_end (xor_end a b) b ≡ a
xor_end-xor_end a b fits =
    let n : ℕ = length a - length b in
    let once : List ℕ = xor_end a b in
    let l : length once ≡ length a = length-xor_end a b fits in
    ext_get_or 0 (xor_end once b) a (length-xor_end once b (omega arith) ∙ l)
    (λ i h.
    let within : i < length a = omega (arith, length-xor_end once b (omega arith)) in
    let x : ℕ = get_or a i 0 in
    let y : ℕ = end_byte b n i in
    get_or-xor_end once b n i (omega arith) (omega arith)
    ∙ ap (λ (z : ℕ). bit_xor z y) (get_or-xor_end a b n i (omega arith) within)
    ∙ xor_assoc x y y ∙ ap (bit_xor x) (xor_self y) ∙ xor_zero_r x)

-- what is XORed onto the end of a text goes through counter mode
pub ctr-xor_end : (key start : List ℕ) (kind : CtrKind) (text b : List ℕ) → length b ≤ length text
    → ctr key start kind (xor_end text b) ≡ xor_end (ctr key start kind text) b
ctr-xor_end key start kind text b fits =
    let n : ℕ = length text - length b in
    let old : List ℕ = xor_end text b in
    let plain : List ℕ = ctr key start kind text in
    let l : length plain ≡ length text = length-ctr key start kind text in
    let lo : length old ≡ length text = length-xor_end text b fits in
    sym (ctr_from_bytes key start kind old (xor_end plain b)
    (length-xor_end plain b (omega arith) ∙ l ∙ sym lo)
    (λ i h.
    let within : i < length text = omega arith in
    let x : ℕ = get_or text i 0 in
    let y : ℕ = output_byte key start kind i in
    let z : ℕ = end_byte b n i in
    get_or-xor_end plain b n i (omega arith) (omega arith)
    ∙ ap (λ (u : ℕ). bit_xor u z) (get_or-ctr key start kind text i within)
    ∙ xor_assoc x y z ∙ ap (bit_xor x) (xor_comm y z) ∙ sym (xor_assoc x z y)
    ∙ ap (λ (u : ℕ). bit_xor u y) (sym (get_or-xor_end text b n i (omega arith) within))))
