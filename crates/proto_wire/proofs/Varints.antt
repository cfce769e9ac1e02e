-- Where a varint ends, and what it stands for.
use Rattle.std.proofs.Common.{◌≡◌, ◌∙◌, ap, refl, ℕ, zero, suc, ◌+◌, ◌*◌, ◌%◌, ◌^◌, ◌<◌, ◌≤◌, List, [], ◌∷◌, reverse, length, take, drop, arith, lit<, inl, inr, Option, Some, None}
use Rattle.std.specs.Prelude.{Bool, nat_lt, nat_le, if◌then◌else◌, fold, option_map, option_and_then, position}
use Rattle.std.specs.List.{position_or_len}
use Rattle.std.proofs.Math.Nat.{mod-add-mod}
use Rattle.std.proofs.Math.Numerals.{add-one}
use Rattle.std.proofs.lemmas.Bool.{le-leb}
use Rattle.std.proofs.lemmas.Bool.Decides.{leb_tells}
use Rattle.std.proofs.lemmas.List.{reverse-append, length-take}
use Rattle.std.proofs.lemmas.List.Sums.{fold-append}
use Rattle.std.proofs.lemmas.Nat.{mul-mod_first}
use Rattle.tink_spec.specs.Varint.{groups, varint_front, number_front}

-- a group before the others, modulo 2 ^ 64
abbrev pub with_group : ℕ → ℕ → ℕ
with_group value b = (value * 128 % 2 ^ 64 + b % 128) % 2 ^ 64

same_sum : (r g : ℕ) → g * 128 + r ≡ r + 128 * g
same_sum r g = omega arith

with_group-mod : (g b : ℕ) → with_group (g % 2 ^ 64) b ≡ (b % 128 + 128 * g) % 2 ^ 64
with_group-mod g b =
    ap (λ (v : ℕ). (v + b % 128) % 2 ^ 64) (mul-mod_first g 128 (2 ^ 64)) ∙ mod-add-mod (g * 128) (2 ^ 64) (b % 128)
    ∙ ap (λ (v : ℕ). v % 2 ^ 64) (same_sum (b % 128) g)

pub low_groups-fold : (bytes : List ℕ) → fold with_group 0 (reverse bytes) ≡ groups bytes % 2 ^ 64
low_groups-fold [] = refl
low_groups-fold (b ∷ bytes) =
    ap (λ (l : List ℕ). fold with_group 0 l) (reverse-append (b ∷ []) bytes) ∙ fold-append with_group 0 (reverse bytes) (b ∷ [])
    ∙ ap (λ (v : ℕ). with_group v b) (low_groups-fold bytes) ∙ with_group-mod (groups bytes) b

-- the last byte of a varint has no top bit
abbrev pub is_last : ℕ → Bool
is_last b = nat_lt b 128

abbrev pub last_place : ℕ → List ℕ → ℕ
last_place n bytes = position_or_len is_last (take n bytes)

pub varint_front-found : (bytes : List ℕ) (n : ℕ) → last_place n bytes < length (take n bytes) → varint_front bytes ≡ Some (take (suc (last_place n bytes)) bytes, drop (suc (last_place n bytes)) bytes)
unfolding varint_front
varint_front-found [] zero found = absurd (omega arith)
varint_front-found [] (suc n) found = absurd (omega arith)
varint_front-found (b ∷ bytes) zero found = absurd (omega arith)
varint_front-found (b ∷ bytes) (suc n) found = elim (leb_tells (suc b) 128) [
  | inl low ↦ rw low.0 refl
  | inr high ↦
      let more : 1 + last_place n bytes < suc (length (take n bytes)) = rw high.0 at found in
      let e : 1 + last_place n bytes ≡ suc (last_place n bytes) = omega arith in
      rw (high.0, varint_front-found bytes n (omega arith), e) refl
]

-- a varint that isn't found so is longer
abbrev IsLonger : ℕ → Option (List ℕ × List ℕ) → Type 0
IsLonger n None = Unit {0}
IsLonger n (Some cut) = n < length cut.0

one_longer : (n b : ℕ) (front : Option (List ℕ × List ℕ)) → IsLonger n front → IsLonger (suc n) (option_map (λ (cut : List ℕ × List ℕ). (b ∷ cut.0, cut.1)) front)
one_longer n b None longer = tt
one_longer n b (Some cut) longer = omega arith

some_byte : (b : ℕ) (front : Option (List ℕ × List ℕ)) → IsLonger 0 (option_map (λ (cut : List ℕ × List ℕ). (b ∷ cut.0, cut.1)) front)
some_byte b None = tt
some_byte b (Some cut) = omega arith

varint_front-longer : (bytes : List ℕ) (n : ℕ) → length (take n bytes) ≤ last_place n bytes → IsLonger n (varint_front bytes)
unfolding varint_front
varint_front-longer [] n past = tt
varint_front-longer (b ∷ bytes) zero past = elim (leb_tells (suc b) 128) [
  | inl low ↦ rw low.0 (lit< tt)
  | inr high ↦ rw high.0 (some_byte b (varint_front bytes))
]
varint_front-longer (b ∷ bytes) (suc n) past = elim (leb_tells (suc b) 128) [
  | inl low ↦ let none : suc (length (take n bytes)) ≤ 0 = rw low.0 at past in absurd (omega arith)
  | inr high ↦
      let more : suc (length (take n bytes)) ≤ 1 + last_place n bytes = rw high.0 at past in
      rw high.0 (one_longer n b (varint_front bytes) (varint_front-longer bytes n (omega arith)))
]

abbrev short_number : List ℕ × List ℕ → Option (ℕ × List ℕ)
short_number cut = if nat_le (length cut.0) 10 then Some (groups cut.0 % 2 ^ 64, cut.1) else None

none_longer : (front : Option (List ℕ × List ℕ)) → IsLonger 10 front → option_and_then short_number front ≡ None
none_longer None longer = refl
none_longer (Some cut) longer = elim (leb_tells (length cut.0) 10) [
  | inl short ↦ absurd (omega arith)
  | inr long ↦ rw long.0 refl
]

-- the number at the front, by the place of the varint's last byte
number_front-position : (bytes : List ℕ) → number_front bytes ≡ option_map (λ (last : ℕ). (groups (take (suc last) bytes) % 2 ^ 64, drop (suc last) bytes)) (position is_last (take 10 bytes))
unfolding number_front
number_front-position bytes = elim (leb_tells (suc (last_place 10 bytes)) (length (take 10 bytes))) [
  | inl found ↦ let within : length (take (suc (last_place 10 bytes)) bytes) ≤ 10 = omega (arith, length-take (suc (last_place 10 bytes)) bytes, length-take 10 bytes) in
      rw (found.0, varint_front-found bytes 10 found.1, le-leb (length (take (suc (last_place 10 bytes)) bytes)) 10 within) refl
  | inr past ↦ rw past.0 (none_longer (varint_front bytes) (varint_front-longer bytes 10 (omega arith)))
]

pub number_front-none : (bytes : List ℕ) → None ≡ position is_last (take 10 bytes) → number_front bytes ≡ None
number_front-none bytes is = rw (number_front-position, ← is) refl

pub number_front-some : (bytes : List ℕ) (last value : ℕ) → Some last ≡ position is_last (take 10 bytes) → value ≡ groups (take (last + 1) bytes) % 2 ^ 64 → number_front bytes ≡ Some (value, drop (last + 1) bytes)
number_front-some bytes last value is low = rw (number_front-position, ← is, low, add-one) refl
