-- What the lanes of a block hold, over the definitions of the kit's `hex`. No public clause names these.
use Rattle.std.specs.Prelude.{ℕ, ◌+◌, ◌*◌, Bool, List, [], ◌∷◌, map, unwrap_or}
use Rattle.std.specs.Simd.Lanes.{all_below}
use Rattle.hex.specs.Hex.{hex_digit_value}

-- the value of a digit in either case, and 255 of any other character
abbrev pub value : ℕ → ℕ
value c = unwrap_or (hex_digit_value c) 255

-- the values of some characters
abbrev pub values : List ℕ → List ℕ
values text = map value text

-- whether all of them are digits
abbrev pub all_digits : List ℕ → Bool
all_digits text = all_below 16 (values text)

-- the bytes of pairs of values, the high four bits first
unfoldable pub joined : List ℕ → List ℕ
joined [] = []
joined (high ∷ []) = []
joined (high ∷ low ∷ rest) = (high * 16 + low) ∷ joined rest
