-- Numbers of 32 bits in decimal digits.
--
--   is_decimal   a text is 1 to 10 decimal digits, of such a number
--   number_in    the number that a text is
use Rattle.std.specs.Prelude.{ℕ, ◌^◌, nat_lt, nat_le, ◌&&◌, List, length, Bool, Option, Some, None, if◌then◌else◌}
use Rattle.std.specs.Str.{all_ascii_digits}
use Rattle.std.specs.Str.Parse.{digits_value}

-- 1 to 10 decimal digits, and no sign, of a number up to 4,294,967,295
abbrev pub is_decimal : List ℕ → Bool
is_decimal text =
    nat_lt 0 (length text) && nat_le (length text) 10 && all_ascii_digits text
    && nat_lt (digits_value 10 text) (2 ^ 32)

-- the number that the text is, or none
unfoldable pub number_in : List ℕ → Option ℕ
number_in text = if is_decimal text then Some (digits_value 10 text) else None
