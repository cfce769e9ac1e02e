-- Numbers of 32 bits and enums in JSON (the JSON mapping of proto3, less what it writes with a
-- fraction or an exponent). What isn't of the form gives nothing.
use Rattle.std.specs.Prelude.{ℕ, ◌^◌, nat_lt, List, Option, Some, None, if◌then◌else◌}
use Rattle.serde_json.specs.Data.{Num, unsigned, negative, float, Data, null, boolean, number, string, array, object}
use Rattle.tink_base.specs.Decimal.{number_in}
use Rattle.keyset_json.specs.Names.{number_named}

-- a number below 2^32
abbrev pub within_32_bits : ℕ → Option ℕ
within_32_bits n = if nat_lt n (2 ^ 32) then Some n else None

-- A whole number that is written in digits alone; `-0`, and what has a point or an exponent, is no
-- such one to `serde_json`.
abbrev pub number_of_num : Num → Option ℕ
number_of_num (unsigned n) = within_32_bits n
number_of_num (negative z) = None
number_of_num (float x) = None

-- a number, or its digits as a text
abbrev pub uint32_of : Data → Option ℕ
uint32_of (number n) = number_of_num n
uint32_of (string s) = number_in s
uint32_of null = None
uint32_of (boolean b) = None
uint32_of (array ds) = None
uint32_of (object ms) = None

-- a number, or a name of the enum
abbrev pub enum_of : List (List ℕ) → Data → Option ℕ
enum_of names (number n) = number_of_num n
enum_of names (string s) = number_named names s
enum_of names null = None
enum_of names (boolean b) = None
enum_of names (array ds) = None
enum_of names (object ms) = None
