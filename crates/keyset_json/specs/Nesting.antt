-- How deep the lists and objects of a text nest. The text is gone through over its bytes, whether it is JSON
-- or not: outside of strings a bracket or a brace opens a level or closes one, and in a string (RFC 8259,
-- section 7) a backslash keeps the next byte from ending it.
--
--   next            how the next byte stands to a string
--   nests_within    no more than so many levels are open at once
--   is_shallow      no more than 32
use Rattle.std.specs.Prelude.{ℕ, ◌+◌, ◌-◌, List, [], ◌∷◌, Bool, true, false, ◌&&◌, ◌||◌, ◌==◌, nat_lt, if◌then◌else◌, Option, Some, None}
use Rattle.keyset_json.specs.declared.nesting.Levels.{Levels}
use Rattle.keyset_json.specs.declared.nesting.Quoting.{Quoting}
use Rattle.keyset_json.specs.declared.nesting.Quoting.TheVariants as quotings

-- a list or an object begins
abbrev pub opens : ℕ → Bool
opens x = (x == 91) || (x == 123)

-- a list or an object ends
abbrev pub closes : ℕ → Bool
closes x = (x == 93) || (x == 125)

-- no string is open
abbrev pub is_outside : Quoting → Bool
is_outside quotings.Outside = true
is_outside quotings.Inside = false
is_outside quotings.Escaped = false

-- how the byte behind this one stands to a string
abbrev pub next : Quoting → ℕ → Quoting
next quotings.Outside x = if x == 34 then quotings.Inside else quotings.Outside
next quotings.Inside x =
    if x == 34 then quotings.Outside else (if x == 92 then quotings.Escaped else quotings.Inside)
next quotings.Escaped x = quotings.Inside

-- how many levels are open behind the byte
abbrev pub next_level : ℕ → Quoting → ℕ → ℕ
next_level level quoting x =
    if is_outside quoting && opens x then level + 1
    else (if is_outside quoting && closes x then level - 1 else level)

-- the byte opens none too many
abbrev pub fits : (most level : ℕ) → Quoting → ℕ → Bool
fits most level quoting x = if is_outside quoting && opens x then nat_lt level most else true

-- no more than so many levels are open at once, where some are open already
unfoldable pub nests_within : (most level : ℕ) → Quoting → List ℕ → Bool
nests_within most level quoting [] = true
nests_within most level quoting (x ∷ xs) =
    fits most level quoting x && nests_within most (next_level level quoting x) (next quoting x) xs

-- the most levels that are read
abbrev pub most_levels : ℕ
most_levels = 32

-- a text that nests no deeper than is read
unfoldable pub is_shallow : List ℕ → Bool
is_shallow text = nests_within most_levels 0 quotings.Outside text

-- what stands behind a byte is shallow, by the levels that are open there; none where one is too many
abbrev pub goes_on : Option Levels → List ℕ → Bool
goes_on None xs = false
goes_on (Some levels) xs = nests_within most_levels levels.level levels.quoting xs
