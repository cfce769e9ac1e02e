-- The words of a command line, which are told as lists of bytes.
use Rattle.std.specs.Prelude.{◌≡◌, ◌⊎◌, ◌+◌, ◌<◌, ◌≤◌, ℕ, List, Option, Some, None, length, slice_get, String, string_bytes}
use Rattle.std.specs.Str.{IsUtf8}
use Rattle.real_objects.specs.declared.args.NoWords.{NoWords}
use Rattle.real_objects.specs.declared.args.NoWords.TheVariants as whys

-- what is found at a place of the words: a text of these bytes, or no word
abbrev pub IsFound : {A : Type 0} → List (List ℕ) → ℕ → Option (String A) → Type 0
IsFound words place (Some text) = slice_get words place ≡ Some (string_bytes text)
IsFound words place None = length words ≤ place

-- the word of that place isn't UTF-8
pub record IsNotText (words : List (List ℕ)) (place : ℕ) : Type 0 where
  pub word : List ℕ
  pub there : slice_get words place ≡ Some word
  pub not_text : ¬ (IsUtf8 word)

-- The word of that place, counted after the program's name, is the first of these that isn't UTF-8.
pub record IsFirstNotText (words : List (List ℕ)) (place : ℕ) : Type 0 where
  pub at : IsNotText words (place + 1)
  pub before : (k : ℕ) (word : List ℕ) → 1 ≤ k → k ≤ place → slice_get words k ≡ Some word → IsUtf8 word

-- the word of that place has more bytes than that
pub record IsLonger (words : List (List ℕ)) (place room : ℕ) : Type 0 where
  pub word : List ℕ
  pub there : slice_get words place ≡ Some word
  pub longer : room < length word

-- memory may be wanted for the word of that place: it is UTF-8, or has more than 256 bytes
pub record IsCostly (words : List (List ℕ)) (place : ℕ) : Type 0 where
  pub word : List ℕ
  pub there : slice_get words place ≡ Some word
  pub costly : IsUtf8 word ⊎ (256 < length word)

-- The word of that place is behind the program's name, memory may be wanted for it, and those before it are UTF-8.
pub record IsFirstCostly (words : List (List ℕ)) (place : ℕ) : Type 0 where
  pub after : 1 ≤ place
  pub at : IsCostly words place
  pub before : (k : ℕ) (word : List ℕ) → 1 ≤ k → k < place → slice_get words k ≡ Some word → IsUtf8 word

-- why there are no words
abbrev pub IsCause : List (List ℕ) → NoWords → Type 0
IsCause words (whys.NotText place) = IsFirstNotText words place
IsCause words whys.NoMemory = (place : ℕ) × IsFirstCostly words place

-- why there is no word of that place
abbrev pub IsCauseAt : List (List ℕ) → (at : ℕ) → NoWords → Type 0
IsCauseAt words at (whys.NotText place) = (at ≡ place + 1) × IsNotText words at
IsCauseAt words at whys.NoMemory = IsCostly words at
