-- The names of tink.proto's enums, in the order of their numbers.
use Rattle.std.specs.Prelude.{ℕ, List, [], ◌∷◌, Option, codes, bytes_eq, position, get_or}

-- KeyStatusType
abbrev pub status_names : List (List ℕ)
status_names = codes "UNKNOWN_STATUS" ∷ codes "ENABLED" ∷ codes "DISABLED" ∷ codes "DESTROYED" ∷ []

-- OutputPrefixType
abbrev pub prefix_names : List (List ℕ)
prefix_names =
    codes "UNKNOWN_PREFIX" ∷ codes "TINK" ∷ codes "LEGACY" ∷ codes "RAW" ∷ codes "CRUNCHY" ∷ []

-- KeyData.KeyMaterialType
abbrev pub material_names : List (List ℕ)
material_names =
    codes "UNKNOWN_KEYMATERIAL" ∷ codes "SYMMETRIC" ∷ codes "ASYMMETRIC_PRIVATE"
    ∷ codes "ASYMMETRIC_PUBLIC" ∷ codes "REMOTE" ∷ []

-- the number of a name, which is its place
abbrev pub number_named : List (List ℕ) → List ℕ → Option ℕ
number_named names name = position (bytes_eq name) names

-- the name of a number
abbrev pub name_at : List (List ℕ) → ℕ → List ℕ
name_at names number = get_or names number []
