-- The names of each enum that the code asks for.
use Rattle.std.specs.Prelude.{ℕ, List}
use Rattle.keyset_json.specs.Names.{status_names, prefix_names, material_names}
use Rattle.keyset_json.specs.declared.names.Names.{Names}
use Rattle.keyset_json.specs.declared.names.Names.TheVariants as enums

-- the names of an enum
abbrev pub names_of : Names → List (List ℕ)
names_of enums.Status = status_names
names_of enums.Prefix = prefix_names
names_of enums.Material = material_names
