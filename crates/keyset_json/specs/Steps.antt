-- What the steps of reading a keyset answer, by the definitions of reading.
use Rattle.std.specs.Prelude.{◌≡◌, Option, None, Result, Ok, Err}
use Rattle.serde_json.specs.Data.{Data}
use Rattle.keyset_json.specs.declared.member.Path.{Path}
use Rattle.keyset_json.specs.declared.reading.JsonError.{JsonError}
use Rattle.keyset_json.specs.declared.reading.JsonError.TheVariants as errors

-- the error is the path that was found
abbrev pub IsShape : {A : Type 0} → JsonError → Result A Path → Type 0
IsShape errors.NotJson read = ⊥
IsShape (errors.Shape path) read = read ≡ Err path
IsShape (errors.Fault fault) read = ⊥
IsShape errors.NoMemory read = Unit {0}

-- the value is what was found, or the error is
abbrev pub Gives : {A : Type 0} → Result A JsonError → Result A Path → Type 0
Gives (Ok value) read = read ≡ Ok value
Gives (Err error) read = IsShape error read

-- there is no value
abbrev pub IsNoValue : JsonError → Option Data → Type 0
IsNoValue errors.NotJson value = value ≡ None
IsNoValue (errors.Shape path) value = ⊥
IsNoValue (errors.Fault fault) value = ⊥
IsNoValue errors.NoMemory value = Unit {0}
