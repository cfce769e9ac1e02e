-- What is found of a file by its path, and what is read of one from a place on.
use Rattle.std.specs.Prelude.{◌≡◌, ◌⊎◌, ◌≤◌, ℕ, List, length, take, drop, Option, Some, None, IfSome}
use Rattle.std.specs.Fs.{IsFile, file_type, metadata_len}
use Rattle.std.specs.declared.fs.attrs.Metadata.{Metadata}
use Rattle.std.specs.declared.io.ErrorKind.{ErrorKind}
use Rattle.std.specs.declared.io.ErrorKind.TheVariants as kind

-- what was found of a file: its length, or that there is none
abbrev pub IsSize : Metadata → Option ℕ → Type 0
IsSize found None = ⊥
IsSize found (Some size) = (size ≡ metadata_len found) × IsFile (file_type found)

-- there is no file of a name, by the kind of the error of what looked for it
abbrev pub IsMissing : ErrorKind → Type 0
IsMissing k = (k ≡ kind.NotFound) ⊎ (k ≡ kind.NotADirectory)

-- so many bytes were read of a file, where it tells: at least one, from that place on
abbrev pub IsPieceAt : Option (List ℕ) → (at : ℕ) → (out : List ℕ) → ℕ → Type 0
IsPieceAt bytes at out n =
    (1 ≤ n) × (n ≤ length out) × IfSome bytes (λ all. take n out ≡ take n (drop at all))
