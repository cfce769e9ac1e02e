-- What is found of a file, and the folder of a path.
use Rattle.std.specs.Prelude.{◌≡◌, ◌⊎◌, ◌<◌, ◌≤◌, ℕ, ◌==◌, List, ◌∷◌, ◌++◌, length, Option, Some, None, option_map, string_bytes}
use Rattle.std.specs.Str.{NoCharPasses}
use Rattle.std.specs.Path.{slash, root_dir, cur_dir}
use Rattle.real_objects.specs.declared.cause.Cause.{Cause}
use Rattle.real_objects.specs.declared.cause.FileError.{FileError}
use Rattle.real_objects.specs.declared.cause.FileError.TheVariants as error
use Rattle.dir_store.specs.declared.folder.DirStore.{DirStore}
use Rattle.dir_store.specs.declared.named.Temporary.{Temporary}
use Rattle.dir_store.specs.Named.{left_path}
use Rattle.tink_spec.specs.Files.{StoreState}
use Rattle.tink_base.specs.Pieces.{Draft}
use Rattle.tink_base.specs.declared.store.Loaded.{Loaded}
use Rattle.tink_base.specs.declared.store.Loaded.TheVariants as loaded

-- how many calls on the files have failed
abbrev pub fault_count : DirStore → ℕ
fault_count files = elim files.faults [ None ↦ 0 | Some faults ↦ faults.count ]

-- why the last of them did
abbrev pub kept_cause : DirStore → Option Cause
kept_cause files = option_map (λ faults. faults.last) files.faults

-- the cause that they keep after a refusal with this error
abbrev pub last_cause : Option Cause → FileError → Option Cause
last_cause kept (error.Failed cause) = Some cause
last_cause kept error.NoMemory = kept

-- the files, with so many faults and bytes given
abbrev pub untold_store : (faults given : ℕ) → StoreState
untold_store faults given = record { files = None; faults = faults; given = given }

-- the files, of which their counts alone are told
abbrev pub told_files : DirStore → StoreState
told_files files = untold_store (fault_count files) files.given

-- the path that the files keep of one which was made under a temporary name that couldn't be removed
abbrev pub kept_path : DirStore → Option (List ℕ)
kept_path files = option_map string_bytes files.left

-- the path that they keep once a file was made under this temporary name: its own, if the name couldn't be removed
abbrev pub last_path : Option (List ℕ) → Temporary → Option (List ℕ)
last_path kept made = elim (left_path made) [ None ↦ kept | Some path ↦ Some path ]

-- the draft, of which its name alone is told
abbrev pub drafted : DirStore → Option Draft
drafted files = option_map (λ draft. record { name = string_bytes draft.name; bytes = None }) files.draft

-- what a load finds of a file of these bytes under this limit
abbrev pub IsLoaded : List ℕ → ℕ → Loaded → Type 0
IsLoaded bytes limit loaded.Absent = ⊥
IsLoaded bytes limit loaded.TooLong = limit < length bytes
IsLoaded bytes limit (loaded.Bytes all) = (all ≡ bytes) × (length bytes ≤ limit)

-- no character of a text is a slash
abbrev pub HasNoSlash : List ℕ → Type 0
HasNoSlash text = NoCharPasses (λ c. c == slash) text

-- the folder of a path: the working folder, where the path has no slash; the root, where its last slash is its first
-- byte; and otherwise what stands before its last slash
abbrev pub IsFolder : (path folder : List ℕ) → Type 0
IsFolder path folder =
    (HasNoSlash path × (folder ≡ cur_dir))
    ⊎ ((last : List ℕ) × HasNoSlash last × (path ≡ slash ∷ last) × (folder ≡ root_dir))
    ⊎ ((last : List ℕ) × HasNoSlash last × (path ≡ folder ++ slash ∷ last) × (0 < length folder))
