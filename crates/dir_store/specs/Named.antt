-- The path of a new file: where the file stands that was made under a temporary name.
use Rattle.std.specs.Prelude.{ℕ, List, Option, Some, None, string_bytes}
use Rattle.real_objects.specs.Naming.{Place, Gone, There, Left}
use Rattle.dir_store.specs.declared.named.Temporary.{Temporary}
use Rattle.dir_store.specs.declared.named.Temporary.TheVariants as temporary

-- where it stands, by what is kept of it
abbrev pub place_of : Temporary → Place
place_of temporary.Gone = Gone
place_of (temporary.There path) = There
place_of (temporary.Left path) = Left

-- the path of the file whose temporary name couldn't be removed
abbrev pub left_path : Temporary → Option (List ℕ)
left_path temporary.Gone = None
left_path (temporary.There path) = None
left_path (temporary.Left path) = Some (string_bytes path)

-- the path of the file that stands under its temporary name
abbrev pub there_path : Temporary → Option (List ℕ)
there_path temporary.Gone = None
there_path (temporary.There path) = Some (string_bytes path)
there_path (temporary.Left path) = None
