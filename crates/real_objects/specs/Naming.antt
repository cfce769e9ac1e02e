-- How a new file gets its name: how far that has come, by what the calls have answered.
--
--   held, lasted   what a file held when it got the name, and whether it lasted then, where files tell that
--   fresh          what a file holds that was just made, where files tell that
use Rattle.std.specs.Prelude.{◌≡◌, ◌⊎◌, ℕ, List, Bool, IsTrue, Option, None, IfSome, IsSome, Result, Ok, Err, IfOk, IfErr}
use Rattle.std.specs.Io.KnownBytes.{Appends}
use Rattle.std.specs.declared.io.ErrorKind.{ErrorKind}
use Rattle.std.specs.declared.io.ErrorKind.TheVariants as kind
use Rattle.tink_base.specs.declared.store.Created.{Created}
use Rattle.tink_base.specs.declared.store.Created.TheVariants as created
use Rattle.tink_base.specs.declared.store.StoreError.{StoreError}
use Rattle.tink_base.specs.declared.store.StoreError.TheVariants as error

-- how far a name has come, by what the calls on it have answered
pub data Stage : Type 0 where
  -- no file was made, and no call has said that something has the name, or that memory is wanting
  Free : Stage
  -- a call that was to look or to make a file has said that memory is wanting, and none was made
  Starved : Stage
  -- a file of ours stands or stood under a temporary name, and none has the name
  Begun : Stage
  -- a call has said that something has the name
  Taken : Stage
  -- a link was refused, as there are none
  Linkless : Stage
  -- a link gave the name to a file, as it was then
  Linked : (held : Option (List ℕ)) (lasted : Option Bool) → Stage
  -- a new file was opened under the name itself
  Opened : Stage
  -- the name was put away as far as the system lets one ask for it: of a file that a link gave it to, as it was then,
  -- or of one that was opened under it, as it is
  Kept : (held : Option (List ℕ)) (lasted : Option Bool) → Stage

-- where a file is that was made under a temporary name
pub data Place : Type 0 where
  -- nowhere: none was made, or its temporary name is gone
  Gone : Place
  -- it stands under its temporary name
  There : Place
  -- its temporary name couldn't be removed
  Left : Place

-- that far, where it is told
abbrev pub IsAt : Option Stage → Stage → Type 0
IsAt told stage = IfSome told (λ s. s ≡ stage)

-- what was written lasts, where that is told
abbrev pub Lasts : Option Bool → Type 0
Lasts lasted = IfSome lasted (λ it. IsTrue it)

-- an error of this kind says that there are no links: a link isn't permitted in a folder in which a file was just
-- made, or isn't supported, or a file can have no second name
abbrev pub HasNoLinks : ErrorKind → Type 0
HasNoLinks k = (k ≡ kind.PermissionDenied) ⊎ (k ≡ kind.Unsupported) ⊎ (k ≡ kind.TooManyLinks)

-- a file that was made for these bytes has them all, and they last
abbrev pub IsWhole : Option (List ℕ) → List ℕ → Option (List ℕ) → Option Bool → Type 0
IsWhole fresh bytes held lasted = Lasts lasted × Appends fresh held bytes

-- where the name comes to be put away: a file that was linked counts as it was then, and an opened one as it is
abbrev pub kept_as : Option (List ℕ) → Option Bool → Stage → Stage
kept_as held lasted (Linked first did) = Kept first did
kept_as held lasted Free = Kept held lasted
kept_as held lasted Starved = Kept held lasted
kept_as held lasted Begun = Kept held lasted
kept_as held lasted Taken = Kept held lasted
kept_as held lasted Linkless = Kept held lasted
kept_as held lasted Opened = Kept held lasted
kept_as held lasted (Kept first did) = Kept first did

-- what a new file of these bytes is told as, by how far its name came: each name that a link gave, it gave to the
-- whole file; memory is wanting only where a call said so before a file was made; and nobody stops where there are
-- no links
abbrev pub EndsAs : Option (List ℕ) → List ℕ → Result Created StoreError → Stage → Type 0
EndsAs fresh bytes result Free = result ≡ Err error.Failed
EndsAs fresh bytes result Starved = result ≡ Err error.NoMemory
EndsAs fresh bytes result Begun = result ≡ Err error.Failed
EndsAs fresh bytes result Taken = result ≡ Ok created.Exists
EndsAs fresh bytes result Linkless = ⊥
EndsAs fresh bytes result (Linked held lasted) = IsWhole fresh bytes held lasted × (result ≡ Err error.Failed)
EndsAs fresh bytes result Opened = result ≡ Err error.Failed
EndsAs fresh bytes result (Kept held lasted) = IsWhole fresh bytes held lasted × (result ≡ Ok created.Made)

-- what a file that was to be begun is told as, by how far its name came: it is begun where a file of ours stands under
-- a temporary name and its owner is let in, and memory is wanting only where a call said so before a file was made
abbrev pub BeginsAs : {F : Type 0} → Result (Option F) StoreError → Stage → Type 0
BeginsAs result Free = result ≡ Err error.Failed
BeginsAs result Starved = result ≡ Err error.NoMemory
BeginsAs result Begun = IfOk result (λ file. IsSome file) × IfErr result (λ e. e ≡ error.Failed)
BeginsAs result Taken = result ≡ Ok None
BeginsAs result Linkless = ⊥
BeginsAs result (Linked held lasted) = ⊥
BeginsAs result Opened = ⊥
BeginsAs result (Kept held lasted) = ⊥

-- all bytes of a file were added to another, where it tells its bytes
abbrev pub CopiesTo : (from old new : Option (List ℕ)) → Type 0
CopiesTo from old new = IfSome from (λ all. Appends old new all)
