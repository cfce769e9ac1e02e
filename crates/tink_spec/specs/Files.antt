-- Named files, as a store holds them: a finite map from names to bytes.
--
--   given       how many bytes of files were given out. The count never falls, and stands still at
--               2 ^ 64 - 1.
--   Holds, HoldsSome, HoldsLonger, HoldsSize, HoldsAt   what stands under a name, where the store tells
--   KeptFiles   no file changed
--   Added, AddedFront   one file is new, with these bytes or the first of them; all others stay
use Rattle.std.specs.Prelude.{◌≡◌, ◌⊎◌, ℕ, ◌+◌, ◌-◌, ◌^◌, ◌<◌, ◌≤◌, min, List, ◌++◌, length, take, drop, Option, Some, None, IfSome, option_map}
use Rattle.std.specs.Ordering.{nat_cmp}
use Rattle.std.specs.Cmp.Lexicographic.{slice_cmp}
use Rattle.std.specs.FinMap as map

-- from names, as the bytes of a text, to bytes
abbrev pub Files : Type 0
Files = map.FinMap (slice_cmp nat_cmp) (List ℕ)

-- a store: its files, where it tells, its faults, and how many bytes it has given
pub record StoreState : Type 0 where
  pub files : Option Files
  pub faults : ℕ
  pub given : ℕ

-- a count of bytes given, so many later; it stands still at its end
abbrev pub more_given : ℕ → ℕ → ℕ
more_given given count = min (given + count) (2 ^ 64 - 1)

-- the files are as before
pub record KeptFiles (old new : StoreState) : Type 0 where
  pub files : old.files ≡ new.files
  pub faults : old.faults ≤ new.faults

-- the file of that name has these bytes, or there is none
abbrev pub Holds : StoreState → List ℕ → Option (List ℕ) → Type 0
Holds store name found = IfSome store.files (λ files. map.get files name ≡ found)

-- the file of that name has more bytes than the limit
abbrev pub HoldsLonger : StoreState → List ℕ → ℕ → Type 0
HoldsLonger store name limit = IfSome store.files (λ files. (bytes : List ℕ) × (map.get files name ≡ Some bytes) × (limit < length bytes))

-- there is a file of that name
abbrev pub HoldsSome : StoreState → List ℕ → Type 0
HoldsSome store name = IfSome store.files (λ files. (bytes : List ℕ) × (map.get files name ≡ Some bytes))

-- the file of that name has so many bytes
abbrev pub HoldsSize : StoreState → List ℕ → ℕ → Type 0
HoldsSize store name size = IfSome store.files (λ files. (bytes : List ℕ) × (map.get files name ≡ Some bytes) × (length bytes ≡ size))

-- the file of that name has these bytes from that place on
abbrev pub HoldsAt : StoreState → List ℕ → ℕ → List ℕ → Type 0
HoldsAt store name at piece = IfSome store.files (λ files. (bytes : List ℕ) × (map.get files name ≡ Some bytes) × (take (length piece) (drop at bytes) ≡ piece))

-- one file is new, with these bytes, and all others are as before
pub record Added (old new : StoreState) (name bytes : List ℕ) : Type 0 where
  pub absent : Holds old name None
  pub files : new.files ≡ option_map (λ files. map.insert files name bytes) old.files
  pub faults : old.faults ≤ new.faults

-- the same with the first of the bytes
pub record AddedFront (old new : StoreState) (name bytes : List ℕ) : Type 0 where
  pub front : List ℕ
  pub rest : List ℕ
  pub whole : front ++ rest ≡ bytes
  pub added : Added old new name front

-- what a create that failed may leave: the files as before, or that file with the first of the bytes
abbrev pub MayAdd : StoreState → StoreState → List ℕ → List ℕ → Type 0
MayAdd old new name bytes = KeptFiles old new ⊎ AddedFront old new name bytes
