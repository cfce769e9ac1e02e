-- What the calls of a store say of the files, and how many bytes they give.
use Rattle.std.specs.Prelude.{◌≡◌, ◌≤◌, ◌+◌, ◌^◌, min, ℕ, Bool, true, false, List, length, take, Option, Some, None, Result, Ok, Err}
use Rattle.tink_spec.specs.Files.{StoreState, Holds, HoldsLonger, HoldsSome, HoldsSize, HoldsAt, KeptFiles, Added, more_given}
use Rattle.tink_base.specs.declared.faults.Failed.{Failed}
use Rattle.tink_base.specs.declared.store.Created.{Created}
use Rattle.tink_base.specs.declared.store.Created.TheVariants as created
use Rattle.tink_base.specs.declared.store.Loaded.{Loaded}
use Rattle.tink_base.specs.declared.store.Loaded.TheVariants as loaded
use Rattle.tink_base.specs.declared.store.StoreError.{StoreError}

-- what was found of the file of that name
abbrev pub Loads : StoreState → List ℕ → ℕ → Loaded → Type 0
Loads store name limit loaded.Absent = Holds store name None
Loads store name limit loaded.TooLong = HoldsLonger store name limit
Loads store name limit (loaded.Bytes bytes) = (length bytes ≤ limit) × Holds store name (Some bytes)

-- how many bytes a load reads to see that a file is too long: one more than the limit, or than 2^30 under a
-- greater one
abbrev pub too_many : (limit : ℕ) → ℕ
too_many limit = min limit (2 ^ 30) + 1

-- How many bytes have been given after a load: those that were read, whether the file was loaded or not.
abbrev pub GivenByLoad : (limit : ℕ) → Result Loaded StoreError → (old new : ℕ) → Type 0
GivenByLoad limit (Ok loaded.Absent) old new = new ≡ old
GivenByLoad limit (Ok loaded.TooLong) old new = new ≡ more_given old (too_many limit)
GivenByLoad limit (Ok (loaded.Bytes bytes)) old new = new ≡ more_given old (length bytes)
GivenByLoad limit (Err error) old new = (old ≤ new) × (new ≤ old + too_many limit)

-- whether there is a file of that name
abbrev pub IsTaken : StoreState → List ℕ → Bool → Type 0
IsTaken store name true = HoldsSome store name
IsTaken store name false = Holds store name None

-- how many bytes the file of that name has, where there is one
abbrev pub HasSize : StoreState → List ℕ → Option ℕ → Type 0
HasSize store name None = Holds store name None
HasSize store name (Some size) = HoldsSize store name size

-- so many bytes were read, which are the file's from that place on
abbrev pub ReadsAt : StoreState → (name : List ℕ) → (at : ℕ) → (out : List ℕ) → ℕ → Type 0
ReadsAt store name at out n = (1 ≤ n) × (n ≤ length out) × HoldsAt store name at (take n out)

-- how many bytes have been given after a read
abbrev pub given_by_read : ℕ → Result ℕ Failed → ℕ
given_by_read given (Ok n) = more_given given n
given_by_read given (Err failed) = given

-- what a create did: a new file with the bytes, or nothing, as the name was there
abbrev pub Creates : StoreState → StoreState → List ℕ → List ℕ → Created → Type 0
Creates old new name bytes created.Made = Added old new name bytes
Creates old new name bytes created.Exists = KeptFiles old new × HoldsSome old name
