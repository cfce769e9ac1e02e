-- How a keyset may change so that its handle follows it.
--
--   BeginsWith   records are added behind those before
--   ChangesAt    one record changes, in its place
--   LosesAt      one record is gone
use Rattle.std.specs.Prelude.{◌≡◌, ℕ, List, ◌∷◌, ◌++◌, length}
use Rattle.keyset_model.specs.declared.record.Record.{Record}

-- the records before stand first, unchanged and in their places
abbrev pub BeginsWith : (before records : List Record) → Type 0
BeginsWith before records = (more : List Record) × (records ≡ before ++ more)

-- in the place of one record stands another, and all else is as before
pub record ChangesAt (place : ℕ) (before records : List Record) : Type 0 where
  pub front : List Record
  pub was : Record
  pub is : Record
  pub back : List Record
  pub at : length front ≡ place
  pub old : before ≡ front ++ was ∷ back
  pub new : records ≡ front ++ is ∷ back

-- the record of one place is gone, and all else is as before
pub record LosesAt (place : ℕ) (before records : List Record) : Type 0 where
  pub front : List Record
  pub gone : Record
  pub back : List Record
  pub at : length front ≡ place
  pub old : before ≡ front ++ gone ∷ back
  pub new : records ≡ front ++ back
