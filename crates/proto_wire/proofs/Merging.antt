-- The loop over the payloads that are merged: the fields so far, before those of the rest.
use Rattle.std.proofs.Common.{◌≡◌, ℕ, List, drop, Ok}
use Rattle.std.specs.List.{AllByRecursion}
use Rattle.tink_spec.specs.Messages.{joined, merged}
use Rattle.proto_wire.specs.Fields.{seen_all, IsOf}
use Rattle.proto_wire.specs.declared.field.Field.{Field}

-- so many of these fields were looked at
pub record IsMerged (source : List ℕ) (number : ℕ) (fields : List Field) (i : ℕ) (all : List Field) : Type 0 where
  pub whole : merged number (seen_all source fields) ≡ joined (Ok (seen_all source all)) (merged number (seen_all source (drop i fields)))
  pub rest_of_source : AllByRecursion (IsOf source) (drop i fields)
  pub of_source : AllByRecursion (IsOf source) all
