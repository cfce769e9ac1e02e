-- What the steps of reading the outer message answer.
use Rattle.std.specs.Prelude.{◌≡◌, ◌≤◌, ℕ, false, List, length}
use Rattle.tink_spec.specs.Wire.{bytes}
use Rattle.tink_spec.specs.Messages.{is_bytes}
use Rattle.proto_wire.specs.Fields.{seen}
use Rattle.proto_wire.specs.declared.field.Field.{Field}

-- the field of this source is these bytes
pub record IsBytesOf (source : List ℕ) (field : Field) (content : List ℕ) : Type 0 where
  pub payload : (seen source field).payload ≡ bytes field.start content
  pub within : length content ≤ length source

-- the field of this source isn't bytes, and has this place
pub record IsNoBytes (source : List ℕ) (field : Field) (place : ℕ) : Type 0 where
  pub other : is_bytes (seen source field).payload ≡ false
  pub at : field.at ≡ place
