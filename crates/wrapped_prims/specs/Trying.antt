-- How far a handle has come with its kept keys.
use Rattle.std.specs.Prelude.{◌≡◌, ℕ, ◌+◌, ◌≤◌, List, length}
use Rattle.key_msgs.specs.declared.primitive.Primitive.{Primitive}
use Rattle.wrapped_prims.specs.Held.{open_with, tag_tries_with, tries_with, verify_with}
use Rattle.wrapped_prims.specs.declared.held.Kept.{Kept}

-- of all these keys, those before `rest` were tried and opened nothing
pub record IsTried (primitive : Primitive) (all rest : List Kept) (part ad : List ℕ)
    (before now : ℕ) : Type 0 where
  pub same : open_with primitive part ad all ≡ open_with primitive part ad rest
  pub few : now + length rest ≤ before + length all
  pub tries : tries_with primitive part ad all before ≡ tries_with primitive part ad rest now

-- of all these keys, those before `rest` were tried and tag otherwise
pub record IsTagTried (all rest : List Kept) (tag body : List ℕ) (before now : ℕ) : Type 0 where
  pub same : verify_with tag body all ≡ verify_with tag body rest
  pub few : now + length rest ≤ before + length all
  pub tries : tag_tries_with tag body all before ≡ tag_tries_with tag body rest now
