-- Numbers of Tink's keyset format and their names, after tink.proto.
use Rattle.std.specs.Prelude.{◌≡◌, ℕ, List, Option, Some, None, ◌==◌, if◌then◌else◌, codes}
use Rattle.tink_base.specs.declared.constants.TheConstants.{ENABLED, DISABLED, DESTROYED, TINK, LEGACY, RAW, CRUNCHY}

-- the name of a status (KeyStatusType)
abbrev pub status_name : ℕ → Option (List ℕ)
status_name number =
    if number == 1 then Some (codes "ENABLED")
    else (if number == 2 then Some (codes "DISABLED")
    else (if number == 3 then Some (codes "DESTROYED")
    else None))

-- the name of an output prefix type (OutputPrefixType)
abbrev pub prefix_name : ℕ → Option (List ℕ)
prefix_name number =
    if number == 1 then Some (codes "TINK")
    else (if number == 2 then Some (codes "LEGACY")
    else (if number == 3 then Some (codes "RAW")
    else (if number == 4 then Some (codes "CRUNCHY")
    else None)))

-- each constant has the number of its name
pub record NumbersHaveTheirNames : Type 0 where
  pub enabled : status_name ENABLED ≡ Some (codes "ENABLED")
  pub disabled : status_name DISABLED ≡ Some (codes "DISABLED")
  pub destroyed : status_name DESTROYED ≡ Some (codes "DESTROYED")
  pub tink : prefix_name TINK ≡ Some (codes "TINK")
  pub legacy : prefix_name LEGACY ≡ Some (codes "LEGACY")
  pub raw : prefix_name RAW ≡ Some (codes "RAW")
  pub crunchy : prefix_name CRUNCHY ≡ Some (codes "CRUNCHY")
