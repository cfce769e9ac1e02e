-- What is told of the records that were found.
use Rattle.std.proofs.Common.{◌≡◌, Option, Some, None}
use Rattle.std.specs.Prelude.{option_map}
use Rattle.std.specs.Option.{option_or}
use Rattle.std.proofs.lemmas.Option.{same_Some}
use Rattle.keyset_model.specs.declared.record.Record.{Record}
use Rattle.tinkey_plans.specs.Sealers.{told_or, told_record}
use Rattle.tinkey_plans.specs.declared.sealer.Sealer.{Sealer}

-- one was found
pub told_found : (a : Option Record) (other s : Sealer) → Some s ≡ option_map told_record a → s ≡ told_or a other
told_found None other s is = absurd (cc)
told_found (Some r) other s is = same_Some _ _ is

-- or none
pub told_other : (a : Option Record) (other s : Sealer) → None ≡ option_map told_record a → s ≡ other → s ≡ told_or a other
told_other (Some r) other s is same = absurd (cc)
told_other None other s is same = same

-- an ENABLED one was found
pub told_first : (a b : Option Record) (other s : Sealer) → Some s ≡ option_map told_record a → s ≡ told_or (option_or a b) other
told_first None b other s is = absurd (cc)
told_first (Some r) b other s is = same_Some _ _ is

-- or none
pub told_next : (a b : Option Record) (other s : Sealer) → None ≡ option_map told_record a → s ≡ told_or b other → s ≡ told_or (option_or a b) other
told_next (Some r) b other s is same = absurd (cc)
told_next None b other s is same = same
