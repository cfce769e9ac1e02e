-- What is seen of a manager that is a standard one or was supplied, and of a program's managers.
-- Above this crate neither shows its two cases.
use Rattle.std.specs.Prelude.{Option, Some, None}
use Rattle.managers.specs.Standard.{standard_table}
use Rattle.managers.specs.Table.{Table}
use Rattle.managers.specs.declared.found.Found.{Found}
use Rattle.managers.specs.declared.found.Found.TheVariants.{Standard, Supplied}

-- of a standard one by the first function, and of one that was supplied by the other
unfoldable pub of_found : {S M R : Type 0} → (S → R) → (M → R) → Found S M → R
of_found standard supplied (Standard s) = standard s
of_found standard supplied (Supplied m) = supplied m.now

-- the table of the managers that were supplied, by the function, or the standard one
unfoldable pub or_standard : {S : Type 0} → (S → Table) → Option S → Table
or_standard table None = standard_table
or_standard table (Some own) = table own
