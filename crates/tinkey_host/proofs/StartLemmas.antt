-- Runs over the managers of the program.
use Rattle.std.proofs.Common.{◌≡◌, refl, subst, inl, inr, List, ℕ}
use Rattle.managers.specs.Standard.{standard_table}
use Rattle.managers.specs.Table.{Entry, Table}
use Rattle.tinkey_plans.specs.Commands.{plan_of}
use Rattle.tinkey_plans.specs.Ends.{World}
use Rattle.tinkey_plans.specs.Plan.{allocates}
use Rattle.tinkey_plans.specs.Promises.{Promised}
use Rattle.tinkey_plans.specs.declared.status.Status.{Status}
use Rattle.tinkey_plans.specs.declared.status.Status.TheVariants as status
use Rattle.tinkey_plans.proofs.PromiseLemmas.{promised}
use Rattle.tinkey_readable.specs.Readable.{IsReadable, SessionsAreReadable}
use Rattle.tinkey_host.specs.Program.{start_plan}

-- managers with the entries of the program's table have that table
pub same_table : (aead daead mac prf : List Entry) → aead ≡ standard_table.aead → daead ≡ standard_table.daead → mac ≡ standard_table.mac → prf ≡ standard_table.prf → record { aead = aead; daead = daead; mac = mac; prf = prf } ≡ standard_table
same_table aead daead mac prf a d m p = rw (a, d, m, p) refl

pub over_standard : (table : Table) (words : List (List ℕ)) (old new : World) (s : Status) → table ≡ standard_table → Promised (plan_of table words) old s new → Promised (plan_of standard_table words) old s new
over_standard table words old new s same run = subst (λ (t : Table). Promised (plan_of t words) old s new) same run

-- a run for which memory was there, and one for which it wasn't
pub started : (words : List (List ℕ)) (old new : World) (s : Status) → Promised (plan_of standard_table words) old s new → Promised (start_plan words) old s new
started words old new s run = promised (allocates (plan_of standard_table words)) old s new (inl run.ends)

pub starved : (words : List (List ℕ)) (old new : World) (s : Status) → s ≡ status.NoMemory → old ≡ new → Promised (start_plan words) old s new
starved words old new s is same = promised (allocates (plan_of standard_table words)) old s new (inr (is, same))

-- a run that may want memory first is readable
pub readable_start : SessionsAreReadable → (words : List (List ℕ)) (old new : World) (s : Status) → Promised (start_plan words) old s new → IsReadable standard_table words old s new
readable_start law words old new s run = law standard_table words old s new run.ends
