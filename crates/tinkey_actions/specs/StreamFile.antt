-- A stream that goes into a new file: its output is added to a draft, and becomes the file once all of it is there.
use Rattle.std.specs.Prelude.{◌≡◌, ℕ, List, Option, Result, Ok, Err}
use Rattle.tink_base.specs.Pieces.{Draft, IsDraft}
use Rattle.tink_spec.specs.Files.{StoreState}
use Rattle.tinkey_plans.specs.Ends.{World}
use Rattle.tinkey_plans.specs.Plan.{creates}
use Rattle.tinkey_plans.specs.Steps.{Finishes, status_of}
use Rattle.tinkey_plans.specs.declared.status.Status.{Status}
use Rattle.tinkey_plans.specs.declared.status.Status.TheVariants as status

-- the status of a pass over a draft: a write that failed is a fault of the store
abbrev pub kept_status : Status → Status
kept_status status.WriteFault = status.StoreFault
kept_status s = s

-- What became of the draft of a pass. After the end of the pass it is made a new file, as one is that is created at
-- once. After any other answer nothing is made.
abbrev pub Closes : Option Draft → StoreState → (passed result : Result (Unit {0}) Status) → StoreState → Type 0
Closes draft old (Ok done) result new = (w : World) (name bytes : List ℕ) → IsDraft draft name bytes →
    Finishes (creates name bytes status.OutExists tt) (record w { store = old }) result
    (record w { store = new })
Closes draft old (Err s) result new = (status_of result ≡ kept_status s) × (old ≡ new)
