-- How code answers that draws from an entropy, by what is to be drawn.
use Rattle.std.specs.Prelude.{◌≡◌, ◌≤◌, ◌*◌, ℕ, List, [], ◌++◌, length, Option, Some, None, IfSome, IsTrue, Result, Ok, Err}
use Rattle.tink_spec.specs.Outside.{EntropyState, Drew, DrewLosing, Rose, Stood}
use Rattle.tinkey_cmds.specs.declared.command.EditError.{EditError}
use Rattle.tinkey_cmds.specs.declared.command.EditError.TheVariants.{Refused, EntropyFault, NoMemory}
use Rattle.tinkey_cmds.specs.declared.command.EditRefusal.{EditRefusal}
use Rattle.tinkey_cmds.specs.declared.command.EditRefusal.TheVariants.{IdsExhausted}
use Rattle.keyset_model.specs.declared.record.Record.{Record}
use Rattle.keyset_model.specs.declared.keyset.Keyset.{Keyset}
use Rattle.keyset_model.specs.Keyset.{Keys}
use Rattle.tink_base.specs.declared.faults.Failed.{Failed}
use Rattle.tinkey_cmds.specs.Draws.{Draw, answered}

-- These bytes are all that is drawn, whatever stands behind them, and this is the answer.
abbrev pub Draws : {A : Type 0} → Draw A → (old new : EntropyState)
    → (answer : Result A EditRefusal) → Type 0
Draws give old new answer = (drawn : List ℕ) × Drew old new drawn
    × ((more : List ℕ) → give (drawn ++ more) ≡ answered answer more)

-- The entropy failed: its count of faults rose, the bytes drawn by then decide nothing, and where it
-- is steady and tells its bytes, they don't suffice. Some behind those drawn may be lost.
pub record RanOut {A : Type 0} (give : Draw A) (old new : EntropyState) : Type 0 where
  pub rose : Rose old.faults new.faults
  pub drawn : List ℕ
  pub gone : DrewLosing old new drawn
  pub undecided : give drawn ≡ None
  pub short : IsTrue old.steady → IfSome old.left (λ left. give left ≡ None)

-- What was to be drawn was, and this is its answer; only after `EntropyFault` it wasn't. At
-- `NoMemory` the answer is lost, but all its bytes are drawn.
abbrev pub Applied : {A : Type 0} → Result A EditError → Draw A → (old new : EntropyState) → Type 0
Applied (Ok value) give old new = Stood old.faults new.faults × Draws give old new (Ok value)
Applied (Err (Refused fault)) give old new =
    Stood old.faults new.faults × Draws give old new (Err fault)
Applied (Err EntropyFault) give old new = RanOut give old new
Applied {A} (Err NoMemory) give old new =
    Stood old.faults new.faults × ((answer : Result A EditRefusal) × Draws give old new answer)

-- whole ids were drawn, of four bytes each, and at most 64 of them
pub record DrewIds (old new : EntropyState) : Type 0 where
  pub drawn : List ℕ
  pub drew : Drew old new drawn
  pub ids : ℕ
  pub most : ids ≤ 64
  pub whole : length drawn ≡ 4 * ids

-- whole ids were drawn, and in the fill that failed then at most so many bytes are lost
pub record LostBehindIds (old new : EntropyState) (most : ℕ) : Type 0 where
  pub drawn : List ℕ
  pub gone : DrewLosing old new drawn
  pub few : length gone.lost ≤ most
  pub ids : ℕ
  pub most_ids : ids ≤ 64
  pub whole : length drawn ≡ 4 * ids

-- Where the entropy failed, nothing was drawn of the id or the key at which it did: each is drawn in
-- one fill, of at most 64 bytes, and what that may have taken is lost.
abbrev pub DrawsWhole : {A : Type 0} → Result A EditError → (old new : EntropyState) → Type 0
DrawsWhole (Err EntropyFault) old new = LostBehindIds old new 64
DrawsWhole _ old new = Unit {0}

-- the records of a keyset, or none
abbrev pub records_in : Option Keyset → List Record
records_in (Some keyset) = keyset.records
records_in None = []

-- The id was drawn, or none was found; or the entropy failed.
abbrev pub DrewId : Result (Option ℕ) Failed → Draw ℕ → (old new : EntropyState) → Type 0
DrewId (Ok (Some id)) give old new = Stood old.faults new.faults × Draws give old new (Ok id)
DrewId (Ok None) give old new = Stood old.faults new.faults × Draws give old new (Err IdsExhausted)
DrewId (Err failed) give old new = RanOut give old new

-- The keyset that an edit left, if it was accepted, or else the error.
abbrev pub answer_with : Result (Unit {0}) EditError → Keys → Result Keys EditError
answer_with (Ok done) keys = Ok keys
answer_with (Err error) keys = Err error

-- The answer of an edit that draws nothing.
abbrev pub Edited : Result Keys EditError → Draw Keys → Type 0
Edited (Ok keyset) give = (random : List ℕ) → give random ≡ answered (Ok keyset) random
Edited (Err (Refused fault)) give = (random : List ℕ) → give random ≡ answered (Err fault) random
Edited (Err EntropyFault) give = ⊥
Edited (Err NoMemory) give =
    (answer : Result Keys EditRefusal) × ((random : List ℕ) → give random ≡ answered answer random)
