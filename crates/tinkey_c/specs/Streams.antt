-- What lies at the pointer of a C program's stream, and what calls say of it.
--
--   AreKeys, IsSealed, IsOpened   keys are held, which are ready; or a stream
--   AreMade      keys of the keyset that a text is
--   number_of    the status of a fault
--   Stops, Ends  what a status says
--   Seals, SealsLast, Opens, OpensLast   what the calls of a stream say
use Rattle.std.specs.Prelude.{◌≡◌, ℕ, ℤ, pos, List, Option, Some, None, Result, Ok, Err}
use Rattle.keyset_model.specs.Keyset.{Keys}
use Rattle.ready_keysets.specs.Objects.{BeginsOpening, BeginsSealing, HasKeys, IsKeysOf, IsOpening, IsSealing, OpensBy, OpensLastBy, SealingRefused, SealsBy, SealsLastBy, waiting_of}
use Rattle.ready_keysets.specs.declared.objects.StreamKind.{StreamKind}
use Rattle.ready_keysets.specs.declared.objects.StreamObject.{StreamObject}
use Rattle.ready_keysets.specs.declared.step.StepFault.{StepFault}
use Rattle.ready_keysets.specs.declared.step.StepFault.TheVariants as steps

-- what is held is so; nothing is so where nothing is held
abbrev pub Holds : (StreamKind → Type 0) → Option StreamObject → Type 0
Holds Is None = ⊥
Holds Is (Some object) = Is object.is

-- what was held and what is held are so
abbrev pub HoldBoth : (StreamKind → StreamKind → Type 0) → Option StreamObject → Option StreamObject → Type 0
HoldBoth Are None new = ⊥
HoldBoth Are (Some old) None = ⊥
HoldBoth Are (Some old) (Some new) = Are old.is new.is

-- keys are held, and they are ready
abbrev pub AreKeys : Option StreamObject → Type 0
AreKeys held = Holds HasKeys held

-- a stream is held that is being sealed, or opened
abbrev pub IsSealed : Option StreamObject → Type 0
IsSealed held = Holds IsSealing held

abbrev pub IsOpened : Option StreamObject → Type 0
IsOpened held = Holds IsOpening held

-- keys are held of the keyset that was read
abbrev pub AreMade : {X : Type 0} → Result Keys X → Option StreamObject → Type 0
AreMade read held = Holds (IsKeysOf read) held

-- a stream has begun under the keys
abbrev pub BegunSealing : (keys made : Option StreamObject) → (ad random : List ℕ) → Type 0
BegunSealing keys made ad random = HoldBoth (λ held begun. BeginsSealing held ad random begun) keys made

abbrev pub BegunOpening : (keys made : Option StreamObject) → (ad : List ℕ) → Type 0
BegunOpening keys made ad = HoldBoth (λ held begun. BeginsOpening held ad begun) keys made

-- why it hasn't
abbrev pub NotBegun : (keys : Option StreamObject) → (random : List ℕ) → StepFault → Type 0
NotBegun keys random fault = Holds (λ held. SealingRefused held random fault) keys

-- ---- statuses

-- the number of a fault of a stream; 0 is that there is none
abbrev pub number_of : StepFault → ℕ
number_of steps.Refused = 1
number_of steps.NoRoom = 5
number_of steps.TooManySegments = 6
number_of steps.FewRandomBytes = 7
number_of steps.NoMemory = 8
number_of steps.Ended = 14

-- the status is that of a fault for this reason
pub record Stops (reason : StepFault → Type 0) (status : ℤ) : Type 0 where
  pub fault : StepFault
  pub told : status ≡ pos (number_of fault)
  pub holds : reason fault

-- the status and the size are those of the outcome
abbrev pub TellsStep : Result ℕ StepFault → ℤ → ℕ → ℕ → Type 0
TellsStep (Ok size) status old new = (status ≡ pos 0) × (new ≡ size)
TellsStep (Err fault) status old new = (status ≡ pos (number_of fault)) × (new ≡ old)

-- they are those of an outcome that is so
pub record Ends (Is : Result ℕ StepFault → Type 0) (old_size new_size : ℕ) (status : ℤ) : Type 0 where
  pub outcome : Result ℕ StepFault
  pub told : TellsStep outcome status old_size new_size
  pub holds : Is outcome

-- what the calls of a stream say
abbrev pub Seals : (was now : Option StreamObject) → (plain old new : List ℕ) → Result ℕ StepFault → Type 0
Seals was now plain old new outcome =
    HoldBoth (λ sealing later. SealsBy sealing later plain old new outcome) was now

abbrev pub SealsLast : (was now : Option StreamObject) → (old new : List ℕ) → Result ℕ StepFault → Type 0
SealsLast was now old new outcome =
    HoldBoth (λ sealing later. SealsLastBy sealing later old new outcome) was now

abbrev pub Opens : (was now : Option StreamObject) → (bytes old new : List ℕ) → Result ℕ StepFault → Type 0
Opens was now bytes old new outcome =
    HoldBoth (λ opening later. OpensBy opening later bytes old new outcome) was now

abbrev pub OpensLast : (was now : Option StreamObject) → (old new : List ℕ) → Result ℕ StepFault → Type 0
OpensLast was now old new outcome =
    HoldBoth (λ opening later. OpensLastBy opening later old new outcome) was now

-- so many bytes of what is held are kept for want of room
abbrev pub Waits : Option StreamObject → ℕ → Type 0
Waits held count = Holds (λ is. count ≡ waiting_of is) held
