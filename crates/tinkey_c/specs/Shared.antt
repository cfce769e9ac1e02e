-- What lies at the pointer of a C program's keys, and what calls say of it.
--
--   lies_whole   a box lies there, where there is a value
--   IsLive       there are keys, and they are ready
--   IsMade       keys of the keyset that a text is
--   SameKeys     the keyset and the primitive are as before
--   number_of    the status of a refusal
--   DoesBy       what a status says of a piece of work
use Rattle.std.specs.Prelude.{◌≡◌, ℕ, ℤ, pos, List, [], Option, Some, None, Result, Ok, Err}
use base.Fml.{Fml, ftrue}
use denote.RattleType.{RattleType}
use denote.RawPtr.{Ptr}
use mir.Syntax.{Ty}
use Rattle.std.specs.Box.Ownership.{box_owns}
use Rattle.key_msgs.specs.declared.primitive.Primitive.{Primitive}
use Rattle.keyset_model.specs.Keyset.{Keys}
use Rattle.ready_keysets.specs.Texts.{IsOf}
use Rattle.ready_keysets.specs.Working.{IsOutcome, IsReady}
use Rattle.ready_keysets.specs.declared.ready.ReadyKeyset.{ReadyKeyset}
use Rattle.ready_keysets.specs.declared.refusal.Refusal.{Refusal}
use Rattle.ready_keysets.specs.declared.refusal.Refusal.TheVariants as refusals
use Rattle.ready_keysets.specs.declared.work.Work.{Work}

-- a box of the value lies there, where there is one, with what lets its memory go
abbrev pub lies_whole : (Ty → Ptr → Fml) → (R : RattleType) → Ptr → Option R.Denot → Fml
lies_whole token R at None = ftrue
lies_whole token R at (Some value) = box_owns token R at value

-- there is a value
abbrev pub IsOpen : {A : Type 0} → Option A → Type 0
IsOpen None = ⊥
IsOpen (Some value) = Unit {0}

-- there are keys, and they are ready
abbrev pub IsLive : Option ReadyKeyset → Type 0
IsLive None = ⊥
IsLive (Some ready) = IsReady ready

-- there are keys, ready for the primitive, of the keyset that was read
abbrev pub IsMade : {X : Type 0} → Primitive → Result Keys X → Option ReadyKeyset → Type 0
IsMade primitive read None = ⊥
IsMade primitive read (Some ready) = IsOf primitive read ready

-- the keyset and the primitive are as they were
abbrev pub SameKeys : Option ReadyKeyset → Option ReadyKeyset → Type 0
SameKeys (Some old) (Some new) = (new.keyset ≡ old.keyset) × (new.keys.primitive ≡ old.keys.primitive)
SameKeys None _ = ⊥
SameKeys (Some old) None = ⊥

-- ---- statuses

-- the number of a refusal; 0 is that there is none, and 9, 10 and 15 are told outside, and 14 of streams
abbrev pub number_of : Refusal → ℕ
number_of refusals.Refused = 1
number_of refusals.NoKeyset = 2
number_of refusals.UnfitKey = 3
number_of refusals.OtherPrimitive = 4
number_of refusals.NoRoom = 5
number_of refusals.TooLong = 6
number_of refusals.FewRandomBytes = 7
number_of refusals.NoMemory = 8
number_of refusals.NoMaster = 11
number_of refusals.UnfitMaster = 12
number_of refusals.NoWrapped = 13

-- the status is that of a refusal for this reason
pub record Refuses (reason : Refusal → Type 0) (status : ℤ) : Type 0 where
  pub refusal : Refusal
  pub told : status ≡ pos (number_of refusal)
  pub holds : reason refusal

-- the status and the size are those of the outcome
abbrev pub Tells : Result ℕ Refusal → ℤ → ℕ → ℕ → Type 0
Tells (Ok size) status old new = (status ≡ pos 0) × (new ≡ size)
Tells (Err refusal) status old new = (status ≡ pos (number_of refusal)) × (new ≡ old)

-- what the keys answer to the work stands in the output, or the status says why it doesn't
pub record Does (ready : ReadyKeyset) (work : Work) (old new : List ℕ) (old_size new_size : ℕ)
    (status : ℤ) : Type 0 where
  pub outcome : Result ℕ Refusal
  pub told : Tells outcome status old_size new_size
  pub holds : IsOutcome ready.keys.primitive ready.keyset work old new outcome

-- the same of keys that are there
abbrev pub DoesBy : Option ReadyKeyset → Work → (old new : List ℕ) → (old_size new_size : ℕ) → ℤ → Type 0
DoesBy None work old new old_size new_size status = ⊥
DoesBy (Some ready) work old new old_size new_size status =
    Does ready work old new old_size new_size status

-- the status says whether the tag is the body's
abbrev pub Verifies : Option ReadyKeyset → Work → ℤ → Type 0
Verifies held work status = (size : ℕ) × DoesBy held work [] [] 0 size status
