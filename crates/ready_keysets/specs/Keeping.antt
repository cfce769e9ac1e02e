-- What is kept of a stream until there is room for it.
--
--   told_kept   what is kept, as a sink tells it
--   IsGiven     bytes stand at the front of an output, and behind them nothing has changed
--   Gives       all that is kept is given, or none of it
use Rattle.std.specs.Prelude.{◌≡◌, ◌<◌, ℕ, List, [], length, take, drop, Some, Result, Ok, Err}
use Rattle.tink_spec.specs.Outside.{SinkState}
use Rattle.ready_keysets.specs.declared.kept.Kept.{Kept}
use Rattle.ready_keysets.specs.declared.step.StepFault.{StepFault}
use Rattle.ready_keysets.specs.declared.step.StepFault.TheVariants as steps

-- what was written and isn't given yet
abbrev pub told_kept : Kept → SinkState
told_kept kept = record { written = Some kept.bytes.items; faults = kept.faults }

-- the bytes stand at the front of the output, and behind them nothing has changed
pub record IsGiven (bytes old new : List ℕ) (size : ℕ) : Type 0 where
  pub front : take size new ≡ bytes
  pub rest : drop size new ≡ drop size old

-- all that is kept is given, or stays kept where there is less room
abbrev pub Gives : (kept later : Kept) → (old new : List ℕ) → Result ℕ StepFault → Type 0
Gives kept later old new (Ok size) =
    IsGiven kept.bytes.items old new size × (later.bytes.items ≡ [])
Gives kept later old new (Err steps.NoRoom) = (length old < length kept.bytes.items) × (later ≡ kept)
Gives kept later old new (Err _) = ⊥
