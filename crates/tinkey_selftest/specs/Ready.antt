-- What the code's trial stands for, what lasts from line to line, and what is answered.
use Rattle.std.specs.Prelude.{◌≡◌, ℕ, ◌+◌, ◌<◌, ◌≤◌, ◌^◌, ◌-◌, List, [], length, true, Some, Result, Ok, Err}
use Rattle.std.specs.List.{AllByRecursion}
use Rattle.keyset_model.specs.Keyset.{Keys}
use Rattle.keyset_model.specs.declared.keyset.Keyset.{Keyset}
use Rattle.keyset_model.specs.declared.record.Record.{Record}
use Rattle.tink_base.specs.Memory.{EntropyInMemory, told_entropy}
use Rattle.tinkey_cmds.specs.Draws.{Draw}
use Rattle.tinkey_cmds.specs.declared.command.EditRefusal.{EditRefusal}
use Rattle.tinkey_selftest.specs.Trial.{Trial, sealed_by, total}
use Rattle.tinkey_selftest.specs.declared.counts.Counts.{Counts}
use Rattle.tinkey_selftest.specs.declared.selftest.SelfTestFault.{SelfTestFault}
use Rattle.tinkey_selftest.specs.declared.selftest.SelfTestFault.TheVariants as faults
use Rattle.tinkey_selftest.specs.declared.trial.Sealing.{Sealing}
use Rattle.tinkey_session.specs.declared.reply.Reply.{Reply}
use Rattle.tinkey_session.specs.declared.reply.Reply.TheVariants.{Gives}
use Rattle.wrapped_prims.specs.Laws.{IsKeyset}

-- the trial of these parts
abbrev pub trial_of : Keys → List Sealing → (left : List ℕ) → Counts → Trial
trial_of keys sealings left counts =
    record { keys = keys; sealings = sealings; left = left; counts = counts }

-- a seal is short enough for a line
pub record IsSmall (sealing : Sealing) : Type 0 where
  pub bytes : length sealing.bytes ≤ 2 ^ 20
  pub ad : length sealing.ad ≤ 2 ^ 20

-- what each line needs besides the handle that is kept, and leaves so
pub record IsReady (keys : Keys) (entropy : EntropyInMemory) (sealings : List Sealing)
    : Type 0 where
  pub keyset : IsKeyset keys
  pub steady : (told_entropy entropy).steady ≡ true
  pub small : AllByRecursion IsSmall sealings

-- the seal of a reply, if it gave one
abbrev pub kept_of : Reply → (ad : List ℕ) → (sealer : Record) → List Sealing
kept_of (Gives bytes) ad sealer = sealed_by (Some sealer) bytes ad
kept_of reply ad sealer = []

-- no count is at its end
pub record HasRoom (n : Counts) : Type 0 where
  pub lines : total n < 2 ^ 32 - 1
  pub lost : n.lost ≤ n.refused

-- the answer of a self-test is what is stated. Of want of memory nothing is said.
abbrev pub Tests : (stated : Result Counts EditRefusal) → Result Counts SelfTestFault → Type 0
Tests stated (Ok counts) = stated ≡ Ok counts
Tests stated (Err (faults.Refused fault)) = stated ≡ Err fault
Tests stated (Err faults.NoMemory) = Unit {0}

-- the first keyset of these random bytes, or why there is none
abbrev pub IsFirst : Draw Keys → Result Keyset SelfTestFault → (old new : EntropyInMemory) → Type 0
IsFirst give (Ok keyset) old new =
    (give old.left ≡ Some (record { answer = Ok keyset; left = new.left }))
    × (length old.left ≤ length new.left + 320)
    × ((told_entropy new).steady ≡ true)
    × IsKeyset keyset
IsFirst give (Err (faults.Refused fault)) old new =
    (left : List ℕ) × (give old.left ≡ Some (record { answer = Err fault; left = left }))
IsFirst give (Err faults.NoMemory) old new = Unit {0}
