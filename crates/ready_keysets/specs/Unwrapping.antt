-- Making a keyset ready of an encrypted one and of its master, each of them a text in one of two forms.
--
--   encrypted_limit, master_limit   the most bytes of the two texts
--   master_in       the master that a text is
--   Lack            why the two texts give no keyset, in the order of the steps
--   inside_under    what an encrypted text gives under a master
--   keyset_inside   what the two texts give
--   IsLacking       what a refusal says of that
--   IsNotInside, IsNoStreamsInside   why no keyset was made ready
use Rattle.std.specs.Prelude.{◌≡◌, ◌<◌, ◌⊎◌, ℕ, Bool, List, if◌then◌else◌, Option, Some, None, Result, Ok, Err}
use Rattle.std.specs.Result.{result_ok}
use Rattle.key_msgs.specs.declared.primitive.Primitive.{Primitive}
use Rattle.key_msgs.specs.declared.primitive.Primitive.TheVariants.{Aead}
use Rattle.keyset_json.specs.Reading.{reads_json}
use Rattle.keyset_model.specs.Keyset.{Keys}
use Rattle.keyset_model.specs.Reading.{reads_binary}
use Rattle.keyset_model.specs.declared.keyset.Keyset.{Keyset}
use Rattle.managers.specs.Standard.{standard_table}
use Rattle.seal_wrap.specs.Unwrapped.{Fault, InnerWire, Member, NotJson, NotOpened, OuterWire, unwrap_of}
use Rattle.seal_wrap.specs.Unwrapped as unwrapped
use Rattle.seal_wrap.specs.declared.encrypted.unwrapping.UnwrapFault.{UnwrapFault}
use Rattle.seal_wrap.specs.declared.encrypted.unwrapping.UnwrapFault.TheVariants as faults
use Rattle.wrapped_prims.specs.Fitness.{Unfit, unfit}
use Rattle.ready_keysets.specs.Streaming.{ReadNoStreams}
use Rattle.ready_keysets.specs.Texts.{ReadUnfit}
use Rattle.ready_keysets.specs.declared.refusal.Refusal.{Refusal}
use Rattle.ready_keysets.specs.declared.refusal.Refusal.TheVariants as refusals

-- an encrypted keyset of more bytes is too long
abbrev pub encrypted_limit : ℕ
encrypted_limit = 4194304

-- and so is a master of more
abbrev pub master_limit : ℕ
master_limit = 1048576

-- ---- what the two texts give

-- the keyset that a text is: in JSON, or else in the binary form
abbrev pub master_in : (json : Bool) → (text : List ℕ) → Option Keys
master_in json text =
    if json then result_ok (reads_json text) else result_ok (reads_binary text)

-- why the two texts give no keyset, in the order of the steps
pub data Lack : Type 0 where
  -- the master's text is no keyset
  NoMaster : Lack
  -- an ENABLED key of the master can't serve as an AEAD
  UnfitMaster : Lack
  -- under the master the encrypted text gives none, and why
  Unwrap : (refusal : unwrapped.Refusal) → Lack

-- what was unwrapped, unless the master has a record that can't serve
abbrev pub of_fit : Option (ℕ × Unfit) → Result Keys unwrapped.Refusal → Result Keys Lack
of_fit (Some fault) read = Err UnfitMaster
of_fit None (Err refusal) = Err (Unwrap refusal)
of_fit None (Ok keys) = Ok keys

-- what an encrypted text gives under a master, by the standard table
abbrev pub inside_under : (encrypted : List ℕ) → (json : Bool) → (master : Keys) → Result Keys Lack
inside_under encrypted json master =
    of_fit (unfit master Aead standard_table) (unwrap_of master standard_table encrypted json)

-- the same, where there is a master
abbrev pub inside_by : (encrypted : List ℕ) → (json : Bool) → Option Keys → Result Keys Lack
inside_by encrypted json None = Err NoMaster
inside_by encrypted json (Some master) = inside_under encrypted json master

-- what the two texts give
abbrev pub keyset_inside : (encrypted : List ℕ) → (encrypted_json : Bool) → (master : List ℕ)
    → (master_json : Bool) → Result Keys Lack
keyset_inside encrypted encrypted_json master master_json =
    inside_by encrypted encrypted_json (master_in master_json master)

-- ---- what a refusal says of it

-- the encrypted text isn't of its form
abbrev pub IsNoWrapped : Result Keys Lack → Type 0
IsNoWrapped (Err (Unwrap (OuterWire at))) = Unit {0}
IsNoWrapped (Err (Unwrap NotJson)) = Unit {0}
IsNoWrapped (Err (Unwrap Member)) = Unit {0}
IsNoWrapped _ = ⊥

-- what was opened is no keyset
abbrev pub IsNoneInside : Result Keys Lack → Type 0
IsNoneInside (Err (Unwrap (InnerWire at))) = Unit {0}
IsNoneInside (Err (Unwrap (Fault fault))) = Unit {0}
IsNoneInside _ = ⊥

-- why the texts give none. Of want of memory nothing is said.
abbrev pub IsLacking : Result Keys Lack → Refusal → Type 0
IsLacking read refusals.NoMaster = read ≡ Err NoMaster
IsLacking read refusals.UnfitMaster = read ≡ Err UnfitMaster
IsLacking read refusals.NoWrapped = IsNoWrapped read
IsLacking read refusals.Refused = read ≡ Err (Unwrap NotOpened)
IsLacking read refusals.NoKeyset = IsNoneInside read
IsLacking read refusals.NoMemory = Unit {0}
IsLacking read _ = ⊥

-- the keyset is what the texts give, or the refusal says why they give none
abbrev pub GivesInside : Result Keyset Refusal → Result Keys Lack → Type 0
GivesInside (Ok keyset) read = read ≡ Ok keyset
GivesInside (Err refusal) read = IsLacking read refusal

-- the same of the master alone
abbrev pub GivesMaster : Result Keyset Refusal → Option Keys → Type 0
GivesMaster (Ok keyset) master = master ≡ Some keyset
GivesMaster (Err refusals.NoMaster) master = master ≡ None
GivesMaster (Err refusals.NoMemory) master = Unit {0}
GivesMaster (Err _) master = ⊥

-- what a fault of unwrapping is called
abbrev pub refusal_of : UnwrapFault → Refusal
refusal_of (faults.OuterWire at) = refusals.NoWrapped
refusal_of faults.NotJson = refusals.NoWrapped
refusal_of faults.Member = refusals.NoWrapped
refusal_of faults.NotOpened = refusals.Refused
refusal_of (faults.InnerWire at) = refusals.NoKeyset
refusal_of (faults.Fault fault) = refusals.NoKeyset
refusal_of faults.NoMemory = refusals.NoMemory

-- why no keyset was made ready of texts of so many bytes
abbrev pub IsNotInside : Primitive → (encrypted_size master_size : ℕ) → Result Keys Lack → Refusal → Type 0
IsNotInside primitive encrypted_size master_size read refusals.TooLong =
    (encrypted_limit < encrypted_size) ⊎ (master_limit < master_size)
IsNotInside primitive encrypted_size master_size read refusals.UnfitKey = ReadUnfit primitive read
IsNotInside primitive encrypted_size master_size read refusal = IsLacking read refusal

-- why none was made ready for streams
abbrev pub IsNoStreamsInside : (encrypted_size master_size : ℕ) → Result Keys Lack → Refusal → Type 0
IsNoStreamsInside encrypted_size master_size read refusals.TooLong =
    (encrypted_limit < encrypted_size) ⊎ (master_limit < master_size)
IsNoStreamsInside encrypted_size master_size read refusals.UnfitKey = ReadNoStreams read
IsNoStreamsInside encrypted_size master_size read refusal = IsLacking read refusal
