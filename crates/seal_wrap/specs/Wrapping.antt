-- What the calls answer, by the definitions.
use Rattle.std.specs.Prelude.{◌≡◌, ℕ, Bool, List, [], ◌++◌, Some, Result, Ok, Err}
use Rattle.base64.specs.GeneralPurpose.{IsBytes}
use Rattle.tink_spec.specs.Outside.{EntropyState, Drew}
use Rattle.keyset_model.specs.Keyset.{Keys}
use Rattle.keyset_model.specs.Writing.{binary_of}
use Rattle.managers.specs.Table.{Table}
use Rattle.wrapped_prims.specs.Answers.{Sealed, seal_answer}
use Rattle.wrapped_prims.specs.Sealing.{IsSealFault}
use Rattle.wrapped_prims.specs.declared.sealing.SealFault.{SealFault}
use Rattle.wrapped_prims.specs.declared.sealing.SealFault.TheVariants as seals
use Rattle.keyset_model.specs.declared.keyset.Keyset.{Keyset}
use Rattle.seal_wrap.specs.declared.encrypted.wrapping.WrapFault.{WrapFault}
use Rattle.seal_wrap.specs.declared.encrypted.wrapping.WrapFault.TheVariants as wraps
use Rattle.seal_wrap.specs.declared.encrypted.unwrapping.UnwrapFault.{UnwrapFault}
use Rattle.seal_wrap.specs.declared.encrypted.unwrapping.UnwrapFault.TheVariants as faults
use Rattle.seal_wrap.specs.Wrapped.{wrap_of}
use Rattle.seal_wrap.specs.Unwrapped.{Refusal, OuterWire, NotJson, Member, NotOpened, InnerWire, Fault}

-- what is sealed of the keyset with these random bytes is a list of bytes, as what a device holds is
abbrev pub SealsBytes : Keys → (master : Keys) → Table → (random : List ℕ) → Type 0
SealsBytes keys master table random = (sealed : Sealed)
    → seal_answer master table (binary_of keys) [] random ≡ Some sealed → IsBytes sealed.bytes

-- The bytes were drawn that the text takes, and no more: whatever follows them, the text is this one
-- and leaves what follows.
pub record IsWrapping (keys master : Keys) (table : Table) (json : Bool) (old new : EntropyState)
    (text : List ℕ) : Type 0 where
  pub drawn : List ℕ
  pub drew : Drew old new drawn
  pub answer : (more : List ℕ) → wrap_of keys master table (drawn ++ more) json
      ≡ Some (record { text = text; left = more })
  pub bytes : (more : List ℕ) → SealsBytes keys master table (drawn ++ more)

-- the same fault, of sealing
abbrev pub of_sealing : WrapFault → SealFault
of_sealing wraps.EntropyFault = seals.EntropyFault
of_sealing wraps.NoMemory = seals.NoMemory

-- What happened to the entropy: it failed at an IV of the master's primary key, which has some bytes; or
-- it didn't fail, and gave an IV or nothing.
abbrev pub IsWrapFault : (master : Keys) → Table → EntropyState → EntropyState → WrapFault → Type 0
IsWrapFault master table old new fault = IsSealFault master table old new (of_sealing fault)

-- The refusal is this one. Of want of memory nothing is said.
abbrev pub IsRefusal : {A : Type 0} → UnwrapFault → Result A Refusal → Type 0
IsRefusal (faults.OuterWire at) read = read ≡ Err (OuterWire at)
IsRefusal faults.NotJson read = read ≡ Err NotJson
IsRefusal faults.Member read = read ≡ Err Member
IsRefusal faults.NotOpened read = read ≡ Err NotOpened
IsRefusal (faults.InnerWire at) read = read ≡ Err (InnerWire at)
IsRefusal (faults.Fault fault) read = read ≡ Err (Fault fault)
IsRefusal faults.NoMemory read = Unit {0}

-- the keyset is what the definition gives, or the refusal is
abbrev pub GivesKeyset : Result Keyset UnwrapFault → Result Keys Refusal → Type 0
GivesKeyset (Ok keyset) read = read ≡ Ok keyset
GivesKeyset (Err fault) read = IsRefusal fault read
