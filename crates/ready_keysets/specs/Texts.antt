-- Making a keyset ready of a text, by what the text reads as.
use Rattle.std.specs.Prelude.{◌≡◌, ◌<◌, ◌^◌, ℕ, Result, Ok, IsErr}
use Rattle.key_msgs.specs.declared.primitive.Primitive.{Primitive}
use Rattle.keyset_model.specs.Keyset.{Keys}
use Rattle.ready_keysets.specs.Working.{IsReady, IsUnfit}
use Rattle.ready_keysets.specs.declared.ready.ReadyKeyset.{ReadyKeyset}
use Rattle.ready_keysets.specs.declared.refusal.Refusal.{Refusal}
use Rattle.ready_keysets.specs.declared.refusal.Refusal.TheVariants as refusals

-- the keys are ready for the primitive, and are those of the keyset that was read
pub record IsOf {X : Type 0} (primitive : Primitive) (read : Result Keys X) (made : ReadyKeyset) : Type 0 where
  pub ready : IsReady made
  pub primitive' : made.keys.primitive ≡ primitive
  pub keyset : read ≡ Ok made.keyset

-- a keyset was read, and it isn't fit
pub record ReadUnfit {X : Type 0} (primitive : Primitive) (read : Result Keys X) : Type 0 where
  pub keys : Keys
  pub keyset : read ≡ Ok keys
  pub unfit' : IsUnfit primitive keys refusals.UnfitKey

-- why none was made of so many bytes. Of want of memory nothing is said.
abbrev pub IsNoKeyset : {X : Type 0} → Primitive → ℕ → Result Keys X → Refusal → Type 0
IsNoKeyset primitive size read refusals.TooLong = 2 ^ 30 < size
IsNoKeyset primitive size read refusals.NoKeyset = IsErr read
IsNoKeyset primitive size read refusals.UnfitKey = ReadUnfit primitive read
IsNoKeyset primitive size read refusals.NoMemory = Unit {0}
IsNoKeyset primitive size read _ = ⊥
