-- What the steps of envelope sealing answer.
--
--   DrewWhole, IsDrawFault   so many random bytes, in one fill
--   Makes, IsMakingFault     a data key
--   IsPayloadFault           a payload
--   parts_at, IsResealing    a data key that is sealed anew
use Rattle.std.specs.Prelude.{◌≡◌, ◌⊎◌, ℕ, ◌<◌, List, [], drop, length, Err, Option, option_map}
use Rattle.key_msgs.specs.Templates.{Row, random_of}
use Rattle.key_msgs.specs.declared.key.KeyKind.{KeyKind}
use Rattle.key_msgs.specs.declared.rule.Rule.{Rule}
use Rattle.managers.specs.Schemes.{Scheme, key_under}
use Rattle.managers.specs.Uses.{iv_size}
use Rattle.tink_spec.specs.Outside.{Drew, EntropyState, RanShort, Stood}
use Rattle.keyset_model.specs.Keyset.{Keys}
use Rattle.managers.specs.Table.{Table}
use Rattle.wrapped_prims.specs.Sealing.{IsSealing}
use Rattle.std.specs.Global.{Vec}
use Rattle.envelopes.specs.Enveloped.{Parts, data_key_of, envelope}
use Rattle.envelopes.specs.Enveloping.{MakesDataKey}
use Rattle.envelopes.specs.declared.envelope.EnvelopeKey.{EnvelopeKey}
use Rattle.envelopes.specs.declared.envelope.EnvelopeFault.{EnvelopeFault}
use Rattle.envelopes.specs.declared.envelope.EnvelopeFault.TheVariants as faults

-- the entropy gave these bytes, as many as were asked for
pub record DrewWhole (size : ℕ) (old new : EntropyState) (bytes : List ℕ) : Type 0 where
  pub drew : Drew old new bytes
  pub whole : length bytes ≡ size
  pub stood : Stood old.faults new.faults

-- the entropy failed where some bytes were asked for, so many
pub record FailedAt (size : ℕ) (old new : EntropyState) : Type 0 where
  pub some : 0 < size
  pub short : RanShort old new size

-- it didn't fail, and gave so many bytes or none
pub record StoodAt (size : ℕ) (old new : EntropyState) : Type 0 where
  pub fill : List ℕ
  pub part : (fill ≡ []) ⊎ (length fill ≡ size)
  pub drew : Drew old new fill
  pub stood : Stood old.faults new.faults

-- why so many weren't drawn
abbrev pub IsDrawFault : ℕ → EntropyState → EntropyState → EnvelopeFault → Type 0
IsDrawFault size old new faults.EntropyFault = FailedAt size old new
IsDrawFault size old new (faults.Refused rule) = ⊥
IsDrawFault size old new faults.NoMemory = StoodAt size old new

-- the bytes of a data key were drawn, and this is its message
pub record Makes (scheme : Scheme) (row : Row) (old new : EntropyState) (value : List ℕ) (key : KeyKind)
    : Type 0 where
  pub drawn : List ℕ
  pub drew : Drew old new drawn
  pub stood : Stood old.faults new.faults
  pub makes : MakesDataKey scheme row drawn key
  pub message : value ≡ data_key_of row drawn

-- they were drawn, and the message breaks this rule first
pub record Breaks (scheme : Scheme) (row : Row) (old new : EntropyState) (rule : Rule) : Type 0 where
  pub drawn : List ℕ
  pub drawing : DrewWhole (random_of row) old new drawn
  pub broken : key_under scheme (data_key_of row drawn) ≡ Err rule

-- why there is no data key
abbrev pub IsMakingFault : Scheme → Row → EntropyState → EntropyState → EnvelopeFault → Type 0
IsMakingFault scheme row old new faults.EntropyFault = FailedAt (random_of row) old new
IsMakingFault scheme row old new (faults.Refused rule) = Breaks scheme row old new rule
IsMakingFault scheme row old new faults.NoMemory = StoodAt (random_of row) old new

-- why there is no payload
abbrev pub IsPayloadFault : KeyKind → EntropyState → EntropyState → EnvelopeFault → Type 0
IsPayloadFault key old new fault = IsDrawFault (iv_size key) old new fault

-- a message that is there, with the payload behind its sealing
abbrev pub has_value : (payload : List ℕ) → Option (Vec ℕ) → Option Parts
has_value payload value = option_map (λ v. record { value = v.items; payload = payload }) value

-- the parts of the envelope with these bytes, whose data key was opened
abbrev pub parts_at : (bytes : List ℕ) → EnvelopeKey → Parts
parts_at bytes key = record { value = key.value.items; payload = drop key.payload bytes }

-- the message was sealed, with an IV that was drawn, and stands before the same payload
pub record IsResealing (keys : Keys) (table : Table) (parts : Parts) (old new : EntropyState)
    (bytes : List ℕ) : Type 0 where
  pub sealed : List ℕ
  pub sealing : IsSealing keys table parts.value [] old new sealed
  pub joined : bytes ≡ envelope sealed parts.payload
