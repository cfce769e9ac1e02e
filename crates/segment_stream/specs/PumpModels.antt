-- Sealers and openers, as contracts see them.
use Rattle.std.specs.Prelude.{◌≡◌, ℕ, ◌+◌, ◌-◌, ◌<◌, ◌≤◌, List, [], ◌∷◌, length, Result, Ok, Err}
use Rattle.tink_spec.specs.Outside.{EntropyState, Drew, RanShort, Stood}
use Rattle.segment_stream.specs.Cipher.{SegmentCipher}
use Rattle.segment_stream.specs.KeysModel.{KeysForStreams}
use Rattle.segment_stream.specs.Sealing.{header_of}
use Rattle.segment_stream.specs.Segments.{cipher_of, tag_size_under}
use Rattle.segment_stream.specs.Streams.{IsUnder, StreamState}
use Rattle.segment_stream.specs.declared.fault.OpenPumpFault.{OpenPumpFault}
use Rattle.segment_stream.specs.declared.fault.OpenPumpFault.TheVariants as of_passes
use Rattle.segment_stream.specs.declared.fault.SealPumpFault.{SealPumpFault}
use Rattle.segment_stream.specs.declared.fault.SealPumpFault.TheVariants as of_sealers
use Rattle.segment_stream.specs.declared.sealer.SealerFault.{SealerFault}
use Rattle.segment_stream.specs.declared.sealer.SealerFault.TheVariants as faults

-- the keys and the associated data, and how many bytes are reserved for the buffer
pub record OpenerState : Type 0 where
  pub keys : KeysForStreams
  pub ad : List ℕ
  pub room : ℕ

-- what seals the segments, the header, and how many bytes are reserved for the buffer
pub record SealerState : Type 0 where
  pub stream : StreamState
  pub header : List ℕ
  pub room : ℕ

-- the sealer seals as this cipher does, behind its header
abbrev pub SealsUnder : SealerState → SegmentCipher → Type 0
SealsUnder sealer cipher = IsUnder sealer.stream cipher sealer.header

-- a segment has room for more than header and tag, and the buffer for one byte more than a segment
pub record HasRoom (stream : StreamState) (header room : ℕ) : Type 0 where
  pub segment : header + tag_size_under stream.keys < stream.size
  pub buffer : stream.size + 1 ≤ room

-- the bytes of a header of this size behind the first were drawn
pub record IsHeader (old new : EntropyState) (size : ℕ) (header : List ℕ) : Type 0 where
  pub random : List ℕ
  pub drew : Drew old new random
  pub is : header ≡ size ∷ random
  pub whole : length random ≡ size - 1

-- the bytes of a header behind the first were drawn, and with that header the sealer seals under
-- the primary key
pub record IsMade (keys : KeysForStreams) (ad : List ℕ) (old new : EntropyState)
    (sealer : SealerState) : Type 0 where
  pub random : List ℕ
  pub drew : Drew old new random
  pub whole : length random ≡ keys.primary.derived + 7
  pub header : sealer.header ≡ header_of (cipher_of ad keys.primary) random
  pub under : SealsUnder sealer (cipher_of ad keys.primary)

-- the entropy failed at the bytes of a header; or it didn't fail, and nothing was drawn
abbrev pub IsSealerFault : KeysForStreams → EntropyState → EntropyState → SealerFault → Type 0
IsSealerFault keys old new faults.EntropyFault =
    RanShort old new (keys.primary.derived + 7)
IsSealerFault keys old new faults.NoMemory = Stood old.faults new.faults × Drew old new []

-- a sealer's fault among those of passes
abbrev pub pump_fault : SealPumpFault → OpenPumpFault
pump_fault of_sealers.ReadFault = of_passes.ReadFault
pump_fault of_sealers.WriteFault = of_passes.WriteFault
pump_fault of_sealers.TooManySegments = of_passes.TooManySegments

-- the answer of a sealing pump, among those of an opening one
abbrev pub pump_result : Result (Unit {0}) SealPumpFault → Result (Unit {0}) OpenPumpFault
pump_result (Ok done) = Ok done
pump_result (Err fault) = Err (pump_fault fault)
