-- What a program holds of streams, as one type, and what its calls say: those of `Streaming`, of the one that is held.
use Rattle.std.specs.Prelude.{ℕ, List, [], length, Result}
use Rattle.keyset_model.specs.Keyset.{Keys}
use Rattle.segment_stream.specs.Segments.{ciphers_of}
use Rattle.ready_keysets.specs.Streaming.{AreServing, HasBegun, HasNotBegun, IsStreamsOf, OpenAnswers, OpenEnds, OpensOn, SealAnswers, SealEnds}
use Rattle.ready_keysets.specs.declared.objects.StreamKind.{StreamKind}
use Rattle.ready_keysets.specs.declared.objects.StreamKind.TheVariants as kinds
use Rattle.ready_keysets.specs.declared.step.StepFault.{StepFault}

-- keys are held, and they are ready
abbrev pub HasKeys : StreamKind → Type 0
HasKeys (kinds.Keys keys) = AreServing keys
HasKeys _ = ⊥

-- a stream is held that is being sealed, or opened
abbrev pub IsSealing : StreamKind → Type 0
IsSealing (kinds.Sealing sealing) = Unit {0}
IsSealing _ = ⊥

abbrev pub IsOpening : StreamKind → Type 0
IsOpening (kinds.Opening opening) = Unit {0}
IsOpening _ = ⊥

-- keys are held of the keyset that was read
abbrev pub IsKeysOf : {X : Type 0} → Result Keys X → StreamKind → Type 0
IsKeysOf read (kinds.Keys keys) = IsStreamsOf read keys
IsKeysOf read _ = ⊥

-- a stream has begun under the keys, and why it hasn't
abbrev pub BeginsSealing : StreamKind → (ad random : List ℕ) → StreamKind → Type 0
BeginsSealing (kinds.Keys keys) ad random (kinds.Sealing sealing) = HasBegun keys.keys ad random sealing
BeginsSealing _ ad random _ = ⊥

abbrev pub SealingRefused : StreamKind → (random : List ℕ) → StepFault → Type 0
SealingRefused (kinds.Keys keys) random fault = HasNotBegun keys.keys random fault
SealingRefused _ random fault = ⊥

abbrev pub BeginsOpening : StreamKind → (ad : List ℕ) → StreamKind → Type 0
BeginsOpening (kinds.Keys keys) ad (kinds.Opening opening) =
    OpensOn opening (ciphers_of ad keys.keys.keys) [] []
BeginsOpening _ ad _ = ⊥

-- what the calls of a stream say
abbrev pub SealsBy : StreamKind → StreamKind → (plain old new : List ℕ) → Result ℕ StepFault → Type 0
SealsBy (kinds.Sealing sealing) (kinds.Sealing later) plain old new result =
    SealAnswers sealing later plain old new result
SealsBy _ _ plain old new result = ⊥

abbrev pub SealsLastBy : StreamKind → StreamKind → (old new : List ℕ) → Result ℕ StepFault → Type 0
SealsLastBy (kinds.Sealing sealing) (kinds.Sealing later) old new result = SealEnds sealing later old new result
SealsLastBy _ _ old new result = ⊥

abbrev pub OpensBy : StreamKind → StreamKind → (bytes old new : List ℕ) → Result ℕ StepFault → Type 0
OpensBy (kinds.Opening opening) (kinds.Opening later) bytes old new result =
    OpenAnswers opening later bytes old new result
OpensBy _ _ bytes old new result = ⊥

abbrev pub OpensLastBy : StreamKind → StreamKind → (old new : List ℕ) → Result ℕ StepFault → Type 0
OpensLastBy (kinds.Opening opening) (kinds.Opening later) old new result = OpenEnds opening later old new result
OpensLastBy _ _ old new result = ⊥

-- how many bytes of a stream are kept
abbrev pub waiting_of : StreamKind → ℕ
waiting_of (kinds.Keys keys) = 0
waiting_of (kinds.Sealing sealing) = length sealing.kept.bytes.items
waiting_of (kinds.Opening opening) = length opening.kept.bytes.items
