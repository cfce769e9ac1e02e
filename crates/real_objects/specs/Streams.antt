-- What real streams tell: how often they have failed, whether a stream has ended, and the bytes that the stream
-- beneath tells.
use Rattle.std.specs.Prelude.{◌≡◌, ℕ, List, [], Option, Bool, true}
use Rattle.std.specs.Io.KnownBytes.{prepend_known}
use Rattle.tink_spec.specs.Outside.{SourceState, SinkState}
use Rattle.real_objects.specs.declared.streams.StdSource.{StdSource}
use Rattle.real_objects.specs.declared.streams.StdSink.{StdSink}

-- the stream beneath one that is read
abbrev pub stream_read : {R : Type 0} → StdSource R → R
stream_read source = source.input

-- the bytes that were read of it ahead of what was handed out
abbrev pub read_ahead : {R : Type 0} → StdSource R → List ℕ
read_ahead source = source.unread

-- the bytes that are still to come: those that were read ahead, and then what the stream has left
abbrev pub source_left : {R : Type 0} → (R → Option (List ℕ)) → StdSource R → Option (List ℕ)
source_left remaining source = prepend_known (read_ahead source) (remaining (stream_read source))

-- a stream that is read
abbrev pub told_source : {R : Type 0} → (R → Option (List ℕ)) → StdSource R → SourceState
told_source remaining source = record {
  left = source_left remaining source;
  faults = source.faults;
  ended = source.ended;
  late = source.late;
}

-- whether it was found closed, before its first read
abbrev pub found_closed : {R : Type 0} → StdSource R → Bool
found_closed source = source.closed

-- it was found closed, before anything was read of it
abbrev pub IsClosed : {R : Type 0} → StdSource R → Type 0
IsClosed source = (source.closed ≡ true) × (read_ahead source ≡ [])

-- the stream beneath one that is written
abbrev pub stream_written : {W : Type 0} → StdSink W → W
stream_written sink = sink.output

-- a stream that is written
abbrev pub told_sink : {W : Type 0} → (W → Option (List ℕ)) → StdSink W → SinkState
told_sink contents sink = record { written = contents (stream_written sink); faults = sink.faults }

-- it was found closed, before anything was written to it
abbrev pub closed_sink : {W : Type 0} → StdSink W → Bool
closed_sink sink = sink.closed

-- whether a byte was written to it
abbrev pub has_written : {W : Type 0} → StdSink W → Bool
has_written sink = sink.wrote
