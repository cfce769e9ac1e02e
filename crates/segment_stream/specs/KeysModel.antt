-- Keys for streams, as contracts see them.
use Rattle.std.specs.Prelude.{◌≡◌, List, Some}
use Rattle.std.specs.List.{AllByRecursion}
use Rattle.keyset_model.specs.Keyset.{Keys}
use Rattle.segment_stream.specs.Segments.{IsSound}
use Rattle.segment_stream.specs.StreamKeys.{primary_key, stream_keys}
use Rattle.segment_stream.specs.declared.key.StreamKey.{StreamKey}

-- the key that seals, and the keys that open, in their order
pub record KeysForStreams : Type 0 where
  pub primary : StreamKey
  pub keys : List StreamKey

-- they are those of the keyset
abbrev pub AreOf : KeysForStreams → Keys → Type 0
AreOf those keyset =
    (those.keys ≡ stream_keys keyset) × (primary_key keyset ≡ Some those.primary)

-- their sizes are those that Tink allows, so each gives a cipher of segments
pub record AreSound (those : KeysForStreams) : Type 0 where
  pub primary : IsSound those.primary
  pub keys : AllByRecursion IsSound those.keys
