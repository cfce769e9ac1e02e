-- A stream that is being sealed or opened, and the cipher that it stands for.
use Rattle.std.specs.Prelude.{◌≡◌, ℕ, List, length, Bool}
use Rattle.segment_stream.specs.Cipher.{SegmentCipher, IsCipher}
use Rattle.segment_stream.specs.Segments.{opens_under, seals_under, tag_size_under}
use Rattle.segment_stream.specs.declared.segments.SegmentKeys.{SegmentKeys}

-- the keys of the stream, the front of each nonce, and the size of a full segment
pub record StreamState : Type 0 where
  pub keys : SegmentKeys
  pub prefix : List ℕ
  pub size : ℕ

-- the keys of the stream seal and open as this cipher does behind this header
pub record IsUnder (stream : StreamState) (cipher : SegmentCipher) (header : List ℕ) : Type 0 where
  pub is : IsCipher cipher
  pub size : stream.size ≡ cipher.size
  pub tag : tag_size_under stream.keys ≡ cipher.tag
  pub whole : length header ≡ cipher.header
  pub seals : (number : ℕ) (last : Bool) (plain : List ℕ)
      → seals_under stream.keys stream.prefix number last plain
      ≡ cipher.seals header number last plain
  pub opens : (number : ℕ) (last : Bool) (segment : List ℕ)
      → opens_under stream.keys stream.prefix number last segment
      ≡ cipher.opens header number last segment
