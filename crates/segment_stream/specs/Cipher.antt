-- A cipher of segments: a stream's key with its associated data, whatever the kind of the key.
use Rattle.std.specs.Prelude.{◌≡◌, ℕ, zero, suc, ◌+◌, ◌^◌, ◌<◌, ◌≤◌, List, length, drop, Bool, Option, Some}

-- a key of streams, with the associated data, as the laws see it: sizes, and what each segment
-- seals and opens to
pub record SegmentCipher : Type 0 where
  -- bytes of a full segment, and of the header, which counts into the first one
  pub size : ℕ
  pub header : ℕ
  -- by how much a segment is longer than its plaintext
  pub tag : ℕ
  -- the segment of a header, a number, last or not, and a plaintext
  pub seals : List ℕ → ℕ → Bool → List ℕ → List ℕ
  -- the plaintext of a header, a number, last or not, and a segment; none where it doesn't
  -- authenticate there
  pub opens : List ℕ → ℕ → Bool → List ℕ → Option (List ℕ)

-- what the laws need of a cipher
pub record IsCipher (key : SegmentCipher) : Type 0 where
  pub some : 0 < key.header
  pub room : key.header + key.tag < key.size
  pub lengthens : (header : List ℕ) (number : ℕ) (last : Bool) (plain : List ℕ)
      → length (key.seals header number last plain) ≡ length plain + key.tag
  pub opens_back : (header : List ℕ) (number : ℕ) (last : Bool) (plain : List ℕ)
      → length header ≡ key.header → number < 2 ^ 32 → length plain + key.tag ≤ key.size
      → key.opens header number last (key.seals header number last plain) ≡ Some plain
  pub shortens : (header : List ℕ) (number : ℕ) (last : Bool) (bytes plain : List ℕ)
      → key.opens header number last bytes ≡ Some plain → length bytes ≡ length plain + key.tag

-- a stream has at most so many segments
abbrev pub most_segments : ℕ
most_segments = 2 ^ 32

-- piece 0 is taken after its header
abbrev pub behind_header : ℕ → ℕ → List ℕ → List ℕ
behind_header header zero bytes = drop header bytes
behind_header header (suc i) bytes = bytes
