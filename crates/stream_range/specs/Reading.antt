-- What stands between the steps of a range: what was read, the stream that was begun, and the pieces
-- that were opened.
use Rattle.std.specs.Prelude.{◌≡◌, ℕ, ◌+◌, ◌<◌, ◌≤◌, List, length, take, drop, true, false, Option, Some, None, Result, Ok, Err, Contains}
use Rattle.std.specs.List.{concat}
use Rattle.tink_spec.specs.Outside.{Stood}
use Rattle.segment_stream.specs.Cipher.{SegmentCipher}
use Rattle.segment_stream.specs.Opening.{chosen, no_key, choose, fits, has_header}
use Rattle.segment_stream.specs.Segments.{cipher_of, ciphers_of}
use Rattle.segment_stream.specs.Streams.{IsUnder}
use Rattle.segment_stream.specs.declared.key.StreamKey.{StreamKey}
use Rattle.stream_range.specs.Device.{DeviceState, KeptDevice, HasAt}
use Rattle.stream_range.specs.declared.piece.PieceFault.{PieceFault}
use Rattle.stream_range.specs.declared.piece.PieceFault.TheVariants as faults
use Rattle.stream_range.specs.declared.sizes.Begun.{Begun}
use Rattle.stream_range.specs.declared.sizes.Sizes.{Sizes}

-- some bytes were read without a fault, those from that place on
pub record ReadSoFar (old new : DeviceState) (at : ℕ) (out : List ℕ) (done : ℕ) : Type 0 where
  pub kept : KeptDevice old new
  pub stood : Stood old.faults new.faults
  pub given : new.given ≤ old.given + done
  pub has : HasAt old at (take done out)

-- the sizes of a key
pub record HasSizes (sizes : Sizes) (key : SegmentCipher) : Type 0 where
  pub segment : sizes.segment ≡ key.size
  pub header : sizes.header ≡ key.header
  pub tag : sizes.tag ≡ key.tag

-- the stream of these bytes, begun under a key
pub record Begins (begun : Begun) (key : SegmentCipher) (bytes : List ℕ) : Type 0 where
  pub sizes : HasSizes begun.sizes key
  pub under : IsUnder begun.stream key (take key.header bytes)
  pub has : has_header key bytes ≡ true

-- bytes of this count with this front
pub record StartsWith (bytes front : List ℕ) (size : ℕ) : Type 0 where
  pub long : length bytes ≡ size
  pub begins : take (length front) bytes ≡ front

-- a key's first segment doesn't open
abbrev pub Unfit : (key : StreamKey) (ad front : List ℕ) (size : ℕ) → Type 0
Unfit key ad front size =
    (bytes : List ℕ) → StartsWith bytes front size → fits (cipher_of ad key) bytes ≡ false

-- a key's first segment opens, and the stream is begun under it
pub record Fit (key : StreamKey) (ad front : List ℕ) (size : ℕ) (begun : Begun) : Type 0 where
  pub sizes : HasSizes begun.sizes (cipher_of ad key)
  pub header : begun.sizes.header ≤ size
  pub begins : (bytes : List ℕ) → StartsWith bytes front size
      → Begins begun (cipher_of ad key) bytes
  pub fits : (bytes : List ℕ) → StartsWith bytes front size → fits (cipher_of ad key) bytes ≡ true

-- no key fits
abbrev pub NoneChosen : (keys : List StreamKey) (ad front : List ℕ) (size : ℕ) → Type 0
NoneChosen keys ad front size =
    (bytes : List ℕ) → StartsWith bytes front size → choose (ciphers_of ad keys) bytes true ≡ no_key

-- the key chosen, and the stream that is begun under it
pub record Chosen (keys : List StreamKey) (ad front : List ℕ) (size : ℕ) (begun : Begun) : Type 0
  where
    pub key : StreamKey
    pub among : Contains keys key
    pub sizes : HasSizes begun.sizes (cipher_of ad key)
    pub header : begun.sizes.header ≤ size
    pub begins : (bytes : List ℕ) → StartsWith bytes front size
        → Begins begun (cipher_of ad key) bytes
    pub is : (bytes : List ℕ) → StartsWith bytes front size
        → choose (ciphers_of ad keys) bytes true ≡ chosen (cipher_of ad key)

-- the piece's plaintext stands so far behind the front of the buffer and has so many bytes, or it
-- doesn't open
abbrev pub IsPiece : Result (ℕ × ℕ) PieceFault → (buffer : List ℕ) → (number : ℕ)
    → (plain : Option (List ℕ)) → Type 0
IsPiece (Ok place) buffer number plain = plain ≡ Some (take place.1 (drop place.0 buffer))
IsPiece (Err (faults.StreamFailed n)) buffer number plain = (n ≡ number) × (plain ≡ None)
IsPiece (Err faults.ReadFault) buffer number plain = Unit {0}

-- the plaintexts of so many pieces, without the first bytes and at most so many, or the first piece
-- that doesn't open
abbrev pub IsRun : Result (Unit {0}) PieceFault → (plain : List ℕ) → (skip most first count : ℕ)
    → (run : List (List ℕ)) → Type 0
IsRun (Ok _) plain skip most first count run =
    (length run ≡ count) × (plain ≡ take most (drop skip (concat run)))
IsRun (Err (faults.StreamFailed n)) plain skip most first count run =
    (length run < count) × (n ≡ first + length run)
IsRun (Err faults.ReadFault) plain skip most first count run = Unit {0}
