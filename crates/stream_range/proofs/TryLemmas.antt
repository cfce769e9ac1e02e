-- A key tried on the first bytes of a stream.
use Rattle.std.proofs.Common.{◌≡◌, ℕ, ◌+◌, ◌-◌, ◌*◌, ◌/◌, ◌<◌, ◌≤◌, min, List, ◌∷◌, length, take, drop, get_or, sym, ◌∙◌, ap, subst, arith, inl, inr}
use Rattle.std.specs.Prelude.{Bool, true, false, ◌==◌, ◌&&◌, nat_le, Some, None, if◌then◌else◌}
use Rattle.std.specs.Option.{is_some}
use Rattle.std.proofs.lemmas.Bool.{cases_lt}
use Rattle.std.proofs.lemmas.Bool.Decides.{nat_tests}
use Rattle.std.proofs.lemmas.Nat.{le-div, div_below}
use Rattle.std.proofs.lemmas.List.{length-take-le, take_all, take-take, get_or-take}
use Rattle.segment_stream.specs.Cipher.{SegmentCipher, IsCipher}
use Rattle.segment_stream.specs.Opening.{chosen, choose, fits, has_header, opens_at, piece_opens}
use Rattle.segment_stream.specs.Pieces.{followed}
use Rattle.segment_stream.specs.Segments.{IsSound, cipher_of, ciphers_of, opens_under}
use Rattle.segment_stream.specs.Streams.{IsUnder}
use Rattle.segment_stream.specs.declared.key.StreamKey.{StreamKey}
use Rattle.segment_stream.proofs.CipherLemmas.{cipher_of-is_cipher}
use Rattle.segment_stream.proofs.First.{long_enough}
use Rattle.segment_stream.proofs.Slices.{behind}
use Rattle.segment_stream.proofs.Trials.{no_piece}
use Rattle.stream_range.specs.Reading.{Begins, Fit, StartsWith, Unfit}
use Rattle.stream_range.specs.declared.sizes.Begun.{Begun}
use Rattle.stream_range.proofs.PieceLemmas.{begun_opens}

-- the first segment in front of what was read
pub record AtFront (key : StreamKey) (front : List ℕ) (size end : ℕ) : Type 0 where
  pub sound : IsSound key
  pub fits : min key.segment size ≤ length front
  pub within : length front ≤ size
  pub ends : end ≡ min key.segment (length front)

ends_at : (key : StreamKey) (front : List ℕ) (size end : ℕ) → AtFront key front size end → end ≡ min key.segment size
ends_at key front size end a = omega (arith, a.fits, a.within, a.ends)

same_front : (key : StreamKey) (bytes front : List ℕ) (size end : ℕ) → AtFront key front size end → StartsWith bytes front size → take end front ≡ take end bytes
same_front key bytes front size end a s = ap (take end) (sym s.begins) ∙ take-take end (length front) bytes (omega (arith, a.ends))

has_long : (key : SegmentCipher) (bytes : List ℕ) (end : ℕ) → 0 < key.header → key.header ≤ end → end ≤ length bytes → has_header key (take end bytes) ≡ has_header key bytes
has_long key bytes end some le within =
    let l : length (take end bytes) ≡ end = length-take-le end bytes within in
    let now : nat_le key.header (length (take end bytes)) ≡ true = grind (arith, nat_tests) in
    let all : nat_le key.header (length bytes) ≡ true = grind (arith, nat_tests) in
    ap (λ (b : Bool). b && get_or (take end bytes) 0 0 == key.header) now
    ∙ ap (λ n. n == key.header) (get_or-take end bytes 0 0 (omega arith))
    ∙ ap (λ (b : Bool). b && get_or bytes 0 0 == key.header) (sym all)

-- whether the header stands there
pub has_there : (key : StreamKey) (ad bytes front : List ℕ) (size end : ℕ) → AtFront key front size end → StartsWith bytes front size → has_header (cipher_of ad key) (take end front) ≡ has_header (cipher_of ad key) bytes
has_there key ad bytes front size end a s =
    let is : IsCipher (cipher_of ad key) = cipher_of-is_cipher ad key a.sound in
    let cut = same_front key bytes front size end a s in
    let e = ends_at key front size end a in
    elim (cases_lt end (key.derived + 8)) [
      | inl short ↦ ap (has_header (cipher_of ad key)) (cut ∙ take_all end bytes (omega (arith, e, is.room, short, s.long)))
      | inr long ↦ ap (has_header (cipher_of ad key)) cut ∙ has_long (cipher_of ad key) bytes end is.some long (omega (arith, e, s.long))
    ]

-- without it the key doesn't fit
pub headless : (key : StreamKey) (ad front : List ℕ) (size end : ℕ) → AtFront key front size end → has_header (cipher_of ad key) (take end front) ≡ false → Unfit key ad front size
headless key ad front size end a none bytes s =
    ap is_some (no_piece (cipher_of ad key) bytes 0 _ (sym (has_there key ad bytes front size end a s) ∙ none))

pub begins_there : (key : StreamKey) (ad front bytes : List ℕ) (size end : ℕ) (begun : Begun) → AtFront key front size end → Begins begun (cipher_of ad key) (take end front) → StartsWith bytes front size → Begins begun (cipher_of ad key) bytes
begins_there key ad front bytes size end begun a b s =
    let le : key.derived + 8 ≤ end = omega (arith, long_enough (cipher_of ad key) (take end front) b.has, length-take-le end front (omega (arith, a.ends))) in
    let header : take (key.derived + 8) (take end front) ≡ take (key.derived + 8) bytes = ap (take (key.derived + 8)) (same_front key bytes front size end a s) ∙ take-take (key.derived + 8) end bytes le in
    record {
      sizes = b.sizes;
      under = subst (λ (l : List ℕ). IsUnder begun.stream (cipher_of ad key) l) header b.under;
      has = sym (has_there key ad bytes front size end a s) ∙ b.has;
    }

-- only a stream of no more than a segment has its first one as its last
first_last : (size segment : ℕ) → 0 < segment → (0 == (size - 1) / segment) ≡ nat_le size segment
first_last size segment some = elim (cases_lt segment size) [
  | inl more ↦
      let later : 1 ≤ (size - 1) / segment = le-div 1 (size - 1) segment some (omega arith) in
      let a : (0 == (size - 1) / segment) ≡ false = grind (arith, nat_tests) in
      let b : nat_le size segment ≡ false = grind (arith, nat_tests) in
      a ∙ sym b
  | inr one ↦
      let first : (size - 1) / segment < 1 = div_below (size - 1) segment 1 some (omega arith) in
      let a : (0 == (size - 1) / segment) ≡ true = grind (arith, nat_tests) in
      let b : nat_le size segment ≡ true = grind (arith, nat_tests) in
      a ∙ sym b
]

-- what the first segment opens to
pub first_opens : (key : StreamKey) (ad front bytes : List ℕ) (size end : ℕ) (begun : Begun) → AtFront key front size end → Begins begun (cipher_of ad key) (take end front) → StartsWith bytes front size
    → opens_at (cipher_of ad key) bytes 0 ≡ opens_under begun.stream.keys begun.stream.prefix 0 (nat_le size key.segment) (take (end - begun.sizes.header) (drop begun.sizes.header front))
first_opens key ad front bytes size end begun a b s =
    let is : IsCipher (cipher_of ad key) = cipher_of-is_cipher ad key a.sound in
    let le : begun.sizes.header ≤ end = omega (arith, b.sizes.header, long_enough (cipher_of ad key) (take end front) b.has, length-take-le end front (omega (arith, a.ends))) in
    let some : 0 < key.segment = omega (arith, is.room) in
    let last : (0 == followed key.segment bytes) ≡ nat_le size key.segment = ap (λ n. 0 == (n - 1) / key.segment) s.long ∙ first_last size key.segment some in
    let zero_at : 0 * begun.sizes.segment ≡ 0 = omega arith in
    ap (piece_opens (cipher_of ad key) bytes 0) last
    ∙ begun_opens begun (cipher_of ad key) bytes (take end front) 0 end (nat_le size key.segment) (begins_there key ad front bytes size end begun a b s) (omega arith)
    (omega (arith, ends_at key front size end a, s.long, zero_at, b.sizes.segment))
    (same_front key bytes front size end a s ∙ ap (λ n. take end (drop n bytes)) (sym zero_at))
    ∙ ap (λ (l : List ℕ). opens_under begun.stream.keys begun.stream.prefix 0 (nat_le size key.segment) l) (behind begun.sizes.header end front le)

-- it doesn't open
pub closed : (key : StreamKey) (ad front : List ℕ) (size end : ℕ) (begun : Begun) → AtFront key front size end → Begins begun (cipher_of ad key) (take end front)
    → opens_under begun.stream.keys begun.stream.prefix 0 (nat_le size key.segment) (take (end - begun.sizes.header) (drop begun.sizes.header front)) ≡ None → Unfit key ad front size
closed key ad front size end begun a b none bytes s = ap is_some (first_opens key ad front bytes size end begun a b s ∙ none)

-- it opens
pub fits_front : (key : StreamKey) (ad front plain : List ℕ) (size end : ℕ) (begun : Begun) → AtFront key front size end → Begins begun (cipher_of ad key) (take end front)
    → opens_under begun.stream.keys begun.stream.prefix 0 (nat_le size key.segment) (take (end - begun.sizes.header) (drop begun.sizes.header front)) ≡ Some plain → Fit key ad front size begun
fits_front key ad front plain size end begun a b opens =
    let le : begun.sizes.header ≤ end = omega (arith, b.sizes.header, long_enough (cipher_of ad key) (take end front) b.has, length-take-le end front (omega (arith, a.ends))) in
    record {
      sizes = b.sizes;
      header = omega (arith, le, ends_at key front size end a);
      begins = λ bytes s. begins_there key ad front bytes size end begun a b s;
      fits = λ bytes s. ap is_some (first_opens key ad front bytes size end begun a b s ∙ opens);
    }

-- ---- the keys in their order

by_fit : (key : SegmentCipher) (others : List SegmentCipher) (bytes : List ℕ) (b : Bool) → fits key bytes ≡ b → choose (key ∷ others) bytes true ≡ (if b then chosen key else choose others bytes true)
by_fit key others bytes b e = ap (λ (x : Bool). if x then chosen key else choose others bytes true) e

-- keys before this one don't fit
abbrev pub Passed : (keys : List StreamKey) (ad front : List ℕ) (size index : ℕ) → Type 0
Passed keys ad front size index = (bytes : List ℕ) → StartsWith bytes front size → choose (ciphers_of ad keys) bytes true ≡ choose (drop index (ciphers_of ad keys)) bytes true

pub passes : (keys : List StreamKey) (ad front : List ℕ) (size index : ℕ) (key : StreamKey) → Passed keys ad front size index
    → drop index (ciphers_of ad keys) ≡ cipher_of ad key ∷ drop (index + 1) (ciphers_of ad keys) → Unfit key ad front size → Passed keys ad front size (index + 1)
passes keys ad front size index key p here unfit bytes s =
    p bytes s ∙ ap (λ (k : List SegmentCipher). choose k bytes true) here ∙ by_fit (cipher_of ad key) (drop (index + 1) (ciphers_of ad keys)) bytes false (unfit bytes s)

pub chooses : (keys : List StreamKey) (ad front bytes : List ℕ) (size index : ℕ) (key : StreamKey) → Passed keys ad front size index
    → drop index (ciphers_of ad keys) ≡ cipher_of ad key ∷ drop (index + 1) (ciphers_of ad keys) → StartsWith bytes front size → fits (cipher_of ad key) bytes ≡ true → choose (ciphers_of ad keys) bytes true ≡ chosen (cipher_of ad key)
chooses keys ad front bytes size index key p here s fit =
    p bytes s ∙ ap (λ (k : List SegmentCipher). choose k bytes true) here ∙ by_fit (cipher_of ad key) (drop (index + 1) (ciphers_of ad keys)) bytes true fit
