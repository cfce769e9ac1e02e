-- The key whose first segment opens, among others; and by the bytes in front of a stream.
use Rattle.std.proofs.Common.{◌≡◌, ℕ, ◌+◌, ◌<◌, ◌≤◌, List, ◌∷◌, length, take, drop, sym, ◌∙◌, ap, arith, inl, inr, Bool, true, false, cond, Some, None}
use Rattle.std.specs.List.{position_from}
use Rattle.std.specs.Option.{is_some}
use Rattle.std.proofs.lemmas.Bool.{cases_lt}
use Rattle.std.proofs.lemmas.List.{drop_all, length-take-le, take-append-drop, take_all}
use Rattle.segment_stream.specs.Cipher.{SegmentCipher, IsCipher}
use Rattle.segment_stream.specs.Opening.{fits}
use Rattle.segment_stream.proofs.OpeningLemmas.{opens_at-more}
use Rattle.segment_stream.proofs.Places.{followed-from}

-- an element that doesn't pass, and one that does
pub place_passes : {X : Type 0} (test : X → Bool) (i : ℕ) (x : X) (xs all : List X) → all ≡ x ∷ xs → test x ≡ false → position_from test i all ≡ position_from test (i + 1) xs
place_passes test i x xs all here other = ap (position_from test i) here ∙ ap (λ b. cond b (Some i) (position_from test (i + 1) xs)) other

pub place_stops : {X : Type 0} (test : X → Bool) (i : ℕ) (x : X) (xs all : List X) → all ≡ x ∷ xs → test x ≡ true → position_from test i all ≡ Some i
place_stops test i x xs all here is = ap (position_from test i) here ∙ ap (λ b. cond b (Some i) (position_from test (i + 1) xs)) is

-- none is left
pub place_ends : {X : Type 0} (test : X → Bool) (i : ℕ) (all : List X) → length all ≤ i → position_from test i (drop i all) ≡ None
place_ends test i all past = ap (position_from test i) (drop_all i all past)

-- one byte more than its first segment tells of a stream whether that opens
pub fits_front : (key : SegmentCipher) (bytes : List ℕ) (n : ℕ) → IsCipher key → key.size < n → fits key (take n bytes) ≡ fits key bytes
fits_front key bytes n is more = elim (cases_lt n (length bytes)) [
  | inl long ↦
      let size : length (take n bytes) ≡ n = length-take-le n bytes (omega (arith, long)) in
      let some : 0 < key.size = omega (arith, is.some, is.room) in
      sym (ap (fits key) (sym (take-append-drop n bytes))
      ∙ ap is_some (opens_at-more key (take n bytes) (drop n bytes) 0 is (followed-from key.size (take n bytes) 0 some (omega (arith, size, more)))))
  | inr short ↦ ap (fits key) (take_all n bytes short)
]
