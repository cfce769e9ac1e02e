-- What is opened in place behind a front, and what an envelope opens to by its parts.
use borrow.Rule.Slice.PartMut.{put_mid}
use Rattle.std.proofs.Common.{◌≡◌, ◌∙◌, refl, sym, ap, subst, ℕ, ◌+◌, ◌-◌, ◌<◌, ◌≤◌, Bool, true, false, List, [], ◌++◌, length, take, drop, Option, Some, None, arith}
use Rattle.std.specs.Prelude.{if◌then◌else◌, nat_lt, ◌==◌, ◌||◌, slice_range}
use Rattle.std.specs.Option.{option_and_then}
use Rattle.std.proofs.lemmas.Bool.Decides.{nat_tests}
use Rattle.std.proofs.lemmas.List.{append-nil, drop_all, length-append, length-drop, length-take-le, take-append-drop, take_all}
use Rattle.tink_spec.proofs.InPlaceLemmas.{after_behind, before_behind, range_behind}

-- what is written over a rest to its end
written_rest : (n : ℕ) (old rest : List ℕ) → put_mid n (length old - n) old rest ≡ take n old ++ rest
written_rest n old rest =
    let none : drop (length old - n) (drop n old) ≡ []
    = drop_all (length old - n) (drop n old) (omega (arith, length-drop n old)) in
    ap (λ (l : List ℕ). take n old ++ (rest ++ l)) none ∙ ap (λ (l : List ℕ). take n old ++ l) (append-nil rest)

-- what is lent of a rest to its end
pub rest_whole : (n : ℕ) (old : List ℕ) → take (length old - n) (drop n old) ≡ drop n old
rest_whole n old = take_all (length old - n) (drop n old) (omega (arith, length-drop n old))

-- a plaintext that stands in a range of the bytes, round which they are as before
abbrev pub StandsIn : Option (List ℕ) → (old new : List ℕ) → (from to : ℕ) → Type 0
StandsIn plain old new from to =
    (from ≤ to) × (to ≤ length new) × (plain ≡ Some (slice_range new from to))
    × (take from new ≡ take from old) × (drop to new ≡ drop to old)

-- where it stands in a range of a rest, it stands behind the front in the range that is moved by so much
pub stands_behind : (plain opened : Option (List ℕ)) (n : ℕ) (old rest : List ℕ) (from to : ℕ)
    → n ≤ length old → plain ≡ opened → StandsIn opened (drop n old) rest from to
    → StandsIn plain old (put_mid n (length old - n) old rest) (n + from) (n + to)
stands_behind plain opened n old rest from to le same stands =
    let front : length (take n old) ≡ n = length-take-le n old le in
    let is : put_mid n (length old - n) old rest ≡ take n old ++ rest = written_rest n old rest in
    let size : length (put_mid n (length old - n) old rest) ≡ n + length rest
    = ap (λ (l : List ℕ). length l) is ∙ length-append (take n old) rest
    ∙ ap (λ (k : ℕ). k + length rest) front in
    let behind : slice_range (take n old ++ rest) (n + from) (n + to) ≡ slice_range rest from to
    = subst (λ (k : ℕ). slice_range (take n old ++ rest) (k + from) (k + to) ≡ slice_range rest from to) front
    (range_behind (take n old) rest from to) in (
      omega (arith, stands.0),
      omega (arith, size, stands.1),
      same ∙ stands.2 ∙ ap (λ (l : List ℕ). Some l)
          (sym behind ∙ ap (λ (l : List ℕ). slice_range l (n + from) (n + to)) (sym is)),
      ap (take (n + from)) is ∙ before_behind n from old rest le stands.3,
      ap (drop (n + to)) is ∙ after_behind n to old rest le stands.4,
    )

-- a rest that stayed leaves the bytes as they were
pub kept_behind : (n : ℕ) (old rest : List ℕ) → rest ≡ drop n old → put_mid n (length old - n) old rest ≡ old
kept_behind n old rest kept =
    written_rest n old rest ∙ ap (λ (l : List ℕ). take n old ++ l) kept ∙ take-append-drop n old

-- ---- the parts of an envelope

-- what comes behind a test that failed
pub passed : {A : Type 0} (b : Bool) (x : Option A) → b ≡ false → (if b then None else x) ≡ x
passed false x is = refl
passed true x is = absurd (cc)

-- the length of the sealed data key is there, and that many bytes are
pub has_length : (bytes : List ℕ) → 4 ≤ length bytes → nat_lt (length bytes) 4 ≡ false
has_length bytes fits = grind (arith, nat_tests)

pub has_key : (bytes : List ℕ) (size : ℕ) → 0 < size → size ≤ length bytes → (size == 0 || nat_lt (length bytes) size) ≡ false
has_key bytes size some fits = grind (arith, nat_tests)

-- what follows from a message that was opened
pub opened_then : {A B : Type 0} (next : A → Option B) (found : Option A) (value : A) → Some value ≡ found → option_and_then next found ≡ next value
opened_then next found value is = ap (option_and_then next) (sym is)
