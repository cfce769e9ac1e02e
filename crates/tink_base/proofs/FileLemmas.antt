-- A file found in the list of files, the newest first.
use Rattle.std.proofs.Common.{◌≡◌, ℕ, ◌+◌, ◌<◌, List, length, get_or, drop, refl, sym, ◌∙◌, add-one, drop-cons}
use Rattle.std.specs.Prelude.{Some, Bool, true, false, cond}
use Rattle.std.specs.Ordering.{nat_cmp}
use Rattle.std.specs.Cmp.Lexicographic.{slice_cmp}
use Rattle.std.specs.Str.{bytes_eq}
use Rattle.std.specs.FinMap.{find}
use Rattle.std.proofs.lemmas.Map.Text.{is_eq-slice_cmp}

-- the test of one file, and then the rest
pub find_step : (files : List (List ℕ × List ℕ)) (i : ℕ) (file : List ℕ × List ℕ) (name : List ℕ) → i < length files → file ≡ get_or files i file → find (slice_cmp nat_cmp) name (drop i files) ≡ cond (bytes_eq name file.0) (Some file.1) (find (slice_cmp nat_cmp) name (drop (i + 1) files))
find_step files i file name lt is =
    rw (add-one, drop-cons files i file lt, sym is, is_eq-slice_cmp) refl

pub found_here : (files : List (List ℕ × List ℕ)) (i : ℕ) (file : List ℕ × List ℕ) (name : List ℕ) (b : Bool) → i < length files → file ≡ get_or files i file → b ≡ bytes_eq name file.0 → b ≡ true → find (slice_cmp nat_cmp) name (drop i files) ≡ Some file.1
found_here files i file name b lt is test tied = find_step files i file name lt is ∙ rw (← test, tied) refl

pub not_here : (files : List (List ℕ × List ℕ)) (i : ℕ) (file : List ℕ × List ℕ) (name : List ℕ) (b : Bool) → i < length files → file ≡ get_or files i file → b ≡ bytes_eq name file.0 → b ≡ false → find (slice_cmp nat_cmp) name (drop i files) ≡ find (slice_cmp nat_cmp) name (drop (i + 1) files)
not_here files i file name b lt is test other = find_step files i file name lt is ∙ rw (← test, other) refl
