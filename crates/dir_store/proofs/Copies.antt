-- A file that is copied to another piece by piece, where they tell their bytes.
use Rattle.std.proofs.Common.{◌≡◌, ℕ, ◌+◌, List, ◌++◌, take, drop, None, Some, IfSome, sym, ap, ◌∙◌, subst}
use Rattle.std.specs.Prelude.{Option}
use Rattle.std.proofs.KnownBytes.{Appends-trans}
use Rattle.std.specs.Io.KnownBytes.{Appends}
use Rattle.tink_base.proofs.Fronts.{front_more}

-- the next piece is copied
pub copies_more : (from first old new : Option (List ℕ)) (at n next : ℕ) (piece : List ℕ) → IfSome from (λ all. Appends first old (take at all)) → IfSome from (λ all. piece ≡ take n (drop at all)) → Appends old new piece → next ≡ at + n → IfSome from (λ all. Appends first new (take next all))
copies_more None first old new at n next piece copied read wrote is = tt
copies_more (Some all) first old new at n next piece copied read wrote is =
    subst (Appends first new) (ap (λ (p : List ℕ). take at all ++ p) read ∙ front_more all at n ∙ ap (λ (k : ℕ). take k all) (sym is))
    (Appends-trans first old new (take at all) piece copied wrote)
