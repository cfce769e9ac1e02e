use Rattle.std.proofs.Common.{◌≡◌, ◌<◌, zero, suc, ℕ, List, [], ◌∷◌, length, map, Some, arith, refl, slice_index_or}
use Rattle.std.specs.Prelude.{slice_get}
use Rattle.key_msgs.specs.Templates.{seen_row}
use Rattle.key_msgs.proofs.template.row_at.Goals as goal

seen-there : {A B : Type 0} (see : A → B) (xs : List A) (i : ℕ) (d : A) → i < length xs → Some (see (slice_index_or xs i d)) ≡ slice_get (map see xs) i
seen-there see [] i d within = absurd (omega (arith, within))
seen-there see (x ∷ xs) zero d within = refl
seen-there see (x ∷ xs) (suc i) d within = seen-there see xs i d (omega (arith, within))

pub returns : goal.returns
returns c = seen-there seen_row c.args.rows.now c.args.place _ c.requires.within
