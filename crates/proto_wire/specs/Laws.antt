-- Laws of the definitions of the wire.
use Rattle.std.specs.Prelude.{◌≡◌, ◌↔◌, ℕ, List, Ok, Err}
use Rattle.tink_spec.specs.Wire.{WireField, IsCutInto, FailsAt, cut}

-- For each part at each place, `cut` gives these fields exactly where the part is their spellings,
-- joined, and this place of a fault exactly where the part fails there. So a part has one list of
-- fields or one place of a fault, and never both.
abbrev pub CuttingIsSpelling : Type 0
CuttingIsSpelling = (at : ℕ) (part : List ℕ) →
    ((fields : List WireField) → (cut at part ≡ Ok fields) ↔ IsCutInto at part fields)
    × ((place : ℕ) → (cut at part ≡ Err place) ↔ FailsAt at part place)
