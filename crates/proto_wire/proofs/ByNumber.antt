-- What the fields of a number give, one field after the other.
use Rattle.std.proofs.Common.{◌≡◌, ℕ, ◌%◌, ◌^◌, ◌≤◌, List, length, drop, refl, Result, Ok}
use Rattle.std.specs.Prelude.{fold}
use Rattle.std.proofs.Math.ListN.{drop_of_length-le}
use Rattle.tink_spec.specs.Wire.{WireField}
use Rattle.tink_spec.specs.Messages.{is_varint, is_bytes, of_number, first_other, unless_at, later_number, later_bytes}
use Rattle.proto_wire.specs.Fields.{seen_all}
use Rattle.proto_wire.specs.declared.field.Field.{Field}

-- the number that these fields give behind another
abbrev pub number_from : ℕ → ℕ → List WireField → Result ℕ ℕ
number_from number before fields = let these = of_number number fields in
    unless_at (first_other is_varint these) (fold (λ before field. later_number before field.payload) before these % 2 ^ 32)

-- the bytes that these fields give behind others
abbrev pub bytes_from : ℕ → ℕ × List ℕ → List WireField → Result (ℕ × List ℕ) ℕ
bytes_from number before fields = let these = of_number number fields in
    unless_at (first_other is_bytes these) (fold (λ before field. later_bytes before field.payload) before these)

-- past the last field nothing more is given
pub bytes_end : (source : List ℕ) (number : ℕ) (before : ℕ × List ℕ) (fields : List Field) (i : ℕ) → length fields ≤ i → bytes_from number before (seen_all source (drop i fields)) ≡ Ok before
bytes_end source number before fields i past = rw (drop_of_length-le fields past) refl
