-- The five bytes in front of what a record seals or tags.
use Rattle.std.proofs.Common.{◌≡◌, true, false, cond, ℕ, List, ◌∷◌, Some, None}
use Rattle.std.specs.Int.{w32, to_be_bytes}
use Rattle.std.proofs.lemmas.Option.{same_Some}
use Rattle.keyset_model.specs.declared.record.Record.{Record}
use Rattle.wrapped_prims.specs.Candidates.{first_byte, is_raw, prefix_of}

clash : {X P : Type 0} (x : X) → None ≡ Some x → P
clash x h = absurd cc

-- the five bytes of a record that isn't RAW
abbrev pub five : Record → List ℕ
five r = first_byte r ∷ to_be_bytes w32 r.id

pub five-prefix_of : (r : Record) (prefix : List ℕ) → prefix_of r ≡ Some prefix → five r ≡ prefix
five-prefix_of r prefix = elim (is_raw r) as (λ b. cond b None (Some (five r)) ≡ Some prefix → five r ≡ prefix) [
  | true ↦ λ e. clash _ e
  | false ↦ λ e. same_Some _ _ e
]
