-- What becomes of a draft that tells its bytes, where its name is taken or the file is broken off.
use Rattle.std.proofs.Common.{◌≡◌, ℕ, List, Option, Some, subst}
use Rattle.tink_spec.specs.Files.{StoreState, HoldsSome, KeptFiles, MayAdd}
use Rattle.tink_base.specs.declared.store.Created.TheVariants as created
use Rattle.tink_base.specs.Pieces.{Draft, IsDraft, Finishes, MayFinish}

-- a draft of a name that is taken
pub finds_taken : (old new : StoreState) (draft : Option Draft) (name bytes : List ℕ) → draft ≡ Some (record { name = name; bytes = Some bytes }) → KeptFiles old new → HoldsSome old name → Finishes old new draft created.Exists
finds_taken old new draft name bytes is kept there = λ n b drafted.
    let same = subst (λ (d : Option Draft). IsDraft d n b) is drafted in
    (kept, subst (λ (x : List ℕ). HoldsSome old x) same.0 there)

-- a draft of which something may be left
pub breaks_off : (old new : StoreState) (draft : Option Draft) (name bytes : List ℕ) → draft ≡ Some (record { name = name; bytes = Some bytes }) → MayAdd old new name bytes → MayFinish old new draft
breaks_off old new draft name bytes is left = λ n b drafted.
    let same = subst (λ (d : Option Draft). IsDraft d n b) is drafted in
    subst (λ (x : List ℕ). MayAdd old new n x) same.1 (subst (λ (x : List ℕ). MayAdd old new x bytes) same.0 left)
