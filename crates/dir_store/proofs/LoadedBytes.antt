-- What is loaded of a file, where it knows its bytes.
use Rattle.std.proofs.Common.{◌≡◌, ℕ, ◌+◌, ◌≤◌, List, [], ◌++◌, length, take, None, Some, IfSome, Result, Ok, Err, IfOk, OnOk, IsErr, refl, ap, ◌∙◌, subst, arith}
use Rattle.std.proofs.lemmas.List.{length-take, take_all}
use Rattle.std.specs.Prelude.{Option, option_map}
use Rattle.tink_base.specs.declared.store.Loaded.{Loaded}
use Rattle.tink_base.specs.declared.store.Loaded.TheVariants as loaded
use Rattle.dir_store.specs.Folder.{IsLoaded}

-- what is read up to one byte more than the limit, and stays within the limit, is all
pub within_is_all : (bytes all : List ℕ) (limit : ℕ) → all ≡ take (limit + 1) bytes → length all ≤ limit → (all ≡ bytes) × (length bytes ≤ limit)
within_is_all bytes all limit is within = (is ∙ take_all (limit + 1) bytes (omega (arith, short)), short)
  where
    short : length bytes ≤ limit
    short = omega (arith, within, ap length is ∙ length-take (limit + 1) bytes)

-- what was loaded of the first bytes of a file, up to one more than the limit, was loaded of the file
front_whole : (bytes items : List ℕ) (limit : ℕ) (found : Loaded) → items ≡ take (limit + 1) bytes → IsLoaded items limit found → IsLoaded bytes limit found
front_whole bytes items limit loaded.Absent is told = told
front_whole bytes items limit loaded.TooLong is told =
    omega (arith, told, ap length is ∙ length-take (limit + 1) bytes)
front_whole bytes items limit (loaded.Bytes all) is told =
    within_is_all bytes all limit (told.0 ∙ is) (omega (arith, ap length told.0, told.1))

pub loaded_whole : {E F : Type 0} (file front : Option (List ℕ)) (start items : List ℕ) (limit : ℕ) (read : Result ℕ E) (result : Result Loaded F) → front ≡ option_map (take (limit + 1)) file → start ≡ [] → OnOk read (IfSome front (λ bs. items ≡ start ++ bs)) → IfOk result (λ found. IsLoaded items limit found) → (IsErr read → IsErr result) → IfSome file (λ bytes. IfOk result (λ found. IsLoaded bytes limit found))
loaded_whole None front start items limit read result is none all told failed = tt
loaded_whole (Some bytes) front start items limit read (Err error) is none all told failed = tt
loaded_whole {F = F} (Some bytes) front start items limit (Err error) (Ok found) is none all told failed =
    let wrong : IsErr {T = Loaded} {E = F} (Ok found) = failed refl in
    let never : ⊥ = cc in
    absurd never
loaded_whole (Some bytes) front start items limit (Ok n) (Ok found) is none all told failed =
    front_whole bytes items limit found
    (subst (λ (o : Option (List ℕ)). IfSome o (λ xs. items ≡ xs)) is (subst (λ (s : List ℕ). IfSome front (λ xs. items ≡ s ++ xs)) none all))
    told
