-- How far a name has come, once the system was asked to put it away.
use Rattle.std.proofs.Common.{◌≡◌, refl, sym, ap, subst, ℕ, List, Bool, Option, Some, None, IfSome, Result, Ok, Err, IfOk, IfErr, OnOk, IsOkAnd}
use Rattle.std.specs.Prelude.{option_map}
use Rattle.std.specs.Io.KnownBytes.{Appends, Keeps}
use Rattle.tink_base.specs.declared.store.Created.{Created}
use Rattle.tink_base.specs.declared.store.Created.TheVariants as created
use Rattle.tink_base.specs.declared.store.StoreError.{StoreError}
use Rattle.tink_base.specs.declared.store.StoreError.TheVariants as error
use Rattle.real_objects.specs.Naming.{Stage, Linked, Opened, Kept, IsAt, IsWhole, Lasts, kept_as, EndsAs}
use Rattle.real_objects.proofs.KnownBytes.{appends_after}

-- what is told once the name of a whole file was put away, or wasn't
pub ends_kept : (fresh held : Option (List ℕ)) (bytes : List ℕ) (lasted : Option Bool) (first : Stage) (old new : Option Stage) (result : Result Created StoreError) → IsWhole fresh bytes held lasted → kept_as held lasted first ≡ Kept held lasted → EndsAs fresh bytes (Err error.Failed) first → IsAt old first → IfOk result (λ made. (made ≡ created.Made) × (new ≡ option_map (kept_as held lasted) old)) → IfErr result (λ e. (e ≡ error.Failed) × (new ≡ old)) → IfSome new (λ s. EndsAs fresh bytes result s)
ends_kept fresh held bytes lasted first None new (Ok made) whole kept unkept at done failed =
    subst (λ (o : Option Stage). IfSome o (λ s. EndsAs fresh bytes (Ok made) s)) (sym done.1) tt
ends_kept fresh held bytes lasted first (Some s) new (Ok made) whole kept unkept at done failed =
    let ends : EndsAs fresh bytes (Ok made) (Kept held lasted) = (whole, ap Ok done.0) in
    let there : EndsAs fresh bytes (Ok made) (kept_as held lasted s) = subst (λ (t : Stage). EndsAs fresh bytes (Ok made) (kept_as held lasted t)) (sym at) (subst (EndsAs fresh bytes (Ok made)) (sym kept) ends) in
    subst (λ (o : Option Stage). IfSome o (λ t. EndsAs fresh bytes (Ok made) t)) (sym done.1) there
ends_kept fresh held bytes lasted first None new (Err e) whole kept unkept at done failed =
    subst (λ (o : Option Stage). IfSome o (λ s. EndsAs fresh bytes (Err e) s)) (sym failed.1) tt
ends_kept fresh held bytes lasted first (Some s) new (Err e) whole kept unkept at done failed =
    let ends : EndsAs fresh bytes (Err e) first = subst (λ (x : StoreError). EndsAs fresh bytes (Err x) first) (sym failed.0) unkept in
    subst (λ (o : Option Stage). IfSome o (λ t. EndsAs fresh bytes (Err e) t)) (sym failed.1) (subst (EndsAs fresh bytes (Err e)) (sym at) ends)

-- a file that was linked
pub ends_linked : (fresh held : Option (List ℕ)) (bytes : List ℕ) (lasted : Option Bool) (linked old new : Option Stage) (result : Result Created StoreError) → IsWhole fresh bytes held lasted → IsAt linked (Linked held lasted) → old ≡ linked → IfOk result (λ made. (made ≡ created.Made) × (new ≡ option_map (kept_as held lasted) old)) → IfErr result (λ e. (e ≡ error.Failed) × (new ≡ old)) → IfSome new (λ s. EndsAs fresh bytes result s)
ends_linked fresh held bytes lasted linked old new result whole at same =
    ends_kept fresh held bytes lasted (Linked held lasted) old new result whole refl (whole, refl) (subst (λ (o : Option Stage). IsAt o (Linked held lasted)) (sym same) at)

-- a file that was opened under the name and filled
pub ends_opened : {F E X : Type 0} (fresh : Option (List ℕ)) (contents : F → Option (List ℕ)) (lasts : F → Option Bool) (bytes : List ℕ) (opened filled : Result F E) (file : F) (answer : Created) (told : Result Created X) (old new : Option Stage) (result : Result Created StoreError) → IfOk opened (λ f. Keeps fresh (contents f)) → OnOk opened (IsAt old Opened) → IfOk opened (λ f. IfOk told (λ m. (m ≡ created.Made) × IsOkAnd filled (λ g. Lasts (lasts g) × Appends (contents f) (contents g) bytes))) → IfErr opened (λ e. filled ≡ Err e) → told ≡ Ok answer → filled ≡ Ok file → IfOk result (λ m. (m ≡ created.Made) × (new ≡ option_map (kept_as (contents file) (lasts file)) old)) → IfErr result (λ e. (e ≡ error.Failed) × (new ≡ old)) → IfSome new (λ s. EndsAs fresh bytes result s)
ends_opened {F = F} {E = E} fresh contents lasts bytes (Err e) filled file answer told old new result kept at fill unopened is there done failed =
    let no : ⊥ = cc in absurd no
ends_opened {F = F} {E = E} {X = X} fresh contents lasts bytes (Ok f) filled file answer told old new result kept at fill unopened is there done failed =
    let all = subst (λ (t : Result Created X). IfOk t (λ m. (m ≡ created.Made) × IsOkAnd filled (λ g. Lasts (lasts g) × Appends (contents f) (contents g) bytes))) is fill in
    let whole = subst (λ (t : Result F E). IsOkAnd t (λ g. Lasts (lasts g) × Appends (contents f) (contents g) bytes)) there all.1 in
    ends_kept fresh (contents file) bytes (lasts file) Opened old new result (whole.0, appends_after fresh (contents f) (contents file) bytes kept whole.1) refl refl at done failed
