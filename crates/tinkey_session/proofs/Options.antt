-- What there is of an option, a result or a reply.
use Rattle.std.proofs.Common.{◌≡◌, refl, sym, Option, Some, None, Result, Ok, Err, option_map, false, true}
use Rattle.std.specs.Option.{option_and_then}
use Rattle.std.specs.Result.{result_err}
use Rattle.std.proofs.lemmas.Option.{same_Some}

pub clash : {X P : Type 0} {x : X} → None ≡ Some x → P
clash h = absurd cc

pub no_truth : {P : Type 0} → false ≡ true → P
no_truth h = absurd cc

-- what is mapped was there
pub map_some : {A B : Type 0} (f : A → B) (o : Option A) (y : B) → option_map f o ≡ Some y → (x : A) × (o ≡ Some x) × (f x ≡ y)
map_some f None y e = clash e
map_some f (Some x) y e = (x, refl, same_Some _ _ e)

-- and what stands before a next step
pub then_some : {A B : Type 0} (f : A → Option B) (o : Option A) (y : B) → option_and_then f o ≡ Some y → (x : A) × (o ≡ Some x) × (f x ≡ Some y)
then_some f None y e = clash e
then_some f (Some x) y e = (x, refl, e)

-- a result without an error
pub ok_there : {A E : Type 0} (r : Result A E) → result_err r ≡ None → (x : A) × (r ≡ Ok x)
ok_there (Ok x) e = (x, refl)
ok_there (Err fault) e = clash (sym e)
