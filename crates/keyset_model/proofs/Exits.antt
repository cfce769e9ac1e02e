-- The first of a list of faults, where those before it are none.
use Rattle.std.proofs.Common.{◌≡◌, ◌∙◌, ℕ, ◌<◌, ◌≤◌, nat_lt, Bool, true, false, List, [], ◌∷◌, Option, Some, None, option_map, refl, sym, ap}
use Rattle.std.specs.Option.{option_or}
use Rattle.std.proofs.lemmas.Bool.{lt-ltb, le-ltb}
use Rattle.keyset_model.specs.Keyset.{first_some, when}

pub here : {A : Type 0} {o : Option A} (later : List (Option A)) {f : A} → Some f ≡ o → Some f ≡ first_some (o ∷ later)
unfolding first_some
here later e = ap (λ x. option_or x (first_some later)) e

pub on : {A : Type 0} {o r : Option A} (later : List (Option A)) → None ≡ o → r ≡ first_some later → r ≡ first_some (o ∷ later)
unfolding first_some
on later e k = k ∙ ap (λ x. option_or x (first_some later)) e

pub end : {A : Type 0} → None ≡ first_some {A = A} []
unfolding first_some
end = refl

pub holds : {A : Type 0} {b : Bool} (f : A) → true ≡ b → Some f ≡ when b f
unfolding when
holds f e = ap (λ b. when b f) e

pub fails : {A : Type 0} {b : Bool} (f : A) → false ≡ b → None ≡ when b f
unfolding when
fails f e = ap (λ b. when b f) e

pub more : {A : Type 0} (n : ℕ) (f : A) → 1000 < n → Some f ≡ when (nat_lt 1000 n) f
more n f l = holds f (sym (lt-ltb 1000 n l))

pub fewer : {A : Type 0} (n : ℕ) (f : A) → n ≤ 1000 → None ≡ when (nat_lt 1000 n) f
fewer n f l = fails f (sym (le-ltb 1000 n l))

pub at : {A B : Type 0} {p : Option A} {i : A} (g : A → B) → Some i ≡ p → Some (g i) ≡ option_map g p
at g e = ap (option_map g) e

pub nowhere : {A B : Type 0} {p : Option A} (g : A → B) → None ≡ p → None ≡ option_map g p
nowhere g e = ap (option_map g) e
