-- Slices that stand one behind the other without a gap.
use Rattle.std.proofs.Common.{◌≡◌, ◌≢◌, ◌∙◌, inl, inr, refl, sym, ap, subst, ℕ, zero, suc, ◌+◌, ◌≤◌, List, [], ◌∷◌, ◌++◌, take, Some, arith}
use Rattle.std.specs.List.{slice_get}
use Rattle.std.proofs.lemmas.List.Sums.{sum_by-append, sum_by-cons}
use Rattle.std.proofs.lemmas.Option.{same_Some}
use Rattle.random_draws.specs.Slices.{AreApart, Slice, Fill, IsIn, size_of, placed, total}
use Rattle.tinkey_session.proofs.Options.{clash}

-- each behind the one before, the first one at this place
unfoldable pub Follow : ℕ → List Slice → Type 0
Follow place [] = Unit {0}
Follow place (d ∷ later) = (d.place ≡ place) × Follow (place + d.size) later

size_of-cons : (d : Slice) (later : List Slice) → size_of (d ∷ later) ≡ d.size + size_of later
size_of-cons d later = sum_by-cons (λ x. x.size) d later

pub size_of-append : (xs ys : List Slice) → size_of (xs ++ ys) ≡ size_of xs + size_of ys
size_of-append xs ys = sum_by-append (λ x. x.size) xs ys

pub size_of-placed : (line place : ℕ) (fs : List Fill) → size_of (placed line place fs) ≡ total fs
unfolding placed
size_of-placed line place [] = refl
size_of-placed line place (f ∷ later) =
    size_of-cons (record { line = line; purpose = f.purpose; place = place; size = f.size }) (placed line (place + f.size) later)
    ∙ ap (λ n. f.size + n) (size_of-placed line (place + f.size) later)
    ∙ sym (sum_by-cons (λ g. g.size) f later)

pub follow-placed : (line place : ℕ) (fs : List Fill) → Follow place (placed line place fs)
unfolding Follow placed
follow-placed line place [] = tt
follow-placed line place (f ∷ later) = (refl, follow-placed line (place + f.size) later)

pub follow-nothing : (place : ℕ) → Follow place []
unfolding Follow
follow-nothing place = tt

pub follow-append : (place : ℕ) (xs ys : List Slice) → Follow place xs → Follow (place + size_of xs) ys → Follow place (xs ++ ys)
unfolding Follow
follow-append place [] ys one two = subst (λ n. Follow n ys) (omega arith) two
follow-append place (d ∷ later) ys one two = (
  one.0,
  follow-append (place + d.size) later ys one.1 (subst (λ n. Follow n ys) (let more = size_of-cons d later in omega (arith, more)) two),
)

-- where the i-th one stands
pub follow-place : (place : ℕ) (ds : List Slice) (i : ℕ) (d : Slice) → Follow place ds → slice_get ds i ≡ Some d → d.place ≡ place + size_of (take i ds)
unfolding Follow
follow-place place [] i d f e = clash e
follow-place place (x ∷ later) zero d f e = let at = f.0 in let same = ap (λ y. y.place) (same_Some _ _ e) in omega (arith, at, same)
follow-place place (x ∷ later) (suc i) d f e =
    let there = follow-place (place + x.size) later i d f.1 e in
    let more = size_of-cons x (take i later) in
    omega (arith, there, more)

-- it is within them
pub follow-within : (place : ℕ) (ds : List Slice) (i : ℕ) (d : Slice) → Follow place ds → slice_get ds i ≡ Some d → (place ≤ d.place) × (d.place + d.size ≤ place + size_of ds)
unfolding Follow
follow-within place [] i d f e = clash e
follow-within place (x ∷ later) zero d f e =
    let at = f.0 in let same = ap (λ y. y.place) (same_Some _ _ e) in let size = ap (λ y. y.size) (same_Some _ _ e) in let more = size_of-cons x later in
    (omega (arith, at, same), omega (arith, at, same, size, more))
follow-within place (x ∷ later) (suc i) d f e =
    let there = follow-within (place + x.size) later i d f.1 e in
    let least = there.0 in
    let most = there.1 in
    let more = size_of-cons x later in
    (omega (arith, least), omega (arith, most, more))

-- a byte is in one of them at the most
pub follow-apart : (place : ℕ) (ds : List Slice) (i j at : ℕ) (d e : Slice) → Follow place ds → slice_get ds i ≡ Some d → slice_get ds j ≡ Some e → IsIn d at → IsIn e at → i ≡ j
unfolding Follow
follow-apart place [] i j at d e f a b p q = clash a
follow-apart place (x ∷ later) zero zero at d e f a b p q = refl
follow-apart place (x ∷ later) zero (suc j) at d e f a b p q =
    let behind = (follow-within (place + x.size) later j e f.1 b).0 in
    let start = f.0 in
    let same = ap (λ y. y.place) (same_Some _ _ a) in
    let size = ap (λ y. y.size) (same_Some _ _ a) in
    let below = p.1 in
    let above = q.0 in
    absurd (omega (arith, behind, start, same, size, below, above))
follow-apart place (x ∷ later) (suc i) zero at d e f a b p q =
    let behind = (follow-within (place + x.size) later i d f.1 a).0 in
    let start = f.0 in
    let same = ap (λ y. y.place) (same_Some _ _ b) in
    let size = ap (λ y. y.size) (same_Some _ _ b) in
    let below = q.1 in
    let above = p.0 in
    absurd (omega (arith, behind, start, same, size, below, above))
follow-apart place (x ∷ later) (suc i) (suc j) at d e f a b p q = ap suc (follow-apart (place + x.size) later i j at d e f.1 a b p q)

-- two of them have no byte in common
pub follow-order : (place : ℕ) (ds : List Slice) (i j : ℕ) (d e : Slice) → Follow place ds → slice_get ds i ≡ Some d → slice_get ds j ≡ Some e → i ≢ j → AreApart d e
unfolding Follow
follow-order place [] i j d e f a b ne = clash a
follow-order place (x ∷ later) zero zero d e f a b ne = absurd (ne refl)
follow-order place (x ∷ later) zero (suc j) d e f a b ne =
    let behind = (follow-within (place + x.size) later j e f.1 b).0 in
    let start = f.0 in
    let same = ap (λ y. y.place) (same_Some _ _ a) in
    let size = ap (λ y. y.size) (same_Some _ _ a) in
    inl (omega (arith, behind, start, same, size))
follow-order place (x ∷ later) (suc i) zero d e f a b ne =
    let behind = (follow-within (place + x.size) later i d f.1 a).0 in
    let start = f.0 in
    let same = ap (λ y. y.place) (same_Some _ _ b) in
    let size = ap (λ y. y.size) (same_Some _ _ b) in
    inr (omega (arith, behind, start, same, size))
follow-order place (x ∷ later) (suc i) (suc j) d e f a b ne = follow-order (place + x.size) later i j d e f.1 a b (λ same. ne (ap suc same))

pub placed-append : (line place : ℕ) (xs ys : List Fill) → placed line place (xs ++ ys) ≡ placed line place xs ++ placed line (place + total xs) ys
unfolding placed
placed-append line place [] ys = ap (λ n. placed line n ys) (omega arith)
placed-append line place (f ∷ xs) ys =
    let more = sum_by-cons (λ (g : Fill). g.size) f xs in
    let same : place + f.size + total xs ≡ place + total (f ∷ xs) = omega (arith, more) in
    ap (λ ds. record { line = line; purpose = f.purpose; place = place; size = f.size } ∷ ds)
    (placed-append line (place + f.size) xs ys ∙ ap (λ n. placed line (place + f.size) xs ++ placed line n ys) same)
