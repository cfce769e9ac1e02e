-- Slices in order, with gaps where bytes serve nothing.
use Rattle.std.proofs.Common.{◌≡◌, ◌≢◌, inl, inr, refl, sym, ap, subst, ℕ, zero, suc, ◌+◌, ◌≤◌, List, [], ◌∷◌, ◌++◌, take, map, Some, arith}
use Rattle.std.specs.List.{slice_get}
use Rattle.std.proofs.lemmas.List.{drop-drop}
use Rattle.std.proofs.lemmas.List.Sums.{sum_by-cons}
use Rattle.std.proofs.lemmas.Option.{same_Some}
use Rattle.random_draws.proofs.PlaceLemmas.{Follow}
use Rattle.random_draws.specs.Runs.{AreInOrder, MovedAreSame, OrderedAreApart, moved_by}
use Rattle.random_draws.specs.Slices.{AreApart, Fill, Slice, placed, size_of, total}
use Rattle.tinkey_session.proofs.Options.{clash}

-- they end behind their first place
pub order-end : (place end : ℕ) (all : List Slice) → AreInOrder place all end → place ≤ end
order-end place end [] o = o
order-end place end (x ∷ later) o = let last = order-end (x.place + x.size) end later o.1 in let first = o.0 in omega (arith, first, last)

order-least : (place end i : ℕ) (all : List Slice) (d : Slice) → AreInOrder place all end → slice_get all i ≡ Some d → (place ≤ d.place) × (d.place + d.size ≤ end)
order-least place end i [] d o e = clash e
order-least place end zero (x ∷ later) d o e =
    let first = o.0 in
    let same = ap (λ y. y.place) (same_Some _ _ e) in
    let size = ap (λ y. y.size) (same_Some _ _ e) in
    let last = order-end (x.place + x.size) end later o.1 in
    (omega (arith, first, same), omega (arith, same, size, last))
order-least place end (suc i) (x ∷ later) d o e =
    let there = order-least (x.place + x.size) end i later d o.1 e in
    let first = o.0 in
    let least = there.0 in
    (omega (arith, first, least), there.1)

order-apart : (place end i j : ℕ) (all : List Slice) (d e : Slice) → AreInOrder place all end → slice_get all i ≡ Some d → slice_get all j ≡ Some e → i ≢ j → AreApart d e
order-apart place end i j [] d e o a b ne = clash a
order-apart place end zero zero (x ∷ later) d e o a b ne = absurd (ne refl)
order-apart place end zero (suc j) (x ∷ later) d e o a b ne =
    let behind = (order-least (x.place + x.size) end j later e o.1 b).0 in
    let same = ap (λ y. y.place + y.size) (same_Some _ _ a) in
    inl (omega (arith, behind, same))
order-apart place end (suc i) zero (x ∷ later) d e o a b ne =
    let behind = (order-least (x.place + x.size) end i later d o.1 a).0 in
    let same = ap (λ y. y.place + y.size) (same_Some _ _ b) in
    inr (omega (arith, behind, same))
order-apart place end (suc i) (suc j) (x ∷ later) d e o a b ne = order-apart (x.place + x.size) end i j later d e o.1 a b (λ same. ne (ap suc same))

pub ordered_are_apart : OrderedAreApart
ordered_are_apart = record { within = order-least; apart = order-apart }

-- they may begin earlier, and end later
pub order-wider : (least place end most : ℕ) (all : List Slice) → least ≤ place → end ≤ most → AreInOrder place all end → AreInOrder least all most
order-wider least place end most [] low high o = omega (arith, low, high, o)
order-wider least place end most (d ∷ later) low high o = (
  let first = o.0 in omega (arith, low, first),
  order-wider (d.place + d.size) (d.place + d.size) end most later (omega arith) high o.1,
)

pub order-append : (place mid end : ℕ) (xs ys : List Slice) → AreInOrder place xs mid → AreInOrder mid ys end → AreInOrder place (xs ++ ys) end
order-append place mid end [] ys one two = order-wider place mid end end ys one (omega arith) two
order-append place mid end (d ∷ later) ys one two = (one.0, order-append (d.place + d.size) mid end later ys one.1 two)

pub order-placed : (line place : ℕ) (filled : List Fill) → AreInOrder place (placed line place filled) (place + total filled)
unfolding placed
order-placed line place [] = omega arith
order-placed line place (f ∷ later) =
    let more = sum_by-cons (λ (g : Fill). g.size) f later in
    let end : place + f.size + total later ≤ place + total (f ∷ later) = omega (arith, more) in (
      omega arith,
      order-wider (place + f.size) (place + f.size) (place + f.size + total later) (place + total (f ∷ later)) (placed line (place + f.size) later) (omega arith) end (order-placed line (place + f.size) later),
    )

-- slices without a gap, where bytes stand in front of the stream
pub order-moved : (more place end : ℕ) (all : List Slice) → Follow place all → place + size_of all ≤ end → AreInOrder (more + place) (map (moved_by more) all) (more + end)
unfolding Follow
order-moved more place end [] f le = omega (arith, le)
order-moved more place end (d ∷ later) f le =
    let at = f.0 in
    let size = sum_by-cons (λ (x : Slice). x.size) d later in
    let there : more + (place + d.size) ≡ more + d.place + d.size = omega (arith, at) in (
      omega (arith, at),
      subst (λ n. AreInOrder n (map (moved_by more) later) (more + end)) there (order-moved more (place + d.size) end later f.1 (omega (arith, le, size))),
    )

pub moved_are_same : MovedAreSame
moved_are_same more d stream = ap (take d.size) (sym (drop-drop d.place more stream))
