use Rattle.std.proofs.Common.{◌≡◌, ℕ, ◌+◌, ◌-◌, ◌<◌, ◌≤◌, true, false, List, ◌∷◌, refl, sym, ap, ◌∙◌, arith}
use Rattle.std.specs.Prelude.{◌&&◌}
use Rattle.std.proofs.lemmas.Bool.{lt-ltb, le-ltb}
use Rattle.keyset_json.specs.declared.nesting.Quoting.{Quoting}
use Rattle.keyset_json.specs.Nesting.{opens, closes, is_outside, next, nests_within, most_levels}
use Rattle.keyset_json.proofs.nesting.Levels.after.Goals as goal

opened : (most level : ℕ) (q : Quoting) (x : ℕ) (xs : List ℕ) → true ≡ (is_outside q && opens x) → level < most → nests_within most level q (x ∷ xs) ≡ nests_within most (level + 1) (next q x) xs
unfolding nests_within
opened most level q x xs o small = rw (← o, lt-ltb level most small) refl

too_many : (most level : ℕ) (q : Quoting) (x : ℕ) (xs : List ℕ) → true ≡ (is_outside q && opens x) → most ≤ level → nests_within most level q (x ∷ xs) ≡ false
unfolding nests_within
too_many most level q x xs o full = rw (← o, le-ltb level most full) refl

closed : (most level : ℕ) (q : Quoting) (x : ℕ) (xs : List ℕ) → false ≡ (is_outside q && opens x) → true ≡ (is_outside q && closes x) → nests_within most level q (x ∷ xs) ≡ nests_within most (level - 1) (next q x) xs
unfolding nests_within
closed most level q x xs o c = rw (← o, ← c) refl

passed : (most level : ℕ) (q : Quoting) (x : ℕ) (xs : List ℕ) → false ≡ (is_outside q && opens x) → false ≡ (is_outside q && closes x) → nests_within most level q (x ∷ xs) ≡ nests_within most level (next q x) xs
unfolding nests_within
passed most level q x xs o c = rw (← o, ← c) refl

-- what is behind the byte goes by the level and by how the next one stands
same : (most : ℕ) (l m : ℕ) (q r : Quoting) (xs : List ℕ) → l ≡ m → q ≡ r → nests_within most l q xs ≡ nests_within most m r xs
same most l m q r xs e f = ap (λ k. nests_within most k q xs) e ∙ ap (λ p. nests_within most m p xs) f

pub returns-then-level-lt-MOST-clause-goes_on : goal.returns-then-level-lt-MOST-clause-goes_on
returns-then-level-lt-MOST-clause-goes_on c xs =
    opened most_levels c.args.self.level c.args.self.quoting c.args.byte xs (sym c.if-opens.true ∙ c.opens.ensures) (omega arith)
    ∙ same most_levels _ _ _ _ xs refl (sym c.next-quoting.ensures)

pub returns-else-level-lt-MOST-clause-goes_on : goal.returns-else-level-lt-MOST-clause-goes_on
returns-else-level-lt-MOST-clause-goes_on c xs =
    too_many most_levels c.args.self.level c.args.self.quoting c.args.byte xs (sym c.if-opens.true ∙ c.opens.ensures) (omega arith)

pub returns-then-closes-clause-goes_on : goal.returns-then-closes-clause-goes_on
returns-then-closes-clause-goes_on c xs =
    closed most_levels c.args.self.level c.args.self.quoting c.args.byte xs (sym c.if-opens.false ∙ c.opens.ensures) (sym c.if-closes.true ∙ c.closes.ensures)
    ∙ same most_levels _ _ _ _ xs (sym c.saturating_sub.ensures) (sym c.next-quoting.ensures)

pub returns-else-closes-clause-goes_on : goal.returns-else-closes-clause-goes_on
returns-else-closes-clause-goes_on c xs =
    passed most_levels c.args.self.level c.args.self.quoting c.args.byte xs (sym c.if-opens.false ∙ c.opens.ensures) (sym c.if-closes.false ∙ c.closes.ensures)
    ∙ same most_levels _ _ _ _ xs refl (sym c.next-quoting.ensures)
