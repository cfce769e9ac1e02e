use Rattle.std.proofs.Common.{◌≡◌, ℕ, true, [], refl, sym, ap, ◌∙◌, arith}
use Rattle.std.proofs.lemmas.List.{drop_all}
use Rattle.keyset_json.specs.declared.nesting.Quoting.{Quoting}
use Rattle.keyset_json.specs.Nesting.{nests_within, is_shallow, most_levels}
use Rattle.keyset_json.proofs.nesting.is_shallow.Goals as goal

none_left : (most level : ℕ) (q : Quoting) → nests_within most level q [] ≡ true
unfolding nests_within
none_left most level q = refl

pub loop-byte-init : goal.loop-byte-init
unfolding is_shallow
loop-byte-init c = (omega arith, refl)

pub returns : goal.returns
returns c =
    sym (c.loop-byte.invariant.1
    ∙ ap (nests_within most_levels c.loop-byte.levels.level c.loop-byte.levels.quoting) (drop_all c.loop-byte.byte-index c.args.text.now (omega arith))
    ∙ none_left most_levels c.loop-byte.levels.level c.loop-byte.levels.quoting)
