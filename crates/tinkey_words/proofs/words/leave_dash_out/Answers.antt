use Rattle.std.proofs.Common.{◌≡◌, ◌∙◌, sym, ap, true, false, arith}
use Rattle.tinkey_words.specs.Words.{holds_dash, seen_values}
use Rattle.tinkey_words.proofs.WordLemmas.{dash_left, dash_kept}
use Rattle.tinkey_words.proofs.words.leave_dash_out.Goals as goal

pub returns-then-holds_dash : goal.returns-then-holds_dash
returns-then-holds_dash c =
    let there : holds_dash (seen_values c.args.given.now.values c.args.name) ≡ true = ap holds_dash (sym c.value.ensures) ∙ sym c.holds_dash.ensures ∙ c.if-holds_dash.true in
    rw c.erase.ensures.erased (dash_left c.args.name c.args.given.now.values c.place.result c.place.ensures.place (omega (arith, c.erase.ensures.size, c.place.ensures.within)) there)

pub returns-else-holds_dash : goal.returns-else-holds_dash
returns-else-holds_dash c =
    let none : holds_dash (seen_values c.args.given.now.values c.args.name) ≡ false = ap holds_dash (sym c.value.ensures) ∙ sym c.holds_dash.ensures ∙ c.if-holds_dash.false in
    dash_kept c.args.name (seen_values c.args.given.now.values) none
