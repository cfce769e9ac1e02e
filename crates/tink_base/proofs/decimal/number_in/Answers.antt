use Rattle.std.proofs.Common.{◌≡◌, ◌∙◌, sym, true, rules, tests, ◌^◌}
use Rattle.std.specs.Char.{is_ascii_digit}
use Rattle.std.proofs.lemmas.Iterator.Adapters.{YieldsList-from_bytes}
use Rattle.std.proofs.lemmas.Iterator.Search.{all_from_yields_List}
use Rattle.std.specs.Str.{all_ascii_digits}
use Rattle.tink_base.proofs.DecimalLemmas.{below_long, below_other, below_parsed, digits_all}
use Rattle.tink_base.specs.Decimal.{number_in}
use Rattle.tink_base.proofs.decimal.number_in.Goals as goal
use Rattle.tink_base.proofs.decimal.number_in.Goals.{then-text-gt-MOST_DIGITS-via-then-text-gt-MOST_DIGITS, then-text-gt-MOST_DIGITS-via-else-text-gt-MOST_DIGITS+then-not-all}

pub returns : goal.returns
unfolding number_in
returns c =
    let text = c.args.text.now in
    let all = all_from_yields_List is_ascii_digit _ _ c.all.result c.all.ensures.ran (YieldsList-from_bytes text cc) (λ x b q k. search (rules, tests)) in
    let digits : all_ascii_digits text ≡ true = sym (digits_all text) ∙ sym all ∙ c.if-not-all.false in
    c.ok.ensures.value ∙ below_parsed 10 32 text c.parse.result c.parse.ensures.value.0 c.if-text-gt-MOST_DIGITS.false digits

pub returns-then-text-gt-MOST_DIGITS : goal.returns-then-text-gt-MOST_DIGITS
unfolding number_in
returns-then-text-gt-MOST_DIGITS c = elim c.then-text-gt-MOST_DIGITS.branch [
  | then-text-gt-MOST_DIGITS-via-then-text-gt-MOST_DIGITS w ↦ sym (below_long 10 (2 ^ 32) c.args.text.now w.if-text-gt-MOST_DIGITS.true)
  | then-text-gt-MOST_DIGITS-via-else-text-gt-MOST_DIGITS+then-not-all w ↦
      let text = c.args.text.now in
      let all = all_from_yields_List is_ascii_digit _ _ w.all.result w.all.ensures.ran (YieldsList-from_bytes text cc) (λ x b q k. search (rules, tests)) in
      sym (below_other 10 (2 ^ 32) text (sym (digits_all text) ∙ sym all ∙ w.if-not-all.true))
]
