use Rattle.std.proofs.Common.{◌≡◌, ◌∙◌, sym, true, arith, rules, tests, ◌^◌}
use Rattle.std.specs.Char.{is_ascii_digit}
use Rattle.std.proofs.lemmas.Iterator.Adapters.{YieldsList-from_bytes}
use Rattle.std.proofs.lemmas.Iterator.Search.{all_from_yields_List}
use Rattle.std.specs.Str.{all_ascii_digits}
use Rattle.tink_base.proofs.DecimalLemmas.{below_kept, below_long, below_other, below_past, below_unparsed, digits_all}
use Rattle.tinkey_words.specs.Rows.{offset_in}
use Rattle.tinkey_words.proofs.words.rows.offset_in.Goals as goal
use Rattle.tinkey_words.proofs.words.rows.offset_in.Goals.{then-text-gt-MOST_OFFSET_DIGITS-via-then-text-gt-MOST_OFFSET_DIGITS, then-text-gt-MOST_OFFSET_DIGITS-via-else-text-gt-MOST_OFFSET_DIGITS+then-not-all}

pub returns-then-text-gt-MOST_OFFSET_DIGITS : goal.returns-then-text-gt-MOST_OFFSET_DIGITS
unfolding offset_in
returns-then-text-gt-MOST_OFFSET_DIGITS c = elim c.then-text-gt-MOST_OFFSET_DIGITS.branch [
  | then-text-gt-MOST_OFFSET_DIGITS-via-then-text-gt-MOST_OFFSET_DIGITS w ↦ sym (below_long 19 (2 ^ 63) c.args.text.now w.if-text-gt-MOST_OFFSET_DIGITS.true)
  | then-text-gt-MOST_OFFSET_DIGITS-via-else-text-gt-MOST_OFFSET_DIGITS+then-not-all w ↦
      let text = c.args.text.now in
      let all = all_from_yields_List is_ascii_digit _ _ w.all.result w.all.ensures.ran (YieldsList-from_bytes text cc) (λ x b q k. search (rules, tests)) in
      sym (below_other 19 (2 ^ 63) text (sym (digits_all text) ∙ sym all ∙ w.if-not-all.true))
]

pub returns-in-Ok : goal.returns-in-Ok
unfolding offset_in
returns-in-Ok c =
    let text = c.args.text.now in
    let all = all_from_yields_List is_ascii_digit _ _ c.all.result c.all.ensures.ran (YieldsList-from_bytes text cc) (λ x b q k. search (rules, tests)) in
    let digits : all_ascii_digits text ≡ true = sym (digits_all text) ∙ sym all ∙ c.if-not-all.false in
    below_kept 19 64 (2 ^ 63) text c.parse.result c.in-Ok.offset c.parse.ensures.value.0 digits c.in-Ok.is (omega (arith, c.if-offset-le-MOST_OFFSET.true)) c.if-text-gt-MOST_OFFSET_DIGITS.false

pub returns-in_default : goal.returns-in_default
unfolding offset_in
returns-in_default c =
    let text = c.args.text.now in
    let all = all_from_yields_List is_ascii_digit _ _ c.all.result c.all.ensures.ran (YieldsList-from_bytes text cc) (λ x b q k. search (rules, tests)) in
    let digits : all_ascii_digits text ≡ true = sym (digits_all text) ∙ sym all ∙ c.if-not-all.false in
    sym (below_past 19 64 (2 ^ 63) text c.parse.result c.in-Ok.offset c.parse.ensures.value.0 digits c.in-Ok.is (omega (arith, c.if-offset-le-MOST_OFFSET.false)))

pub returns-in_default-2 : goal.returns-in_default-2
unfolding offset_in
returns-in_default-2 c =
    let text = c.args.text.now in
    let all = all_from_yields_List is_ascii_digit _ _ c.all.result c.all.ensures.ran (YieldsList-from_bytes text cc) (λ x b q k. search (rules, tests)) in
    let digits : all_ascii_digits text ≡ true = sym (digits_all text) ∙ sym all ∙ c.if-not-all.false in
    sym (below_unparsed 19 64 (2 ^ 63) text c.parse.result c.in_default.field-0 c.parse.ensures.value.0 digits c.in_default.is (omega arith))
