use Rattle.std.proofs.Common.{◌∙◌, sym, arith, ◌^◌}
use Rattle.tink_base.proofs.DecimalLemmas.{below_passes}
use Rattle.tinkey_words.specs.Rows.{offset_in}
use Rattle.tinkey_words.proofs.words.options.Options.offset.Goals as goal

pub returns-in-Some-clause-bound : goal.returns-in-Some-clause-bound
unfolding offset_in
returns-in-Some-clause-bound c =
    let passes = below_passes 19 (2 ^ 63) c.text.result.now c.in-Some.offset (sym c.offset_in.ensures ∙ c.in-Some.is) in
    omega (arith, passes.3, passes.4)
