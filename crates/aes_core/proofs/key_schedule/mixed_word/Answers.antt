use Rattle.std.proofs.Common.{drop, sym, ap, ◌∙◌, arith}
use Rattle.aes_core.specs.Nibbles.{four_times}
use Rattle.aes_core.proofs.KeySchedule.{mixed_alone, mixed_long, mixed_short, substituted_last}
use Rattle.aes_core.proofs.key_schedule.mixed_word.Goals as goal

pub returns-then-blocks-eq1 : goal.returns-then-blocks-eq1
returns-then-blocks-eq1 c =
    c.rotated.ensures
    ∙ ap four_times (sym (mixed_short c.args.blocks c.args.round (drop 12 c.args.before)
    c.if-blocks-eq1.true))

pub returns-then-round-eq0 : goal.returns-then-round-eq0
returns-then-round-eq0 c =
    c.rotated-then-round-eq0.ensures
    ∙ ap four_times (sym (mixed_long c.args.blocks c.args.round (drop 12 c.args.before)
    (omega arith) c.if-round-eq0.true))

pub returns : goal.returns
returns c =
    substituted_last c.args.before c.substituted.result c.fits-before.0 c.substituted.ensures
    ∙ ap four_times (sym (mixed_alone c.args.blocks c.args.round (drop 12 c.args.before)
    (omega arith) c.if-round-eq0.false))
