use Rattle.std.proofs.Common.{◌≤◌, length, arith, sym}
use Rattle.std.proofs.lemmas.Option.{slice_get_past, slice_get-get_or}
use Rattle.key_msgs.specs.Templates.{templates}
use Rattle.key_msgs.proofs.template.template_at.Goals as goal

pub returns-then-row-lt-TEMPLATE_COUNT : goal.returns-then-row-lt-TEMPLATE_COUNT
returns-then-row-lt-TEMPLATE_COUNT c = sym (slice_get-get_or templates c.args.row _ (omega arith))

pub returns-else-row-lt-TEMPLATE_COUNT : goal.returns-else-row-lt-TEMPLATE_COUNT
returns-else-row-lt-TEMPLATE_COUNT c =
    let past : length templates ≤ c.args.row = omega arith in
    sym (slice_get_past templates c.args.row past)
