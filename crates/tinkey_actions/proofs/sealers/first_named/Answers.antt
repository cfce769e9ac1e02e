use Rattle.std.proofs.Common.{◌∙◌, ap, arith, sym, Some}
use Rattle.std.specs.Prelude.{option_map}
use Rattle.key_msgs.proofs.Finding.{find-end, find-passes_some, find-stops_some}
use Rattle.tinkey_plans.specs.Sealers.{told_record}
use Rattle.tinkey_plans.specs.Sealers.{stands_under}
use Rattle.tinkey_actions.proofs.sealers.first_named.Goals as goal

pub returns-then-stands_under : goal.returns-then-stands_under
returns-then-stands_under c =
    let found = find-stops_some (stands_under c.args.front.now) c.args.keyset.now.records c.loop-i.i c.record_at-key.result.now (sym c.record_at-key.ensures.record_there) (sym c.stands_under.ensures ∙ c.if-stands_under.true) in
    ap Some c.told_record.ensures ∙ sym (ap (option_map told_record) (c.loop-i.invariant ∙ found))

pub loop-i-preserved : goal.loop-i-preserved
loop-i-preserved c =
    c.loop-i.invariant ∙ find-passes_some (stands_under c.args.front.now) c.args.keyset.now.records c.loop-i.i c.record_at-key.result.now (sym c.record_at-key.ensures.record_there) (sym c.stands_under.ensures ∙ c.if-stands_under.false)

pub returns : goal.returns
returns c =
    sym (ap (option_map told_record) (c.loop-i.invariant ∙ find-end (stands_under c.args.front.now) c.args.keyset.now.records c.loop-i.i (omega arith)))
