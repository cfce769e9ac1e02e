-- By the refusals, in order.
use Rattle.std.proofs.Common.{◌≤◌, ◌<◌, length, sym, arith}
use Rattle.key_msgs.specs.Templates.{seen}
use Rattle.tinkey_cmds.proofs.Applications.{full-refused, mixed-refused, none-refused, template-test}
use Rattle.tinkey_cmds.proofs.applying.full_or_mixed.Goals as goal

pub returns-then-len-ge-MOST_RECORDS-clause-fault : goal.returns-then-len-ge-MOST_RECORDS-clause-fault
returns-then-len-ge-MOST_RECORDS-clause-fault c = let many : 1000 ≤ length c.args.keyset.now.records = omega (arith, c.len.ensures.count, c.if-len-ge-MOST_RECORDS.true) in
    sym (full-refused c.args.keyset.now (seen c.args.template.now) many)

pub returns-then-not-is_same-clause-fault : goal.returns-then-not-is_same-clause-fault
returns-then-not-is_same-clause-fault c = let few : length c.args.keyset.now.records < 1000 = omega (arith, c.len.ensures.count, c.if-len-ge-MOST_RECORDS.false) in
    sym (mixed-refused c.args.keyset.now (seen c.args.template.now) few (template-test c.args.keyset.now (seen c.args.template.now) _ _ _ _ c.primary_primitive.ensures c.primitive.ensures c.is_same.ensures c.if-not-is_same.true))

pub returns-clause-fault : goal.returns-clause-fault
returns-clause-fault c = let few : length c.args.keyset.now.records < 1000 = omega (arith, c.len.ensures.count, c.if-len-ge-MOST_RECORDS.false) in
    sym (none-refused c.args.keyset.now (seen c.args.template.now) few (template-test c.args.keyset.now (seen c.args.template.now) _ _ _ _ c.primary_primitive.ensures c.primitive.ensures c.is_same.ensures c.if-not-is_same.false))
