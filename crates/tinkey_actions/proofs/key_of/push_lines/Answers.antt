use Rattle.std.proofs.Common.{arith, take, ◌≡◌}
use Rattle.std.proofs.lemmas.List.{take_all}
use Rattle.tinkey_plans.specs.KeyOf.{key_line}
use Rattle.tinkey_plans.specs.Sealers.{stands_under}
use Rattle.tinkey_actions.proofs.KeyOfLemmas.{told_next}
use Rattle.tinkey_actions.proofs.key_of.push_lines.Goals as goal

pub loop-i-preserved : goal.loop-i-preserved
loop-i-preserved c =
    let more = told_next key_line (stands_under c.args.front.now) c.args.out.now.items c.args.keyset.now.records c.loop-i.i c.record_at.result.now c.record_at.ensures.record_there in
    cc (more, c.in_ok-push_under.ensures)

pub returns : goal.returns
returns c =
    let k = c.args.keyset.now in
    let all : take c.loop-i.i k.records ≡ k.records = take_all c.loop-i.i k.records (omega arith) in
    cc (all)
