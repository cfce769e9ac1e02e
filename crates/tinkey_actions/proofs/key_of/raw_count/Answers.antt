use Rattle.std.proofs.Common.{◌∙◌, ap, arith, sym, ◌+◌, ℕ, length, take}
use Rattle.std.proofs.lemmas.List.{take_all}
use Rattle.std.specs.Prelude.{filter}
use Rattle.keyset_model.specs.declared.record.Record.{Record}
use Rattle.wrapped_prims.specs.Candidates.{is_raw}
use Rattle.tinkey_actions.proofs.KeyOfLemmas.{count_next}
use Rattle.tinkey_actions.proofs.key_of.raw_count.Goals as goal

pub loop-i-preserved : goal.loop-i-preserved
loop-i-preserved c =
    let next = count_next is_raw c.args.keyset.now.records c.loop-i.i c.record_at.result.now c.record_at.ensures.record_there in
    let counts = c.loop-i.invariant.counts in
    let one = c.raw_one-count.ensures.count in
    record {
      counts = cc (next, counts, one);
      most = omega arith;
    }
