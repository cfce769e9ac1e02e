use Rattle.std.proofs.Common.{◌∙◌, sym, ap, arith, drop, ◌+◌}
use Rattle.segment_stream.proofs.KeysLemmas.{largest_from, largest_last, largest_next}
use Rattle.segment_stream.proofs.keys.largest_of.Goals as goal

pub loop-key-preserved : goal.loop-key-preserved
loop-key-preserved c =
    ap (λ n. largest_from n (drop (c.loop-key.key-index + 1) c.args.keys.now))
    c.max-largest.ensures
    ∙ sym (largest_next c.args.keys.now c.loop-key.key-index c.key-item.result
    c.loop-key.largest (omega (arith, c.loop-key-test.true)) c.key-item.is)
    ∙ c.loop-key.invariant

pub returns : goal.returns
returns c =
    sym (largest_last c.args.keys.now c.loop-key.key-index c.loop-key.largest
    (omega (arith, c.loop-key-test.false)))
    ∙ c.loop-key.invariant
