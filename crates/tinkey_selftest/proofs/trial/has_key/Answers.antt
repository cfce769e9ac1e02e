use Rattle.std.proofs.Common.{◌∙◌, sym, ap, drop}
use Rattle.std.specs.Prelude.{◌+◌, ◌||◌}
use Rattle.std.specs.List.{list_any}
use Rattle.tinkey_selftest.proofs.DrawnLemmas.{any_next}
use Rattle.tinkey_selftest.specs.Trial.{is_same_key}
use Rattle.tinkey_selftest.proofs.trial.has_key.Goals as goal

pub returns-then-is_same_key : goal.returns-then-is_same_key
returns-then-is_same_key c =
    sym (c.loop-i.invariant
    ∙ any_next (is_same_key c.args.sealer.now) c.args.keyset.now.records c.loop-i.i c.record_at.result.now c.is_same_key.result c.record_at.ensures.record_there c.is_same_key.ensures
    ∙ ap (λ b. b || list_any (is_same_key c.args.sealer.now) (drop (c.loop-i.i + 1) c.args.keyset.now.records)) c.if-is_same_key.true)

pub loop-i-preserved : goal.loop-i-preserved
loop-i-preserved c =
    c.loop-i.invariant
    ∙ any_next (is_same_key c.args.sealer.now) c.args.keyset.now.records c.loop-i.i c.record_at.result.now c.is_same_key.result c.record_at.ensures.record_there c.is_same_key.ensures
    ∙ ap (λ b. b || list_any (is_same_key c.args.sealer.now) (drop (c.loop-i.i + 1) c.args.keyset.now.records)) c.if-is_same_key.false
