use Rattle.std.proofs.Common.{◌∙◌, map, ap, arith}
use Rattle.std.proofs.lemmas.List.{take_all}
use Rattle.keyset_json.specs.Writing.{key_value}
use Rattle.keyset_json.proofs.WritingLemmas.{value_push}
use Rattle.keyset_json.proofs.writing.key_values.Goals as goal

pub loop-i-preserved : goal.loop-i-preserved
loop-i-preserved c =
    rw c.in_ok-push.ensures.items
    (value_push c.loop-i.values.items _ c.args.keyset.now.records c.loop-i.i _ c.loop-i.invariant c.record_at.ensures.record_there c.in_ok-value.ensures)

pub returns : goal.returns
returns c = c.loop-i.invariant ∙ ap (map key_value) (take_all c.loop-i.i c.args.keyset.now.records (omega arith))
