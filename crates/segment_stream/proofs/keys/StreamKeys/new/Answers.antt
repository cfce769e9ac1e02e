use Rattle.std.proofs.Common.{◌≤◌, List, subst, sym}
use Rattle.segment_stream.specs.StreamKeys.{largest_of}
use Rattle.segment_stream.specs.declared.key.StreamKey.{StreamKey}
use Rattle.segment_stream.proofs.KeysLemmas.{primary-within, primary_is}
use Rattle.segment_stream.proofs.keys.StreamKeys.new.Goals as goal

pub returns-in-Ok-clause-keys : goal.returns-in-Ok-clause-keys
returns-in-Ok-clause-keys c = (
  c.in_ok-keys.ensures.keys,
  primary_is c.args.keyset.now c.primary_record.result.now c.in-Ok.primary
      c.primary_record.ensures.primary c.in-Ok.ensures.key,
)

pub invariant_of-result : goal.invariant_of-result
invariant_of-result c = (
  c.in-Ok.ensures.sound,
  c.in_ok-keys.ensures.sound,
  subst (λ (l : List StreamKey). c.in-Ok.primary.segment ≤ largest_of l)
      (sym c.in_ok-keys.ensures.keys)
      (primary-within c.args.keyset.now c.primary_record.result.now c.in-Ok.primary
      c.primary_record.ensures.primary c.primary_record.ensures.enabled c.in-Ok.ensures.key),
)
