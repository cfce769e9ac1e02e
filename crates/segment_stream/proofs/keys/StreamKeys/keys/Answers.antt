use Rattle.std.proofs.Common.{List, ap, ◌∙◌}
use Rattle.segment_stream.specs.StreamKeys.{largest_of}
use Rattle.segment_stream.specs.declared.key.StreamKey.{StreamKey}
use Rattle.segment_stream.proofs.KeysLemmas.{all-within}
use Rattle.segment_stream.proofs.keys.StreamKeys.keys.Goals as goal

pub returns-clause-within : goal.returns-clause-within
returns-clause-within c =
    all-within c.deref.result.now 0 (largest_of c.args.self.now.keys)
    (ap (λ (l : List StreamKey). largest_of l) c.deref.ensures.value
    ∙ ap (λ s. largest_of s.keys) c.self.view_is)
