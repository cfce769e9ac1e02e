use Rattle.std.proofs.Common.{ap, ◌+◌, ◌%◌, ◌^◌, ◌∙◌}
use Rattle.std.specs.Int.{w128, to_be_bytes}
use Rattle.aes_core.specs.Counter.{counter_plus}
use Rattle.mac_prf.proofs.cmac.counter_after.Goals as goal

pub returns : goal.returns
unfolding counter_plus
returns c =
    c.to_be_bytes.ensures
    ∙ ap (λ n. to_be_bytes w128 ((n + c.args.steps) % 2 ^ 128)) c.from_be_bytes.ensures
