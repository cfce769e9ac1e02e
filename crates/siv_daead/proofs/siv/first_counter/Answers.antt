-- The counter is the SIV with two bits cleared.
use Rattle.std.proofs.Common.{ap, ◌∙◌}
use Rattle.std.specs.Prelude.{bit_and}
use Rattle.std.specs.Int.{w128, to_be_bytes}
use Rattle.siv_daead.specs.Siv.{kept_bits}
use Rattle.siv_daead.proofs.siv.first_counter.Goals as goal

pub returns : goal.returns
returns c =
    c.to_be_bytes.ensures
    ∙ ap (λ n. to_be_bytes w128 (bit_and n kept_bits)) c.from_be_bytes.ensures
