use Rattle.std.proofs.Common.{◌∙◌}
use Rattle.tinkey_actions.proofs.using.dseal.Goals as goal

pub returns : goal.returns
returns g c = λ w keys over. rw (c.as_slice.ensures ∙ c.in_ok-ad.ensures.bytes) at (c.dseal_plain.ensures w keys over)
