use Rattle.std.proofs.Common.{◌∙◌}
use Rattle.tinkey_actions.proofs.UseLemmas.{opened_passes}
use Rattle.tinkey_actions.proofs.enveloping.open_envelope.Goals as goal

pub returns-in-Ok : goal.returns-in-Ok
returns-in-Ok g c = λ w keys row over same. opened_passes _ _ _ _ _ w w _ same (rw (c.as_slice.ensures ∙ c.in_ok-ad.ensures.bytes) at (c.in-Ok.ensures keys over)) (c.or_failed.ensures w)
