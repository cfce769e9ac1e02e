use Rattle.std.proofs.Common.{◌∙◌}
use Rattle.tinkey_actions.proofs.UseLemmas.{opened_passes}
use Rattle.tinkey_actions.proofs.using.dopen.Goals as goal

pub returns : goal.returns
returns g c = λ w keys over same. opened_passes _ _ _ _ _ w w _ same (rw (c.as_slice.ensures ∙ c.in_ok-ad.ensures.bytes) at (c.dopen_in_place-opened.ensures.opened keys over)) (c.or_failed.ensures w)
