use Rattle.std.proofs.Common.{ap, ◌∙◌}
use Rattle.siv_daead.specs.Siv.{siv_open}
use Rattle.siv_daead.proofs.SivLemmas.{opened-sealed, sealed-opened}
use Rattle.siv_daead.proofs.laws.siv_opens_sealings.Goals as goal

pub returns : goal.returns
returns c = λ key bytes plain ad. (
  opened-sealed key bytes plain ad,
  λ e. ap (λ l. siv_open key l ad) e ∙ sealed-opened key plain ad,
)
