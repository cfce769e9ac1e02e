use Rattle.aead_kinds.proofs.EaxLemmas.{eax-opened, eax-opens}
use Rattle.aead_kinds.proofs.laws.eax_opens_sealings.Goals as goal

pub returns : goal.returns
returns c = λ key v bytes plain ad. (eax-opened key v bytes plain ad, eax-opens key v bytes plain ad)
