use Rattle.seal_wrap.proofs.SealedSizes.{dsealing-long, sealing-long}
use Rattle.seal_wrap.proofs.laws.sealings_fit.Goals as goal

pub returns : goal.returns
returns c = record { sealed = sealing-long; dsealed = dsealing-long }
