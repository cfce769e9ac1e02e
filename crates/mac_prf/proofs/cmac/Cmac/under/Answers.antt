-- Nothing is chained, and nothing held.
use Rattle.std.proofs.Common.{[], refl}
use Rattle.aes_core.specs.Chain.{chained, whole_blocks}
use Rattle.mac_prf.proofs.cmac.Cmac.under.Goals as goal

pub returns : goal.returns
unfolding chained whole_blocks
returns c = record {
  keeps = record {
    front = [];
    under = refl;
    parts = refl;
    whole = refl;
    room = refl;
    value = refl;
  };
  some = λ e. refl;
}
