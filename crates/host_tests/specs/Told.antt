-- Streams of the tests that tell their bytes at each moment.
use Rattle.std.proofs.Common.{◌≡◌, Some, None, ap, true≢false}
use Rattle.std.specs.Prelude.{is_some}

-- a stream that tells its bytes goes on telling them
pub goes_on : {X : Type 0} (before after : X) → Some before ≡ None → Some after ≡ None
goes_on before after none = absurd (true≢false (ap is_some none))
