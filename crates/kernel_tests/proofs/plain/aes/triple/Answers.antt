use Rattle.std.proofs.Common.{arith}
use Rattle.aes_core.proofs.Tables.{triple_is}
use Rattle.kernel_tests.proofs.plain.aes.triple.Goals as goal

pub returns : goal.returns
returns c = rw c.double.ensures (triple_is c.args.byte (omega arith))
