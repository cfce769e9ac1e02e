use Rattle.std.proofs.Common.{arith}
use Rattle.aes_core.specs.Counter.{counter_plus}
use Rattle.kernel_tests.proofs.CounterLemmas.{next_first, next_low}
use Rattle.kernel_tests.proofs.plain.aes.next_counter.Goals as goal

pub returns-in-Low32 : goal.returns-in-Low32
returns-in-Low32 c =
    rw c.in-Low32.is (next_low c.args.counter.now _ _ _ (omega arith)
    c.from_be_bytes-count.ensures c.to_be_bytes.ensures c.copy_from_slice.ensures.after)

pub returns-in-First32 : goal.returns-in-First32
returns-in-First32 c =
    rw c.in-First32.is (next_first c.args.counter.now _ _ _ (omega arith)
    c.from_le_bytes-count.ensures c.to_le_bytes.ensures c.copy_from_slice-in-First32.ensures.after)

pub returns-in-All128 : goal.returns-in-All128
unfolding counter_plus
returns-in-All128 c =
    rw c.in-All128.is (rw c.from_be_bytes.ensures at c.to_be_bytes-in-All128.ensures)
