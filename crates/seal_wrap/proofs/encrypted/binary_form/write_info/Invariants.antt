use Rattle.std.proofs.Common.{◌≡◌}
use Rattle.seal_wrap.specs.Wrapped.{info_written}
use Rattle.seal_wrap.proofs.WritingLemmas.{info_to}
use Rattle.seal_wrap.proofs.encrypted.binary_form.write_info.Given as goal

abbrev pub invariant-loop-i : goal.invariant-loop-i
invariant-loop-i l = l.writer ≡ info_written (info_to l.keyset l.i)
