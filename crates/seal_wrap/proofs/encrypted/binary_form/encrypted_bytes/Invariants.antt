use Rattle.seal_wrap.proofs.FieldLemmas.{EncryptedSoFar}
use Rattle.seal_wrap.proofs.encrypted.binary_form.encrypted_bytes.Given as goal

abbrev pub invariant-loop-i : goal.invariant-loop-i
invariant-loop-i l = EncryptedSoFar l.text l.message l.i l.sealed
