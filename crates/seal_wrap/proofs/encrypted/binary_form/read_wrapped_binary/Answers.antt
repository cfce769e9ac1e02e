use Rattle.keyset_model.proofs.ReadingLemmas.{whole}
use Rattle.seal_wrap.proofs.FieldLemmas.{cut_fails, cut_gives, cut_stops}
use Rattle.seal_wrap.proofs.encrypted.binary_form.read_wrapped_binary.Goals as goal

pub returns-in-Err-Wire-clause-refusal : goal.returns-in-Err-Wire-clause-refusal
returns-in-Err-Wire-clause-refusal c = cut_fails c.args.text.now _ (rw (whole, c.in-Err-Wire.field-0-is) at c.in-Err-Wire.ensures.cut)

pub returns-in-Ok-encrypted_bytes-clause-sealed : goal.returns-in-Ok-encrypted_bytes-clause-sealed
returns-in-Ok-encrypted_bytes-clause-sealed c = cut_gives c.args.text.now _ _ (rw whole at c.in-Ok.ensures.cut) c.in-Ok-encrypted_bytes.ensures.sealed

pub returns-clause-refusal : goal.returns-clause-refusal
returns-clause-refusal c = cut_stops c.args.text.now _ _ (rw whole at c.in-Ok.ensures.cut) c.in-Err.ensures.fault
