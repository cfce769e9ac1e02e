use Rattle.keyset_model.proofs.ReadingLemmas.{key_handed_on}
use Rattle.keyset_model.proofs.reading.read_field.Goals as goal

pub returns-in_err-key-clause-fault : goal.returns-in_err-key-clause-fault
returns-in_err-key-clause-fault c = key_handed_on _ _ _ c.from_residual.ensures.1 c.if-field-eq-KEY.true c.in_err-key.ensures.key
