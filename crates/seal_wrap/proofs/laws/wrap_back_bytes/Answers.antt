use Rattle.keyset_model.specs.Writing.{binary_of}
use Rattle.seal_wrap.proofs.laws.wrap_back_bytes.Goals as goal

pub returns : goal.returns
returns c = λ json table keys old new r prefix random wrapped primary is gives has faultless bounds values plain drawn e.
    c.wrap_back.ensures json table keys old new r prefix random wrapped primary is gives has faultless bounds
    (λ as_json sealed made. c.sealings_are_bytes.ensures table old (binary_of keys) _ random sealed values plain drawn made) e
