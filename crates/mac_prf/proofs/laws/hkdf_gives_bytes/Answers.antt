use Rattle.mac_prf.proofs.HkdfLemmas.{bytes-expand, length-expand}
use Rattle.mac_prf.proofs.laws.hkdf_gives_bytes.Goals as goal

pub returns : goal.returns
returns c = λ hash _ _ info size.
    (length-expand hash _ info size, bytes-expand hash _ info size)
