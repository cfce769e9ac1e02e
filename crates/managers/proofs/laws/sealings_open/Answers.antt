use Rattle.std.proofs.Common.{ap, sym, ℕ, List}
use Rattle.managers.specs.Uses.{seal_of}
use Rattle.managers.proofs.SizeLemmas.{seal_facts}
use Rattle.managers.proofs.laws.sealings_open.Goals as goal

pub returns : goal.returns
returns c = λ key iv plain ad is whole.
    let bytes = seal_of key iv plain ad in
    (c.opens_sealings.ensures key bytes plain ad is).1
    (ap (λ (front : List ℕ). seal_of key front plain ad) (sym ((seal_facts key).front iv plain ad whole)))
