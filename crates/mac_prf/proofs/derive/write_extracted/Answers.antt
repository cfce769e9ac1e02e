-- A digest's size of zeros stands for the empty salt.
use Rattle.std.proofs.Common.{◌≡◌, ◌∙◌, [], List, ℕ, ap, arith}
use Rattle.std.proofs.lemmas.List.{take_all}
use Rattle.mac_prf.specs.Hmac.{hmac}
use Rattle.mac_prf.specs.Hkdf.{used_salt}
use Rattle.mac_prf.proofs.HkdfLemmas.{used_salt-empty, used_salt-given}
use Rattle.mac_prf.proofs.HmacLemmas.{length-hmac}
use Rattle.mac_prf.proofs.derive.write_extracted.Goals as goal
use Rattle.mac_prf.proofs.derive.write_extracted.Goals.{then-is_empty, else-is_empty}

pub returns : goal.returns
returns c =
    let hash = c.args.hash in
    let ikm = c.args.ikm.now in
    let salt : c.if-is_empty.salt.now ≡ used_salt hash c.args.salt.now
    = elim c.if-is_empty.branch [
      | then-is_empty w ↦ rw w.salt-is
          (used_salt-empty hash c.args.salt.now w.size.result w.size.ensures w.if-is_empty.ensures)
      | else-is_empty w ↦ rw w.salt-is
          (used_salt-given hash c.args.salt.now w.if-is_empty.ensures)
    ] in
    let taken = c.update.ensures.holds hash _ [] c.new-hmac.ensures.holds in
    c.finish.ensures hash _ ikm taken
    ∙ take_all _ (hmac hash c.if-is_empty.salt.now ikm)
    (omega (arith, length-hmac hash c.if-is_empty.salt.now ikm, c.requires))
    ∙ ap (λ (u : List ℕ). hmac hash u ikm) salt
