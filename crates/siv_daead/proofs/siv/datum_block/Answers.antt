-- The MACs of the block of zeros and of the datum make D.
use Rattle.std.proofs.Common.{◌∙◌, List, ℕ, ap}
use Rattle.aes_core.specs.Bytes.{xor_bytes}
use Rattle.mac_prf.specs.Cmac.{cmac, doubled_block, zero_block}
use Rattle.siv_daead.specs.Siv.{datum_block}
use Rattle.siv_daead.proofs.siv.datum_block.Goals as goal

pub returns : goal.returns
unfolding datum_block
returns c =
    c.xor.ensures
    ∙ ap (λ (l : List ℕ). xor_bytes l c.mac.result)
    (c.doubled.ensures ∙ ap (λ (l : List ℕ). doubled_block l) c.mac-zeros.ensures)
    ∙ ap (λ (l : List ℕ). xor_bytes (doubled_block (cmac c.args.key.now zero_block)) l) c.mac.ensures
