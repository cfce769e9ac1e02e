-- The last step of the chain is the cipher of a block.
use Rattle.std.proofs.Common.{◌≡◌, ◌-◌, List, ℕ, suc, ap, arith, length, subst, sym}
use Rattle.aes_core.specs.Bytes.{IsBytes}
use Rattle.mac_prf.specs.Cmac.{block_count, chain, cmac}
use Rattle.mac_prf.proofs.laws.cmac_has_a_block.Goals as goal

pub returns : goal.returns
unfolding chain cmac
returns c = λ key m bytes.
    let count : block_count m ≡ suc (block_count m - 1) = omega arith in
    subst (λ (t : List ℕ). (length t ≡ 16) × IsBytes t) (ap (chain key m) (sym count))
    (c.cipher_has_a_block.ensures key _ bytes)
