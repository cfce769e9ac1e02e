-- The whole blocks, and the rest from the counter after them.
use Rattle.std.proofs.Common.{◌/◌, ◌++◌, ◌∙◌, List, ℕ, ap, append_assoc, length, subst, sym}
use Rattle.aes_core.specs.Counter.{ctr}
use Rattle.aes_core.specs.declared.counter.CtrKind.TheVariants.{All128}
use Rattle.aes_core.proofs.CounterMode.{ctr-append}
use Rattle.mac_prf.specs.CmacState.{Holds}
use Rattle.mac_prf.proofs.cmac.Cmac.add_encrypted.Goals as goal

pub returns-else-key_size-clause-text : goal.returns-else-key_size-clause-text
returns-else-key_size-clause-text c =
    let key = c.args.key.now in
    let start = c.args.start.now in
    let blocks = c.split_at_mut-blocks.result.0.now in
    let rest = c.split_at_mut-blocks.result.1.now in
    let later = c.ctr_xor-else-key_size.ensures
    ∙ ap (λ (t : List ℕ). ctr key t All128 rest) c.counter_after.ensures in
    (λ i. c.chain_encrypted.ensures.text i ++ later i)
    ∙ sym (ctr-append key start All128 blocks rest (length c.args.body.now / 16) c.told-start
    c.split_at_mut-blocks.ensures.front_len)
    ∙ ap (λ (l : List ℕ). ctr key start All128 l) (sym c.split_at_mut-blocks.ensures.value)

pub returns-else-key_size-clause-message : goal.returns-else-key_size-clause-message
returns-else-key_size-clause-message c = λ under m holds.
    let blocks : List ℕ = c.chain_encrypted.new.blocks in
    let rest : List ℕ = c.ctr_xor-else-key_size.new.body in
    subst (Holds c.update-else-key_size.new.self under) (append_assoc m blocks rest)
    (c.update-else-key_size.ensures under (m ++ blocks) (c.chain_encrypted.ensures.message under m holds))
