-- The first block, and the rest from the counter after it.
use Rattle.std.proofs.Common.{◌++◌, ◌∙◌, List, ℕ, ap, append_assoc, subst, sym}
use Rattle.aes_core.specs.Counter.{ctr}
use Rattle.aes_core.specs.declared.counter.CtrKind.TheVariants.{All128}
use Rattle.aes_core.proofs.CounterMode.{ctr-append}
use Rattle.mac_prf.specs.CmacState.{Holds}
use Rattle.mac_prf.proofs.cmac.Cmac.update_encrypted.Goals as goal

pub returns-then-body-gt16-clause-text : goal.returns-then-body-gt16-clause-text
returns-then-body-gt16-clause-text c =
    let key = c.args.key.now in
    let start = c.args.start.now in
    let first = c.split_at_mut-first.result.0.now in
    let rest = c.split_at_mut-first.result.1.now in
    let later = c.add_encrypted-then-body-gt16.ensures.text
    ∙ ap (λ t. ctr key t All128 rest) c.counter_after.ensures in
    (λ i. c.add_encrypted.ensures.text i ++ later i)
    ∙ sym (ctr-append key start All128 first rest 1 c.told-start c.split_at_mut-first.ensures.front_len)
    ∙ ap (λ (l : List ℕ). ctr key start All128 l) (sym c.split_at_mut-first.ensures.value)

pub returns-then-body-gt16-clause-message : goal.returns-then-body-gt16-clause-message
returns-then-body-gt16-clause-message c = λ under m holds.
    let first : List ℕ = c.add_encrypted.new.body in
    let rest : List ℕ = c.add_encrypted-then-body-gt16.new.body in
    subst (Holds c.add_encrypted-then-body-gt16.new.self under) (append_assoc m first rest)
    (c.add_encrypted-then-body-gt16.ensures.message under (m ++ first) (c.add_encrypted.ensures.message under m holds))
