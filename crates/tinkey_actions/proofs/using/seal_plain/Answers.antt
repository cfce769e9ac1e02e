use Rattle.std.proofs.Common.{refl}
use Rattle.tinkey_plans.specs.Plan.{allocates}
use Rattle.tinkey_plans.specs.Steps.{with_made}
use Rattle.tinkey_actions.proofs.UseLemmas.{sealed_passes, draw_failed_there, starved_sealing}
use Rattle.tinkey_actions.proofs.using.seal_plain.Goals as goal

pub returns-in-Ok : goal.returns-in-Ok
returns-in-Ok g c = λ w keys over.
    rw c.own.ensures (sealed_passes _ keys _ _ _ (record w { entropy = g.E.Entropy.state c.args.entropy.now }) (g.E.Entropy.state c.seal_in_place.new.entropy) (c.in-Ok.ensures.sealed keys over) c.in-Ok.ensures.no_fault)

pub returns-in-Err-EntropyFault : goal.returns-in-Err-EntropyFault
returns-in-Err-EntropyFault g c = λ w keys over next.
    draw_failed_there _ keys _ _ (λ sealed. sealed) _ (λ random. refl) (record w { entropy = g.E.Entropy.state c.args.entropy.now }) (g.E.Entropy.state c.seal_in_place.new.entropy) (rw c.in-Err-EntropyFault.field-0-is at (c.in-Err-EntropyFault.ensures.fault keys over)) (λ made. allocates (with_made made next))

pub returns-in-Err-NoMemory : goal.returns-in-Err-NoMemory
returns-in-Err-NoMemory g c = λ w keys over next.
    starved_sealing _ keys _ _ (λ sealed. sealed) _ (λ random. refl) (record w { entropy = g.E.Entropy.state c.args.entropy.now }) (g.E.Entropy.state c.seal_in_place.new.entropy) (rw c.in-Err-NoMemory.field-0-is at (c.in-Err-NoMemory.ensures.fault keys over)) (λ made. with_made made next)
