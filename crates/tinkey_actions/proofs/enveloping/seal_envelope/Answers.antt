use Rattle.std.proofs.Common.{◌∙◌}
use Rattle.tinkey_plans.specs.Steps.{with_made}
use Rattle.tinkey_plans.specs.Envelopes.{with_enveloped}
use Rattle.tinkey_actions.proofs.EnvelopeLemmas.{envelope_failed, envelope_refused, enveloped_passes, starved_enveloping}
use Rattle.tinkey_actions.proofs.enveloping.seal_envelope.Goals as goal

pub returns-in-Ok : goal.returns-in-Ok
returns-in-Ok g c = λ w keys over.
    let enveloping = rw (c.as_slice.ensures ∙ c.in_ok-ad.ensures.bytes) at (c.in-Ok.ensures.sealed keys over) in
    rw c.own.ensures (enveloped_passes _ keys _ _ _ _ _ (record w { entropy = g.E.Entropy.state c.args.entropy.now }) (g.E.Entropy.state c.envelope_seal.new.entropy) enveloping c.in-Ok.ensures.no_fault)

pub returns-in-Err-EntropyFault : goal.returns-in-Err-EntropyFault
returns-in-Err-EntropyFault g c = λ w keys over next.
    envelope_failed _ keys _ _ _ _ (record w { entropy = g.E.Entropy.state c.args.entropy.now }) (g.E.Entropy.state c.envelope_seal.new.entropy) (rw c.in-Err-EntropyFault.field-0-is at (c.in-Err-EntropyFault.ensures.fault keys over)) next

pub returns-in-Err-Refused : goal.returns-in-Err-Refused
returns-in-Err-Refused g c = λ w keys over next.
    envelope_refused _ keys _ _ _ _ _ (record w { entropy = g.E.Entropy.state c.args.entropy.now }) (g.E.Entropy.state c.envelope_seal.new.entropy) (rw (c.as_slice.ensures ∙ c.in_ok-ad.ensures.bytes) at (rw c.in-Err-Refused.field-0-is at (c.in-Err-Refused.ensures.fault keys over))) next

pub returns : goal.returns
returns g c = λ w keys over next.
    starved_enveloping _ keys _ _ _ _ (record w { entropy = g.E.Entropy.state c.args.entropy.now }) (g.E.Entropy.state c.envelope_seal.new.entropy) (rw c.in-Err-NoMemory.field-0-is at (c.in-Err-NoMemory.ensures.fault keys over)) (λ made. with_made made (λ enveloped. with_enveloped enveloped next))
