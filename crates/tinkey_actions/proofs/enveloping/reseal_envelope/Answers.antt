use Rattle.std.proofs.Common.{drop, Ok, Err}
use Rattle.envelopes.proofs.OpenedInPlace.{rest_whole}
use Rattle.envelopes.specs.EnvelopeSteps.{parts_at}
use Rattle.tinkey_plans.specs.declared.status.Status.TheVariants as status
use Rattle.tinkey_actions.proofs.EnvelopeLemmas.{no_parts, parts_pass, resealed_key_passes, resealing_failed, resealing_starved}
use Rattle.tinkey_actions.proofs.enveloping.reseal_envelope.Goals as goal

pub returns-in_default : goal.returns-in_default
returns-in_default g c = λ w keys row over same next.
    no_parts _ keys _ _ _ _ (record w { entropy = g.E.Entropy.state c.args.entropy.now }) over same (rw (c.deref.ensures.value, rest_whole 4096 c.args.input.items) at (rw c.in_default.is at (c.in_ok-key.ensures.parts keys over))) next

pub returns-in-Ok : goal.returns-in-Ok
returns-in-Ok g c = λ w keys row over same.
    let old = record w { entropy = g.E.Entropy.state c.args.entropy.now } in
    let new = record w { entropy = g.E.Entropy.state c.envelope_reseal.new.entropy } in
    let parts = parts_at (drop 4096 c.args.input.items) c.in-Some.key in
    let opened = rw (c.deref.ensures.value, rest_whole 4096 c.args.input.items) at (rw c.in-Some.is at (c.in_ok-key.ensures.parts keys over)) in
    rw c.own.ensures (parts_pass _ keys _ _ parts _ old new (Ok c.in-Ok.envelope.items) over opened (resealed_key_passes _ keys parts _ old (g.E.Entropy.state c.envelope_reseal.new.entropy) (c.in-Ok.ensures.resealed keys over) c.in-Ok.ensures.no_fault))

pub returns-in-Err-EntropyFault : goal.returns-in-Err-EntropyFault
returns-in-Err-EntropyFault g c = λ w keys row over same.
    let old = record w { entropy = g.E.Entropy.state c.args.entropy.now } in
    let new = record w { entropy = g.E.Entropy.state c.envelope_reseal.new.entropy } in
    let parts = parts_at (drop 4096 c.args.input.items) c.in-Some.key in
    let opened = rw (c.deref.ensures.value, rest_whole 4096 c.args.input.items) at (rw c.in-Some.is at (c.in_ok-key.ensures.parts keys over)) in
    parts_pass _ keys _ _ parts _ old new (Err status.EntropyFault) over opened (resealing_failed _ keys parts old (g.E.Entropy.state c.envelope_reseal.new.entropy) (rw c.in-Err-EntropyFault.field-0-is at (c.in-Err-EntropyFault.ensures.fault keys over)))

pub returns : goal.returns
returns g c = λ w keys row over same.
    let old = record w { entropy = g.E.Entropy.state c.args.entropy.now } in
    let new = record w { entropy = g.E.Entropy.state c.envelope_reseal.new.entropy } in
    let parts = parts_at (drop 4096 c.args.input.items) c.in-Some.key in
    let opened = rw (c.deref.ensures.value, rest_whole 4096 c.args.input.items) at (rw c.in-Some.is at (c.in_ok-key.ensures.parts keys over)) in
    parts_pass _ keys _ _ parts _ old new (Err status.NoMemory) over opened (resealing_starved _ keys parts old (g.E.Entropy.state c.envelope_reseal.new.entropy) (rw c.in-Err-NoMemory.field-0-is at (c.in-Err-NoMemory.ensures.fault keys over)))
