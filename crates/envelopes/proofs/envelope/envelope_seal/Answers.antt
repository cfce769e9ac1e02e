use Rattle.std.proofs.lemmas.Result.{err_from_is_err_and}
use Rattle.key_msgs.specs.Templates.{seen}
use Rattle.envelopes.proofs.DataKeyLemmas.{message-long}
use Rattle.envelopes.proofs.EnvelopeLemmas.{fault_making}
use Rattle.envelopes.proofs.envelope.envelope_seal.Goals as goal

pub returns-in_err-made-clause-fault : goal.returns-in_err-made-clause-fault
returns-in_err-made-clause-fault g c = λ keys over.
    let p = err_from_is_err_and c.from_residual.result c.from_residual.ensures.1 in
    rw (p.1, p.2) (fault_making keys _ _ (seen c.args.template.now) _ _ _ _ _ c.in_err-made.ensures.fault)

pub seal_made-requires-clause-value_bound : goal.seal_made-requires-clause-value_bound
seal_made-requires-clause-value_bound g c =
    message-long _ (seen c.args.template.now) _ _ _ _ (record { known = c.in_ok-made.ensures.known; aead = c.requires.aead }) c.in_ok-made.ensures.made

pub returns-clause-sealed : goal.returns-clause-sealed
returns-clause-sealed g c = λ keys over. c.seal_made.ensures.sealed keys over (seen c.args.template.now) _ c.in_ok-made.ensures.made
