use Rattle.tinkey_plans.specs.Wrapping.{wrapped_limit}
use Rattle.tinkey_actions.proofs.WrapLemmas.{wrap_starved, wrap_undrawn, wrapped_passes}
use Rattle.tinkey_actions.proofs.WrittenLemmas.{kept_passes, starved_writes, undrawn_writes, wrapped_writes}
use Rattle.tinkey_actions.specs.Written.{with_status}
use Rattle.tinkey_actions.proofs.wrapping.wrap_under.Goals as goal

pub returns-in-Ok-clause-passes : goal.returns-in-Ok-clause-passes
returns-in-Ok-clause-passes g c = λ w master over.
    let old = record w { entropy = g.E.Entropy.state c.args.entropy.now } in
    let entropy = g.E.Entropy.state c.wrap.new.entropy in
    wrapped_passes c.args.keyset.now master _ c.args.form c.in-Ok.text.items old entropy (with_status c.within.result) (rw c.is_json.ensures at (c.in-Ok.ensures.wrapped master over)) c.in-Ok.ensures.no_fault (kept_passes wrapped_limit c.in-Ok.text.items (record w { entropy = entropy }) c.within.result c.within.ensures.is)

pub returns-in-Ok-clause-writes : goal.returns-in-Ok-clause-writes
returns-in-Ok-clause-writes g c = λ master over.
    wrapped_writes _ master c.args.form c.args.keyset.now c.in-Ok.text.items _ _ c.within.result c.requires.bound (rw c.is_json.ensures at (c.in-Ok.ensures.wrapped master over)) c.in-Ok.ensures.no_fault c.within.ensures.is

pub returns-in-Err-EntropyFault-clause-passes : goal.returns-in-Err-EntropyFault-clause-passes
returns-in-Err-EntropyFault-clause-passes g c = λ w master over next.
    wrap_undrawn c.args.keyset.now master _ c.args.form (record w { entropy = g.E.Entropy.state c.args.entropy.now }) (g.E.Entropy.state c.wrap.new.entropy) (rw c.in-Err-EntropyFault.field-0-is at (c.in-Err-EntropyFault.ensures.fault master over)) next

pub returns-in-Err-EntropyFault-clause-writes : goal.returns-in-Err-EntropyFault-clause-writes
returns-in-Err-EntropyFault-clause-writes g c = λ master over.
    undrawn_writes _ master c.args.form c.args.keyset.now _ _ c.requires.bound (rw c.in-Err-EntropyFault.field-0-is at (c.in-Err-EntropyFault.ensures.fault master over))

pub returns-in-Err-NoMemory-clause-passes : goal.returns-in-Err-NoMemory-clause-passes
returns-in-Err-NoMemory-clause-passes g c = λ w master over next.
    wrap_starved c.args.keyset.now master _ c.args.form (record w { entropy = g.E.Entropy.state c.args.entropy.now }) (g.E.Entropy.state c.wrap.new.entropy) (rw c.in-Err-NoMemory.field-0-is at (c.in-Err-NoMemory.ensures.fault master over)) next

pub returns-in-Err-NoMemory-clause-writes : goal.returns-in-Err-NoMemory-clause-writes
returns-in-Err-NoMemory-clause-writes g c = λ master over.
    starved_writes _ master _ _ (rw c.in-Err-NoMemory.field-0-is at (c.in-Err-NoMemory.ensures.fault master over))
