use Rattle.std.proofs.lemmas.Option.{same_Some}
use Rattle.key_msgs.specs.Templates.{seen}
use Rattle.tinkey_selftest.proofs.DrawnLemmas.{first_now, never_ran_out, refused_now}
use Rattle.tinkey_selftest.proofs.selftest.first_keyset.Goals as goal

pub unreachable-requires-in-Err-EntropyFault : goal.unreachable-requires-in-Err-EntropyFault
unreachable-requires-in-Err-EntropyFault c =
    never_ran_out (seen c.in-Some.template) c.args.entropy.now c.create.new.entropy (same_Some _ _ c.in-Some.ensures) c.requires.enough c.requires.steady
    (rw c.in-Err-EntropyFault.field-0-is at c.in-Err-EntropyFault.ensures.first)

pub returns-in-Ok-clause-first : goal.returns-in-Ok-clause-first
returns-in-Ok-clause-first c =
    first_now (seen c.in-Some.template) c.in-Ok.keyset c.args.entropy.now c.create.new.entropy (same_Some _ _ c.in-Some.ensures) c.requires.enough c.requires.steady c.in-Ok.ensures.first.1

pub returns-in-Err-Refused-clause-first : goal.returns-in-Err-Refused-clause-first
returns-in-Err-Refused-clause-first c =
    refused_now (seen c.in-Some.template) c.in-Err-Refused.fault c.args.entropy.now c.create.new.entropy (same_Some _ _ c.in-Some.ensures)
    (rw c.in-Err-Refused.field-0-is at c.in-Err-Refused.ensures.first).1
