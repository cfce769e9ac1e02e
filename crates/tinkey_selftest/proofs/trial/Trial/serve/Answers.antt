use Rattle.std.proofs.Common.{◌∙◌}
use Rattle.tinkey_selftest.proofs.DrawnLemmas.{few_now, keyset_now, never_unanswered}
use Rattle.tinkey_session.specs.Reading.{seen_line}
use Rattle.tinkey_selftest.proofs.trial.Trial.serve.Goals as goal

pub unreachable-requires : goal.unreachable-requires
unreachable-requires g c =
    never_unanswered _ c.args.self.now.session.keyset (seen_line c.args.line.now) c.args.self.now.entropy c.serve.new.entropy c.requires.ready.keyset.faultless c.requires.enough c.requires.ready.steady
    (rw c.in-Err-EntropyFault.field-0-is at c.in-Err-EntropyFault.ensures.serves)

pub returns-in-Ok-clause-few : goal.returns-in-Ok-clause-few
returns-in-Ok-clause-few g c =
    few_now _ c.args.self.now.session.keyset c.serve.new.self.keyset (seen_line c.args.line.now) c.in-Ok.reply c.args.self.now.entropy c.serve.new.entropy c.requires.ready.keyset.faultless c.requires.enough c.in-Ok.ensures.serves

pub returns-in-Ok-clause-ready : goal.returns-in-Ok-clause-ready
returns-in-Ok-clause-ready g c = record {
  keyset = keyset_now _ c.args.self.now.session.keyset c.serve.new.self.keyset (seen_line c.args.line.now) c.in-Ok.reply c.args.self.now.entropy c.serve.new.entropy c.requires.ready.keyset c.in-Ok.ensures.serves;
  steady = c.in-Ok.ensures.serves.drew.steady ∙ c.requires.ready.steady;
  small = c.requires.ready.small;
}
