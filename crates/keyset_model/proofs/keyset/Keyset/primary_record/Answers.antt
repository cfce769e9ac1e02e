use Rattle.std.proofs.Common.{◌∙◌, sym}
use Rattle.keyset_model.proofs.PrimaryLemmas.{primary_enabled}
use Rattle.keyset_model.proofs.keyset.Keyset.primary_record.Goals as goal

pub returns-clause-primary : goal.returns-clause-primary
returns-clause-primary c = sym c.primary_at.ensures.primary ∙ c.record_at.ensures.record_there

pub returns-clause-enabled : goal.returns-clause-enabled
returns-clause-enabled c = primary_enabled c.args.self.now c.record_at.result.now (returns-clause-primary c)
