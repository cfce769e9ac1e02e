use Rattle.std.proofs.Common.{◌∙◌}
use Rattle.tinkey_host.proofs.StartLemmas.{same_table, over_standard}
use Rattle.tinkey_host.proofs.standard.run_over.Goals as goal

pub returns : goal.returns
returns g c = (
  over_standard _ _ _ _ _ (c.in-Ok.ensures.table ∙ same_table _ _ _ _ c.requires.aead c.requires.daead c.requires.mac c.requires.prf) c.run.ensures.promised,
  c.run.ensures.line,
)
