use Rattle.tinkey_session.proofs.KeptKeyLemmas.{kept_by_all_edits, kept_by_edits}
use Rattle.tinkey_session.proofs.laws.kept_by_edits.Goals as goal

pub returns : goal.returns
returns c = record { one = kept_by_edits; all = kept_by_all_edits }
