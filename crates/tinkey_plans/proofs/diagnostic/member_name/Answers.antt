use Rattle.std.proofs.Common.{◌≤◌, List, ℕ, length, subst, sym}
use Rattle.tinkey_plans.proofs.ReportLemmas.{name_short}
use Rattle.tinkey_plans.proofs.diagnostic.member_name.Goals as goal

pub returns-clause-short : goal.returns-clause-short
returns-clause-short c = subst (λ (name : List ℕ). length name ≤ 16) (sym c.name.ensures) (name_short c.args.member)
