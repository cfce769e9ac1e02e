use Rattle.std.proofs.Common.{◌≤◌, List, ℕ, length, subst, sym}
use Rattle.tinkey_words.proofs.NameLemmas.{option_short}
use Rattle.tinkey_plans.proofs.misfit.option_word.Goals as goal

pub returns-clause-short : goal.returns-clause-short
returns-clause-short c = subst (λ (word : List ℕ). length word ≤ 19) (sym c.word.ensures) (option_short c.args.name)
