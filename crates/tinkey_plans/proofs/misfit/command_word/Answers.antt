use Rattle.std.proofs.Common.{◌≤◌, List, ℕ, length, subst, sym}
use Rattle.tinkey_words.proofs.NameLemmas.{command_short}
use Rattle.tinkey_plans.proofs.misfit.command_word.Goals as goal

pub returns-clause-short : goal.returns-clause-short
returns-clause-short c = subst (λ (word : List ℕ). length word ≤ 18) (sym c.word.ensures) (command_short c.args.command)
