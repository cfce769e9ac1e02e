-- Words that ask for nothing, as a plan.
use Rattle.std.proofs.Common.{◌≡◌, sym, subst, ℕ, List, Result, Err}
use Rattle.managers.specs.Table.{Table}
use Rattle.tinkey_plans.specs.declared.status.Status.{Status}
use Rattle.tinkey_plans.specs.Commands.{asked_plan, plan_of}
use Rattle.tinkey_plans.specs.Ends.{World, Ends}
use Rattle.tinkey_words.specs.declared.words.misuse.Misuse.{Misuse}
use Rattle.tinkey_words.specs.Words.{Asked, words_of}

-- the plan of such words is that of the word at fault, under any table
pub unasked_ends : (table : Table) (words : List (List ℕ)) (misuse : Misuse) (w : World) (s : Status) → words_of words ≡ Err misuse → ((t : Table) (v : World) → Ends (asked_plan t (Err misuse) words) v s v) → Ends (plan_of table words) w s w
unasked_ends table words misuse w s is each = subst (λ (r : Result Asked Misuse). Ends (asked_plan table r words) w s w) (sym is) (each table w)
