-- By the table of templates.
use Rattle.std.proofs.Common.{◌≤◌, subst, sym}
use Rattle.key_msgs.proofs.TableLemmas.{least_random, most_random}
use Rattle.tinkey_cmds.proofs.drawing.random_len.Goals as goal

pub returns-clause-least : goal.returns-clause-least
returns-clause-least c = subst (λ n. 1 ≤ n) (sym c.random_len.ensures.size) (least_random _ c.random_len.ensures.known)

pub returns-clause-most : goal.returns-clause-most
returns-clause-most c = subst (λ n. n ≤ 64) (sym c.random_len.ensures.size) (most_random _ c.random_len.ensures.known)
