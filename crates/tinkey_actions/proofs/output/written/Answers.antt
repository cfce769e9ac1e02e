-- The written form, and then its length.
use Rattle.std.proofs.Common.{◌∙◌, ap, inl, inr, refl}
use Rattle.tinkey_plans.specs.Steps.{keyset_limit}
use Rattle.tinkey_actions.specs.Written.{kept_within}
use Rattle.tinkey_actions.proofs.output.written.Goals as goal

pub returns-in-Ok-clause-is : goal.returns-in-Ok-clause-is
returns-in-Ok-clause-is c = inl (c.within.ensures.is ∙ ap (kept_within keyset_limit) c.in-Ok.ensures)

pub returns-in-Ok-clause-within : goal.returns-in-Ok-clause-within
returns-in-Ok-clause-within c = rw c.in-Ok.ensures at c.within.ensures.within

pub returns-in-Err-clause-is : goal.returns-in-Err-clause-is
returns-in-Err-clause-is c = inr refl
