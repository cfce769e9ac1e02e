use Rattle.real_objects.specs.Words.{IsCauseAt, IsFound}
use Rattle.real_objects.proofs.ListedWords.{cause_at, found_at, long_costs}
use Rattle.real_objects.proofs.args.long_word.Goals as goal

pub returns-in-Ok-Some-clause-found : goal.returns-in-Ok-Some-clause-found
returns-in-Ok-Some-clause-found g c =
    found_at (g.A.Arguments.told c.args.from.now) c.args.place _ c.text_at.result (λ t. IsFound t c.args.place) (rw c.deref.ensures.value (rw c.in-Ok-Some.field-0-is at c.in-Ok-Some.ensures.word)) c.text_at.ensures.found

pub returns-in-Ok-Some-clause-cause : goal.returns-in-Ok-Some-clause-cause
returns-in-Ok-Some-clause-cause g c =
    cause_at (g.A.Arguments.told c.args.from.now) c.args.place _ c.text_at.result (λ t. IsCauseAt t c.args.place) (rw c.deref.ensures.value (rw c.in-Ok-Some.field-0-is at c.in-Ok-Some.ensures.word)) c.text_at.ensures.cause

pub returns-clause-cause : goal.returns-clause-cause
returns-clause-cause g c = long_costs (g.A.Arguments.told c.args.from.now) c.args.place c.requires.longer
