use Rattle.real_objects.specs.Words.{IsCauseAt, IsFound}
use Rattle.real_objects.proofs.ListedWords.{cause_at, found_at}
use Rattle.real_objects.proofs.args.word.Goals as goal

pub returns-in-Ok-clause-found : goal.returns-in-Ok-clause-found
returns-in-Ok-clause-found g c =
    found_at (g.A.Arguments.told c.args.from.now) c.args.place _ c.text_at.result (λ t. IsFound t c.args.place) c.in-Ok.ensures.word c.text_at.ensures.found

pub returns-in-Ok-clause-cause : goal.returns-in-Ok-clause-cause
returns-in-Ok-clause-cause g c =
    cause_at (g.A.Arguments.told c.args.from.now) c.args.place _ c.text_at.result (λ t. IsCauseAt t c.args.place) c.in-Ok.ensures.word c.text_at.ensures.cause
