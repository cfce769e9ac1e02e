use Rattle.std.proofs.Common.{◌∙◌, refl, sym}
use Rattle.ready_keysets.proofs.StreamLemmas.{some_there, seal_answers, seal_too_many}
use Rattle.ready_keysets.proofs.sealing.StreamSealing.update.Goals as goal

pub returns-in-Ok-clause-answered : goal.returns-in-Ok-clause-answered
returns-in-Ok-clause-answered c =
    seal_answers c.args.self.now _ c.in-Some.stream c.update.new.self c.args.plain.now c.args.out.now c.give.new.out c.update.new.sink c.give.result
    (sym c.replace.ensures.value ∙ c.in-Some.is) c.in-Ok.ensures.sealed refl refl c.give.ensures.gives

pub returns-in-Some-clause-answered : goal.returns-in-Some-clause-answered
returns-in-Some-clause-answered c = (
  (some_there c.args.self.now.stream c.in-Some.stream (sym c.replace.ensures.value ∙ c.in-Some.is), c.replace.ensures.after, refl),
  seal_too_many c.args.self.now c.in-Some.stream c.args.plain.now c.update.new.sink
      (sym c.replace.ensures.value ∙ c.in-Some.is)
      (rw c.in-Err-TooManySegments.field-0-is at c.in-Err-TooManySegments.ensures.fault),
)
