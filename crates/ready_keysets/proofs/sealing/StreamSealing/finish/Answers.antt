use Rattle.std.proofs.Common.{◌∙◌, inl, refl, sym}
use Rattle.ready_keysets.proofs.StreamLemmas.{some_there, seal_ends, sealed_last}
use Rattle.ready_keysets.proofs.sealing.StreamSealing.finish.Goals as goal

pub returns-in-Ok-clause-answered : goal.returns-in-Ok-clause-answered
returns-in-Ok-clause-answered c =
    seal_ends c.args.self.now _ c.args.out.now c.give.new.out c.finish.new.sink c.give.result
    (inl (some_there c.args.self.now.stream c.in-Some.stream (sym c.replace.ensures.value ∙ c.in-Some.is)))
    (sealed_last c.args.self.now c.in-Some.stream c.finish.new.sink (sym c.replace.ensures.value ∙ c.in-Some.is) c.in-Ok.ensures.sealed)
    c.replace.ensures.after refl c.give.ensures.gives
