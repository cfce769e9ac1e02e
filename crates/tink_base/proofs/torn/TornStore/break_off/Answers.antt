use Rattle.std.proofs.Common.{◌≡◌, take, drop, inr, sym, ap, ◌∙◌, arith, Some}
use Rattle.std.proofs.lemmas.List.{take-append-drop}
use Rattle.tink_base.specs.Memory.{TornInMemory}
use Rattle.tink_base.proofs.torn.TornStore.break_off.Goals as goal

-- the first bytes of the file are left
pub returns-in-Ok-clause-may_add : goal.returns-in-Ok-clause-may_add
returns-in-Ok-clause-may_add c = λ _. inr (record {
  front = take c.min-kept.result c.args.bytes.now;
  rest = drop c.min-kept.result c.args.bytes.now;
  whole = take-append-drop c.min-kept.result c.args.bytes.now;
  added = record {
    absent = sym c.in-None.ensures;
    files = ap (λ (s : TornInMemory). Some s.files) (c.self-in-None.view_is ∙ c.in-Ok.ensures.set);
    faults =
        let kept : c.self-in-None.inside.faults ≡ c.args.self.now.faults
        = ap (λ (s : TornInMemory). s.faults) (c.self-in-None.view_is ∙ c.in-Ok.ensures.set) in
        omega (arith, kept, c.saturating_add-self-inside.ensures, c.self-in-None.ranges);
  };
})
