use Rattle.std.proofs.Common.{ap, sym, ◌∙◌}
use Rattle.std.specs.FinMap.{get}
use Rattle.tink_base.specs.Memory.{StoreInMemory}
use Rattle.tink_base.proofs.files.MemStoreStore.create.Goals as goal

pub returns-in-Some-clause-creates : goal.returns-in-Some-clause-creates
returns-in-Some-clause-creates c = (
  c.fails_now.ensures.kept,
  (
    c.in-Some.field-0.now,
    ap (λ (s : StoreInMemory). get s.files c.args.name.now) (sym (c.fails_now.ensures.faultless c.if-fails_now.false))
        ∙ sym c.in-Some.ensures,
  ),
)
