use Rattle.std.proofs.Common.{ap, sym, ◌∙◌}
use Rattle.std.specs.FinMap.{get}
use Rattle.tink_base.specs.Memory.{StoreInMemory, told_draft}
use Rattle.tink_base.proofs.files.MemStorePieceStore.begin.Goals as goal

pub returns-in-Some-clause-begins : goal.returns-in-Some-clause-begins
returns-in-Some-clause-begins c =
    let counted = c.fails_now.ensures.faultless c.if-fails_now.false in (
      (
        c.in-Some.field-0.now,
        ap (λ (s : StoreInMemory). get s.files c.args.name.now) (sym counted) ∙ sym c.in-Some.ensures,
      ),
      ap (λ (s : StoreInMemory). told_draft s.draft) counted ∙ c.requires.none,
    )
