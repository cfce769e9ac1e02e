use Rattle.std.proofs.Common.{◌≤◌, List, ℕ, ap, sym, ◌∙◌, arith, Some}
use Rattle.std.specs.FinMap.{get}
use Rattle.tink_base.specs.Memory.{StoreInMemory, told_draft, told_store}
use Rattle.tink_base.proofs.PieceLemmas.{finds_taken}
use Rattle.tink_base.proofs.files.MemStorePieceStore.finish.Goals as goal

pub returns-in-Some-get-clause-finishes : goal.returns-in-Some-get-clause-finishes
returns-in-Some-get-clause-finishes c =
    let counted = c.fails_now-fails.ensures.faultless c.if-fails.false in
    let rest = c.take_draft.ensures.rest in
    let kept = c.fails_now-fails.ensures.kept in
    let name = c.in-Some.field-0.name in
    let least : c.args.self.now.faults ≤ c.take_draft.new.self.faults
    = omega (arith, kept.faults, ap (λ (s : StoreInMemory). s.faults) rest) in
    finds_taken (told_store c.args.self.now) (told_store c.take_draft.new.self) _ name c.in-Some.field-0.bytes.items
    (ap told_draft (sym (c.in-Some.ensures.taken ∙ ap (λ (s : StoreInMemory). s.draft) counted)))
    (record {
      files = kept.files ∙ ap (λ (s : StoreInMemory). Some s.files) (sym rest);
      faults = least;
    }) (
      c.in-Some-get._taken.now,
      ap (λ (s : StoreInMemory). get s.files name) (sym counted)
          ∙ ap (λ (s : StoreInMemory). get s.files name) (sym rest)
          ∙ ap (λ (n : List ℕ). get c.take_draft.new.self.files n) (sym c.as_str.ensures)
          ∙ sym c.in-Some-get.ensures,
    )
