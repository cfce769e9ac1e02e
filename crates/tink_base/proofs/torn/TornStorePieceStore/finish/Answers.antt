use Rattle.std.proofs.Common.{◌≡◌, ap, sym, ◌∙◌, Some}
use Rattle.tink_spec.specs.Files.{StoreState}
use Rattle.tink_base.specs.Memory.{StoreInMemory, TornInMemory, told_draft, told_torn}
use Rattle.tink_base.proofs.PieceLemmas.{breaks_off}
use Rattle.tink_base.proofs.torn.TornStorePieceStore.finish.Goals as goal

pub returns-clause-may_finish : goal.returns-clause-may_finish
returns-clause-may_finish c = λ failed.
    let told : StoreInMemory → StoreState
    = λ s. record { files = Some s.files; faults = c.self.inside.faults; given = s.given } in
    let same : told c.take_draft.new.self ≡ told_torn c.args.self.now
    = ap told c.take_draft.ensures.rest ∙ ap told_torn c.self.view_is in
    breaks_off (told_torn c.args.self.now) (told_torn c.break_off.new.self) (told_draft c.args.self.now.draft) c.in-Some.field-0.name c.in-Some.field-0.bytes.items
    (ap told_draft (sym (c.in-Some.ensures.taken ∙ ap (λ (s : TornInMemory). s.draft) c.self.view_is)))
    (rw (sym same, sym c.as_str.ensures, sym c.deref.ensures.value) (c.break_off.ensures.may_add failed))
