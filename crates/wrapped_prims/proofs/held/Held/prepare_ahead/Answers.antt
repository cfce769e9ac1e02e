use Rattle.std.proofs.Common.{◌∙◌, refl}
use Rattle.std.proofs.lemmas.List.{with_items_is}
use Rattle.wrapped_prims.proofs.HandleLemmas.{over_again}
use Rattle.wrapped_prims.proofs.held.Held.prepare_ahead.Goals as goal

pub returns : goal.returns
returns c = λ table primitive keys over.
    let slots = with_items_is c.args.self.now.slots c.prepare_slots.new.slots (c.prepare_slots.auto.slots ∙ c.deref_mut.ensures.len) ∙ c.prepare_slots.ensures ∙ c.deref_mut.ensures.value in
    over_again table primitive keys c.args.self.now _ slots refl refl refl over
