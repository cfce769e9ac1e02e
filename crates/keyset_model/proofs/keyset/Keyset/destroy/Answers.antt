-- The record of the place is DESTROYED, and has no key data.
use Rattle.std.proofs.Common.{◌∙◌, ap, []}
use Rattle.keyset_model.specs.Keyset.{fault_of}
use Rattle.keyset_model.proofs.ChangeLemmas.{keys-written, sizes-destroyed, sizes-written}
use Rattle.keyset_model.proofs.keyset.Keyset.destroy.Goals as goal

pub invariant_of-self : goal.invariant_of-self
invariant_of-self c = rw (c.own.ensures ∙ c.new.ensures.bytes, c.own-2.ensures ∙ c.new-2.ensures.items) (
  ap fault_of (keys-written (λ r. record r { status = 3; url = []; value = []; material = 0 }) _ _ _ c.args.place _ c.self.view_is c.requires.place_bound c.index_mut-key.ensures.value) ∙ c.requires.faultless,
  sizes-written (λ r. record r { status = 3; url = []; value = []; material = 0 }) _ _ _ c.args.place _ c.self.view_is c.requires.place_bound c.index_mut-key.ensures.value sizes-destroyed c.self.invariant.1,
)

pub returns : goal.returns
returns c = rw (c.own.ensures ∙ c.new.ensures.bytes, c.own-2.ensures ∙ c.new-2.ensures.items)
    (keys-written (λ r. record r { status = 3; url = []; value = []; material = 0 }) _ _ _ c.args.place _ c.self.view_is c.requires.place_bound c.index_mut-key.ensures.value)
