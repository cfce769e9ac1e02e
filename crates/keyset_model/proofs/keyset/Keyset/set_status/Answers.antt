-- The record of the place gets the status.
use Rattle.std.proofs.Common.{◌∙◌, ap}
use Rattle.keyset_model.specs.Keyset.{fault_of}
use Rattle.keyset_model.proofs.ChangeLemmas.{keys-written, sizes-status, sizes-written}
use Rattle.keyset_model.proofs.keyset.Keyset.set_status.Goals as goal

pub invariant_of-self : goal.invariant_of-self
invariant_of-self c = (
  ap fault_of (keys-written (λ r. record r { status = c.args.status }) _ _ _ c.args.place _ c.self.view_is c.requires.place_bound c.index_mut.ensures.value) ∙ c.requires.faultless,
  sizes-written (λ r. record r { status = c.args.status }) _ _ _ c.args.place _ c.self.view_is c.requires.place_bound c.index_mut.ensures.value (sizes-status c.args.status) c.self.invariant.1,
)

pub returns : goal.returns
returns c = keys-written (λ r. record r { status = c.args.status }) _ _ _ c.args.place _ c.self.view_is c.requires.place_bound c.index_mut.ensures.value
