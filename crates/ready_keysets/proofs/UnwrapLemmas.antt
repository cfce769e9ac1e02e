-- What is said of the two texts of an encrypted keyset, from step to step.
use Rattle.std.proofs.Common.{◌≡◌, ℕ, refl}
use Rattle.std.specs.Prelude.{Option, Some, None, Result, Ok, Err}
use Rattle.std.specs.Result.{result_ok}
use Rattle.key_msgs.specs.declared.primitive.Primitive.{Primitive}
use Rattle.keyset_model.specs.Keyset.{Keys}
use Rattle.seal_wrap.specs.Unwrapped as unwrapped
use Rattle.seal_wrap.specs.Wrapping.{IsRefusal}
use Rattle.seal_wrap.specs.declared.encrypted.unwrapping.UnwrapFault.{UnwrapFault}
use Rattle.seal_wrap.specs.declared.encrypted.unwrapping.UnwrapFault.TheVariants as faults
use Rattle.wrapped_prims.specs.Fitness.{Unfit}
use Rattle.ready_keysets.specs.Streaming.{IsUnfitForStreams}
use Rattle.ready_keysets.specs.Unwrapping.{IsLacking, IsNoStreamsInside, IsNotInside, Lack, of_fit, refusal_of}
use Rattle.ready_keysets.specs.Working.{IsUnfit}
use Rattle.ready_keysets.specs.declared.refusal.Refusal.{Refusal}
use Rattle.ready_keysets.specs.declared.refusal.Refusal.TheVariants as refusals

-- why the texts give no keyset is why none was made ready
pub lacking_inside : (primitive : Primitive) (encrypted master : ℕ) (read : Result Keys Lack) (refusal : Refusal)
    → IsLacking read refusal → IsNotInside primitive encrypted master read refusal
lacking_inside primitive encrypted master read refusals.NoMaster lacks = lacks
lacking_inside primitive encrypted master read refusals.UnfitMaster lacks = lacks
lacking_inside primitive encrypted master read refusals.NoWrapped lacks = lacks
lacking_inside primitive encrypted master read refusals.NoKeyset lacks = lacks
lacking_inside primitive encrypted master read refusals.UnfitKey lacks = absurd lacks
lacking_inside primitive encrypted master read refusals.OtherPrimitive lacks = absurd lacks
lacking_inside primitive encrypted master read refusals.TooLong lacks = absurd lacks
lacking_inside primitive encrypted master read refusals.FewRandomBytes lacks = absurd lacks
lacking_inside primitive encrypted master read refusals.Refused lacks = lacks
lacking_inside primitive encrypted master read refusals.NoRoom lacks = absurd lacks
lacking_inside primitive encrypted master read refusals.NoMemory lacks = tt

-- and so is that the keyset inside isn't fit
pub unfit_inside : (primitive : Primitive) (encrypted master : ℕ) (read : Result Keys Lack) (keys : Keys) (refusal : Refusal)
    → read ≡ Ok keys → IsUnfit primitive keys refusal → IsNotInside primitive encrypted master read refusal
unfit_inside primitive encrypted master read keys refusals.NoMaster is unfit = absurd unfit
unfit_inside primitive encrypted master read keys refusals.UnfitMaster is unfit = absurd unfit
unfit_inside primitive encrypted master read keys refusals.NoWrapped is unfit = absurd unfit
unfit_inside primitive encrypted master read keys refusals.NoKeyset is unfit = absurd unfit
unfit_inside primitive encrypted master read keys refusals.UnfitKey is unfit =
    record { keys = keys; keyset = is; unfit' = unfit }
unfit_inside primitive encrypted master read keys refusals.OtherPrimitive is unfit = absurd unfit
unfit_inside primitive encrypted master read keys refusals.TooLong is unfit = absurd unfit
unfit_inside primitive encrypted master read keys refusals.FewRandomBytes is unfit = absurd unfit
unfit_inside primitive encrypted master read keys refusals.Refused is unfit = absurd unfit
unfit_inside primitive encrypted master read keys refusals.NoRoom is unfit = absurd unfit
unfit_inside primitive encrypted master read keys refusals.NoMemory is unfit = tt

-- the same of keys for streams
pub lacking_streams : (encrypted master : ℕ) (read : Result Keys Lack) (refusal : Refusal)
    → IsLacking read refusal → IsNoStreamsInside encrypted master read refusal
lacking_streams encrypted master read refusals.NoMaster lacks = lacks
lacking_streams encrypted master read refusals.UnfitMaster lacks = lacks
lacking_streams encrypted master read refusals.NoWrapped lacks = lacks
lacking_streams encrypted master read refusals.NoKeyset lacks = lacks
lacking_streams encrypted master read refusals.UnfitKey lacks = absurd lacks
lacking_streams encrypted master read refusals.OtherPrimitive lacks = absurd lacks
lacking_streams encrypted master read refusals.TooLong lacks = absurd lacks
lacking_streams encrypted master read refusals.FewRandomBytes lacks = absurd lacks
lacking_streams encrypted master read refusals.Refused lacks = lacks
lacking_streams encrypted master read refusals.NoRoom lacks = absurd lacks
lacking_streams encrypted master read refusals.NoMemory lacks = tt

pub unfit_streams : (encrypted master : ℕ) (read : Result Keys Lack) (keys : Keys) (refusal : Refusal)
    → read ≡ Ok keys → IsUnfitForStreams keys refusal → IsNoStreamsInside encrypted master read refusal
unfit_streams encrypted master read keys refusals.NoMaster is unfit = absurd unfit
unfit_streams encrypted master read keys refusals.UnfitMaster is unfit = absurd unfit
unfit_streams encrypted master read keys refusals.NoWrapped is unfit = absurd unfit
unfit_streams encrypted master read keys refusals.NoKeyset is unfit = absurd unfit
unfit_streams encrypted master read keys refusals.UnfitKey is unfit = record { keys = keys; keyset = is; unfit = unfit }
unfit_streams encrypted master read keys refusals.OtherPrimitive is unfit = absurd unfit
unfit_streams encrypted master read keys refusals.TooLong is unfit = absurd unfit
unfit_streams encrypted master read keys refusals.FewRandomBytes is unfit = absurd unfit
unfit_streams encrypted master read keys refusals.Refused is unfit = absurd unfit
unfit_streams encrypted master read keys refusals.NoRoom is unfit = absurd unfit
unfit_streams encrypted master read keys refusals.NoMemory is unfit = tt

-- what is unwrapped under a master that can serve
pub unwrapped_by_fit : (fault : Option (ℕ × Unfit)) (read : Result Keys unwrapped.Refusal) (keys : Keys)
    → fault ≡ None → read ≡ Ok keys → of_fit fault read ≡ Ok keys
unwrapped_by_fit fault read keys fit is = rw (fit, is) refl

-- and why nothing is
pub not_unwrapped_by_fit : (fault : Option (ℕ × Unfit)) (read : Result Keys unwrapped.Refusal) (why : UnwrapFault)
    → fault ≡ None → IsRefusal why read → IsLacking (of_fit fault read) (refusal_of why)
not_unwrapped_by_fit fault read (faults.OuterWire at) fit is = rw (fit, is) tt
not_unwrapped_by_fit fault read faults.NotJson fit is = rw (fit, is) tt
not_unwrapped_by_fit fault read faults.Member fit is = rw (fit, is) tt
not_unwrapped_by_fit fault read faults.NotOpened fit is = rw (fit, is) refl
not_unwrapped_by_fit fault read (faults.InnerWire at) fit is = rw (fit, is) tt
not_unwrapped_by_fit fault read (faults.Fault inner) fit is = rw (fit, is) tt
not_unwrapped_by_fit fault read faults.NoMemory fit is = tt

-- a text that reads as a keyset is one, and one that doesn't is none
pub read_ok : {X : Type 0} (read : Result Keys X) (keys : Keys) → read ≡ Ok keys → result_ok read ≡ Some keys
read_ok read keys is = rw is refl

pub read_none : {X : Type 0} (read : Result Keys X) (why : X) → read ≡ Err why → result_ok read ≡ None
read_none read why is = rw is refl
