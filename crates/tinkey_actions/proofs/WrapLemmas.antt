-- Encrypted keysets, as steps.
use Rattle.std.proofs.Common.{◌≡◌, Bool, true, false, refl, ap, inl, inr, ℕ, List, [], Option, Some, None, Result, Ok, Err}
use Rattle.std.specs.Option.{option_map}
use Rattle.keyset_model.specs.Keyset.{Keys}
use Rattle.keyset_model.specs.declared.keyset.Keyset.{Keyset}
use Rattle.keyset_model.specs.Writing.{binary_of}
use Rattle.managers.specs.Table.{Table}
use Rattle.seal_wrap.specs.Info.{info_of}
use Rattle.seal_wrap.specs.Unwrapped.{Refusal}
use Rattle.seal_wrap.specs.Wrapped.{wrapped_text, wrapped_with}
use Rattle.seal_wrap.specs.Wrapping.{IsRefusal, IsWrapping}
use Rattle.seal_wrap.specs.declared.encrypted.unwrapping.UnwrapFault.{UnwrapFault}
use Rattle.seal_wrap.specs.declared.encrypted.unwrapping.UnwrapFault.TheVariants as faults
use Rattle.tink_spec.specs.Outside.{EntropyState, Stood}
use Rattle.tinkey_plans.specs.declared.origin.Begins.{Begins}
use Rattle.tinkey_plans.specs.declared.origin.Origin.{Origin}
use Rattle.tinkey_plans.specs.declared.status.Status.{Status}
use Rattle.tinkey_plans.specs.declared.status.Status.TheVariants as status
use Rattle.wrapped_prims.specs.Sealing.{IsSealFault}
use Rattle.wrapped_prims.specs.declared.sealing.SealFault.TheVariants as seal_faults
use Rattle.tinkey_plans.specs.Ends.{World, Ends, settled}
use Rattle.tinkey_plans.specs.Plan.{Plan, allocates}
use Rattle.tinkey_plans.specs.Steps.{with_made, within_limit, OrStarved, Passes}
use Rattle.tinkey_plans.specs.declared.sealer.Sealer.{Sealer}
use Rattle.tinkey_plans.specs.Wrapping.{as_wrapping, ends_unopened, is_json, makes_wrapped, unopened_status, unwrap_refusal, with_unwrapped, wrapped_limit, wraps}
use Rattle.tinkey_words.specs.declared.words.rows.Format.{Format}
use Rattle.wrapped_prims.specs.Answers.{Sealed, seal_answer}
use Rattle.tinkey_actions.proofs.UseLemmas.{IsMadeSo, draw_failed_there, made_so, starved_sealing}

-- ---- wrapping

-- a text is made of a sealing
made_of_sealing : (keys master : Keys) (table : Table) (form : Format) → IsMadeSo (λ sealed. wrapped_text (is_json form) sealed (info_of keys)) master table (binary_of keys) [] (wraps keys master table form)
made_of_sealing keys master table form random = by (seal_answer master table (binary_of keys) [] random)
  where
    by : (o : Option Sealed) → option_map as_wrapping (option_map (wrapped_with (is_json form) (info_of keys)) o) ≡ option_map (made_so (λ sealed. wrapped_text (is_json form) sealed (info_of keys))) o
    by None = refl
    by (Some sealed) = refl

-- the entropy failed at the IV, or memory was wanting
pub wrap_undrawn : (keys master : Keys) (table : Table) (form : Format) (old : World) (entropy : EntropyState) → IsSealFault master table old.entropy entropy seal_faults.EntropyFault → (next : List ℕ → Plan) → Ends (makes_wrapped keys master table form next) old status.EntropyFault (record old { entropy = entropy })
wrap_undrawn keys master table form old entropy fault next =
    draw_failed_there table master (binary_of keys) [] (λ sealed. wrapped_text (is_json form) sealed (info_of keys)) (wraps keys master table form) (made_of_sealing keys master table form) old entropy fault (λ made. allocates (with_made made (within_limit wrapped_limit next)))

pub wrap_starved : (keys master : Keys) (table : Table) (form : Format) (old : World) (entropy : EntropyState) → IsSealFault master table old.entropy entropy seal_faults.NoMemory → (next : List ℕ → Plan) → Ends (makes_wrapped keys master table form next) old status.NoMemory (record old { entropy = entropy })
wrap_starved keys master table form old entropy fault next =
    starved_sealing table master (binary_of keys) [] (λ sealed. wrapped_text (is_json form) sealed (info_of keys)) (wraps keys master table form) (made_of_sealing keys master table form) old entropy fault (λ made. with_made made (within_limit wrapped_limit next))

-- a text was made, and looked at for its length
pub wrapped_passes : (keys master : Keys) (table : Table) (form : Format) (text : List ℕ) (old : World) (entropy : EntropyState) (r : Result (List ℕ) Status) → IsWrapping keys master table (is_json form) old.entropy entropy text → Stood old.entropy.faults entropy.faults
    → Passes (λ next. within_limit wrapped_limit next text) (record old { entropy = entropy }) r (record old { entropy = entropy }) → Passes (makes_wrapped keys master table form) old r (record old { entropy = entropy })
wrapped_passes keys master table form text old entropy (Ok value) is stood passes = λ next s last run.
    inl (settled is.drawn entropy (Ok text) is.drew stood (λ more. ap (option_map as_wrapping) (is.answer more)) (inl (passes next s last run)))
wrapped_passes keys master table form text old entropy (Err s) is stood passes = λ next.
    inl (settled is.drawn entropy (Ok text) is.drew stood (λ more. ap (option_map as_wrapping) (is.answer more)) (inl (passes next)))

-- ---- unwrapping

-- the keyset of a text, or why it gives none
pub unwrapped_passes : (from : Origin) (begins : Begins) (clear : Bool) (sealer : Sealer) (read : Result Keys Refusal) (keyset : Keyset) (w : World) → read ≡ Ok keyset → Passes (λ next. allocates (with_unwrapped from begins clear sealer read next)) w (Ok keyset) w
unwrapped_passes from begins clear sealer read keyset w is = λ next s last run. inl (rw is run)

unopened : (from : Origin) (clear : Bool) (sealer : Sealer) (w : World) → Ends (ends_unopened from clear sealer) w (unopened_status from clear sealer) w
unopened from true sealer w = (refl, refl)
unopened from false sealer w = (refl, refl)

refused_so : (from : Origin) (begins : Begins) (clear : Bool) (sealer : Sealer) (read : Result Keys Refusal) (fault : UnwrapFault) (w : World) → IsRefusal fault read → (next : Keys → Plan) → Ends (allocates (with_unwrapped from begins clear sealer read next)) w (unwrap_refusal from begins clear sealer fault) w
refused_so from begins clear sealer read (faults.OuterWire at) w is next = inl (rw is (refl, refl))
refused_so from begins clear sealer read faults.NotJson w is next = inl (rw is (refl, refl))
refused_so from begins clear sealer read faults.Member w is next = inl (rw is (refl, refl))
refused_so from begins clear sealer read faults.NotOpened w is next = inl (rw is (unopened _ clear sealer w))
refused_so from begins clear sealer read (faults.InnerWire at) w is next = inl (rw is (refl, refl))
refused_so from begins clear sealer read (faults.Fault fault) w is next = inl (rw is (refl, refl))
refused_so from begins clear sealer read faults.NoMemory w is next = inr (refl, refl)

pub not_unwrapped : (from : Origin) (begins : Begins) (clear : Bool) (sealer : Sealer) (read : Result Keys Refusal) (fault : UnwrapFault) (s : Status) (w : World) → OrStarved (unwrap_refusal from begins clear sealer fault) s → IsRefusal fault read → (next : Keys → Plan) → Ends (allocates (with_unwrapped from begins clear sealer read next)) w s w
not_unwrapped from begins clear sealer read fault s w (inl is) why next = rw is (refused_so from begins clear sealer read fault w why next)
not_unwrapped from begins clear sealer read fault s w (inr starved) why next = inr (starved, refl)
