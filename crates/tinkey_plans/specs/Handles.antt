-- The keys of a keyset that can serve for a primitive, as a step of plans. What can't serve is said apart
-- from plans, in Fitness of wrapped_prims.
use Rattle.std.specs.Prelude.{ℕ, Option, Some, None}
use Rattle.key_msgs.specs.declared.primitive.Primitive.{Primitive}
use Rattle.keyset_model.specs.Keyset.{Keys}
use Rattle.managers.specs.Table.{Table}
use Rattle.tinkey_session.specs.Serving.{cannot_serve}
use Rattle.tinkey_session.specs.declared.reply.Refusal.TheVariants as refused
use Rattle.wrapped_prims.specs.Fitness.{Unfit, unfit}
use Rattle.wrapped_prims.specs.Making.{IsOver}
use Rattle.wrapped_prims.specs.declared.handle.HandleError.{HandleError}
use Rattle.wrapped_prims.specs.declared.handle.HandleError.TheVariants as faults
use Rattle.wrapped_prims.specs.declared.held.Held.{Held}
use Rattle.tinkey_plans.specs.Plan.{Plan, ends, allocates}
use Rattle.tinkey_plans.specs.UnfitKeys.{unfit_key}
use Rattle.tinkey_plans.specs.declared.origin.Origin.{Origin}
use Rattle.tinkey_plans.specs.declared.status.Status.{Status}
use Rattle.tinkey_plans.specs.declared.status.Status.TheVariants as status
use Rattle.tinkey_plans.specs.declared.unfit.UnfitKey.{UnfitKey}

-- the rest goes on, or the record that can't serve is refused, and named so by its place
abbrev pub unless_unfit : (name : ℕ → UnfitKey) → Option (ℕ × Unfit) → Plan → Plan
unless_unfit name None next = next
unless_unfit name (Some found) next = ends (status.Unfit (cannot_serve found.0 found.1) (name found.0)) tt

-- the records of the keyset, which this option gives, can serve for the primitive, under the table
abbrev pub handles : Origin → Table → Primitive → Keys → (Unit {0} → Plan) → Plan
handles from table primitive keys next =
    allocates (unless_unfit (unfit_key from keys) (unfit keys primitive table) (next tt))

-- the status of a keyset that can't serve, and of want of memory
abbrev pub handle_refusal : (name : ℕ → UnfitKey) → HandleError → Status
handle_refusal name (faults.NoManager i) = status.Unfit (refused.NoManager i) (name i)
handle_refusal name (faults.BadKey i rule) = status.Unfit (refused.BadKey i rule) (name i)
handle_refusal name (faults.NotRaw i) = status.Unfit (refused.NotRaw i) (name i)
handle_refusal name faults.NoMemory = status.NoMemory

-- what is held is some keyset whose records can serve
abbrev pub IsServing : Table → Primitive → Held → Type 0
IsServing table primitive held = (keys : Keys) × IsOver table primitive keys held
