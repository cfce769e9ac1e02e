-- A keyset that is read in one of its forms, or isn't.
use Rattle.std.proofs.Common.{inl, inr, refl, ℕ, Bool, true, false, Result, Err}
use Rattle.std.specs.Prelude.{◌&&◌, if◌then◌else◌}
use Rattle.keyset_json.specs.Reading as json
use Rattle.keyset_json.specs.declared.reading.JsonError.{JsonError}
use Rattle.keyset_json.specs.declared.reading.JsonError.TheVariants as json_errors
use Rattle.keyset_model.specs.Keyset.{Keys}
use Rattle.keyset_model.specs.Reading as binary
use Rattle.keyset_model.specs.declared.keyset.KeysetRefusal.{KeysetRefusal}
use Rattle.keyset_model.specs.declared.reading.ReadError.{ReadError}
use Rattle.keyset_model.specs.declared.reading.ReadError.TheVariants as errors
use Rattle.tinkey_plans.specs.Ends.{World, Ends}
use Rattle.tinkey_plans.specs.Plan.{Plan, allocates, ends}
use Rattle.tinkey_plans.specs.Steps.{has_no_key, json_refusal_of, refusal_of, with_json, with_keyset, OrStarved}
use Rattle.tinkey_plans.specs.declared.origin.Begins.{Begins}
use Rattle.tinkey_plans.specs.declared.origin.Origin.{Origin}
use Rattle.tinkey_plans.specs.declared.status.Status.{Status}
use Rattle.tinkey_plans.specs.declared.status.Status.TheVariants as status

faulty : (from : Origin) (b : Bool) (fault : KeysetRefusal) (w : World) → Ends (if b then ends (status.KeysetLocked fault from) tt else ends (status.Keyset fault from) tt) w (if b then status.KeysetLocked fault from else status.Keyset fault from) w
faulty from true fault w = (refl, refl)
faulty from false fault w = (refl, refl)

uncut : (from : Origin) (begins : Begins) (b : Bool) (at : ℕ) (w : World) → Ends (if b then ends (status.ProtoLocked at from) tt else ends (status.BadProto at from begins) tt) w (if b then status.ProtoLocked at from else status.BadProto at from begins) w
uncut from begins true at w = (refl, refl)
uncut from begins false at w = (refl, refl)

json_so : (from : Origin) (begins : Begins) (locked : Bool) (read : Result Keys json.Refusal) (e : JsonError) (w : World) → json.GivesKeyset (Err e) read → (next : Keys → Plan) → Ends (allocates (with_json from begins locked read next)) w (json_refusal_of from begins locked e) w
json_so from begins locked read json_errors.NotJson w is next = inl (rw is (refl, refl))
json_so from begins locked read (json_errors.Shape path) w is next = inl (rw is (refl, refl))
json_so from begins locked read (json_errors.Fault fault) w is next = inl (rw is (faulty from (locked && has_no_key fault) fault w))
json_so from begins locked read json_errors.NoMemory w is next = inr (refl, refl)

-- the status of a keyset that isn't read as JSON, or of want of memory
pub json_refused : (from : Origin) (begins : Begins) (locked : Bool) (read : Result Keys json.Refusal) (e : JsonError) (s : Status) (w : World) → OrStarved (json_refusal_of from begins locked e) s → json.GivesKeyset (Err e) read → (next : Keys → Plan) → Ends (allocates (with_json from begins locked read next)) w s w
json_refused from begins locked read e s w (inl is) why next = rw is (json_so from begins locked read e w why next)
json_refused from begins locked read e s w (inr starved) why next = inr (starved, refl)

binary_so : (from : Origin) (begins : Begins) (locked : Bool → Bool) (read : Result Keys binary.Refusal) (e : ReadError) (w : World) → binary.GivesKeyset (Err e) read → (next : Keys → Plan) → Ends (allocates (with_keyset from begins locked read next)) w (refusal_of from begins locked e) w
binary_so from begins locked read (errors.Wire wire) w is next = inl (rw is (uncut from begins (locked false) wire.at w))
binary_so from begins locked read (errors.Fault fault) w is next = inl (rw is (faulty from (locked true) fault w))
binary_so from begins locked read errors.NoMemory w is next = inr (refl, refl)

-- the same of one that isn't read in the binary form
pub binary_refused : (from : Origin) (begins : Begins) (locked : Bool → Bool) (read : Result Keys binary.Refusal) (e : ReadError) (s : Status) (w : World) → OrStarved (refusal_of from begins locked e) s → binary.GivesKeyset (Err e) read → (next : Keys → Plan) → Ends (allocates (with_keyset from begins locked read next)) w s w
binary_refused from begins locked read e s w (inl is) why next = rw is (binary_so from begins locked read e w why next)
binary_refused from begins locked read e s w (inr starved) why next = inr (starved, refl)
