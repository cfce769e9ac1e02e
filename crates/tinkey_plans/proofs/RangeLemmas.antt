-- How much a run of srange reads.
use Rattle.std.proofs.Common.{arith, ◌≡◌, ◌≢◌, ◌⊎◌, inl, inr, refl, sym, ap, subst, ℕ, ◌*◌, ◌≤◌, List, Option, Some, None, Result, Ok, Err, ◌+◌}
use Rattle.std.specs.Prelude.{Bool, true, false, ◌&&◌, if◌then◌else◌, IfSome}
use Rattle.std.specs.FinMap as map
use Rattle.key_msgs.specs.declared.primitive.Primitive.TheVariants.{Aead}
use Rattle.keyset_json.specs.Reading as Json
use Rattle.keyset_json.specs.Reading.{reads_json}
use Rattle.keyset_model.specs.Keyset.{Keys}
use Rattle.keyset_model.specs.Reading.{Refusal, Wire, Fault, reads_binary}
use Rattle.keyset_model.specs.declared.keyset.KeysetRefusal.{KeysetRefusal}
use Rattle.managers.specs.Table.{Table}
use Rattle.seal_wrap.specs.Unwrapped.{is_wrapped_binary, is_wrapped_json, unwrap_of}
use Rattle.seal_wrap.specs.Unwrapped as unwrapping
use Rattle.segment_stream.specs.KeysModel.{KeysForStreams}
use Rattle.segment_stream.specs.Range.{stream_failed, past_end}
use Rattle.segment_stream.specs.StreamKeys.{StreamUnfit, largest_of, not_stream, bad_key, stream_unfit}
use Rattle.tink_spec.specs.Files.{Files, Holds, StoreState}
use Rattle.wrapped_prims.specs.Fitness.{Unfit, unfit}
use Rattle.tinkey_plans.specs.declared.status.Status.{Status}
use Rattle.tinkey_plans.specs.Origins.{begins_of}
use Rattle.tinkey_plans.specs.declared.origin.Begins.{Begins}
use Rattle.tinkey_plans.specs.declared.origin.Origin.{Origin}
use Rattle.tinkey_plans.specs.declared.origin.Origin.TheVariants as origins
use Rattle.tinkey_plans.specs.declared.status.Status.TheVariants as status
use Rattle.tinkey_words.specs.declared.words.rows.Format.{Format}
use Rattle.tinkey_words.specs.declared.words.rows.Format.TheVariants as formats
use Rattle.tinkey_plans.specs.Commands.{asked_plan}
use Rattle.tinkey_plans.specs.Ends.{World, Ends, EndsRanging, GaveWithin, loaded, load_absent, load_long, load_failed, load_starved, ranged, range_absent, range_failed, range_starved, wrote, write_failed, made, name_taken, create_failed, create_starved}
use Rattle.tinkey_plans.specs.Handles.{handles}
use Rattle.tinkey_plans.specs.Handles as handling
use Rattle.tinkey_plans.specs.Laws.{GivesKeysetIn, IsKeysetIn, RangeGave, RangesReadLittle, limit_behind}
use Rattle.tinkey_plans.specs.Locks.{keyset_under, limit_under, takes_under}
use Rattle.tinkey_plans.specs.Plan.{Plan, allocates, ends}
use Rattle.tinkey_plans.specs.Ranging.{opens_file_range, range_output, range_for, with_range}
use Rattle.tinkey_plans.specs.Steps.{has_no_key, keyset_in, keyset_limit, puts, with_json, with_keyset}
use Rattle.tinkey_plans.specs.Streaming.{keys_for, unless_unfit, with_keys}
use Rattle.tinkey_plans.specs.FileRange.{Opened, FileRange, GivesAtMost}
use Rattle.tinkey_plans.specs.declared.sealer.Sealer.{Sealer}
use Rattle.tinkey_plans.specs.Wrapping.{ends_unopened, is_json, is_keyset, keyset_sealer, with_unwrapped, wrapped_limit}
use Rattle.tinkey_plans.proofs.GivenLemmas.{none_given}
use Rattle.tinkey_words.specs.declared.words.misuse.Misuse.{Misuse}
use Rattle.tinkey_words.specs.Words.{Asked, AskedRange, Lock, Master}
use Rattle.tinkey_plans.specs.declared.unfit.UnfitKey.{UnfitKey}
use Rattle.tinkey_plans.specs.UnfitKeys.{unfit_key}

-- ---- the output

puts_none : (file : Option (List ℕ)) (output : List ℕ) (old : World) (s : Status) (new : World) → Ends (puts file output) old s new → GaveWithin old.store new.store 0
puts_none (Some name) output old s new (made is only stood given added) = given
puts_none (Some name) output old s new (name_taken is only kept stood given there) = given
puts_none (Some name) output old s new (create_failed is only rose given may) = given
puts_none (Some name) output old s new (create_starved is only kept stood given) = given
puts_none None output old s new (wrote is only stood took) = none_given _ _ only.store
puts_none None output old s new (write_failed is only rose front) = none_given _ _ only.store

puts_here : (file : Option (List ℕ)) (output : List ℕ) (old : World) (s : Status) (new : World) → Ends (puts file output) old s new → s ≢ status.PastEnd
puts_here (Some name) output old s new (made is only stood given added) e = cc
puts_here (Some name) output old s new (name_taken is only kept stood given there) e = cc
puts_here (Some name) output old s new (create_failed is only rose given may) e = cc
puts_here (Some name) output old s new (create_starved is only kept stood given) e = cc
puts_here None output old s new (wrote is only stood took) e = cc
puts_here None output old s new (write_failed is only rose front) e = cc

-- ---- the range

record Behind (old : StoreState) (s : Status) (new : StoreState) (opened : Opened) : Type 0 where
  none : GaveWithin old new 0
  past : s ≡ status.PastEnd → opened ≡ Err past_end

behind : (opened : Opened) (out : Option (List ℕ)) (old : World) (s : Status) (new : World) → Ends (with_range opened (puts out)) old s new → Behind old.store s new.store opened
behind (Ok plain) out old s new run = record { none = puts_none out plain old s new run; past = λ e. absurd (puts_here out plain old s new run e) }
behind (Err (stream_failed number)) out old s new (is, same) = record { none = none_given _ _ (ap (λ (w : World). w.store) same); past = λ e. absurd (cc) }
behind (Err past_end) out old s new (is, same) = record { none = none_given _ _ (ap (λ (w : World). w.store) same); past = λ e. refl }

-- what a range was given
record FileRangeGave (x : FileRange) (old : StoreState) (s : Status) (new : StoreState) : Type 0 where
  most : ℕ
  least : GivesAtMost old.files x most
  past : s ≡ status.PastEnd → most ≤ 2 * x.largest
  within : GaveWithin old new most

file_range_gave : (x : FileRange) (out : Option (List ℕ)) (old : World) (s : Status) (new : World) → EndsRanging x status.StreamMissing (λ opened. Ends (with_range opened (puts out))) old s new → GaveWithin old.store new.store 0 ⊎ FileRangeGave x old.store s new.store
file_range_gave x out old s new (ranged opened store most kept stood given least past holds run) =
    let later = behind opened out (record old { store = store }) s new run in
    inr (record { most = most; least = least; past = λ e. past (later.past e); within = omega (arith, given, later.none) })
file_range_gave x out old s new (range_absent is only kept stood given holds) = inl given
file_range_gave x out old s new (range_failed most is only kept rose given least) = inr (record { most = most; least = least; past = λ e. absurd (cc); within = given })
file_range_gave x out old s new (range_starved most is only kept stood given least) = inr (record { most = most; least = least; past = λ e. absurd (cc); within = given })

-- ---- the keyset

-- it went on with some value
record WentOn {A : Type 0} (Is : A → Type 0) (next : A → Plan) (old : World) (s : Status) (new : World) : Type 0 where
  value : A
  is : Is value
  run : Ends (next value) old s new

faulty_ends : (from : Origin) (b : Bool) (fault : KeysetRefusal) (old : World) (s : Status) (new : World) → Ends (if b then ends (status.KeysetLocked fault from) tt else ends (status.Keyset fault from) tt) old s new → old ≡ new
faulty_ends from true fault old s new (is, same) = same
faulty_ends from false fault old s new (is, same) = same

wire_ends : (from : Origin) (begins : Begins) (b : Bool) (at : ℕ) (old : World) (s : Status) (new : World) → Ends (if b then ends (status.ProtoLocked at from) tt else ends (status.BadProto at from begins) tt) old s new → old ≡ new
wire_ends from begins true at old s new (is, same) = same
wire_ends from begins false at old s new (is, same) = same

json_ends : (from : Origin) (begins : Begins) (locked : Bool) (r : Result Keys Json.Refusal) (bytes : List ℕ) (next : Keys → Plan) (old : World) (s : Status) (new : World) → reads_json bytes ≡ r → Ends (with_json from begins locked r next) old s new → (old ≡ new) ⊎ WentOn (λ keys. reads_json bytes ≡ Ok keys) next old s new
json_ends from begins locked (Err Json.NotJson) bytes next old s new r (is, same) = inl same
json_ends from begins locked (Err (Json.Shape path)) bytes next old s new r (is, same) = inl same
json_ends from begins locked (Err (Json.Fault fault)) bytes next old s new r run = inl (faulty_ends from (locked && has_no_key fault) fault old s new run)
json_ends from begins locked (Ok keys) bytes next old s new r run = inr (record { value = keys; is = r; run = run })

binary_ends : (from : Origin) (begins : Begins) (locked : Bool → Bool) (r : Result Keys Refusal) (bytes : List ℕ) (next : Keys → Plan) (old : World) (s : Status) (new : World) → reads_binary bytes ≡ r → Ends (with_keyset from begins locked r next) old s new → (old ≡ new) ⊎ WentOn (λ keys. reads_binary bytes ≡ Ok keys) next old s new
binary_ends from begins locked (Err (Wire at)) bytes next old s new r run = inl (wire_ends from begins (locked false) at old s new run)
binary_ends from begins locked (Err (Fault fault)) bytes next old s new r run = inl (faulty_ends from (locked true) fault old s new run)
binary_ends from begins locked (Ok keys) bytes next old s new r run = inr (record { value = keys; is = r; run = run })

keyset_ends : (from : Origin) (form : Format) (bytes : List ℕ) (next : Keys → Plan) (old : World) (s : Status) (new : World) → Ends (keyset_in from form bytes next) old s new → (old ≡ new) ⊎ WentOn (λ keys. IsKeysetIn form bytes keys) next old s new
keyset_ends from formats.Json bytes next old s new (inl run) = json_ends from (begins_of bytes) (is_wrapped_json bytes) (reads_json bytes) bytes next old s new refl run
keyset_ends from formats.Json bytes next old s new (inr (is, same)) = inl same
keyset_ends from formats.Binary bytes next old s new (inl run) = binary_ends from (begins_of bytes) (is_wrapped_binary bytes) (reads_binary bytes) bytes next old s new refl run
keyset_ends from formats.Binary bytes next old s new (inr (is, same)) = inl same

-- under a master
unopened_ends : (from : Origin) (clear : Bool) (sealer : Sealer) (old : World) (s : Status) (new : World) → Ends (ends_unopened from clear sealer) old s new → old ≡ new
unopened_ends from true sealer old s new (is, same) = same
unopened_ends from false sealer old s new (is, same) = same

given_ends : (from : Origin) (begins : Begins) (clear : Bool) (sealer : Sealer) (table : Table) (master : Keys) (form : Format) (bytes : List ℕ) (r : Result Keys unwrapping.Refusal) (next : Keys → Plan) (old : World) (s : Status) (new : World) → unwrap_of master table bytes (is_json form) ≡ r → Ends (with_unwrapped from begins clear sealer r next) old s new
    → (old ≡ new) ⊎ WentOn (λ keys. unwrap_of master table bytes (is_json form) ≡ Ok keys) next old s new
given_ends from begins clear sealer table master form bytes (Err (unwrapping.OuterWire at)) next old s new r (is, same) = inl same
given_ends from begins clear sealer table master form bytes (Err unwrapping.NotJson) next old s new r (is, same) = inl same
given_ends from begins clear sealer table master form bytes (Err unwrapping.Member) next old s new r (is, same) = inl same
given_ends from begins clear sealer table master form bytes (Err unwrapping.NotOpened) next old s new r run = inl (unopened_ends _ clear sealer old s new run)
given_ends from begins clear sealer table master form bytes (Err (unwrapping.InnerWire at)) next old s new r (is, same) = inl same
given_ends from begins clear sealer table master form bytes (Err (unwrapping.Fault fault)) next old s new r (is, same) = inl same
given_ends from begins clear sealer table master form bytes (Ok keys) next old s new r run = inr (record { value = keys; is = r; run = run })

under_ends : (from : Origin) (table : Table) (master : Option Keys) (form : Format) (bytes : List ℕ) (next : Keys → Plan) (old : World) (s : Status) (new : World) → Ends (keyset_under from table master form bytes next) old s new → (old ≡ new) ⊎ WentOn (λ keys. GivesKeysetIn table master form bytes keys) next old s new
under_ends from table None form bytes next old s new run = keyset_ends from form bytes next old s new run
under_ends from table (Some master) form bytes next old s new (inl run) = given_ends from (begins_of bytes) (is_keyset form bytes) (keyset_sealer form master bytes) table master form bytes (unwrap_of master table bytes (is_json form)) next old s new refl run
under_ends from table (Some master) form bytes next old s new (inr (is, same)) = inl same

-- a master that can serve
serves_ends : (name : ℕ → UnfitKey) (found : Option (ℕ × Unfit)) (next : Plan) (old : World) (s : Status) (new : World) → Ends (handling.unless_unfit name found next) old s new → (old ≡ new) ⊎ Ends next old s new
serves_ends name None next old s new run = inr run
serves_ends name (Some found) next old s new (is, same) = inl same

handles_ends : (from : Origin) (table : Table) (master : Keys) (next : Unit {0} → Plan) (old : World) (s : Status) (new : World) → Ends (handles from table Aead master next) old s new → (old ≡ new) ⊎ Ends (next tt) old s new
handles_ends from table master next old s new (inl run) = serves_ends _ (unfit master Aead table) (next tt) old s new run
handles_ends from table master next old s new (inr (is, same)) = inl same

-- ---- the keys

fit_ends : (name : ℕ → UnfitKey) (found : Option (ℕ × StreamUnfit)) (next : Plan) (old : World) (s : Status) (new : World) → Ends (unless_unfit name found next) old s new → (old ≡ new) ⊎ Ends next old s new
fit_ends name None next old s new run = inr run
fit_ends name (Some (i, not_stream)) next old s new (is, same) = inl same
fit_ends name (Some (i, bad_key rule)) next old s new (is, same) = inl same

keys_end : (found : Option KeysForStreams) (then' : KeysForStreams → Plan) (old : World) (s : Status) (new : World) → Ends (with_keys found then') old s new → (old ≡ new) ⊎ WentOn (λ keys. found ≡ Some keys) then' old s new
keys_end None then' old s new (is, same) = inl same
keys_end (Some keys) then' old s new run = inr (record { value = keys; is = refl; run = run })

-- the plan behind a keyset
abbrev loads_behind : (KeysForStreams → Plan) → Keys → Plan
loads_behind then' keyset = allocates (unless_unfit (unfit_key origins.Keyset keyset) (stream_unfit keyset) (with_keys (keys_for keyset) then'))

streams_end : (keyset : Keys) (then' : KeysForStreams → Plan) (old : World) (s : Status) (new : World) → Ends (loads_behind then' keyset) old s new → (old ≡ new) ⊎ WentOn (λ keys. keys_for keyset ≡ Some keys) then' old s new
streams_end keyset then' old s new (inr (is, same)) = inl same
streams_end keyset then' old s new (inl run) = by (fit_ends _ (stream_unfit keyset) (with_keys (keys_for keyset) then') old s new run)
  where
    by : (old ≡ new) ⊎ Ends (with_keys (keys_for keyset) then') old s new → (old ≡ new) ⊎ WentOn (λ keys. keys_for keyset ≡ Some keys) then' old s new
    by (inl same) = inl same
    by (inr run) = keys_end (keys_for keyset) then' old s new run

-- ---- the whole

abbrev range_plan : List ℕ → AskedRange → Option (List ℕ) → KeysForStreams → Plan
range_plan ad range out keys = opens_file_range keys ad range (puts out)

-- what was given behind a lock
record UnderGave (table : Table) (master : Option Keys) (name : List ℕ) (form : Format) (ad : List ℕ) (range : AskedRange) (old : StoreState) (s : Status) (new : StoreState) : Type 0 where
  keys : KeysForStreams
  bytes : List ℕ
  holds : Holds old name (Some bytes)
  keyset : Keys
  gives : GivesKeysetIn table master form bytes keyset
  are : keys_for keyset ≡ Some keys
  most : ℕ
  least : GivesAtMost old.files (range_for keys ad range) most
  past : s ≡ status.PastEnd → most ≤ 2 * largest_of keys.keys
  within : GaveWithin old new (limit_under master + most)

under_gave : (table : Table) (master : Option Keys) (name : List ℕ) (form : Format) (ad : List ℕ) (range : AskedRange) (out : Option (List ℕ)) (old : World) (s : Status) (new : World)
    → Ends (takes_under origins.Keyset table master (record { file = Some name; form = form }) (loads_behind (range_plan ad range out))) old s new → GaveWithin old.store new.store (limit_under master + 1) ⊎ UnderGave table master name form ad range old.store s new.store
under_gave table master name form ad range out old s new (load_absent is only kept stood given holds) = inl (omega (arith, given))
under_gave table master name form ad range out old s new (load_long is only kept stood given holds) = inl given
under_gave table master name form ad range out old s new (load_failed is only kept rose given) = inl given
under_gave table master name form ad range out old s new (load_starved is only kept stood given) = inl given
under_gave table master name form ad range out old s new (loaded bytes store kept stood given within holds run) = by (under_ends origins.Keyset table master form bytes (loads_behind (range_plan ad range out)) mid s new run)
  where
    mid : World
    mid = record old { store = store }

    none : mid ≡ new → GaveWithin old.store new.store (limit_under master + 1)
    none same = let e : store.given ≡ new.store.given = ap (λ (w : World). w.store.given) same in omega (arith, given, within, e)

    by_file_range : (keyset : Keys) → GivesKeysetIn table master form bytes keyset → (keys : KeysForStreams) → keys_for keyset ≡ Some keys → GaveWithin store new.store 0 ⊎ FileRangeGave (range_for keys ad range) store s new.store
        → GaveWithin old.store new.store (limit_under master + 1) ⊎ UnderGave table master name form ad range old.store s new.store
    by_file_range keyset gives keys are (inl later) = inl (omega (arith, given, within, later))
    by_file_range keyset gives keys are (inr gave) = inr (record {
      keys = keys;
      bytes = bytes;
      holds = holds;
      keyset = keyset;
      gives = gives;
      are = are;
      most = gave.most;
      least = subst (λ (f : Option Files). GivesAtMost f (range_for keys ad range) gave.most) (sym kept.files) gave.least;
      past = gave.past;
      within = (let later = gave.within in omega (arith, given, within, later));
    })

    by_keys : (keyset : Keys) → GivesKeysetIn table master form bytes keyset → (keys : KeysForStreams) → keys_for keyset ≡ Some keys → Ends (range_plan ad range out keys) mid s new
        → GaveWithin old.store new.store (limit_under master + 1) ⊎ UnderGave table master name form ad range old.store s new.store
    by_keys keyset gives keys are (inl run) = by_file_range keyset gives keys are (file_range_gave (range_for keys ad range) out mid s new run)
    by_keys keyset gives keys are (inr (is, same)) = inl (none same)

    by_keyset : (keyset : Keys) → GivesKeysetIn table master form bytes keyset → (mid ≡ new) ⊎ WentOn (λ keys. keys_for keyset ≡ Some keys) (range_plan ad range out) mid s new
        → GaveWithin old.store new.store (limit_under master + 1) ⊎ UnderGave table master name form ad range old.store s new.store
    by_keyset keyset gives (inl same) = inl (none same)
    by_keyset keyset gives (inr went) = by_keys keyset gives went.value went.is went.run

    by : (mid ≡ new) ⊎ WentOn (λ keys. GivesKeysetIn table master form bytes keys) (loads_behind (range_plan ad range out)) mid s new → GaveWithin old.store new.store (limit_under master + 1) ⊎ UnderGave table master name form ad range old.store s new.store
    by (inl same) = inl (none same)
    by (inr went) = by_keyset went.value went.is (streams_end went.value (range_plan ad range out) mid s new went.run)

-- what a lock gave, before it
clear_gave : (table : Table) (name : List ℕ) (form : Format) (ad : List ℕ) (range : AskedRange) (old : StoreState) (s : Status) (new : StoreState) → GaveWithin old new (keyset_limit + 1) ⊎ UnderGave table None name form ad range old s new
    → GaveWithin old new (limit_behind None + 1) ⊎ RangeGave table None name form ad range old s new
clear_gave table name form ad range old s new (inl given) = inl given
clear_gave table name form ad range old s new (inr g) = inr (record {
  keys = g.keys;
  lie = record { master = None; opens = tt; bytes = g.bytes; holds = g.holds; keyset = g.keyset; gives = g.gives; are = g.are };
  most = g.most;
  least = g.least;
  past = g.past;
  within = g.within;
})

held_before : (old store : StoreState) (name : List ℕ) (found : Option (List ℕ)) → old.files ≡ store.files → Holds store name found → Holds old name found
held_before old store name found same holds = subst (λ (f : Option Files). IfSome f (λ files. map.get files name ≡ found)) (sym same) holds

locked_gave : (table : Table) (lock : Master) (name : List ℕ) (form : Format) (ad : List ℕ) (range : AskedRange) (out : Option (List ℕ)) (old : World) (s : Status) (new : World) → Ends (range_output table (Some lock) name form ad range (puts out)) old s new
    → GaveWithin old.store new.store (limit_behind (Some lock) + 1) ⊎ RangeGave table (Some lock) name form ad range old.store s new.store
locked_gave table lock name form ad range out old s new (load_absent is only kept stood given holds) = inl (omega (arith, given))
locked_gave table lock name form ad range out old s new (load_long is only kept stood given holds) = inl (omega (arith, given))
locked_gave table lock name form ad range out old s new (load_failed is only kept rose given) = inl (omega (arith, given))
locked_gave table lock name form ad range out old s new (load_starved is only kept stood given) = inl (omega (arith, given))
locked_gave table lock name form ad range out old s new (loaded bytes store kept stood given within holds run) = by (keyset_ends origins.Master lock.form bytes opens mid s new run)
  where
    mid : World
    mid = record old { store = store }

    taken : Option Keys → Plan
    taken master = takes_under origins.Keyset table master (record { file = Some name; form = form }) (loads_behind (range_plan ad range out))

    opens : Keys → Plan
    opens master = handles origins.Master table Aead master (λ fit. taken (Some master))

    none : mid ≡ new → GaveWithin old.store new.store (limit_behind (Some lock) + 1)
    none same = let e : store.given ≡ new.store.given = ap (λ (w : World). w.store.given) same in omega (arith, given, within, e)

    by_text : (master : Keys) → IsKeysetIn lock.form bytes master → GaveWithin store new.store (wrapped_limit + 1) ⊎ UnderGave table (Some master) name form ad range store s new.store
        → GaveWithin old.store new.store (limit_behind (Some lock) + 1) ⊎ RangeGave table (Some lock) name form ad range old.store s new.store
    by_text master read (inl later) = inl (omega (arith, given, within, later))
    by_text master read (inr g) = inr (record {
      keys = g.keys;
      lie = record { master = Some master; opens = (bytes, holds, read); bytes = g.bytes; holds = held_before old.store store name (Some g.bytes) kept.files g.holds; keyset = g.keyset; gives = g.gives; are = g.are };
      most = g.most;
      least = subst (λ (f : Option Files). GivesAtMost f (range_for g.keys ad range) g.most) (sym kept.files) g.least;
      past = g.past;
      within = (let later = g.within in omega (arith, given, within, later));
    })

    by_fit : (master : Keys) → IsKeysetIn lock.form bytes master → (mid ≡ new) ⊎ Ends (taken (Some master)) mid s new
        → GaveWithin old.store new.store (limit_behind (Some lock) + 1) ⊎ RangeGave table (Some lock) name form ad range old.store s new.store
    by_fit master read (inl same) = inl (none same)
    by_fit master read (inr run) = by_text master read (under_gave table (Some master) name form ad range out mid s new run)

    by : (mid ≡ new) ⊎ WentOn (λ keys. IsKeysetIn lock.form bytes keys) opens mid s new → GaveWithin old.store new.store (limit_behind (Some lock) + 1) ⊎ RangeGave table (Some lock) name form ad range old.store s new.store
    by (inl same) = inl (none same)
    by (inr went) = by_fit went.value went.is (handles_ends _ table went.value (λ fit. taken (Some went.value)) mid s new went.run)

range_gave : (table : Table) (lock : Lock) (name : List ℕ) (form : Format) (ad : List ℕ) (range : AskedRange) (out : Option (List ℕ)) (old : World) (s : Status) (new : World) → Ends (range_output table lock name form ad range (puts out)) old s new
    → GaveWithin old.store new.store (limit_behind lock + 1) ⊎ RangeGave table lock name form ad range old.store s new.store
range_gave table None name form ad range out old s new run = clear_gave table name form ad range old.store s new.store (under_gave table None name form ad range out old s new run)
range_gave table (Some lock) name form ad range out old s new run = locked_gave table lock name form ad range out old s new run

pub ranges_read_little : RangesReadLittle
ranges_read_little table words lock name form ad range out old s new is run =
    range_gave table lock name form ad range out old s new (subst (λ (r : Result Asked Misuse). Ends (asked_plan table r words) old s new) is run)
