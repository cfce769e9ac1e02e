-- The causes of faults, that none is hidden, and completeness, of every end of every plan.
use Rattle.std.proofs.Common.{◌≡◌, ◌≢◌, inl, inr, ℕ, ◌≤◌, List, [], refl, sym, ◌∙◌, ap, arith}
use Rattle.std.specs.Prelude.{Result, Ok, Err, true, false}
use Rattle.tink_spec.specs.Outside.{SourceState, SinkState, EntropyState, Drew, Rose, Stood}
use Rattle.tink_spec.specs.Files.{StoreState}
use Rattle.segment_stream.specs.Opening.{StreamRefusal, too_many, failed}
use Rattle.segment_stream.specs.Pumping.{Part, Pumps, fault_of}
use Rattle.segment_stream.specs.Pumping as pass
use Rattle.segment_stream.specs.declared.fault.OpenPumpFault.{OpenPumpFault}
use Rattle.segment_stream.specs.declared.fault.OpenPumpFault.TheVariants as faults
use Rattle.keyset_model.specs.Keyset.{Keys}
use Rattle.tinkey_session.proofs.StoreLemmas.{asks_faults, may_faults}
use Rattle.tinkey_session.proofs.UnsavedLemmas.{some_session}
use Rattle.tinkey_session.specs.Saving.{FileAsked}
use Rattle.tinkey_session.specs.Talking.{Exchange, goes, Limit, long_line, many_lines}
use Rattle.tinkey_session.specs.Talks.{HasAsked, Sides, Talks, HasTalked, NoneRose, limit_fault}
use Rattle.tinkey_session.specs.Talks as talks
use Rattle.tinkey_session.specs.declared.talk.TalkFault.{TalkFault}
use Rattle.tinkey_session.specs.declared.talk.TalkFault.TheVariants as talk_faults
use Rattle.tinkey_plans.specs.declared.status.Status.{Status}
use Rattle.tinkey_plans.specs.declared.status.Status.TheVariants as status
use Rattle.tinkey_plans.specs.Plan.{Plan, ends, writes, creates, looks, allocates, loads, reads_all, reads_front, ranges, draws, pumps, collects, exchanges, stream_status, limit_status, IsStated}
use Rattle.tinkey_plans.specs.Ends.{World, Ends, KeptDraft, OnlyStreams, pump_status, OnlySource, OnlySink, OnlyStore, OnlyEntropy, loaded, load_absent, load_long, load_failed, load_starved, ranged, range_absent, range_failed, range_starved, wrote, write_failed, made, name_taken, create_failed, create_starved, look_free, look_taken, look_failed, read, too_long, read_failed, read_starved, front_read, front_failed, settled, draw_failed, draw_starved, talk_status, sides_of, collected, collect_refused, collect_unread, collect_unkept, exchanged, exchange_ended}
use Rattle.tinkey_plans.specs.Promises.{HasCause, SavesNothing, ShowsFaults, NoneFailed, Completes}

-- a stated status is no fault, and no want of memory
abbrev pub not_read_fault : (s : Status) → IsStated s → s ≡ status.ReadFault → ⊥
not_read_fault s stated is = let h : IsStated status.ReadFault = rw is at stated in h

abbrev pub not_write_fault : (s : Status) → IsStated s → s ≡ status.WriteFault → ⊥
not_write_fault s stated is = let h : IsStated status.WriteFault = rw is at stated in h

abbrev pub not_store_fault : (s : Status) → IsStated s → s ≡ status.StoreFault → ⊥
not_store_fault s stated is = let h : IsStated status.StoreFault = rw is at stated in h

abbrev pub not_entropy_fault : (s : Status) → IsStated s → s ≡ status.EntropyFault → ⊥
not_entropy_fault s stated is = let h : IsStated status.EntropyFault = rw is at stated in h

abbrev pub not_no_memory : (s : Status) → IsStated s → s ≡ status.NoMemory → ⊥
not_no_memory s stated is = let h : IsStated status.NoMemory = rw is at stated in h

pub rose_after : (a b c : ℕ) → a ≤ b → Rose b c → Rose a c
rose_after a b c le (inl lt) = inl (omega arith)
rose_after a b c le (inr last) = inr last

-- the status of a refused pass
refusal_status : (refusal : StreamRefusal) → pump_status (Err (fault_of refusal)) ≡ stream_status refusal
refusal_status too_many = refl
refusal_status (failed number) = refl

pub refusal_stated : (refusal : StreamRefusal) → IsStated (stream_status refusal)
refusal_stated too_many = tt
refusal_stated (failed number) = tt

-- the status of a pass with this result
pub of_result : (s : Status) (result other : Result (Unit {0}) OpenPumpFault) → s ≡ pump_status result → result ≡ other → s ≡ pump_status other
of_result s result other is same = is ∙ ap pump_status same

pub of_refusal : (s : Status) (result : Result (Unit {0}) OpenPumpFault) (refusal : StreamRefusal) → s ≡ pump_status result → result ≡ Err (fault_of refusal) → s ≡ stream_status refusal
of_refusal s result refusal is same = of_result s result (Err (fault_of refusal)) is same ∙ refusal_status refusal

-- the status of a session that is past a limit
past_status : (limit : Limit) → talk_status (limit_fault limit) ≡ limit_status limit
past_status long_line = refl
past_status many_lines = refl

limit_stated : (limit : Limit) → IsStated (limit_status limit)
limit_stated long_line = tt
limit_stated many_lines = tt

-- the status of a session that ended with this fault
same_fault : (fault other : TalkFault) → ◌≡◌ {A = Result Keys TalkFault} (Err fault) (Err other) → fault ≡ other
same_fault fault other same = cc

pub of_fault : (s : Status) (fault other : TalkFault) → s ≡ talk_status fault → ◌≡◌ {A = Result Keys TalkFault} (Err fault) (Err other) → s ≡ talk_status other
of_fault s fault other is same = is ∙ ap talk_status (same_fault fault other same)

pub of_limit : (s : Status) (fault : TalkFault) (limit : Limit) → s ≡ talk_status fault → ◌≡◌ {A = Result Keys TalkFault} (Err fault) (Err (limit_fault limit)) → s ≡ limit_status limit
of_limit s fault limit is same = of_fault s fault (limit_fault limit) is same ∙ past_status limit

-- a session that came to the end of its input
pub record Went (exchange : Exchange) (keys : Keys) (asked : List FileAsked) (old new : Sides) : Type 0 where
  pub taken : List ℕ
  pub drawn : List ℕ
  pub last : keys ≡ (exchange taken drawn true).keys
  pub has : HasTalked Drew exchange taken drawn true goes old new
  pub none : NoneRose old new
  pub files : (exchange taken drawn true).asked ≡ asked

pub went : (exchange : Exchange) (keys : Keys) (asked : List FileAsked) (old new : Sides) (so : Talks exchange (Ok keys) old new) → HasAsked exchange (Ok keys) old new asked so → Went exchange keys asked old new
went exchange keys asked old new (talks.talked taken drawn r has none) e = record { taken = taken; drawn = drawn; last = (let e : Ok keys ≡ Ok (exchange taken drawn true).keys = r in cc); has = has; none = none; files = e }
went exchange keys asked old new (talks.passed taken drawn limit r has none) e = absurd (cc)
went exchange keys asked old new (talks.unread taken drawn r has rose sink entropy) e = absurd (cc)
went exchange keys asked old new (talks.undrawn taken drawn ended r has rose source sink) e = absurd (cc)
went exchange keys asked old new (talks.unwritten taken drawn ended r gave drew front end rose source entropy) e = absurd (cc)
went exchange keys asked old new (talks.starved taken more drawn part r gave drew took stop none) e = absurd (cc)

-- The causes.

no_fault : (old new : World) (s : Status) → IsStated s → HasCause old s new
no_fault old new s stated = record {
  read = λ h. absurd (not_read_fault s stated h);
  write = λ h. absurd (not_write_fault s stated h);
  store = λ h. absurd (not_store_fault s stated h);
  entropy = λ h. absurd (not_entropy_fault s stated h);
}

-- want of memory is no fault
starved_cause : (old new : World) (s : Status) → s ≡ status.NoMemory → HasCause old s new
starved_cause old new s is = record { read = λ h. absurd (cc); write = λ h. absurd (cc); store = λ h. absurd (cc); entropy = λ h. absurd (cc) }

store_cause : (old new : World) (s : Status) → s ≡ status.StoreFault → Rose old.store.faults new.store.faults → HasCause old s new
store_cause old new s is rose = record { read = λ h. absurd (cc); write = λ h. absurd (cc); store = λ h. rose; entropy = λ h. absurd (cc) }

pump_cause : (part : Part) (result : Result (Unit {0}) OpenPumpFault) (old : World) (s : Status) (new : World) → s ≡ pump_status result → Pumps part [] [] false result old.source new.source old.sink new.sink → HasCause old s new
pump_cause part result old s new is (pass.pumped more out r gave follows end took o d) = no_fault old new s (rw (of_result s result (Ok tt) is r) tt)
pump_cause part result old s new is (pass.refused more out ended refusal r gave follows end took o d) = no_fault old new s (rw (of_refusal s result refusal is r) (refusal_stated refusal))
pump_cause part result old s new is (pass.unread more out r rose gave follows took o d) = let fault : s ≡ status.ReadFault = of_result s result (Err faults.ReadFault) is r in record { read = λ h. rose; write = λ h. absurd (cc); store = λ h. absurd (cc); entropy = λ h. absurd (cc) }
pump_cause part result old s new is (pass.unwritten more out rest ended r rose gave follows end took some o) = let fault : s ≡ status.WriteFault = of_result s result (Err faults.WriteFault) is r in record { read = λ h. absurd (cc); write = λ h. rose; store = λ h. absurd (cc); entropy = λ h. absurd (cc) }

talk_cause : (exchange : Exchange) (fault : TalkFault) (old : World) (s : Status) (new : World) → s ≡ talk_status fault → Talks exchange (Err fault) (sides_of old) (sides_of new) → HasCause old s new
talk_cause exchange fault old s new is (talks.talked taken drawn r has none) = absurd (cc)
talk_cause exchange fault old s new is (talks.passed taken drawn limit r has none) = no_fault old new s (rw (of_limit s fault limit is r) (limit_stated limit))
talk_cause exchange fault old s new is (talks.unread taken drawn r has rose sink entropy) = let e : s ≡ status.ReadFault = of_fault s fault talk_faults.ReadFault is r in record { read = λ h. rose; write = λ h. absurd (cc); store = λ h. absurd (cc); entropy = λ h. absurd (cc) }
talk_cause exchange fault old s new is (talks.undrawn taken drawn ended r has rose source sink) = let e : s ≡ status.EntropyFault = of_fault s fault talk_faults.EntropyFault is r in record { read = λ h. absurd (cc); write = λ h. absurd (cc); store = λ h. absurd (cc); entropy = λ h. rose }
talk_cause exchange fault old s new is (talks.unwritten taken drawn ended r gave drew front end rose source entropy) = let e : s ≡ status.WriteFault = of_fault s fault talk_faults.WriteFault is r in record { read = λ h. absurd (cc); write = λ h. rose; store = λ h. absurd (cc); entropy = λ h. absurd (cc) }
talk_cause exchange fault old s new is (talks.starved taken more drawn part r gave drew took stop none) = starved_cause old new s (of_fault s fault talk_faults.NoMemory is r)

pub has_cause : (p : Plan) (old : World) (s : Status) (new : World) → Ends p old s new → HasCause old s new
has_cause (ends answered stated) old s new (is, same) = no_fault old new s (rw is stated)
has_cause (writes output) old s new (wrote is only stood took) = no_fault old new s (rw is tt)
has_cause (writes output) old s new (write_failed is only rose front) = record { read = λ h. absurd (cc); write = λ h. rose; store = λ h. absurd (cc); entropy = λ h. absurd (cc) }
has_cause (creates name output taken stated) old s new (made is only stood given added) = no_fault old new s (rw is tt)
has_cause (creates name output taken stated) old s new (name_taken is only kept stood given there) = no_fault old new s (rw is stated)
has_cause (creates name output taken stated) old s new (create_failed is only rose given may) = store_cause old new s is rose
has_cause (creates name output taken stated) old s new (create_starved is only kept stood given) = starved_cause old new s is
has_cause (looks name taken stated next) old s new (look_free store kept stood given holds run) =
    let later = has_cause next (record old { store = store }) s new run in
    record { read = later.read; write = later.write; store = λ h. rose_after _ _ _ kept.faults (later.store h); entropy = later.entropy }
has_cause (looks name taken stated next) old s new (look_taken is only kept stood given there) = no_fault old new s (rw is stated)
has_cause (looks name taken stated next) old s new (look_failed is only kept rose given) = store_cause old new s is rose
has_cause (allocates next) old s new (inl run) = has_cause next old s new run
has_cause (allocates next) old s new (inr (is, same)) = starved_cause old new s is
has_cause (loads name limit absent long a l next) old s new (loaded bytes store kept stood given within holds run) =
    let later = has_cause (next bytes) (record old { store = store }) s new run in
    record { read = later.read; write = later.write; store = λ h. rose_after _ _ _ kept.faults (later.store h); entropy = later.entropy }
has_cause (loads name limit absent long a l next) old s new (load_absent is only kept stood given holds) = no_fault old new s (rw is a)
has_cause (loads name limit absent long a l next) old s new (load_long is only kept stood given holds) = no_fault old new s (rw is l)
has_cause (loads name limit absent long a l next) old s new (load_failed is only kept rose given) = store_cause old new s is rose
has_cause (loads name limit absent long a l next) old s new (load_starved is only kept stood given) = starved_cause old new s is
has_cause (ranges x absent a next) old s new (ranged opened store most kept stood given least past holds run) =
    let later = has_cause (next opened) (record old { store = store }) s new run in
    record { read = later.read; write = later.write; store = λ h. rose_after _ _ _ kept.faults (later.store h); entropy = later.entropy }
has_cause (ranges x absent a next) old s new (range_absent is only kept stood given holds) = no_fault old new s (rw is a)
has_cause (ranges x absent a next) old s new (range_failed most is only kept rose given least) = store_cause old new s is rose
has_cause (ranges x absent a next) old s new (range_starved most is only kept stood given least) = starved_cause old new s is
has_cause (reads_all limit long stated next) old s new (read all source gave stood within end run) =
    let later = has_cause (next all) (record old { source = source }) s new run in
    record { read = λ h. rose_after _ _ _ gave.faults (later.read h); write = later.write; store = later.store; entropy = later.entropy }
has_cause (reads_all limit long stated next) old s new (too_long is only stood count) = no_fault old new s (rw is stated)
has_cause (reads_all limit long stated next) old s new (read_failed is only rose upto) = record { read = λ h. rose; write = λ h. absurd (cc); store = λ h. absurd (cc); entropy = λ h. absurd (cc) }
has_cause (reads_all limit long stated next) old s new (read_starved is only stood upto) = starved_cause old new s is
has_cause (reads_front size next) old s new (front_read front source gave stood within end run) =
    let later = has_cause (next front) (record old { source = source }) s new run in
    record { read = λ h. rose_after _ _ _ gave.faults (later.read h); write = later.write; store = later.store; entropy = later.entropy }
has_cause (reads_front size next) old s new (front_failed piece is only rose gave few) = record { read = λ h. rose; write = λ h. absurd (cc); store = λ h. absurd (cc); entropy = λ h. absurd (cc) }
has_cause (draws kind give next) old s new (settled drawn entropy given drew stood settles run) =
    let later = has_cause (next given) (record old { entropy = entropy }) s new run in
    record { read = later.read; write = later.write; store = later.store; entropy = λ h. rose_after _ _ _ drew.faults (later.entropy h) }
has_cause (draws kind give next) old s new (draw_failed is only out) = record { read = λ h. absurd (cc); write = λ h. absurd (cc); store = λ h. absurd (cc); entropy = λ h. out.rose }
has_cause (draws kind give next) old s new (draw_starved parts is only drawn drew stood none) = starved_cause old new s is
has_cause (pumps part) old s new e = pump_cause part e.result old s new e.status e.pass
has_cause (collects part next) old s new (collected all source store gave stood kept quiet given end none run) =
    let later = has_cause (next (part.output all true)) (record old { source = source; store = store }) s new run in
    record { read = λ h. rose_after _ _ _ gave.faults (later.read h); write = later.write; store = λ h. rose_after _ _ _ kept.faults (later.store h); entropy = later.entropy }
has_cause (collects part next) old s new (collect_refused taken ended refusal is kept_draft source store end decided lasting) = no_fault old new s (rw is (refusal_stated refusal))
has_cause (collects part next) old s new (collect_unread taken is kept_draft rose store none) = record { read = λ h. rose; write = λ h. absurd (cc); store = λ h. absurd (cc); entropy = λ h. absurd (cc) }
has_cause (collects part next) old s new (collect_unkept taken ended is kept_draft source rose some) = store_cause old new s is rose
has_cause (exchanges exchange next) old s new (exchanged keys mid talk steady run) =
    let later = has_cause (next keys) mid s new run in
    let t = some_session exchange (Ok keys) (sides_of old) (sides_of mid) old.store mid.store talk in
    let has = (went (exchange t.0) keys talk.asked (sides_of old) (sides_of mid) t.2 t.3).has in
    record {
      read = λ h. rose_after _ _ _ has.gave.faults (later.read h);
      write = λ h. rose_after _ _ _ has.took.faults (later.write h);
      store = λ h. rose_after _ _ _ (asks_faults talk.asked old.store mid.store talk.asks) (later.store h);
      entropy = λ h. rose_after _ _ _ has.drew.faults (later.entropy h);
    }
has_cause (exchanges exchange next) old s new (exchange_ended fault is talk steady) =
    let t = some_session exchange (Err fault) (sides_of old) (sides_of new) old.store new.store talk in
    talk_cause (exchange t.0) fault old s new is t.2

-- No fault is hidden.

source_stood : (old new : World) → old.source ≡ new.source → Stood old.source.faults new.source.faults
source_stood old new same = sym (ap (λ (x : SourceState). x.faults) same)

sink_stood : (old new : World) → old.sink ≡ new.sink → Stood old.sink.faults new.sink.faults
sink_stood old new same = sym (ap (λ (x : SinkState). x.faults) same)

store_stood : (old new : World) → old.store ≡ new.store → Stood old.store.faults new.store.faults
store_stood old new same = sym (ap (λ (x : StoreState). x.faults) same)

entropy_stood : (old new : World) → old.entropy ≡ new.entropy → Stood old.entropy.faults new.entropy.faults
entropy_stood old new same = sym (ap (λ (x : EntropyState). x.faults) same)

-- no object has failed
all_stood : {p : Plan} (old new : World) (s : Status) → old ≡ new → ShowsFaults p old s new
all_stood old new s same = record {
  read = λ other. source_stood old new (ap (λ (w : World). w.source) same);
  write = λ other. sink_stood old new (ap (λ (w : World). w.sink) same);
  store = λ saves other. store_stood old new (ap (λ (w : World). w.store) same);
  entropy = λ other. entropy_stood old new (ap (λ (w : World). w.entropy) same);
}

-- the one object that was used hasn't failed, or the status says so
sink_shown : {p : Plan} (old new : World) (s : Status) → OnlySink old new → (s ≢ status.WriteFault → Stood old.sink.faults new.sink.faults) → ShowsFaults p old s new
sink_shown old new s only stood = record { read = λ other. source_stood old new only.source; write = stood; store = λ saves other. store_stood old new only.store; entropy = λ other. entropy_stood old new only.entropy }

store_shown : {p : Plan} (old new : World) (s : Status) → OnlyStore old new → (s ≢ status.StoreFault → Stood old.store.faults new.store.faults) → ShowsFaults p old s new
store_shown old new s only stood = record { read = λ other. source_stood old new only.source; write = λ other. sink_stood old new only.sink; store = λ saves. stood; entropy = λ other. entropy_stood old new only.entropy }

source_shown : {p : Plan} (old new : World) (s : Status) → OnlySource old new → (s ≢ status.ReadFault → Stood old.source.faults new.source.faults) → ShowsFaults p old s new
source_shown old new s only stood = record { read = stood; write = λ other. sink_stood old new only.sink; store = λ saves other. store_stood old new only.store; entropy = λ other. entropy_stood old new only.entropy }

entropy_shown : {p : Plan} (old new : World) (s : Status) → OnlyEntropy old new → (s ≢ status.EntropyFault → Stood old.entropy.faults new.entropy.faults) → ShowsFaults p old s new
entropy_shown old new s only stood = record { read = λ other. source_stood old new only.source; write = λ other. sink_stood old new only.sink; store = λ saves other. store_stood old new only.store; entropy = stood }

pump_shown : {p : Plan} (result : Result (Unit {0}) OpenPumpFault) (old : World) (s : Status) (new : World) → s ≡ pump_status result → OnlyStreams old new → pass.ShowsFaults result old.source new.source old.sink new.sink → ShowsFaults p old s new
pump_shown (Ok done) old s new is only shown = record { read = λ other. shown.0; write = λ other. shown.1; store = λ saves other. store_stood old new only.store; entropy = λ other. entropy_stood old new only.entropy }
pump_shown (Err faults.ReadFault) old s new is only shown = record { read = λ other. absurd (other is); write = λ other. shown.1; store = λ saves other. store_stood old new only.store; entropy = λ other. entropy_stood old new only.entropy }
pump_shown (Err faults.WriteFault) old s new is only shown = record { read = λ other. shown.0; write = λ other. absurd (other is); store = λ saves other. store_stood old new only.store; entropy = λ other. entropy_stood old new only.entropy }
pump_shown (Err faults.TooManySegments) old s new is only shown = record { read = λ other. shown.0; write = λ other. shown.1; store = λ saves other. store_stood old new only.store; entropy = λ other. entropy_stood old new only.entropy }
pump_shown (Err (faults.StreamFailed number)) old s new is only shown = record { read = λ other. shown.0; write = λ other. shown.1; store = λ saves other. store_stood old new only.store; entropy = λ other. entropy_stood old new only.entropy }

talk_shown : {p : Plan} (exchange : Exchange) (fault : TalkFault) (old : World) (s : Status) (new : World) → s ≡ talk_status fault → Talks exchange (Err fault) (sides_of old) (sides_of new) → (SavesNothing p → ⊥) → ShowsFaults p old s new
talk_shown exchange fault old s new is (talks.talked taken drawn r has none) never = absurd (cc)
talk_shown exchange fault old s new is (talks.passed taken drawn limit r has none) never = record { read = λ other. none.read; write = λ other. none.write; store = λ saves. absurd (never saves); entropy = λ other. none.draw }
talk_shown exchange fault old s new is (talks.unread taken drawn r has rose sink entropy) never = record { read = λ other. absurd (other (of_fault s fault talk_faults.ReadFault is r)); write = λ other. sink; store = λ saves. absurd (never saves); entropy = λ other. entropy }
talk_shown exchange fault old s new is (talks.undrawn taken drawn ended r has rose source sink) never = record { read = λ other. source; write = λ other. sink; store = λ saves. absurd (never saves); entropy = λ other. absurd (other (of_fault s fault talk_faults.EntropyFault is r)) }
talk_shown exchange fault old s new is (talks.unwritten taken drawn ended r gave drew front end rose source entropy) never = record { read = λ other. source; write = λ other. absurd (other (of_fault s fault talk_faults.WriteFault is r)); store = λ saves. absurd (never saves); entropy = λ other. entropy }
talk_shown exchange fault old s new is (talks.starved taken more drawn part r gave drew took stop none) never = record { read = λ other. none.read; write = λ other. none.write; store = λ saves. absurd (never saves); entropy = λ other. none.draw }

-- source and store alone were used, and what the source gave was kept in a draft
draft_shown : {p : Plan} (old new : World) (s : Status) (taken : List ℕ) → KeptDraft old new taken → (s ≢ status.ReadFault → Stood old.source.faults new.source.faults) → (s ≢ status.StoreFault → Stood old.store.faults new.store.faults) → ShowsFaults p old s new
draft_shown old new s taken kept_draft source store = record { read = source; write = λ other. sink_stood old new kept_draft.sink; store = λ saves. store; entropy = λ other. entropy_stood old new kept_draft.entropy }

pub shows_faults : (p : Plan) (old : World) (s : Status) (new : World) → Ends p old s new → ShowsFaults p old s new
shows_faults (ends answered stated) old s new (is, same) = all_stood old new s same
shows_faults (writes output) old s new (wrote is only stood took) = sink_shown old new s only (λ other. stood)
shows_faults (writes output) old s new (write_failed is only rose front) = sink_shown old new s only (λ other. absurd (other is))
shows_faults (creates name output taken stated) old s new (made is only stood given added) = store_shown old new s only (λ other. stood)
shows_faults (creates name output taken stated) old s new (name_taken is only kept stood given there) = store_shown old new s only (λ other. stood)
shows_faults (creates name output taken stated) old s new (create_failed is only rose given may) = store_shown old new s only (λ other. absurd (other is))
shows_faults (creates name output taken stated) old s new (create_starved is only kept stood given) = store_shown old new s only (λ other. stood)
shows_faults (looks name taken stated next) old s new (look_free store kept stood given holds run) =
    let later = shows_faults next (record old { store = store }) s new run in
    record { read = later.read; write = later.write; store = λ saves other. later.store saves other ∙ stood; entropy = later.entropy }
shows_faults (looks name taken stated next) old s new (look_taken is only kept stood given there) = store_shown old new s only (λ other. stood)
shows_faults (looks name taken stated next) old s new (look_failed is only kept rose given) = store_shown old new s only (λ other. absurd (other is))
shows_faults (allocates next) old s new (inl run) = let later = shows_faults next old s new run in record { read = later.read; write = later.write; store = later.store; entropy = later.entropy }
shows_faults (allocates next) old s new (inr (is, same)) = all_stood old new s same
shows_faults (loads name limit absent long a l next) old s new (loaded bytes store kept stood given within holds run) =
    let later = shows_faults (next bytes) (record old { store = store }) s new run in
    record { read = later.read; write = later.write; store = λ saves other. later.store (saves bytes) other ∙ stood; entropy = later.entropy }
shows_faults (loads name limit absent long a l next) old s new (load_absent is only kept stood given holds) = store_shown old new s only (λ other. stood)
shows_faults (loads name limit absent long a l next) old s new (load_long is only kept stood given holds) = store_shown old new s only (λ other. stood)
shows_faults (loads name limit absent long a l next) old s new (load_failed is only kept rose given) = store_shown old new s only (λ other. absurd (other is))
shows_faults (loads name limit absent long a l next) old s new (load_starved is only kept stood given) = store_shown old new s only (λ other. stood)
shows_faults (ranges x absent a next) old s new (ranged opened store most kept stood given least past holds run) =
    let later = shows_faults (next opened) (record old { store = store }) s new run in
    record { read = later.read; write = later.write; store = λ saves other. later.store (saves opened) other ∙ stood; entropy = later.entropy }
shows_faults (ranges x absent a next) old s new (range_absent is only kept stood given holds) = store_shown old new s only (λ other. stood)
shows_faults (ranges x absent a next) old s new (range_failed most is only kept rose given least) = store_shown old new s only (λ other. absurd (other is))
shows_faults (ranges x absent a next) old s new (range_starved most is only kept stood given least) = store_shown old new s only (λ other. stood)
shows_faults (reads_all limit long stated next) old s new (read all source gave stood within end run) =
    let later = shows_faults (next all) (record old { source = source }) s new run in
    record { read = λ other. later.read other ∙ stood; write = later.write; store = λ saves. later.store (saves all); entropy = later.entropy }
shows_faults (reads_all limit long stated next) old s new (too_long is only stood count) = source_shown old new s only (λ other. stood)
shows_faults (reads_all limit long stated next) old s new (read_failed is only rose upto) = source_shown old new s only (λ other. absurd (other is))
shows_faults (reads_all limit long stated next) old s new (read_starved is only stood upto) = source_shown old new s only (λ other. stood)
shows_faults (reads_front size next) old s new (front_read front source gave stood within end run) =
    let later = shows_faults (next front) (record old { source = source }) s new run in
    record { read = λ other. later.read other ∙ stood; write = later.write; store = λ saves. later.store (saves front); entropy = later.entropy }
shows_faults (reads_front size next) old s new (front_failed piece is only rose gave few) = source_shown old new s only (λ other. absurd (other is))
shows_faults (draws kind give next) old s new (settled drawn entropy given drew stood settles run) =
    let later = shows_faults (next given) (record old { entropy = entropy }) s new run in
    record { read = later.read; write = later.write; store = λ saves. later.store (saves given); entropy = λ other. later.entropy other ∙ stood }
shows_faults (draws kind give next) old s new (draw_failed is only out) = entropy_shown old new s only (λ other. absurd (other is))
shows_faults (draws kind give next) old s new (draw_starved parts is only drawn drew stood none) = entropy_shown old new s only (λ other. stood)
shows_faults (pumps part) old s new e = pump_shown e.result old s new e.status e.only e.shown
shows_faults (collects part next) old s new (collected all source store gave stood kept quiet given end none run) =
    let later = shows_faults (next (part.output all true)) (record old { source = source; store = store }) s new run in
    record { read = λ other. later.read other ∙ stood; write = later.write; store = λ saves other. later.store (saves (part.output all true)) other ∙ quiet; entropy = later.entropy }
shows_faults (collects part next) old s new (collect_refused taken ended refusal is kept_draft source store end decided lasting) = draft_shown old new s taken kept_draft (λ other. source) (λ other. store)
shows_faults (collects part next) old s new (collect_unread taken is kept_draft rose store none) = draft_shown old new s taken kept_draft (λ other. absurd (other is)) (λ other. store)
shows_faults (collects part next) old s new (collect_unkept taken ended is kept_draft source rose some) = draft_shown old new s taken kept_draft (λ other. source) (λ other. absurd (other is))
shows_faults (exchanges exchange next) old s new (exchanged keys mid talk steady run) =
    let later = shows_faults (next keys) mid s new run in
    let t = some_session exchange (Ok keys) (sides_of old) (sides_of mid) old.store mid.store talk in
    let none = (went (exchange t.0) keys talk.asked (sides_of old) (sides_of mid) t.2 t.3).none in
    record { read = λ other. later.read other ∙ none.read; write = λ other. later.write other ∙ none.write; store = λ saves. absurd saves; entropy = λ other. later.entropy other ∙ none.draw }
shows_faults (exchanges exchange next) old s new (exchange_ended fault is talk steady) =
    let t = some_session exchange (Err fault) (sides_of old) (sides_of new) old.store new.store talk in
    talk_shown (exchange t.0) fault old s new is t.2 (λ saves. saves)

-- Completeness.

pump_stated : (part : Part) (result : Result (Unit {0}) OpenPumpFault) (old : World) (s : Status) (new : World) → s ≡ pump_status result → Pumps part [] [] false result old.source new.source old.sink new.sink → NoneFailed old new → IsStated s
pump_stated part result old s new is (pass.pumped more out r gave follows end took o d) none = rw (of_result s result (Ok tt) is r) tt
pump_stated part result old s new is (pass.refused more out ended refusal r gave follows end took o d) none = rw (of_refusal s result refusal is r) (refusal_stated refusal)
pump_stated part result old s new is (pass.unread more out r rose gave follows took o d) none = absurd (none.read rose)
pump_stated part result old s new is (pass.unwritten more out rest ended r rose gave follows end took some o) none = absurd (none.write rose)

talk_stated : (exchange : Exchange) (fault : TalkFault) (old : World) (s : Status) (new : World) → s ≡ talk_status fault → Talks exchange (Err fault) (sides_of old) (sides_of new) → NoneFailed old new → s ≢ status.NoMemory → IsStated s
talk_stated exchange fault old s new is (talks.talked taken drawn r has none) quiet memory = absurd (cc)
talk_stated exchange fault old s new is (talks.passed taken drawn limit r has none) quiet memory = rw (of_limit s fault limit is r) (limit_stated limit)
talk_stated exchange fault old s new is (talks.unread taken drawn r has rose sink entropy) quiet memory = absurd (quiet.read rose)
talk_stated exchange fault old s new is (talks.undrawn taken drawn ended r has rose source sink) quiet memory = absurd (quiet.entropy rose)
talk_stated exchange fault old s new is (talks.unwritten taken drawn ended r gave drew front end rose source entropy) quiet memory = absurd (quiet.write rose)
talk_stated exchange fault old s new is (talks.starved taken more drawn part r gave drew took stop none) quiet memory = absurd (memory (of_fault s fault talk_faults.NoMemory is r))

completes_from : (p : Plan) (old : World) (s : Status) (new : World) → Ends p old s new → NoneFailed old new → s ≢ status.NoMemory → IsStated s
completes_from (ends answered stated) old s new (is, same) none memory = rw is stated
completes_from (writes output) old s new (wrote is only stood took) none memory = rw is tt
completes_from (writes output) old s new (write_failed is only rose front) none memory = absurd (none.write rose)
completes_from (creates name output taken stated) old s new (made is only stood given added) none memory = rw is tt
completes_from (creates name output taken stated) old s new (name_taken is only kept stood given there) none memory = rw is stated
completes_from (creates name output taken stated) old s new (create_failed is only rose given may) none memory = absurd (none.store rose)
completes_from (creates name output taken stated) old s new (create_starved is only kept stood given) none memory = absurd (memory is)
completes_from (looks name taken stated next) old s new (look_free store kept stood given holds run) none memory =
    completes_from next (record old { store = store }) s new run (record { read = none.read; write = none.write; store = λ rose. none.store (rose_after _ _ _ kept.faults rose); entropy = none.entropy }) memory
completes_from (looks name taken stated next) old s new (look_taken is only kept stood given there) none memory = rw is stated
completes_from (looks name taken stated next) old s new (look_failed is only kept rose given) none memory = absurd (none.store rose)
completes_from (allocates next) old s new (inl run) none memory = completes_from next old s new run none memory
completes_from (allocates next) old s new (inr (is, same)) none memory = absurd (memory is)
completes_from (loads name limit absent long a l next) old s new (loaded bytes store kept stood given within holds run) none memory =
    completes_from (next bytes) (record old { store = store }) s new run (record { read = none.read; write = none.write; store = λ rose. none.store (rose_after _ _ _ kept.faults rose); entropy = none.entropy }) memory
completes_from (loads name limit absent long a l next) old s new (load_absent is only kept stood given holds) none memory = rw is a
completes_from (loads name limit absent long a l next) old s new (load_long is only kept stood given holds) none memory = rw is l
completes_from (loads name limit absent long a l next) old s new (load_failed is only kept rose given) none memory = absurd (none.store rose)
completes_from (loads name limit absent long a l next) old s new (load_starved is only kept stood given) none memory = absurd (memory is)
completes_from (ranges x absent a next) old s new (ranged opened store most kept stood given least past holds run) none memory =
    completes_from (next opened) (record old { store = store }) s new run (record { read = none.read; write = none.write; store = λ rose. none.store (rose_after _ _ _ kept.faults rose); entropy = none.entropy }) memory
completes_from (ranges x absent a next) old s new (range_absent is only kept stood given holds) none memory = rw is a
completes_from (ranges x absent a next) old s new (range_failed most is only kept rose given least) none memory = absurd (none.store rose)
completes_from (ranges x absent a next) old s new (range_starved most is only kept stood given least) none memory = absurd (memory is)
completes_from (reads_all limit long stated next) old s new (read all source gave stood within end run) none memory =
    completes_from (next all) (record old { source = source }) s new run (record { read = λ rose. none.read (rose_after _ _ _ gave.faults rose); write = none.write; store = none.store; entropy = none.entropy }) memory
completes_from (reads_all limit long stated next) old s new (too_long is only stood count) none memory = rw is stated
completes_from (reads_all limit long stated next) old s new (read_failed is only rose upto) none memory = absurd (none.read rose)
completes_from (reads_all limit long stated next) old s new (read_starved is only stood upto) none memory = absurd (memory is)
completes_from (reads_front size next) old s new (front_read front source gave stood within end run) none memory =
    completes_from (next front) (record old { source = source }) s new run (record { read = λ rose. none.read (rose_after _ _ _ gave.faults rose); write = none.write; store = none.store; entropy = none.entropy }) memory
completes_from (reads_front size next) old s new (front_failed piece is only rose gave few) none memory = absurd (none.read rose)
completes_from (draws kind give next) old s new (settled drawn entropy given drew stood settles run) none memory =
    completes_from (next given) (record old { entropy = entropy }) s new run (record { read = none.read; write = none.write; store = none.store; entropy = λ rose. none.entropy (rose_after _ _ _ drew.faults rose) }) memory
completes_from (draws kind give next) old s new (draw_failed is only out) none memory = absurd (none.entropy out.rose)
completes_from (draws kind give next) old s new (draw_starved parts is only drawn drew stood few) none memory = absurd (memory is)
completes_from (pumps part) old s new e none memory = pump_stated part e.result old s new e.status e.pass none
completes_from (collects part next) old s new (collected all source store gave stood kept quiet given end undecided run) none memory =
    completes_from (next (part.output all true)) (record old { source = source; store = store }) s new run (record { read = λ rose. none.read (rose_after _ _ _ gave.faults rose); write = none.write; store = λ rose. none.store (rose_after _ _ _ kept.faults rose); entropy = none.entropy }) memory
completes_from (collects part next) old s new (collect_refused taken ended refusal is kept_draft source store end decided lasting) none memory = rw is (refusal_stated refusal)
completes_from (collects part next) old s new (collect_unread taken is kept_draft rose store undecided) none memory = absurd (none.read rose)
completes_from (collects part next) old s new (collect_unkept taken ended is kept_draft source rose some) none memory = absurd (none.store rose)
completes_from (exchanges exchange next) old s new (exchanged keys mid talk steady run) none memory =
    let t = some_session exchange (Ok keys) (sides_of old) (sides_of mid) old.store mid.store talk in
    let has = (went (exchange t.0) keys talk.asked (sides_of old) (sides_of mid) t.2 t.3).has in
    completes_from (next keys) mid s new run (record {
      read = λ rose. none.read (rose_after _ _ _ has.gave.faults rose);
      write = λ rose. none.write (rose_after _ _ _ has.took.faults rose);
      store = λ rose. none.store (rose_after _ _ _ (asks_faults talk.asked old.store mid.store talk.asks) rose);
      entropy = λ rose. none.entropy (rose_after _ _ _ has.drew.faults rose);
    }) memory
completes_from (exchanges exchange next) old s new (exchange_ended fault is talk steady) none memory =
    let t = some_session exchange (Err fault) (sides_of old) (sides_of new) old.store new.store talk in
    talk_stated (exchange t.0) fault old s new is t.2 none memory

pub completes : (p : Plan) (old : World) (s : Status) (new : World) → Ends p old s new → Completes old s new
completes p old s new run = record { stated = completes_from p old s new run }

-- ---- the store's count of faults never falls

same_count : (a b : StoreState) → a ≡ b → a.faults ≤ b.faults
same_count a b same = omega (arith, ap (λ (x : StoreState). x.faults) same)

later_count : (a b c : ℕ) → a ≤ b → b ≤ c → a ≤ c
later_count a b c first second = omega (arith, first, second)

pub store_grows : (p : Plan) (old : World) (s : Status) (new : World) → Ends p old s new → old.store.faults ≤ new.store.faults
store_grows (ends answered stated) old s new (is, same) = same_count _ _ (ap (λ (w : World). w.store) same)
store_grows (writes output) old s new (wrote is only stood took) = same_count _ _ only.store
store_grows (writes output) old s new (write_failed is only rose front) = same_count _ _ only.store
store_grows (creates name output taken stated) old s new (made is only stood given added) = added.faults
store_grows (creates name output taken stated) old s new (name_taken is only kept stood given there) = kept.faults
store_grows (creates name output taken stated) old s new (create_failed is only rose given may) = may_faults old.store new.store name output may
store_grows (creates name output taken stated) old s new (create_starved is only kept stood given) = kept.faults
store_grows (looks name taken stated next) old s new (look_free store kept stood given holds run) = later_count _ _ _ kept.faults (store_grows next (record old { store = store }) s new run)
store_grows (looks name taken stated next) old s new (look_taken is only kept stood given there) = kept.faults
store_grows (looks name taken stated next) old s new (look_failed is only kept rose given) = kept.faults
store_grows (allocates next) old s new (inl run) = store_grows next old s new run
store_grows (allocates next) old s new (inr (is, same)) = same_count _ _ (ap (λ (w : World). w.store) same)
store_grows (loads name limit absent long a l next) old s new (loaded bytes store kept stood given within holds run) = later_count _ _ _ kept.faults (store_grows (next bytes) (record old { store = store }) s new run)
store_grows (loads name limit absent long a l next) old s new (load_absent is only kept stood given holds) = kept.faults
store_grows (loads name limit absent long a l next) old s new (load_long is only kept stood given holds) = kept.faults
store_grows (loads name limit absent long a l next) old s new (load_failed is only kept rose given) = kept.faults
store_grows (loads name limit absent long a l next) old s new (load_starved is only kept stood given) = kept.faults
store_grows (ranges x absent a next) old s new (ranged opened store most kept stood given least past holds run) = later_count _ _ _ kept.faults (store_grows (next opened) (record old { store = store }) s new run)
store_grows (ranges x absent a next) old s new (range_absent is only kept stood given holds) = kept.faults
store_grows (ranges x absent a next) old s new (range_failed most is only kept rose given least) = kept.faults
store_grows (ranges x absent a next) old s new (range_starved most is only kept stood given least) = kept.faults
store_grows (reads_all limit long stated next) old s new (read all source gave stood within end run) = store_grows (next all) (record old { source = source }) s new run
store_grows (reads_all limit long stated next) old s new (too_long is only stood count) = same_count _ _ only.store
store_grows (reads_all limit long stated next) old s new (read_failed is only rose upto) = same_count _ _ only.store
store_grows (reads_all limit long stated next) old s new (read_starved is only stood upto) = same_count _ _ only.store
store_grows (reads_front size next) old s new (front_read front source gave stood within end run) = store_grows (next front) (record old { source = source }) s new run
store_grows (reads_front size next) old s new (front_failed piece is only rose gave few) = same_count _ _ only.store
store_grows (draws kind give next) old s new (settled drawn entropy given drew stood settles run) = store_grows (next given) (record old { entropy = entropy }) s new run
store_grows (draws kind give next) old s new (draw_failed is only out) = same_count _ _ only.store
store_grows (draws kind give next) old s new (draw_starved parts is only drawn drew stood none) = same_count _ _ only.store
store_grows (pumps part) old s new e = same_count _ _ e.only.store
store_grows (collects part next) old s new (collected all source store gave stood kept quiet given end none run) = later_count _ _ _ kept.faults (store_grows (next (part.output all true)) (record old { source = source; store = store }) s new run)
store_grows (collects part next) old s new (collect_refused taken ended refusal is kept_draft source store end decided lasting) = kept_draft.kept.faults
store_grows (collects part next) old s new (collect_unread taken is kept_draft rose store none) = kept_draft.kept.faults
store_grows (collects part next) old s new (collect_unkept taken ended is kept_draft source rose some) = kept_draft.kept.faults
store_grows (exchanges exchange next) old s new (exchanged keys mid talk steady run) = later_count _ _ _ (asks_faults talk.asked old.store mid.store talk.asks) (store_grows (next keys) mid s new run)
store_grows (exchanges exchange next) old s new (exchange_ended fault is talk steady) = asks_faults talk.asked old.store new.store talk.asks
