-- A stream that goes into a new file: a pass over a draft, and what became of the draft, are together the end of a
-- pass whose output is kept in a draft until all of it is there.
use Rattle.std.proofs.Common.{◌≡◌, ◌∙◌, refl, sym, ap, subst, inl, inr, ℕ, ◌+◌, ◌<◌, ◌≤◌, List, [], ◌++◌, length, length-append, Bool, true, false, Option, Some, None, Result, Ok, Err, arith}
use Rattle.std.specs.FinMap as map
use Rattle.std.specs.Prelude.{IfSome, IsErrOf, option_map}
use Rattle.segment_stream.specs.KeysModel.{KeysForStreams}
use Rattle.segment_stream.specs.Opening.{StreamRefusal, too_many, failed}
use Rattle.segment_stream.specs.Pumping.{Part, Pumps, ShowsFaults, fault_of, sealing, opening_any, resealing}
use Rattle.segment_stream.specs.Pumping as pass
use Rattle.segment_stream.specs.Sealing.{header_of}
use Rattle.segment_stream.specs.Segments.{cipher_of, ciphers_of}
use Rattle.segment_stream.specs.declared.fault.OpenPumpFault.{OpenPumpFault}
use Rattle.segment_stream.specs.declared.fault.OpenPumpFault.TheVariants as faults
use Rattle.tink_base.specs.Pieces.{Draft, IsDraft, draft_name, drafted_sink, empty_draft}
use Rattle.tink_spec.specs.Files.{Files, StoreState, KeptFiles, Holds}
use Rattle.tink_spec.specs.Outside.{SourceState, SinkState, EntropyState, Rose, Stood, Took}
use Rattle.tinkey_cmds.specs.Draws.{fill}
use Rattle.tinkey_plans.specs.declared.status.Status.{Status}
use Rattle.tinkey_plans.specs.declared.status.Status.TheVariants as status
use Rattle.tinkey_plans.specs.Ends.{World, Ends, IsLasting, pump_status, look_free, settled, draw_failed, draw_starved, collected, collect_refused, collect_unread, collect_unkept}
use Rattle.tinkey_plans.specs.Plan.{Plan, allocates, collects, creates, draws, sealings, stream_status}
use Rattle.tinkey_plans.specs.Steps.{Passes, status_of, with_made}
use Rattle.tinkey_plans.specs.Streaming.{begins_file, passes_stream, passes_to}
use Rattle.tinkey_actions.specs.StreamFile.{Closes, kept_status}
use Rattle.tinkey_words.specs.declared.words.request.StreamWork.{StreamWork}
use Rattle.tinkey_words.specs.declared.words.request.StreamWork.TheVariants as works

-- ---- the draft is begun

same_holds : (old new : StoreState) (name : List ℕ) (found : Option (List ℕ)) → KeptFiles old new → Holds new name found → Holds old name found
same_holds old new name found kept holds = subst (λ (f : Option Files). IfSome f (λ files. map.get files name ≡ found)) (sym kept.files) holds

-- behind what was given up, of a name that is free
pub begun_passes : (name : List ℕ) (w : World) (old mid new : StoreState) → KeptFiles old mid → Stood old.faults mid.faults → mid.given ≡ old.given → KeptFiles mid new → Stood mid.faults new.faults → new.given ≡ mid.given → Holds mid name None
    → Passes {A = Unit {0}} (λ next. begins_file (Some name) (next tt)) (record w { store = old }) (Ok tt) (record w { store = new })
begun_passes name w old mid new kept stood given kept' stood' given' free = λ next s last run.
    inl (look_free new (record { files = kept.files ∙ kept'.files; faults = omega (arith, kept.faults, kept'.faults) }) (stood' ∙ stood) (omega (arith, given, given')) (same_holds old mid name None kept free) run)

-- ---- a pass over it, and what became of it

-- A pass came to an answer over an empty draft, and left it and the store so; then the draft was closed.
pub record IsFiled (name : List ℕ) (old mid last : StoreState) (before after : Option Draft) (passed r : Result (Unit {0}) Status) : Type 0 where
  pub begun : before ≡ Some (empty_draft old name)
  pub named : draft_name after ≡ draft_name before
  pub files : mid.files ≡ old.files
  pub given : mid.given ≡ old.given
  pub undone : IsErrOf passed status.Done → ⊥
  pub closed : Closes after mid passed r last

drafted_faults : (store : StoreState) (draft : Option Draft) → (drafted_sink store draft).faults ≡ store.faults
drafted_faults store None = refl
drafted_faults store (Some d) = refl

-- the draft holds what was written to it while it was empty
holds_output : (name out : List ℕ) (files : Option Files) (after : Draft) → after.name ≡ name → after.bytes ≡ option_map (λ before. before ++ out) (option_map (λ (f : Files). []) files) → IsDraft (Some after) name out
holds_output name out None after named bytes = (named, subst (λ (o : Option (List ℕ)). IfSome o (λ so_far. so_far ≡ out)) (sym bytes) tt)
holds_output name out (Some f) after named bytes = (named, subst (λ (o : Option (List ℕ)). IfSome o (λ so_far. so_far ≡ out)) (sym bytes) refl)

same_name : (d : Draft) (name : List ℕ) (o : Option (List ℕ)) → o ≡ Some name → Some d.name ≡ o → d.name ≡ name
same_name d name o is same = cc

no_name : (name : List ℕ) (o : Option (List ℕ)) → o ≡ Some name → None ≡ o → ⊥
no_name name o is same = cc

drafted_output : (name out : List ℕ) (old new : StoreState) (before after : Option Draft) → before ≡ Some (empty_draft old name) → draft_name after ≡ draft_name before → Took (drafted_sink old before) (drafted_sink new after) out → IsDraft after name out
drafted_output name out old new before None begun named took = absurd (no_name name (draft_name before) (ap draft_name begun) named)
drafted_output name out old new before (Some d) begun named took =
    holds_output name out old.files d (same_name d name (draft_name before) (ap draft_name begun) named)
    (subst (λ (b : Option Draft). d.bytes ≡ option_map (λ so_far. so_far ++ out) (drafted_sink old b).written) begun took.written)

-- the counts of faults of the store, by those of its draft
grew : (old mid : StoreState) (before after : Option Draft) (out : List ℕ) → Took (drafted_sink old before) (drafted_sink mid after) out → old.faults ≤ mid.faults
grew old mid before after out took = omega (arith, took.faults, drafted_faults old before, drafted_faults mid after)

stood : (old mid last : StoreState) (before after : Option Draft) → mid ≡ last → Stood (drafted_sink old before).faults (drafted_sink mid after).faults → Stood old.faults last.faults
stood old mid last before after same is =
    sym (ap (λ (s : StoreState). s.faults) same) ∙ sym (drafted_faults mid after) ∙ is ∙ drafted_faults old before

rose : (old mid last : StoreState) (before after : Option Draft) → mid ≡ last → Rose (drafted_sink old before).faults (drafted_sink mid after).faults → Rose old.faults last.faults
rose old mid last before after same is =
    subst (λ (n : ℕ). Rose old.faults n) (drafted_faults mid after ∙ ap (λ (s : StoreState). s.faults) same)
    (subst (λ (n : ℕ). Rose n (drafted_sink mid after).faults) (drafted_faults old before) is)

-- no file has changed, and no byte of one was read
kept : (old mid last : StoreState) → mid.files ≡ old.files → old.faults ≤ mid.faults → mid ≡ last → KeptFiles old last
kept old mid last files faults same = record {
  files = sym files ∙ ap (λ (s : StoreState). s.files) same;
  faults = omega (arith, faults, ap (λ (s : StoreState). s.faults) same);
}

none_given : (old mid last : StoreState) → mid.given ≡ old.given → mid ≡ last → last.given ≤ old.given + 0
none_given old mid last given same = omega (arith, given, ap (λ (s : StoreState). s.given) same)

-- the pass came to its end
finished : (mid last : StoreState) (after : Option Draft) (passed r : Result (Unit {0}) Status) (name out : List ℕ) → (IsErrOf passed status.Done → ⊥) → status_of passed ≡ status.Done → IsDraft after name out → Closes after mid passed r last
    → (w : World) → Ends (creates name out status.OutExists tt) (record w { store = mid }) (status_of r) (record w { store = last })
finished mid last after (Ok done) r name out undone is held closed = λ w. closed w name out held
finished mid last after (Err s) r name out undone is held closed = absurd (undone (ap Err is))

-- it ended before that
given_up : (mid last : StoreState) (after : Option Draft) (passed r : Result (Unit {0}) Status) (s : Status) → (s ≡ status.Done → ⊥) → status_of passed ≡ s → Closes after mid passed r last → (status_of r ≡ kept_status s) × (mid ≡ last)
given_up mid last after (Ok done) r s not is closed = absurd (not (sym is))
given_up mid last after (Err e) r s not is closed = (closed.0 ∙ ap kept_status is, closed.1)

-- a refusal is neither an end nor a fault
not_done : (refusal : StreamRefusal) → stream_status refusal ≡ status.Done → ⊥
not_done too_many is = cc
not_done (failed n) is = cc

refusal_kept : (refusal : StreamRefusal) → kept_status (stream_status refusal) ≡ stream_status refusal
refusal_kept too_many = refl
refusal_kept (failed n) = refl

refusal_told : (refusal : StreamRefusal) → pump_status (Err (fault_of refusal)) ≡ stream_status refusal
refusal_told too_many = refl
refusal_told (failed n) = refl

refusal_shown : (refusal : StreamRefusal) (was now : SourceState) (old new : SinkState) → ShowsFaults (Err (fault_of refusal)) was now old new → Stood was.faults now.faults × Stood old.faults new.faults
refusal_shown too_many was now old new shown = shown
refusal_shown (failed n) was now old new shown = shown

abbrev to_file : (name : List ℕ) → Part → Plan
to_file name part = passes_to (Some name) part

passed_ends : (part : Part) (name : List ℕ) (w : World) (source : SourceState) (mid last : StoreState) (before after : Option Draft) (passed r : Result (Unit {0}) Status) (result : Result (Unit {0}) OpenPumpFault)
    → IsFiled name w.store mid last before after passed r → status_of passed ≡ pump_status result
    → Pumps part [] [] false result w.source source (drafted_sink w.store before) (drafted_sink mid after)
    → ShowsFaults result w.source source (drafted_sink w.store before) (drafted_sink mid after) → IsLasting part
    → Ends (to_file name part) w (status_of r) (record w { source = source; store = last })
passed_ends part name w source mid last before after passed r result filed is (pass.pumped more out told gave follows end took whole none) shown lasting =
    let counts = subst (λ (x : Result (Unit {0}) OpenPumpFault). ShowsFaults x w.source source (drafted_sink w.store before) (drafted_sink mid after)) told shown in
    let held = drafted_output name out w.store mid before after filed.begun filed.named took in
    collected more source mid gave counts.0 (kept w.store mid mid filed.files (grew w.store mid before after out took) refl) (stood w.store mid mid before after refl counts.1)
    (none_given w.store mid mid filed.given refl) end none
    (subst (λ (o : List ℕ). Ends (creates name o status.OutExists tt) (record w { source = source; store = mid }) (status_of r) (record w { source = source; store = last })) whole
    (finished mid last after passed r name out filed.undone (is ∙ ap pump_status told) held filed.closed (record w { source = source })))
passed_ends part name w source mid last before after passed r result filed is (pass.refused more out ended refusal told gave follows end took whole decided) shown lasting =
    let counts = refusal_shown refusal w.source source (drafted_sink w.store before) (drafted_sink mid after)
    (subst (λ (x : Result (Unit {0}) OpenPumpFault). ShowsFaults x w.source source (drafted_sink w.store before) (drafted_sink mid after)) told shown) in
    let up = given_up mid last after passed r (stream_status refusal) (not_done refusal) (is ∙ ap pump_status told ∙ refusal_told refusal) filed.closed in
    collect_refused more ended refusal (up.0 ∙ refusal_kept refusal) (record {
      sink = refl;
      entropy = refl;
      gave = gave;
      kept = kept w.store mid last filed.files (grew w.store mid before after out took) up.1;
      given = none_given w.store mid last filed.given up.1;
    }) counts.0 (stood w.store mid last before after up.1 counts.1) end decided lasting
passed_ends part name w source mid last before after passed r result filed is (pass.unread more out told failed_read gave follows took whole none) shown lasting =
    let counts = subst (λ (x : Result (Unit {0}) OpenPumpFault). ShowsFaults x w.source source (drafted_sink w.store before) (drafted_sink mid after)) told shown in
    let up = given_up mid last after passed r status.ReadFault (λ e. cc) (is ∙ ap pump_status told) filed.closed in
    collect_unread more up.0 (record {
      sink = refl;
      entropy = refl;
      gave = gave;
      kept = kept w.store mid last filed.files (grew w.store mid before after out took) up.1;
      given = none_given w.store mid last filed.given up.1;
    }) failed_read (stood w.store mid last before after up.1 counts.1) none
passed_ends part name w source mid last before after passed r result filed is (pass.unwritten more out rest ended told failed_write gave follows end took some whole) shown lasting =
    let counts = subst (λ (x : Result (Unit {0}) OpenPumpFault). ShowsFaults x w.source source (drafted_sink w.store before) (drafted_sink mid after)) told shown in
    let up = given_up mid last after passed r status.WriteFault (λ e. cc) (is ∙ ap pump_status told) filed.closed in
    collect_unkept more ended up.0 (record {
      sink = refl;
      entropy = refl;
      gave = gave;
      kept = kept w.store mid last filed.files (grew w.store mid before after out took) up.1;
      given = none_given w.store mid last filed.given up.1;
    }) counts.0 (rose w.store mid last before after up.1 failed_write) (subst (λ (l : List ℕ). 0 < length l) whole (longer out rest some))
  where
    longer : (out rest : List ℕ) → 0 < length rest → 0 < length (out ++ rest)
    longer out rest some = omega (arith, some, length-append out rest)

pumped_ends : {name : List ℕ} {mid last : StoreState} {before after : Option Draft} {passed r : Result (Unit {0}) Status} (part : Part) (w : World) (source : SourceState) (entropy : EntropyState) → IsFiled name w.store mid last before after passed r
    → Ends (passes_to None part) (record w { sink = drafted_sink w.store before }) (status_of passed) (record w { source = source; sink = drafted_sink mid after; entropy = entropy })
    → Ends (passes_to (Some name) part) w (status_of r) (record w { source = source; store = last; entropy = entropy })
pumped_ends {name = name} {mid = mid} {last = last} {before = before} {after = after} {passed = passed} {r = r} part w source entropy filed run =
    subst (λ (e : EntropyState). Ends (to_file name part) w (status_of r) (record w { source = source; store = last; entropy = e })) run.only.entropy
    (passed_ends part name w source mid last before after passed r run.result filed run.status run.pass run.shown run.lasting)

-- ---- the steps before the pass

same_store : (a b : StoreState) → a.files ≡ b.files → a.faults ≡ b.faults → a.given ≡ b.given → a ≡ b
same_store a b files faults given =
    ap (λ (f : Option Files). record a { files = f }) files
    ∙ ap (λ (n : ℕ). record a { files = b.files; faults = n }) faults
    ∙ ap (λ (n : ℕ). record b { given = n }) given

same_world : (w : World) (source : SourceState) (store : StoreState) (entropy : EntropyState) → w.source ≡ source → w.store ≡ store → w.entropy ≡ entropy → w ≡ record w { source = source; store = store; entropy = entropy }
same_world w source store entropy source_is store_is entropy_is =
    ap (λ (x : SourceState). record w { source = x }) source_is
    ∙ ap (λ (x : StoreState). record w { source = source; store = x }) store_is
    ∙ ap (λ (x : EntropyState). record w { source = source; store = store; entropy = x }) entropy_is

-- one that ended the plan left the store as it was
unpassed : {name : List ℕ} {mid last : StoreState} {before after : Option Draft} {passed r : Result (Unit {0}) Status} (old : StoreState) (s : Status) → IsFiled name old mid last before after passed r → (s ≡ status.Done → ⊥) → kept_status s ≡ s → status_of passed ≡ s → drafted_sink old before ≡ drafted_sink mid after
    → (status_of r ≡ s) × (old ≡ last)
unpassed {mid = mid} {last = last} {before = before} {after = after} {passed = passed} {r = r} old s filed not stays is same =
    let up = given_up mid last after passed r s not is filed.closed in
    let faults : old.faults ≡ mid.faults = sym (drafted_faults old before) ∙ ap (λ (x : SinkState). x.faults) same ∙ drafted_faults mid after in
    (up.0 ∙ stays, same_store old mid (sym filed.files) faults (sym filed.given) ∙ up.1)

-- and all else
unmoved : {name : List ℕ} {mid last : StoreState} {before after : Option Draft} {passed r : Result (Unit {0}) Status} (w : World) (source : SourceState) (entropy : EntropyState) (s : Status) → IsFiled name w.store mid last before after passed r → (s ≡ status.Done → ⊥) → kept_status s ≡ s → status_of passed ≡ s
    → record w { sink = drafted_sink w.store before } ≡ record w { source = source; sink = drafted_sink mid after; entropy = entropy }
    → (status_of r ≡ s) × (w ≡ record w { source = source; store = last; entropy = entropy })
unmoved {last = last} w source entropy s filed not stays is same =
    let both = unpassed w.store s filed not stays is (ap (λ (x : World). x.sink) same) in
    (both.0, same_world w source last entropy (ap (λ (x : World). x.source) same) both.1 (ap (λ (x : World). x.entropy) same))

-- a pass at once
at_once_ends : {name : List ℕ} {mid last : StoreState} {before after : Option Draft} {passed r : Result (Unit {0}) Status} (part : Part) (w : World) (source : SourceState) (entropy : EntropyState) → IsFiled name w.store mid last before after passed r
    → Ends (allocates (passes_to None part)) (record w { sink = drafted_sink w.store before }) (status_of passed) (record w { source = source; sink = drafted_sink mid after; entropy = entropy })
    → Ends (allocates (passes_to (Some name) part)) w (status_of r) (record w { source = source; store = last; entropy = entropy })
at_once_ends part w source entropy filed (inl run) = inl (pumped_ends part w source entropy filed run)
at_once_ends part w source entropy filed (inr starved) = inr (unmoved w source entropy status.NoMemory filed (λ e. cc) refl starved.0 starved.1)

-- a pass behind the draw of its header
abbrev behind_header : (count : ℕ) → (part : List ℕ → Part) → (out : Option (List ℕ)) → Plan
behind_header count part out = draws sealings (fill count) (λ made. with_made made (λ random. passes_to out (part random)))

drawn_ends : {name : List ℕ} {mid last : StoreState} {before after : Option Draft} {passed r : Result (Unit {0}) Status} (count : ℕ) (part : List ℕ → Part) (w : World) (source : SourceState) (entropy : EntropyState) → IsFiled name w.store mid last before after passed r
    → Ends (behind_header count part None) (record w { sink = drafted_sink w.store before }) (status_of passed) (record w { source = source; sink = drafted_sink mid after; entropy = entropy })
    → Ends (behind_header count part (Some name)) w (status_of r) (record w { source = source; store = last; entropy = entropy })
drawn_ends count part w source entropy filed (settled drawn then (Ok random) drew counted settles run) =
    settled drawn then (Ok random) drew counted settles (pumped_ends (part random) (record w { entropy = then }) source entropy filed run)
drawn_ends count part w source entropy filed (settled drawn then (Err fault) drew counted settles run) =
    settled drawn then (Err fault) drew counted settles (unmoved (record w { entropy = then }) source entropy _ filed (λ e. cc) refl run.0 run.1)
drawn_ends count part w source entropy filed (draw_failed is only ran) =
    let both = unpassed w.store status.EntropyFault filed (λ e. cc) refl is only.sink in
    draw_failed both.0 (record { source = only.source; sink = refl; store = both.1 }) ran
drawn_ends count part w source entropy filed (draw_starved parts is only drawn drew counted none) = absurd parts

behind_header_ends : {name : List ℕ} {mid last : StoreState} {before after : Option Draft} {passed r : Result (Unit {0}) Status} (count : ℕ) (part : List ℕ → Part) (w : World) (source : SourceState) (entropy : EntropyState) → IsFiled name w.store mid last before after passed r
    → Ends (allocates (behind_header count part None)) (record w { sink = drafted_sink w.store before }) (status_of passed) (record w { source = source; sink = drafted_sink mid after; entropy = entropy })
    → Ends (allocates (behind_header count part (Some name))) w (status_of r) (record w { source = source; store = last; entropy = entropy })
behind_header_ends count part w source entropy filed (inl run) = inl (drawn_ends count part w source entropy filed run)
behind_header_ends count part w source entropy filed (inr starved) = inr (unmoved w source entropy status.NoMemory filed (λ e. cc) refl starved.0 starved.1)

-- ---- the three plans

pub filed_ends : {name : List ℕ} {mid last : StoreState} {before after : Option Draft} {passed r : Result (Unit {0}) Status} (work : StreamWork) (keys : KeysForStreams) (ad : List ℕ) (w : World) (source : SourceState) (entropy : EntropyState) → IsFiled name w.store mid last before after passed r
    → Ends (passes_stream work keys ad None) (record w { sink = drafted_sink w.store before }) (status_of passed) (record w { source = source; sink = drafted_sink mid after; entropy = entropy })
    → Ends (passes_stream work keys ad (Some name)) w (status_of r) (record w { source = source; store = last; entropy = entropy })
filed_ends works.Seal keys ad w source entropy filed run =
    let cipher = cipher_of ad keys.primary in
    behind_header_ends (keys.primary.derived + 7) (λ random. sealing cipher (header_of cipher random)) w source entropy filed run
filed_ends works.Open keys ad w source entropy filed run = at_once_ends (opening_any (ciphers_of ad keys.keys)) w source entropy filed run
filed_ends works.Reseal keys ad w source entropy filed run =
    let cipher = cipher_of ad keys.primary in
    behind_header_ends (keys.primary.derived + 7) (λ random. resealing (ciphers_of ad keys.keys) cipher (header_of cipher random)) w source entropy filed run
