-- Each promise, proved once for every end of every plan.
use Rattle.std.proofs.Common.{◌≡◌, ◌⊎◌, inl, inr, ℕ, ◌+◌, ◌<◌, ◌≤◌, List, [], ◌∷◌, ◌++◌, length, take, drop, refl, sym, ◌∙◌, ap, subst, arith, append-nil, length-append, ◌≢◌}
use Rattle.std.specs.Prelude.{Option, Some, None, option_map, IfSome, Result, Ok, Err, nat_le, Bool, true, false}
use Rattle.std.proofs.lemmas.List.{drop_all, drop_at, take_all, take_at}
use Rattle.std.proofs.lemmas.Bool.Decides.{nat_tests}
use Rattle.tink_spec.specs.Outside.{SourceState, SinkState, EntropyState, Gave, GaveCount, Took, TookPrefix, Drew, DrewLosing, IsAtEnd, Rose, Stood}
use Rattle.tink_spec.specs.Files.{Files, StoreState, KeptFiles, Holds, HoldsSome, HoldsLonger, Added, AddedFront, MayAdd}
use Rattle.std.specs.FinMap as map
use Rattle.tink_spec.proofs.Moves.{gave_same, gave_more, took_same, took_more, drew_nothing, lost_later, lost_nothing}
use Rattle.segment_stream.specs.Opening.{StreamRefusal}
use Rattle.segment_stream.specs.Pumping.{Part, Pumps}
use Rattle.segment_stream.specs.Pumping as pass
use Rattle.segment_stream.specs.declared.fault.OpenPumpFault.{OpenPumpFault}
use Rattle.segment_stream.specs.declared.fault.OpenPumpFault.TheVariants as faults
use Rattle.tinkey_cmds.specs.Draws.{Draw, Drawn}
use Rattle.tinkey_cmds.specs.declared.command.EditRefusal.{EditRefusal}
use Rattle.keyset_model.specs.Keyset.{Keys}
use Rattle.tinkey_session.proofs.StoreLemmas.{asks_faults, rose_on, saves_are_told}
use Rattle.tinkey_session.proofs.UnsavedLemmas.{some_session}
use Rattle.tinkey_session.specs.Saving as files
use Rattle.tinkey_session.specs.declared.reply.LineRefusal.TheVariants.{StoreFault}
use Rattle.tinkey_session.specs.Saving.{Agrees, AsksFor, Asks, FileAsked, StoreAnswers, by_files, files_after}
use Rattle.tinkey_session.specs.Talking.{Exchange, Talk, Stop, goes, wants, passes, Limit}
use Rattle.tinkey_session.specs.Talks.{HasAsked, Talks, HasTalked, IsSteady}
use Rattle.tinkey_session.specs.Talks as talks
use Rattle.tinkey_session.specs.declared.talk.TalkFault.{TalkFault}
use Rattle.tinkey_session.specs.declared.talk.TalkFault.TheVariants as talk_faults
use Rattle.tinkey_plans.specs.declared.status.Status.{Status}
use Rattle.tinkey_plans.specs.declared.status.Status.TheVariants as status
use Rattle.tinkey_plans.specs.Plan.{Plan, ends, writes, creates, looks, allocates, loads, reads_all, reads_front, ranges, draws, pumps, collects, exchanges, Told, Answer, answer, collect_answer, refused, stream_status, limit_status, talk_answer, load_answer, range_answer, create_answer, look_answer, draw_answer, IsStated}
use Rattle.tinkey_plans.specs.Ends.{World, Ends, Settles, IsLasting, OnlyStreams, pump_status, OnlySource, OnlySink, OnlyStore, loaded, load_absent, load_long, load_failed, load_starved, ranged, range_absent, range_failed, range_starved, wrote, write_failed, made, name_taken, create_failed, create_starved, look_free, look_taken, look_failed, read, too_long, read_failed, read_starved, front_read, front_failed, settled, draw_failed, draw_starved, talk_status, sides_of, KeptDraft, collected, collect_refused, collect_unread, collect_unkept, exchanged, exchange_ended}
use Rattle.tinkey_plans.specs.Promises.{AddsFront, AllStood, AsksOver, NoneUnsaved, SavesNothing, Stores, Tells, IsAnswer, Answers, IsFront, Moved, nothing, IsPassLeft, pass_done, pass_refused, pass_unread, pass_unwritten, IsDraftLeft, draft_refused, draft_unread, draft_unkept, HasReplied, IsTalkLeft, talk_passed, talk_unread, talk_undrawn, talk_unwritten, talk_starved, then_moved, IsWhole, IsLeft, Leaves, IsTorn, Stands, Promised}
use Rattle.tinkey_plans.specs.FileRange.{Opened, FileRange, HoldsRange, range_in}
use Rattle.tinkey_plans.proofs.GivenLemmas.{asks_over, reads}
use Rattle.tinkey_plans.proofs.FaultLemmas.{not_read_fault, not_write_fault, not_store_fault, not_entropy_fault, not_no_memory, refusal_stated, of_result, of_refusal, of_fault, of_limit, rose_after, store_grows, went, Went, has_cause, shows_faults, completes}

-- The stated answer.

-- what is left after some bytes were given
split_told : (left before : Option (List ℕ)) (input piece : List ℕ) → before ≡ Some input → before ≡ option_map (λ rest. piece ++ rest) left → (rest : List ℕ) × (left ≡ Some rest) × (input ≡ piece ++ rest)
split_told None before input piece told is = absurd (cc)
split_told (Some rest) before input piece told is = (rest, refl, cc)

at_end : (left : Option (List ℕ)) (rest : List ℕ) → left ≡ Some rest → IfSome left (λ r. r ≡ []) → rest ≡ []
at_end left rest is end = let h : IfSome (Some rest) (λ r. r ≡ []) = rw is at end in h

-- a whole input that is told is what was given
whole_input : (old source : SourceState) (input all : List ℕ) → old.left ≡ Some input → Gave old source all → IsAtEnd source → (source.left ≡ Some []) × (input ≡ all)
whole_input old source input all told gave end =
    let split = split_told source.left old.left input all told gave.left in
    let none = at_end source.left split.0 split.1 end in
    (split.1 ∙ ap (λ (r : List ℕ). Some r) none, split.2 ∙ ap (λ (r : List ℕ). all ++ r) none ∙ append-nil all)

-- the front of an input that is told, and what is left behind it
front_split : (front rest : List ℕ) (size : ℕ) → length front ≤ size → (length front < size → rest ≡ []) → (drop size (front ++ rest) ≡ rest) × (take size (front ++ rest) ≡ front)
front_split front rest size within end = by (nat_le size (length front)) refl
  where
    by : (b : Bool) → nat_le size (length front) ≡ b → (drop size (front ++ rest) ≡ rest) × (take size (front ++ rest) ≡ front)
    by true is = let le : size ≤ length front = grind (arith, nat_tests, is) in let e : length front ≡ size = omega (arith, le, within) in (drop_at front rest size e, take_at front rest size e)
    by false is =
        let lt : length front < size = grind (arith, nat_tests, is) in
        let none = end lt in
        let le : length front ≤ size = within in
        let e : front ++ rest ≡ front = ap (λ (r : List ℕ). front ++ r) none ∙ append-nil front in (
          ap (λ (l : List ℕ). drop size l) e ∙ drop_all size front le ∙ sym none,
          ap (λ (l : List ℕ). take size l) e ∙ take_all size front le,
        )

front_input : (old source : SourceState) (input front : List ℕ) (size : ℕ) → old.left ≡ Some input → Gave old source front → length front ≤ size → (length front < size → IsAtEnd source) → (source.left ≡ Some (drop size input)) × (take size input ≡ front)
front_input old source input front size told gave within end =
    let split = split_told source.left old.left input front told gave.left in
    let whole = front_split front split.0 size within (λ lt. at_end source.left split.0 split.1 (end lt)) in (
      split.1 ∙ ap (λ (l : List ℕ). Some l) (sym (ap (λ (l : List ℕ). drop size l) split.2 ∙ whole.0)),
      ap (λ (l : List ℕ). take size l) split.2 ∙ whole.1,
    )

after_count : (old new : SourceState) (input : List ℕ) (n : ℕ) → old.left ≡ Some input → GaveCount old new n → (n ≤ length input) × (new.left ≡ Some (drop n input))
after_count old new input n told count =
    let split = split_told new.left old.left input count.piece told count.gave.left in (
      omega (arith, count.exact, ap length split.2, length-append count.piece split.0),
      split.1 ∙ ap (λ (l : List ℕ). Some l) (sym (ap (λ (l : List ℕ). drop n l) split.2 ∙ drop_at count.piece split.0 n count.exact)),
    )

input_told : (old new : World) (told : Told) → Tells old told → old.source ≡ new.source → new.source.left ≡ Some told.input
input_told old new told tells source = sym (ap (λ (x : SourceState). x.left) source) ∙ tells.input

files_told : (old new : World) (told : Told) → Tells old told → old.store ≡ new.store → new.store.files ≡ Some told.files
files_told old new told tells store = sym (ap (λ (x : StoreState). x.files) store) ∙ tells.files

random_told : (old new : World) (told : Told) → Tells old told → old.entropy ≡ new.entropy → new.entropy.left ≡ Some told.random
random_told old new told tells entropy = sym (ap (λ (x : EntropyState). x.left) entropy) ∙ tells.random

same_files : (old new : StoreState) → old ≡ new → KeptFiles old new
same_files old new same = record { files = ap (λ (t : StoreState). t.files) same; faults = omega (arith, ap (λ (t : StoreState). t.faults) same) }

kept_twice : (old mid new : StoreState) → KeptFiles old mid → KeptFiles mid new → KeptFiles old new
kept_twice old mid new first second = record { files = first.files ∙ second.files; faults = omega (arith, first.faults, second.faults) }

drew_same : (old new : EntropyState) → old ≡ new → Drew old new []
drew_same old new same = subst (λ (x : EntropyState). Drew old x []) same (drew_nothing old)

-- nothing is lost of an entropy that is as before
abbrev none_gone : (old new : EntropyState) → old ≡ new → DrewLosing old new []
none_gone old new same = lost_nothing old new [] (drew_same old new same)

-- what a load found, told
file_told : (store : StoreState) (files : Files) (name : List ℕ) (found : Option (List ℕ)) → store.files ≡ Some files → Holds store name found → map.get files name ≡ found
file_told store files name found told holds = let h : IfSome (Some files) (λ f. map.get f name ≡ found) = rw told at holds in h

some_told : (store : StoreState) (files : Files) (name : List ℕ) → store.files ≡ Some files → HoldsSome store name → (bytes : List ℕ) × (map.get files name ≡ Some bytes)
some_told store files name told holds = let h : IfSome (Some files) (λ f. (bytes : List ℕ) × (map.get f name ≡ Some bytes)) = rw told at holds in h

longer_told : (store : StoreState) (files : Files) (name : List ℕ) (limit : ℕ) → store.files ≡ Some files → HoldsLonger store name limit → (bytes : List ℕ) × (map.get files name ≡ Some bytes) × (limit < length bytes)
longer_told store files name limit told holds = let h : IfSome (Some files) (λ f. (bytes : List ℕ) × (map.get f name ≡ Some bytes) × (limit < length bytes)) = rw told at holds in h

fits_test : (n limit : ℕ) → n ≤ limit → nat_le n limit ≡ true
fits_test n limit le = grind (arith, nat_tests)

past_test : (n limit : ℕ) → limit < n → nat_le n limit ≡ false
past_test n limit lt = grind (arith, nat_tests)

-- the answer goes on behind a load
loaded_answer : (found : Option (List ℕ)) (bytes : List ℕ) (limit : ℕ) (absent long : Answer) (next : List ℕ → Answer) → found ≡ Some bytes → length bytes ≤ limit → load_answer found limit absent long next ≡ next bytes
loaded_answer found bytes limit absent long next is le = rw (is, fits_test (length bytes) limit le) refl

long_loaded : (found : Option (List ℕ)) (bytes : List ℕ) (limit : ℕ) (absent long : Answer) (next : List ℕ → Answer) → found ≡ Some bytes → limit < length bytes → load_answer found limit absent long next ≡ long
long_loaded found bytes limit absent long next is lt = rw (is, past_test (length bytes) limit lt) refl

absent_answer : (found : Option (List ℕ)) (limit : ℕ) (absent long : Answer) (next : List ℕ → Answer) → found ≡ None → load_answer found limit absent long next ≡ absent
absent_answer found limit absent long next is = rw is refl

-- the answer goes on behind a range
range_told : (store : StoreState) (files : Files) (x : FileRange) (opened : Opened) → store.files ≡ Some files → HoldsRange store x opened → (bytes : List ℕ) × (map.get files x.name ≡ Some bytes) × (range_in x bytes ≡ opened)
range_told store files x opened told holds = let h : IfSome (Some files) (λ f. (bytes : List ℕ) × (map.get f x.name ≡ Some bytes) × (range_in x bytes ≡ opened)) = rw told at holds in h

opened_answer : (found : Option (List ℕ)) (bytes : List ℕ) (x : FileRange) (opened : Opened) (absent : Answer) (next : Opened → Answer) → found ≡ Some bytes → range_in x bytes ≡ opened → range_answer found x absent next ≡ next opened
opened_answer found bytes x opened absent next is same = ap (λ f. range_answer f x absent next) is ∙ ap next same

unfound_answer : (found : Option (List ℕ)) (x : FileRange) (absent : Answer) (next : Opened → Answer) → found ≡ None → range_answer found x absent next ≡ absent
unfound_answer found x absent next is = ap (λ f. range_answer f x absent next) is

-- the answer where a file may be made
made_answer : (found : Option (List ℕ)) (told : Told) (name output : List ℕ) (taken : Answer) → found ≡ None → create_answer found told name output taken ≡ record (refused told status.Done) { files = map.insert told.files name output }
made_answer found told name output taken is = rw is refl

taken_answer : (found : Option (List ℕ)) (bytes : List ℕ) (told : Told) (name output : List ℕ) (taken : Answer) → found ≡ Some bytes → create_answer found told name output taken ≡ taken
taken_answer found bytes told name output taken is = rw is refl

-- the answer where a name has to be free
free_answer : (found : Option (List ℕ)) (taken next : Answer) → found ≡ None → look_answer found taken next ≡ next
free_answer found taken next is = rw is refl

found_answer : (found : Option (List ℕ)) (bytes : List ℕ) (taken next : Answer) → found ≡ Some bytes → look_answer found taken next ≡ taken
found_answer found bytes taken next is = rw is refl

-- the answer goes on behind bytes that were drawn
settled_answer : {A : Type 0} (give : Draw A) (drawn rest random : List ℕ) (given : Result A EditRefusal) (short : Answer) (next : Drawn A → Answer) → Settles give drawn given → random ≡ drawn ++ rest → draw_answer (give random) short next ≡ next (record { answer = given; left = rest })
settled_answer give drawn rest random given short next settles is = rw (is, settles rest) refl

-- nothing of the objects was used
used_none : (told : Told) (s t : Status) (old new : World) → t ≡ s → Tells old told → old ≡ new → IsAnswer (refused told s) old t new
used_none told s t old new is tells same = record {
  status = is;
  input = input_told old new told tells (ap (λ (w : World). w.source) same);
  output = took_same old.sink new.sink (ap (λ (w : World). w.sink) same);
  files = files_told old new told tells (ap (λ (w : World). w.store) same);
  random = random_told old new told tells (ap (λ (w : World). w.entropy) same);
}

refused_is : (told : Told) (s t : Status) (old new : World) → t ≡ s → Tells old told → OnlyStore old new → KeptFiles old.store new.store → IsAnswer (refused told s) old t new
refused_is told s t old new is tells only kept = record {
  status = is;
  input = input_told old new told tells only.source;
  output = took_same old.sink new.sink only.sink;
  files = sym kept.files ∙ tells.files;
  random = random_told old new told tells only.entropy;
}

-- the file that was added, told
added_told : (old new : StoreState) (files : Files) (name bytes : List ℕ) → old.files ≡ Some files → Added old new name bytes → new.files ≡ Some (map.insert files name bytes)
added_told old new files name bytes told added = added.files ∙ ap (λ (o : Option Files). option_map (λ f. map.insert f name bytes) o) told

-- the answer goes on behind a whole input
read_answer : (limit : ℕ) (long : Status) (stated : IsStated long) (next : List ℕ → Plan) (told : Told) (all : List ℕ) → told.input ≡ all → length all ≤ limit → answer (reads_all limit long stated next) told ≡ answer (next all) (record told { input = [] })
read_answer limit long stated next told all is le = rw (is, fits_test (length all) limit le) refl

long_answer : (limit : ℕ) (long : Status) (stated : IsStated long) (next : List ℕ → Plan) (told : Told) → limit < length told.input → answer (reads_all limit long stated next) told ≡ record (refused told long) { input = Some (drop (limit + 1) told.input) }
long_answer limit long stated next told lt = rw (past_test (length told.input) limit lt) refl

-- the answer goes on behind the front of the input
front_answer : (size : ℕ) (next : List ℕ → Plan) (told : Told) (front : List ℕ) → take size told.input ≡ front → answer (reads_front size next) told ≡ answer (next front) (record told { input = drop size told.input })
front_answer size next told front is = rw is refl

-- the answer of a pass that comes to its end, and of one that is refused
done_answer : (part : Part) (told : Told) → part.refusal told.input true ≡ None → answer (pumps part) told ≡ record (refused told status.Done) { input = Some []; output = part.output told.input true }
done_answer part told is = rw is refl

refused_answer : (part : Part) (told : Told) (refusal : StreamRefusal) → part.refusal told.input true ≡ Some refusal → answer (pumps part) told ≡ record (refused told (stream_status refusal)) { input = None; output = part.output told.input true }
refused_answer part told refusal is = rw is refl

-- a pass that was refused, by what the whole input decides
refused_pass : (part : Part) (told : Told) (refusal : StreamRefusal) (out : List ℕ) (old : World) (s : Status) (new : World) → s ≡ stream_status refusal → OnlyStreams old new → Tells old told → Took old.sink new.sink out → part.refusal told.input true ≡ Some refusal → out ≡ part.output told.input true → IsAnswer (answer (pumps part) told) old s new
refused_pass part told refusal out old s new is only tells took decided same =
    subst (λ (a : Answer). IsAnswer a old s new) (sym (refused_answer part told refusal decided)) (record {
      status = is;
      input = tt;
      output = subst (λ (o : List ℕ). Took old.sink new.sink o) same took;
      files = files_told old new told tells only.store;
      random = random_told old new told tells only.entropy;
    })

pump_answers : (part : Part) (result : Result (Unit {0}) OpenPumpFault) (old : World) (s : Status) (new : World) → IsLasting part → s ≡ pump_status result → OnlyStreams old new → Pumps part [] [] false result old.source new.source old.sink new.sink → (told : Told) → Tells old told → IsStated s → IsAnswer (answer (pumps part) told) old s new
pump_answers part result old s new lasting is only (pass.pumped more out r gave follows end took o d) told tells ok =
    let whole = whole_input old.source new.source told.input more tells.input gave end in
    subst (λ (a : Answer). IsAnswer a old s new) (sym (done_answer part told (ap (λ (l : List ℕ). part.refusal l true) whole.1 ∙ d))) (record {
      status = of_result s result (Ok tt) is r;
      input = whole.0;
      output = subst (λ (x : List ℕ). Took old.sink new.sink x) (o ∙ ap (λ (l : List ℕ). part.output l true) (sym whole.1)) took;
      files = files_told old new told tells only.store;
      random = random_told old new told tells only.entropy;
    })
pump_answers part result old s new lasting is only (pass.refused more out true refusal r gave follows end took o d) told tells ok =
    let whole = whole_input old.source new.source told.input more tells.input gave (end refl) in
    refused_pass part told refusal out old s new (of_refusal s result refusal is r) only tells took (ap (λ (l : List ℕ). part.refusal l true) whole.1 ∙ d) (o ∙ ap (λ (l : List ℕ). part.output l true) (sym whole.1))
pump_answers part result old s new lasting is only (pass.refused more out false refusal r gave follows end took o d) told tells ok =
    let split = split_told new.source.left old.source.left told.input more tells.input gave.left in
    let stays = lasting.stays more split.0 refusal d in
    refused_pass part told refusal out old s new (of_refusal s result refusal is r) only tells took (ap (λ (l : List ℕ). part.refusal l true) split.2 ∙ stays.0) (o ∙ sym stays.1 ∙ ap (λ (l : List ℕ). part.output l true) (sym split.2))
pump_answers part result old s new lasting is only (pass.unread more out r rose gave follows took o d) told tells ok = absurd (not_read_fault s ok (of_result s result (Err faults.ReadFault) is r))
pump_answers part result old s new lasting is only (pass.unwritten more out rest ended r rose gave follows end took some o) told tells ok = absurd (not_write_fault s ok (of_result s result (Err faults.WriteFault) is r))

-- the answer goes on with all of a pass's output
collected_answer : (part : Part) (next : List ℕ → Plan) (told : Told) (all : List ℕ) → told.input ≡ all → part.refusal all true ≡ None → answer (collects part next) told ≡ answer (next (part.output all true)) (record told { input = [] })
collected_answer part next told all is none =
    ap (λ (l : List ℕ). collect_answer (part.refusal l true) told (answer (next (part.output l true)) (record told { input = [] }))) is
    ∙ ap (λ (o : Option StreamRefusal). collect_answer o told (answer (next (part.output all true)) (record told { input = [] }))) none

-- a pass of which nothing was given out was refused, by what the whole input decides
refused_draft : (part : Part) (next : List ℕ → Plan) (told : Told) (taken : List ℕ) (refusal : StreamRefusal) (old : World) (s : Status) (new : World) → s ≡ stream_status refusal → KeptDraft old new taken → Tells old told → part.refusal told.input true ≡ Some refusal → IsAnswer (answer (collects part next) told) old s new
refused_draft part next told taken refusal old s new is kept_draft tells decided =
    let a = λ (o : Option StreamRefusal). collect_answer o told (answer (next (part.output told.input true)) (record told { input = [] })) in
    subst (λ (a : Answer). IsAnswer a old s new) (sym (ap a decided)) (record {
      status = is;
      input = tt;
      output = took_same old.sink new.sink kept_draft.sink;
      files = sym kept_draft.kept.files ∙ tells.files;
      random = random_told old new told tells kept_draft.entropy;
    })

-- the answer from a session on
abbrev talk_on : (next : Keys → Plan) → Told → Talk → Answer
talk_on next told x =
    let saved = record told { files = files_after told.files x.asked } in
    talk_answer x.stop x saved (answer (next x.keys) (record saved { input = []; random = x.random }))

-- a session that is told random bytes behind those it uses
with_more : (exchange : Exchange) (taken drawn rest : List ℕ) (ended : Bool) (stop : Stop) → IsSteady exchange → (exchange taken drawn ended).stop ≡ stop → (stop ≡ wants → ⊥) → (exchange taken drawn ended).random ≡ [] → exchange taken (drawn ++ rest) ended ≡ record (exchange taken drawn ended) { random = rest }
with_more exchange taken drawn rest ended stop steady stands never used =
    steady.random taken drawn rest ended (λ h. never (sym stands ∙ h)) ∙ ap (λ (r : List ℕ). record (exchange taken drawn ended) { random = r ++ rest }) used

-- the whole input and these random bytes are told
exchange_told : (exchange : Exchange) (told : Told) (input random : List ℕ) (x : Talk) → told.input ≡ input → told.random ≡ random → exchange input random true ≡ x → exchange told.input told.random true ≡ x
exchange_told exchange told input random x one two is = ap (λ (l : List ℕ). exchange l told.random true) one ∙ ap (λ (l : List ℕ). exchange input l true) two ∙ is

-- what is told where these files were asked for, and the input was taken
abbrev told_after : Told → List FileAsked → (random : List ℕ) → Told
told_after told asked random = record told { input = []; files = files_after told.files asked; random = random }

-- behind a session that came to the end of its input, over what is told
record IsTold (exchange : StoreAnswers → Exchange) (next : Keys → Plan) (keys : Keys) (asked : List FileAsked) (out : List ℕ) (mid : World) (told : Told) : Type 0 where
  rest : List ℕ
  tells : Tells mid (told_after told asked rest)
  is : answer (exchanges exchange next) told ≡ (let later = answer (next keys) (told_after told asked rest) in record later { output = out ++ later.output })

is_told : (exchange : StoreAnswers → Exchange) (next : Keys → Plan) (keys : Keys) (asked : List FileAsked) (old mid : World) (told : Told) (w : Went (exchange (by_files told.files)) keys asked (sides_of old) (sides_of mid)) → mid.store.files ≡ Some (files_after told.files asked) → IsSteady (exchange (by_files told.files)) → Tells old told
    → IsTold exchange next keys asked (exchange (by_files told.files) w.taken w.drawn true).output mid told
is_told exchange next keys asked old mid told w files steady tells =
    let session = exchange (by_files told.files) in
    let x = session w.taken w.drawn true in
    let whole = whole_input old.source mid.source told.input w.taken tells.input w.has.gave (w.has.end refl) in
    let split = split_told mid.entropy.left old.entropy.left told.random w.drawn tells.random w.has.drew.left in
    let same : session told.input told.random true ≡ record x { random = split.0 } = exchange_told session told w.taken (w.drawn ++ split.0) _ whole.1 split.2 (with_more session w.taken w.drawn split.0 true goes steady w.has.stands (λ h. absurd (cc)) w.has.used) in
    record {
      rest = split.0;
      tells = record { input = whole.0; files = files; random = split.1 };
      is = ap (λ (y : Talk). talk_on next told y) same
          ∙ ap (λ (stop : Stop). talk_answer stop (record x { random = split.0 }) (record told { files = files_after told.files x.asked }) (answer (next x.keys) (told_after told x.asked split.0))) w.has.stands
          ∙ ap (λ (k : Keys). let later = answer (next k) (told_after told x.asked split.0) in record later { output = x.output ++ later.output }) (sym w.last)
          ∙ ap (λ (l : List FileAsked). let later = answer (next keys) (told_after told l split.0) in record later { output = x.output ++ later.output }) w.files;
    }

-- a session past a limit, over what is told
passed_talk : (exchange : StoreAnswers → Exchange) (next : Keys → Plan) (limit : Limit) (taken drawn : List ℕ) (asked : List FileAsked) (told : Told) (old : World) (s : Status) (new : World) → s ≡ limit_status limit → HasTalked Drew (exchange (by_files told.files)) taken drawn false (passes limit) (sides_of old) (sides_of new)
    → (exchange (by_files told.files) taken drawn false).asked ≡ asked → new.store.files ≡ Some (files_after told.files asked) → IsSteady (exchange (by_files told.files)) → Tells old told → IsAnswer (answer (exchanges exchange next) told) old s new
passed_talk exchange next limit taken drawn asked told old s new is has same_asked files steady tells =
    let session = exchange (by_files told.files) in
    let x = session taken drawn false in
    let input = split_told new.source.left old.source.left told.input taken tells.input has.gave.left in
    let random = split_told new.entropy.left old.entropy.left told.random drawn tells.random has.drew.left in
    let more = with_more session taken drawn random.0 false (passes limit) steady has.stands (λ h. absurd (cc)) has.used in
    let lasts = steady.lasts taken input.0 (drawn ++ random.0) limit (ap (λ (y : Talk). y.stop) more ∙ has.stands) in
    let same : session told.input told.random true ≡ record x { random = random.0 } = exchange_told session told (taken ++ input.0) (drawn ++ random.0) _ input.2 random.2 (lasts ∙ more) in
    let saved : Told = record told { files = files_after told.files x.asked } in
    let e : answer (exchanges exchange next) told ≡ record (refused saved (limit_status limit)) { input = None; output = x.output; random = random.0 } =
    ap (λ (y : Talk). talk_on next told y) same
    ∙ ap (λ (stop : Stop). talk_answer stop (record x { random = random.0 }) saved (answer (next x.keys) (record saved { input = []; random = random.0 }))) has.stands in
    subst (λ (a : Answer). IsAnswer a old s new) (sym e) (record { status = is; input = tt; output = has.took; files = files ∙ ap (λ (l : List FileAsked). Some (files_after told.files l)) (sym same_asked); random = random.1 })

talk_answers : (exchange : StoreAnswers → Exchange) (next : Keys → Plan) (fault : TalkFault) (asked : List FileAsked) (told : Told) (old : World) (s : Status) (new : World) → s ≡ talk_status fault → (so : Talks (exchange (by_files told.files)) (Err fault) (sides_of old) (sides_of new)) → HasAsked (exchange (by_files told.files)) (Err fault) (sides_of old) (sides_of new) asked so
    → new.store.files ≡ Some (files_after told.files asked) → IsSteady (exchange (by_files told.files)) → Tells old told → IsStated s → IsAnswer (answer (exchanges exchange next) told) old s new
talk_answers exchange next fault asked told old s new is (talks.talked taken drawn r has none) e files steady tells ok = absurd (cc)
talk_answers exchange next fault asked told old s new is (talks.passed taken drawn limit r has none) e files steady tells ok = passed_talk exchange next limit taken drawn asked told old s new (of_limit s fault limit is r) has e files steady tells
talk_answers exchange next fault asked told old s new is (talks.unread taken drawn r has rose sink entropy) e files steady tells ok = absurd (not_read_fault s ok (of_fault s fault talk_faults.ReadFault is r))
talk_answers exchange next fault asked told old s new is (talks.undrawn taken drawn ended r has rose source sink) e files steady tells ok = absurd (not_entropy_fault s ok (of_fault s fault talk_faults.EntropyFault is r))
talk_answers exchange next fault asked told old s new is (talks.unwritten taken drawn ended r gave drew front end rose source entropy) e files steady tells ok = absurd (not_write_fault s ok (of_fault s fault talk_faults.WriteFault is r))
talk_answers exchange next fault asked told old s new is (talks.starved taken more drawn part r gave drew took stop none) e files steady tells ok = absurd (not_no_memory s ok (of_fault s fault talk_faults.NoMemory is r))

-- where no store fault is told by a reply alone, none is in what comes later
later_none : (P Q : Type 0) → (P → Q) → (a b c : ℕ) → a ≤ b → P ⊎ (Rose a c → ⊥) → Q ⊎ (Rose b c → ⊥)
later_none P Q quiet a b c le (inl saves) = inl (quiet saves)
later_none P Q quiet a b c le (inr never) = inr (λ rose. never (rose_after a b c le rose))

-- a session in which the store didn't fail
never_rose : (A : Type 0) → ⊥ ⊎ (A → ⊥) → A → ⊥
never_rose A (inl none) rose = none
never_rose A (inr never) rose = never rose

answers_over : (p : Plan) (old : World) (s : Status) (new : World) → Ends p old s new → (told : Told) → Tells old told → IsStated s → NoneUnsaved p old new → IsAnswer (answer p told) old s new
answers_over (ends answered stated) old s new (is, same) told tells ok still = used_none told answered s old new is tells same
answers_over (writes output) old s new (wrote is only stood took) told tells ok still = record {
  status = is;
  input = input_told old new told tells only.source;
  output = took;
  files = files_told old new told tells only.store;
  random = random_told old new told tells only.entropy;
}
answers_over (writes output) old s new (write_failed is only rose front) told tells ok still = absurd (not_write_fault s ok is)
answers_over (creates name output taken stated) old s new (made is only stood given added) told tells ok still =
    subst (λ (a : Answer). IsAnswer a old s new) (sym (made_answer _ told name output _ (file_told old.store told.files name None tells.files added.absent))) (record {
      status = is;
      input = input_told old new told tells only.source;
      output = took_same old.sink new.sink only.sink;
      files = added_told old.store new.store told.files name output tells.files added;
      random = random_told old new told tells only.entropy;
    })
answers_over (creates name output taken stated) old s new (name_taken is only kept stood given there) told tells ok still =
    let found = some_told old.store told.files name tells.files there in
    subst (λ (a : Answer). IsAnswer a old s new) (sym (taken_answer _ found.0 told name output _ found.1)) (refused_is told taken s old new is tells only kept)
answers_over (creates name output taken stated) old s new (create_failed is only rose given may) told tells ok still = absurd (not_store_fault s ok is)
answers_over (creates name output taken stated) old s new (create_starved is only kept stood given) told tells ok still = absurd (not_no_memory s ok is)
answers_over (looks name taken stated next) old s new (look_free store kept stood given holds run) told tells ok still =
    let later = answers_over next (record old { store = store }) s new run told (record { input = tells.input; files = sym kept.files ∙ tells.files; random = tells.random }) ok (later_none _ _ (λ saves. saves) _ _ _ kept.faults still) in
    subst (λ (a : Answer). IsAnswer a old s new) (sym (free_answer _ _ _ (file_told old.store told.files name None tells.files holds)))
    (record { status = later.status; input = later.input; output = later.output; files = later.files; random = later.random })
answers_over (looks name taken stated next) old s new (look_taken is only kept stood given there) told tells ok still =
    let found = some_told old.store told.files name tells.files there in
    subst (λ (a : Answer). IsAnswer a old s new) (sym (found_answer _ found.0 _ _ found.1)) (refused_is told taken s old new is tells only kept)
answers_over (looks name taken stated next) old s new (look_failed is only kept rose given) told tells ok still = absurd (not_store_fault s ok is)
answers_over (allocates next) old s new (inl run) told tells ok still = answers_over next old s new run told tells ok still
answers_over (allocates next) old s new (inr (is, same)) told tells ok still = absurd (not_no_memory s ok is)
answers_over (loads name limit absent long a l next) old s new (loaded bytes store kept stood given within holds run) told tells ok still =
    let later = answers_over (next bytes) (record old { store = store }) s new run told (record { input = tells.input; files = sym kept.files ∙ tells.files; random = tells.random }) ok (later_none _ _ (λ saves. saves bytes) _ _ _ kept.faults still) in
    subst (λ (a : Answer). IsAnswer a old s new) (sym (loaded_answer _ bytes limit _ _ _ (file_told old.store told.files name (Some bytes) tells.files holds) within))
    (record { status = later.status; input = later.input; output = later.output; files = later.files; random = later.random })
answers_over (loads name limit absent long a l next) old s new (load_absent is only kept stood given holds) told tells ok still =
    subst (λ (a : Answer). IsAnswer a old s new) (sym (absent_answer _ limit _ _ _ (file_told old.store told.files name None tells.files holds))) (refused_is told absent s old new is tells only kept)
answers_over (loads name limit absent long a l next) old s new (load_long is only kept stood given holds) told tells ok still =
    let longer = longer_told old.store told.files name limit tells.files holds in
    subst (λ (a : Answer). IsAnswer a old s new) (sym (long_loaded _ longer.0 limit _ _ _ longer.1 longer.2)) (refused_is told long s old new is tells only kept)
answers_over (loads name limit absent long a l next) old s new (load_failed is only kept rose given) told tells ok still = absurd (not_store_fault s ok is)
answers_over (loads name limit absent long a l next) old s new (load_starved is only kept stood given) told tells ok still = absurd (not_no_memory s ok is)
answers_over (ranges x absent a next) old s new (ranged opened store most kept stood given least past holds run) told tells ok still =
    let later = answers_over (next opened) (record old { store = store }) s new run told (record { input = tells.input; files = sym kept.files ∙ tells.files; random = tells.random }) ok (later_none _ _ (λ saves. saves opened) _ _ _ kept.faults still) in
    let found = range_told old.store told.files x opened tells.files holds in
    subst (λ (a : Answer). IsAnswer a old s new) (sym (opened_answer _ found.0 x opened _ _ found.1 found.2))
    (record { status = later.status; input = later.input; output = later.output; files = later.files; random = later.random })
answers_over (ranges x absent a next) old s new (range_absent is only kept stood given holds) told tells ok still =
    subst (λ (a : Answer). IsAnswer a old s new) (sym (unfound_answer _ x _ _ (file_told old.store told.files x.name None tells.files holds))) (refused_is told absent s old new is tells only kept)
answers_over (ranges x absent a next) old s new (range_failed most is only kept rose given least) told tells ok still = absurd (not_store_fault s ok is)
answers_over (ranges x absent a next) old s new (range_starved most is only kept stood given least) told tells ok still = absurd (not_no_memory s ok is)
answers_over (reads_all limit long stated next) old s new (read all source gave stood within end run) told tells ok still =
    let whole = whole_input old.source source told.input all tells.input gave end in
    let later = answers_over (next all) (record old { source = source }) s new run (record told { input = [] }) (record { input = whole.0; files = tells.files; random = tells.random }) ok (later_none _ _ (λ saves. saves all) _ _ _ (omega arith) still) in
    subst (λ (a : Answer). IsAnswer a old s new) (sym (read_answer limit long stated next told all whole.1 within))
    (record { status = later.status; input = later.input; output = later.output; files = later.files; random = later.random })
answers_over (reads_all limit long stated next) old s new (too_long is only stood count) told tells ok still =
    let after = after_count old.source new.source told.input (limit + 1) tells.input count in
    subst (λ (a : Answer). IsAnswer a old s new) (sym (long_answer limit long stated next told (omega (arith, after.0)))) (record {
      status = is;
      input = after.1;
      output = took_same old.sink new.sink only.sink;
      files = files_told old new told tells only.store;
      random = random_told old new told tells only.entropy;
    })
answers_over (reads_all limit long stated next) old s new (read_failed is only rose upto) told tells ok still = absurd (not_read_fault s ok is)
answers_over (reads_all limit long stated next) old s new (read_starved is only stood upto) told tells ok still = absurd (not_no_memory s ok is)
answers_over (reads_front size next) old s new (front_read front source gave stood within end run) told tells ok still =
    let split = front_input old.source source told.input front size tells.input gave within end in
    let later = answers_over (next front) (record old { source = source }) s new run (record told { input = drop size told.input }) (record { input = split.0; files = tells.files; random = tells.random }) ok (later_none _ _ (λ saves. saves front) _ _ _ (omega arith) still) in
    subst (λ (a : Answer). IsAnswer a old s new) (sym (front_answer size next told front split.1))
    (record { status = later.status; input = later.input; output = later.output; files = later.files; random = later.random })
answers_over (reads_front size next) old s new (front_failed piece is only rose gave few) told tells ok still = absurd (not_read_fault s ok is)
answers_over (draws kind give next) old s new (settled drawn entropy given drew stood settles run) told tells ok still =
    let split = split_told entropy.left old.entropy.left told.random drawn tells.random drew.left in
    let later = answers_over (next given) (record old { entropy = entropy }) s new run (record told { random = split.0 }) (record { input = tells.input; files = tells.files; random = split.1 }) ok (later_none _ _ (λ saves. saves given) _ _ _ (omega arith) still) in
    subst (λ (a : Answer). IsAnswer a old s new) (sym (settled_answer give drawn split.0 told.random given _ (λ x. answer (next x.answer) (record told { random = x.left })) settles split.2))
    (record { status = later.status; input = later.input; output = later.output; files = later.files; random = later.random })
answers_over (draws kind give next) old s new (draw_failed is only out) told tells ok still = absurd (not_entropy_fault s ok is)
answers_over (draws kind give next) old s new (draw_starved parts is only drawn drew stood none) told tells ok still = absurd (not_no_memory s ok is)
answers_over (pumps part) old s new e told tells ok still = pump_answers part e.result old s new e.lasting e.status e.only e.pass told tells ok
answers_over (collects part next) old s new (collected all source store gave stood kept quiet given end none run) told tells ok still =
    let whole = whole_input old.source source told.input all tells.input gave end in
    let later = answers_over (next (part.output all true)) (record old { source = source; store = store }) s new run (record told { input = [] }) (record { input = whole.0; files = sym kept.files ∙ tells.files; random = tells.random }) ok (later_none _ _ (λ saves. saves (part.output all true)) _ _ _ kept.faults still) in
    subst (λ (a : Answer). IsAnswer a old s new) (sym (collected_answer part next told all whole.1 none))
    (record { status = later.status; input = later.input; output = later.output; files = later.files; random = later.random })
answers_over (collects part next) old s new (collect_refused taken true refusal is kept_draft stood quiet end decided lasting) told tells ok still =
    let whole = whole_input old.source new.source told.input taken tells.input kept_draft.gave (end refl) in
    refused_draft part next told taken refusal old s new is kept_draft tells (ap (λ (l : List ℕ). part.refusal l true) whole.1 ∙ decided)
answers_over (collects part next) old s new (collect_refused taken false refusal is kept_draft stood quiet end decided lasting) told tells ok still =
    let split = split_told new.source.left old.source.left told.input taken tells.input kept_draft.gave.left in
    refused_draft part next told taken refusal old s new is kept_draft tells (ap (λ (l : List ℕ). part.refusal l true) split.2 ∙ (lasting.stays taken split.0 refusal decided).0)
answers_over (collects part next) old s new (collect_unread taken is kept_draft rose quiet undecided) told tells ok still = absurd (not_read_fault s ok is)
answers_over (collects part next) old s new (collect_unkept taken ended is kept_draft stood rose some) told tells ok still = absurd (not_store_fault s ok is)
answers_over (exchanges exchange next) old s new (exchanged keys mid talk steady run) told tells ok still =
    let le = store_grows (next keys) mid s new run in
    let never : Rose old.store.faults mid.store.faults → ⊥ = λ rose. never_rose _ still (rose_on _ _ _ (asks_faults talk.asked old.store mid.store talk.asks) le rose) in
    let so = saves_are_told exchange (Ok keys) (sides_of old) (sides_of mid) old.store mid.store told.files tells.files never talk in
    let w = went (exchange (by_files told.files)) keys so.0 (sides_of old) (sides_of mid) so.1 so.2 in
    let after = is_told exchange next keys so.0 old mid told w so.3 (steady (by_files told.files)) tells in
    let later = answers_over (next keys) mid s new run (told_after told so.0 after.rest) after.tells ok (inr (λ rose. never_rose _ still (rose_after _ _ _ (asks_faults talk.asked old.store mid.store talk.asks) rose))) in
    subst (λ (a : Answer). IsAnswer a old s new) (sym after.is)
    (record { status = later.status; input = later.input; output = took_more _ _ _ _ _ w.has.took later.output; files = later.files; random = later.random })
answers_over (exchanges exchange next) old s new (exchange_ended fault is talk steady) told tells ok still =
    let so = saves_are_told exchange (Err fault) (sides_of old) (sides_of new) old.store new.store told.files tells.files (never_rose _ still) talk in
    talk_answers exchange next fault so.0 told old s new is so.1 so.2 so.3 (steady (by_files told.files)) tells ok

pub answers : (p : Plan) (old : World) (s : Status) (new : World) → Ends p old s new → Answers p old s new
answers p old s new run = record { over = answers_over p old s new run }

-- What stands.

-- a sink and files that are as before, at a status that isn't the write fault
untouched : (p : Plan) (old : World) (s : Status) (new : World) → (s ≡ status.WriteFault → ⊥) → old.sink ≡ new.sink → KeptFiles old.store new.store → Stands p old s new
untouched p old s new other same files = record { files = λ saves done fault. files; torn = λ saves h. inl files; kept = λ whole done fault. took_same old.sink new.sink same; front = λ whole h. absurd (other h); last = λ whole h. absurd (other h) }

-- a file that is new after a step that kept all files
added_later : (old mid new : StoreState) (name bytes : List ℕ) → KeptFiles old mid → AddedFront mid new name bytes → AddedFront old new name bytes
added_later old mid new name bytes kept front = record {
  front = front.front;
  rest = front.rest;
  whole = front.whole;
  added = record {
    absent = subst (λ (f : Option Files). IfSome f (λ files. map.get files name ≡ None)) (sym kept.files) front.added.absent;
    files = front.added.files ∙ ap (λ (f : Option Files). option_map (λ files. map.insert files name front.front) f) (sym kept.files);
    faults = omega (arith, kept.faults, front.added.faults);
  };
}

-- the answer goes on so, with the same status and files
record GoesOn (p rest : Plan) (mid : World) (told : Told) : Type 0 where
  later : Told
  tells : Tells mid later
  same : later.files ≡ told.files
  status : (answer p told).status ≡ (answer rest later).status
  files : (answer p told).files ≡ (answer rest later).files

-- a file that may be there, where the store failed behind a step that kept all files
torn_behind : (p rest : Plan) (old mid new : World) → KeptFiles old.store mid.store → ((told : Told) → Tells old told → GoesOn p rest mid told) → KeptFiles mid.store new.store ⊎ IsTorn rest mid new → KeptFiles old.store new.store ⊎ IsTorn p old new
torn_behind p rest old mid new kept ahead (inl files) = inl (kept_twice _ _ _ kept files)
torn_behind p rest old mid new kept ahead (inr t) = inr (record {
  name = t.name;
  bytes = t.bytes;
  added = added_later _ _ _ t.name t.bytes kept t.added;
  answered = λ told tells. let a = ahead told tells in a.status ∙ t.answered a.later a.tells;
  files = λ told tells. let a = ahead told tells in a.files ∙ t.files a.later a.tells ∙ ap (λ (f : Files). map.insert f t.name t.bytes) a.same;
})

-- what stands behind a step that has used this object alone, where the answer goes on so
goes_on : (p rest : Plan) (old mid : World) (s : Status) (new : World) → (IsWhole p → IsWhole rest) → (SavesNothing p → SavesNothing rest) → KeptFiles old.store mid.store → old.sink ≡ mid.sink → ((told : Told) → Tells old told → (later : Told) × Tells mid later × (later.files ≡ told.files) × (answer p told ≡ answer rest later)) → Stands rest mid s new → Stands p old s new
goes_on p rest old mid s new still quiet kept sink ahead later = record {
  files = λ saves done fault. kept_twice _ _ _ kept (later.files (quiet saves) done fault);
  torn = λ saves h. torn_behind p rest old mid new kept (λ told tells. let a = ahead told tells in record { later = a.0; tells = a.1; same = a.2; status = ap (λ (r : Answer). r.status) a.3; files = ap (λ (r : Answer). r.files) a.3 }) (later.torn (quiet saves) h);
  kept = λ whole done fault. subst (λ (x : SinkState). Took x new.sink []) (sym sink) (later.kept (still whole) done fault);
  front = λ whole h told tells. let a = ahead told tells in
      subst (λ (x : SinkState). TookPrefix x new.sink (answer p told).output) (sym sink)
      (subst (λ (r : Answer). TookPrefix mid.sink new.sink r.output) (sym a.3) (later.front (still whole) h a.0 a.1));
  last = λ whole h told tells. let a = ahead told tells in ap (λ (r : Answer). r.status) a.3 ∙ later.last (still whole) h a.0 a.1;
}

-- the file may be there, where the store failed
torn_file : (name output : List ℕ) (taken : Status) (stated : IsStated taken) (old new : World) → MayAdd old.store new.store name output → KeptFiles old.store new.store ⊎ IsTorn (creates name output taken stated) old new
torn_file name output taken stated old new (inl files) = inl files
torn_file name output taken stated old new (inr front) = inr (record {
  name = name;
  bytes = output;
  added = front;
  answered = λ told tells. ap (λ (a : Answer). a.status) (is told tells);
  files = λ told tells. ap (λ (a : Answer). a.files) (is told tells);
})
  where
    is : (told : Told) → Tells old told → answer (creates name output taken stated) told ≡ record (refused told status.Done) { files = map.insert told.files name output }
    is told tells = made_answer _ told name output _ (file_told old.store told.files name None tells.files front.added.absent)

pub stands : (p : Plan) (old : World) (s : Status) (new : World) → Ends p old s new → Stands p old s new
stands (ends answered stated) old s new (is, same) = untouched (ends answered stated) old s new (λ h. not_write_fault answered stated (sym is ∙ h)) (ap (λ (w : World). w.sink) same) (same_files _ _ (ap (λ (w : World). w.store) same))
stands (writes output) old s new (wrote is only stood took) = record { files = λ saves done fault. same_files _ _ only.store; torn = λ saves h. inl (same_files _ _ only.store); kept = λ whole done fault. absurd (done is); front = λ whole h. absurd (cc); last = λ whole h. absurd (cc) }
stands (writes output) old s new (write_failed is only rose front) = record { files = λ saves done fault. same_files _ _ only.store; torn = λ saves h. inl (same_files _ _ only.store); kept = λ whole done fault. absurd (fault is); front = λ whole h told tells. front; last = λ whole h told tells. refl }
stands (creates name output taken stated) old s new (made is only stood given added) = record { files = λ saves done fault. absurd (done is); torn = λ saves h. absurd (cc); kept = λ whole done fault. absurd (done is); front = λ whole h. absurd (cc); last = λ whole h. absurd (cc) }
stands (creates name output taken stated) old s new (name_taken is only kept stood given there) = untouched (creates name output taken stated) old s new (λ h. not_write_fault taken stated (sym is ∙ h)) only.sink kept
stands (creates name output taken stated) old s new (create_failed is only rose given may) = record {
  files = λ saves done fault. absurd (fault is);
  torn = λ saves h. torn_file name output taken stated old new may;
  kept = λ whole done fault. took_same old.sink new.sink only.sink;
  front = λ whole h. absurd (cc);
  last = λ whole h. absurd (cc);
}
stands (creates name output taken stated) old s new (create_starved is only kept stood given) = untouched (creates name output taken stated) old s new (λ h. absurd (cc)) only.sink kept
stands (looks name taken stated next) old s new (look_free store kept stood given holds run) =
    goes_on (looks name taken stated next) next old (record old { store = store }) s new (λ whole. whole) (λ saves. saves) kept refl
    (λ told tells. (told, record { input = tells.input; files = sym kept.files ∙ tells.files; random = tells.random }, refl, free_answer _ _ _ (file_told old.store told.files name None tells.files holds)))
    (stands next (record old { store = store }) s new run)
stands (looks name taken stated next) old s new (look_taken is only kept stood given there) = untouched (looks name taken stated next) old s new (λ h. not_write_fault taken stated (sym is ∙ h)) only.sink kept
stands (looks name taken stated next) old s new (look_failed is only kept rose given) = untouched (looks name taken stated next) old s new (λ h. absurd (cc)) only.sink kept
stands (allocates next) old s new (inl run) = let later = stands next old s new run in record { files = later.files; torn = λ saves h. torn_later (later.torn saves h); kept = later.kept; front = later.front; last = later.last }
  where
    torn_later : KeptFiles old.store new.store ⊎ IsTorn next old new → KeptFiles old.store new.store ⊎ IsTorn (allocates next) old new
    torn_later (inl files) = inl files
    torn_later (inr t) = inr (record { name = t.name; bytes = t.bytes; added = t.added; answered = t.answered; files = t.files })
stands (allocates next) old s new (inr (is, same)) = untouched (allocates next) old s new (λ h. absurd (cc)) (ap (λ (w : World). w.sink) same) (same_files _ _ (ap (λ (w : World). w.store) same))
stands (loads name limit absent long a l next) old s new (loaded bytes store kept stood given within holds run) =
    goes_on (loads name limit absent long a l next) (next bytes) old (record old { store = store }) s new (λ whole. whole bytes) (λ saves. saves bytes) kept refl
    (λ told tells. (told, record { input = tells.input; files = sym kept.files ∙ tells.files; random = tells.random }, refl, loaded_answer _ bytes limit _ _ _ (file_told old.store told.files name (Some bytes) tells.files holds) within))
    (stands (next bytes) (record old { store = store }) s new run)
stands (loads name limit absent long a l next) old s new (load_absent is only kept stood given holds) = untouched (loads name limit absent long a l next) old s new (λ h. not_write_fault absent a (sym is ∙ h)) only.sink kept
stands (loads name limit absent long a l next) old s new (load_long is only kept stood given holds) = untouched (loads name limit absent long a l next) old s new (λ h. not_write_fault long l (sym is ∙ h)) only.sink kept
stands (loads name limit absent long a l next) old s new (load_failed is only kept rose given) = untouched (loads name limit absent long a l next) old s new (λ h. absurd (cc)) only.sink kept
stands (loads name limit absent long a l next) old s new (load_starved is only kept stood given) = untouched (loads name limit absent long a l next) old s new (λ h. absurd (cc)) only.sink kept
stands (ranges x absent a next) old s new (ranged opened store most kept stood given least past holds run) =
    goes_on (ranges x absent a next) (next opened) old (record old { store = store }) s new (λ whole. whole opened) (λ saves. saves opened) kept refl
    (λ told tells. let found = range_told old.store told.files x opened tells.files holds in
    (told, record { input = tells.input; files = sym kept.files ∙ tells.files; random = tells.random }, refl, opened_answer _ found.0 x opened _ _ found.1 found.2))
    (stands (next opened) (record old { store = store }) s new run)
stands (ranges x absent a next) old s new (range_absent is only kept stood given holds) = untouched (ranges x absent a next) old s new (λ h. not_write_fault absent a (sym is ∙ h)) only.sink kept
stands (ranges x absent a next) old s new (range_failed most is only kept rose given least) = untouched (ranges x absent a next) old s new (λ h. absurd (cc)) only.sink kept
stands (ranges x absent a next) old s new (range_starved most is only kept stood given least) = untouched (ranges x absent a next) old s new (λ h. absurd (cc)) only.sink kept
stands (reads_all limit long stated next) old s new (read all source gave stood within end run) =
    goes_on (reads_all limit long stated next) (next all) old (record old { source = source }) s new (λ whole. whole all) (λ saves. saves all) (same_files old.store old.store refl) refl
    (λ told tells. let whole = whole_input old.source source told.input all tells.input gave end in
    (record told { input = [] }, record { input = whole.0; files = tells.files; random = tells.random }, refl, read_answer limit long stated next told all whole.1 within))
    (stands (next all) (record old { source = source }) s new run)
stands (reads_all limit long stated next) old s new (too_long is only stood count) = untouched (reads_all limit long stated next) old s new (λ h. not_write_fault long stated (sym is ∙ h)) only.sink (same_files _ _ only.store)
stands (reads_all limit long stated next) old s new (read_failed is only rose upto) = untouched (reads_all limit long stated next) old s new (λ h. absurd (cc)) only.sink (same_files _ _ only.store)
stands (reads_all limit long stated next) old s new (read_starved is only stood upto) = untouched (reads_all limit long stated next) old s new (λ h. absurd (cc)) only.sink (same_files _ _ only.store)
stands (reads_front size next) old s new (front_read front source gave stood within end run) =
    goes_on (reads_front size next) (next front) old (record old { source = source }) s new (λ whole. whole front) (λ saves. saves front) (same_files old.store old.store refl) refl
    (λ told tells. let split = front_input old.source source told.input front size tells.input gave within end in
    (record told { input = drop size told.input }, record { input = split.0; files = tells.files; random = tells.random }, refl, front_answer size next told front split.1))
    (stands (next front) (record old { source = source }) s new run)
stands (reads_front size next) old s new (front_failed piece is only rose gave few) = untouched (reads_front size next) old s new (λ h. absurd (cc)) only.sink (same_files _ _ only.store)
stands (draws kind give next) old s new (settled drawn entropy given drew stood settles run) =
    goes_on (draws kind give next) (next given) old (record old { entropy = entropy }) s new (λ whole. whole given) (λ saves. saves given) (same_files old.store old.store refl) refl
    (λ told tells. let split = split_told entropy.left old.entropy.left told.random drawn tells.random drew.left in
    (record told { random = split.0 }, record { input = tells.input; files = tells.files; random = split.1 }, refl, settled_answer give drawn split.0 told.random given _ (λ x. answer (next x.answer) (record told { random = x.left })) settles split.2))
    (stands (next given) (record old { entropy = entropy }) s new run)
stands (draws kind give next) old s new (draw_failed is only out) = untouched (draws kind give next) old s new (λ h. absurd (cc)) only.sink (same_files _ _ only.store)
stands (draws kind give next) old s new (draw_starved parts is only drawn drew stood none) = untouched (draws kind give next) old s new (λ h. absurd (cc)) only.sink (same_files _ _ only.store)
stands (exchanges exchange next) old s new run = record { files = λ saves. absurd saves; torn = λ saves. absurd saves; kept = λ whole. absurd whole; front = λ whole. absurd whole; last = λ whole. absurd whole }
stands (collects part next) old s new (collected all source store gave stood kept quiet given end none run) =
    goes_on (collects part next) (next (part.output all true)) old (record old { source = source; store = store }) s new (λ whole. whole (part.output all true)) (λ saves. saves (part.output all true)) kept refl
    (λ told tells. let whole = whole_input old.source source told.input all tells.input gave end in
    (record told { input = [] }, record { input = whole.0; files = sym kept.files ∙ tells.files; random = tells.random }, refl, collected_answer part next told all whole.1 none))
    (stands (next (part.output all true)) (record old { source = source; store = store }) s new run)
stands (collects part next) old s new (collect_refused taken ended refusal is kept_draft stood quiet end decided lasting) = untouched (collects part next) old s new (λ h. not_write_fault (stream_status refusal) (refusal_stated refusal) (sym is ∙ h)) kept_draft.sink kept_draft.kept
stands (collects part next) old s new (collect_unread taken is kept_draft rose quiet undecided) = untouched (collects part next) old s new (λ h. absurd (cc)) kept_draft.sink kept_draft.kept
stands (collects part next) old s new (collect_unkept taken ended is kept_draft stood rose some) = untouched (collects part next) old s new (λ h. absurd (cc)) kept_draft.sink kept_draft.kept
stands (pumps part) old s new e = record { files = λ saves done fault. same_files _ _ e.only.store; torn = λ saves h. inl (same_files _ _ e.only.store); kept = λ whole. absurd whole; front = λ whole. absurd whole; last = λ whole. absurd whole }

-- What was taken, drawn and written.

front_of : (old new : SinkState) (bytes : List ℕ) (front : TookPrefix old new bytes) → IsFront front.front bytes
front_of old new bytes front = record { rest = front.rest; some = front.some; is = front.whole }

-- no file has changed
kept_stores : (old : World) (s : Status) (new : World) → KeptFiles old.store new.store → (s ≢ status.StoreFault → Stood old.store.faults new.store.faults) → Stores [] old s new
kept_stores old s new kept stood = record { after = old.store.files; asks = refl; files = λ done fault. sym kept.files; torn = λ h. inl (sym kept.files); stood = λ other all. stood other }

-- the store is as it was
same_stores : (old : World) (s : Status) (new : World) → old.store ≡ new.store → Stores [] old s new
same_stores old s new same = kept_stores old s new (same_files _ _ same) (λ other. sym (ap (λ (x : StoreState). x.faults) same))

-- a file that may be there, where the store failed
may_front : (name bytes : List ℕ) (old new : StoreState) → MayAdd old new name bytes → (new.files ≡ old.files) ⊎ AddsFront old.files new.files
may_front name bytes old new (inl kept) = inl (sym kept.files)
may_front name bytes old new (inr front) = inr (record { name = name; bytes = bytes; front = front.front; rest = front.rest; whole = front.whole; absent = front.added.absent; is = front.added.files })

-- the run is done, or the store failed
ended_stores : (old : World) (s : Status) (new : World) → (s ≢ status.Done → s ≢ status.StoreFault → ⊥) → (s ≡ status.StoreFault → (new.store.files ≡ old.store.files) ⊎ AddsFront old.store.files new.store.files) → (s ≢ status.StoreFault → Stood old.store.faults new.store.faults) → Stores [] old s new
ended_stores old s new never torn stood = record { after = old.store.files; asks = refl; files = λ done fault. absurd (never done fault); torn = torn; stood = λ other all. stood other }

-- behind a step that kept all files
later_stores : (asked : List FileAsked) (old mid : World) (s : Status) (new : World) → old.store.files ≡ mid.store.files → Stood old.store.faults mid.store.faults → Stores asked mid s new → Stores asked old s new
later_stores asked old mid s new same stood later = record {
  after = later.after;
  asks = subst (λ (f : Option Files). AsksOver asked f later.after) (sym same) later.asks;
  files = later.files;
  torn = later.torn;
  stood = λ other all. later.stood other all ∙ stood;
}

-- nothing was moved
none_moved : (p : Plan) (old : World) (s : Status) (new : World) → old ≡ new → IsLeft p old.store.files s nothing → Leaves p old s new
none_moved p old s new same is = record {
  moved = nothing;
  gave = gave_same _ _ (ap (λ (w : World). w.source) same);
  gone = none_gone _ _ (ap (λ (w : World). w.entropy) same);
  none_lost = λ other. refl;
  took = took_same _ _ (ap (λ (w : World). w.sink) same);
  is = is;
  store = same_stores old s new (ap (λ (w : World). w.store) same);
}

-- the store alone was used
store_used : (p : Plan) (old : World) (s : Status) (new : World) → OnlyStore old new → Stores [] old s new → IsLeft p old.store.files s nothing → Leaves p old s new
store_used p old s new only stores is = record { moved = nothing; gave = gave_same _ _ only.source; gone = none_gone _ _ only.entropy; none_lost = λ other. refl; took = took_same _ _ only.sink; is = is; store = stores }

-- bytes were written alone
some_written : (p : Plan) (old : World) (s : Status) (new : World) (written : List ℕ) → Took old.sink new.sink written → OnlySink old new → IsLeft p old.store.files s (record nothing { written = written }) → Leaves p old s new
some_written p old s new written took only is = record { moved = record nothing { written = written }; gave = gave_same _ _ only.source; gone = none_gone _ _ only.entropy; none_lost = λ other. refl; took = took; is = is; store = same_stores old s new only.store }

-- bytes were taken alone
some_taken : (p : Plan) (old : World) (s : Status) (new : World) (taken : List ℕ) → Gave old.source new.source taken → OnlySource old new → IsLeft p old.store.files s (record nothing { taken = taken }) → Leaves p old s new
some_taken p old s new taken gave only is = record { moved = record nothing { taken = taken }; gave = gave; gone = none_gone _ _ only.entropy; none_lost = λ other. refl; took = took_same _ _ only.sink; is = is; store = same_stores old s new only.store }

-- what a pass took and wrote
passed : (part : Part) (old : World) (s : Status) (new : World) (taken written : List ℕ) → OnlyStreams old new → Gave old.source new.source taken → Took old.sink new.sink written → IsPassLeft part s taken written → Leaves (pumps part) old s new
passed part old s new taken written only gave took is = record {
  moved = record nothing { taken = taken; written = written };
  gave = gave;
  gone = none_gone _ _ only.entropy;
  none_lost = λ other. refl;
  took = took;
  is = (refl, is);
  store = same_stores old s new only.store;
}

pump_leaves : (part : Part) (result : Result (Unit {0}) OpenPumpFault) (old : World) (s : Status) (new : World) → s ≡ pump_status result → OnlyStreams old new → Pumps part [] [] false result old.source new.source old.sink new.sink → Leaves (pumps part) old s new
pump_leaves part result old s new is only (pass.pumped more out r gave follows end took o d) = passed part old s new more out only gave took (pass_done (of_result s result (Ok tt) is r) d o)
pump_leaves part result old s new is only (pass.refused more out ended refusal r gave follows end took o d) = passed part old s new more out only gave took (pass_refused ended refusal (of_refusal s result refusal is r) d o)
pump_leaves part result old s new is only (pass.unread more out r rose gave follows took o d) = passed part old s new more out only gave took (pass_unread (of_result s result (Err faults.ReadFault) is r) d o)
pump_leaves part result old s new is only (pass.unwritten more out rest ended r rose gave follows end took some o) = passed part old s new more out only gave took (pass_unwritten ended (of_result s result (Err faults.WriteFault) is r) (record { rest = rest; some = some; is = o }))

-- where no file was asked for in vain the store didn't fail
asked_stood : (a : FileAsked) (old new : StoreState) → AsksFor a old new → a.why ≢ Some StoreFault → Stood old.faults new.faults
asked_stood a old new (files.made why added stood given) other = stood
asked_stood a old new (files.there why holds same) other = sym (ap (λ (x : StoreState). x.faults) same)
asked_stood a old new (files.failed why may rose given) other = absurd (other why)

asks_stood : (asked : List FileAsked) (old new : StoreState) → Asks asked old new → AllStood asked → Stood old.faults new.faults
asks_stood [] old new same all = sym (ap (λ (x : StoreState). x.faults) same)
asks_stood (a ∷ asked) old new asks all = asks_stood asked asks.0 new asks.2 all.1 ∙ asked_stood a old asks.0 asks.1 all.0

all_first : (first second : List FileAsked) → AllStood (first ++ second) → AllStood first
all_first [] second all = tt
all_first (a ∷ first) second all = (all.0, all_first first second all.1)

all_second : (first second : List FileAsked) → AllStood (first ++ second) → AllStood second
all_second [] second all = all
all_second (a ∷ first) second all = all_second first second all.1

over_more : (first second : List FileAsked) (files mid after : Option Files) → AsksOver first files mid → AsksOver second mid after → AsksOver (first ++ second) files after
over_more [] second files mid after same later = subst (λ (f : Option Files). AsksOver second f after) (sym same) later
over_more (a ∷ first) second files mid after asks later = (asks.0, asks.1, asks.2, asks.3, over_more first second asks.1.files mid after asks.4 later)

-- a store of which files were asked for
asked_stores : (asked : List FileAsked) (old : World) (s : Status) (new : World) → Asks asked old.store new.store → Stores asked old s new
asked_stores asked old s new asks = record {
  after = new.store.files;
  asks = asks_over asked old.store new.store asks;
  files = λ done fault. refl;
  torn = λ h. inl refl;
  stood = λ other all. asks_stood asked old.store new.store asks all;
}

-- and then of more files, in what comes later
session_stores : (first second : List FileAsked) (old mid : World) (s : Status) (new : World) → Asks first old.store mid.store → Stores second mid s new → Stores (first ++ second) old s new
session_stores first second old mid s new asks later = record {
  after = later.after;
  asks = over_more first second old.store.files mid.store.files later.after (asks_over first old.store mid.store asks) later.asks;
  files = later.files;
  torn = later.torn;
  stood = λ other all. later.stood other (all_second first second all) ∙ asks_stood first old.store mid.store asks (all_first first second all);
}

-- what a session took, drew and wrote
talk_left : {D : (old new : EntropyState) → List ℕ → Type 0} (exchange : StoreAnswers → Exchange) (answers : StoreAnswers) (next : Keys → Plan) (asked : List FileAsked) (old : World) (s : Status) (new : World) (taken drawn : List ℕ) (ended : Bool) (stop : Stop) → Asks asked old.store new.store → Agrees answers [] asked
    → HasTalked D (exchange answers) taken drawn ended stop (sides_of old) (sides_of new) → (exchange answers taken drawn ended).asked ≡ asked → (gone : DrewLosing old.entropy new.entropy drawn) → (s ≢ status.EntropyFault → gone.lost ≡ [])
    → (HasReplied (exchange answers) (record { taken = taken; drawn = drawn; written = (exchange answers taken drawn ended).output; asked = asked }) ended stop → IsTalkLeft (exchange answers) s (record { taken = taken; drawn = drawn; written = (exchange answers taken drawn ended).output; asked = asked })) → Leaves (exchanges exchange next) old s new
talk_left exchange answers next asked old s new taken drawn ended stop asks agrees has files gone none_lost is = record {
  moved = record { taken = taken; drawn = drawn; written = (exchange answers taken drawn ended).output; asked = asked };
  gave = has.gave;
  gone = gone;
  none_lost = none_lost;
  took = has.took;
  is = inl (answers, agrees, is (record { stands = has.stands; used = has.used; written = refl; files = files }));
  store = asked_stores asked old s new asks;
}

talk_leaves : (exchange : StoreAnswers → Exchange) (answers : StoreAnswers) (next : Keys → Plan) (fault : TalkFault) (asked : List FileAsked) (old : World) (s : Status) (new : World) → s ≡ talk_status fault → Asks asked old.store new.store → Agrees answers [] asked
    → (so : Talks (exchange answers) (Err fault) (sides_of old) (sides_of new)) → HasAsked (exchange answers) (Err fault) (sides_of old) (sides_of new) asked so → Leaves (exchanges exchange next) old s new
talk_leaves exchange answers next fault asked old s new is asks agrees (talks.talked taken drawn r has none) e = absurd (cc)
talk_leaves exchange answers next fault asked old s new is asks agrees (talks.passed taken drawn limit r has none) e = talk_left exchange answers next asked old s new taken drawn false (passes limit) asks agrees has e (lost_nothing _ _ drawn has.drew) (λ other. refl) (λ h. talk_passed limit (of_limit s fault limit is r) h)
talk_leaves exchange answers next fault asked old s new is asks agrees (talks.unread taken drawn r has rose sink entropy) e = talk_left exchange answers next asked old s new taken drawn false goes asks agrees has e (lost_nothing _ _ drawn has.drew) (λ other. refl) (λ h. talk_unread (of_fault s fault talk_faults.ReadFault is r) h)
talk_leaves exchange answers next fault asked old s new is asks agrees (talks.undrawn taken drawn ended r has rose source sink) e = talk_left exchange answers next asked old s new taken drawn ended wants asks agrees has e has.drew (λ other. absurd (other (of_fault s fault talk_faults.EntropyFault is r))) (λ h. talk_undrawn ended (of_fault s fault talk_faults.EntropyFault is r) h)
talk_leaves exchange answers next fault asked old s new is asks agrees (talks.unwritten taken drawn ended r gave drew front end rose source entropy) e = record {
  moved = record { taken = taken; drawn = drawn; written = front.front; asked = asked };
  gave = gave;
  gone = lost_nothing _ _ drawn drew;
  none_lost = λ other. refl;
  took = front.took;
  is = inl (answers, agrees, talk_unwritten ended (of_fault s fault talk_faults.WriteFault is r) (front_of _ _ _ front) e.0 e.1);
  store = asked_stores asked old s new asks;
}
talk_leaves exchange answers next fault asked old s new is asks agrees (talks.starved taken more drawn part r gave drew took stop none) e = record {
  moved = record { taken = taken ++ more; drawn = drawn ++ part; written = (exchange answers taken drawn false).output; asked = asked };
  gave = gave;
  gone = lost_nothing _ _ (drawn ++ part) drew;
  none_lost = λ other. refl;
  took = took;
  is = inl (answers, agrees, talk_starved taken more drawn part (of_fault s fault talk_faults.NoMemory is r) refl refl stop refl e);
  store = asked_stores asked old s new asks;
}

-- what a pass took of which nothing was given out
taken_draft : (part : Part) (next : List ℕ → Plan) (old : World) (s : Status) (new : World) (taken : List ℕ) → KeptDraft old new taken → (s ≢ status.StoreFault → Stood old.store.faults new.store.faults) → IsDraftLeft part s taken → Leaves (collects part next) old s new
taken_draft part next old s new taken kept_draft stood is = record {
  moved = record nothing { taken = taken };
  gave = kept_draft.gave;
  gone = none_gone _ _ kept_draft.entropy;
  none_lost = λ other. refl;
  took = took_same _ _ kept_draft.sink;
  is = inl (refl, is);
  store = kept_stores old s new kept_draft.kept stood;
}

pub leaves : (p : Plan) (old : World) (s : Status) (new : World) → Ends p old s new → Leaves p old s new
leaves (ends answered stated) old s new (is, same) = none_moved _ old s new same (is, refl)
leaves (writes output) old s new (wrote is only stood took) = some_written _ old s new output took only (inl (is, refl))
leaves (writes output) old s new (write_failed is only rose front) = some_written _ old s new front.front front.took only (inr (is, front_of _ _ _ front, refl))
leaves (creates name output taken stated) old s new (made is only stood given added) = store_used _ old s new only (ended_stores old s new (λ done fault. done is) (λ h. absurd (cc)) (λ other. stood)) (refl, inl (is, added.absent))
leaves (creates name output taken stated) old s new (name_taken is only kept stood given there) = store_used _ old s new only (kept_stores old s new kept (λ other. stood)) (refl, inr (inl (is, there)))
leaves (creates name output taken stated) old s new (create_failed is only rose given may) = store_used _ old s new only (ended_stores old s new (λ done fault. fault is) (λ h. may_front name output old.store new.store may) (λ other. absurd (other is))) (refl, inr (inr (inl is)))
leaves (creates name output taken stated) old s new (create_starved is only kept stood given) = store_used _ old s new only (kept_stores old s new kept (λ other. stood)) (refl, inr (inr (inr is)))
leaves (looks name taken stated next) old s new (look_free store kept stood given holds run) =
    let later = leaves next (record old { store = store }) s new run in
    record { moved = later.moved; gave = later.gave; gone = later.gone; none_lost = later.none_lost; took = later.took; is = inr (holds, subst (λ (f : Option Files). IsLeft next f s later.moved) (sym kept.files) later.is); store = later_stores later.moved.asked old (record old { store = store }) s new kept.files stood later.store }
leaves (looks name taken stated next) old s new (look_taken is only kept stood given there) = store_used _ old s new only (kept_stores old s new kept (λ other. stood)) (inl (refl, inl (is, there)))
leaves (looks name taken stated next) old s new (look_failed is only kept rose given) = store_used _ old s new only (kept_stores old s new kept (λ other. absurd (other is))) (inl (refl, inr is))
leaves (allocates next) old s new (inl run) = let later = leaves next old s new run in record { moved = later.moved; gave = later.gave; gone = later.gone; none_lost = later.none_lost; took = later.took; is = inr later.is; store = later.store }
leaves (allocates next) old s new (inr (is, same)) = none_moved _ old s new same (inl (is, refl))
leaves (loads name limit absent long a l next) old s new (loaded bytes store kept stood given within holds run) =
    let later = leaves (next bytes) (record old { store = store }) s new run in
    record { moved = later.moved; gave = later.gave; gone = later.gone; none_lost = later.none_lost; took = later.took; is = inr (bytes, holds, within, subst (λ (f : Option Files). IsLeft (next bytes) f s later.moved) (sym kept.files) later.is); store = later_stores later.moved.asked old (record old { store = store }) s new kept.files stood later.store }
leaves (loads name limit absent long a l next) old s new (load_absent is only kept stood given holds) = store_used _ old s new only (kept_stores old s new kept (λ other. stood)) (inl (refl, inl (is, holds)))
leaves (loads name limit absent long a l next) old s new (load_long is only kept stood given holds) = store_used _ old s new only (kept_stores old s new kept (λ other. stood)) (inl (refl, inr (inl (is, holds))))
leaves (loads name limit absent long a l next) old s new (load_failed is only kept rose given) = store_used _ old s new only (kept_stores old s new kept (λ other. absurd (other is))) (inl (refl, inr (inr (inl is))))
leaves (loads name limit absent long a l next) old s new (load_starved is only kept stood given) = store_used _ old s new only (kept_stores old s new kept (λ other. stood)) (inl (refl, inr (inr (inr is))))
leaves (ranges x absent a next) old s new (ranged opened store most kept stood given least past holds run) =
    let later = leaves (next opened) (record old { store = store }) s new run in
    record { moved = later.moved; gave = later.gave; gone = later.gone; none_lost = later.none_lost; took = later.took; is = inr (opened, holds, subst (λ (f : Option Files). IsLeft (next opened) f s later.moved) (sym kept.files) later.is); store = later_stores later.moved.asked old (record old { store = store }) s new kept.files stood later.store }
leaves (ranges x absent a next) old s new (range_absent is only kept stood given holds) = store_used _ old s new only (kept_stores old s new kept (λ other. stood)) (inl (refl, inl (is, holds)))
leaves (ranges x absent a next) old s new (range_failed most is only kept rose given least) = store_used _ old s new only (kept_stores old s new kept (λ other. absurd (other is))) (inl (refl, inr (inl is)))
leaves (ranges x absent a next) old s new (range_starved most is only kept stood given least) = store_used _ old s new only (kept_stores old s new kept (λ other. stood)) (inl (refl, inr (inr is)))
leaves (reads_all limit long stated next) old s new (read all source gave stood within end run) =
    let later = leaves (next all) (record old { source = source }) s new run in
    record { moved = record later.moved { taken = all ++ later.moved.taken }; gave = gave_more _ _ _ _ _ gave later.gave; gone = later.gone; none_lost = later.none_lost; took = later.took; is = inr (all, later.moved.taken, refl, within, later.is); store = later_stores later.moved.asked old (record old { source = source }) s new refl refl later.store }
leaves (reads_all limit long stated next) old s new (too_long is only stood count) = some_taken _ old s new count.piece count.gave only (inl (refl, inl (is, count.exact)))
leaves (reads_all limit long stated next) old s new (read_failed is only rose upto) = some_taken _ old s new upto.piece upto.gave only (inl (refl, inr (inl is, upto.within)))
leaves (reads_all limit long stated next) old s new (read_starved is only stood upto) = some_taken _ old s new upto.piece upto.gave only (inl (refl, inr (inr is, upto.within)))
leaves (reads_front size next) old s new (front_read front source gave stood within end run) =
    let later = leaves (next front) (record old { source = source }) s new run in
    record { moved = record later.moved { taken = front ++ later.moved.taken }; gave = gave_more _ _ _ _ _ gave later.gave; gone = later.gone; none_lost = later.none_lost; took = later.took; is = inr (front, later.moved.taken, refl, within, later.is); store = later_stores later.moved.asked old (record old { source = source }) s new refl refl later.store }
leaves (reads_front size next) old s new (front_failed piece is only rose gave few) = some_taken _ old s new piece gave only (inl (is, few, refl))
leaves (draws kind give next) old s new (settled drawn entropy given drew stood settles run) =
    let later = leaves (next given) (record old { entropy = entropy }) s new run in
    record { moved = record later.moved { drawn = drawn ++ later.moved.drawn }; gave = later.gave; gone = lost_later _ _ _ _ _ drew later.gone; none_lost = later.none_lost; took = later.took; is = inr (drawn, later.moved.drawn, given, refl, settles, later.is); store = later_stores later.moved.asked old (record old { entropy = entropy }) s new refl refl later.store }
leaves (draws kind give next) old s new (draw_failed is only out) = record { moved = record nothing { drawn = out.drawn }; gave = gave_same _ _ only.source; gone = out.gone; none_lost = λ other. absurd (other is); took = took_same _ _ only.sink; is = inl (inl is, out.undecided, refl); store = same_stores old s new only.store }
leaves (draws kind give next) old s new (draw_starved parts is only drawn drew stood none) = record { moved = record nothing { drawn = drawn }; gave = gave_same _ _ only.source; gone = lost_nothing _ _ drawn drew; none_lost = λ other. refl; took = took_same _ _ only.sink; is = inl (inr (is, parts), none, refl); store = same_stores old s new only.store }
leaves (collects part next) old s new (collected all source store gave stood kept quiet given end none run) =
    let later = leaves (next (part.output all true)) (record old { source = source; store = store }) s new run in
    record { moved = record later.moved { taken = all ++ later.moved.taken }; gave = gave_more _ _ _ _ _ gave later.gave; gone = later.gone; none_lost = later.none_lost; took = later.took; is = inr (all, later.moved.taken, refl, none, subst (λ (f : Option Files). IsLeft (next (part.output all true)) f s later.moved) (sym kept.files) later.is); store = later_stores later.moved.asked old (record old { source = source; store = store }) s new kept.files quiet later.store }
leaves (collects part next) old s new (collect_refused taken ended refusal is kept_draft stood quiet end decided lasting) = taken_draft part next old s new taken kept_draft (λ other. quiet) (draft_refused ended refusal is decided)
leaves (collects part next) old s new (collect_unread taken is kept_draft rose quiet undecided) = taken_draft part next old s new taken kept_draft (λ other. quiet) (draft_unread is undecided)
leaves (collects part next) old s new (collect_unkept taken ended is kept_draft stood rose some) = taken_draft part next old s new taken kept_draft (λ other. absurd (other is)) (draft_unkept ended is some)
leaves (pumps part) old s new e = pump_leaves part e.result old s new e.status e.only e.pass
leaves (exchanges exchange next) old s new (exchanged keys mid talk steady run) =
    let so = some_session exchange (Ok keys) (sides_of old) (sides_of mid) old.store mid.store talk in
    let w = went (exchange so.0) keys talk.asked (sides_of old) (sides_of mid) so.2 so.3 in
    let x = exchange so.0 w.taken w.drawn true in
    let later = leaves (next keys) mid s new run in
    let first : Moved = record { taken = w.taken; drawn = w.drawn; written = x.output; asked = talk.asked } in
    record {
      moved = then_moved first later.moved;
      gave = gave_more _ _ _ _ _ w.has.gave later.gave;
      gone = lost_later _ _ _ _ _ w.has.drew later.gone;
      none_lost = later.none_lost;
      took = took_more _ _ _ _ _ w.has.took later.took;
      is = inr (
        first,
        later.moved,
        mid.store.files,
        refl,
        asks_over talk.asked old.store mid.store talk.asks,
        so.0,
        so.1,
        record { stands = w.has.stands; used = w.has.used; written = refl; files = w.files },
        subst (λ (k : Keys). IsLeft (next k) mid.store.files s later.moved) w.last later.is,
      );
      store = session_stores talk.asked later.moved.asked old mid s new talk.asks later.store;
    }
leaves (exchanges exchange next) old s new (exchange_ended fault is talk steady) =
    let so = some_session exchange (Err fault) (sides_of old) (sides_of new) old.store new.store talk in
    talk_leaves exchange so.0 next fault talk.asked old s new is talk.asks so.1 so.2 so.3

pub promised : (p : Plan) (old : World) (s : Status) (new : World) → Ends p old s new → Promised p old s new
promised p old s new run = record {
  answer = answers p old s new run;
  cause = has_cause p old s new run;
  shown = shows_faults p old s new run;
  leaves = leaves p old s new run;
  reads = reads p old s new run;
  stands = stands p old s new run;
  complete = completes p old s new run;
  ends = run;
}
