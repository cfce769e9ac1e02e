-- A key that is ENABLED and alone under its prefix stays so, over the runs that spare it.
use Rattle.std.proofs.Common.{◌≡◌, ◌⊎◌, ◌∙◌, inl, inr, refl, sym, ap, subst, ℕ, suc, Bool, List, [], ◌∷◌, ◌++◌, Option, Some, None, option_map, ◌<◌}
use Rattle.std.specs.Prelude.{IfSome, slice_get}
use Rattle.std.specs.FinMap as map
use Rattle.std.specs.List.{AllByRecursion}
use Rattle.std.proofs.lemmas.List.{append_cancel_left}
use Rattle.std.proofs.lemmas.Option.{same_Some}
use Rattle.key_msgs.specs.Templates.{row_named}
use Rattle.keyset_json.specs.Writing.{JsonBack}
use Rattle.keyset_model.specs.Keyset.{Keys}
use Rattle.keyset_model.specs.WellFormed.{FaultlessKeysets}
use Rattle.keyset_model.specs.Writing.{BinaryBack}
use Rattle.keyset_model.specs.declared.record.Record.{Record}
use Rattle.managers.specs.Standard.{standard_table}
use Rattle.managers.specs.Table.{Table}
use Rattle.tink_spec.specs.Files.{Files}
use Rattle.tinkey_cmds.specs.Edits.{Edit, Stepped, first, step}
use Rattle.tinkey_cmds.specs.Edits as edits
use Rattle.tinkey_cmds.proofs.Among.{Among}
use Rattle.tinkey_cmds.specs.Laws.{FirstsAreKeysets}
use Rattle.tinkey_session.proofs.DistinctLemmas.{IsHeld, firsts_have_distinct_ids, held_by_edit, ids_stay_distinct, word_of_key}
use Rattle.tinkey_session.proofs.EnabledLemmas.{data_stays, enable_gives_back}
use Rattle.tinkey_session.proofs.KeptKeyLemmas.{if_ok, kept_by_edits, passes_among}
use Rattle.tinkey_session.proofs.KeptLineLemmas.{Follows, follows_key, held_by_session, kept_by_session, session_data_stays, session_ids_stay_distinct, named_follows}
use Rattle.tinkey_session.proofs.TurnLemmas.{same_Ok}
use Rattle.tinkey_session.specs.HeldLaws.{AreStored, FirstsAreStored}
use Rattle.tinkey_session.specs.KeptKeys.{HasData, HasDistinctIds, Spares, SparesData, SparesKey}
use Rattle.tinkey_session.specs.Laws.{kept}
use Rattle.tinkey_session.specs.Session.{Remains, remains}
use Rattle.wrapped_prims.specs.Candidates.{is_enabled_with, prefix_of}
use Rattle.wrapped_prims.specs.Laws.{HasKey, HasSameKey}
use Rattle.wrapped_prims.specs.Making.{HasWordId}
use Rattle.tinkey_plans.specs.Commands.{asked_plan, command_plan}
use Rattle.tinkey_plans.specs.Ends.{World}
use Rattle.tinkey_plans.specs.Plan.{Answer, IsStated, Plan, Told, answer}
use Rattle.tinkey_plans.specs.Promises.{IsAnswer}
use Rattle.tinkey_plans.specs.Steps.{makes_keyset, puts_keyset}
use Rattle.tinkey_plans.specs.declared.status.Status.{Status}
use Rattle.tinkey_plans.specs.declared.status.Status.TheVariants as status
use Rattle.tinkey_readable.proofs.FileLemmas.{files_stay, has_once}
use Rattle.tinkey_readable.proofs.LockedRunLemmas.{EachUnder, StepLaws, UnderSeal, created_first, created_gives, locks_keep, one_more, wrapped_first}
use Rattle.tinkey_readable.proofs.ReachLemmas.{found_row, made_done, put_done}
use Rattle.tinkey_readable.proofs.RunLemmas.{each_of, hands_within, template_row, kept as keyset_written}
use Rattle.tinkey_readable.specs.KeptRuns.{CommandIdsStayDistinct, CreatedIdsAreDistinct, CreatedUnderLock, CreatesFirst, CreatesThis, DataStaysByCommands, Event, EventDraws, GivenBackByEnable, GivenBackUnderLock, HaveLed, HasLed, IsPut, KeptByCommands, KeptByItsIdAlone, HavePassed, OfAsked, OfEvent, OfEvents, OfLocked, Passes, PassesOn, PassesUnder, PassesWrapped, StaysIn, TookPlace, WrapsFirst, passed_by, passed_on, passed_wrapped}
use Rattle.tinkey_readable.specs.Runs.{AreLocked, CreatesUnder, Does, DrawsBytes, GoesLocked, Handing, Hands, HandsOn, HandsUnder, HoldsBytes, ReadIsStored, Run, RunStep, Wraps, Written, bytes_at, keyset_of, master_told, told_lines}
use Rattle.tinkey_words.specs.declared.words.rows.Format.{Format}
use Rattle.tinkey_words.specs.Words.{Asked, AskedEdit, Lock, KeysetFile, create_keyset, edit_keyset, list_keyset, key_of, convert_keyset, list_key_templates, use_keyset, use_envelope, use_stream, open_range, self_test, session, help, version}

-- ---- one run

-- what the edit of a run leaves has this, and what its session does
record EachDone (P : Keys → Type 0) (table : Table) (told : Told) (old : Keys) (asked : Asked) : Type 0 where
  by_edit : (lock : Lock) (edit : AskedEdit) (in' out : KeysetFile) → asked ≡ edit_keyset lock edit in' out → (e : Edit) → Follows edit e → (s : Stepped) → step old e told.random ≡ Some s → P (kept old s.answer)
  by_session : (lock : Lock) (name : List ℕ) (form : Format) (out : KeysetFile) (saved_only : Bool) → asked ≡ session lock name form out saved_only → (m : Remains) → remains table old (told_lines table (master_told lock told) out.form saved_only old told) told.random ≡ Some m → P m.keys

-- any other run that hands a keyset on leaves it
run_keeps : (P : Keys → Type 0) (table : Table) (told : Told) (asked : Asked) (old new : Keys) → P old → EachDone P table told old asked → Does table told old new asked → P new
run_keeps P table told (edit_keyset lock edit in' out) old new p each does =
    subst (λ a. P (kept old a)) does.accepted (each.by_edit lock edit in' out refl does.edit (named_follows edit does.edit does.is) does.stepped does.steps)
run_keeps P table told (convert_keyset lock how in' out) old new p each does = subst P does p
run_keeps P table told (session lock name form out saved_only) old new p each does = subst P does.2 (each.by_session lock name form out saved_only refl does.0 does.1)
run_keeps P table told (create_keyset lock template out) old new p each does = absurd does
run_keeps P table told (list_keyset lock in') old new p each does = absurd does
run_keeps P table told (key_of lock name form kind ad) old new p each does = absurd does
run_keeps P table told (list_key_templates primitive) old new p each does = absurd does
run_keeps P table told (use_keyset lock name form work out) old new p each does = absurd does
run_keeps P table told (use_envelope lock name form template work out) old new p each does = absurd does
run_keeps P table told (use_stream lock name form work ad out) old new p each does = absurd does
run_keeps P table told (open_range lock name form ad range out) old new p each does = absurd does
run_keeps P table told (self_test seed lines) old new p each does = absurd does
run_keeps P table told (help topic) old new p each does = absurd does
run_keeps P table told version old new p each does = absurd does

key_done : (table : Table) (r : Record) (prefix : List ℕ) → HasWordId r → prefix_of r ≡ Some prefix → (told : Told) (old : Keys) (asked : Asked) → HasSameKey r old → OfAsked (SparesKey r) old told asked → EachDone (HasSameKey r) standard_table told old asked
key_done table r prefix word has told old asked key spares = record {
  by_edit = λ lock edit in' out is e follows s steps. kept_by_edits old r prefix e told.random s word has key steps (if_ok s.answer (follows_key r old edit e follows (subst (OfAsked (SparesKey r) old told) is spares)));
  by_session = λ lock name form out saved_only is m. kept_by_session standard_table old r prefix (told_lines standard_table (master_told lock told) out.form saved_only old told) told.random m word has key (subst (OfAsked (SparesKey r) old told) is spares);
}

distinct_done : (told : Told) (old : Keys) (asked : Asked) → HasDistinctIds old → EachDone HasDistinctIds standard_table told old asked
distinct_done told old asked apart = record {
  by_edit = λ lock edit in' out is e follows s. ids_stay_distinct old e told.random s apart;
  by_session = λ lock name form out saved_only is m. session_ids_stay_distinct standard_table old (told_lines standard_table (master_told lock told) out.form saved_only old told) told.random m apart;
}

-- the key is alone, and ids are distinct
abbrev IsAlone : Record → Keys → Type 0
IsAlone r keys = HasDistinctIds keys × HasSameKey r keys

alone_done : (r : Record) (prefix : List ℕ) → prefix_of r ≡ Some prefix → (told : Told) (old : Keys) (asked : Asked) → IsHeld r old → OfAsked (λ keys. Spares r.id) old told asked → EachDone (IsAlone r) standard_table told old asked
alone_done r prefix has told old asked held spares = record {
  by_edit = λ lock edit in' out is e follows s steps. of_held (held_by_edit old r prefix e told.random s has held steps (if_ok s.answer (follows.spares r.id (subst (OfAsked (λ keys. Spares r.id) old told) is spares))));
  by_session = λ lock name form out saved_only is m left. of_held (held_by_session standard_table old r prefix (told_lines standard_table (master_told lock told) out.form saved_only old told) told.random m has held (subst (OfAsked (λ keys. Spares r.id) old told) is spares) left);
}
  where
    of_held : {keys : Keys} → IsHeld r keys → IsAlone r keys
    of_held h = (h.apart, h.key)

data_done : (r : Record) (told : Told) (old : Keys) (asked : Asked) → HasData r old → OfAsked (λ keys. SparesData r.id) old told asked → EachDone (HasData r) standard_table told old asked
data_done r told old asked h spares = record {
  by_edit = λ lock edit in' out is e follows s steps. data_stays old r e told.random s h steps (if_ok s.answer (follows.data' r.id (subst (OfAsked (λ keys. SparesData r.id) old told) is spares)));
  by_session = λ lock name form out saved_only is m. session_data_stays standard_table old r (told_lines standard_table (master_told lock told) out.form saved_only old told) told.random m h (subst (OfAsked (λ keys. SparesData r.id) old told) is spares);
}

-- ---- a run as it took place

-- it is answered as stated
answered_by : (run : Run) (old : World) (s : Status) (new : World) → TookPlace run old s new → IsStated s → IsAnswer (answer (command_plan standard_table run.asked) run.told) old s new
answered_by run old s new took stated =
    subst (λ (p : Plan). IsAnswer (answer p run.told) old s new) (ap (λ words. asked_plan standard_table words took.words) took.spelled) (took.promised.answer.over run.told took.tells stated took.unsaved)

-- what was put is what the answer puts
put_by : (file : Option (List ℕ)) (old new : World) (a : Answer) (bytes : List ℕ) → IsAnswer a old status.Done new → IsPut file old new bytes → bytes_at file a.files a.output ≡ Some bytes
put_by (Some name) old new a bytes is put = subst (λ (o : Option Files). IfSome o (λ files. map.get files name ≡ Some bytes)) is.files put
put_by None old new a bytes is (written, was, now) =
    ap Some (append_cancel_left written a.output bytes (same_Some _ _ (sym (is.output.written ∙ ap (option_map (λ before. before ++ a.output)) was) ∙ now)))

pub hands_of : (run : Run) (handing : Handing) (before after : Written) → Passes run handing before after → Hands standard_table run handing before after
hands_of run handing before after x =
    let is = answered_by run x.old status.Done x.new x.took tt in
    record { done = sym is.status; read_form = x.read_form; read = x.read; put_form = x.put_form; put = put_by handing.put.file x.old x.new _ after.bytes is x.put }

pub hands_on_of : (run : Run) (before after : Written) → PassesOn run before after → HandsOn standard_table run before after
hands_on_of run before after x = record { handing = x.handing; hands = x.hands; handed = hands_of run x.handing before after x.passes }

pub hands_under_of : (run : Run) (master text put after : Written) → PassesUnder run master text put after → HandsUnder standard_table run master text put after
hands_under_of run master text put after x = record {
  locked = x.locked;
  hands = x.hands;
  form = x.form;
  lies = x.lies;
  new_form = x.new_form;
  new_lies = x.new_lies;
  over = x.over;
  read = x.read;
  handed = hands_of run x.locked.handing text after x.passes;
}

abbrev pub are_of : (runs : List Run) (master text last after : Written) → HavePassed runs master text last after → AreLocked standard_table runs master text last after
are_of [] master text last after have = have
are_of (run ∷ later) master text last after (opening, put, between, opens, passes, have) =
    (opening, put, between, opens, hands_under_of run opening text put between passes, are_of later put between last after have)

abbrev pub goes_of : (wrap : Run) (locked : List Run) (unwrap : Run) (before after : Written) → PassesWrapped wrap locked unwrap before after → GoesLocked standard_table wrap locked unwrap before after
goes_of wrap locked unwrap before after x = record {
  later = x.later;
  text = x.text;
  goes = record {
    master = x.master;
    over = x.over;
    read = x.read;
    first = x.first;
    wraps = record { name = x.name; lies = x.lies; handing = x.handing; asked = x.asked; handed = hands_of wrap x.handing before x.first x.passes };
    last = x.last;
    are = are_of locked x.master x.first x.last x.text x.are;
    opens = x.opens;
  };
  unwraps = record { name = x.later_name; lies = x.later_lies; handing = x.later_handing; asked = x.later_asked; handed = hands_of unwrap x.later_handing x.text after x.later_passes };
}

-- what lies in the file after any run is what lay there
pub same_written : (before after : Written) → StaysIn before after → after ≡ before
same_written before after x =
    let stays = files_stay x.table x.words x.old x.s x.new x.name before.bytes x.promised x.lay in
    ap (λ (bytes : List ℕ). record { bytes = bytes; form = after.form }) (has_once x.new.store x.name after.bytes before.bytes x.lies stays)
    ∙ ap (λ (form : Format). record { bytes = before.bytes; form = form }) x.same_form

-- ---- many runs

words_stored : (keys : Keys) → AreStored keys → AllByRecursion HasWordId keys.records
words_stored keys stored = each_of keys.records (λ r s. s.held.id) stored

-- the ids of what a run reads have 32 bits
words_read : ReadIsStored → (run : Run) (before after : Written) (old : Keys) → HandsOn standard_table run before after → HoldsBytes before → keyset_of before ≡ Some old → AllByRecursion HasWordId old.records
words_read stored run before after old hands holds is = words_stored old (stored before old holds (hands_within standard_table run before after hands) is)

-- what is claimed of one event, and of events
abbrev Heads : Type 1
Heads = (event : Event) (before after : Written) → HasLed event before after → Type 0

abbrev Claims : Type 1
Claims = (events : List Event) (before after : Written) → HaveLed events before after → Type 0

abbrev Splits : Heads → Claims → Type 0
Splits Head All = (event : Event) (later : List Event) (before between after : Written) (has : HasLed event before between) (led : HaveLed later between after)
    → All (event ∷ later) before after (between, has, led) → Head event before between has × All later between after led

-- what each run that hands the keyset on keeps, in clear or under masters, all events keep
record EachKeeps (P : Keys → Type 0) (Head : Heads) : Type 0 where
  on : (run : Run) (before after : Written) (has : PassesOn run before after) (keys : Keys) → AreStored keys → keyset_of before ≡ Some keys → P keys → Head (passed_on run) before after has → EachDone P standard_table run.told keys run.asked
  by_locks : (wrap : Run) (locked : List Run) (unwrap : Run) (before after : Written) (has : PassesWrapped wrap locked unwrap before after) → Head (passed_wrapped wrap locked unwrap) before after has
      → EachUnder P locked has.master has.first has.last has.text (are_of locked has.master has.first has.last has.text has.are)

events_keep : (P : Keys → Type 0) (Head : Heads) (All : Claims) → Splits Head All → EachKeeps P Head → RunStep → StepLaws → (events : List Event) (before after : Written) (led : HaveLed events before after)
    → AllByRecursion EventDraws events → HoldsBytes before → (old : Keys) → keyset_of before ≡ Some old → P old → All events before after led → (new : Keys) × (keyset_of after ≡ Some new) × P new
events_keep P Head All splits each law l [] before after led bytes holds old is p claims = (old, ap keyset_of (sym led) ∙ is, p)
events_keep P Head All splits each law l (passed_on run ∷ later) before after (between, on, led) bytes holds old is p claims =
    let hands = hands_on_of run before between on in
    let g = law standard_table run before between old hands bytes.0 holds is in
    let c = splits (passed_on run) later before between after on led claims in
    let stored = l.stored before old holds (hands_within standard_table run before between hands) is in
    let next = run_keeps P standard_table run.told run.asked old g.new p (each.on run before between on old stored is p c.0) g.does in
    events_keep P Head All splits each law l later between after led bytes.1 g.holds g.new g.read next c.1
events_keep P Head All splits each law l (passed_wrapped wrap locked unwrap ∷ later) before after (between, went, led) bytes holds old is p claims =
    let c = splits (passed_wrapped wrap locked unwrap) later before between after went led claims in
    let k = locks_keep P l wrap locked unwrap before between old (goes_of wrap locked unwrap before between went) bytes.0.0 bytes.0.1 holds is (each.by_locks wrap locked unwrap before between went c.0) p in
    events_keep P Head All splits each law l later between after led bytes.1 k.keeps.holds k.new k.keeps.read k.has c.1
events_keep P Head All splits each law l (passed_by ∷ later) before after (between, stays, led) bytes holds old is p claims =
    let same : between ≡ before = same_written before between stays in
    events_keep P Head All splits each law l later between after led bytes.1 (subst HoldsBytes (sym same) holds) old (ap keyset_of same ∙ is) p (splits passed_by later before between after stays led claims).1

split_claim : (Claim : Keys → AskedEdit → Type 0) → Splits (OfEvent Claim) (OfEvents Claim)
split_claim Claim event later before between after has led claims = claims

-- what a run keeps where the claim holds of it
abbrev RunKeeps : (Keys → Type 0) → (Keys → AskedEdit → Type 0) → Type 0
RunKeeps P Claim = (run : Run) (keys : Keys) → AreStored keys → P keys → OfAsked Claim keys run.told run.asked → EachDone P standard_table run.told keys run.asked

locked_keep : (P : Keys → Type 0) (Claim : Keys → AskedEdit → Type 0) → RunKeeps P Claim → (runs : List Run) (master text last after : Written) (have : HavePassed runs master text last after) → OfLocked Claim runs master text last after have
    → EachUnder P runs master text last after (are_of runs master text last after have)
locked_keep P Claim keep [] master text last after have claims = tt
locked_keep P Claim keep (run ∷ later) master text last after (opening, put, between, opens, passes, have) claims = (
  λ keys new gives stored p does. run_keeps P standard_table run.told run.asked keys new p (keep run keys stored p (claims.0 keys gives)) does,
  locked_keep P Claim keep later put between last after have claims.1,
)

each_keeps : (P : Keys → Type 0) (Claim : Keys → AskedEdit → Type 0) → RunKeeps P Claim → EachKeeps P (OfEvent Claim)
each_keeps P Claim keep = record {
  on = λ run before after has keys stored is p claim. keep run keys stored p (claim keys is);
  by_locks = λ wrap locked unwrap before after has claims. locked_keep P Claim keep locked has.master has.first has.last has.text has.are claims;
}

pub kept_by_commands : RunStep → StepLaws → KeptByCommands
kept_by_commands law l events before after old r prefix course has key spares =
    let k = events_keep (HasSameKey r) (OfEvent (SparesKey r)) (OfEvents (SparesKey r)) (split_claim (SparesKey r))
    (each_keeps (HasSameKey r) (SparesKey r) (λ run keys stored key spares. key_done standard_table r prefix (word_of_key keys r (words_stored keys stored) key) has run.told keys run.asked key spares))
    law l events before after course.led course.bytes course.holds old course.read key spares in
    record { keys = k.0; read = k.1; key = k.2 }

locked_distinct : (runs : List Run) (master text last after : Written) (have : HavePassed runs master text last after) → EachUnder HasDistinctIds runs master text last after (are_of runs master text last after have)
locked_distinct [] master text last after have = tt
locked_distinct (run ∷ later) master text last after (opening, put, between, opens, passes, have) = (
  λ keys new gives stored p does. run_keeps HasDistinctIds standard_table run.told run.asked keys new p (distinct_done run.told keys run.asked p) does,
  locked_distinct later put between last after have,
)

-- nothing is claimed of an event, or of events
abbrev no_head : Heads
no_head event before after has = Unit {0}

abbrev no_claims : Claims
no_claims events before after led = Unit {0}

each_distinct : EachKeeps HasDistinctIds no_head
each_distinct = record {
  on = λ run before after has keys stored is p none. distinct_done run.told keys run.asked p;
  by_locks = λ wrap locked unwrap before after has none. locked_distinct locked has.master has.first has.last has.text has.are;
}

pub command_ids_stay_distinct : RunStep → StepLaws → CommandIdsStayDistinct
command_ids_stay_distinct law l events before after old course apart =
    events_keep HasDistinctIds no_head no_claims (λ event later before between after has led claims. (tt, tt)) each_distinct
    law l events before after course.led course.bytes course.holds old course.read apart tt

pub kept_by_its_id_alone : RunStep → StepLaws → KeptByItsIdAlone
kept_by_its_id_alone law l events before after old r prefix course apart has key spares =
    let k = events_keep (IsAlone r) (OfEvent (λ keys. Spares r.id)) (OfEvents (λ keys. Spares r.id)) (split_claim (λ keys. Spares r.id))
    (each_keeps (IsAlone r) (λ keys. Spares r.id) (λ run keys stored p spares. alone_done r prefix has run.told keys run.asked (record { apart = p.0; words = words_stored keys stored; key = p.1 }) spares))
    law l events before after course.led course.bytes course.holds old course.read (apart, key) spares in
    record { keys = k.0; read = k.1; key = k.2.1 }

pub data_stays_by_commands : RunStep → StepLaws → DataStaysByCommands
data_stays_by_commands law l events before after old r course h spares =
    events_keep (HasData r) (OfEvent (λ keys. SparesData r.id)) (OfEvents (λ keys. SparesData r.id)) (split_claim (λ keys. SparesData r.id))
    (each_keeps (HasData r) (λ keys. SparesData r.id) (λ run keys stored h spares. data_done r run.told keys run.asked h spares))
    law l events before after course.led course.bytes course.holds old course.read h spares

-- ---- where a key is

place_of : (xs : List Record) (x : Record) → Among x xs → (i : ℕ) × (slice_get xs i ≡ Some x)
place_of [] x there = absurd there
place_of (y ∷ ys) x (inl is) = (0, ap Some is)
place_of (y ∷ ys) x (inr later) = let p = place_of ys x later in (suc p.0, p.1)

-- a key that is alone under its prefix is there
pub alone_is_there : (r : Record) (keys : Keys) → HasSameKey r keys → HasKey r keys
alone_is_there r keys key =
    let there = passes_among (is_enabled_with (prefix_of r)) keys.records key.only (subst (Among key.only) (sym key.alone) (inl refl)) in
    let p = place_of keys.records key.only there.0 in
    record { place = p.0; other = key.only; there = p.1; same = key.same }

-- ---- a key that was disabled

enabled_by : (r : Record) (prefix : List ℕ) → prefix_of r ≡ Some prefix → (told : Told) (old new : Keys) (lock : Lock) (in' out : KeysetFile) → HasDistinctIds old → AllByRecursion HasWordId old.records → HasData r old
    → Does standard_table told old new (edit_keyset lock (edits.Enable r.id) in' out) → HasSameKey r new
enabled_by r prefix has told old new lock in' out apart words h does =
    enable_gives_back old new r prefix told.random does.stepped apart words has h (ap (λ e. step old e told.random) (same_Ok _ _ does.is) ∙ does.steps) does.accepted

pub given_back_by_enable : ReadIsStored → RunStep → GivenBackByEnable
given_back_by_enable stored law run before after old r prefix in' out asked passes random holds is apart has h =
    let hands = hands_on_of run before after passes in
    let g = law standard_table run before after old hands random holds is in
    record {
      keys = g.new;
      read = g.read;
      key = enabled_by r prefix has run.told old g.new None in' out apart (words_read stored run before after old hands holds is) h (subst (Does standard_table run.told old g.new) asked g.does);
    }

-- ids are distinct, and all that makes the key is there
abbrev HasAll : Record → Keys → Type 0
HasAll r keys = HasDistinctIds keys × HasData r keys

all_done : (r : Record) (told : Told) (old : Keys) (asked : Asked) → HasAll r old → OfAsked (λ keys. SparesData r.id) old told asked → EachDone (HasAll r) standard_table told old asked
all_done r told old asked h spares =
    let ids = distinct_done told old asked h.0 in
    let data' = data_done r told old asked h.1 spares in
    record {
      by_edit = λ lock edit in' out is e follows s steps. (ids.by_edit lock edit in' out is e follows s steps, data'.by_edit lock edit in' out is e follows s steps);
      by_session = λ lock name form out saved_only is m left. (ids.by_session lock name form out saved_only is m left, data'.by_session lock name form out saved_only is m left);
    }

creates_of : (run : Run) (template : List ℕ) (master text : Written) → CreatesFirst run template master text → CreatesUnder standard_table run template master text
creates_of run template master text c =
    let is = answered_by run c.old status.Done c.new c.took tt in
    record { lock = c.lock; form = c.form; lies = c.lies; out = c.out; asked = c.asked; done = sym is.status; put_form = c.put_form; put = put_by c.out.file c.old c.new _ text.bytes is c.put }

begun_under : FirstsAreKeysets → FirstsAreStored → StepLaws → (first : Run) (master begun : Written) (over old : Keys) → keyset_of master ≡ Some over → DrawsBytes first → WrapsFirst first master begun old ⊎ CreatesThis first master begun old → UnderSeal master begun old
begun_under firsts firsts_stored l first master begun over old read random (inl w) =
    let wraps : Wraps standard_table first master w.before begun = record { name = w.name; lies = w.lies; handing = w.handing; asked = w.asked; handed = hands_of first w.handing w.before begun w.passes } in
    wrapped_first l first master w.before begun over old wraps read w.read w.holds random
begun_under firsts firsts_stored l first master begun over old read random (inr (template, c, created)) = created_first firsts firsts_stored first template master begun over old (creates_of first template master begun c) read created random

pub given_back_under_lock : FirstsAreKeysets → FirstsAreStored → StepLaws → GivenBackUnderLock
given_back_under_lock firsts firsts_stored l first locked run opening text put after later old r prefix lock in' out course asked passes random apart has h spares opens =
    let seal = begun_under firsts firsts_stored l first course.master course.begun course.over old course.read course.bytes.0 course.begins in
    let each = locked_keep (HasAll r) (λ keys. SparesData r.id) (λ run keys stored h spares. all_done r run.told keys run.asked h spares) locked course.master course.begun course.last text course.are spares in
    let m = one_more (HasAll r) l locked run course.master course.begun course.last opening text put after later old (are_of locked course.master course.begun course.last text course.are) each (apart, h) course.bytes.1 seal course.opens (hands_under_of run opening text put after passes) random opens in (
      m.new,
      m.gives,
      enabled_by r prefix has run.told m.old m.new (Some lock) in' out m.has.0 (words_stored m.old m.stored) m.has.1 (subst (Does standard_table run.told m.old m.new) asked m.does),
    )

-- ---- the first keyset

created : FaultlessKeysets → BinaryBack → JsonBack → FirstsAreKeysets → FirstsAreStored → (told : Told) (template : List ℕ) (out : KeysetFile) (after : Written) → (answer (command_plan standard_table (create_keyset None template out)) told).status ≡ status.Done → AllByRecursion (λ b. b < 256) told.random → out.form ≡ after.form
    → bytes_at out.file (answer (command_plan standard_table (create_keyset None template out)) told).files (answer (command_plan standard_table (create_keyset None template out)) told).output ≡ Some after.bytes
    → (keys : Keys) × (keyset_of after ≡ Some keys) × HasDistinctIds keys
created law binary json firsts firsts_stored told template out after done random form put =
    let f = found_row (row_named template) template (λ row. makes_keyset (first row) (puts_keyset out)) told done in
    let m = made_done (first f.0) (puts_keyset out) told (ap (λ (a : Answer). a.status) (sym f.2) ∙ done) in
    let whole = f.2 ∙ m.goes_on in
    let p = put_done out m.new (record told { random = m.drawn.left }) (ap (λ (a : Answer). a.status) (sym whole) ∙ done) in
    let row = template_row template f.0 f.1 in
    let k = keyset_written law binary json m.new out.form after _ form put (ap (λ (a : Answer). bytes_at out.file a.files a.output) whole ∙ p.there) p.within
    (firsts m.new f.0 told.random m.drawn row m.gave m.made) (firsts_stored m.new f.0 told.random m.drawn row random m.gave m.made) in
    (m.new, k.read, firsts_have_distinct_ids m.new f.0 told.random m.drawn m.gave m.made)

pub created_ids_are_distinct : FaultlessKeysets → BinaryBack → JsonBack → FirstsAreKeysets → FirstsAreStored → CreatedIdsAreDistinct
created_ids_are_distinct law binary json firsts firsts_stored run template out old new after asked took random form put =
    let is = answered_by run old status.Done new took tt in
    let same : answer (command_plan standard_table run.asked) run.told ≡ answer (command_plan standard_table (create_keyset None template out)) run.told = ap (λ a. answer (command_plan standard_table a) run.told) asked in
    created law binary json firsts firsts_stored run.told template out after
    (ap (λ (a : Answer). a.status) (sym same) ∙ sym is.status) random form
    (ap (λ (a : Answer). bytes_at out.file a.files a.output) (sym same) ∙ put_by out.file old new _ after.bytes is put)

pub created_under_lock : FirstsAreKeysets → FirstsAreStored → StepLaws → CreatedUnderLock
created_under_lock firsts firsts_stored l run template master text later creates random opens =
    let g = created_gives firsts firsts_stored l run template master text later (creates_of run template master text creates) random opens in
    let c = g.1 in
    (g.0, c, g.2, firsts_have_distinct_ids g.0 c.row run.told.random c.stepped c.steps c.accepted)
