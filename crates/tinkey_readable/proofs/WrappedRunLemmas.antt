-- Runs that wrap a keyset, and runs that unwrap one.
use Rattle.std.proofs.Common.{arith, ◌≡◌, ◌∙◌, sym, refl, ap, subst, ℕ, ◌+◌, ◌≤◌, Bool, true, false, List, [], length, nat_le, Option, Some, None, option_map, Result, Ok}
use Rattle.std.specs.Prelude.{drop, if◌then◌else◌}
use Rattle.std.specs.FinMap as map
use Rattle.std.proofs.lemmas.Bool.Decides.{nat_tests}
use Rattle.std.proofs.lemmas.Option.{same_Some}
use Rattle.key_msgs.specs.declared.primitive.Primitive.TheVariants.{Aead}
use Rattle.keyset_json.specs.Writing.{JsonBack}
use Rattle.keyset_model.specs.Keyset.{Keys, fault_of, primary_of}
use Rattle.keyset_model.specs.WellFormed.{FaultlessKeysets}
use Rattle.keyset_model.specs.Writing.{BinaryBack, binary_of}
use Rattle.keyset_model.specs.declared.record.Record.{Record}
use Rattle.managers.specs.Standard.{standard_table}
use Rattle.seal_wrap.specs.Info.{info_of}
use Rattle.seal_wrap.specs.Laws.{WrapBackBytes}
use Rattle.seal_wrap.specs.Unwrapped.{Refusal, unwrap_of}
use Rattle.seal_wrap.specs.Wrapped.{Wrapped, wrap_of, wrapped_with}
use Rattle.seal_wrap.proofs.SealedSizes.{then_some}
use Rattle.tinkey_cmds.specs.Draws.{Drawn}
use Rattle.tinkey_session.proofs.Options.{map_some}
use Rattle.tinkey_session.proofs.UsableLemmas.{valid_key}
use Rattle.tinkey_session.specs.HeldLaws.{AreStored}
use Rattle.wrapped_prims.specs.Answers.{Sealed, seal_answer, seal_behind, seal_under}
use Rattle.wrapped_prims.specs.Candidates.{prefix_bytes, prefix_of}
use Rattle.wrapped_prims.specs.Fitness.{key_of_record, unfit}
use Rattle.wrapped_prims.specs.Laws.{GivesKeyFor, HasSameKey}
use Rattle.tinkey_plans.specs.Origins.{begins_of}
use Rattle.tinkey_plans.specs.declared.origin.Origin.{Origin}
use Rattle.tinkey_plans.specs.declared.origin.Origin.TheVariants as origins
use Rattle.tinkey_plans.specs.declared.status.Status.TheVariants as status
use Rattle.tinkey_plans.specs.Commands.{command_plan}
use Rattle.tinkey_plans.specs.Plan.{Answer, Plan, Told, answer, draw_answer, ends, refused}
use Rattle.tinkey_plans.specs.Steps.{keyset_limit, origin_of, puts, puts_keyset, takes_bytes, takes_keyset, with_made, within_limit, writes_keyset, written_in}
use Rattle.tinkey_plans.specs.Handles.{handles, unless_unfit}
use Rattle.tinkey_plans.specs.Wrapping.{as_wrapping, is_json, is_keyset, keyset_sealer, makes_wrapped, takes_wrapped, unwraps, with_unwrapped, wrapped_limit}
use Rattle.tinkey_words.specs.Words.{Asked, KeysetFile, unwrap_keyset, wrap_keyset}
use Rattle.tinkey_words.specs.declared.words.rows.Format.{Format}
use Rattle.tinkey_words.specs.declared.words.rows.Format.TheVariants as formats
use Rattle.tinkey_readable.specs.Runs.{DrawsBytes, HoldsBytes, IsFree, IsWithinIn, Keeps, LiesIn, ReadIsStored, Run, Unwraps, WrapStep, Wraps, Written, bytes_at, keyset_of, read_in}
use Rattle.tinkey_readable.proofs.ReachLemmas.{IsDoneAnswer, behind, bytes_put, bytes_reached, load_done, load_within, loaded, loaded_done, put_done, taken_done, taken_within, unfit_done, went_done, went_on}
use Rattle.tinkey_readable.proofs.RunLemmas.{each_of, json_back, kept, primary_word, read_faultless}
use Rattle.tinkey_readable.proofs.WrittenBytesLemmas.{written_bytes}
use Rattle.tinkey_plans.specs.UnfitKeys.{unfit_key}

-- ---- steps that went on

-- bytes within a limit
pub within_done : (limit : ℕ) (next : List ℕ → Plan) (bytes : List ℕ) (told : Told) → IsDoneAnswer (answer (within_limit limit next bytes) told) → (length bytes ≤ limit) × (answer (within_limit limit next bytes) told ≡ answer (next bytes) told)
within_done limit next bytes told done = by (nat_le (length bytes) limit) refl done
  where
    goes : Bool → Answer
    goes b = answer (if b then next bytes else ends status.KeysetOutgrown tt) told

    by : (b : Bool) → nat_le (length bytes) limit ≡ b → IsDoneAnswer (goes b) → (length bytes ≤ limit) × (answer (within_limit limit next bytes) told ≡ answer (next bytes) told)
    by true is done = (grind (arith, nat_tests, is), ap goes is)
    by false is done = absurd (cc)

-- a wrapped text in a file, or from the input
pub text_done : (from : Origin) (file : Option (List ℕ)) (bytes : List ℕ) (next : List ℕ → Plan) (told : Told) → bytes_at file told.files told.input ≡ Some bytes → IsDoneAnswer (answer (takes_bytes from wrapped_limit file next) told)
    → answer (takes_bytes from wrapped_limit file next) told ≡ answer (next bytes) (behind file told)
text_done from (Some name) bytes next told there done =
    loaded_done (map.get told.files name) bytes wrapped_limit (refused told (status.InMissing from)) (refused told (status.KeysetTooLong from)) (λ b. answer (next b) told) there (λ h. absurd (cc)) done
text_done from None bytes next told there done =
    let same : told.input ≡ bytes = cc in
    went_done (nat_le (length told.input) wrapped_limit) (answer (next told.input) (record told { input = [] })) (record (refused told (status.KeysetTooLong origins.StandardInput)) { input = Some (drop (wrapped_limit + 1) told.input) }) (λ h. absurd (cc)) done
    ∙ ap (λ b. answer (next b) (record told { input = [] })) same

pub text_reached : (from : Origin) (file : Option (List ℕ)) (bytes : List ℕ) (next : List ℕ → Plan) (told : Told) → bytes_at file told.files told.input ≡ Some bytes → length bytes ≤ wrapped_limit
    → answer (takes_bytes from wrapped_limit file next) told ≡ answer (next bytes) (behind file told)
text_reached from (Some name) bytes next told there within =
    loaded (map.get told.files name) bytes wrapped_limit (refused told (status.InMissing from)) (refused told (status.KeysetTooLong from)) (λ b. answer (next b) told) there within
text_reached from None bytes next told there within =
    let same : told.input ≡ bytes = cc in
    went_on (nat_le (length told.input) wrapped_limit) (answer (next told.input) (record told { input = [] })) (record (refused told (status.KeysetTooLong origins.StandardInput)) { input = Some (drop (wrapped_limit + 1) told.input) }) (let fits = subst (λ b. length b ≤ wrapped_limit) (sym same) within in grind (arith, nat_tests, fits))
    ∙ ap (λ b. answer (next b) (record told { input = [] })) same

-- ---- wrapping

-- the text that random bytes gave
pub record MadeText (keys master : Keys) (form : Format) (next : List ℕ → Plan) (told : Told) : Type 0 where
  pub wrapped : Wrapped
  pub is : wrap_of keys master standard_table told.random (is_json form) ≡ Some wrapped
  pub within : length wrapped.text ≤ wrapped_limit
  pub goes_on : answer (makes_wrapped keys master standard_table form next) told ≡ answer (next wrapped.text) (record told { random = wrapped.left })

pub text_made : (keys master : Keys) (form : Format) (next : List ℕ → Plan) (told : Told) → IsDoneAnswer (answer (makes_wrapped keys master standard_table form next) told) → MadeText keys master form next told
text_made keys master form next told done = by (wrap_of keys master standard_table told.random (is_json form)) refl done
  where
    a : Option Wrapped → Answer
    a o = draw_answer (option_map as_wrapping o) (refused told status.EntropyFault) (λ (d : Drawn (List ℕ)). answer (with_made d.answer (within_limit wrapped_limit next)) (record told { random = d.left }))

    by : (o : Option Wrapped) → wrap_of keys master standard_table told.random (is_json form) ≡ o → IsDoneAnswer (a o) → MadeText keys master form next told
    by None is done = absurd (cc)
    by (Some w) is done =
        let f = within_done wrapped_limit next w.text (record told { random = w.left }) done in
        record { wrapped = w; is = is; within = f.0; goes_on = ap a is ∙ f.1 }

pub behind_random : (file : Option (List ℕ)) (told : Told) → (behind file told).random ≡ told.random
behind_random (Some name) told = refl
behind_random None told = refl

pub behind_files : (file : Option (List ℕ)) (told : Told) → (behind file told).files ≡ told.files
behind_files (Some name) told = refl
behind_files None told = refl

-- what a run that is done says of its master, its keyset and its text
pub record WasWrapped (out : Format) (told : Told) (master before text : Written) (old keys : Keys) : Type 0 where
  pub master_within : length master.bytes ≤ keyset_limit
  pub fit : unfit old Aead standard_table ≡ None
  pub within : length before.bytes ≤ keyset_limit
  pub binary_within : length (binary_of keys) ≤ keyset_limit
  pub wrapped : Wrapped
  pub is : wrap_of keys old standard_table told.random (is_json text.form) ≡ Some wrapped
  pub same : wrapped.text ≡ text.bytes
  pub short : length text.bytes ≤ wrapped_limit

-- the steps behind the master, and behind the keyset
abbrev behind_master : KeysetFile → KeysetFile → Keys → Plan
behind_master in' out old = takes_keyset in' (λ keys. writes_keyset formats.Binary keys (λ plain. makes_wrapped keys old standard_table out.form (puts out.file)))

wrap_done : (name : List ℕ) (form : Format) (in' out : KeysetFile) (told : Told) (master before text : Written) (old keys : Keys) → form ≡ master.form → LiesIn master told name → keyset_of master ≡ Some old → keyset_of before ≡ Some keys
    → IsDoneAnswer (answer (command_plan standard_table (wrap_keyset name form in' out)) told) → in'.form ≡ before.form → bytes_at in'.file told.files told.input ≡ Some before.bytes → out.form ≡ text.form
    → bytes_at out.file (answer (command_plan standard_table (wrap_keyset name form in' out)) told).files (answer (command_plan standard_table (wrap_keyset name form in' out)) told).output ≡ Some text.bytes
    → WasWrapped out.form told master before text old keys
wrap_done name form in' out told master before text old keys of_master lies is_master is done in_form read out_form put =
    let next : Keys → Plan = λ m. handles origins.OnlyMaster standard_table Aead m (λ fit. behind_master in' out m) in
    let l = load_done origins.OnlyMaster name form master.bytes old next told lies (ap (λ f. read_in f master.bytes) of_master ∙ is_master) done in
    let d : IsDoneAnswer (answer (unless_unfit (unfit_key origins.OnlyMaster old) (unfit old Aead standard_table) (behind_master in' out old)) told) = ap (λ (a : Answer). a.status) (sym l) ∙ done in
    let fit = unfit_done _ (unfit old Aead standard_table) (behind_master in' out old) told d in
    let f : answer (unless_unfit (unfit_key origins.OnlyMaster old) (unfit old Aead standard_table) (behind_master in' out old)) told ≡ answer (behind_master in' out old) told = ap (λ u. answer (unless_unfit (unfit_key origins.OnlyMaster old) u (behind_master in' out old)) told) fit in
    let e : IsDoneAnswer (answer (behind_master in' out old) told) = ap (λ (a : Answer). a.status) (sym f) ∙ d in
    let make : Keys → Plan = λ k. makes_wrapped k old standard_table out.form (puts out.file) in
    let rest : Keys → Plan = λ k. writes_keyset formats.Binary k (λ plain. make k) in
    let t = taken_done in' before.bytes keys rest told read (ap (λ f. read_in f before.bytes) in_form ∙ is) e in
    let behind' = behind in'.file told in
    let w = within_done keyset_limit (λ plain. make keys) (written_in formats.Binary keys) behind' (ap (λ (a : Answer). a.status) (sym t) ∙ e) in
    let upto = l ∙ f ∙ t ∙ w.1 in
    let m = text_made keys old out.form (puts out.file) behind' (ap (λ (a : Answer). a.status) (sym upto) ∙ done) in
    let whole = upto ∙ m.goes_on in
    let left = record behind' { random = m.wrapped.left } in
    let p = bytes_put out.file m.wrapped.text left (ap (λ (a : Answer). a.status) (sym whole) ∙ done) in
    let same : m.wrapped.text ≡ text.bytes = same_Some _ _ (sym p ∙ ap (λ (a : Answer). bytes_at out.file a.files a.output) (sym whole) ∙ put) in
    record {
      master_within = load_within origins.OnlyMaster name form master.bytes next told lies done;
      fit = fit;
      within = taken_within in' before.bytes rest told read e;
      binary_within = w.0;
      wrapped = m.wrapped;
      is = ap (λ random. wrap_of keys old standard_table random (is_json text.form)) (sym (behind_random in'.file told)) ∙ ap (λ f. wrap_of keys old standard_table behind'.random (is_json f)) (sym out_form) ∙ m.is;
      same = same;
      short = subst (λ bytes. length bytes ≤ wrapped_limit) same m.within;
    }

-- a wrap run, by what it was asked
pub wraps_done : (run : Run) (master before text : Written) (old keys : Keys) (x : Wraps standard_table run master before text) → keyset_of master ≡ Some old → keyset_of before ≡ Some keys → WasWrapped x.handing.put.form run.told master before text old keys
wraps_done run master before text old keys x is_master is =
    let h = x.handing in
    let asked = x.asked in
    let d = x.handed in
    let a : Asked → Answer = λ asked. answer (command_plan standard_table asked) run.told in
    wrap_done x.name master.form h.taken h.put run.told master before text old keys refl x.lies is_master is
    (ap (λ asked. (a asked).status) (sym asked) ∙ d.done) d.read_form d.read d.put_form
    (ap (λ asked. bytes_at h.put.file (a asked).files (a asked).output) (sym asked) ∙ d.put)

-- the key under which a keyset was wrapped
pub gives_key : (old : Keys) (r : Record) (plain ad random : List ℕ) (s : Sealed) → primary_of old ≡ Some r → seal_answer old standard_table plain ad random ≡ Some s → GivesKeyFor standard_table Aead r
gives_key old r plain ad random s primary e =
    let first = then_some (seal_under standard_table plain ad random) (primary_of old) s e in
    let second = then_some (seal_behind (prefix_bytes (prefix_of first.0)) plain ad random) (key_of_record standard_table Aead first.0) s first.2 in
    let there = subst (λ x. key_of_record standard_table Aead x ≡ Some second.0) (same_Some _ _ (sym first.1 ∙ primary)) second.1 in
    (second.0, there, valid_key Aead r second.0 there)

-- What was wrapped gives the keyset, under a master that still opens it.
pub unwrapped : FaultlessKeysets → BinaryBack → JsonBack → ReadIsStored → WrapBackBytes → (run : Run) (master before text : Written) (old new keys : Keys) (r : Record) (prefix : List ℕ) (x : Wraps standard_table run master before text) → keyset_of master ≡ Some old → keyset_of before ≡ Some keys
    → HoldsBytes master → HoldsBytes before → DrawsBytes run → primary_of old ≡ Some r → prefix_of r ≡ Some prefix → HasSameKey r new → unwrap_of new standard_table text.bytes (is_json text.form) ≡ Ok keys
unwrapped law binary json stored back run master before text old new keys r prefix x is_master is holds_master holds random primary prefixed same =
    let w = wraps_done run master before text old keys x is_master is in
    let faultless = read_faultless before keys is in
    let keys_stored = stored before keys holds w.within is in
    let master_stored = stored master old holds_master w.master_within is_master in
    let made = map_some (wrapped_with (is_json text.form) (info_of keys)) (seal_answer old standard_table (binary_of keys) [] run.told.random) w.wrapped w.is in
    ap (λ bytes. unwrap_of new standard_table bytes (is_json text.form)) (sym w.same)
    ∙ back (is_json text.form) standard_table keys old new r prefix run.told.random w.wrapped primary prefixed
    (gives_key old r (binary_of keys) [] run.told.random made.0 primary made.1)
    same faultless (each_of keys.records (λ r s. s.held) keys_stored)
    (each_of old.records (λ r s. s.bytes) master_stored)
    (written_bytes formats.Binary keys ((law keys).0 faultless) (primary_word law keys faultless keys_stored) keys_stored (json_back json keys faultless keys_stored))
    random w.is

-- ---- unwrapping

abbrev pub opens_plan : KeysetFile → KeysetFile → Keys → Plan
opens_plan in' out new = takes_wrapped in'.file (λ text. unwraps (origin_of origins.In in'.file) new standard_table in'.form text (puts_keyset out))

pub given_keyset : (from : Origin) (new : Keys) (form : Format) (text : List ℕ) (keys : Keys) (next : Keys → Plan) (told : Told) → unwrap_of new standard_table text (is_json form) ≡ Ok keys → answer (unwraps from new standard_table form text next) told ≡ answer (next keys) told
given_keyset from new form text keys next told is = ap (λ (o : Result Keys Refusal). answer (with_unwrapped from (begins_of text) (is_keyset form text) (keyset_sealer form new text) o next) told) is

-- what such a run put out is the keyset
pub unwrap_keeps : FaultlessKeysets → BinaryBack → JsonBack → (unwrap : Run) (later text after : Written) (over keys : Keys) → Unwraps standard_table unwrap later text after → keyset_of later ≡ Some over → unwrap_of over standard_table text.bytes (is_json text.form) ≡ Ok keys → fault_of keys ≡ None → AreStored keys → Keeps keys after
unwrap_keeps law binary json unwrap later text after over keys x read gave faultless stored =
    let in' = x.handing.taken in
    let out = x.handing.put in
    let told = unwrap.told in
    let a : Asked → Answer = λ asked. answer (command_plan standard_table asked) told in
    let done : IsDoneAnswer (a (unwrap_keyset x.name later.form in' out)) = ap (λ asked. (a asked).status) (sym x.asked) ∙ x.handed.done in
    let next : Keys → Plan = λ m. handles origins.Master standard_table Aead m (λ fit. opens_plan in' out m) in
    let l = load_done origins.Master x.name later.form later.bytes over next told x.lies read done in
    let d : IsDoneAnswer (answer (unless_unfit (unfit_key origins.Master over) (unfit over Aead standard_table) (opens_plan in' out over)) told) = ap (λ (a : Answer). a.status) (sym l) ∙ done in
    let fit = unfit_done _ (unfit over Aead standard_table) (opens_plan in' out over) told d in
    let f : answer (unless_unfit (unfit_key origins.Master over) (unfit over Aead standard_table) (opens_plan in' out over)) told ≡ answer (opens_plan in' out over) told = ap (λ u. answer (unless_unfit (unfit_key origins.Master over) u (opens_plan in' out over)) told) fit in
    let t = text_done origins.In in'.file text.bytes (λ text. unwraps (origin_of origins.In in'.file) over standard_table in'.form text (puts_keyset out)) told x.handed.read (ap (λ (a : Answer). a.status) (sym (l ∙ f)) ∙ done) in
    let behind' = behind in'.file told in
    let g = given_keyset (origin_of origins.In in'.file) over in'.form text.bytes keys (puts_keyset out) behind' (ap (λ f. unwrap_of over standard_table text.bytes (is_json f)) x.handed.read_form ∙ gave) in
    let whole = l ∙ f ∙ t ∙ g in
    let p = put_done out keys behind' (ap (λ (a : Answer). a.status) (sym whole) ∙ done) in
    kept law binary json keys out.form after
    (bytes_at out.file (a unwrap.asked).files (a unwrap.asked).output)
    x.handed.put_form x.handed.put
    (ap (λ asked. bytes_at out.file (a asked).files (a asked).output) x.asked ∙ ap (λ (a : Answer). bytes_at out.file a.files a.output) whole ∙ p.there)
    p.within faultless stored

pub wrap_step : FaultlessKeysets → BinaryBack → JsonBack → ReadIsStored → WrapBackBytes → WrapStep
wrap_step law binary json stored back wrap unwrap before after keys goes random holds is =
    let o = goes.opens in
    let w = wraps_done wrap goes.master before goes.text o.old keys goes.wraps o.read is in
    let gave = unwrapped law binary json stored back wrap goes.master before goes.text o.old o.new keys o.r o.prefix goes.wraps o.read is o.holds holds random o.primary o.prefixed o.same in
    unwrap_keeps law binary json unwrap goes.later goes.text after o.new keys goes.unwraps o.read_again gave (read_faultless before keys is) (stored before keys holds w.within is)

-- ---- what was wrapped can be unwrapped

pub put_reached : (out : KeysetFile) (keys : Keys) (told : Told) → length (written_in out.form keys) ≤ keyset_limit → IsFree out.file told.files → IsDoneAnswer (answer (puts_keyset out keys) told)
put_reached out keys told within free =
    ap (λ (b : Bool). (answer (if b then puts out.file bytes else ends status.KeysetOutgrown tt) told).status) (let e : nat_le (length bytes) keyset_limit ≡ true = grind (arith, nat_tests, within) in e)
    ∙ bytes_reached out.file bytes told free
  where
    bytes : List ℕ
    bytes = written_in out.form keys

-- a keyset whose binary form is within the limit is so in each form in which it is said to be
pub form_within : (form : Format) (keys : Keys) → length (binary_of keys) ≤ keyset_limit → IsWithinIn form keys → length (written_in form keys) ≤ keyset_limit
form_within formats.Json keys within is = is
form_within formats.Binary keys within is = within
