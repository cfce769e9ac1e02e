-- What an answer that is Done says of its steps, and that it comes where they go on.
use Rattle.std.proofs.Common.{arith, ◌≡◌, ◌∙◌, sym, refl, ap, subst, ℕ, ◌+◌, ◌≤◌, Bool, true, false, cond, List, [], length, nat_le, Option, Some, None, Result, Ok, Err}
use Rattle.std.specs.Prelude.{drop, if◌then◌else◌}
use Rattle.std.specs.FinMap as map
use Rattle.std.specs.Result.{result_ok}
use Rattle.std.proofs.lemmas.Bool.{leb-true}
use Rattle.std.proofs.lemmas.Bool.Decides.{nat_tests}
use Rattle.std.proofs.lemmas.Cmp.{eq_by_cmp_equiv, nat_list_cmp_total}
use Rattle.key_msgs.specs.Templates.{Row}
use Rattle.keyset_json.specs.Reading.{reads_json}
use Rattle.keyset_model.specs.Keyset.{Keys}
use Rattle.keyset_model.specs.Reading.{reads_binary}
use Rattle.managers.specs.Table.{Table}
use Rattle.tinkey_cmds.specs.Draws.{Draw, Drawn}
use Rattle.tinkey_cmds.specs.Edits.{Edit}
use Rattle.tinkey_cmds.specs.declared.command.EditRefusal.{EditRefusal}
use Rattle.tinkey_session.proofs.Options.{clash}
use Rattle.tinkey_session.specs.Serving.{edit_named, or_refused}
use Rattle.tinkey_session.specs.declared.reply.Refusal.{Refusal}
use Rattle.wrapped_prims.specs.Fitness.{Unfit, unfit}
use Rattle.seal_wrap.specs.Unwrapped.{is_wrapped_binary, is_wrapped_json}
use Rattle.tinkey_plans.specs.Origins.{begins_of}
use Rattle.tinkey_plans.specs.declared.origin.Origin.{Origin}
use Rattle.tinkey_plans.specs.declared.origin.Origin.TheVariants as origins
use Rattle.tinkey_plans.specs.declared.status.Status.TheVariants as status
use Rattle.tinkey_words.specs.declared.words.rows.Format.{Format}
use Rattle.tinkey_words.specs.declared.words.rows.Format.TheVariants as formats
use Rattle.tinkey_plans.specs.Plan.{Plan, Told, Answer, answer, refused, load_answer, create_answer, draw_answer, ends}
use Rattle.tinkey_readable.specs.Runs.{IsFree, read_in, bytes_at}
use Rattle.tinkey_plans.specs.Steps.{keyset_limit, keyset_in, with_keyset, with_json, loads_keyset, reads_keyset, takes_keyset, keyset_at, reads_input, finds_edit, with_row, makes_keyset, with_made, puts, puts_keyset, written_in, refuses}
use Rattle.tinkey_plans.specs.Handles.{handles, unless_unfit}
use Rattle.tinkey_plans.specs.Using.{limit_for, use_output, works}
use Rattle.tinkey_words.specs.Words.{AskedEdit, AskedWork, KeysetFile, primitive_for}
use Rattle.tinkey_plans.specs.UnfitKeys.{unfit_key}
use Rattle.tinkey_plans.specs.declared.unfit.UnfitKey.{UnfitKey}

abbrev pub IsDoneAnswer : Answer → Type 0
IsDoneAnswer a = a.status ≡ status.Done

-- where the other answer isn't Done, it went on
pub went_done : (b : Bool) (went long : Answer) → (long.status ≡ status.Done → ⊥) → (if b then went else long).status ≡ status.Done → (if b then went else long) ≡ went
went_done true went long other done = refl
went_done false went long other done = absurd (other done)

pub went_test : (b : Bool) (went long : Answer) → (long.status ≡ status.Done → ⊥) → (if b then went else long).status ≡ status.Done → b ≡ true
went_test true went long other done = refl
went_test false went long other done = absurd (other done)

pub went_on : (b : Bool) (went long : Answer) → b ≡ true → (if b then went else long) ≡ went
went_on b went long is = ap (λ (x : Bool). if x then went else long) is

-- ---- a keyset

same_ok : {A E : Type 0} (r : Result A E) (x : A) → result_ok r ≡ Some x → r ≡ Ok x
same_ok (Ok y) x e = let h : y ≡ x = cc in ap Ok h
same_ok (Err y) x e = clash e

pub keyset_reached : (from : Origin) (form : Format) (bytes : List ℕ) (keys : Keys) (next : Keys → Plan) (told : Told) → read_in form bytes ≡ Some keys → answer (keyset_in from form bytes next) told ≡ answer (next keys) told
keyset_reached from formats.Json bytes keys next told e = ap (λ r. answer (with_json from (begins_of bytes) (is_wrapped_json bytes) r next) told) (same_ok (reads_json bytes) keys e)
keyset_reached from formats.Binary bytes keys next told e = ap (λ r. answer (with_keyset from (begins_of bytes) (is_wrapped_binary bytes) r next) told) (same_ok (reads_binary bytes) keys e)

-- within its limit a file is loaded
pub loaded : (found : Option (List ℕ)) (bytes : List ℕ) (limit : ℕ) (absent long : Answer) (next : List ℕ → Answer) → found ≡ Some bytes → length bytes ≤ limit → load_answer found limit absent long next ≡ next bytes
loaded found bytes limit absent long next is within = ap (λ f. load_answer f limit absent long next) is ∙ went_on (nat_le (length bytes) limit) (next bytes) long (grind (arith, nat_tests, within))

pub loaded_done : (found : Option (List ℕ)) (bytes : List ℕ) (limit : ℕ) (absent long : Answer) (next : List ℕ → Answer) → found ≡ Some bytes → (long.status ≡ status.Done → ⊥) → (load_answer found limit absent long next).status ≡ status.Done
    → load_answer found limit absent long next ≡ next bytes
loaded_done found bytes limit absent long next is other done =
    let e = ap (λ f. load_answer f limit absent long next) is in
    e ∙ went_done (nat_le (length bytes) limit) (next bytes) long other (ap (λ (a : Answer). a.status) (sym e) ∙ done)

pub loaded_within : (found : Option (List ℕ)) (bytes : List ℕ) (limit : ℕ) (absent long : Answer) (next : List ℕ → Answer) → found ≡ Some bytes → (long.status ≡ status.Done → ⊥) → (load_answer found limit absent long next).status ≡ status.Done
    → length bytes ≤ limit
loaded_within found bytes limit absent long next is other done =
    let e = ap (λ f. load_answer f limit absent long next) is in
    leb-true (length bytes) limit (went_test (nat_le (length bytes) limit) (next bytes) long other (ap (λ (a : Answer). a.status) (sym e) ∙ done))

pub load_reached : (from : Origin) (name : List ℕ) (form : Format) (bytes : List ℕ) (keys : Keys) (next : Keys → Plan) (told : Told) → map.get told.files name ≡ Some bytes → read_in form bytes ≡ Some keys → length bytes ≤ keyset_limit
    → answer (loads_keyset from name form next) told ≡ answer (next keys) told
load_reached from name form bytes keys next told there e within =
    loaded (map.get told.files name) bytes keyset_limit (refused told (status.InMissing from)) (refused told (status.KeysetTooLong from)) (λ b. answer (keyset_in from form b next) told) there within
    ∙ keyset_reached from form bytes keys next told e

pub load_done : (from : Origin) (name : List ℕ) (form : Format) (bytes : List ℕ) (keys : Keys) (next : Keys → Plan) (told : Told) → map.get told.files name ≡ Some bytes → read_in form bytes ≡ Some keys → IsDoneAnswer (answer (loads_keyset from name form next) told)
    → answer (loads_keyset from name form next) told ≡ answer (next keys) told
load_done from name form bytes keys next told there e done =
    loaded_done (map.get told.files name) bytes keyset_limit (refused told (status.InMissing from)) (refused told (status.KeysetTooLong from)) (λ b. answer (keyset_in from form b next) told) there (λ h. absurd (cc)) done
    ∙ keyset_reached from form bytes keys next told e

-- what was loaded is within the limit
pub load_within : (from : Origin) (name : List ℕ) (form : Format) (bytes : List ℕ) (next : Keys → Plan) (told : Told) → map.get told.files name ≡ Some bytes → IsDoneAnswer (answer (loads_keyset from name form next) told) → length bytes ≤ keyset_limit
load_within from name form bytes next told there done =
    loaded_within (map.get told.files name) bytes keyset_limit (refused told (status.InMissing from)) (refused told (status.KeysetTooLong from)) (λ b. answer (keyset_in from form b next) told) there (λ h. absurd (cc)) done

-- the told that is left behind a keyset: the input is gone where that was the keyset
abbrev pub behind : Option (List ℕ) → Told → Told
behind (Some name) told = told
behind None told = record told { input = [] }

read_done : (form : Format) (keys : Keys) (next : Keys → Plan) (told : Told) → read_in form told.input ≡ Some keys → IsDoneAnswer (answer (reads_keyset form next) told)
    → answer (reads_keyset form next) told ≡ answer (next keys) (record told { input = [] })
read_done form keys next told e done =
    went_done (nat_le (length told.input) keyset_limit) (answer (keyset_in origins.StandardInput form told.input next) (record told { input = [] })) (record (refused told (status.KeysetTooLong origins.StandardInput)) { input = Some (drop (keyset_limit + 1) told.input) }) (λ h. absurd (cc)) done
    ∙ keyset_reached origins.StandardInput form told.input keys next (record told { input = [] }) e

pub taken_done : (place : KeysetFile) (bytes : List ℕ) (keys : Keys) (next : Keys → Plan) (told : Told) → bytes_at place.file told.files told.input ≡ Some bytes → read_in place.form bytes ≡ Some keys → IsDoneAnswer (answer (takes_keyset place next) told)
    → answer (takes_keyset place next) told ≡ answer (next keys) (behind place.file told)
taken_done place bytes keys next told there e done = by_file place.file there done
  where
    by_file : (file : Option (List ℕ)) → bytes_at file told.files told.input ≡ Some bytes → IsDoneAnswer (answer (keyset_at origins.In file place.form next) told) → answer (keyset_at origins.In file place.form next) told ≡ answer (next keys) (behind file told)
    by_file (Some name) there done = load_done origins.In name place.form bytes keys next told there e done
    by_file None there done = let same : told.input ≡ bytes = cc in read_done place.form keys next told (ap (read_in place.form) same ∙ e) done

-- what was taken is within the limit
pub taken_within : (place : KeysetFile) (bytes : List ℕ) (next : Keys → Plan) (told : Told) → bytes_at place.file told.files told.input ≡ Some bytes → IsDoneAnswer (answer (takes_keyset place next) told) → length bytes ≤ keyset_limit
taken_within place bytes next told there done = by_file place.file there done
  where
    by_file : (file : Option (List ℕ)) → bytes_at file told.files told.input ≡ Some bytes → IsDoneAnswer (answer (keyset_at origins.In file place.form next) told) → length bytes ≤ keyset_limit
    by_file (Some name) there done = load_within origins.In name place.form bytes next told there done
    by_file None there done =
        let same : told.input ≡ bytes = cc in
        let all = went_test (nat_le (length told.input) keyset_limit) (answer (keyset_in origins.StandardInput place.form told.input next) (record told { input = [] })) (record (refused told (status.KeysetTooLong origins.StandardInput)) { input = Some (drop (keyset_limit + 1) told.input) }) (λ h. absurd (cc)) done in
        subst (λ b. length b ≤ keyset_limit) same (leb-true (length told.input) keyset_limit all)

-- ---- an edit

pub record FoundEdit (asked : AskedEdit) (next : Edit → Plan) (told : Told) : Type 0 where
  pub edit : Edit
  pub is : edit_named asked ≡ Ok edit
  pub goes_on : answer (finds_edit asked next) told ≡ answer (next edit) told

pub found_row : (row : Option Row) (name : List ℕ) (next : Row → Plan) (told : Told) → IsDoneAnswer (answer (with_row row name next) told) → (r : Row) × (row ≡ Some r) × (answer (with_row row name next) told ≡ answer (next r) told)
found_row (Some r) name next told done = (r, refl, refl)
found_row None name next told done = absurd (cc)

pub found_edit : (asked : AskedEdit) (next : Edit → Plan) (told : Told) → IsDoneAnswer (answer (finds_edit asked next) told) → FoundEdit asked next told
found_edit asked next told done = by (edit_named asked) refl done
  where
    by : (found : Result Edit Refusal) → edit_named asked ≡ found → IsDoneAnswer (answer (or_refused refuses found next) told) → FoundEdit asked next told
    by (Ok edit) is done = record { edit = edit; is = is; goes_on = ap (λ r. answer (or_refused refuses r next) told) is }
    by (Err why) is done = absurd (cc)

pub record MadeKeyset (give : Draw Keys) (next : Keys → Plan) (told : Told) : Type 0 where
  pub drawn : Drawn Keys
  pub gave : give told.random ≡ Some drawn
  pub new : Keys
  pub made : drawn.answer ≡ Ok new
  pub goes_on : answer (makes_keyset give next) told ≡ answer (next new) (record told { random = drawn.left })

pub made_done : (give : Draw Keys) (next : Keys → Plan) (told : Told) → IsDoneAnswer (answer (makes_keyset give next) told) → MadeKeyset give next told
made_done give next told done = by_draw (give told.random) refl done
  where
    by_answer : (drawn : Drawn Keys) (r : Result Keys EditRefusal) → give told.random ≡ Some drawn → drawn.answer ≡ r → IsDoneAnswer (answer (with_made r next) (record told { random = drawn.left })) → MadeKeyset give next told
    by_answer drawn (Ok new) gave is done = record {
      drawn = drawn;
      gave = gave;
      new = new;
      made = is;
      goes_on = ap (λ o. draw_answer o (refused told status.EntropyFault) (λ (x : Drawn Keys). answer (with_made x.answer next) (record told { random = x.left }))) gave ∙ ap (λ r. answer (with_made r next) (record told { random = drawn.left })) is;
    }
    by_answer drawn (Err fault) gave is done = absurd (cc)

    by_draw : (o : Option (Drawn Keys)) → give told.random ≡ o → IsDoneAnswer (draw_answer o (refused told status.EntropyFault) (λ x. answer (with_made x.answer next) (record told { random = x.left }))) → MadeKeyset give next told
    by_draw None gave done = absurd (cc)
    by_draw (Some drawn) gave done = by_answer drawn drawn.answer gave refl done

-- ---- the file or the output

-- a keyset that was put out is within the limit, and this is what was put out
pub record PutOut (out : KeysetFile) (keys : Keys) (told : Told) : Type 0 where
  pub within : length (written_in out.form keys) ≤ keyset_limit
  pub there : bytes_at out.file (answer (puts_keyset out keys) told).files (answer (puts_keyset out keys) told).output ≡ Some (written_in out.form keys)

-- bytes that were put out
pub bytes_put : (file : Option (List ℕ)) (bytes : List ℕ) (told : Told) → IsDoneAnswer (answer (puts file bytes) told) → bytes_at file (answer (puts file bytes) told).files (answer (puts file bytes) told).output ≡ Some bytes
bytes_put None bytes told done = refl
bytes_put (Some name) bytes told done = by_free (map.get told.files name) done
  where
    there : map.get (map.insert told.files name bytes) name ≡ Some bytes
    there = map.get-insert nat_list_cmp_total told.files name bytes name ∙ ap (λ (b : Bool). cond b (Some bytes) (map.get told.files name)) ((eq_by_cmp_equiv nat_list_cmp_total).refl name)

    by_free : (found : Option (List ℕ)) → IsDoneAnswer (create_answer found told name bytes (refused told status.OutExists)) → map.get (create_answer found told name bytes (refused told status.OutExists)).files name ≡ Some bytes
    by_free (Some x) done = absurd (cc)
    by_free None done = there

-- a free name takes them
pub bytes_reached : (file : Option (List ℕ)) (bytes : List ℕ) (told : Told) → IsFree file told.files → IsDoneAnswer (answer (puts file bytes) told)
bytes_reached (Some name) bytes told free = ap (λ (found : Option (List ℕ)). (create_answer found told name bytes (refused told status.OutExists)).status) free
bytes_reached None bytes told free = refl

pub put_done : (out : KeysetFile) (keys : Keys) (told : Told) → IsDoneAnswer (answer (puts_keyset out keys) told) → PutOut out keys told
put_done out keys told done = by (nat_le (length bytes) keyset_limit) refl done
  where
    bytes : List ℕ
    bytes = written_in out.form keys

    goes : Bool → Answer
    goes b = answer (if b then puts out.file bytes else ends status.KeysetOutgrown tt) told

    by : (b : Bool) → nat_le (length bytes) keyset_limit ≡ b → IsDoneAnswer (goes b) → PutOut out keys told
    by true is done = record {
      within = grind (arith, nat_tests, is);
      there = ap (λ b. bytes_at out.file (goes b).files (goes b).output) is ∙ bytes_put out.file bytes told done;
    }
    by false is done = absurd (cc)

-- ---- the keys of a keyset

pub unfit_done : (name : ℕ → UnfitKey) (u : Option (ℕ × Unfit)) (next : Plan) (told : Told) → IsDoneAnswer (answer (unless_unfit name u next) told) → u ≡ None
unfit_done name None next told done = refl
unfit_done name (Some found) next told done = absurd (cc)

-- the whole input, within a limit
pub input_done : (limit : ℕ) (next : List ℕ → Plan) (told : Told) → IsDoneAnswer (answer (reads_input limit next) told) → answer (reads_input limit next) told ≡ answer (next told.input) (record told { input = [] })
input_done limit next told done =
    went_done (nat_le (length told.input) limit) (answer (next told.input) (record told { input = [] })) (record (refused told status.InputTooLong) { input = Some (drop (limit + 1) told.input) }) (λ h. absurd (cc)) done

pub input_within : (limit : ℕ) (next : List ℕ → Plan) (told : Told) → IsDoneAnswer (answer (reads_input limit next) told) → length told.input ≤ limit
input_within limit next told done =
    leb-true (length told.input) limit (went_test (nat_le (length told.input) limit) (answer (next told.input) (record told { input = [] })) (record (refused told status.InputTooLong) { input = Some (drop (limit + 1) told.input) }) (λ h. absurd (cc)) done)

pub input_reached : (limit : ℕ) (next : List ℕ → Plan) (told : Told) → length told.input ≤ limit → answer (reads_input limit next) told ≡ answer (next told.input) (record told { input = [] })
input_reached limit next told within =
    went_on (nat_le (length told.input) limit) (answer (next told.input) (record told { input = [] })) (record (refused told status.InputTooLong) { input = Some (drop (limit + 1) told.input) }) (grind (arith, nat_tests, within))

-- work behind the keyset and its fitness
abbrev pub work_behind : Table → Keys → AskedWork → (List ℕ → Plan) → Plan
work_behind table keys work next = reads_input (limit_for work) (λ input. works table keys work input next)

pub record UsedKeys (table : Table) (keys : Keys) (work : AskedWork) (next : List ℕ → Plan) (told : Told) (a : Answer) : Type 0 where
  pub fit : unfit keys (primitive_for work) table ≡ None
  pub fits : length told.input ≤ limit_for work
  pub goes_on : a ≡ answer (works table keys work told.input next) (record told { input = [] })

-- behind the keyset
pub use_done : (table : Table) (work : AskedWork) (next : List ℕ → Plan) (keys : Keys) (told : Told) → IsDoneAnswer (answer (handles origins.Keyset table (primitive_for work) keys (λ fit. work_behind table keys work next)) told)
    → UsedKeys table keys work next told (answer (handles origins.Keyset table (primitive_for work) keys (λ fit. work_behind table keys work next)) told)
use_done table work next keys told done =
    let d : IsDoneAnswer (answer (unless_unfit (unfit_key origins.Keyset keys) (unfit keys (primitive_for work) table) (work_behind table keys work next)) told) = done in
    let fit = unfit_done _ (unfit keys (primitive_for work) table) (work_behind table keys work next) told d in
    let f : answer (unless_unfit (unfit_key origins.Keyset keys) (unfit keys (primitive_for work) table) (work_behind table keys work next)) told ≡ answer (work_behind table keys work next) told = ap (λ u. answer (unless_unfit (unfit_key origins.Keyset keys) u (work_behind table keys work next)) told) fit in
    record {
      fit = fit;
      fits = input_within (limit_for work) (λ input. works table keys work input next) told (ap (λ (a : Answer). a.status) (sym f) ∙ d);
      goes_on = f ∙ input_done (limit_for work) (λ input. works table keys work input next) told (ap (λ (a : Answer). a.status) (sym f) ∙ d);
    }

pub used_done : (table : Table) (name : List ℕ) (form : Format) (work : AskedWork) (next : List ℕ → Plan) (bytes : List ℕ) (keys : Keys) (told : Told) → map.get told.files name ≡ Some bytes → read_in form bytes ≡ Some keys → IsDoneAnswer (answer (use_output table None name form work next) told)
    → UsedKeys table keys work next told (answer (use_output table None name form work next) told)
used_done table name form work next bytes keys told there e done =
    let l = load_done origins.Keyset name form bytes keys (λ k. handles origins.Keyset table (primitive_for work) k (λ fit. work_behind table k work next)) told there e done in
    let u = use_done table work next keys told (ap (λ (a : Answer). a.status) (sym l) ∙ done) in
    record { fit = u.fit; fits = u.fits; goes_on = l ∙ u.goes_on }

pub used_within : (table : Table) (name : List ℕ) (form : Format) (work : AskedWork) (next : List ℕ → Plan) (bytes : List ℕ) (told : Told) → map.get told.files name ≡ Some bytes → IsDoneAnswer (answer (use_output table None name form work next) told) → length bytes ≤ keyset_limit
used_within table name form work next bytes told there done = load_within origins.Keyset name form bytes (λ k. handles origins.Keyset table (primitive_for work) k (λ fit. work_behind table k work next)) told there done

pub used_reached : (table : Table) (name : List ℕ) (form : Format) (work : AskedWork) (next : List ℕ → Plan) (bytes : List ℕ) (keys : Keys) (told : Told) → map.get told.files name ≡ Some bytes → read_in form bytes ≡ Some keys → length bytes ≤ keyset_limit
    → unfit keys (primitive_for work) table ≡ None → length told.input ≤ limit_for work
    → answer (use_output table None name form work next) told ≡ answer (works table keys work told.input next) (record told { input = [] })
used_reached table name form work next bytes keys told there e within fit fits =
    load_reached origins.Keyset name form bytes keys (λ k. handles origins.Keyset table (primitive_for work) k (λ x. work_behind table k work next)) told there e within
    ∙ ap (λ u. answer (unless_unfit (unfit_key origins.Keyset keys) u (work_behind table keys work next)) told) fit
    ∙ input_reached (limit_for work) (λ input. works table keys work input next) told fits
