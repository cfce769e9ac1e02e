-- The files that a told store holds after the lines of a session.
use Rattle.std.proofs.Common.{arith, ◌≡◌, ◌∙◌, inl, inr, length, sym, refl, ap, subst, ℕ, Bool, true, false, cond, List, [], ◌∷◌, ◌++◌, Option, Some, None, Result, Ok, Err, append_assoc, append-nil}
use Rattle.std.specs.Prelude.{if◌then◌else◌, nat_le, option_map}
use Rattle.std.specs.FinMap as map
use Rattle.std.specs.List.{flat_map}
use Rattle.std.specs.Option.{is_none, option_and_then}
use Rattle.std.specs.Result.{result_ok}
use Rattle.std.proofs.lemmas.Cmp.{eq_by_cmp_equiv, nat_list_cmp_total}
use Rattle.std.proofs.lemmas.List.Concat.{flat_map-cons}
use Rattle.keyset_model.specs.Keyset.{Keys}
use Rattle.managers.specs.Table.{Table}
use Rattle.tink_spec.specs.Files.{Files, StoreState}
use Rattle.tinkey_session.proofs.Options.{clash}
use Rattle.tinkey_session.specs.Lines.{Line, Outcome, Save}
use Rattle.tinkey_session.specs.Saving.{Agrees, AsksFor, FileAsked, Form, StoreAnswers, by_files, failed, file_asked, files_after, files_of, made, resolved, there, why_of, why_taken, written_by}
use Rattle.tinkey_session.specs.Serving.{Served, serve}
use Rattle.tinkey_session.specs.Session.{Remains, lines_by, lines_then, remains}
use Rattle.tinkey_session.specs.Talking.{unsaved_after}
use Rattle.tinkey_session.specs.declared.reply.LineRefusal.{LineRefusal}
use Rattle.tinkey_plans.specs.Promises.{AsksOver, over_files}
use Rattle.seal_wrap.specs.Wrapped.{Wrapped, wrap_of}
use Rattle.tinkey_cmds.specs.Draws.{Drawn}
use Rattle.tinkey_plans.specs.Plan.{Plan, Told, answer, create_answer, creates, draw_answer, ends, refused}
use Rattle.tinkey_plans.specs.Session.{saves_as}
use Rattle.tinkey_plans.specs.Steps.{keyset_limit, with_made, within_limit, written_in}
use Rattle.tinkey_plans.specs.Wrapping.{as_wrapping, is_json, makes_wrapped, wrapped_limit}
use Rattle.tinkey_plans.specs.declared.status.Status.TheVariants as status
use Rattle.tinkey_words.specs.declared.words.rows.Format.{Format}
use Rattle.tinkey_words.specs.declared.words.rows.Format.TheVariants as formats
use Rattle.tinkey_readable.specs.KeptRuns.{Has}
use Rattle.tinkey_readable.proofs.FileLemmas.{asked_has, inserted}
use Rattle.tinkey_readable.proofs.SessionLineLemmas.{saves_or_not}

-- ---- one file

-- the files after one that was asked for
abbrev after_one : Files → FileAsked → Files
after_one files a = if is_none a.why then map.insert files a.name a.bytes else files

-- a name that isn't taken is free
pub free_name : (found : Option (List ℕ)) → why_taken found ≡ None → found ≡ None
free_name None is = refl
free_name (Some bytes) is = clash (sym is)

one_stays : (files : Files) (a : FileAsked) (name bytes : List ℕ) → why_taken (map.get files a.name) ≡ a.why → map.get files name ≡ Some bytes → map.get (after_one files a) name ≡ Some bytes
one_stays files a name bytes is at = by a.why is
  where
    by : (why : Option LineRefusal) → why_taken (map.get files a.name) ≡ why → map.get (if is_none why then map.insert files a.name a.bytes else files) name ≡ Some bytes
    by None free = inserted files name bytes a.name a.bytes (free_name (map.get files a.name) free) at
    by (Some why) taken = at

one_there : (files : Files) (a : FileAsked) → a.why ≡ None → map.get (after_one files a) a.name ≡ Some a.bytes
one_there files a is =
    ap (λ (why : Option LineRefusal). map.get (if is_none why then map.insert files a.name a.bytes else files) a.name) is
    ∙ map.get-insert nat_list_cmp_total files a.name a.bytes a.name
    ∙ ap (λ (b : Bool). cond b (Some a.bytes) (map.get files a.name)) ((eq_by_cmp_equiv nat_list_cmp_total).refl a.name)

one_absent : (files : Files) (a : FileAsked) (name : List ℕ) → map.get (after_one files a) name ≡ None → map.get files name ≡ None
one_absent files a name none = by a.why none
  where
    by_same : (same : Bool) → cond same (Some a.bytes) (map.get files name) ≡ None → map.get files name ≡ None
    by_same true is = clash (sym is)
    by_same false is = is

    by : (why : Option LineRefusal) → map.get (if is_none why then map.insert files a.name a.bytes else files) name ≡ None → map.get files name ≡ None
    by None is = by_same _ (sym (map.get-insert nat_list_cmp_total files a.name a.bytes name) ∙ is)
    by (Some why) is = is

-- ---- one after another

after_both : (files : Files) (before later : List FileAsked) → files_after files (before ++ later) ≡ files_after (files_after files before) later
after_both files [] later = refl
after_both files (a ∷ before) later = after_both (after_one files a) before later

-- a name that is free later was free before
pub absent_first : (files : Files) (asked : List FileAsked) (name : List ℕ) → map.get (files_after files asked) name ≡ None → map.get files name ≡ None
absent_first files [] name none = none
absent_first files (a ∷ asked) name none = one_absent files a name (absent_first (after_one files a) asked name none)

-- what was there stays
pub stays_there : (files : Files) (before asked : List FileAsked) (name bytes : List ℕ) → Agrees (by_files files) before asked → map.get (files_after files before) name ≡ Some bytes → map.get (files_after files (before ++ asked)) name ≡ Some bytes
stays_there files before [] name bytes agrees at = ap (λ l. map.get (files_after files l) name) (append-nil before) ∙ at
stays_there files before (a ∷ asked) name bytes agrees at =
    let next = ap (λ (f : Files). map.get f name) (after_both files before (a ∷ [])) ∙ one_stays (files_after files before) a name bytes agrees.0 at in
    subst (λ l. map.get (files_after files l) name ≡ Some bytes) (append_assoc before (a ∷ []) asked) (stays_there files (before ++ a ∷ []) asked name bytes agrees.1 next)

-- a file that was asked for, and made, is there at last
pub made_stays : (files : Files) (before : List FileAsked) (a : FileAsked) (later : List FileAsked) → Agrees (by_files files) before (a ∷ later) → a.why ≡ None → map.get (files_after files (before ++ a ∷ later)) a.name ≡ Some a.bytes
made_stays files before a later agrees is =
    let at = ap (λ (f : Files). map.get f a.name) (after_both files before (a ∷ [])) ∙ one_there (files_after files before) a is in
    subst (λ l. map.get (files_after files l) a.name ≡ Some a.bytes) (append_assoc before (a ∷ []) later) (stays_there files (before ++ a ∷ []) later a.name a.bytes agrees.1 at)

-- those that come later agree
pub agrees_later : (answers : StoreAnswers) (before first later : List FileAsked) → Agrees answers before (first ++ later) → Agrees answers (before ++ first) later
agrees_later answers before [] later agrees = subst (λ l. Agrees answers l later) (sym (append-nil before)) agrees
agrees_later answers before (a ∷ first) later agrees = subst (λ l. Agrees answers l later) (append_assoc before (a ∷ []) first) (agrees_later answers (before ++ a ∷ []) first later agrees.1)

-- ---- a store that holds these files, and never fails

-- it does what it answers
does_so : (files : Files) (a : FileAsked) → why_taken (map.get files a.name) ≡ a.why → AsksFor a (over_files (Some files)) (over_files (Some (after_one files a)))
does_so files a is = by (map.get files a.name) refl is
  where
    by : (found : Option (List ℕ)) → map.get files a.name ≡ found → why_taken found ≡ a.why → AsksFor a (over_files (Some files)) (over_files (Some (after_one files a)))
    by None at why =
        let same : after_one files a ≡ map.insert files a.name a.bytes = ap (λ (w : Option LineRefusal). if is_none w then map.insert files a.name a.bytes else files) (sym why) in
        made (sym why) (record { absent = at; files = ap Some same; faults = omega arith }) refl refl
    by (Some bytes) at why =
        let same : after_one files a ≡ files = ap (λ (w : Option LineRefusal). if is_none w then map.insert files a.name a.bytes else files) (sym why) in
        there (sym why) (bytes, at) (ap (λ (f : Files). over_files (Some f)) (sym same))

pub asks_so : (files : Files) (before asked : List FileAsked) → Agrees (by_files files) before asked → AsksOver asked (Some (files_after files before)) (Some (files_after files (before ++ asked)))
asks_so files before [] agrees = ap (λ l. Some (files_after files l)) (sym (append-nil before))
asks_so files before (a ∷ asked) agrees =
    let here = files_after files before in
    let rest = asks_so files (before ++ a ∷ []) asked agrees.1 in (
      over_files (Some here),
      over_files (Some (after_one here a)),
      refl,
      does_so here a agrees.0,
      subst (λ (f : Files). AsksOver asked (Some f) (Some (files_after files (before ++ a ∷ asked)))) (after_both files before (a ∷ []))
          (subst (λ l. AsksOver asked (Some (files_after files (before ++ a ∷ []))) (Some (files_after files l))) (append_assoc before (a ∷ []) asked) rest),
    )

-- ---- the files that lines ask for

-- a line asks for the file that the store answers
agrees_save : (form : Form) (answers : StoreAnswers) (before : List FileAsked) (unsaved : Bool) (keys : Keys) (random : List ℕ) (name : List ℕ) (outcome : Outcome) (later : List FileAsked)
    → Agrees answers (before ++ files_of (resolved form answers before unsaved keys random (Save name outcome))) later → Agrees answers before (files_of (resolved form answers before unsaved keys random (Save name outcome)) ++ later)
agrees_save form answers before unsaved keys random name outcome later agrees = by (written_by form keys random) agrees
  where
    by : (w : Result (List ℕ) LineRefusal) → Agrees answers (before ++ file_asked name (why_of (answers before name) w) (result_ok w)) later → Agrees answers before (file_asked name (why_of (answers before name) w) (result_ok w) ++ later)
    by (Ok bytes) agrees = (refl, agrees)
    by (Err why) agrees = subst (λ l. Agrees answers l later) (append-nil before) agrees

agrees_line : (form : Form) (answers : StoreAnswers) (before : List FileAsked) (unsaved : Bool) (keys : Keys) (random : List ℕ) (line : Line) (later : List FileAsked)
    → Agrees answers (before ++ files_of (resolved form answers before unsaved keys random line)) later → Agrees answers before (files_of (resolved form answers before unsaved keys random line) ++ later)
agrees_line form answers before unsaved keys random line later = elim (saves_or_not line) [
  | inl save ↦ subst (λ l. Agrees answers (before ++ files_of (resolved form answers before unsaved keys random l)) later → Agrees answers before (files_of (resolved form answers before unsaved keys random l) ++ later)) (sym save.2) (agrees_save form answers before unsaved keys random save.0 save.1 later)
  | inr other ↦ subst (λ files. Agrees answers (before ++ files) later → Agrees answers before (files ++ later)) (sym (other.none form answers before unsaved keys random)) (λ agrees. subst (λ l. Agrees answers l later) (append-nil before) agrees)
]

-- so do lines that are all answered
pub agrees_lines : (table : Table) (form : Form) (answers : StoreAnswers) (before : List FileAsked) (unsaved : Bool) (keys : Keys) (lines : List Line) (random : List ℕ) (last : Remains)
    → remains table keys (lines_by table (resolved form answers) before unsaved keys lines random) random ≡ Some last
    → Agrees answers before (flat_map files_of (lines_by table (resolved form answers) before unsaved keys lines random))
unfolding remains lines_by
agrees_lines table form answers before unsaved keys [] random last e = tt
agrees_lines table form answers before unsaved keys (line ∷ later) random last e = by (λ y k. agrees_lines table form answers (before ++ files_of l) (unsaved_after unsaved l y.reply) y.keys later y.left last k) (serve table keys l random) refl e
  where
    l : Line
    l = resolved form answers before unsaved keys random line

    over : Served → List Line
    over y = lines_by table (resolved form answers) (before ++ files_of l) (unsaved_after unsaved l y.reply) y.keys later y.left

    by : ((y : Served) → remains table y.keys (over y) y.left ≡ Some last → Agrees answers (before ++ files_of l) (flat_map files_of (over y)))
        → (o : Option Served) → serve table keys l random ≡ o → option_and_then (λ y. remains table y.keys (lines_then later o over) y.left) o ≡ Some last
        → Agrees answers before (flat_map files_of (l ∷ lines_then later o over))
    by behind None t k = clash k
    by behind (Some s) t k = subst (Agrees answers before) (sym (flat_map-cons files_of l (over s))) (agrees_line form answers before unsaved keys random line (flat_map files_of (over s)) (behind s k))

-- ---- what comes after a session

-- what follows a session takes no file away
abbrev makes_file : (name : List ℕ) → List ℕ → Plan
makes_file name bytes = creates name bytes status.OutExists tt

abbrev Stays : (name bytes : List ℕ) → Plan → Told → Type 0
Stays name bytes plan told = map.get told.files name ≡ Some bytes → map.get (answer plan told).files name ≡ Some bytes

file_keeps : (name bytes new output : List ℕ) (told : Told) → Stays name bytes (makes_file new output) told
file_keeps name bytes new output told at = by (map.get told.files new) refl
  where
    by : (found : Option (List ℕ)) → map.get told.files new ≡ found → map.get (create_answer found told new output (refused told status.OutExists)).files name ≡ Some bytes
    by None free = inserted told.files name bytes new output free at
    by (Some other) taken = at

within_keeps : (name bytes : List ℕ) (limit : ℕ) (next : List ℕ → Plan) (output : List ℕ) (told : Told) → Stays name bytes (next output) told → Stays name bytes (within_limit limit next output) told
within_keeps name bytes limit next output told later at = by (nat_le (length output) limit)
  where
    by : (b : Bool) → map.get (answer (if b then next output else ends status.KeysetOutgrown tt) told).files name ≡ Some bytes
    by true = later at
    by false = at

text_keeps : (table : Table) (name bytes : List ℕ) (over : Keys) (form : Format) (keys : Keys) (new : List ℕ) (told : Told) → Stays name bytes (makes_wrapped keys over table form (makes_file new)) told
text_keeps table name bytes over form keys new told at = by (wrap_of keys over table told.random (is_json form))
  where
    by : (o : Option Wrapped) → map.get (draw_answer (option_map as_wrapping o) (refused told status.EntropyFault) (λ (d : Drawn (List ℕ)). answer (with_made d.answer (within_limit wrapped_limit (makes_file new))) (record told { random = d.left }))).files name ≡ Some bytes
    by None = at
    by (Some w) = within_keeps name bytes wrapped_limit (makes_file new) w.text (record told { random = w.left }) (file_keeps name bytes new w.text (record told { random = w.left })) at

pub save_keeps : (table : Table) (name bytes : List ℕ) (master : Option Keys) (new : Option (List ℕ)) (form : Format) (keys : Keys) (told : Told) → Stays name bytes (saves_as table master new form keys) told
save_keeps table name bytes master None form keys told at = at
save_keeps table name bytes None (Some new) form keys told at = within_keeps name bytes keyset_limit (makes_file new) (written_in form keys) told (file_keeps name bytes new (written_in form keys) told) at
save_keeps table name bytes (Some over) (Some new) form keys told at =
    within_keeps name bytes keyset_limit (λ plain. makes_wrapped keys over table form (makes_file new)) (written_in formats.Binary keys) told (text_keeps table name bytes over form keys new told) at

-- ---- a store that was asked

-- a store that tells its files does so after them
asked_some : (a : FileAsked) (old new : StoreState) (files : Files) → AsksFor a old new → old.files ≡ Some files → (later : Files) × (new.files ≡ Some later)
asked_some a old new files (made why added stood given) is = (map.insert files a.name a.bytes, added.files ∙ ap (option_map (λ (f : Files). map.insert f a.name a.bytes)) is)
asked_some a old new files (there why holds same) is = (files, ap (λ (t : StoreState). t.files) (sym same) ∙ is)
asked_some a old new files (failed why (inl kept) rose given) is = (files, sym kept.files ∙ is)
asked_some a old new files (failed why (inr front) rose given) is = (map.insert files a.name front.front, front.added.files ∙ ap (option_map (λ (f : Files). map.insert f a.name front.front)) is)

-- one that was made is there
asked_made : (a : FileAsked) (old new : StoreState) (files : Files) → AsksFor a old new → old.files ≡ Some files → a.why ≡ None → Has new a.name a.bytes
asked_made a old new files (made why added stood given) is none = (
  map.insert files a.name a.bytes,
  added.files ∙ ap (option_map (λ (f : Files). map.insert f a.name a.bytes)) is,
  map.get-insert nat_list_cmp_total files a.name a.bytes a.name ∙ ap (λ (b : Bool). cond b (Some a.bytes) (map.get files a.name)) ((eq_by_cmp_equiv nat_list_cmp_total).refl a.name),
)
asked_made a old new files (there why holds same) is none = clash (sym none ∙ why)
asked_made a old new files (failed why may rose given) is none = clash (sym none ∙ why)

over_has : (asked : List FileAsked) (files after : Option Files) (name bytes : List ℕ) → AsksOver asked files after → Has (over_files files) name bytes → Has (over_files after) name bytes
over_has [] files after name bytes same (f, is, at) = (f, sym same ∙ is, at)
over_has (a ∷ asked) files after name bytes (old, new, here, first, later) (f, is, at) =
    let n = asked_has a old new name bytes first (f, here ∙ is, at) in
    over_has asked new.files after name bytes later (n.0, n.1, n.2)

-- so it is after those that come later
pub made_over : (first : List FileAsked) (a : FileAsked) (later : List FileAsked) (files : Files) (before after : Option Files) → before ≡ Some files → AsksOver (first ++ a ∷ later) before after → a.why ≡ None → Has (over_files after) a.name a.bytes
made_over [] a later files before after is (old, new, here, first, asks) none =
    let n = asked_made a old new files first (here ∙ is) none in
    over_has later new.files after a.name a.bytes asks (n.0, n.1, n.2)
made_over (b ∷ first) a later files before after is (old, new, here, one, asks) none =
    let n = asked_some b old new files one (here ∙ is) in
    made_over first a later n.0 new.files after n.1 asks none
