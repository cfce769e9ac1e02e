-- Where edits and work by keys are answered Done.
use Rattle.std.proofs.Common.{◌≡◌, ◌∙◌, sym, refl, ap, subst, ℕ, ◌≤◌, Bool, true, false, List, [], length, Option, Some, None, option_map, Result, Ok, Err}
use Rattle.std.specs.Prelude.{IsSome}
use Rattle.std.proofs.lemmas.Option.{same_Some}
use Rattle.key_msgs.specs.Templates.{Row, row_named}
use Rattle.keyset_model.specs.Keyset.{Keys}
use Rattle.keyset_model.specs.Listing.{info_of}
use Rattle.managers.specs.Table.{Table}
use Rattle.managers.specs.Uses.{iv_size}
use Rattle.tinkey_cmds.specs.Draws.{Draw, Drawn}
use Rattle.tinkey_cmds.specs.Edits.{Edit, first, step}
use Rattle.tinkey_session.proofs.Options.{no_truth}
use Rattle.key_msgs.specs.declared.primitive.Primitive.TheVariants.{Aead}
use Rattle.tinkey_session.specs.Serving.{edit_named, or_refused}
use Rattle.wrapped_prims.specs.Answers.{Sealed, derive_answer, dopen_answer, open_answer, seal_answer, verify_answer}
use Rattle.tinkey_plans.specs.declared.origin.Origin.TheVariants as origins
use Rattle.tinkey_plans.specs.declared.status.Status.TheVariants as status
use Rattle.tinkey_plans.specs.Commands.{command_plan}
use Rattle.tinkey_plans.specs.Going.{FitKeysetsSeal}
use Rattle.tinkey_plans.specs.Handles.{handles, unless_unfit}
use Rattle.tinkey_plans.specs.Laws.{FitKeysetsAnswer, IsFit}
use Rattle.tinkey_plans.specs.Locks.{opens_lock, opens_new_lock, puts_under, takes_under}
use Rattle.tinkey_plans.specs.Plan.{Answer, Plan, Told, answer, draw_answer, refused, writes}
use Rattle.tinkey_plans.specs.Steps.{finds_edit, makes_keyset, puts, with_made, with_row, works_out, refuses}
use Rattle.tinkey_plans.specs.Sealers.{sealer_of}
use Rattle.tinkey_plans.specs.declared.sealer.Sealer.{Sealer}
use Rattle.tinkey_plans.specs.declared.sealer.Unopened.{Unopened}
use Rattle.tinkey_plans.specs.declared.sealer.Unopened.TheVariants as unopened
use Rattle.tinkey_plans.specs.Using.{as_drawn, dseals_plain, hex_line, limit_for, puts_output, seals_plain, shows, with_derived, with_opened, with_verified, works}
use Rattle.tinkey_words.specs.Words.{AskedEdit, AskedWork, Lock, NewLock, Output, KeysetFile, convert_keyset, create_keyset, edit_keyset, use_keyset, to_seal, to_open, to_dseal, to_dopen, to_reseal, to_dreseal, to_tag, to_verify, to_derive, primitive_for}
use Rattle.tinkey_readable.specs.DoneWhere.{ConvertGoes, CreateGoes, EditGoes, EditsDone, HasIv, WorkGoes, WorkIsDone, WorksDone}
use Rattle.tinkey_readable.specs.Lying.{FitsThere}
use Rattle.tinkey_readable.specs.Runs.{IsFree}
use Rattle.tinkey_readable.proofs.LyingLemmas.{behind_faultless, behind_reached, behind_there, loads_reached, loads_there, lock_reached, lock_there, name_free, new_lock_reached, new_lock_there, put_comes, put_there, takes_reached, takes_there}
use Rattle.tinkey_readable.proofs.PutLemmas.{made_put, worked}
use Rattle.tinkey_readable.proofs.ReachLemmas.{IsDoneAnswer, behind, found_edit, found_row, input_reached, made_done, use_done, work_behind}
use Rattle.tinkey_readable.proofs.WrappedRunLemmas.{behind_files, behind_random}
use Rattle.tinkey_plans.specs.UnfitKeys.{unfit_key}

-- ---- edits

edit_reached : (asked : AskedEdit) (edit : Edit) (next : Edit → Plan) (told : Told) → edit_named asked ≡ Ok edit → answer (finds_edit asked next) told ≡ answer (next edit) told
edit_reached asked edit next told is = ap (λ r. answer (or_refused refuses r next) told) is

makes_reached : (give : Draw Keys) (next : Keys → Plan) (told : Told) (drawn : Drawn Keys) (new : Keys) → give told.random ≡ Some drawn → drawn.answer ≡ Ok new → answer (makes_keyset give next) told ≡ answer (next new) (record told { random = drawn.left })
makes_reached give next told drawn new gave is =
    ap (λ o. draw_answer o (refused told status.EntropyFault) (λ (x : Drawn Keys). answer (with_made x.answer next) (record told { random = x.left }))) gave
    ∙ ap (λ r. answer (with_made r next) (record told { random = drawn.left })) is

abbrev edits_behind : Table → (in' out : KeysetFile) → Edit → Option Keys → Plan
edits_behind table in' out edit master = takes_under origins.In table master in' (λ keys. makes_keyset (step keys edit) (puts_under table master out))

pub edit_goes : (table : Table) (lock : Lock) (asked : AskedEdit) (in' out : KeysetFile) (told : Told) → IsDoneAnswer (answer (command_plan table (edit_keyset lock asked in' out)) told) → EditGoes table lock asked in' out told
edit_goes table lock asked in' out told done =
    let f = found_edit asked (λ e. opens_lock table lock (edits_behind table in' out e)) told done in
    let d1 : IsDoneAnswer (answer (opens_lock table lock (edits_behind table in' out f.edit)) told) = ap (λ (a : Answer). a.status) (sym f.goes_on) ∙ done in
    let o = lock_there table lock (edits_behind table in' out f.edit) told d1 in
    let opened = lock_reached table lock o.0 (edits_behind table in' out f.edit) told o.1 in
    let next : Keys → Plan = λ keys. makes_keyset (step keys f.edit) (puts_under table o.0 out) in
    let d2 : IsDoneAnswer (answer (takes_under origins.In table o.0 in' next) told) = ap (λ (a : Answer). a.status) (sym opened) ∙ d1 in
    let k = takes_there origins.In table o.0 in' next told d2 in
    let t = takes_reached origins.In table o.0 in' k.0 next told k.1 in
    let behind' = behind in'.file told in
    let m = made_done (step k.0 f.edit) (puts_under table o.0 out) behind' (ap (λ (a : Answer). a.status) (sym t) ∙ d2) in
    let left = record behind' { random = m.drawn.left } in
    let put = put_there table o.0 out m.new left (ap (λ (a : Answer). a.status) (sym (f.goes_on ∙ opened ∙ t ∙ m.goes_on)) ∙ done) in
    record {
      master = o.0;
      opens = o.1;
      old = k.0;
      lies = k.1;
      new = m.new;
      accepted = record { edit = f.edit; is = f.is; stepped = m.drawn; steps = ap (step k.0 f.edit) (sym (behind_random in'.file told)) ∙ m.gave; accepted = m.made };
      fits = put.0;
      free = subst (IsFree out.file) (behind_files in'.file told) put.1;
    }

-- the keyset that it makes is put
pub edit_answers : (table : Table) (lock : Lock) (asked : AskedEdit) (in' out : KeysetFile) (told : Told) (x : EditGoes table lock asked in' out told)
    → answer (command_plan table (edit_keyset lock asked in' out)) told ≡ answer (puts_under table x.master out x.new) (record (behind in'.file told) { random = x.accepted.stepped.left })
edit_answers table lock asked in' out told x =
    let a = x.accepted in
    let f = edit_reached asked a.edit (λ e. opens_lock table lock (edits_behind table in' out e)) told a.is in
    let o = lock_reached table lock x.master (edits_behind table in' out a.edit) told x.opens in
    let t = takes_reached origins.In table x.master in' x.old (λ keys. makes_keyset (step keys a.edit) (puts_under table x.master out)) told x.lies in
    f ∙ o ∙ t ∙ makes_reached (step x.old a.edit) (puts_under table x.master out) (behind in'.file told) a.stepped x.new (ap (step x.old a.edit) (behind_random in'.file told) ∙ a.steps) a.accepted

edit_done : (table : Table) (lock : Lock) (asked : AskedEdit) (in' out : KeysetFile) (told : Told) → EditGoes table lock asked in' out told → IsDoneAnswer (answer (command_plan table (edit_keyset lock asked in' out)) told)
edit_done table lock asked in' out told x =
    ap (λ (y : Answer). y.status) (edit_answers table lock asked in' out told x)
    ∙ put_comes table x.master out x.new (record (behind in'.file told) { random = x.accepted.stepped.left }) x.fits (subst (IsFree out.file) (sym (behind_files in'.file told)) x.free)

-- the first keyset
abbrev creates_behind : Table → KeysetFile → Row → Option Keys → Plan
creates_behind table out row master = makes_keyset (first row) (puts_under table master out)

pub create_goes : (table : Table) (lock : Lock) (template : List ℕ) (out : KeysetFile) (told : Told) → IsDoneAnswer (answer (command_plan table (create_keyset lock template out)) told) → CreateGoes table lock template out told
create_goes table lock template out told done =
    let f = found_row (row_named template) template (λ row. opens_lock table lock (creates_behind table out row)) told done in
    let d1 : IsDoneAnswer (answer (opens_lock table lock (creates_behind table out f.0)) told) = ap (λ (a : Answer). a.status) (sym f.2) ∙ done in
    let o = lock_there table lock (creates_behind table out f.0) told d1 in
    let opened = lock_reached table lock o.0 (creates_behind table out f.0) told o.1 in
    let m = made_done (first f.0) (puts_under table o.0 out) told (ap (λ (a : Answer). a.status) (sym opened) ∙ d1) in
    let put = put_there table o.0 out m.new (record told { random = m.drawn.left }) (ap (λ (a : Answer). a.status) (sym (f.2 ∙ opened ∙ m.goes_on)) ∙ done) in
    record {
      master = o.0;
      opens = o.1;
      new = m.new;
      created = record { row = f.0; named = f.1; stepped = m.drawn; steps = m.gave; accepted = m.made };
      fits = put.0;
      free = put.1;
    }

pub create_answers : (table : Table) (lock : Lock) (template : List ℕ) (out : KeysetFile) (told : Told) (x : CreateGoes table lock template out told)
    → answer (command_plan table (create_keyset lock template out)) told ≡ answer (puts_under table x.master out x.new) (record told { random = x.created.stepped.left })
create_answers table lock template out told x =
    let c = x.created in
    ap (λ o. answer (with_row o template (λ row. opens_lock table lock (creates_behind table out row))) told) c.named
    ∙ lock_reached table lock x.master (creates_behind table out c.row) told x.opens
    ∙ makes_reached (first c.row) (puts_under table x.master out) told c.stepped x.new c.steps c.accepted

create_done : (table : Table) (lock : Lock) (template : List ℕ) (out : KeysetFile) (told : Told) → CreateGoes table lock template out told → IsDoneAnswer (answer (command_plan table (create_keyset lock template out)) told)
create_done table lock template out told x =
    ap (λ (a : Answer). a.status) (create_answers table lock template out told x)
    ∙ put_comes table x.master out x.new (record told { random = x.created.stepped.left }) x.fits x.free

-- another form or another master
abbrev converts_behind : Table → (in' out : KeysetFile) → (taken put : Option Keys) → Plan
converts_behind table in' out taken put = takes_under origins.In table taken in' (puts_under table put out)

pub convert_goes : (table : Table) (lock : Lock) (new : NewLock) (in' out : KeysetFile) (told : Told) → IsDoneAnswer (answer (command_plan table (convert_keyset lock new in' out)) told) → ConvertGoes table lock new in' out told
convert_goes table lock new in' out told done =
    let relocks : Option Keys → Plan = λ taken. opens_new_lock table new taken (converts_behind table in' out taken) in
    let o = lock_there table lock relocks told done in
    let opened = lock_reached table lock o.0 relocks told o.1 in
    let d1 : IsDoneAnswer (answer (relocks o.0) told) = ap (λ (a : Answer). a.status) (sym opened) ∙ done in
    let n = new_lock_there table new o.0 (converts_behind table in' out o.0) told d1 in
    let relocked = new_lock_reached table new o.0 n.0 (converts_behind table in' out o.0) told n.1 in
    let d2 : IsDoneAnswer (answer (converts_behind table in' out o.0 n.0) told) = ap (λ (a : Answer). a.status) (sym relocked) ∙ d1 in
    let k = takes_there origins.In table o.0 in' (puts_under table n.0 out) told d2 in
    let behind' = behind in'.file told in
    let put = put_there table n.0 out k.0 behind' (ap (λ (a : Answer). a.status) (sym (takes_reached origins.In table o.0 in' k.0 (puts_under table n.0 out) told k.1)) ∙ d2) in
    record {
      taken = o.0;
      opens = o.1;
      put = n.0;
      opens_new = n.1;
      keys = k.0;
      lies = k.1;
      fits = subst (FitsThere table n.0 out.form k.0) (behind_random in'.file told) put.0;
      free = subst (IsFree out.file) (behind_files in'.file told) put.1;
    }

pub convert_answers : (table : Table) (lock : Lock) (new : NewLock) (in' out : KeysetFile) (told : Told) (x : ConvertGoes table lock new in' out told)
    → answer (command_plan table (convert_keyset lock new in' out)) told ≡ answer (puts_under table x.put out x.keys) (behind in'.file told)
convert_answers table lock new in' out told x =
    lock_reached table lock x.taken (λ taken. opens_new_lock table new taken (converts_behind table in' out taken)) told x.opens
    ∙ new_lock_reached table new x.taken x.put (converts_behind table in' out x.taken) told x.opens_new
    ∙ takes_reached origins.In table x.taken in' x.keys (puts_under table x.put out) told x.lies

convert_done : (table : Table) (lock : Lock) (new : NewLock) (in' out : KeysetFile) (told : Told) → ConvertGoes table lock new in' out told → IsDoneAnswer (answer (command_plan table (convert_keyset lock new in' out)) told)
convert_done table lock new in' out told x =
    ap (λ (a : Answer). a.status) (convert_answers table lock new in' out told x)
    ∙ put_comes table x.put out x.keys (behind in'.file told) (subst (FitsThere table x.put out.form x.keys) (sym (behind_random in'.file told)) x.fits) (subst (IsFree out.file) (sym (behind_files in'.file told)) x.free)

abbrev lists : Keys → Plan
lists keys = works_out (info_of keys) writes

pub edits_done : EditsDone
edits_done = record {
  edited = λ table lock asked in' out told. (edit_goes table lock asked in' out told, edit_done table lock asked in' out told);
  created = λ table lock template out told. (create_goes table lock template out told, create_done table lock template out told);
  converted = λ table lock new in' out told. (convert_goes table lock new in' out told, convert_done table lock new in' out told);
  listed = λ table lock in' told. (behind_there origins.In table lock in' lists told, λ x. ap (λ (a : Answer). a.status) (behind_reached origins.In table lock in' x.0 lists told x.1));
}

-- ---- work on a whole input

pub opened_goes : (what : Unopened) (sealer : Sealer) (o : Option (List ℕ)) (next : List ℕ → Plan) (told : Told) → IsDoneAnswer (answer (with_opened what sealer o next) told) → (plain : List ℕ) × (o ≡ Some plain)
opened_goes what sealer (Some plain) next told done = (plain, refl)
opened_goes what sealer None next told done = absurd (cc)

verified_goes : (b : Bool) (next : List ℕ → Plan) (told : Told) → IsDoneAnswer (answer (with_verified b next) told) → b ≡ true
verified_goes true next told done = refl
verified_goes false next told done = absurd (cc)

derived_goes : (size : ℕ) (o : Option (Result (List ℕ) ℕ)) (next : List ℕ → Plan) (told : Told) → IsSome o → IsDoneAnswer (answer (with_derived size o next) told) → (bytes : List ℕ) × (o ≡ Some (Ok bytes))
derived_goes size None next told some done = no_truth some
derived_goes size (Some (Ok bytes)) next told some done = (bytes, refl)
derived_goes size (Some (Err greatest)) next told some done = absurd (cc)

sealed_goes : (table : Table) (keys : Keys) (ad input : List ℕ) (next : List ℕ → Plan) (told : Told) → IsDoneAnswer (answer (works table keys (to_seal ad) input next) told) → (s : Sealed) × (seal_answer keys table input ad told.random ≡ Some s)
sealed_goes table keys ad input next told done = by (seal_answer keys table input ad told.random) done
  where
    by : (o : Option Sealed) → IsDoneAnswer (draw_answer (option_map as_drawn o) (refused told status.EntropyFault) (λ (d : Drawn (List ℕ)). answer (with_made d.answer next) (record told { random = d.left }))) → (s : Sealed) × (o ≡ Some s)
    by (Some s) done = (s, refl)
    by None done = absurd (cc)

work_goes : FitKeysetsAnswer → FitKeysetsSeal → (table : Table) (keys : Keys) (work : AskedWork) (input : List ℕ) (next : List ℕ → Plan) (told : Told) → IsFit table (primitive_for work) keys → IsDoneAnswer (answer (works table keys work input next) told) → WorkGoes table keys work input told.random
work_goes answers seals table keys (to_seal ad) input next told fit done =
    let key = seals table keys input ad told.random fit in
    (key.0, key.1, key.2.1 (sealed_goes table keys ad input next told done))
work_goes answers seals table keys (to_open ad) input next told fit done = opened_goes unopened.Text (sealer_of keys input) (open_answer keys table input ad) next told done
work_goes answers seals table keys (to_dseal ad) input next told fit done = tt
work_goes answers seals table keys (to_dopen ad) input next told fit done = opened_goes unopened.Text (sealer_of keys input) (dopen_answer keys table input ad) next told done
work_goes answers seals table keys (to_reseal ad) input next told fit done =
    let o = opened_goes unopened.Text (sealer_of keys input) (open_answer keys table input ad) (λ plain. seals_plain table keys plain ad next) told done in
    let sealed = subst (λ x. IsDoneAnswer (answer (with_opened unopened.Text (sealer_of keys input) x (λ plain. seals_plain table keys plain ad next)) told)) o.1 done in
    let key = seals table keys o.0 ad told.random fit in
    (o, (key.0, key.1, key.2.1 (sealed_goes table keys ad o.0 next told sealed)))
work_goes answers seals table keys (to_dreseal ad) input next told fit done = opened_goes unopened.Text (sealer_of keys input) (dopen_answer keys table input ad) (λ plain. dseals_plain table keys plain ad next) told done
work_goes answers seals table keys to_tag input next told fit done = tt
work_goes answers seals table keys (to_verify tag) input next told fit done = verified_goes (verify_answer keys table tag input) next told done
work_goes answers seals table keys (to_derive size) input next told fit done =
    derived_goes size (derive_answer keys table input size) next told (answers.derive table keys input size fit) done

sealed_done : FitKeysetsSeal → (table : Table) (keys : Keys) (ad input : List ℕ) (told : Told) → IsFit table Aead keys → HasIv table keys told.random → IsDoneAnswer (answer (seals_plain table keys input ad writes) told)
sealed_done seals table keys ad input told fit goes =
    let key = seals table keys input ad told.random fit in
    let iv = subst (λ n. n ≤ length told.random) (ap iv_size (same_Some _ _ (sym goes.1 ∙ key.1))) goes.2 in
    let s = key.2.0 iv in
    ap (λ o. (draw_answer (option_map as_drawn o) (refused told status.EntropyFault) (λ (d : Drawn (List ℕ)). answer (with_made d.answer writes) (record told { random = d.left }))).status) s.1

-- written to the output it is done
work_done : FitKeysetsSeal → (table : Table) (keys : Keys) (work : AskedWork) (input : List ℕ) (told : Told) → IsFit table (primitive_for work) keys → WorkGoes table keys work input told.random → IsDoneAnswer (answer (works table keys work input writes) told)
work_done seals table keys (to_seal ad) input told fit goes = sealed_done seals table keys ad input told fit goes
work_done seals table keys (to_open ad) input told fit goes = ap (λ o. (answer (with_opened unopened.Text (sealer_of keys input) o writes) told).status) goes.1
work_done seals table keys (to_dseal ad) input told fit goes = refl
work_done seals table keys (to_dopen ad) input told fit goes = ap (λ o. (answer (with_opened unopened.Text (sealer_of keys input) o writes) told).status) goes.1
work_done seals table keys (to_reseal ad) input told fit goes =
    ap (λ o. (answer (with_opened unopened.Text (sealer_of keys input) o (λ plain. seals_plain table keys plain ad writes)) told).status) goes.0.1 ∙ sealed_done seals table keys ad goes.0.0 told fit goes.1
work_done seals table keys (to_dreseal ad) input told fit goes = ap (λ o. (answer (with_opened unopened.Text (sealer_of keys input) o (λ plain. dseals_plain table keys plain ad writes)) told).status) goes.1
work_done seals table keys to_tag input told fit goes = refl
work_done seals table keys (to_verify tag) input told fit goes = ap (λ b. (answer (with_verified b writes) told).status) goes
work_done seals table keys (to_derive size) input told fit goes = ap (λ o. (answer (with_derived size o writes) told).status) goes.1

shown_free : (hex : Bool) (file : Option (List ℕ)) (bytes : List ℕ) (told : Told) → IsDoneAnswer (answer (shows hex bytes (puts file)) told) → IsFree file told.files
shown_free false file bytes told done = name_free file bytes told done
shown_free true file bytes told done = name_free file (hex_line bytes) told done

-- the steps behind the keyset
abbrev uses : Table → AskedWork → Output → Keys → Plan
uses table work out keys = handles origins.Keyset table (primitive_for work) keys (λ fit. work_behind table keys work (puts_output out))

pub works_done : FitKeysetsAnswer → FitKeysetsSeal → WorksDone
works_done answers seals table lock name form work out told = (goes, done)
  where
    a : Answer
    a = answer (command_plan table (use_keyset lock name form work out)) told

    left : Told
    left = record told { input = [] }

    place : KeysetFile
    place = record { file = Some name; form = form }

    goes : IsDoneAnswer a → WorkIsDone table lock name form work out told
    goes is =
        let k = loads_there table lock name form (uses table work out) told is in
        let r = loads_reached table lock name form k.0 (uses table work out) told k.1 in
        let u = use_done table work (puts_output out) k.0 told (ap (λ (x : Answer). x.status) (sym r) ∙ is) in
        let worked' : IsDoneAnswer (answer (works table k.0 work told.input (puts_output out)) left) = ap (λ (x : Answer). x.status) (sym (r ∙ u.goes_on)) ∙ is in
        let w = worked table k.0 work told.input (puts_output out) left worked' in
        record {
          keys = k.0;
          lies = k.1;
          fit = u.fit;
          short = u.fits;
          goes = work_goes answers seals table k.0 work told.input (puts_output out) left (record { faultless = behind_faultless table lock place told k.0 k.1; fit = u.fit }) worked';
          free = subst (IsFree out.file) w.files (shown_free out.hex out.file w.made w.left (ap (λ (x : Answer). x.status) (sym (w.is (puts_output out))) ∙ worked'));
        }

    done : WorkIsDone table lock name form work out told → IsDoneAnswer a
    done x =
        let next : List ℕ → Plan = λ input. works table x.keys work input (puts_output out) in
        let r = loads_reached table lock name form x.keys (uses table work out) told x.lies
        ∙ ap (λ u. answer (unless_unfit (unfit_key origins.Keyset x.keys) u (work_behind table x.keys work (puts_output out))) told) x.fit
        ∙ input_reached (limit_for work) next told x.short in
        let d = work_done seals table x.keys work told.input left (record { faultless = behind_faultless table lock place told x.keys x.lies; fit = x.fit }) x.goes in
        let w = worked table x.keys work told.input writes left d in
        let p = made_put (works table x.keys work told.input) left out.hex out.file (answer (works table x.keys work told.input writes) left).output w refl x.free in
        ap (λ (y : Answer). y.status) r ∙ p.0
