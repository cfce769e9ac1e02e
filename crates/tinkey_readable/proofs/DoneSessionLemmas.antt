-- Where a session is answered Done.
use Rattle.std.proofs.Common.{◌≡◌, ◌∙◌, sym, refl, ap, ℕ, Bool, List, [], Option, Some, None}
use Rattle.keyset_model.specs.Keyset.{Keys}
use Rattle.managers.specs.Table.{Table}
use Rattle.tink_spec.specs.Files.{Files}
use Rattle.tinkey_session.specs.Saving.{FileAsked, files_after}
use Rattle.tinkey_session.specs.Talking.{Stop, Talk, goes, long_line, many_lines, passes, wants}
use Rattle.tinkey_plans.specs.declared.origin.Origin.TheVariants as origins
use Rattle.tinkey_plans.specs.declared.status.Status.TheVariants as status
use Rattle.tinkey_plans.specs.Commands.{command_plan}
use Rattle.tinkey_plans.specs.Plan.{Answer, Plan, Told, answer, exchanges, look_answer, refused, talk_answer}
use Rattle.tinkey_plans.specs.Session.{finds_free, holds_session, saves, saves_as, saving_session}
use Rattle.tinkey_words.specs.declared.words.rows.Format.{Format}
use Rattle.tinkey_words.specs.Words.{Lock, KeysetFile, session}
use Rattle.tinkey_plans.specs.Locks.{takes_under}
use Rattle.tinkey_readable.specs.DoneWhere.{IsSavedWithin, SessionGoes, SessionsDone}
use Rattle.tinkey_readable.specs.Lying.{LiesThere, OpensLock}
use Rattle.tinkey_readable.specs.Runs.{IsFree, told_session}
use Rattle.tinkey_readable.proofs.FilesAfterLemmas.{absent_first}
use Rattle.tinkey_readable.proofs.LyingLemmas.{lock_reached, lock_there, put_comes, put_there, takes_reached, takes_there}
use Rattle.tinkey_readable.proofs.ReachLemmas.{IsDoneAnswer}
use Rattle.tinkey_readable.proofs.RunLemmas.{free_done}

-- ---- the name of a new file

-- one that is free behind the files that were asked for was free before
free_first : (file : Option (List ℕ)) (files : Files) (asked : List FileAsked) → IsFree file (files_after files asked) → IsFree file files
free_first None files asked free = tt
free_first (Some name) files asked free = absent_first files asked name free

look_reached : (file : Option (List ℕ)) (next : Unit {0} → Plan) (told : Told) → IsFree file told.files → answer (finds_free file next) told ≡ answer (next tt) told
look_reached None next told free = refl
look_reached (Some name) next told free = ap (λ (found : Option (List ℕ)). look_answer found (refused told status.OutExists) (answer (next tt) told)) free

saved_free : (table : Table) (master : Option Keys) (file : Option (List ℕ)) (form : Format) (keys : Keys) (told : Told) → IsDoneAnswer (answer (saves_as table master file form keys) told) → IsFree file told.files
saved_free table master None form keys told done = tt
saved_free table master (Some name) form keys told done = (put_there table master (record { file = Some name; form = form }) keys told done).1

saved_within : (table : Table) (master : Option Keys) (file : Option (List ℕ)) (form : Format) (keys : Keys) (told : Told) → IsDoneAnswer (answer (saves_as table master file form keys) told) → IsSavedWithin table master file form keys told.random
saved_within table master None form keys told done = tt
saved_within table master (Some name) form keys told done = (put_there table master (record { file = Some name; form = form }) keys told done).0

save_reached : (table : Table) (master : Option Keys) (file : Option (List ℕ)) (form : Format) (keys : Keys) (told : Told) → IsSavedWithin table master file form keys told.random → IsFree file told.files → IsDoneAnswer (answer (saves_as table master file form keys) told)
save_reached table master None form keys told fits free = refl
save_reached table master (Some name) form keys told fits free = put_comes table master (record { file = Some name; form = form }) keys told fits free

-- ---- the lines

-- the answer by how the session stands at the end of its input
abbrev pub stands : Table → Option Keys → Keys → KeysetFile → (saved_only : Bool) → Told → Stop → Answer
stands table master keys out saved_only told stop =
    let x = told_session table master out.form saved_only keys told in
    let made = record told { files = files_after told.files x.asked } in
    talk_answer stop x made (answer (saves table master out x.keys) (record made { input = []; random = x.random }))

record Held (table : Table) (master : Option Keys) (keys : Keys) (out : KeysetFile) (saved_only : Bool) (told : Told) : Type 0 where
  goes_on : (told_session table master out.form saved_only keys told).stop ≡ goes
  free : IsFree out.file (files_after told.files (told_session table master out.form saved_only keys told).asked)
  saved : IsSavedWithin table master out.file out.form (told_session table master out.form saved_only keys told).keys (told_session table master out.form saved_only keys told).random

held : (table : Table) (master : Option Keys) (keys : Keys) (out : KeysetFile) (saved_only : Bool) (told : Told) → IsDoneAnswer (answer (exchanges (saving_session table master out.form saved_only keys) (saves table master out)) told) → Held table master keys out saved_only told
held table master keys out saved_only told done = by x.stop refl done
  where
    x : Talk
    x = told_session table master out.form saved_only keys told

    left : Told
    left = record told { files = files_after told.files x.asked; input = []; random = x.random }

    by : (stop : Stop) → x.stop ≡ stop → IsDoneAnswer (stands table master keys out saved_only told stop) → Held table master keys out saved_only told
    by goes is done = record { goes_on = is; free = saved_free table master out.file out.form x.keys left done; saved = saved_within table master out.file out.form x.keys left done }
    by wants is done = absurd (cc)
    by (passes long_line) is done = absurd (cc)
    by (passes many_lines) is done = absurd (cc)

abbrev session_behind : Table → List ℕ → Format → KeysetFile → (saved_only : Bool) → Option Keys → Plan
session_behind table name form out saved_only master = takes_under origins.Keyset table master (record { file = Some name; form = form }) (holds_session table master out saved_only)

pub session_is : (table : Table) (lock : Lock) (name : List ℕ) (form : Format) (out : KeysetFile) (saved_only : Bool) (told : Told) → IsDoneAnswer (answer (command_plan table (session lock name form out saved_only)) told) → SessionGoes table lock name form out saved_only told
session_is table lock name form out saved_only told is =
    let place : KeysetFile = record { file = Some name; form = form } in
    let o = lock_there table lock (session_behind table name form out saved_only) told is in
    let master = o.0 in
    let opened = lock_reached table lock master (session_behind table name form out saved_only) told o.1 in
    let d : IsDoneAnswer (answer (session_behind table name form out saved_only master) told) = ap (λ (a : Answer). a.status) (sym opened) ∙ is in
    let k = takes_there origins.Keyset table master place (holds_session table master out saved_only) told d in
    let keys = k.0 in
    let loaded = takes_reached origins.Keyset table master place keys (holds_session table master out saved_only) told k.1 in
    let whole : IsDoneAnswer (answer (holds_session table master out saved_only keys) told) = ap (λ (a : Answer). a.status) (sym loaded) ∙ d in
    let free = free_done out.file (λ free. exchanges (saving_session table master out.form saved_only keys) (saves table master out)) told whole in
    let h = held table master keys out saved_only told (ap (λ (a : Answer). a.status) (sym free) ∙ whole) in
    record {
      master = master;
      opens = o.1;
      keys = keys;
      lies = k.1;
      goes_on = h.goes_on;
      free = h.free;
      saved = h.saved;
    }

-- behind the lock, the keyset and a name that is free
pub session_reached : (table : Table) (lock : Lock) (name : List ℕ) (form : Format) (out : KeysetFile) (saved_only : Bool) (told : Told) (master : Option Keys) (keys : Keys) → OpensLock table lock told master → LiesThere table master (record { file = Some name; form = form }) told keys → IsFree out.file told.files
    → answer (command_plan table (session lock name form out saved_only)) told ≡ stands table master keys out saved_only told (told_session table master out.form saved_only keys told).stop
session_reached table lock name form out saved_only told master keys opens lies free =
    lock_reached table lock master (session_behind table name form out saved_only) told opens
    ∙ takes_reached origins.Keyset table master (record { file = Some name; form = form }) keys (holds_session table master out saved_only) told lies
    ∙ look_reached out.file (λ free. exchanges (saving_session table master out.form saved_only keys) (saves table master out)) told free

pub session_answers : (table : Table) (lock : Lock) (name : List ℕ) (form : Format) (out : KeysetFile) (saved_only : Bool) (told : Told) (x : SessionGoes table lock name form out saved_only told) → answer (command_plan table (session lock name form out saved_only)) told ≡ stands table x.master x.keys out saved_only told goes
session_answers table lock name form out saved_only told x =
    session_reached table lock name form out saved_only told x.master x.keys x.opens x.lies (free_first out.file told.files (told_session table x.master out.form saved_only x.keys told).asked x.free)
    ∙ ap (stands table x.master x.keys out saved_only told) x.goes_on

session_comes : (table : Table) (lock : Lock) (name : List ℕ) (form : Format) (out : KeysetFile) (saved_only : Bool) (told : Told) → SessionGoes table lock name form out saved_only told → IsDoneAnswer (answer (command_plan table (session lock name form out saved_only)) told)
session_comes table lock name form out saved_only told x =
    let t = told_session table x.master out.form saved_only x.keys told in
    ap (λ (a : Answer). a.status) (session_answers table lock name form out saved_only told x)
    ∙ save_reached table x.master out.file out.form t.keys (record told { files = files_after told.files t.asked; input = []; random = t.random }) x.saved x.free

pub sessions_done : SessionsDone
sessions_done table lock name form out saved_only told = (session_is table lock name form out saved_only told, session_comes table lock name form out saved_only told)
