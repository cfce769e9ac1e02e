-- Passes over a stream, whose output goes to standard output, or into a new file.
use Rattle.std.proofs.Common.{arith, ◌≡◌, ◌∙◌, sym, refl, ap, ℕ, ◌≤◌, Bool, true, false, List, [], length, take, drop, Option, Some, None, Ok}
use Rattle.std.specs.Prelude.{if◌then◌else◌, nat_lt}
use Rattle.std.specs.FinMap as map
use Rattle.std.proofs.lemmas.Bool.Decides.{nat_tests}
use Rattle.segment_stream.specs.Opening.{StreamRefusal, failed, too_many}
use Rattle.segment_stream.specs.Pumping.{Part}
use Rattle.tinkey_cmds.specs.Draws.{Drawn, fill}
use Rattle.tinkey_plans.specs.declared.status.Status.TheVariants as status
use Rattle.tinkey_plans.specs.Plan.{Answer, Plan, Told, allocates, answer, collect_answer, draw_answer, draws, look_answer, pump_answer, refused, sealings}
use Rattle.tinkey_plans.specs.Steps.{puts, with_made}
use Rattle.tinkey_plans.specs.Streaming.{begins_file, passes_to}
use Rattle.tinkey_readable.proofs.ReachLemmas.{IsDoneAnswer, bytes_put, bytes_reached}
use Rattle.tinkey_readable.specs.Runs.{IsFree, bytes_at}

-- ---- a pass

-- what is left of the objects behind a pass
abbrev behind_pass : Told → Told
behind_pass told = record told { input = [] }

-- the answer of a pass that isn't refused
abbrev pub passed : (out : Option (List ℕ)) → Part → Told → Answer
passed None part told = pump_answer part told None
passed (Some name) part told = answer (puts (Some name) (part.output told.input true)) (behind_pass told)

-- the output was put where it goes
abbrev pub IsPutAt : (out : Option (List ℕ)) → Answer → List ℕ → Type 0
IsPutAt out a bytes = bytes_at out a.files a.output ≡ Some bytes

pub passes_where : (out : Option (List ℕ)) (part : Part) (told : Told) → IsDoneAnswer (answer (passes_to out part) told) → part.refusal told.input true ≡ None
passes_where None part told done = by (part.refusal told.input true) done
  where
    by : (o : Option StreamRefusal) → IsDoneAnswer (pump_answer part told o) → o ≡ None
    by None done = refl
    by (Some too_many) done = absurd (cc)
    by (Some (failed number)) done = absurd (cc)
passes_where (Some name) part told done = by (part.refusal told.input true) done
  where
    by : (o : Option StreamRefusal) → IsDoneAnswer (collect_answer o told (passed (Some name) part told)) → o ≡ None
    by None done = refl
    by (Some too_many) done = absurd (cc)
    by (Some (failed number)) done = absurd (cc)

pub passes_reached : (out : Option (List ℕ)) (part : Part) (told : Told) → part.refusal told.input true ≡ None → answer (passes_to out part) told ≡ passed out part told
passes_reached None part told none = ap (pump_answer part told) none
passes_reached (Some name) part told none = ap (λ o. collect_answer o told (passed (Some name) part told)) none

-- where it was Done, its output was put there
pub passes_put : (out : Option (List ℕ)) (part : Part) (told : Told) → IsDoneAnswer (answer (passes_to out part) told) → IsPutAt out (answer (passes_to out part) told) (part.output told.input true)
passes_put None part told done = ap (λ o. bytes_at None (pump_answer part told o).files (pump_answer part told o).output) (passes_where None part told done)
passes_put (Some name) part told done =
    let e = passes_reached (Some name) part told (passes_where (Some name) part told done) in
    let done' : IsDoneAnswer (passed (Some name) part told) = ap (λ (a : Answer). a.status) (sym e) ∙ done in
    ap (λ (a : Answer). bytes_at (Some name) a.files a.output) e ∙ bytes_put (Some name) (part.output told.input true) (behind_pass told) done'

-- where the name of a new file is free, it is Done
passed_done : (out : Option (List ℕ)) (part : Part) (told : Told) → IsFree out told.files → IsDoneAnswer (passed out part told)
passed_done None part told free = refl
passed_done (Some name) part told free = bytes_reached (Some name) (part.output told.input true) (behind_pass told) free

pub passes_done : (out : Option (List ℕ)) (part : Part) (told : Told) → part.refusal told.input true ≡ None → IsFree out told.files → IsDoneAnswer (answer (passes_to out part) told)
passes_done out part told none free = ap (λ (a : Answer). a.status) (passes_reached out part told none) ∙ passed_done out part told free

-- ---- a pass behind random bytes

-- so many random bytes are drawn for a pass
abbrev pub draws_pass : (n : ℕ) (part : List ℕ → Part) (out : Option (List ℕ)) → Plan
draws_pass n part out = allocates (draws sealings (fill n) (λ made. with_made made (λ random. passes_to out (part random))))

-- the objects behind them
abbrev pub behind_draw : ℕ → Told → Told
behind_draw n told = record told { random = drop n told.random }

-- the answer, by whether they are too few
abbrev drawn_so : (n : ℕ) (part : List ℕ → Part) (out : Option (List ℕ)) → Told → Bool → Answer
drawn_so n part out told b =
    draw_answer (if b then None else Some (record { answer = Ok (take n told.random); left = drop n told.random })) (refused told status.EntropyFault)
    (λ (d : Drawn (List ℕ)). answer (with_made d.answer (λ random. passes_to out (part random))) (record told { random = d.left }))

pub drawn_reached : (n : ℕ) (part : List ℕ → Part) (out : Option (List ℕ)) (told : Told) → n ≤ length told.random → answer (draws_pass n part out) told ≡ answer (passes_to out (part (take n told.random))) (behind_draw n told)
drawn_reached n part out told enough =
    let test : nat_lt (length told.random) n ≡ false = grind (arith, nat_tests, enough) in
    ap (drawn_so n part out told) test

pub drawn_enough : (n : ℕ) (part : List ℕ → Part) (out : Option (List ℕ)) (told : Told) → IsDoneAnswer (answer (draws_pass n part out) told) → n ≤ length told.random
drawn_enough n part out told done = by (nat_lt (length told.random) n) refl done
  where
    by : (b : Bool) → nat_lt (length told.random) n ≡ b → IsDoneAnswer (drawn_so n part out told b) → n ≤ length told.random
    by true short done = absurd (cc)
    by false long done = grind (arith, nat_tests, long)

-- ---- the name of a new file

pub begins_free : (out : Option (List ℕ)) (next : Plan) (told : Told) → IsDoneAnswer (answer (begins_file out next) told) → IsFree out told.files
begins_free None next told done = tt
begins_free (Some name) next told done = by (map.get told.files name) done
  where
    by : (found : Option (List ℕ)) → IsDoneAnswer (look_answer found (refused told status.OutExists) (answer next told)) → found ≡ None
    by None done = refl
    by (Some there) done = absurd (cc)

pub begins_reached : (out : Option (List ℕ)) (next : Plan) (told : Told) → IsFree out told.files → answer (begins_file out next) told ≡ answer next told
begins_reached None next told free = refl
begins_reached (Some name) next told free = ap (λ found. look_answer found (refused told status.OutExists) (answer next told)) free

-- ---- all of it

-- a pass that was Done, over so many random bytes
pub record WasPassed (n : ℕ) (part : List ℕ → Part) (out : Option (List ℕ)) (told : Told) (a : Answer) : Type 0 where
  pub free : IsFree out told.files
  pub enough : n ≤ length told.random
  pub none : (part (take n told.random)).refusal told.input true ≡ None
  pub put : IsPutAt out a ((part (take n told.random)).output told.input true)

pub was_passed : (n : ℕ) (part : List ℕ → Part) (out : Option (List ℕ)) (told : Told) → IsDoneAnswer (answer (begins_file out (draws_pass n part out)) told)
    → WasPassed n part out told (answer (begins_file out (draws_pass n part out)) told)
was_passed n part out told done =
    let free = begins_free out (draws_pass n part out) told done in
    let begun = begins_reached out (draws_pass n part out) told free in
    let done1 : IsDoneAnswer (answer (draws_pass n part out) told) = ap (λ (a : Answer). a.status) (sym begun) ∙ done in
    let enough = drawn_enough n part out told done1 in
    let drawn = drawn_reached n part out told enough in
    let done2 : IsDoneAnswer (answer (passes_to out (part (take n told.random))) (behind_draw n told)) = ap (λ (a : Answer). a.status) (sym drawn) ∙ done1 in
    record {
      free = free;
      enough = enough;
      none = passes_where out (part (take n told.random)) (behind_draw n told) done2;
      put = ap (λ (a : Answer). bytes_at out a.files a.output) (begun ∙ drawn) ∙ passes_put out (part (take n told.random)) (behind_draw n told) done2;
    }

pub pass_reached : (n : ℕ) (part : List ℕ → Part) (out : Option (List ℕ)) (told : Told) → IsFree out told.files → n ≤ length told.random → (part (take n told.random)).refusal told.input true ≡ None
    → answer (begins_file out (draws_pass n part out)) told ≡ passed out (part (take n told.random)) (behind_draw n told)
pass_reached n part out told free enough none =
    begins_reached out (draws_pass n part out) told free
    ∙ drawn_reached n part out told enough
    ∙ passes_reached out (part (take n told.random)) (behind_draw n told) none

pub pass_comes : (n : ℕ) (part : List ℕ → Part) (out : Option (List ℕ)) (told : Told) → IsFree out told.files → n ≤ length told.random → (part (take n told.random)).refusal told.input true ≡ None
    → IsDoneAnswer (answer (begins_file out (draws_pass n part out)) told)
pass_comes n part out told free enough none =
    ap (λ (a : Answer). a.status) (pass_reached n part out told free enough none)
    ∙ passed_done out (part (take n told.random)) (behind_draw n told) free
