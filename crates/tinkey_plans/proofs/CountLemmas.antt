-- What a self-test tells, and its only refusal behind the words.
use Rattle.std.proofs.Common.{arith, ◌≡◌, ◌∙◌, refl, sym, ap, subst, inl, inr, ℕ, zero, suc, ◌+◌, ◌*◌, ◌<◌, ◌==◌, Bool, true, false, cond, ltb, List, [], length, take, drop, Option, Some, None, Result, Ok, Err}
use Rattle.std.specs.Prelude.{◌||◌}
use Rattle.std.proofs.lemmas.Bool.{eqb-true}
use Rattle.std.proofs.lemmas.List.{drop-drop}
use Rattle.std.proofs.lemmas.Option.{same_Some}
use Rattle.managers.specs.Table.{Table}
use Rattle.key_msgs.specs.Templates.{Row, random_of}
use Rattle.keyset_model.specs.Keyset.{Keys}
use Rattle.keyset_model.specs.declared.record.Record.{Record}
use Rattle.tinkey_cmds.specs.Draws.{Drawn, Draw, answered, fill, unless_err, and_then}
use Rattle.tinkey_cmds.specs.Edits.{Stepped, alone, first, id_of, is_taken, new_id, record_of, with_key}
use Rattle.tinkey_cmds.specs.declared.command.EditRefusal.{EditRefusal}
use Rattle.tinkey_cmds.specs.declared.command.EditRefusal.TheVariants.{IdsExhausted}
use Rattle.tinkey_session.proofs.Options.{no_truth}
use Rattle.tinkey_session.specs.declared.reply.Refusal.TheVariants.{Command}
use Rattle.tinkey_selftest.specs.Laws.{CountsAddUp, EntropySuffices, NothingIsLost}
use Rattle.tinkey_selftest.specs.Numbers.{random_bytes}
use Rattle.tinkey_selftest.specs.Telling.{counts_text}
use Rattle.tinkey_selftest.specs.Trial.{counts_from, counts_over, first_row, random_size}
use Rattle.tinkey_selftest.specs.Trial as trial
use Rattle.tinkey_selftest.specs.declared.counts.Counts.{Counts}
use Rattle.tinkey_plans.specs.declared.status.Status.TheVariants as status
use Rattle.tinkey_plans.specs.Commands.{asked_plan}
use Rattle.tinkey_plans.specs.Ends.{Ends, wrote, write_failed}
use Rattle.tinkey_plans.specs.Laws.{HasNoId, HasTested, SelfTestRuns, SelfTestsTell, TellsLines, TellsOrRefuses, tested, cut_short, refused, starved}
use Rattle.tinkey_plans.specs.Plan.{answer, writes}
use Rattle.tinkey_plans.specs.SelfTesting.{tells_counts}

-- ---- the refusal of a first keyset

-- the only refusal is that no draw gave an id
abbrev IsExhausted : {A : Type 0} → Result A EditRefusal → Type 0
IsExhausted (Ok value) = Unit {0}
IsExhausted (Err fault) = fault ≡ IdsExhausted

abbrev OnlyExhausted : {A : Type 0} → Option (Drawn A) → Type 0
OnlyExhausted None = Unit {0}
OnlyExhausted (Some drawn) = IsExhausted drawn.answer

only-next : {A B : Type 0} (answer : Result A EditRefusal) (left : List ℕ) (next : A → Draw B) → IsExhausted answer → ((x : A) (random : List ℕ) → OnlyExhausted (next x random)) → OnlyExhausted (unless_err answer left next)
only-next (Ok x) left next is each = each x left
only-next (Err fault) left next is each = is

only-then : {A B : Type 0} (o : Option (Drawn A)) (next : A → Draw B) → OnlyExhausted o → ((x : A) (random : List ℕ) → OnlyExhausted (next x random)) → OnlyExhausted (and_then o next)
only-then None next is each = tt
only-then (Some drawn) next is each = only-next drawn.answer drawn.left next is each

only-fill : (count : ℕ) (random : List ℕ) → OnlyExhausted (fill count random)
only-fill count random = elim (ltb (length random) count) as (λ b. OnlyExhausted (cond b None (Some (record { answer = Ok (take count random); left = drop count random })))) [
  | true ↦ tt
  | false ↦ tt
]

only-new_id : (tries : ℕ) (records : List Record) (random : List ℕ) → OnlyExhausted (new_id tries records random)
unfolding new_id
only-new_id zero records random = refl
only-new_id (suc tries) records random = only-then (fill 4 random) (λ group left. cond (is_taken records (id_of group)) (new_id tries records left) (answered (Ok (id_of group)) left)) (only-fill 4 random) (λ group left.
    elim (is_taken records (id_of group)) as (λ b. OnlyExhausted (cond b (new_id tries records left) (answered (Ok (id_of group)) left))) [
      | true ↦ only-new_id tries records left
      | false ↦ tt
    ])

only-first : (row : Row) (random : List ℕ) → OnlyExhausted (first row random)
only-first row random =
    only-then (and_then (new_id 64 [] random) (with_key row)) _
    (only-then (new_id 64 [] random) (with_key row) (only-new_id 64 [] random) (λ id left. only-then (fill (random_of row) left) _ (only-fill (random_of row) left) (λ key rest. tt)))
    (λ r left. tt)

-- ---- where it comes

-- it is refused where this is so, and only there
abbrev IsRefusedWhere : {A : Type 0} → Type 0 → Result A EditRefusal → Type 0
IsRefusedWhere Cause (Ok value) = Cause → ⊥
IsRefusedWhere Cause (Err fault) = Cause

-- each of the first groups of four bytes, so many, is the number 0
abbrev AreZero : (tries : ℕ) → List ℕ → Type 0
AreZero tries random = (i : ℕ) → i < tries → id_of (take 4 (drop (4 * i) random)) ≡ 0

zero_taken : (id : ℕ) → is_taken [] id ≡ true → id ≡ 0
zero_taken id taken = by (id == 0) refl taken
  where
    by : (b : Bool) → (id == 0) ≡ b → (b || false) ≡ true → id ≡ 0
    by true is e = eqb-true id 0 is
    by false is e = no_truth e

free_some : (id : ℕ) → is_taken [] id ≡ false → id ≡ 0 → ⊥
free_some id free is = let clash : true ≡ false = subst (λ x. is_taken [] x ≡ false) is free in cc

later_group : (random : List ℕ) (i : ℕ) → id_of (take 4 (drop (4 * suc i) random)) ≡ id_of (take 4 (drop (4 * i) (drop 4 random)))
later_group random i =
    let place : 4 * suc i ≡ 4 + 4 * i = omega arith in
    ap (λ n. id_of (take 4 (drop n random))) place ∙ ap (λ (l : List ℕ). id_of (take 4 l)) (sym (drop-drop (4 * i) 4 random))

-- a group that is 0 is passed
one_more : {A : Type 0} (tries : ℕ) (random : List ℕ) (r : Result A EditRefusal) → id_of (take 4 random) ≡ 0 → IsRefusedWhere (AreZero tries (drop 4 random)) r → IsRefusedWhere (AreZero (suc tries) random) r
one_more tries random (Ok value) first some = λ all. some (λ i below. sym (later_group random i) ∙ all (suc i) (omega (arith, below)))
one_more tries random (Err fault) first zeros = each
  where
    each : (i : ℕ) → i < suc tries → id_of (take 4 (drop (4 * i) random)) ≡ 0
    each zero below = first
    each (suc i) below = later_group random i ∙ zeros i (omega (arith, below))

id_where : (tries : ℕ) (random : List ℕ) (drawn : Drawn ℕ) → new_id tries [] random ≡ Some drawn → IsRefusedWhere (AreZero tries random) drawn.answer
unfolding new_id
id_where zero random drawn e = subst (λ (x : Drawn ℕ). IsRefusedWhere (AreZero 0 random) x.answer) (same_Some _ _ e) (λ i below. absurd (omega (arith, below)))
id_where (suc tries) random drawn e = by_length (ltb (length random) 4) (λ later. id_where tries (drop 4 random) drawn later) e
  where
    id : ℕ
    id = id_of (take 4 random)

    Later : Type 0
    Later = new_id tries [] (drop 4 random) ≡ Some drawn → IsRefusedWhere (AreZero tries (drop 4 random)) drawn.answer

    by_taken : (b : Bool) → is_taken [] id ≡ b → Later → cond b (new_id tries [] (drop 4 random)) (answered (Ok id) (drop 4 random)) ≡ Some drawn → IsRefusedWhere (AreZero (suc tries) random) drawn.answer
    by_taken true taken later e = one_more tries random drawn.answer (zero_taken id taken) (later e)
    by_taken false free later e = subst (λ (x : Drawn ℕ). IsRefusedWhere (AreZero (suc tries) random) x.answer) (same_Some _ _ e) (λ all. free_some id free (all 0 (omega arith)))

    by_length : (b : Bool) → Later → and_then (cond b None (Some (record { answer = Ok (take 4 random); left = drop 4 random }))) (λ group left. cond (is_taken [] (id_of group)) (new_id tries [] left) (answered (Ok (id_of group)) left)) ≡ Some drawn
        → IsRefusedWhere (AreZero (suc tries) random) drawn.answer
    by_length true later e = absurd (cc)
    by_length false later e = by_taken (is_taken [] id) refl later e

-- a step behind it that refuses nothing leaves it so
then_where : {A B : Type 0} (Cause : Type 0) (o : Option (Drawn A)) (next : A → Draw B) (drawn : Drawn B) → ((x : Drawn A) → o ≡ Some x → IsRefusedWhere Cause x.answer)
    → ((x : A) (random : List ℕ) (y : Drawn B) → next x random ≡ Some y → (value : B) × (y.answer ≡ Ok value)) → and_then o next ≡ Some drawn → IsRefusedWhere Cause drawn.answer
then_where Cause None next drawn first goes e = absurd (cc)
then_where {A} {B} Cause (Some x) next drawn first goes e = by x.answer (first x refl) e
  where
    by : (r : Result A EditRefusal) → IsRefusedWhere Cause r → unless_err r x.left next ≡ Some drawn → IsRefusedWhere Cause drawn.answer
    by (Ok value) some e = let y = goes value x.left drawn e in subst (λ (r : Result B EditRefusal). IsRefusedWhere Cause r) (sym y.1) some
    by (Err fault) is e = subst (λ (y : Drawn B). IsRefusedWhere Cause y.answer) (same_Some _ _ e) is

key_goes : (row : Row) (id : ℕ) (random : List ℕ) (drawn : Drawn Record) → with_key row id random ≡ Some drawn → (r : Record) × (drawn.answer ≡ Ok r)
key_goes row id random drawn e = by (ltb (length random) (random_of row)) e
  where
    by : (b : Bool) → and_then (cond b None (Some (record { answer = Ok (take (random_of row) random); left = drop (random_of row) random }))) (λ key left. answered (Ok (record_of row id key)) left) ≡ Some drawn → (r : Record) × (drawn.answer ≡ Ok r)
    by true e = absurd (cc)
    by false e = (record_of row id (take (random_of row) random), sym (ap (λ (x : Drawn Record). x.answer) (same_Some _ _ e)))

first_where : (row : Row) (random : List ℕ) (s : Stepped) → first row random ≡ Some s → IsRefusedWhere (AreZero 64 random) s.answer
first_where row random s e = then_where (AreZero 64 random) (and_then (new_id 64 [] random) (with_key row)) (λ r left. answered (Ok (alone r)) left) s
    (λ x is. then_where (AreZero 64 random) (new_id 64 [] random) (with_key row) x (id_where 64 random) (key_goes row) is)
    (λ r left y is. (alone r, sym (ap (λ (x : Stepped). x.answer) (same_Some _ _ is))))
    e

from_where : (Cause : Type 0) (table : Table) (seed lines : ℕ) (answer : Result Keys EditRefusal) (left : List ℕ) → IsRefusedWhere Cause answer → IsRefusedWhere Cause (counts_from table seed lines answer left)
from_where Cause table seed lines (Ok keys) left some = some
from_where Cause table seed lines (Err fault) left is = is

refused_where : EntropySuffices → (table : Table) (seed lines : ℕ) → IsRefusedWhere (HasNoId seed lines) (trial.self_test table seed lines)
refused_where suffices table seed lines =
    let s = suffices table seed lines in
    subst (λ (o : Option Stepped). IsRefusedWhere (HasNoId seed lines) (counts_over table seed lines o)) (sym s.1)
    (from_where (HasNoId seed lines) table seed lines s.0.answer s.0.left (first_where first_row (random_bytes seed (random_size lines)) s.0 s.1))

-- ---- what is counted

only-from : (table : Table) (seed lines : ℕ) (answer : Result Keys EditRefusal) (left : List ℕ) → IsExhausted answer → IsExhausted (counts_from table seed lines answer left)
only-from table seed lines (Ok keys) left is = tt
only-from table seed lines (Err fault) left is = is

only-over : (table : Table) (seed lines : ℕ) (o : Option Stepped) → OnlyExhausted o → IsExhausted (counts_over table seed lines o)
only-over table seed lines None is = refl
only-over table seed lines (Some s) is = only-from table seed lines s.answer s.left is

only_exhausted : (table : Table) (seed lines : ℕ) → IsExhausted (trial.self_test table seed lines)
only_exhausted table seed lines = only-over table seed lines (first first_row (random_bytes seed (random_size lines))) (only-first first_row (random_bytes seed (random_size lines)))

tells : CountsAddUp → NothingIsLost → (table : Table) (seed lines : ℕ) (n : Counts) → trial.self_test table seed lines ≡ Ok n → TellsLines table lines (counts_text lines n)
tells adds lost table seed lines n is = record {
  n = n;
  text = refl;
  add_up = adds table seed lines n is;
  none_lost = λ standard. lost seed lines n (subst (λ (t : Table). trial.self_test t seed lines ≡ Ok n) standard is);
}

pub self_tests_tell : CountsAddUp → NothingIsLost → EntropySuffices → SelfTestsTell
self_tests_tell adds lost suffices table seed lines told = by (trial.self_test table seed lines) refl (only_exhausted table seed lines) (refused_where suffices table seed lines)
  where
    by : (r : Result Counts EditRefusal) → trial.self_test table seed lines ≡ r → IsExhausted r → IsRefusedWhere (HasNoId seed lines) r → TellsOrRefuses table seed lines (answer (tells_counts lines r writes) told)
    by (Ok n) is only some = inl (some, refl, tells adds lost table seed lines n is)
    by (Err fault) is only none = inr (none, ap (λ (f : EditRefusal). status.Refused (Command f)) only, refl)

pub self_test_runs : CountsAddUp → NothingIsLost → EntropySuffices → SelfTestRuns
self_test_runs adds lost suffices table words seed lines old s new is run = by (trial.self_test table seed lines) refl (only_exhausted table seed lines) (refused_where suffices table seed lines) (subst (λ p. Ends p old s new) (ap (λ r. asked_plan table r words) is) run)
  where
    by : (r : Result Counts EditRefusal) → trial.self_test table seed lines ≡ r → IsExhausted r → IsRefusedWhere (HasNoId seed lines) r → Ends (tells_counts lines r writes) old s new → HasTested table seed lines old s new
    by r is only at (inr (e, same)) = starved e same
    by (Ok n) is only some (inl (wrote e keep stood took)) = tested (counts_text lines n) e (tells adds lost table seed lines n is) took
    by (Ok n) is only some (inl (write_failed e keep rose front)) = cut_short (counts_text lines n) e (tells adds lost table seed lines n is) front
    by (Err fault) is only none (inl (e, same)) = refused none (e ∙ ap (λ (f : EditRefusal). status.Refused (Command f)) only) same
