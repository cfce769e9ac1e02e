-- The random bytes suffice for the first keyset and for each line.
use Rattle.std.proofs.Common.{◌≡◌, refl, sym, subst, ℕ, zero, suc, ◌+◌, ◌*◌, ◌/◌, ◌-◌, ◌≤◌, length, Some, arith}
use Rattle.std.specs.Int.{w32, to_le_bytes}
use Rattle.std.proofs.lemmas.List.{length-append, length-take-le}
use Rattle.managers.specs.Table.{Table}
use Rattle.rand_chacha.specs.ChaCha.{ChaCha, next_word, of_seed}
use Rattle.rand_core.specs.Steps.{word_bytes}
use Rattle.tinkey_cmds.specs.Laws.{IsTemplate}
use Rattle.tinkey_selftest.specs.Laws.{EntropySuffices}
use Rattle.tinkey_selftest.specs.Numbers.{double_rounds, random_bytes, seed_bytes, words_of}
use Rattle.tinkey_selftest.specs.Trial.{Task, Trial, after_line, after_lines, first_row, line_of_task, random_size, start, task_done, task_of}
use Rattle.tinkey_session.proofs.TurnLemmas.{serve_edits}
use Rattle.tinkey_session.specs.Laws.{EditedIsKeyset, FirstsAreSound}
use Rattle.tinkey_session.specs.LineLaws.{FirstsDrawFew, LinesDrawFew}
use Rattle.tinkey_session.specs.Serving.{Served, serve}
use Rattle.wrapped_prims.specs.Laws.{IsKeyset}

-- ---- the bytes of the second generator

length-words : (step : ChaCha → ℕ × ChaCha) (k : ℕ) (s : ChaCha) → length (word_bytes (to_le_bytes w32) step k s).0 ≡ 4 * k
unfolding word_bytes
length-words step zero s = refl
length-words step (suc k) s =
    let before = word_bytes (to_le_bytes w32) step k s in
    let both = length-append before.0 (to_le_bytes w32 (step before.1).0) in
    let rest = length-words step k s in
    omega (arith, both, rest)

pub length-random : (seed lines : ℕ) → length (random_bytes seed (random_size lines)) ≡ random_size lines
length-random seed lines =
    let all = length-words (next_word double_rounds) ((random_size lines + 3) / 4) (of_seed (seed_bytes seed 1)) in
    length-take-le (random_size lines) _ (omega (arith, all))

pub first_is_template : IsTemplate first_row
first_is_template = (0, omega arith, refl)

-- ---- each line

-- the keyset of a trial is one, and there are random bytes for so many lines more
pub record HasEnough (trial : Trial) (lines : ℕ) : Type 0 where
  pub keyset : IsKeyset trial.keys
  pub enough : 320 * lines ≤ length trial.left

pub served_enough : LinesDrawFew → (table : Table) (trial : Trial) (task : Task) (lines : ℕ) → HasEnough trial (suc lines)
    → (x : Served) × (serve table trial.keys (line_of_task task) trial.left ≡ Some x) × (length trial.left ≤ length x.left + 320)
served_enough few table trial task lines has =
    let enough = has.enough in
    few table trial.keys (line_of_task task) trial.left has.keyset.faultless (omega (arith, enough))

task_enough : LinesDrawFew → EditedIsKeyset → (table : Table) (trial : Trial) (task : Task) (lines : ℕ) → HasEnough trial (suc lines) → HasEnough (task_done table trial task) lines
task_enough few kept table trial task lines has =
    let there = served_enough few table trial task lines has in
    let x = there.0 in
    let enough = has.enough in
    let drawn = there.2 in
    subst (λ o. HasEnough (after_line trial task o) lines) (sym there.1) (record {
      keyset = kept trial.keys x.keys (serve_edits table trial.keys (line_of_task task) trial.left x there.1) has.keyset;
      enough = omega (arith, enough, drawn);
    })

pub lines_enough : LinesDrawFew → EditedIsKeyset → (table : Table) (seed : ℕ) (trial : Trial) (k more : ℕ) → HasEnough trial (k + more) → HasEnough (after_lines table seed trial k) more
unfolding after_lines
lines_enough few kept table seed trial zero more has = record { keyset = has.keyset; enough = (let enough = has.enough in omega (arith, enough)) }
lines_enough few kept table seed trial (suc k) more has =
    let enough = has.enough in
    let before = lines_enough few kept table seed trial k (suc more) (record { keyset = has.keyset; enough = omega (arith, enough) }) in
    task_enough few kept table (after_lines table seed trial k) (task_of (words_of seed k) (after_lines table seed trial k)) more before

pub entropy_suffices : LinesDrawFew → FirstsDrawFew → EditedIsKeyset → FirstsAreSound → EntropySuffices
entropy_suffices few firsts kept sound table seed lines =
    let size = length-random seed lines in
    let made = firsts first_row (random_bytes seed (random_size lines)) first_is_template (omega (arith, size)) in
    let s = made.0 in
    let drawn = made.2 in (
      s,
      made.1,
      λ keys k is below.
          let has : HasEnough (start keys s.left) (k + suc (lines - suc k)) = record {
            keyset = (sound keys first_row _ s first_is_template made.1 is).keyset;
            enough = omega (arith, size, drawn, below);
          } in
          let before = lines_enough few kept table seed (start keys s.left) k (suc (lines - suc k)) has in
          let trial = after_lines table seed (start keys s.left) k in
          let there = served_enough few table trial (task_of (words_of seed k) trial) (lines - suc k) before in
          (there.0, there.1),
    )
