-- Each line counts once.
use Rattle.std.proofs.Common.{◌≡◌, ap, ℕ, zero, suc, ◌+◌, ◌<◌, ◌≤◌, ◌^◌, ◌-◌, Bool, true, false, List, Option, Some, None, Result, Ok, Err, arith}
use Rattle.keyset_model.specs.Keyset.{Keys}
use Rattle.managers.specs.Table.{Table}
use Rattle.tinkey_cmds.specs.Edits.{Stepped, first}
use Rattle.tinkey_cmds.specs.declared.command.EditRefusal.{EditRefusal}
use Rattle.tinkey_selftest.specs.Laws.{CountsAddUp}
use Rattle.tinkey_selftest.specs.Numbers.{random_bytes, words_of}
use Rattle.tinkey_selftest.specs.Ready.{HasRoom}
use Rattle.tinkey_selftest.specs.Trial.{Task, Seals, Opens, Edits, Trial, after_line, after_lines, counted, counts_from, counts_over, first_row, has_key, line_of_task, one_refused, random_size, start, task_of, total}
use Rattle.tinkey_selftest.specs.declared.counts.Counts.{Counts}
use Rattle.tinkey_session.specs.Serving.{Served, serve}
use Rattle.tinkey_session.specs.declared.reply.Reply.{Reply}
use Rattle.tinkey_session.specs.declared.reply.Reply.TheVariants.{Done, Gives, NewId, Refuses}

counted_once : (keys : Keys) (task : Task) (reply : Reply) (n : Counts) → total (counted keys task reply n) ≡ suc (total n)
counted_once keys (Seals plain ad) Done n = omega arith
counted_once keys (Seals plain ad) (Gives bytes) n = omega arith
counted_once keys (Seals plain ad) (NewId id) n = omega arith
counted_once keys (Seals plain ad) (Refuses why) n = omega arith
counted_once keys (Opens sealing) Done n = omega arith
counted_once keys (Opens sealing) (Gives bytes) n = omega arith
counted_once keys (Opens sealing) (NewId id) n = omega arith
counted_once keys (Opens sealing) (Refuses why) n = omega arith
counted_once keys (Edits line) Done n = omega arith
counted_once keys (Edits line) (Gives bytes) n = omega arith
counted_once keys (Edits line) (NewId id) n = omega arith
counted_once keys (Edits line) (Refuses why) n = omega arith

line_counted : (trial : Trial) (task : Task) (served : Option Served) → total (after_line trial task served).counts ≡ suc (total trial.counts)
line_counted trial task None = omega arith
line_counted trial task (Some x) = counted_once trial.keys task x.reply trial.counts

lines_counted : (table : Table) (seed : ℕ) (trial : Trial) (lines : ℕ) → total (after_lines table seed trial lines).counts ≡ total trial.counts + lines
unfolding after_lines
lines_counted table seed trial zero = omega arith
lines_counted table seed trial (suc k) =
    let before = after_lines table seed trial k in
    let task = task_of (words_of seed k) before in
    let one = line_counted before task (serve table before.keys (line_of_task task) before.left) in
    let rest = lines_counted table seed trial k in
    omega (arith, one, rest)

same_Ok : (a b : Counts) → ◌≡◌ {A = Result Counts EditRefusal} (Ok a) (Ok b) → a ≡ b
same_Ok a b e = cc

answer_adds_up : (table : Table) (seed lines : ℕ) (answer : Result Keys EditRefusal) (left : List ℕ) (n : Counts) → counts_from table seed lines answer left ≡ Ok n → total n ≡ lines
answer_adds_up table seed lines (Ok keys) left n e =
    let all = lines_counted table seed (start keys left) lines in
    let same = ap total (same_Ok _ n e) in
    omega (arith, all, same)
answer_adds_up table seed lines (Err fault) left n e = absurd cc

first_adds_up : (table : Table) (seed lines : ℕ) (made : Option Stepped) (n : Counts) → counts_over table seed lines made ≡ Ok n → total n ≡ lines
first_adds_up table seed lines None n e = absurd cc
first_adds_up table seed lines (Some s) n e = answer_adds_up table seed lines s.answer s.left n e

pub counts_add_up : CountsAddUp
counts_add_up table seed lines n e = first_adds_up table seed lines (first first_row (random_bytes seed (random_size lines))) n e

-- ---- room for one more

refused_more : (there : Bool) (n : Counts) → n.lost ≤ n.refused → (one_refused there n).lost ≤ (one_refused there n).refused
refused_more true n le = omega (arith, le)
refused_more false n le = omega (arith, le)

lost_within : (keys : Keys) (task : Task) (reply : Reply) (n : Counts) → n.lost ≤ n.refused → (counted keys task reply n).lost ≤ (counted keys task reply n).refused
lost_within keys (Seals plain ad) Done n le = le
lost_within keys (Seals plain ad) (Gives bytes) n le = le
lost_within keys (Seals plain ad) (NewId id) n le = le
lost_within keys (Seals plain ad) (Refuses why) n le = le
lost_within keys (Opens sealing) Done n le = refused_more (has_key sealing.sealer keys) n le
lost_within keys (Opens sealing) (Gives bytes) n le = le
lost_within keys (Opens sealing) (NewId id) n le = refused_more (has_key sealing.sealer keys) n le
lost_within keys (Opens sealing) (Refuses why) n le = refused_more (has_key sealing.sealer keys) n le
lost_within keys (Edits line) Done n le = le
lost_within keys (Edits line) (Gives bytes) n le = le
lost_within keys (Edits line) (NewId id) n le = le
lost_within keys (Edits line) (Refuses why) n le = le

line_within : (trial : Trial) (task : Task) (served : Option Served) → trial.counts.lost ≤ trial.counts.refused → (after_line trial task served).counts.lost ≤ (after_line trial task served).counts.refused
line_within trial task None le = le
line_within trial task (Some x) le = lost_within trial.keys task x.reply trial.counts le

lines_within : (table : Table) (seed : ℕ) (trial : Trial) (lines : ℕ) → trial.counts.lost ≤ trial.counts.refused → (after_lines table seed trial lines).counts.lost ≤ (after_lines table seed trial lines).counts.refused
unfolding after_lines
lines_within table seed trial zero le = le
lines_within table seed trial (suc k) le =
    let before = after_lines table seed trial k in
    let task = task_of (words_of seed k) before in
    line_within before task (serve table before.keys (line_of_task task) before.left) (lines_within table seed trial k le)

pub has_room : (table : Table) (seed : ℕ) (keys : Keys) (left : List ℕ) (lines : ℕ) → lines < 2 ^ 32 - 1 → HasRoom (after_lines table seed (start keys left) lines).counts
has_room table seed keys left lines few =
    let all = lines_counted table seed (start keys left) lines in
    record { lines = omega (arith, all, few); lost = lines_within table seed (start keys left) lines (omega arith) }
