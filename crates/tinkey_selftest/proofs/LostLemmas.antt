-- No open is refused whose key is still there.
use Rattle.std.proofs.Common.{◌≡◌, ◌∙◌, refl, sym, ap, subst, ℕ, zero, suc, Bool, true, false, List, [], ◌∷◌, Option, Some, None, Result, Ok, Err}
use Rattle.std.specs.Prelude.{slice_get, ◌%◌, ◌==◌, nat_lt, length, if◌then◌else◌}
use Rattle.std.specs.List.{AllByRecursion}
use Rattle.std.proofs.lemmas.Option.{same_Some}
use Rattle.keyset_model.specs.Keyset.{Keys, primary_of}
use Rattle.keyset_model.specs.declared.record.Record.{Record}
use Rattle.managers.specs.Standard.{standard_table}
use Rattle.tinkey_cmds.proofs.Lists.{each-append}
use Rattle.tinkey_cmds.specs.Edits.{Stepped, first}
use Rattle.tinkey_cmds.specs.declared.command.EditRefusal.{EditRefusal}
use Rattle.tinkey_selftest.proofs.EntropyLemmas.{first_is_template}
use Rattle.tinkey_selftest.proofs.KeyLemmas.{keys_are_found}
use Rattle.tinkey_selftest.specs.Laws.{NothingIsLost}
use Rattle.tinkey_selftest.specs.Numbers.{random_bytes, words_of}
use Rattle.tinkey_selftest.specs.declared.numbers.Words.{Words}
use Rattle.tinkey_selftest.specs.Trial.{Task, Seals, Opens, Edits, Trial, after_line, after_lines, change_line, counted, counts_from, counts_over, first_row, grow_line, has_key, line_of_task, one_refused, open_or_seal, open_task, random_size, seal_task, sealed_by, sealed_now, start, task_of}
use Rattle.tinkey_selftest.specs.declared.counts.Counts.{Counts}
use Rattle.tinkey_selftest.specs.declared.trial.Sealing.{Sealing}
use Rattle.tinkey_session.proofs.Options.{clash}
use Rattle.tinkey_session.proofs.TurnLemmas.{edited_on, serve_edits}
use Rattle.tinkey_session.specs.Laws.{EditedIsKeyset, FirstsAreSound, IsEdited}
use Rattle.tinkey_session.specs.LineLaws.{LinesOpenPresent}
use Rattle.tinkey_session.specs.Lines.{Seal, Open}
use Rattle.tinkey_session.specs.Serving.{Served, serve}
use Rattle.tinkey_session.specs.declared.reply.Reply.{Reply}
use Rattle.tinkey_session.specs.declared.reply.Reply.TheVariants.{Done, Gives, NewId, Refuses}
use Rattle.wrapped_prims.specs.Laws.{HasKey, IsKeyset}

-- ---- what was sealed

-- a keyset, of which the present one is made by edits, sealed these bytes with its primary key
record WasSealed (now : Keys) (sealing : Sealing) : Type 0 where
  old : Keys
  keyset : IsKeyset old
  edited : IsEdited old now
  primary : primary_of old ≡ Some sealing.sealer
  plain : List ℕ
  random : List ℕ
  served : Served
  is : serve standard_table old (Seal plain sealing.ad) random ≡ Some served
  gave : served.reply ≡ Gives sealing.bytes

sealed_still : (now later : Keys) (sealing : Sealing) → IsEdited now later → WasSealed now sealing → WasSealed later sealing
sealed_still now later sealing e w = record {
  old = w.old;
  keyset = w.keyset;
  edited = edited_on w.old now later w.edited e;
  primary = w.primary;
  plain = w.plain;
  random = w.random;
  served = w.served;
  is = w.is;
  gave = w.gave;
}

all_still : (now later : Keys) (sealings : List Sealing) → IsEdited now later → AllByRecursion (WasSealed now) sealings → AllByRecursion (WasSealed later) sealings
all_still now later [] e all = tt
all_still now later (s ∷ sealings) e all = (sealed_still now later s e all.0, all_still now later sealings e all.1)

sealed_there : (now : Keys) (sealings : List Sealing) (place : ℕ) (s : Sealing) → AllByRecursion (WasSealed now) sealings → slice_get sealings place ≡ Some s → WasSealed now s
sealed_there now [] place s all at = clash at
sealed_there now (x ∷ sealings) zero s all at = subst (WasSealed now) (same_Some _ _ at) all.0
sealed_there now (x ∷ sealings) (suc place) s all at = sealed_there now sealings place s all.1 at

-- an open by the key that sealed gives something
opens : LinesOpenPresent → (now : Keys) (s : Sealing) (left : List ℕ) (x : Served) → WasSealed now s → HasKey s.sealer now
    → serve standard_table now (Open s.bytes s.ad) left ≡ Some x → (other : List ℕ) × (x.reply ≡ Gives other)
opens law now s left x w has e = law w.old now s.sealer w.plain s.ad s.bytes w.random left w.served x w.keyset w.edited has w.primary w.is w.gave e

-- ---- one line

-- the keyset is one, what is kept was sealed, and nothing is lost
record IsGood (trial : Trial) : Type 0 where
  keyset : IsKeyset trial.keys
  sealings : AllByRecursion (WasSealed trial.keys) trial.sealings
  lost : trial.counts.lost ≡ 0

-- the open of a seal that was kept
IsKnown : Trial → Task → Type 0
IsKnown trial (Opens s) = WasSealed trial.keys s
IsKnown trial (Seals plain ad) = Unit {0}
IsKnown trial (Edits line) = Unit {0}

unlost : (keys : Keys) (s : Sealing) (n : Counts) (there : Bool) → has_key s.sealer keys ≡ there → (there ≡ true → ⊥) → (one_refused (has_key s.sealer keys) n).lost ≡ n.lost
unlost keys s n true t none = absurd (none refl)
unlost keys s n false t none = ap (λ b. (one_refused b n).lost) t

open_unlost : (keys : Keys) (s : Sealing) (reply : Reply) (n : Counts) → (has_key s.sealer keys ≡ true → (other : List ℕ) × (reply ≡ Gives other)) → (counted keys (Opens s) reply n).lost ≡ n.lost
open_unlost keys s (Gives plain) n h = refl
open_unlost keys s Done n h = unlost keys s n (has_key s.sealer keys) refl (λ t. let opened = h t in absurd cc)
open_unlost keys s (NewId id) n h = unlost keys s n (has_key s.sealer keys) refl (λ t. let opened = h t in absurd cc)
open_unlost keys s (Refuses why) n h = unlost keys s n (has_key s.sealer keys) refl (λ t. let opened = h t in absurd cc)

line_unlost : LinesOpenPresent → (trial : Trial) (task : Task) (x : Served) → IsKnown trial task → serve standard_table trial.keys (line_of_task task) trial.left ≡ Some x
    → (counted trial.keys task x.reply trial.counts).lost ≡ trial.counts.lost
unfolding IsKnown
line_unlost law trial (Opens s) x known e = open_unlost trial.keys s x.reply trial.counts
    (λ t. opens law trial.keys s trial.left x known ((keys_are_found s.sealer trial.keys).0 t) e)
line_unlost law trial (Seals plain ad) x known e = by x.reply
  where
    by : (reply : Reply) → (counted trial.keys (Seals plain ad) reply trial.counts).lost ≡ trial.counts.lost
    by Done = refl
    by (Gives bytes) = refl
    by (NewId id) = refl
    by (Refuses why) = refl
line_unlost law trial (Edits line) x known e = by x.reply
  where
    by : (reply : Reply) → (counted trial.keys (Edits line) reply trial.counts).lost ≡ trial.counts.lost
    by Done = refl
    by (Gives bytes) = refl
    by (NewId id) = refl
    by (Refuses why) = refl

primary_sealed : (keys later : Keys) (plain ad random bytes : List ℕ) (x : Served) (primary : Option Record) → IsKeyset keys → IsEdited keys later → primary_of keys ≡ primary
    → serve standard_table keys (Seal plain ad) random ≡ Some x → x.reply ≡ Gives bytes → AllByRecursion (WasSealed later) (sealed_by primary bytes ad)
primary_sealed keys later plain ad random bytes x None k edited t e gave = tt
primary_sealed keys later plain ad random bytes x (Some r) k edited t e gave = (
  record { old = keys; keyset = k; edited = edited; primary = t; plain = plain; random = random; served = x; is = e; gave = gave },
  tt,
)

newly_sealed : (keys : Keys) (task : Task) (random : List ℕ) (x : Served) (reply : Reply) → IsKeyset keys → IsEdited keys x.keys → serve standard_table keys (line_of_task task) random ≡ Some x → x.reply ≡ reply
    → AllByRecursion (WasSealed x.keys) (sealed_now keys task reply)
newly_sealed keys (Seals plain ad) random x (Gives bytes) k edited e gave = primary_sealed keys x.keys plain ad random bytes x (primary_of keys) k edited refl e gave
newly_sealed keys (Seals plain ad) random x Done k edited e gave = tt
newly_sealed keys (Seals plain ad) random x (NewId id) k edited e gave = tt
newly_sealed keys (Seals plain ad) random x (Refuses why) k edited e gave = tt
newly_sealed keys (Opens s) random x reply k edited e gave = tt
newly_sealed keys (Edits line) random x reply k edited e gave = tt

task_good : LinesOpenPresent → EditedIsKeyset → (trial : Trial) (task : Task) (served : Option Served) → serve standard_table trial.keys (line_of_task task) trial.left ≡ served → IsKnown trial task → IsGood trial
    → IsGood (after_line trial task served)
task_good law kept trial task None e known good = record { keyset = good.keyset; sealings = good.sealings; lost = good.lost }
task_good law kept trial task (Some x) e known good =
    let edited = serve_edits standard_table trial.keys (line_of_task task) trial.left x e in
    record {
      keyset = kept trial.keys x.keys edited good.keyset;
      sealings = each-append (WasSealed x.keys) trial.sealings (sealed_now trial.keys task x.reply)
          (all_still trial.keys x.keys trial.sealings edited good.sealings)
          (newly_sealed trial.keys task trial.left x x.reply good.keyset edited e refl);
      lost = line_unlost law trial task x known e ∙ good.lost;
    }

-- ---- all lines

known_if : (trial : Trial) (b : Bool) (one two : Task) → IsKnown trial one → IsKnown trial two → IsKnown trial (if b then one else two)
known_if trial true one two a b = a
known_if trial false one two a b = b

known_open : (w : Words) (trial : Trial) (found : Option Sealing) → slice_get trial.sealings (w.b % length trial.sealings) ≡ found → AllByRecursion (WasSealed trial.keys) trial.sealings → IsKnown trial (open_or_seal w found)
unfolding IsKnown
known_open w trial (Some s) at all = sealed_there trial.keys trial.sealings (w.b % length trial.sealings) s all at
known_open w trial None at all = tt

known_task : (w : Words) (trial : Trial) → AllByRecursion (WasSealed trial.keys) trial.sealings → IsKnown trial (task_of w trial)
unfolding IsKnown
known_task w trial all =
    known_if trial (nat_lt (w.a % 8) 3) (seal_task w) _ tt
    (known_if trial (nat_lt (w.a % 8) 6) (open_task w trial.sealings) _ (known_open w trial _ refl all)
    (known_if trial (w.a % 8 == 6) (Edits (grow_line w trial.keys)) (Edits (change_line w trial.keys)) tt tt))

lines_good : LinesOpenPresent → EditedIsKeyset → (seed : ℕ) (trial : Trial) (lines : ℕ) → IsGood trial → IsGood (after_lines standard_table seed trial lines)
unfolding after_lines
lines_good law kept seed trial zero good = good
lines_good law kept seed trial (suc k) good =
    let before = after_lines standard_table seed trial k in
    let task = task_of (words_of seed k) before in
    let is_good = lines_good law kept seed trial k good in
    task_good law kept before task _ refl (known_task (words_of seed k) before is_good.sealings) is_good

same_Ok : (a b : Counts) → ◌≡◌ {A = Result Counts EditRefusal} (Ok a) (Ok b) → a ≡ b
same_Ok a b e = cc

answer_unlost : LinesOpenPresent → EditedIsKeyset → (seed lines : ℕ) (answer : Result Keys EditRefusal) (left : List ℕ) (n : Counts) → ((keys : Keys) → answer ≡ Ok keys → IsKeyset keys)
    → counts_from standard_table seed lines answer left ≡ Ok n → n.lost ≡ 0
answer_unlost law kept seed lines (Ok keys) left n there e =
    ap (λ c. c.lost) (sym (same_Ok _ n e))
    ∙ (lines_good law kept seed (start keys left) lines (record { keyset = there keys refl; sealings = tt; lost = refl })).lost
answer_unlost law kept seed lines (Err fault) left n there e = absurd cc

first_unlost : LinesOpenPresent → EditedIsKeyset → FirstsAreSound → (seed lines : ℕ) (made : Option Stepped) (n : Counts) → first first_row (random_bytes seed (random_size lines)) ≡ made
    → counts_over standard_table seed lines made ≡ Ok n → n.lost ≡ 0
first_unlost law kept sound seed lines None n t e = absurd cc
first_unlost law kept sound seed lines (Some s) n t e =
    answer_unlost law kept seed lines s.answer s.left n (λ keys is. (sound keys first_row _ s first_is_template t is).keyset) e

pub nothing_is_lost : LinesOpenPresent → EditedIsKeyset → FirstsAreSound → NothingIsLost
nothing_is_lost law kept sound seed lines n e = first_unlost law kept sound seed lines _ n refl e
