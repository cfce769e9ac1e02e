-- The self-test: lines of a session, made from the words of a generator and from what the lines
-- before them left, and what is counted of their replies.
--
--   Sealing       an accepted seal, with the record that sealed
--   Trial         how far a self-test has come
--   task_of       what a line is, by its words
--   has_key       the keyset has the key of a record, ENABLED
--   tried         the trial after one more line
--   self_test     what is counted after all lines
--
-- What a line answers is `serve`, as in any session. Records and seals are numbered from 0.
use Rattle.std.specs.Prelude.{ℕ, zero, suc, ◌+◌, ◌*◌, ◌%◌, List, [], ◌∷◌, ◌++◌, length, Bool, ◌&&◌, ◌==◌, nat_lt, Option, Some, None, Result, Ok, Err, if◌then◌else◌, slice_get, get_or, codes}
use Rattle.std.specs.Int.{w32, to_le_bytes}
use Rattle.std.specs.List.{list_any, repeat}
use Rattle.std.specs.Str.{bytes_eq}
use Rattle.key_msgs.specs.Templates.{Row, tink}
use Rattle.key_msgs.specs.declared.template.Recipe.TheVariants.{Gcm}
use Rattle.keyset_model.specs.Keyset.{Keys, is_enabled, primary_of}
use Rattle.keyset_model.specs.declared.record.Record.{Record}
use Rattle.managers.specs.Table.{Table}
use Rattle.tinkey_cmds.specs.Edits.{Stepped, first, Add, Rotate, Promote, Enable, Disable, Delete}
use Rattle.tinkey_cmds.specs.declared.command.EditRefusal.{EditRefusal}
use Rattle.tinkey_cmds.specs.declared.command.EditRefusal.TheVariants.{IdsExhausted}
use Rattle.tinkey_selftest.specs.Numbers.{random_bytes, words_of}
use Rattle.tinkey_selftest.specs.declared.counts.Counts.{Counts}
use Rattle.tinkey_selftest.specs.declared.numbers.Words.{Words}
use Rattle.tinkey_selftest.specs.declared.trial.Sealing.{Sealing}
use Rattle.tinkey_session.specs.Lines.{Line, Seal, Open, Edit, Bad}
use Rattle.tinkey_session.specs.Serving.{Served, serve}
use Rattle.tinkey_session.specs.declared.reply.LineRefusal.TheVariants.{BadLine}
use Rattle.tinkey_session.specs.declared.reply.Reply.{Reply}
use Rattle.tinkey_session.specs.declared.reply.Reply.TheVariants.{Gives, Refuses}

-- the keyset, the seals accepted so far, in order, the random bytes left, and the counts
pub record Trial : Type 0 where
  pub keys : Keys
  pub sealings : List Sealing
  pub left : List ℕ
  pub counts : Counts

-- ---- the lines

-- what a line is: a seal, the open of a seal that was accepted, or the edit that a line asks for
pub data Task : Type 0 where
  Seals : (plain ad : List ℕ) → Task
  Opens : (sealing : Sealing) → Task
  Edits : (line : Line) → Task

-- a word as four bytes, little-endian
abbrev pub word_bytes : ℕ → List ℕ
word_bytes word = to_le_bytes w32 word

-- a seal: c as bytes, up to 63 times, with d as associated data
abbrev pub seal_task : Words → Task
seal_task w = Seals (repeat (w.b % 64) (word_bytes w.c)) (word_bytes w.d)

-- the open of a seal, or the seal of these words where there is none yet
abbrev pub open_or_seal : Words → Option Sealing → Task
open_or_seal w (Some sealing) = Opens sealing
open_or_seal w None = seal_task w

-- the open of one of the seals that were accepted, chosen by the words
abbrev pub open_task : Words → List Sealing → Task
open_task w sealings = open_or_seal w (slice_get sealings (w.b % length sealings))

-- the names of the templates by which keys are made
abbrev pub names : List (List ℕ)
names =
    codes "AES128_GCM"
    ∷ codes "AES256_GCM"
    ∷ codes "AES128_EAX"
    ∷ codes "AES256_EAX"
    ∷ codes "AES128_CTR_HMAC_SHA256"
    ∷ codes "AES256_CTR_HMAC_SHA256"
    ∷ []

-- the name of the template that the words choose
abbrev pub name_of : Words → List ℕ
name_of w = get_or names (w.c % 6) []

-- a line about a record, which is always there
abbrev pub about : (Record → Line) → Option Record → Line
about asks (Some r) = asks r
about asks None = Bad BadLine

-- the line that deletes a record
abbrev pub delete_line : Record → Line
delete_line r = Edit (Delete r.id)

-- a new key; with 16 records one of them goes instead
abbrev pub grow_line : Words → Keys → Line
grow_line w keys =
    if nat_lt (length keys.records) 16
    then (if w.b % 2 == 0 then Edit (Add (name_of w)) else Edit (Rotate (name_of w)))
    else about delete_line (slice_get keys.records (w.b % 16))

-- another edit of a record
abbrev pub change_record : (c : ℕ) → Record → Line
change_record c r =
    if c % 3 == 0 then Edit (Promote r.id)
    else (if c % 3 == 1 then (if is_enabled r then Edit (Disable r.id) else Edit (Enable r.id))
    else Edit (Delete r.id))

-- an edit of the record that the words choose
abbrev pub change_line : Words → Keys → Line
change_line w keys =
    about (change_record w.c) (slice_get keys.records (w.b % length keys.records))

-- of eight lines about three are seals, three opens, one makes a key, and one is another edit
abbrev pub task_of : Words → Trial → Task
task_of w trial =
    if nat_lt (w.a % 8) 3 then seal_task w
    else (if nat_lt (w.a % 8) 6 then open_task w trial.sealings
    else (if w.a % 8 == 6 then Edits (grow_line w trial.keys)
    else Edits (change_line w trial.keys)))

-- the line of the session that asks for it
abbrev pub line_of_task : Task → Line
line_of_task (Seals plain ad) = Seal plain ad
line_of_task (Opens sealing) = Open sealing.bytes sealing.ad
line_of_task (Edits line) = line

-- ---- the counts

-- the second record is ENABLED, with all that makes the key of the first
abbrev pub is_same_key : (r s : Record) → Bool
is_same_key r s =
    is_enabled s && (s.id == r.id && (s.prefix == r.prefix && (bytes_eq s.url r.url
    && (bytes_eq s.value r.value && s.material == r.material))))

-- the keyset has the key of that record, ENABLED
abbrev pub has_key : Record → Keys → Bool
has_key r keys = list_any (is_same_key r) keys.records

-- the counts before the first line
abbrev pub none_yet : Counts
none_yet = record { sealed = 0; opened = 0; refused = 0; edited = 0; declined = 0; lost = 0 }

-- how many lines were counted
abbrev pub total : Counts → ℕ
total n = n.sealed + n.opened + n.refused + n.edited + n.declined

-- a line that was refused, and no open
abbrev pub one_declined : Counts → Counts
one_declined n = record n { declined = n.declined + 1 }

-- a refused open; it is lost where the key that sealed is there, ENABLED
abbrev pub one_refused : (there : Bool) → Counts → Counts
one_refused there n =
    record n { refused = n.refused + 1; lost = if there then n.lost + 1 else n.lost }

-- what is counted of a reply
abbrev pub counted : Keys → Task → Reply → Counts → Counts
counted keys (Seals plain ad) (Gives bytes) n = record n { sealed = n.sealed + 1 }
counted keys (Seals plain ad) reply n = one_declined n
counted keys (Opens sealing) (Gives plain) n = record n { opened = n.opened + 1 }
counted keys (Opens sealing) reply n = one_refused (has_key sealing.sealer keys) n
counted keys (Edits line) (Refuses why) n = one_declined n
counted keys (Edits line) reply n = record n { edited = n.edited + 1 }

-- what the primary record sealed, of a keyset that has one, as each has
abbrev pub sealed_by : Option Record → (bytes ad : List ℕ) → List Sealing
sealed_by (Some r) bytes ad = record { bytes = bytes; ad = ad; sealer = r } ∷ []
sealed_by None bytes ad = []

-- the accepted seal of a line
abbrev pub sealed_now : Keys → Task → Reply → List Sealing
sealed_now keys (Seals plain ad) (Gives bytes) = sealed_by (primary_of keys) bytes ad
sealed_now keys task reply = []

-- ---- all lines

-- The trial after what a line gives. Where the random bytes run out, which never happens, the line
-- counts as declined.
abbrev pub after_line : Trial → Task → Option Served → Trial
after_line trial task None = record trial { counts = one_declined trial.counts }
after_line trial task (Some x) = record {
  keys = x.keys;
  sealings = trial.sealings ++ sealed_now trial.keys task x.reply;
  left = x.left;
  counts = counted trial.keys task x.reply trial.counts;
}

-- the trial after this line
abbrev pub task_done : Table → Trial → Task → Trial
task_done table trial task =
    after_line trial task (serve table trial.keys (line_of_task task) trial.left)

-- the trial after one more line, of these words
abbrev pub tried : Table → Words → Trial → Trial
tried table w trial = task_done table trial (task_of w trial)

-- after so many lines
unfoldable pub after_lines : Table → (seed : ℕ) → Trial → (lines : ℕ) → Trial
after_lines table seed trial zero = trial
after_lines table seed trial (suc k) = tried table (words_of seed k) (after_lines table seed trial k)

-- the trial before the first line
abbrev pub start : Keys → (random : List ℕ) → Trial
start keys random = record { keys = keys; sealings = []; left = random; counts = none_yet }

-- the template of the first keyset
abbrev pub first_row : Row
first_row = tink (codes "AES128_GCM") (Gcm 16)

-- how many random bytes there are: 320 for the first keyset and for each line
abbrev pub random_size : (lines : ℕ) → ℕ
random_size lines = 320 * (lines + 1)

-- over the first keyset, if there is one
abbrev pub counts_from : Table → (seed lines : ℕ) → Result Keys EditRefusal → (left : List ℕ)
    → Result Counts EditRefusal
counts_from table seed lines (Ok keys) left =
    Ok (after_lines table seed (start keys left) lines).counts
counts_from table seed lines (Err fault) left = Err fault

-- there is always an answer on the first keyset, since the random bytes suffice
abbrev pub counts_over : Table → (seed lines : ℕ) → Option Stepped → Result Counts EditRefusal
counts_over table seed lines None = Err IdsExhausted
counts_over table seed lines (Some s) = counts_from table seed lines s.answer s.left

-- the self-test of a number, with so many lines
abbrev pub self_test : Table → (seed lines : ℕ) → Result Counts EditRefusal
self_test table seed lines =
    counts_over table seed lines (first first_row (random_bytes seed (random_size lines)))
