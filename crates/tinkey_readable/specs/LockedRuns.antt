-- Work by the keys of a keyset that lies sealed under a master.
--
--   GivesUnder     what a text gives under a master
--   WasDoneUnder   work over such a keyset was answered Done
--   IsDoneUnder    work over such a keyset is answered Done
use Rattle.std.specs.Prelude.{◌≡◌, ℕ, true, List, Some, Ok}
use Rattle.keyset_model.specs.Keyset.{Keys}
use Rattle.managers.specs.Standard.{standard_table}
use Rattle.seal_wrap.specs.Unwrapped.{unwrap_of}
use Rattle.tinkey_session.specs.HeldLaws.{AreBytes}
use Rattle.tinkey_plans.specs.declared.status.Status.TheVariants as status
use Rattle.tinkey_plans.specs.Commands.{command_plan}
use Rattle.tinkey_plans.specs.Plan.{Answer, Told, answer}
use Rattle.tinkey_plans.specs.Wrapping.{is_json}
use Rattle.tinkey_readable.specs.Runs.{IsFree, LiesIn, Written, bytes_at, shown}
use Rattle.tinkey_words.specs.Words.{AskedWork, Output, use_keyset}

-- under this master the text gives that keyset
abbrev pub GivesUnder : (master : Keys) → (text : Written) → Keys → Type 0
GivesUnder master text keys =
    unwrap_of master standard_table text.bytes (is_json text.form) ≡ Ok keys

-- the answer of work by the keys of the keyset that lies as this text in the file of this name, under the
-- master that lies in the file of the lock, put here
abbrev pub locked_answer : AskedWork → Output → (master text : Written) → (lock name : List ℕ) → Told
    → Answer
locked_answer work out master text lock name told =
    answer (command_plan standard_table
    (use_keyset (Some (record { file = lock; form = master.form })) name text.form work out)) told

-- work over such a keyset was answered Done, and put this output, to standard output or into a new file; a
-- line of hexadecimal is that of bytes
pub record WasDoneUnder (work : AskedWork) (master text : Written) (told : Told) (output : List ℕ)
    : Type 0 where
  pub lock : List ℕ
  pub opens : LiesIn master told lock
  pub name : List ℕ
  pub out : Output
  pub lies : LiesIn text told name
  pub done : (locked_answer work out master text lock name told).status ≡ status.Done
  pub gave : let a = locked_answer work out master text lock name told in
      bytes_at out.file a.files a.output ≡ Some (shown out.hex output)
  pub bytes : out.hex ≡ true → AreBytes output

-- work over such a keyset is answered Done, and puts this output, in whichever files the master and the text
-- lie, and wherever the output is asked to be put, where the name of a new file is free
abbrev pub IsDoneUnder : AskedWork → (master text : Written) → (input output : List ℕ) → Type 0
IsDoneUnder work master text input output = (told : Told) (lock name : List ℕ) (out : Output)
    → LiesIn master told lock → LiesIn text told name → told.input ≡ input → IsFree out.file told.files
    → let a = locked_answer work out master text lock name told in
    (a.status ≡ status.Done) × (bytes_at out.file a.files a.output ≡ Some (shown out.hex output))
