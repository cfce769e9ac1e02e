-- Runs of eseal and eopen, with runs between them that hand the keyset on.
--
--   RunsOpenEnvelope   what was sealed in an envelope before runs opens after them
use Rattle.std.specs.Prelude.{◌≡◌, ℕ, List, Option, Some, option_map}
use Rattle.key_msgs.specs.Templates.{row_named, type_made}
use Rattle.keyset_model.specs.declared.record.Record.{Record}
use Rattle.managers.specs.Standard.{standard_table}
use Rattle.wrapped_prims.specs.Candidates.{prefix_of}
use Rattle.wrapped_prims.specs.Laws.{HasSameKey}
use Rattle.tinkey_plans.specs.declared.status.Status.TheVariants as status
use Rattle.tinkey_plans.specs.Commands.{command_plan}
use Rattle.tinkey_plans.specs.Plan.{Answer, Told, answer}
use Rattle.tinkey_words.specs.Words.{AskedEnvelope, to_eseal, to_eopen, use_envelope}
use Rattle.tinkey_readable.specs.Lying.{LiesAs, Lying, clear, lock_in}
use Rattle.tinkey_readable.specs.Runs.{IsFree, LeadOn, Passage, Written, bytes_at}

-- the answer of work by data keys of a template under the keys of the keyset that lies in the file of this
-- name, under the master, if there is one, that lies in the file of the lock, put here
abbrev pub envelope_answer : AskedEnvelope → (out : Option (List ℕ)) → (template : List ℕ) → Lying
    → (lock name : List ℕ) → Told → Answer
envelope_answer work out template lying lock name told =
    answer (command_plan standard_table
    (use_envelope (lock_in lying.master lock) name lying.text.form template work out)) told

-- such work over a keyset was answered Done, and put this output, to standard output or into a new file
pub record WasEnveloped (work : AskedEnvelope) (template : List ℕ) (lying : Lying) (told : Told)
    (output : List ℕ) : Type 0 where
  pub lock : List ℕ
  pub name : List ℕ
  pub out : Option (List ℕ)
  pub lies : LiesAs lying told lock name
  pub done : (envelope_answer work out template lying lock name told).status ≡ status.Done
  pub gave : let a = envelope_answer work out template lying lock name told in
      bytes_at out a.files a.output ≡ Some output

-- such work over a keyset is answered Done, and puts this output, in whichever files the keyset and its master
-- lie, and wherever the output is asked to be put, where the name of a new file is free
abbrev pub IsEnveloped : AskedEnvelope → (template : List ℕ) → Lying → (input output : List ℕ) → Type 0
IsEnveloped work template lying input output = (told : Told) (lock name : List ℕ)
    (out : Option (List ℕ))
    → LiesAs lying told lock name → told.input ≡ input → IsFree out told.files
    → let a = envelope_answer work out template lying lock name told in
    (a.status ≡ status.Done) × (bytes_at out a.files a.output ≡ Some output)

-- the templates of these two names make keys of one type
abbrev pub MakeOneType : (template other : List ℕ) → Type 0
MakeOneType template other =
    option_map type_made (row_named template) ≡ option_map type_made (row_named other)

-- What was sealed in an envelope under a key with a prefix opens to its plaintext, with its associated
-- data and any template of its data key's type, while that key is ENABLED and alone under its prefix.
abbrev pub RunsOpenEnvelope : Type 0
RunsOpenEnvelope = (runs : List Passage) (before after : Written) (r : Record)
    (prefix template other ad sealed : List ℕ) (told : Told) (lead : LeadOn runs before after r)
    → HasSameKey r lead.new → prefix_of r ≡ Some prefix → MakeOneType template other
    → WasEnveloped (to_eseal ad) template (clear before) told sealed
    → IsEnveloped (to_eopen ad) other (clear after) sealed told.input
