-- What key-of tells of bytes that a run or a line of a session made under a key.
--
--   EndsSo          a run of key-of over a keyset and these bytes ends so
--   NamesRecords    over a keyset, and of bytes with a key's output prefix, it tells the records that have this
--                   prefix, or that no key of the keyset can have made them
--   NamesAnywhere   so it is of what was made by some work, over every keyset
use Rattle.std.specs.Prelude.{◌≡◌, ◌↔◌, ℕ, List, [], Some}
use Rattle.std.specs.List.{Contains}
use Rattle.keyset_model.specs.Keyset.{Keys, primary_of}
use Rattle.keyset_model.specs.declared.record.Record.{Record}
use Rattle.managers.specs.Standard.{standard_table}
use Rattle.tinkey_plans.specs.Commands.{command_plan}
use Rattle.tinkey_plans.specs.KeyOf.{key_of_lines}
use Rattle.tinkey_plans.specs.Plan.{Told, answer}
use Rattle.tinkey_plans.specs.Sealers.{named, raw_count}
use Rattle.tinkey_plans.specs.declared.status.Status.{Status}
use Rattle.tinkey_plans.specs.declared.status.Status.TheVariants as status
use Rattle.tinkey_readable.specs.Anywhere.{IsTaken, WasMadeBy}
use Rattle.tinkey_readable.specs.EnvelopeRuns.{WasEnveloped}
use Rattle.tinkey_readable.specs.Lying.{Lies, LiesAs, Lying, lock_in}
use Rattle.tinkey_words.specs.declared.words.rows.SealedForm.{SealedForm}
use Rattle.tinkey_words.specs.declared.words.rows.SealedForm.TheVariants as forms
use Rattle.tinkey_words.specs.Words.{AskedWork, key_of, to_dseal, to_eseal, to_seal, to_tag}
use Rattle.wrapped_prims.specs.Candidates.{prefix_of}

-- A run of key-of over the keyset that lies so, in whichever files, in clear or under a master, and with this
-- input, has this status and puts out these lines.
abbrev pub EndsSo : SealedForm → Lying → (input : List ℕ) → Status → (lines : List ℕ) → Type 0
EndsSo kind lying input ended lines = (told : Told) (lock name ad : List ℕ) → LiesAs lying told lock name
    → told.input ≡ input
    → let a = answer (command_plan standard_table
    (key_of (lock_in lying.master lock) name lying.text.form kind ad)) told in
    (a.status ≡ ended) × (a.output ≡ lines)

-- What is told, over this keyset that lies so, of these bytes with the prefix of that record.
pub record NamesRecords (kind : SealedForm) (r : Record) (prefix output : List ℕ) (lying : Lying)
    (keys : Keys) : Type 0 where
  -- the records that are named, whatever their status and their key, are exactly those with the prefix
  pub names : (other : Record) → Contains (named keys prefix) other
      ↔ (Contains keys.records other × (prefix_of other ≡ Some prefix))
  -- so each with the id and the output prefix type of that one
  pub alike : (other : Record) → other.id ≡ r.id → other.prefix ≡ r.prefix → prefix_of other ≡ Some prefix
  -- if there is one, or one that is RAW, they are told
  pub told : (named keys prefix ≡ [] → raw_count keys ≡ 0 → ⊥)
      → EndsSo kind lying output status.Done (key_of_lines keys prefix)
  -- if there is none, that is told
  pub untold : named keys prefix ≡ [] → raw_count keys ≡ 0 → EndsSo kind lying output status.NoKeyOf []

-- So it is of what was made by this work under a key with a prefix, over each keyset that a command takes, in
-- clear or under a master that serves as one.
abbrev pub NamesAnywhere : AskedWork → Type 0
NamesAnywhere work = (input output prefix : List ℕ) (r : Record) (other : Lying) (keys : Keys)
    → prefix_of r ≡ Some prefix → WasMadeBy work input output r → IsTaken other keys
    → NamesRecords forms.Text r prefix output other keys

-- of what was sealed, with an IV or without, of tags, and of what was sealed in an envelope
pub record KeysAreNamed : Type 0 where
  pub sealed : (ad : List ℕ) → NamesAnywhere (to_seal ad)
  pub dsealed : (ad : List ℕ) → NamesAnywhere (to_dseal ad)
  pub tagged : NamesAnywhere to_tag
  pub enveloped : (before other : Lying) (old keys : Keys) (r : Record)
      (prefix template ad output : List ℕ) (told : Told)
      → Lies before old → primary_of old ≡ Some r → prefix_of r ≡ Some prefix
      → WasEnveloped (to_eseal ad) template before told output → IsTaken other keys
      → NamesRecords forms.Envelope r prefix output other keys
