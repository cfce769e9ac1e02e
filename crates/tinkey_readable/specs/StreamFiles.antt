-- Streams that become a new file: whole, or not at all.
--
--   IsWholeOrAbsent        the new file has all of the output, or no file has changed
--   StreamsWholeOrAbsent   so it is of sseal, sopen and sreseal
use Rattle.std.specs.Prelude.{◌≡◌, ◌≢◌, ℕ, List, [], None, Some}
use Rattle.std.specs.FinMap as map
use Rattle.managers.specs.Table.{Table}
use Rattle.tink_spec.specs.Files.{Files}
use Rattle.tinkey_plans.specs.declared.status.Status.TheVariants as status
use Rattle.tinkey_plans.specs.Commands.{command_plan}
use Rattle.tinkey_plans.specs.Plan.{Answer, Told, answer}
use Rattle.tinkey_words.specs.declared.words.rows.Format.{Format}
use Rattle.tinkey_words.specs.Words.{Lock, open_stream, reseal_stream, seal_stream}

-- What is answered where this new file is asked for, beside what is answered without it. Where the first is Done,
-- the name was free, the second is Done too, and the file has all that that puts out; else no file has changed.
-- Nothing goes to standard output.
pub record IsWholeOrAbsent (files : Files) (file : List ℕ) (a shown : Answer) : Type 0 where
  pub free : a.status ≡ status.Done → map.get files file ≡ None
  pub done : a.status ≡ status.Done → shown.status ≡ status.Done
  pub whole : a.status ≡ status.Done → a.files ≡ map.insert files file shown.output
  pub absent : a.status ≢ status.Done → a.files ≡ files
  pub nothing : a.output ≡ []

-- so it is of a stream that is sealed, opened or resealed into a new file
pub record StreamsWholeOrAbsent : Type 0 where
  pub sealed : (table : Table) (lock : Lock) (name : List ℕ) (form : Format) (ad file : List ℕ) (told : Told)
      → IsWholeOrAbsent told.files file
      (answer (command_plan table (seal_stream lock name form ad (Some file))) told)
      (answer (command_plan table (seal_stream lock name form ad None)) told)
  pub opened : (table : Table) (lock : Lock) (name : List ℕ) (form : Format) (ad file : List ℕ) (told : Told)
      → IsWholeOrAbsent told.files file
      (answer (command_plan table (open_stream lock name form ad (Some file))) told)
      (answer (command_plan table (open_stream lock name form ad None)) told)
  pub resealed : (table : Table) (lock : Lock) (name : List ℕ) (form : Format) (ad file : List ℕ) (told : Told)
      → IsWholeOrAbsent told.files file
      (answer (command_plan table (reseal_stream lock name form ad (Some file))) told)
      (answer (command_plan table (reseal_stream lock name form ad None)) told)
