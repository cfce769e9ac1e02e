-- What the program does with its words, its streams and its files.
use Rattle.std.specs.Prelude.{◌≡◌, ◌⊎◌, ℕ, List, [], ◌++◌, Bool, true, false, drop, Option, Some, IfSome, Result, Ok, Err}
use Rattle.managers.specs.Standard.{standard_table}
use Rattle.real_objects.specs.Words.{IsFirstNotText}
use Rattle.tink_base.specs.declared.faults.NoMemory.{NoMemory}
use Rattle.tink_spec.specs.Files.{Files, StoreState}
use Rattle.tink_spec.specs.Outside.{SinkState, Rose, RoseOnce, Took}
use Rattle.tinkey_plans.specs.Commands.{plan_of}
use Rattle.tinkey_plans.specs.Ends.{World, world}
use Rattle.tinkey_plans.specs.Plan.{Plan, Answer, allocates}
use Rattle.tinkey_plans.specs.Promises.{Promised, SavesNothing}
use Rattle.tinkey_host.specs.NotText.{not_text_lines}
use Rattle.tinkey_host.specs.Terminals.{is_kept_off, kept_off_lines, waiting_line, waits}
use Rattle.tinkey_host.specs.declared.terminals.Terminals.{Terminals}
use Rattle.tinkey_plans.specs.Mentions.{mention_of, no_mention}
use Rattle.tinkey_plans.specs.Status.{code_of, Reports, Wrote}
use Rattle.tinkey_plans.specs.declared.status.Status.{Status}
use Rattle.tinkey_plans.specs.declared.status.Status.TheVariants as statuses

-- the plan of the words over the table of the program's managers, for which memory may be wanting
-- before all else
abbrev pub start_plan : List (List ℕ) → Plan
start_plan words = allocates (plan_of standard_table words)

-- it ran so over the table of the program's managers; or memory was refused before, and all is as it
-- was
abbrev pub IsStarted : List (List ℕ) → World → SinkState → Result Status NoMemory → World → SinkState
    → Type 0
IsStarted words old before (Ok status) new after =
    Promised (plan_of standard_table words) old status new × Reports (mention_of words) status before after
IsStarted words old before (Err error) new after = (old ≡ new) × (before ≡ after)

-- The run of these words ended with this exit code. The status that the code tells is one that the
-- plan of the words promises, over the first sink; its line is what the second sink got.
pub record HasRun (words : List (List ℕ)) (old new : World) (before after : SinkState) (code : ℕ) : Type 0 where
  pub status : Status
  pub told : code ≡ code_of status
  pub promised : Promised (start_plan words) old status new
  pub line : Reports (mention_of words) status before after

-- How the words were obeyed at terminals. A command that is kept off one did nothing, and that was reported; one
-- that reads from one said so, and then ran; any other ran.
abbrev pub HasMet : (kept_off reads : Bool) → (words : List (List ℕ)) → (old new : World) → (before after : SinkState) → (code : ℕ) → Type 0
HasMet true reads words old new before after code = (code ≡ 4) × (old ≡ new) × Wrote kept_off_lines before after
HasMet false true words old new before after code = (between : SinkState) × Wrote waiting_line before between × HasRun words old new between after code
HasMet false false words old new before after code = HasRun words old new before after code

-- How a command line was obeyed at terminals, whose words are known or not, the program's name first: the other
-- words were obeyed; or one of them isn't UTF-8, and the first such word was reported; or memory for them was
-- refused, and that was reported. But for what was reported all is as it was then.
pub data HasObeyed (terminals : Terminals) (told : Option (List (List ℕ))) (old new : World) (before after : SinkState) (code : ℕ) : Type 0 where
  has_met : (words : List (List ℕ)) → IfSome told (λ t. words ≡ drop 1 t) → HasMet (is_kept_off terminals words) (waits terminals words) words old new before after code → HasObeyed terminals told old new before after code
  not_text : (place : ℕ) → code ≡ 8 → IfSome told (λ t. IsFirstNotText t place) → old ≡ new → Wrote (not_text_lines place) before after → HasObeyed terminals told old new before after code
  no_memory : code ≡ 7 → old ≡ new → Reports no_mention statuses.NoMemory before after → HasObeyed terminals told old new before after code

-- How a command line was obeyed whose first sink was asked, in the end, for a fault that it kept back: as it was
-- obeyed; or that ended well, and then the sink told one, which is a write fault, though it took each byte.
pub data HasEnded (terminals : Terminals) (told : Option (List (List ℕ))) (old new : World) (before after : SinkState) (code : ℕ) : Type 0 where
  as_obeyed : HasObeyed terminals told old new before after code → HasEnded terminals told old new before after code
  late_fault : (sink between : SinkState) → HasObeyed terminals told old (world new.source sink new.store new.entropy) before between 0 → RoseOnce sink.faults new.sink.faults → Took sink new.sink [] → code ≡ code_of statuses.WriteFault → Reports no_mention statuses.WriteFault between after → HasEnded terminals told old new before after code

-- How the program ended, over the system's objects, whatever these tell: as a command line is obeyed over them; or
-- memory for reading standard input ahead was refused before that.
pub data ProgramEnds (code : ℕ) : Type 0 where
  obeyed : (terminals : Terminals) (told : Option (List (List ℕ))) (old new : World) (before after : SinkState) → HasEnded terminals told old new before after code → ProgramEnds code
  starved : code ≡ code_of statuses.NoMemory → ProgramEnds code

-- these words ask for no session, or no call of the store failed
abbrev pub IsNoneUnsaved : List (List ℕ) → (before after : StoreState) → Type 0
IsNoneUnsaved words before after = SavesNothing (start_plan words) ⊎ (Rose before.faults after.faults → ⊥)

-- A stated answer in bytes: its status; what it leaves of the input, if it says that; its output behind what was
-- written before; its files; and the random bytes that it leaves.
pub record IsAnsweredInBytes (a : Answer) (written : List ℕ) (s : Status) (left after : Option (List ℕ)) (kept : Option Files) (undrawn : Option (List ℕ)) : Type 0 where
  pub status : s ≡ a.status
  pub input : IfSome a.input (λ rest. left ≡ Some rest)
  pub output : after ≡ Some (written ++ a.output)
  pub files : kept ≡ Some a.files
  pub random : undrawn ≡ Some a.random
