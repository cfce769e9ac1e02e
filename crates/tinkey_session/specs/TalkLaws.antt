-- What a session over bytes is, in lines.
use Rattle.std.specs.Prelude.{◌≡◌, ◌≢◌, ◌⊎◌, ℕ, ◌<◌, ◌≤◌, List, [], ◌∷◌, ◌++◌, length, map, Bool, true, false, Some, Result, Ok, slice_get, if◌then◌else◌}
use Rattle.std.specs.List.{AllByRecursion, flat_map}
use Rattle.keyset_model.specs.Keyset.{Keys}
use Rattle.managers.specs.Table.{Table}
use Rattle.tink_spec.specs.Files.{Files, StoreState}
use Rattle.tink_spec.specs.Outside.{Rose}
use Rattle.tinkey_session.specs.Lines.{Line, Outcome, Save, line_of}
use Rattle.tinkey_session.specs.Saving.{FileAsked, Form, StoreAnswers, by_files, files_after, files_of, makes, no_form, resolved}
use Rattle.tinkey_session.specs.Session.{Remains, Turn, lines_by, lines_of, remains, turns}
use Rattle.tinkey_session.specs.Talking.{Exchange, Talk, goes, wants, passes, long_line, many_lines, line_limit, count_limit, saving, talk, talk_by}
use Rattle.tinkey_session.specs.Talks.{HasAsked, IsSteady, Sides, Talks, TalksWith}
use Rattle.tinkey_session.specs.Texts.{reply_text}
use Rattle.tinkey_session.specs.declared.reply.Reply.TheVariants.{Done, Gives}
use Rattle.tinkey_session.specs.declared.talk.TalkFault.{TalkFault}

-- the replies of turns, as they are written
abbrev pub replies_text : List Turn → List ℕ
replies_text session = flat_map (λ t. reply_text t.reply) session

-- The lines of the bytes taken are the answered ones and those that aren't: the replies are those of
-- the turns of the answered ones, and so are the keyset and the random bytes that they leave. Where
-- the session goes on, each line that has ended is answered, and no limit is passed; where it is past
-- a limit, the next line is what passes it. What the answered lines ask is `ask` of them.
pub record IsTurnsOf (table : Table) (ask : List (List ℕ) → List Line) (keys : Keys)
    (taken random : List ℕ) (ended : Bool) (x : Talk) : Type 0 where
  pub answered : List (List ℕ)
  pub later : List (List ℕ)
  pub cut : lines_of taken ≡ answered ++ later
  pub count : x.count ≡ length answered
  pub output : x.output ≡ replies_text (turns table keys (ask answered) random)
  pub asked : x.asked ≡ flat_map files_of (ask answered)
  pub whole : length (turns table keys (ask answered) random) ≡ length answered
  pub last : Remains
  pub remains' : remains table keys (ask answered) random ≡ Some last
  pub keys' : last.keys ≡ x.keys
  pub left : x.stop ≢ wants → last.left ≡ x.random
  pub all : x.stop ≡ goes → later ≡ (if ended then [] else lines_of x.line)
  pub few : length answered ≤ count_limit
  pub short : AllByRecursion (λ line. length line ≤ line_limit) answered
  pub many : x.stop ≡ passes many_lines → (length answered ≡ count_limit) × (later ≢ [])
  pub long : x.stop ≡ passes long_line → (line : List ℕ) × (rest : List (List ℕ))
      × (later ≡ line ∷ rest) × (line_limit < length line)

-- of a session that saves nothing
abbrev pub IsTurns : Table → Keys → (taken random : List ℕ) → (ended : Bool) → Talk → Type 0
IsTurns table = IsTurnsOf table (map line_of)

-- a session over bytes is the turns of the lines among them
abbrev pub TalkIsTurns : Type 0
TalkIsTurns = (table : Table) (keys : Keys) (taken random : List ℕ) (ended : Bool)
    → IsTurns table keys taken random ended (talk table keys taken random ended)

-- one that saves its keyset is the turns of these lines, resolved
abbrev pub SavesAreTurns : Type 0
SavesAreTurns = (table : Table) (form : Form) (answers : StoreAnswers) (keys : Keys) (taken random : List ℕ)
    (ended : Bool) → IsTurnsOf table
    (λ answered. lines_by table (resolved form answers) [] false keys (map line_of answered) random)
    keys taken random ended (talk_by (saving table form answers) keys taken random ended)

-- The file that a save asks for is what the keyset before it becomes in this form, with some IV.
abbrev pub SavesAreBefore : Type 0
SavesAreBefore = (table : Table) (form : Form) (answers : StoreAnswers) (before : List FileAsked) (unsaved : Bool)
    (keys : Keys) (lines : List Line) (random : List ℕ) (i : ℕ) (t : Turn) (name bytes : List ℕ) (outcome : Outcome)
    → slice_get (turns table keys (lines_by table (resolved form answers) before unsaved keys lines random) random) i
    ≡ Some t → t.line ≡ Save name outcome → outcome.file ≡ Some bytes
    → (iv : List ℕ) × (form.written t.before iv ≡ Ok bytes)

-- before this turn a line saved the keyset that the turn has
pub record WasSaved (session : List Turn) (i : ℕ) (t : Turn) : Type 0 where
  pub j : ℕ
  pub earlier : j < i
  pub save : Turn
  pub at : slice_get session j ≡ Some save
  pub name : List ℕ
  pub outcome : Outcome
  pub saves : save.line ≡ Save name outcome
  pub done : save.reply ≡ Done
  pub same : save.before ≡ t.before

-- In a session that seals only what is saved, a line that seals or tags does so under the first keyset, or under one that
-- an earlier line saved.
abbrev pub SavedBeforeSealing : Type 0
SavedBeforeSealing = (table : Table) (form : Form) (answers : StoreAnswers) (keys : Keys) (lines : List Line)
    (random : List ℕ) (i : ℕ) (t : Turn) (output : List ℕ) → form.saved_only ≡ true
    → slice_get (turns table keys (lines_by table (resolved form answers) [] false keys lines random) random) i
    ≡ Some t → makes t.line ≡ true → t.reply ≡ Gives output
    → (t.before ≡ keys)
    ⊎ WasSaved (turns table keys (lines_by table (resolved form answers) [] false keys lines random) random) i t

-- over no store it is the session that saves nothing, and it asks for no file
abbrev pub NothingIsSaved : Type 0
NothingIsSaved = (table : Table) (keys : Keys) (result : Result Keys TalkFault) (old new : Sides)
    (before after : StoreState)
    → TalksWith (λ answers. talk_by (saving table no_form answers) keys) result old new before after
    → Talks (talk table keys) result old new × (before ≡ after)

-- Over a store that tells its files, and doesn't fail in it, a session is what it is by these files, and the store has
-- those that were made, too.
abbrev pub SavesAreTold : Type 0
SavesAreTold = (talk : StoreAnswers → Exchange) (result : Result Keys TalkFault) (old new : Sides)
    (before after : StoreState) (files : Files) → before.files ≡ Some files
    → (Rose before.faults after.faults → ⊥) → TalksWith talk result old new before after
    → (asked : List FileAsked) × (so : Talks (talk (by_files files)) result old new)
    × HasAsked (talk (by_files files)) result old new asked so
    × (after.files ≡ Some (files_after files asked)) × (after.given ≡ before.given)

-- what a session over bytes settles stays so
abbrev pub TalksAreSteady : Type 0
TalksAreSteady = (table : Table) (keys : Keys) → IsSteady (talk table keys)

-- in a session that saves its keyset, too, whatever the store answers
abbrev pub SavesAreSteady : Type 0
SavesAreSteady = (table : Table) (form : Form) (answers : StoreAnswers) (keys : Keys)
    → IsSteady (talk_by (saving table form answers) keys)
