-- The slices of a whole run, and of runs one after another that go on with one entropy.
--
--   AreInOrder    slices, each behind the one before
--   SessionDrew   what a session drew of a stream
--   HasDrawn      the slices of a run, which was left so
--   RunDrew       the same, with where they stand
--   DrewInARow    those of runs one after another
use Rattle.std.specs.Prelude.{◌≡◌, ◌≢◌, ℕ, ◌+◌, ◌≤◌, List, [], ◌∷◌, ◌++◌, length, drop, map, true, false, Option, Some, slice_get}
use mathlib.Core.Logic.{inl, inr}
use Rattle.keyset_model.specs.Keyset.{Keys}
use Rattle.managers.specs.Table.{Table}
use Rattle.random_draws.specs.Slices.{AreApart, Slice, bytes_of, placed, slices}
use Rattle.random_draws.specs.Steps.{IsStep, MakesOf, Step, step_fills}
use Rattle.tink_spec.specs.Files.{Files}
use Rattle.tink_spec.specs.Outside.{EntropyState}
use Rattle.tinkey_plans.specs.Commands.{plan_of}
use Rattle.tinkey_plans.specs.Ends.{World}
use Rattle.tinkey_plans.specs.Plan.{Plan, ends, writes, creates, looks, allocates, loads, reads_all, reads_front, ranges, draws, pumps, collects, exchanges}
use Rattle.tinkey_plans.specs.Promises.{IsLeft, Leaves, Moved}
use Rattle.tinkey_plans.specs.declared.status.Status.{Status}
use Rattle.tinkey_session.specs.Lines.{Line, line_of}
use Rattle.tinkey_session.specs.Saving.{Form, Resolves, StoreAnswers, resolved}
use Rattle.tinkey_session.specs.Session.{lines_by, lines_of, turns}
use Rattle.tinkey_session.specs.TalkLaws.{replies_text}
use Rattle.tinkey_session.specs.Talking.{Exchange, saving, talk_by}

-- Each slice begins at the end of the one before or behind it, the first one at this place or behind
-- it, and the last one ends at this end or before it.
abbrev pub AreInOrder : (place : ℕ) → List Slice → (end : ℕ) → Type 0
AreInOrder place [] end = place ≤ end
AreInOrder place (d ∷ later) end = (place ≤ d.place) × AreInOrder (d.place + d.size) later end

-- So they are within, and no two of them have a byte in common.
pub record OrderedAreApart : Type 0 where
  pub within : (place end i : ℕ) (all : List Slice) (d : Slice) → AreInOrder place all end
      → slice_get all i ≡ Some d → (place ≤ d.place) × (d.place + d.size ≤ end)
  pub apart : (place end i j : ℕ) (all : List Slice) (d e : Slice) → AreInOrder place all end
      → slice_get all i ≡ Some d → slice_get all j ≡ Some e → i ≢ j → AreApart d e

-- ---- a session in a run

-- the slice, where so many bytes stand in front of the stream
abbrev pub moved_by : (more : ℕ) → Slice → Slice
moved_by more d = record d { place = more + d.place }

-- It has the same bytes.
abbrev pub MovedAreSame : Type 0
MovedAreSame = (more : ℕ) (d : Slice) (stream : List ℕ)
    → bytes_of (moved_by more d) stream ≡ bytes_of d (drop more stream)

-- the lines of a session, each as it is resolved over what those before it left of the stream from this place on
abbrev pub lines_drawn : (stream : List ℕ) (place : ℕ) → Table → Resolves → Keys → List (List ℕ) → List Line
lines_drawn stream place table resolve keys answered =
    lines_by table resolve [] false keys (map line_of answered) (drop place stream)

-- What a session over this keyset drew of the stream from this place on. Of the lines of the bytes
-- that were taken the first ones were answered, each by its own slices; their replies were written,
-- or the first bytes of these. What lines come to ask is `resolve` of them: one that saves the keyset draws its IV, and
-- one that is refused since the keyset isn't saved draws nothing.
pub record SessionDrew (stream : List ℕ) (place : ℕ) (table : Table) (resolve : Resolves) (keys : Keys)
    (moved : Moved) (mine : List Slice) : Type 0 where
  pub taken : List ℕ
  pub more : List ℕ
  pub front : taken ++ more ≡ moved.taken
  pub answered : List (List ℕ)
  pub later : List (List ℕ)
  pub cut : lines_of taken ≡ answered ++ later
  pub whole : length (turns table keys (lines_drawn stream place table resolve keys answered) (drop place stream))
      ≡ length answered
  pub unwritten : List ℕ
  pub told : moved.written ++ unwritten ≡ replies_text
      (turns table keys (lines_drawn stream place table resolve keys answered) (drop place stream))
  pub are : mine ≡ map (moved_by place)
      (slices table keys (lines_drawn stream place table resolve keys answered) (drop place stream))

-- it is the session over a keyset that lines save in this form
abbrev pub IsSaving : (StoreAnswers → Exchange) → Table → Form → Keys → Type 0
IsSaving exchange table form keys =
    (answers : StoreAnswers) → exchange answers ≡ talk_by (saving table form answers) keys

-- ---- a run

-- The slices of a run of the plan, which was left so, of the stream from this place on. A step that
-- drew gave what is made of its own slices, and a later one goes on behind the bytes that it drew. A
-- step at which the run was left gave nothing, so nothing is made of what it drew.
abbrev pub HasDrawn : (stream : List ℕ) (place : ℕ) (p : Plan) (files : Option Files) (s : Status)
    (moved : Moved) → IsLeft p files s moved → List Slice → Type 0
HasDrawn stream place (ends t stated) files s moved left mine = mine ≡ []
HasDrawn stream place (writes output) files s moved left mine = mine ≡ []
HasDrawn stream place (creates name output taken stated) files s moved left mine = mine ≡ []
HasDrawn stream place (looks name taken stated next) files s moved (inl here) mine = mine ≡ []
HasDrawn stream place (looks name taken stated next) files s moved (inr on) mine =
    HasDrawn stream place next files s moved on.1 mine
HasDrawn stream place (allocates next) files s moved (inl here) mine = mine ≡ []
HasDrawn stream place (allocates next) files s moved (inr on) mine =
    HasDrawn stream place next files s moved on mine
HasDrawn stream place (loads name limit absent long a l next) files s moved (inl here) mine =
    mine ≡ []
HasDrawn stream place (loads name limit absent long a l next) files s moved (inr on) mine =
    HasDrawn stream place (next on.0) files s moved on.3 mine
HasDrawn stream place (ranges x absent a next) files s moved (inl here) mine = mine ≡ []
HasDrawn stream place (ranges x absent a next) files s moved (inr on) mine =
    HasDrawn stream place (next on.0) files s moved on.2 mine
HasDrawn stream place (reads_all limit long stated next) files s moved (inl here) mine = mine ≡ []
HasDrawn stream place (reads_all limit long stated next) files s moved (inr on) mine =
    HasDrawn stream place (next on.0) files s (record moved { taken = on.1 }) on.4 mine
HasDrawn stream place (reads_front size next) files s moved (inl here) mine = mine ≡ []
HasDrawn stream place (reads_front size next) files s moved (inr on) mine =
    HasDrawn stream place (next on.0) files s (record moved { taken = on.1 }) on.4 mine
HasDrawn stream place (draws kind give next) files s moved (inl here) mine = mine ≡ []
HasDrawn stream place (draws kind give next) files s moved (inr on) mine =
    (used : Step) × (first : List Slice) × (later : List Slice) × (mine ≡ first ++ later)
    × IsStep kind give used × (first ≡ placed 0 place (step_fills used on.0))
    × MakesOf stream first kind on.2 used
    × HasDrawn stream (place + length on.0) (next on.2) files s (record moved { drawn = on.1 }) on.5
    later
HasDrawn stream place (pumps part) files s moved left mine = mine ≡ []
HasDrawn stream place (collects part next) files s moved (inl here) mine = mine ≡ []
HasDrawn stream place (collects part next) files s moved (inr on) mine =
    HasDrawn stream place (next (part.output on.0 true)) files s (record moved { taken = on.1 }) on.4 mine
HasDrawn stream place (exchanges exchange next) files s moved (inl here) mine =
    (table : Table) × (form : Form) × (keys : Keys) × IsSaving exchange table form keys
    × SessionDrew stream place table (resolved form here.0) keys moved mine
HasDrawn stream place (exchanges exchange next) files s moved (inr on) mine =
    (table : Table) × (form : Form) × (keys : Keys) × IsSaving exchange table form keys
    × (first : List Slice) × (later : List Slice) × (mine ≡ first ++ later)
    × SessionDrew stream place table (resolved form on.5) keys on.0 first
    × HasDrawn stream (place + length on.0.drawn)
    (next (exchange on.5 on.0.taken on.0.drawn true).keys) on.2 s on.1 on.8 later

-- a run of the program: the table of its managers, its words, its status, and the objects before and
-- after it
pub record OneRun : Type 0 where
  pub table : Table
  pub words : List (List ℕ)
  pub status : Status
  pub old : World
  pub new : World

-- what it moved, as every run promises
abbrev pub IsLeftBy : OneRun → Type 0
IsLeftBy r = Leaves (plan_of r.table r.words) r.old r.status r.new

-- Where a run leaves the entropy that began at this place: behind what it drew, and where it ended
-- by an entropy fault, behind what that lost, too.
abbrev pub behind : (place : ℕ) (r : OneRun) → IsLeftBy r → ℕ
behind place r leaves = place + length leaves.moved.drawn + length leaves.gone.lost

-- The slices of a run that begins at this place of the stream. They stand, each behind the one
-- before, among the bytes that it drew; those that it lost are in none, and nor are they left.
pub record RunDrew (stream : List ℕ) (place : ℕ) (r : OneRun) (leaves : IsLeftBy r)
    (mine : List Slice) : Type 0 where
  pub has : HasDrawn stream place (plan_of r.table r.words) r.old.store.files r.status leaves.moved
      leaves.is mine
  pub order : AreInOrder place mine (place + length leaves.moved.drawn)
  pub enough : behind place r leaves ≤ length stream
  pub left : r.new.entropy.left ≡ Some (drop (behind place r leaves) stream)

-- It is so of every run over an entropy that tells its bytes, whatever fails.
abbrev pub RunsDraw : Type 0
RunsDraw = (r : OneRun) (leaves : IsLeftBy r) (stream : List ℕ) (place : ℕ)
    → place ≤ length stream → r.old.entropy.left ≡ Some (drop place stream)
    → (mine : List Slice) × RunDrew stream place r leaves mine

-- ---- runs one after another

-- the first of them begins with this entropy, and each other one with what the one before left of it
abbrev pub AreInARow : List OneRun → EntropyState → Type 0
AreInARow [] entropy = Unit {0}
AreInARow (r ∷ later) entropy =
    (r.old.entropy ≡ entropy) × IsLeftBy r × AreInARow later r.new.entropy

-- These are the slices of all of them, the first of which begins at this place of the stream. Each
-- begins behind the bytes that the one before drew or lost.
abbrev pub DrewInARow : (stream : List ℕ) (place : ℕ) → List OneRun → List Slice → Type 0
DrewInARow stream place [] all = all ≡ []
DrewInARow stream place (r ∷ later) all =
    (leaves : IsLeftBy r) × (mine : List Slice) × (rest : List Slice) × (all ≡ mine ++ rest)
    × RunDrew stream place r leaves mine
    × DrewInARow stream (behind place r leaves) later rest

-- So runs of any commands that go on with one entropy, whatever fails in them, have one list of
-- slices of its stream, each behind the one before.
abbrev pub RunsDrawInOrder : Type 0
RunsDrawInOrder = (runs : List OneRun) (entropy : EntropyState) (stream : List ℕ)
    → AreInARow runs entropy → entropy.left ≡ Some stream
    → (all : List Slice) × DrewInARow stream 0 runs all × AreInOrder 0 all (length stream)
