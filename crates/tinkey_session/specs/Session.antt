-- A session: lines over a keyset, one after another, each over what the lines before it left.
--
--   lines_of     the lines of an input
--   turns        the turn of each line
--   lines_by     the lines as they are resolved
--   remains      what the last line leaves
use Rattle.std.specs.Prelude.{ℕ, Bool, List, [], ◌∷◌, ◌++◌, ◌==◌, map, Option, Some, None, option_and_then, if◌then◌else◌}
use Rattle.std.specs.List.{onto_first}
use Rattle.keyset_model.specs.Keyset.{Keys}
use Rattle.managers.specs.Table.{Table}
use Rattle.tinkey_session.specs.Lines.{Line, line_of}
use Rattle.tinkey_session.specs.Saving.{FileAsked, Resolves, files_of}
use Rattle.tinkey_session.specs.Serving.{Served, serve}
use Rattle.tinkey_session.specs.Talking.{unsaved_after}
use Rattle.tinkey_session.specs.declared.reply.Reply.{Reply}

-- A line ends with a newline. A last one without it counts where it isn't empty.
unfoldable pub lines_of : List ℕ → List (List ℕ)
lines_of [] = []
lines_of (b ∷ text) = if b == 10 then [] ∷ lines_of text else onto_first b (lines_of text)

-- what the lines of an input ask
abbrev pub asked_in : List ℕ → List Line
asked_in input = map line_of (lines_of input)

-- a line's turn: the keyset before it, what it asks, and its reply
pub record Turn : Type 0 where
  pub before : Keys
  pub line : Line
  pub reply : Reply

-- a turn, and those of the lines behind it over what it left
abbrev pub turn_then : Keys → Line → Option Served → (Served → List Turn) → List Turn
turn_then keys line None later = []
turn_then keys line (Some s) later =
    record { before = keys; line = line; reply = s.reply } ∷ later s

-- the turns of all lines that the random bytes reach
unfoldable pub turns : Table → Keys → List Line → (random : List ℕ) → List Turn
turns table keys [] random = []
turns table keys (line ∷ later) random =
    turn_then keys line (serve table keys line random) (λ s. turns table s.keys later s.left)

-- a keyset, and the random bytes that are left
pub record Remains : Type 0 where
  pub keys : Keys
  pub left : List ℕ

-- what is there after all lines; none where the random bytes run out
unfoldable pub remains : Table → Keys → List Line → (random : List ℕ) → Option Remains
remains table keys [] random = Some (record { keys = keys; left = random })
remains table keys (line ∷ later) random =
    option_and_then (λ s. remains table s.keys later s.left) (serve table keys line random)

-- ---- lines that are resolved

-- the lines after one, resolved over what it left; where it has no answer, as they are
abbrev pub lines_then : (later : List Line) → Option Served → (Served → List Line) → List Line
lines_then later None over = later
lines_then later (Some s) over = over s

-- the lines as they are resolved, after the files asked for before. `unsaved` says that an accepted edit stands that no
-- file has.
unfoldable pub lines_by : Table → Resolves → (before : List FileAsked) → (unsaved : Bool) → Keys → List Line
    → (random : List ℕ) → List Line
lines_by table resolve before unsaved keys [] random = []
lines_by table resolve before unsaved keys (line ∷ later) random =
    resolve before unsaved keys random line
    ∷ lines_then later (serve table keys (resolve before unsaved keys random line) random)
    (λ s. lines_by table resolve (before ++ files_of (resolve before unsaved keys random line))
    (unsaved_after unsaved (resolve before unsaved keys random line) s.reply) s.keys later s.left)
