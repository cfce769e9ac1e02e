-- A session over its input as the bytes come: each line is answered when its newline is there.
--
--   unsaved_after  whether an accepted edit stands that no file has
--   Given        what a line gives, with the file that it asks for, if it does
--   Replies      what lines give, each after the files that were asked for before
--   saving       in a session that saves its keyset
--   Talk         how far a session has come
--   byte_taken   the session after a byte more
--   talk         the session over the bytes taken and the random bytes
--
-- TalkLaws says what this is in lines: its replies are those of the turns of Session.
use Rattle.std.specs.Prelude.{◌≡◌, ℕ, suc, List, [], ◌∷◌, ◌++◌, length, ◌==◌, nat_le, Bool, true, false, Option, Some, None, option_map, if◌then◌else◌}
use Rattle.keyset_model.specs.Keyset.{Keys}
use Rattle.managers.specs.Table.{Table}
use Rattle.tinkey_session.specs.Lines.{Line, Edit, Save, line_of}
use Rattle.tinkey_session.specs.Saving.{FileAsked, Form, Resolves, StoreAnswers, as_read, files_of, resolved}
use Rattle.tinkey_session.specs.Serving.{Served, serve}
use Rattle.tinkey_session.specs.Texts.{reply_text}
use Rattle.tinkey_session.specs.declared.reply.Reply.{Reply}
use Rattle.tinkey_session.specs.declared.reply.Reply.TheVariants.{Done, Refuses}

-- a line of more bytes, its newline not counted, is too long
abbrev pub line_limit : ℕ
line_limit = 65536

-- a session of more lines has too many
abbrev pub count_limit : ℕ
count_limit = 100000

-- what ends a session before its input ends: a byte too many of a line, or a byte of a line too many
pub data Limit : Type 0 where
  long_line : Limit
  many_lines : Limit

-- how a session stands: it goes on, it wants more random bytes than there are, or it is past a limit
pub data Stop : Type 0 where
  goes : Stop
  wants : Stop
  passes : Limit → Stop

-- the keyset, the line so far, the count of lines before it, whether an accepted edit among them stands that no file has,
-- the replies to them, the files that they asked for, and the random bytes that are left
pub record Talk : Type 0 where
  pub keys : Keys
  pub line : List ℕ
  pub count : ℕ
  pub unsaved : Bool
  pub output : List ℕ
  pub asked : List FileAsked
  pub random : List ℕ
  pub stop : Stop

-- whether an accepted edit stands that no file has, after an edit with this reply
abbrev pub unsaved_by_edit : (unsaved : Bool) → Reply → Bool
unsaved_by_edit unsaved (Refuses why) = unsaved
unsaved_by_edit unsaved reply = true

-- after a save with this reply
abbrev pub unsaved_by_save : (unsaved : Bool) → Reply → Bool
unsaved_by_save unsaved Done = false
unsaved_by_save unsaved reply = unsaved

-- after a line with this reply
abbrev pub unsaved_after : (unsaved : Bool) → Line → Reply → Bool
unsaved_after unsaved (Edit edit) reply = unsaved_by_edit unsaved reply
unsaved_after unsaved (Save name outcome) reply = unsaved_by_save unsaved reply
unsaved_after unsaved line reply = unsaved

-- what a line gives, the file that it asks for, if it does, and whether an accepted edit stands after it that no file has
pub record Given : Type 0 where
  pub served : Served
  pub asked : List FileAsked
  pub unsaved : Bool

-- what lines give, after the files asked for before, over a keyset, of these random bytes. `unsaved` says that an
-- accepted edit stands that no file has.
abbrev pub Replies : Type 0
Replies = (before : List FileAsked) → (unsaved : Bool) → Keys → (line random : List ℕ) → Option Given

-- more random bytes after those that are left
abbrev pub given_more : List ℕ → Given → Given
given_more more g = record g { served = record g.served { left = g.served.left ++ more } }

-- It is settled by the random bytes that the line draws: more of them after these change nothing.
abbrev pub AreSettled : Replies → Type 0
AreSettled give = (before : List FileAsked) (unsaved : Bool) (keys : Keys) (line random more : List ℕ) (g : Given)
    → give before unsaved keys line random ≡ Some g
    → give before unsaved keys line (random ++ more) ≡ Some (given_more more g)

-- what was answered to a line, with the file that it asks for
abbrev pub with_files : (unsaved : Bool) → Line → Served → Given
with_files unsaved line s =
    record { served = s; asked = files_of line; unsaved = unsaved_after unsaved line s.reply }

-- what a line gives, under a table of managers
abbrev pub gives : Table → (unsaved : Bool) → Keys → Line → (random : List ℕ) → Option Given
gives table unsaved keys line random = option_map (with_files unsaved line) (serve table keys line random)

-- what lines give, each as it is resolved
abbrev pub answers_by : Table → Resolves → Replies
answers_by table resolve before unsaved keys line random =
    gives table unsaved keys (resolve before unsaved keys random (line_of line)) random

-- in a session that saves nothing
abbrev pub by_lines : Table → Replies
by_lines table = answers_by table as_read

-- in a session that saves the keyset in this form, in a store that answers so
abbrev pub saving : Table → Form → StoreAnswers → Replies
saving table form answers = answers_by table (resolved form answers)

-- A line is answered. Where it wants more random bytes, it has used up those there are.
abbrev pub replied : Talk → Option Given → Talk
replied x None = record x { random = []; stop = wants }
replied x (Some g) = record {
  keys = g.served.keys;
  line = [];
  count = suc x.count;
  unsaved = g.unsaved;
  output = x.output ++ reply_text g.served.reply;
  asked = x.asked ++ g.asked;
  random = g.served.left;
  stop = goes;
}

-- the line so far is a line
abbrev pub line_ended : Replies → Talk → Talk
line_ended give x = replied x (give x.asked x.unsaved x.keys x.line x.random)

-- a byte is taken
abbrev pub byte_taken : Replies → Talk → ℕ → Talk
byte_taken give x b =
    if nat_le count_limit x.count then record x { stop = passes many_lines }
    else (if b == 10 then line_ended give x
    else (if nat_le line_limit (length x.line) then record x { stop = passes long_line }
    else record x { line = x.line ++ b ∷ [] }))

-- a session that is stopped stays as it is
abbrev pub on_go : Stop → Talk → Talk → Talk
on_go goes x next = next
on_go wants x next = x
on_go (passes limit) x next = x

-- bytes are taken
unfoldable pub over : Replies → Talk → List ℕ → Talk
over give x [] = x
over give x (b ∷ bytes) = over give (on_go x.stop x (byte_taken give x b)) bytes

-- at the end of the input a last line counts where it isn't empty
abbrev pub last_line : Replies → List ℕ → Talk → Talk
last_line give [] x = x
last_line give (b ∷ bytes) x = line_ended give x

-- the session at the end of its input: a last line without newline counts
abbrev pub finish : Replies → (ended : Bool) → Talk → Talk
finish give false x = x
finish give true x = on_go x.stop x (last_line give x.line x)

-- a session that goes on
abbrev pub going : Keys → (line : List ℕ) → (count : ℕ) → (unsaved : Bool) → (output : List ℕ) → (asked : List FileAsked)
    → (random : List ℕ) → Talk
going keys line count unsaved output asked random = record {
  keys = keys;
  line = line;
  count = count;
  unsaved = unsaved;
  output = output;
  asked = asked;
  random = random;
  stop = goes;
}

-- a session, for the bytes taken, the random bytes, and whether the end was seen
abbrev pub Exchange : Type 0
Exchange = (taken random : List ℕ) → (ended : Bool) → Talk

-- the session over a keyset whose lines give this
abbrev pub talk_by : Replies → Keys → Exchange
talk_by give keys taken random ended = finish give ended (over give (going keys [] 0 false [] [] random) taken)

-- the session over a keyset, under a table of managers
abbrev pub talk : Table → Keys → Exchange
talk table keys = talk_by (by_lines table) keys
