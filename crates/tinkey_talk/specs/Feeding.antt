-- What becomes of a piece of a session's input, over the objects that answering lines moves. Replies may
-- be held back for a while, before they are written.
--
--   HoldsBack     replies came in, and some of them are held back
--   Ended         those that were held back are written where a session ends
--   RepliesBy     what lines give, by what the store answers
--   Point         how far the code has come
--   Fed, Stopped  the piece was taken, and the lines that end in it answered; or something of it
--                 ended the session
--
-- What is said of a session here holds under any store that answers as the one at hand did.
use Rattle.std.specs.Prelude.{◌≡◌, ℕ, ◌+◌, ◌*◌, ◌<◌, ◌==◌, Bool, List, [], ◌++◌, length, slice_index, true, false, Some, None}
use Rattle.keyset_model.specs.Keyset.{Keys}
use Rattle.tink_spec.specs.Files.{StoreState}
use Rattle.tink_spec.specs.Outside.{SinkState, EntropyState, Drew, DrewLosing, Rose, Stood, Took, TookPrefix}
use Rattle.tinkey_session.specs.Answered.{DrewSome}
use Rattle.tinkey_session.specs.declared.reply.Reply.{Reply}
use Rattle.tinkey_session.specs.Talking.{Limit, Stop, goes, wants, passes, Given, Replies, Talk, finish, going, over}
use Rattle.tinkey_session.specs.Saving.{Agrees, FileAsked, Asks, StoreAnswers}
use Rattle.tinkey_session.specs.Talks.{limit_fault}
use Rattle.tinkey_session.specs.Texts.{reply_text}
use Rattle.tinkey_session.specs.declared.session.LineFault.{LineFault}
use Rattle.tinkey_session.specs.declared.session.LineFault.TheVariants as line_faults
use Rattle.tinkey_session.specs.declared.talk.TalkFault.{TalkFault}
use Rattle.tinkey_session.specs.declared.talk.TalkFault.TheVariants as faults

-- the objects at one moment, and the replies that are held back
pub record Outside : Type 0 where
  pub sink : SinkState
  pub held : List ℕ
  pub entropy : EntropyState
  pub store : StoreState

-- sink, replies held back, entropy and store at one moment
abbrev pub outside : SinkState → List ℕ → EntropyState → StoreState → Outside
outside sink held entropy store =
    record { sink = sink; held = held; entropy = entropy; store = store }

-- Of the replies that were held back, and these that came in behind them, the sink took the first, and the
-- others are held back.
pub record HoldsBack (old new : SinkState) (before after replies : List ℕ) : Type 0 where
  pub piece : List ℕ
  pub took : Took old new piece
  pub whole : piece ++ after ≡ before ++ replies

-- A session is to end with a fault, and replies are held back: the sink took them all, or a write failed.
pub data Ended (asked fault : TalkFault) (old new : SinkState) (held : List ℕ) : Type 0 where
  all_told : fault ≡ asked → Took old new held → Stood old.faults new.faults
      → Ended asked fault old new held
  cut_off : fault ≡ faults.WriteFault → TookPrefix old new held → Rose old.faults new.faults
      → Ended asked fault old new held

-- what lines give, by what the store answers
abbrev pub RepliesBy : Type 0
RepliesBy = StoreAnswers → Replies

-- a session with these replies and these files asked for so far, and these random bytes to draw from
abbrev pub Start : Type 0
Start = (output : List ℕ) (before : List FileAsked) (random : List ℕ) → Talk

-- the keyset, the line so far, the count of lines before it, and whether an accepted edit among them stands that no file
-- has
pub record Point : Type 0 where
  pub keys : Keys
  pub line : List ℕ
  pub count : ℕ
  pub unsaved : Bool

-- where a session stands: keyset, line so far, lines before it, and whether the keyset isn't saved
abbrev pub point : (keys : Keys) (line : List ℕ) (count : ℕ) (unsaved : Bool) → Point
point keys line count unsaved = record { keys = keys; line = line; count = count; unsaved = unsaved }

-- a session that goes on from there
abbrev pub from : Point → Start
from at output before random = going at.keys at.line at.count at.unsaved output before random

-- It grows with each byte taken.
abbrev pub progress : (count : ℕ) (line : List ℕ) → ℕ
progress count line = 65537 * count + length line

-- a session stands so, with these replies and files asked for, and has used all random bytes
pub record Stands (x : Talk) (stop : Stop) (output : List ℕ) (asked : List FileAsked) : Type 0 where
  pub stop' : x.stop ≡ stop
  pub output' : x.output ≡ output
  pub asked' : x.asked ≡ asked
  pub random' : x.random ≡ []

-- it has these replies and files asked for at first, and may have more
pub record Begins (x : Talk) (output : List ℕ) (asked : List FileAsked) : Type 0 where
  pub more : List ℕ
  pub later : List FileAsked
  pub output' : x.output ≡ output ++ more
  pub asked' : x.asked ≡ asked ++ later

-- ---- a line

-- none of the bytes is a newline
abbrev pub IsInLine : List ℕ → Type 0
IsInLine bytes = (k : ℕ) → k < length bytes → (slice_index bytes k == 10) ≡ false

-- the reply to a line, with the file that it asked for, if it did
abbrev pub given : Reply → (unsaved : Bool) → (last : Keys) → (left : List ℕ) → List FileAsked → Given
given reply unsaved last left asked = record {
  served = record { reply = reply; keys = last; left = left };
  asked = asked;
  unsaved = unsaved;
}

-- A line gives this text of a reply, and this keyset is there after it. `unsaved` and `later` say whether an accepted
-- edit stands that no file has, before the line and after it.
pub record IsReplied (give : RepliesBy) (unsaved : Bool) (keys : Keys) (line text : List ℕ) (later : Bool)
    (last : Keys) (old new : EntropyState) (before after : StoreState) : Type 0 where
  pub reply : Reply
  pub spelled : text ≡ reply_text reply
  pub drawn : List ℕ
  pub drew : Drew old new drawn
  pub stood : Stood old.faults new.faults
  pub asked : List FileAsked
  pub asks : Asks asked before after
  pub is : (answers : StoreAnswers) (first : List FileAsked) → Agrees answers first asked → (more : List ℕ)
      → give answers first unsaved keys line (drawn ++ more) ≡ Some (given reply later last more asked)

-- the entropy failed, and the line wants more than was drawn, whatever the store would answer
pub record IsUndrawn (give : RepliesBy) (unsaved : Bool) (keys : Keys) (line : List ℕ) (old new : EntropyState)
    : Type 0 where
  pub rose : Rose old.faults new.faults
  pub drawn : List ℕ
  pub gone : DrewLosing old new drawn
  pub undecided : (answers : StoreAnswers) (first : List FileAsked) → give answers first unsaved keys line drawn ≡ None

-- why a line has no reply
abbrev pub IsUnreplied : RepliesBy → (unsaved : Bool) → Keys → (line : List ℕ) → LineFault → (old new : EntropyState) → Type 0
IsUnreplied give unsaved keys line line_faults.EntropyFault old new = IsUndrawn give unsaved keys line old new
IsUnreplied give unsaved keys line line_faults.NoMemory old new = DrewSome old new

-- ---- a piece

-- Bytes were taken, and the lines among them answered; the replies were written, or are held back. What
-- the bytes do to a session is `takes`.
pub record Fed (give : RepliesBy) (start : Start) (last : Point) (takes : Replies → Talk → Talk)
    (old new : Outside) : Type 0 where
  pub drawn : List ℕ
  pub written : List ℕ
  pub asked : List FileAsked
  pub drew : Drew old.entropy new.entropy drawn
  pub held_back : HoldsBack old.sink new.sink old.held new.held written
  pub asks : Asks asked old.store new.store
  pub no_draw_fault : Stood old.entropy.faults new.entropy.faults
  pub no_write_fault : Stood old.sink.faults new.sink.faults
  pub is : (answers : StoreAnswers) (output : List ℕ) (before : List FileAsked) → Agrees answers before asked
      → takes (give answers) (start output before drawn)
      ≡ from last (output ++ written) (before ++ asked) []

-- what some bytes do to a session that starts there, with these random bytes, comes to stand so
abbrev pub ComesTo : (give : RepliesBy) (start : Start) (takes : Replies → Talk → Talk) (stop : Stop)
    (drawn written : List ℕ) (asked : List FileAsked) → Type 0
ComesTo give start takes stop drawn written asked =
    (answers : StoreAnswers) (output : List ℕ) (before : List FileAsked) → Agrees answers before asked
    → Stands (takes (give answers) (start output before drawn)) stop (output ++ written) (before ++ asked)

-- or it has these replies and files asked for at first
abbrev pub ComesBy : (give : RepliesBy) (start : Start) (takes : Replies → Talk → Talk)
    (drawn written : List ℕ) (asked : List FileAsked) → Type 0
ComesBy give start takes drawn written asked =
    (answers : StoreAnswers) (output : List ℕ) (before : List FileAsked) → Agrees answers before asked
    → Begins (takes (give answers) (start output before drawn)) (output ++ written) (before ++ asked)

-- Something of them ended the session, and no reply is held back any more. Where memory was refused,
-- `Leaves` says how it stands with the bytes drawn and written and the files asked for before. Where a write
-- failed, there may be lines that weren't answered.
pub data Stopped (give : RepliesBy) (start : Start) (takes : Replies → Talk → Talk)
    (Leaves : (drawn written : List ℕ) (asked : List FileAsked) → Type 0) (fault : TalkFault)
    (old new : Outside) : Type 0 where
  past : (drawn written : List ℕ) (asked : List FileAsked) (limit : Limit) → fault ≡ limit_fault limit
      → Drew old.entropy new.entropy drawn → Took old.sink new.sink (old.held ++ written)
      → Asks asked old.store new.store
      → ComesTo give start takes (passes limit) drawn written asked
      → Stood old.entropy.faults new.entropy.faults → Stood old.sink.faults new.sink.faults
      → Stopped give start takes Leaves fault old new
  dry : (drawn written : List ℕ) (asked : List FileAsked) → fault ≡ faults.EntropyFault
      → DrewLosing old.entropy new.entropy drawn → Took old.sink new.sink (old.held ++ written)
      → Asks asked old.store new.store → ComesTo give start takes wants drawn written asked
      → Rose old.entropy.faults new.entropy.faults → Stood old.sink.faults new.sink.faults
      → Stopped give start takes Leaves fault old new
  torn : (drawn written : List ℕ) (asked : List FileAsked) → fault ≡ faults.WriteFault
      → Drew old.entropy new.entropy drawn → TookPrefix old.sink new.sink (old.held ++ written)
      → Asks asked old.store new.store → ComesBy give start takes drawn written asked
      → Stood old.entropy.faults new.entropy.faults → Rose old.sink.faults new.sink.faults
      → Stopped give start takes Leaves fault old new
  full : (drawn part written : List ℕ) (asked : List FileAsked) → fault ≡ faults.NoMemory
      → Drew old.entropy new.entropy (drawn ++ part) → Took old.sink new.sink (old.held ++ written)
      → Asks asked old.store new.store → Leaves drawn written asked
      → Stood old.entropy.faults new.entropy.faults → Stood old.sink.faults new.sink.faults
      → Stopped give start takes Leaves fault old new

-- memory was refused in a line
abbrev pub InLine : (drawn written : List ℕ) (asked : List FileAsked) → Type 0
InLine drawn written asked = (drawn ≡ []) × (written ≡ []) × (asked ≡ [])

-- bytes of the input
abbrev pub taking : (piece : List ℕ) → Replies → Talk → Talk
taking piece give x = over give x piece

-- memory was refused behind the first of these bytes
pub record InPiece (give : RepliesBy) (start : Start) (piece : List ℕ) (drawn written : List ℕ)
    (asked : List FileAsked) : Type 0 where
  pub first : List ℕ
  pub more : List ℕ
  pub whole : first ++ more ≡ piece
  pub goes' : ComesTo give start (taking first) goes drawn written asked

-- the end of the input
abbrev pub ending : Replies → Talk → Talk
ending give x = finish give true x

-- the last line was answered, or there was none, and no reply is held back any more
pub record Finished (give : RepliesBy) (start : Start) (keys : Keys) (old new : Outside) : Type 0 where
  pub drawn : List ℕ
  pub written : List ℕ
  pub asked : List FileAsked
  pub drew : Drew old.entropy new.entropy drawn
  pub took : Took old.sink new.sink (old.held ++ written)
  pub asks : Asks asked old.store new.store
  pub no_draw_fault : Stood old.entropy.faults new.entropy.faults
  pub no_write_fault : Stood old.sink.faults new.sink.faults
  pub goes' : ComesTo give start ending goes drawn written asked
  pub last : (answers : StoreAnswers) (output : List ℕ) (before : List FileAsked) → Agrees answers before asked
      → (ending (give answers) (start output before drawn)).keys ≡ keys
