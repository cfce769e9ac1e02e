-- How a session over the outside objects may end, whatever fails.
--
--   Talks       over a source, a sink and an entropy
--   HasAsked    the files that it asked for
--   TalksWith   over a store, too
--   IsSteady    what is settled stays so
use Rattle.std.specs.Prelude.{◌≡◌, ◌≢◌, ℕ, List, [], ◌++◌, Bool, true, false, Result, Ok, Err}
use Rattle.keyset_model.specs.Keyset.{Keys}
use Rattle.tink_spec.specs.Outside.{SourceState, SinkState, EntropyState, Rose, Stood, Gave, Took, TookPrefix, Drew, DrewLosing, IsAtEnd}
use Rattle.tink_spec.specs.Files.{StoreState}
use Rattle.tinkey_session.specs.Saving.{Agrees, FileAsked, Asks, StoreAnswers}
use Rattle.tinkey_session.specs.Talking.{Exchange, Limit, long_line, many_lines, Stop, goes, wants, passes}
use Rattle.tinkey_session.specs.declared.talk.TalkFault.{TalkFault}
use Rattle.tinkey_session.specs.declared.talk.TalkFault.TheVariants as faults

-- the objects of a session at one moment
pub record Sides : Type 0 where
  pub source : SourceState
  pub sink : SinkState
  pub entropy : EntropyState

-- source, sink and entropy at one moment
abbrev pub sides : SourceState → SinkState → EntropyState → Sides
sides source sink entropy = record { source = source; sink = sink; entropy = entropy }

-- These bytes were taken and drawn, no more random bytes than the session uses, and all replies to
-- the lines among them were written. `Draws` says whether more may be lost behind those drawn.
pub record HasTalked (Draws : (old new : EntropyState) → (drawn : List ℕ) → Type 0)
    (talk : Exchange) (taken drawn : List ℕ) (ended : Bool) (stop : Stop) (old new : Sides)
    : Type 0 where
  pub gave : Gave old.source new.source taken
  pub drew : Draws old.entropy new.entropy drawn
  pub took : Took old.sink new.sink (talk taken drawn ended).output
  pub stands : (talk taken drawn ended).stop ≡ stop
  pub used : (talk taken drawn ended).random ≡ []
  pub end : ended ≡ true → IsAtEnd new.source

-- no call of an object failed
pub record NoneRose (old new : Sides) : Type 0 where
  pub read : Stood old.source.faults new.source.faults
  pub write : Stood old.sink.faults new.sink.faults
  pub draw : Stood old.entropy.faults new.entropy.faults

-- the fault that tells a limit
abbrev pub limit_fault : Limit → TalkFault
limit_fault long_line = faults.LineTooLong
limit_fault many_lines = faults.TooManyLines

-- a session over these objects came to this result
pub data Talks (talk : Exchange) (result : Result Keys TalkFault) (old new : Sides) : Type 0 where
  -- the input ended, and the last keyset is answered
  talked : (taken drawn : List ℕ) → result ≡ Ok (talk taken drawn true).keys
      → HasTalked Drew talk taken drawn true goes old new → NoneRose old new
      → Talks talk result old new
  -- the bytes taken are past a limit
  passed : (taken drawn : List ℕ) (limit : Limit) → result ≡ Err (limit_fault limit)
      → HasTalked Drew talk taken drawn false (passes limit) old new → NoneRose old new
      → Talks talk result old new
  -- a read failed, and nothing is left to write
  unread : (taken drawn : List ℕ) → result ≡ Err faults.ReadFault
      → HasTalked Drew talk taken drawn false goes old new → Rose old.source.faults new.source.faults
      → Stood old.sink.faults new.sink.faults → Stood old.entropy.faults new.entropy.faults
      → Talks talk result old new
  -- the entropy failed, and the line wants more than was drawn; behind that some may be lost
  undrawn : (taken drawn : List ℕ) (ended : Bool) → result ≡ Err faults.EntropyFault
      → HasTalked DrewLosing talk taken drawn ended wants old new
      → Rose old.entropy.faults new.entropy.faults
      → Stood old.source.faults new.source.faults → Stood old.sink.faults new.sink.faults
      → Talks talk result old new
  -- a write failed, and a byte of the replies to the lines taken is still to come
  unwritten : (taken drawn : List ℕ) (ended : Bool) → result ≡ Err faults.WriteFault
      → Gave old.source new.source taken → Drew old.entropy new.entropy drawn
      → TookPrefix old.sink new.sink (talk taken drawn ended).output
      → (ended ≡ true → IsAtEnd new.source) → Rose old.sink.faults new.sink.faults
      → Stood old.source.faults new.source.faults → Stood old.entropy.faults new.entropy.faults
      → Talks talk result old new
  -- memory was refused behind some of the bytes taken, the replies to which were written
  starved : (taken more drawn part : List ℕ) → result ≡ Err faults.NoMemory
      → Gave old.source new.source (taken ++ more) → Drew old.entropy new.entropy (drawn ++ part)
      → Took old.sink new.sink (talk taken drawn false).output
      → (talk taken drawn false).stop ≡ goes → NoneRose old new
      → Talks talk result old new

-- These are the files that the lines taken asked for. If a write failed, the last lines taken may not have been answered,
-- and then they asked for none.
abbrev pub HasAsked : (talk : Exchange) (result : Result Keys TalkFault) (old new : Sides) → List FileAsked
    → Talks talk result old new → Type 0
HasAsked talk result old new asked (talked taken drawn is has none) =
    (talk taken drawn true).asked ≡ asked
HasAsked talk result old new asked (passed taken drawn limit is has none) =
    (talk taken drawn false).asked ≡ asked
HasAsked talk result old new asked (unread taken drawn is has rose sink entropy) =
    (talk taken drawn false).asked ≡ asked
HasAsked talk result old new asked (undrawn taken drawn ended is has rose source sink) =
    (talk taken drawn ended).asked ≡ asked
HasAsked talk result old new asked (unwritten taken drawn ended is gave drew took end rose source entropy) =
    (later : List FileAsked) × ((talk taken drawn ended).asked ≡ asked ++ later)
HasAsked talk result old new asked (starved taken more drawn part is gave drew took stop none) =
    (talk taken drawn false).asked ≡ asked

-- A session over these objects and a store came to this result, where what a session is depends on what its store
-- answers. These files were asked for, one after another, and under any store that answers so, it is that session.
pub record TalksWith (talk : StoreAnswers → Exchange) (result : Result Keys TalkFault) (old new : Sides)
    (before after : StoreState) : Type 0 where
  pub asked : List FileAsked
  pub asks : Asks asked before after
  pub talks : (answers : StoreAnswers) → Agrees answers [] asked → (so : Talks (talk answers) result old new)
      × HasAsked (talk answers) result old new asked so

-- What is settled stays so. Behind random bytes that suffice, more of them change nothing; and past
-- a limit, nothing that follows matters.
pub record IsSteady (talk : Exchange) : Type 0 where
  pub random : (taken drawn more : List ℕ) (ended : Bool) → (talk taken drawn ended).stop ≢ wants
      → talk taken (drawn ++ more) ended
      ≡ record (talk taken drawn ended) { random = (talk taken drawn ended).random ++ more }
  pub lasts : (taken more drawn : List ℕ) (limit : Limit)
      → (talk taken drawn false).stop ≡ passes limit
      → talk (taken ++ more) drawn true ≡ talk taken drawn false
