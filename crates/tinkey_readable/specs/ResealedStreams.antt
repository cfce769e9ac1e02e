-- Streams that were resealed: each time by a run over a keyset that has the key under which the stream is
-- sealed, before which no other key opens its first segment, and sealed again under the primary key of that
-- keyset. The earlier keys aren't needed then.
--
--   WasStreamResealed     a run of sreseal was Done, and put out this stream
--   AreStreamsResealed    streams, each of which was made of the one before it
--   ResealedStreamsOpen   the law
use Rattle.std.specs.Prelude.{◌≡◌, ℕ, List, [], ◌∷◌, Option, Some}
use Rattle.keyset_model.specs.Keyset.{Keys, primary_of}
use Rattle.managers.specs.Standard.{standard_table}
use Rattle.wrapped_prims.specs.Laws.{HasKey}
use Rattle.tinkey_plans.specs.declared.status.Status.TheVariants as status
use Rattle.tinkey_plans.specs.Commands.{command_plan}
use Rattle.tinkey_plans.specs.Plan.{Answer, Told, answer}
use Rattle.tinkey_words.specs.Words.{reseal_stream}
use Rattle.tinkey_readable.specs.Anywhere.{ServesStreams}
use Rattle.tinkey_readable.specs.Lying.{Lies, LiesAs, Lying, lock_in}
use Rattle.tinkey_readable.specs.Resealing.{SealedText}
use Rattle.tinkey_readable.specs.Runs.{bytes_at}
use Rattle.tinkey_readable.specs.StreamRuns.{IsOpened, NoOtherBefore, WasSealed}

-- the answer of sreseal, by the keys of the keyset that lies in the file of this name, under the master, if
-- there is one, that lies in the file of the lock
abbrev pub sreseal_answer : (ad : List ℕ) → (out : Option (List ℕ)) → Lying → (lock name : List ℕ) → Told
    → Answer
sreseal_answer ad out lying lock name told =
    answer (command_plan standard_table
    (reseal_stream (lock_in lying.master lock) name lying.text.form ad out)) told

-- a run of sreseal over a keyset was answered Done, and put this stream, to standard output or into a new file
pub record WasStreamResealed (ad : List ℕ) (lying : Lying) (told : Told) (stream : List ℕ) : Type 0
  where
    pub lock : List ℕ
    pub name : List ℕ
    pub out : Option (List ℕ)
    pub lies : LiesAs lying told lock name
    pub done : (sreseal_answer ad out lying lock name told).status ≡ status.Done
    pub gave : let a = sreseal_answer ad out lying lock name told in
        bytes_at out a.files a.output ≡ Some stream

-- A run of sreseal made the new stream of the old one, over a keyset in clear or under a master, in which the
-- old one's key is ENABLED and no other key before it opens the old one's first segment.
pub record IsStreamResealed (ad : List ℕ) (old new : SealedText) : Type 0 where
  pub lying : Lying
  pub keys : Keys
  pub lies : Lies lying keys
  pub primary : primary_of keys ≡ Some new.under'
  pub told : Told
  pub was : WasStreamResealed ad lying told new.bytes
  pub same : told.input ≡ old.bytes
  pub has : HasKey old.under' keys
  pub only : NoOtherBefore old.under' has.place ad old.bytes keys

-- each of these streams was made so of the one before it, the first of them of this one, and the last is that
unfoldable pub AreStreamsResealed : (ad : List ℕ) → (first : SealedText) → List SealedText
    → (last : SealedText) → Type 0
AreStreamsResealed ad first [] last = first ≡ last
AreStreamsResealed ad first (next ∷ later) last =
    IsStreamResealed ad first next × AreStreamsResealed ad next later last

-- What was sealed as a stream, and then resealed any number of times, opens to its plaintext with its
-- associated data, under each keyset that serves streams and in which the key of the last resealing is
-- ENABLED, where no other key before it opens the last stream's first segment, whatever became of the keys
-- before it. The keysets lie in clear or under masters.
abbrev pub ResealedStreamsOpen : Type 0
ResealedStreamsOpen = (before other : Lying) (old keys : Keys) (ad : List ℕ) (told : Told)
    (first last : SealedText) (between : List SealedText)
    → Lies before old → primary_of old ≡ Some first.under' → WasSealed ad before told first.bytes
    → AreStreamsResealed ad first between last
    → ServesStreams other keys → (has : HasKey last.under' keys)
    → NoOtherBefore last.under' has.place ad last.bytes keys
    → IsOpened ad other last.bytes told.input
