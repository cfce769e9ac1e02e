-- Texts that were resealed: each time opened over a keyset that has the key under which the text is sealed,
-- and sealed again under the primary key of that keyset. The earlier keys aren't needed then.
--
--   made_over       the keyset over which something was made
--   SealedText      a text, and the record under whose key it is sealed
--   AreResealed     texts, each of which was made of the one before it
--   ResealedOpens   the law, and the same without an IV
--   AreEnvelopesResealed    envelopes, each of which was made of the one before it
--   ResealedEnvelopesOpen   the law for them
use Rattle.std.specs.Prelude.{◌≡◌, ℕ, List, [], ◌∷◌, Some}
use Rattle.keyset_model.specs.Keyset.{Keys, primary_of}
use Rattle.keyset_model.specs.declared.record.Record.{Record}
use Rattle.wrapped_prims.specs.Candidates.{prefix_of}
use Rattle.wrapped_prims.specs.Laws.{HasSameKey}
use Rattle.tinkey_plans.specs.Plan.{Told}
use Rattle.tinkey_readable.specs.Anywhere.{IsReadAnywhere, ServesEnvelopes, WasMadeBy, by_call, by_line, by_locked, by_locked_line, by_run}
use Rattle.tinkey_readable.specs.EnvelopeRuns.{IsEnveloped, MakeOneType, WasEnveloped}
use Rattle.tinkey_readable.specs.Lying.{Lies, Lying}
use Rattle.tinkey_words.specs.Words.{AskedWork, to_eopen, to_ereseal, to_eseal, to_dopen, to_dreseal, to_dseal, to_open, to_reseal, to_seal}

-- the keyset over which this was made
abbrev pub made_over : {work : AskedWork} → {input output : List ℕ} → {r : Record}
    → WasMadeBy work input output r → Keys
made_over (by_run before old read told was same primary) = old
made_over (by_locked master text over old read gives told was same primary) = old
made_over (by_line before told t has short line reply primary) = t.before
made_over (by_locked_line master text told t has short line reply primary) = t.before
made_over (by_call was short) = was.keys

-- a text, and the primary record under whose key it was sealed
pub record SealedText : Type 0 where
  pub bytes : List ℕ
  pub under' : Record

-- by a run or a line that did this work the new text was made of the old one, over a keyset in which the old
-- one's key, which has a prefix, is ENABLED and alone under it
pub record IsResealed (work : AskedWork) (old new : SealedText) : Type 0 where
  pub prefix : List ℕ
  pub has : prefix_of old.under' ≡ Some prefix
  pub made : WasMadeBy work old.bytes new.bytes new.under'
  pub there : HasSameKey old.under' (made_over made)

-- each of these texts was made so of the one before it, the first of them of this text, and the last is that
unfoldable pub AreResealed : AskedWork → (first : SealedText) → List SealedText → (last : SealedText)
    → Type 0
AreResealed work first [] last = first ≡ last
AreResealed work first (next ∷ later) last =
    IsResealed work first next × AreResealed work next later last

-- What was sealed, and then resealed any number of times, opens to its plaintext with its associated data,
-- under each keyset that serves AEADs and in which the key of the last resealing is ENABLED and alone under
-- its prefix, whatever became of the keys before it.
abbrev pub ResealedOpens : Type 0
ResealedOpens = (ad plain prefix : List ℕ) (first last : SealedText) (between : List SealedText)
    → WasMadeBy (to_seal ad) plain first.bytes first.under'
    → AreResealed (to_reseal ad) first between last → prefix_of last.under' ≡ Some prefix
    → IsReadAnywhere HasSameKey (to_open ad) last.bytes plain last.under'

-- the same without an IV
abbrev pub ResealedDopens : Type 0
ResealedDopens = (ad plain prefix : List ℕ) (first last : SealedText) (between : List SealedText)
    → WasMadeBy (to_dseal ad) plain first.bytes first.under'
    → AreResealed (to_dreseal ad) first between last → prefix_of last.under' ≡ Some prefix
    → IsReadAnywhere HasSameKey (to_dopen ad) last.bytes plain last.under'

-- A run of ereseal made the new envelope of the old one, by a template that makes keys of the same type as the
-- data key, over a keyset in clear or under a master, in which the old one's key, which has a prefix, is ENABLED
-- and alone under it.
pub record IsEnvelopeResealed (template : List ℕ) (old new : SealedText) : Type 0 where
  pub prefix : List ℕ
  pub has : prefix_of old.under' ≡ Some prefix
  pub lying : Lying
  pub keys : Keys
  pub lies : Lies lying keys
  pub primary : primary_of keys ≡ Some new.under'
  pub again : List ℕ
  pub alike : MakeOneType template again
  pub told : Told
  pub was : WasEnveloped to_ereseal again lying told new.bytes
  pub same : told.input ≡ old.bytes
  pub there : HasSameKey old.under' keys

-- each of these envelopes was made so of the one before it, the first of them of this one, and the last is that
unfoldable pub AreEnvelopesResealed : (template : List ℕ) → (first : SealedText) → List SealedText
    → (last : SealedText) → Type 0
AreEnvelopesResealed template first [] last = first ≡ last
AreEnvelopesResealed template first (next ∷ later) last =
    IsEnvelopeResealed template first next × AreEnvelopesResealed template next later last

-- What was sealed in an envelope, and whose data key was then resealed any number of times, opens to its
-- plaintext with its associated data, by any template of its data key's type, under each keyset that serves
-- AEADs and in which the key of the last resealing is ENABLED and alone under its prefix, whatever became of
-- the keys before it. The keysets lie in clear or under masters.
abbrev pub ResealedEnvelopesOpen : Type 0
ResealedEnvelopesOpen = (before other : Lying) (old keys : Keys) (prefix template again ad : List ℕ)
    (told : Told) (first last : SealedText) (between : List SealedText)
    → Lies before old → primary_of old ≡ Some first.under'
    → WasEnveloped (to_eseal ad) template before told first.bytes
    → AreEnvelopesResealed template first between last → MakeOneType template again
    → prefix_of last.under' ≡ Some prefix
    → ServesEnvelopes other keys → HasSameKey last.under' keys
    → IsEnveloped (to_eopen ad) again other last.bytes told.input
