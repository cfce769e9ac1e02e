-- What no edit takes away: a key that is ENABLED and alone under its prefix.
--
--   Spares          an edit disables, destroys or deletes no key of this id
--   EnablesNoOther  and puts no other key under the prefix of this record
--   SparesKey       both
--   EachAccepted    a claim on each accepted edit of a list, over the keyset that those before it left
--   HasDistinctIds  no two records of a keyset have one id
--   HasData         all that makes a key is there, with any status
use Rattle.std.specs.Prelude.{◌≡◌, ◌≢◌, ℕ, nat_eq, List, [], ◌∷◌, map, slice_get, Some, Ok, IfSome, IfOk}
use Rattle.std.specs.List.{AllByRecursion, IsDistinct}
use Rattle.key_msgs.specs.Templates.{Row}
use Rattle.keyset_model.specs.Keyset.{Keys}
use Rattle.keyset_model.specs.declared.record.Record.{Record}
use Rattle.tinkey_cmds.specs.Edits.{EditOf, Edit, Enable, Disable, Destroy, Delete, Stepped, first, named, step, with_status}
use Rattle.tinkey_session.specs.Laws.{Asked, after, kept}
use Rattle.wrapped_prims.specs.Candidates.{prefix_of}
use Rattle.wrapped_prims.specs.Laws.{HasKey, HasSameKey}
use Rattle.wrapped_prims.specs.Making.{HasWordId}

-- the edit doesn't disable, destroy or delete the key of this id
abbrev pub Spares : {A : Type 0} → ℕ → EditOf A → Type 0
Spares id (Disable other) = other ≢ id
Spares id (Destroy other) = other ≢ id
Spares id (Delete other) = other ≢ id
Spares id edit = Unit {0}

-- The edit enables no other key under the prefix of this record. Where the key that it names has that
-- prefix, it is ENABLED already: it is the one that is alone there.
abbrev pub EnablesNoOther : {A : Type 0} → Record → Keys → EditOf A → Type 0
EnablesNoOther r keys (Enable id) =
    (other : Record) → named keys id ≡ Some other → prefix_of other ≡ prefix_of r → other.status ≡ 1
EnablesNoOther r keys edit = Unit {0}

-- an edit over this keyset spares the key of this record in both ways
pub record SparesKey {A : Type 0} (r : Record) (keys : Keys) (edit : EditOf A) : Type 0 where
  pub spares : Spares r.id edit
  pub no_other : EnablesNoOther r keys edit

-- The claim holds of each accepted edit of a list, over the keyset that those before it left. A refused one
-- leaves the keyset, so nothing is asked of it.
unfoldable pub EachAccepted : (Keys → Edit → Type 0) → Keys → List Asked → Type 0
EachAccepted Claim keys [] = Unit {0}
EachAccepted Claim keys (asked ∷ later) = IfSome (step keys asked.edit asked.random) (λ s.
    IfOk s.answer (λ new. Claim keys asked.edit) × EachAccepted Claim (kept keys s.answer) later)

-- A key with a prefix that is ENABLED and alone under it stays so, with the same id, prefix, URL and
-- value, over any edit: where it is accepted, it doesn't disable, destroy or delete the key's id, and doesn't
-- enable another key under its prefix. The edit may be of any template: a new key has an id that no record
-- has, and so another prefix.
abbrev pub KeptByEdits : Type 0
KeptByEdits = (keys : Keys) (r : Record) (prefix : List ℕ) (edit : Edit) (random : List ℕ)
    (s : Stepped) → HasWordId r → prefix_of r ≡ Some prefix → HasSameKey r keys
    → step keys edit random ≡ Some s → IfOk s.answer (λ new. SparesKey r keys edit)
    → HasSameKey r (kept keys s.answer)

-- So it does over any list of edits.
abbrev pub KeptByAllEdits : Type 0
KeptByAllEdits = (old new : Keys) (r : Record) (prefix : List ℕ) (edits : List Asked)
    → HasWordId r → prefix_of r ≡ Some prefix → HasSameKey r old
    → EachAccepted (SparesKey r) old edits → after old edits ≡ Some new
    → HasSameKey r new

-- ---- distinct ids

-- no two records have one id
abbrev pub HasDistinctIds : Keys → Type 0
HasDistinctIds keys = IsDistinct nat_eq (map (λ r. r.id) keys.records)

-- A keyset whose ids are distinct has distinct ids after any edit, accepted or refused.
abbrev pub IdsStayDistinct : Type 0
IdsStayDistinct = (keys : Keys) (edit : Edit) (random : List ℕ) (s : Stepped)
    → HasDistinctIds keys → step keys edit random ≡ Some s
    → HasDistinctIds (kept keys s.answer)

-- So it has after any list of edits.
abbrev pub AllIdsStayDistinct : Type 0
AllIdsStayDistinct = (old new : Keys) (edits : List Asked)
    → HasDistinctIds old → after old edits ≡ Some new
    → HasDistinctIds new

-- The first keyset of a template has distinct ids.
abbrev pub FirstsHaveDistinctIds : Type 0
FirstsHaveDistinctIds = (new : Keys) (row : Row) (random : List ℕ) (s : Stepped)
    → first row random ≡ Some s → s.answer ≡ Ok new → HasDistinctIds new

-- Where ids are distinct, and of 32 bits, no edit enables another key under the prefix of one that is
-- ENABLED and alone under it.
abbrev pub NoOtherToEnable : Type 0
NoOtherToEnable = (keys : Keys) (r : Record) (prefix : List ℕ) (edit : Edit)
    → HasDistinctIds keys → AllByRecursion HasWordId keys.records
    → prefix_of r ≡ Some prefix → HasSameKey r keys
    → EnablesNoOther r keys edit

-- So only an accepted edit that disables, destroys or deletes its own id takes a key with a prefix away.
abbrev pub KeptByItsId : Type 0
KeptByItsId = (old new : Keys) (r : Record) (prefix : List ℕ) (edits : List Asked)
    → HasDistinctIds old → AllByRecursion HasWordId old.records
    → prefix_of r ≡ Some prefix → HasSameKey r old
    → EachAccepted (λ keys. Spares r.id) old edits → after old edits ≡ Some new
    → HasSameKey r new

-- Where ids are distinct, and of 32 bits, each ENABLED key with a prefix is alone under it.
abbrev pub EnabledIsAlone : Type 0
EnabledIsAlone = (keys : Keys) (r : Record) (prefix : List ℕ)
    → HasDistinctIds keys → AllByRecursion HasWordId keys.records
    → prefix_of r ≡ Some prefix → HasKey r keys
    → HasSameKey r keys

-- ---- a key that was disabled

-- the keyset has all that makes the key of that record, with any status
pub record HasData (r : Record) (keys : Keys) : Type 0 where
  pub place : ℕ
  pub other : Record
  pub there : slice_get keys.records place ≡ Some other
  pub data' : with_status r.status other ≡ r

-- the edit doesn't destroy or delete the key of this id
abbrev pub SparesData : {A : Type 0} → ℕ → EditOf A → Type 0
SparesData id (Destroy other) = other ≢ id
SparesData id (Delete other) = other ≢ id
SparesData id edit = Unit {0}

-- All that makes a key stays over any edit that, where it is accepted, doesn't destroy or delete its id;
-- also where it disables it.
abbrev pub DataStays : Type 0
DataStays = (keys : Keys) (r : Record) (edit : Edit) (random : List ℕ) (s : Stepped)
    → HasData r keys → step keys edit random ≡ Some s → IfOk s.answer (λ new. SparesData r.id edit)
    → HasData r (kept keys s.answer)

-- Where ids are distinct, and of 32 bits, an edit that enables a key with a prefix gives it back: it is
-- ENABLED and alone under its prefix again.
abbrev pub EnableGivesBack : Type 0
EnableGivesBack = (old new : Keys) (r : Record) (prefix random : List ℕ) (s : Stepped)
    → HasDistinctIds old → AllByRecursion HasWordId old.records
    → prefix_of r ≡ Some prefix → HasData r old
    → step old (Enable r.id) random ≡ Some s → s.answer ≡ Ok new
    → HasSameKey r new
