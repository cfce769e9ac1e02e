-- The laws of edits, for every keyset and all random bytes.
use Rattle.std.specs.Prelude.{◌≡◌, ◌≢◌, ℕ, ◌<◌, ◌≤◌, ◌^◌, List, [], ◌∷◌, ◌++◌, length, false, Some, None, Ok, Err, Contains}
use Rattle.std.specs.List.{AllByRecursion}
use Rattle.key_msgs.specs.Templates.{Row, templates}
use Rattle.keyset_model.specs.declared.record.Record.{Record}
use Rattle.keyset_model.specs.Keyset.{Keys, is_in, fault_of}
use Rattle.keyset_model.specs.Writing.{HasWireBounds}
use Rattle.tinkey_cmds.specs.declared.command.EditRefusal.{EditRefusal}
use Rattle.tinkey_cmds.specs.declared.command.EditRefusal.TheVariants.{IdsExhausted}
use Rattle.tinkey_cmds.specs.Draws.{Draw, Drawn, answered}
use Rattle.tinkey_cmds.specs.Edits.{Edit, Add, Rotate, Promote, Enable, Disable, Destroy, Delete, Stepped, step, first, with_status, destroyed}

-- a row of the table of templates
abbrev pub IsTemplate : Row → Type 0
IsTemplate row = Contains templates row

-- the edit's template, if it has one, is a row of the table
abbrev pub HasTemplate : Edit → Type 0
HasTemplate (Add row) = IsTemplate row
HasTemplate (Rotate row) = IsTemplate row
HasTemplate edit = Unit {0}

-- An accepted edit of a keyset without a fault gives one without a fault.
abbrev pub EditsKeepKeysets : Type 0
EditsKeepKeysets = (old new : Keys) (edit : Edit) (random : List ℕ) (s : Stepped)
    → HasTemplate edit → fault_of old ≡ None → step old edit random ≡ Some s → s.answer ≡ Ok new
    → fault_of new ≡ None

-- So is the first keyset of a template.
abbrev pub FirstsAreKeysets : Type 0
FirstsAreKeysets = (new : Keys) (row : Row) (random : List ℕ) (s : Stepped)
    → IsTemplate row → first row random ≡ Some s → s.answer ≡ Ok new
    → fault_of new ≡ None

-- An accepted edit keeps the bounds of records.
abbrev pub EditsKeepBounds : Type 0
EditsKeepBounds = (old new : Keys) (edit : Edit) (random : List ℕ) (s : Stepped)
    → HasTemplate edit → AllByRecursion HasWireBounds old.records
    → step old edit random ≡ Some s → s.answer ≡ Ok new
    → AllByRecursion HasWireBounds new.records

-- So has the record of the first keyset of a template.
abbrev pub FirstsHaveBounds : Type 0
FirstsHaveBounds = (new : Keys) (row : Row) (random : List ℕ) (s : Stepped)
    → IsTemplate row → first row random ≡ Some s → s.answer ≡ Ok new
    → AllByRecursion HasWireBounds new.records

-- where a record comes from: it is an old one but for its status, an old one destroyed, or the
-- new one
pub data Comes (old : List Record) (fresh : List Record) (r : Record) : Type 0 where
  stayed : (before : Record) → Contains old before → r ≡ with_status r.status before
      → Comes old fresh r
  was_destroyed : (before : Record) → Contains old before → r ≡ destroyed before → Comes old fresh r
  is_new : Contains fresh r → Comes old fresh r

-- an id that a new record may have
pub record IsFree (records : List Record) (id : ℕ) : Type 0 where
  pub unused : is_in records id ≡ false
  pub some : id ≢ 0
  pub word : id < 2 ^ 32

-- each record comes from an old one or is the new one, whose id was not in use
pub record Follows (old new : Keys) : Type 0 where
  pub fresh : List Record
  pub one : length fresh ≤ 1
  pub free : AllByRecursion (λ r. IsFree old.records r.id) fresh
  pub each : AllByRecursion (Comes old.records fresh) new.records

-- So it is after an accepted edit.
abbrev pub EditsFollow : Type 0
EditsFollow = (old new : Keys) (edit : Edit) (random : List ℕ) (s : Stepped)
    → step old edit random ≡ Some s → s.answer ≡ Ok new → Follows old new

-- where the first record of an id stands among records
pub record Stands (records : List Record) (id : ℕ) : Type 0 where
  pub before : List Record
  pub named : Record
  pub after : List Record
  pub whole : records ≡ before ++ named ∷ after
  pub has : named.id ≡ id
  pub first : is_in before id ≡ false

-- in the place of that record another stands, and all else is as it was
abbrev pub Replaces : (Record → Record) → ℕ → (old new : List Record) → Type 0
Replaces change id old new =
    (s : Stands old id) × (new ≡ s.before ++ change s.named ∷ s.after)

-- every record that an edit doesn't name is as it was, and in its place
abbrev pub LeavesOthers : Keys → Edit → Keys → Type 0
LeavesOthers old (Add row) new = (r : Record) × (new.records ≡ old.records ++ r ∷ [])
LeavesOthers old (Rotate row) new = (r : Record) × (new.records ≡ old.records ++ r ∷ [])
LeavesOthers old (Promote id) new = new.records ≡ old.records
LeavesOthers old (Enable id) new = Replaces (with_status 1) id old.records new.records
LeavesOthers old (Disable id) new = Replaces (with_status 2) id old.records new.records
LeavesOthers old (Destroy id) new = Replaces destroyed id old.records new.records
LeavesOthers old (Delete id) new =
    (s : Stands old.records id) × (new.records ≡ s.before ++ s.after)

-- So it is after an accepted edit.
abbrev pub EditsLeaveOthers : Type 0
EditsLeaveOthers = (old new : Keys) (edit : Edit) (random : List ℕ) (s : Stepped)
    → step old edit random ≡ Some s → s.answer ≡ Ok new → LeavesOthers old edit new

-- Promote makes the id that it names the primary one, and Rotate that of the new record; any other
-- edit leaves the primary id.
abbrev pub HasPrimary : Keys → Edit → Keys → Type 0
HasPrimary old (Promote id) new = new.primary ≡ id
HasPrimary old (Rotate row) new =
    (r : Record) × (new.records ≡ old.records ++ r ∷ []) × (new.primary ≡ r.id)
HasPrimary old edit new = new.primary ≡ old.primary

-- So the primary id is after an accepted edit.
abbrev pub EditsKeepThePrimary : Type 0
EditsKeepThePrimary = (old new : Keys) (edit : Edit) (random : List ℕ) (s : Stepped)
    → step old edit random ≡ Some s → s.answer ≡ Ok new → HasPrimary old edit new

-- The bytes drawn stand in front of those left, and whatever stands behind them, the answer is the
-- same.
abbrev pub DrawsFronts : {A : Type 0} → Draw A → Type 0
DrawsFronts {A} give = (random : List ℕ) (s : Drawn A) → give random ≡ Some s
    → (drawn : List ℕ) × (random ≡ drawn ++ s.left)
    × ((more : List ℕ) → give (drawn ++ more) ≡ answered s.answer more)

-- So it is with edits and first keysets.
abbrev pub EditsDrawFronts : Type 0
EditsDrawFronts =
    ((keys : Keys) (edit : Edit) → DrawsFronts (step keys edit))
    × ((row : Row) → DrawsFronts (first row))

-- A refusal leaves all bytes, unless no draw gave a new id.
abbrev pub RefusalsDrawNothing : Type 0
RefusalsDrawNothing = (keys : Keys) (edit : Edit) (random : List ℕ) (s : Stepped) (fault : EditRefusal)
    → step keys edit random ≡ Some s → s.answer ≡ Err fault → fault ≢ IdsExhausted → s.left ≡ random
