-- The keys that lines need, what a session keeps of them, and the edits that lines ask for.
use Rattle.std.specs.Prelude.{◌≡◌, ℕ, List, [], ◌∷◌, Option, Some, None, Result, Ok, Err}
use Rattle.std.specs.Coded.{×_prop, Unit-prop, le_prop}
use Rattle.std.specs.List.{AllByRecursion}
use Rattle.key_msgs.specs.declared.primitive.Primitive.{Primitive}
use Rattle.key_msgs.specs.declared.template.Template.{Template}
use Rattle.key_msgs.specs.declared.primitive.Primitive.TheVariants.{Aead, Daead, Mac, Prf}
use Rattle.keyset_model.specs.Keyset.{IsShort, Keys}
use Rattle.keyset_model.specs.declared.record.Record.{Record}
use Rattle.managers.specs.Table.{Table}
use Rattle.tink_spec.specs.Outside.{EntropyState}
use Rattle.tinkey_cmds.specs.Edits.{Edit, EditOf, seen_edit}
use Rattle.tinkey_cmds.specs.Laws.{LeavesOthers}
use Rattle.tinkey_cmds.specs.declared.command.KeysetEdit.{KeysetEdit}
use Rattle.tinkey_session.specs.Answered.{Serves}
use Rattle.tinkey_session.specs.Lines.{Line, Seal, Dseal, Open, Dopen, Reseal, Dreseal, Tag, Verify, Derive}
use Rattle.tinkey_session.specs.Serving.{answered, edit_line, edit_named, serve}
use Rattle.tinkey_session.specs.declared.reply.Reply.TheVariants.{Refuses}
use Rattle.tinkey_session.specs.declared.reply.LineRefusal.{LineRefusal}
use Rattle.tinkey_session.specs.declared.reply.Refusal.{Refusal}
use Rattle.tinkey_session.specs.declared.reply.Refusal.TheVariants as refusals
use Rattle.tinkey_session.specs.declared.reply.Reply.{Reply}
use Rattle.tinkey_session.specs.declared.reply.Reply.TheVariants as replies
use Rattle.tinkey_session.specs.declared.session.Change.{Change}
use Rattle.tinkey_session.specs.declared.session.Change.TheVariants.{Grows, At, Loses}
use Rattle.tinkey_session.specs.declared.session.LineFault.{LineFault}
use Rattle.wrapped_prims.specs.Following.{BeginsWith, ChangesAt, LosesAt}
use Rattle.wrapped_prims.specs.Making.{IsOver}
use Rattle.wrapped_prims.specs.declared.handle.HandleError.{HandleError}
use Rattle.wrapped_prims.specs.declared.handle.HandleError.TheVariants as faults
use Rattle.wrapped_prims.specs.declared.held.Held.{Held}

-- the primitive of the keys that answer a line. Edits and bad lines need no keys.
abbrev pub needs : Line → Option Primitive
needs (Seal plain ad) = Some Aead
needs (Open sealed ad) = Some Aead
needs (Dseal plain ad) = Some Daead
needs (Dopen sealed ad) = Some Daead
needs (Reseal sealed ad) = Some Aead
needs (Dreseal sealed ad) = Some Daead
needs (Tag body) = Some Mac
needs (Verify tag body) = Some Mac
needs (Derive size input) = Some Prf
needs _ = None

-- that all records can be written has at most one proof
pub short-prop : (records : List Record) → IsProp (AllByRecursion IsShort records)
short-prop [] = Unit-prop
short-prop (r ∷ records) = ×_prop le_prop (short-prop records)

-- what is held are the keys that a line needs, of this keyset
abbrev pub IsHeldFor : Option Primitive → Table → Keys → Held → Type 0
IsHeldFor None table keys held = ⊥
IsHeldFor (Some primitive) table keys held = IsOver table primitive keys held

-- of some keyset
abbrev pub Answers : Table → Line → Held → Type 0
Answers table line held = (keys : Keys) × IsHeldFor (needs line) table keys held

-- this came of a line, by the keys that are held
abbrev pub ServesBy : Table → Held → Line → Result Reply LineFault → (old new : EntropyState)
    → Type 0
ServesBy table held line result old new =
    (keys : Keys) → IsHeldFor (needs line) table keys held
    → Serves (serve table keys line) result keys old new

-- what a kept handle holds are the keys of the session's keyset, for its own primitive, under the
-- session's table of managers
pub record IsKept (table own : Table) (primitive : Primitive) (keys : Keys) (held : Held)
    : Type 0 where
  pub same : own ≡ table
  pub over : IsOver own primitive keys held

-- some records came of others by this change, whichever record is primary
abbrev pub IsChanged : Change → (before records : List Record) → Type 0
IsChanged Grows before records = BeginsWith before records
IsChanged (At place) before records = ChangesAt place before records
IsChanged (Loses place) before records = LosesAt place before records

-- this is what the edit does to the keyset's records, if it is accepted
abbrev pub IsChange : Keys → Edit → Change → Type 0
IsChange keys edit change = (edited : Keys) → LeavesOthers keys edit edited
    → IsChanged change keys.records edited.records

-- the edit that is asked for by the name of a template or an id was found, or is refused
abbrev pub FindsEdit : EditOf (List ℕ) → Result (KeysetEdit Template) Refusal → Type 0
FindsEdit asked (Ok command) = edit_named asked ≡ Ok (seen_edit command)
FindsEdit asked (Err why) = edit_named asked ≡ Err why

-- the edit that a line asks for, or why it is refused, over any keyset
abbrev pub Asks : Line → Result (KeysetEdit Template) LineRefusal → Type 0
Asks line (Ok command) = (table : Table) (keys : Keys) (random : List ℕ)
    → serve table keys line random ≡ edit_line keys random (seen_edit command)
Asks line (Err why) = (table : Table) (keys : Keys) (random : List ℕ)
    → serve table keys line random ≡ Some (answered keys random (Refuses why))

-- no edit was accepted: the reply is a refusal, or there is none
abbrev pub IsUnedited : Result Reply LineFault → Type 0
IsUnedited (Ok replies.Done) = ⊥
IsUnedited (Ok (replies.Gives bytes)) = ⊥
IsUnedited (Ok (replies.NewId id)) = ⊥
IsUnedited (Ok (replies.Refuses why)) = Unit {0}
IsUnedited (Err fault) = Unit {0}

-- why a keyset can't serve, as the fault of its handle says; none where memory was refused
abbrev pub refusal_in : HandleError → Option Refusal
refusal_in (faults.NoManager i) = Some (refusals.NoManager i)
refusal_in (faults.BadKey i rule) = Some (refusals.BadKey i rule)
refusal_in (faults.NotRaw i) = Some (refusals.NotRaw i)
refusal_in faults.NoMemory = None
