-- What a line of a session answers, and the keyset that it leaves. This is the only place where a
-- line's meaning stands.
--
--   Served           a reply, the keyset after the line, and the random bytes that are left
--   serve            a line over a keyset, under a table of managers
--
-- The causes of a refusal come in this order: the line's form, its template, the first record that
-- can't serve, what the edit or the length is refused for, the draws, the computing.
use Rattle.std.specs.Prelude.{ℕ, List, [], ◌∷◌, length, drop, nat_le, nat_lt, Bool, true, false, Option, Some, None, option_map, Result, Ok, Err, if◌then◌else◌}
use Rattle.key_msgs.specs.Templates.{Row, is_asymmetric, row_named}
use Rattle.key_msgs.specs.declared.primitive.Primitive.{Primitive}
use Rattle.key_msgs.specs.declared.primitive.Primitive.TheVariants.{Aead, Daead, Mac, Prf}
use Rattle.keyset_model.specs.Keyset.{Keys}
use Rattle.keyset_model.specs.declared.record.Record.{Record}
use Rattle.managers.specs.Table.{Table}
use Rattle.tinkey_cmds.specs.Edits.{Edit, EditOf, Stepped, edit_then, step}
use Rattle.tinkey_cmds.specs.Edits as edits
use Rattle.tinkey_cmds.specs.declared.command.EditRefusal.{EditRefusal}
use Rattle.tinkey_session.specs.Lines.{Line, Seal, Dseal, Open, Dopen, Reseal, Dreseal, Tag, Verify, Derive, Edit as AsksEdit, Save, Outcome, Bad}
use Rattle.tinkey_session.specs.declared.reply.Refusal.{Refusal}
use Rattle.tinkey_session.specs.declared.reply.Refusal.TheVariants.{AsymmetricTemplate, Command, OutputTooLong, UnknownTemplate, VerifyFailed}
use Rattle.tinkey_session.specs.declared.reply.Refusal.TheVariants as refusals
use Rattle.tinkey_session.specs.declared.reply.LineRefusal.{LineRefusal}
use Rattle.tinkey_session.specs.declared.reply.LineRefusal.TheVariants.{OpenFailed, Refused}
use Rattle.tinkey_session.specs.declared.reply.Reply.{Reply}
use Rattle.tinkey_session.specs.declared.reply.Reply.TheVariants.{Done, Gives, NewId, Refuses}
use Rattle.wrapped_prims.specs.Answers.{Sealed, derive_answer, dopen_answer, dseal_answer, open_answer, seal_answer, tag_answer, verify_answer}
use Rattle.wrapped_prims.specs.Fitness.{Unfit, NoManager, BadKey, NotRaw, unfit}

-- what a line gives: its reply, the keyset after it, and the random bytes that are left
pub record Served : Type 0 where
  pub reply : Reply
  pub keys : Keys
  pub left : List ℕ

-- ---- lines that leave the keyset

-- a reply that leaves this keyset and these random bytes
abbrev pub answered : Keys → (random : List ℕ) → Reply → Served
answered keys random reply = record { reply = reply; keys = keys; left = random }

-- a refusal leaves them
abbrev pub refused_line : Keys → (random : List ℕ) → Refusal → Option Served
refused_line keys random why = Some (answered keys random (Refuses (Refused why)))

-- the refusal for the record of this place, which can't serve
abbrev pub cannot_serve : (place : ℕ) → Unfit → Refusal
cannot_serve place NoManager = refusals.NoManager place
cannot_serve place (BadKey rule) = refusals.BadKey place rule
cannot_serve place NotRaw = refusals.NotRaw place

-- the first record that can't serve is named, before anything else
abbrev pub unless_unfit : Option (ℕ × Unfit) → Keys → List ℕ → Option Served → Option Served
unless_unfit None keys random served = served
unless_unfit (Some found) keys random served =
    refused_line keys random (cannot_serve found.0 found.1)

-- under a keyset whose ENABLED records all serve the primitive
abbrev pub by_handle : Primitive → Table → Keys → List ℕ → Option Served → Option Served
by_handle primitive table keys random served =
    unless_unfit (unfit keys primitive table) keys random served

-- the reply to what is computed without a draw; of a keyset without a fault something is
abbrev pub computed : {A : Type 0} → Keys → List ℕ → (A → Reply) → Option A → Option Served
computed keys random reply answer =
    option_map (λ value. answered keys random (reply value)) answer

-- the reply to what opened, or did not
abbrev pub opened_reply : Option (List ℕ) → Reply
opened_reply (Some plain) = Gives plain
opened_reply None = Refuses OpenFailed

-- what opened goes on; where nothing opened, that is the reply
abbrev pub if_opened : Keys → (random : List ℕ) → Option (List ℕ) → (List ℕ → Option Served)
    → Option Served
if_opened keys random (Some plain) next = next plain
if_opened keys random None next = Some (answered keys random (Refuses OpenFailed))

-- the reply to a tag that is right, or isn't
abbrev pub verified_reply : Bool → Reply
verified_reply true = Done
verified_reply false = Refuses (Refused VerifyFailed)

-- the bytes, or how many there can be at the most
abbrev pub derived_reply : (size : ℕ) → Result (List ℕ) ℕ → Reply
derived_reply size (Ok bytes) = Gives bytes
derived_reply size (Err greatest) = Refuses (Refused (OutputTooLong size greatest))

-- the reply with a sealing, behind which random bytes are left
abbrev pub sealed_reply : Keys → Sealed → Served
sealed_reply keys sealed = answered keys sealed.left (Gives sealed.bytes)

-- ---- edits

-- an edit that makes a key answers its id, which the last record has
abbrev pub last_id : List Record → Reply
last_id [] = Done
last_id (r ∷ []) = NewId r.id
last_id (r ∷ s ∷ later) = last_id (s ∷ later)

-- the reply to an accepted edit: a new id, where there is one
abbrev pub edited_reply : Edit → Keys → Reply
edited_reply (edits.Add row) keys = last_id keys.records
edited_reply (edits.Rotate row) keys = last_id keys.records
edited_reply edit keys = Done

-- a refused edit leaves the keyset
abbrev pub edit_served : Edit → Keys → Result Keys EditRefusal → (left : List ℕ) → Served
edit_served edit keys (Ok edited) left = answered edited left (edited_reply edit edited)
edit_served edit keys (Err fault) left = answered keys left (Refuses (Refused (Command fault)))

-- the reply to an edit's step
abbrev pub stepped : Edit → Keys → Stepped → Served
stepped edit keys s = edit_served edit keys s.answer s.left

-- an edit answered; none where random bytes run out
abbrev pub edit_line : Keys → List ℕ → Edit → Option Served
edit_line keys random edit = option_map (stepped edit keys) (step keys edit random)

-- why a name has no template, which may be that of one for asymmetric keys
abbrev pub no_template : (asymmetric : Bool) → Refusal
no_template true = AsymmetricTemplate
no_template false = UnknownTemplate

-- the template of a name, or why there is none
abbrev pub template_or : Option Row → (asymmetric : Bool) → Result Row Refusal
template_or (Some row) asymmetric = Ok row
template_or None asymmetric = Err (no_template asymmetric)

-- the template of a name, or why there is none
abbrev pub template_of : List ℕ → Result Row Refusal
template_of name = template_or (row_named name) (is_asymmetric name)

-- what is found, and then what comes of it; or what comes of the refusal
abbrev pub or_refused : {A P : Type 0} → (Refusal → P) → Result A Refusal → (A → P) → P
or_refused refuse (Ok found) next = next found
or_refused refuse (Err why) next = refuse why

-- the edit with the template of its name, or why there is none
abbrev pub edit_named : EditOf (List ℕ) → Result Edit Refusal
edit_named edit = edit_then (λ name. or_refused Err (template_of name)) edit Ok

-- an edit by the name of a template or the id of a record
abbrev pub asked_line : Keys → List ℕ → EditOf (List ℕ) → Option Served
asked_line keys random asked =
    or_refused (refused_line keys random) (edit_named asked) (edit_line keys random)

-- ---- saves

-- the reply to a save: a refusal, or none
abbrev pub saved_reply : Option LineRefusal → Reply
saved_reply None = Done
saved_reply (Some why) = Refuses why

-- the random bytes that it draws, an IV at most
abbrev pub drawn_size : Outcome → ℕ
drawn_size outcome = if nat_le outcome.size 16 then outcome.size else 16

-- A save leaves the keyset, and the random bytes behind those that it draws. None where there are fewer.
abbrev pub saved_line : Keys → (random : List ℕ) → Outcome → Option Served
saved_line keys random outcome =
    if nat_lt (length random) (drawn_size outcome) then None
    else Some (answered keys (drop (drawn_size outcome) random) (saved_reply outcome.why))

-- ---- every line

-- A line over a keyset, with these random bytes to draw from. None where they run out, and where
-- there is no primary key to compute with, which every keyset without a fault has.
unfoldable pub serve : Table → Keys → Line → (random : List ℕ) → Option Served
serve table keys (Seal plain ad) random = by_handle Aead table keys random
    (option_map (sealed_reply keys) (seal_answer keys table plain ad random))
serve table keys (Dseal plain ad) random = by_handle Daead table keys random
    (computed keys random Gives (dseal_answer keys table plain ad))
serve table keys (Open sealed ad) random = by_handle Aead table keys random
    (Some (answered keys random (opened_reply (open_answer keys table sealed ad))))
serve table keys (Dopen sealed ad) random = by_handle Daead table keys random
    (Some (answered keys random (opened_reply (dopen_answer keys table sealed ad))))
serve table keys (Reseal sealed ad) random = by_handle Aead table keys random
    (if_opened keys random (open_answer keys table sealed ad) (λ plain.
    option_map (sealed_reply keys) (seal_answer keys table plain ad random)))
serve table keys (Dreseal sealed ad) random = by_handle Daead table keys random
    (if_opened keys random (dopen_answer keys table sealed ad) (λ plain.
    computed keys random Gives (dseal_answer keys table plain ad)))
serve table keys (Tag body) random = by_handle Mac table keys random
    (computed keys random Gives (tag_answer keys table body))
serve table keys (Verify tag body) random = by_handle Mac table keys random
    (Some (answered keys random (verified_reply (verify_answer keys table tag body))))
serve table keys (Derive size input) random = by_handle Prf table keys random
    (computed keys random (derived_reply size) (derive_answer keys table input size))
serve table keys (AsksEdit edit) random = asked_line keys random edit
serve table keys (Save name outcome) random = saved_line keys random outcome
serve table keys (Bad why) random = Some (answered keys random (Refuses why))
