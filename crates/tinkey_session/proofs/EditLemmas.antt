-- What edits answer, and which edit a line asks for.
use Rattle.std.proofs.Common.{◌≡◌, ◌∙◌, refl, sym, ap, subst, ℕ, ◌+◌, ◌-◌, suc, cond, List, [], ◌∷◌, length, Some, None, Result, Ok, Err, arith}
use Rattle.std.specs.Borrow.{Bor}
use Rattle.std.specs.Prelude.{slice_get}
use Rattle.std.specs.Result.{IsErrAnd}
use Rattle.std.proofs.lemmas.Bool.{le-ltb}
use Rattle.std.proofs.lemmas.Option.{same_Some}
use Rattle.key_msgs.specs.declared.template.Template.{Template}
use Rattle.keyset_model.specs.Keyset.{Keys}
use Rattle.keyset_model.specs.declared.record.Record.{Record}
use Rattle.tinkey_cmds.specs.Edits.{Edit, EditOf, Add, Rotate, Promote, Enable, Disable, Destroy, Delete}
use Rattle.tinkey_cmds.specs.declared.command.KeysetEdit.{KeysetEdit}
use Rattle.tinkey_session.proofs.Options.{clash}
use Rattle.tinkey_session.specs.Keeping.{Asks, FindsEdit, IsUnedited, needs}
use Rattle.tinkey_session.specs.Lines.{Line, Edit as AsksEdit, Bad}
use Rattle.tinkey_session.specs.Reading.{seen_line}
use Rattle.tinkey_session.specs.Serving.{answered, edit_line, edited_reply, last_id, or_refused, refused_line, serve}
use Rattle.tinkey_session.specs.declared.reply.Reply.TheVariants.{NewId, Refuses}
use Rattle.tinkey_session.specs.declared.line.Line.{Line as CodeLine}
use Rattle.tinkey_session.specs.declared.line.Line.TheVariants as lines
use Rattle.tinkey_session.specs.declared.reply.LineRefusal.{LineRefusal}
use Rattle.tinkey_session.specs.declared.reply.LineRefusal.TheVariants.{BadLine, Refused}
use Rattle.tinkey_session.specs.declared.reply.Refusal.{Refusal}
use Rattle.tinkey_session.specs.declared.reply.Reply.{Reply}

-- ---- accepted and refused edits

last_accepted : (records : List Record) → IsUnedited (Ok (last_id records)) → ⊥
last_accepted [] none = none
last_accepted (r ∷ []) none = none
last_accepted (r ∷ s ∷ later) none = last_accepted (s ∷ later) none

-- the reply to an accepted edit is no refusal
pub accepted : (reply : Reply) (edit : Edit) (keys : Keys) → reply ≡ edited_reply edit keys → IsUnedited (Ok reply) → ⊥
accepted reply edit keys is none = by edit (subst (λ (r : Reply). IsUnedited (Ok r)) is none)
  where
    by : (e : Edit) → IsUnedited (Ok (edited_reply e keys)) → ⊥
    by (Add row) none = last_accepted keys.records none
    by (Rotate row) none = last_accepted keys.records none
    by (Promote id) none = none
    by (Enable id) none = none
    by (Disable id) none = none
    by (Destroy id) none = none
    by (Delete id) none = none

-- ---- the id of the last record

last_at : (rs : List Record) (r : Record) (i : ℕ) → i + 1 ≡ length rs → slice_get rs i ≡ Some r → last_id rs ≡ NewId r.id
last_at [] r i last there = clash there
last_at (x ∷ []) r i last there =
    let first : i ≡ 0 = omega arith in
    ap (λ (y : Record). NewId y.id) (same_Some _ _ (subst (λ j. slice_get (x ∷ []) j ≡ Some r) first there))
last_at (x ∷ y ∷ later) r i last there =
    let behind : i ≡ suc (length later) = omega arith in
    last_at (y ∷ later) r (length later) (omega arith) (subst (λ j. slice_get (x ∷ y ∷ later) j ≡ Some r) behind there)

pub last_there : (rs : List Record) (r : Record) (n : ℕ) → n ≡ length rs → slice_get rs (n - 1) ≡ Some r → last_id rs ≡ NewId r.id
last_there [] r n count there = clash there
last_there (x ∷ rs) r n count there = last_at (x ∷ rs) r (n - 1) (omega arith) there

-- ---- the edits that lines ask for

pub asks_named : (asked : EditOf (List ℕ)) (command : KeysetEdit Template) → FindsEdit asked (Ok command) → Asks (AsksEdit asked) (Ok command)
unfolding serve
asks_named asked command is = λ table keys random. ap (λ found. or_refused (refused_line keys random) found (edit_line keys random)) is

pub asks_unnamed : (asked : EditOf (List ℕ)) (why : Refusal) → FindsEdit asked (Err why) → Asks (AsksEdit asked) (Err (Refused why))
unfolding serve
asks_unnamed asked why is = λ table keys random. ap (λ found. or_refused (refused_line keys random) found (edit_line keys random)) is

-- what a `?` hands on
pub finds_none : (asked : EditOf (List ℕ)) (why : Refusal) (result : Result (KeysetEdit Template) Refusal) → IsErrAnd result (λ e. e ≡ why) → FindsEdit asked (Err why) → FindsEdit asked result
finds_none asked why (Ok command) is none = absurd is
finds_none asked why (Err e) is none = none ∙ ap Err (sym is)

pub asks_error : (line : Line) (why : LineRefusal) (result : Result (KeysetEdit Template) LineRefusal) → IsErrAnd result (λ e. e ≡ why) → Asks line (Err why) → Asks line result
asks_error line why (Ok command) is asks = absurd is
asks_error line why (Err e) is asks = subst (λ w. Asks line (Err w)) (sym is) asks

-- a line that is refused before anything is looked at
pub asks_bad : (why : LineRefusal) → Asks (Bad why) (Err why)
unfolding serve
asks_bad why = λ table keys random. refl

-- a line that needs no keys, isn't an edit and isn't bad is a save of a session that saves nowhere
pub asks_nothing : (line : CodeLine) → needs (seen_line line) ≡ None → ((edit : KeysetEdit (Bor (List ℕ))) → line ≡ lines.Edit edit → ⊥) → ((why : LineRefusal) → line ≡ lines.Bad why → ⊥)
    → Asks (seen_line line) (Err BadLine)
unfolding serve
asks_nothing (lines.Seal plain ad) keyless none other = clash (sym keyless)
asks_nothing (lines.Dseal plain ad) keyless none other = clash (sym keyless)
asks_nothing (lines.Open sealed ad) keyless none other = clash (sym keyless)
asks_nothing (lines.Dopen sealed ad) keyless none other = clash (sym keyless)
asks_nothing (lines.Reseal sealed ad) keyless none other = clash (sym keyless)
asks_nothing (lines.Dreseal sealed ad) keyless none other = clash (sym keyless)
asks_nothing (lines.Tag body) keyless none other = clash (sym keyless)
asks_nothing (lines.Verify tag body) keyless none other = clash (sym keyless)
asks_nothing (lines.Derive size input) keyless none other = clash (sym keyless)
asks_nothing (lines.Edit edit) keyless none other = absurd (none edit refl)
asks_nothing (lines.Save name) keyless none other = λ table keys random. ap (λ b. cond b None (Some (answered keys random (Refuses BadLine)))) (le-ltb (length random) 0 (omega arith))
asks_nothing (lines.Bad why) keyless none other = absurd (other why refl)
