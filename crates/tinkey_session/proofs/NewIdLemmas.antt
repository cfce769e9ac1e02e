-- The id that an accepted line answers.
use Rattle.std.proofs.Common.{◌≡◌, ◌∙◌, ◌⊎◌, inl, inr, refl, sym, ap, subst, List, [], ◌∷◌, ◌++◌, Some, Result, Ok, Err, ℕ}
use Rattle.std.proofs.lemmas.Option.{same_Some}
use Rattle.key_msgs.specs.Templates.{Row}
use Rattle.keyset_model.specs.Keyset.{Keys}
use Rattle.keyset_model.specs.declared.record.Record.{Record}
use Rattle.tinkey_cmds.proofs.Cases.{edit_case, yielded}
use Rattle.tinkey_cmds.specs.Edits.{Edit, Stepped, step}
use Rattle.tinkey_cmds.specs.Edits as edits
use Rattle.tinkey_cmds.specs.declared.command.EditRefusal.{EditRefusal}
use Rattle.tinkey_session.proofs.Options.{map_some}
use Rattle.tinkey_session.specs.LineLaws.{TellsNewId}
use Rattle.tinkey_session.specs.Serving.{Served, edit_line, edit_served, edited_reply, last_id, or_refused, refused_line, serve, stepped, template_of}
use Rattle.tinkey_session.specs.declared.reply.Refusal.{Refusal}
use Rattle.tinkey_session.specs.declared.reply.Refusal.TheVariants.{Command}
use Rattle.tinkey_session.specs.declared.reply.LineRefusal.TheVariants.{Refused}
use Rattle.tinkey_session.specs.declared.reply.Reply.TheVariants.{NewId, Refuses}

-- one record more, which stands last
abbrev HasOneMore : Keys → Keys → Type 0
HasOneMore old new = (r : Record) × (new.records ≡ old.records ++ r ∷ [])

-- an edit that makes a key makes one record more
abbrev Grows : Keys → Edit → Keys → Type 0
Grows old (edits.Add row) new = HasOneMore old new
Grows old (edits.Rotate row) new = HasOneMore old new
Grows old edit new = Unit {0}

grows : (old new : Keys) (edit : Edit) (random : List ℕ) (s : Stepped) → step old edit random ≡ Some s → s.answer ≡ Ok new → Grows old edit new
grows old new edit random s e ok = yielded (Grows old edit) (step old edit) random s new (edit_case old (Grows old) (record {
  add = λ row r room same is. (r, refl);
  rotate = λ row r room same is. (r, refl);
  promote = λ id r e enabled others. tt;
  enable = λ id r e there clear same valid. tt;
  disable = λ id r e other there. tt;
  destroy = λ id r e other. tt;
  delete = λ id r e other. tt;
}) edit) e ok

last_id-push : (rs : List Record) (r : Record) → last_id (rs ++ r ∷ []) ≡ NewId r.id
last_id-push [] r = refl
last_id-push (s ∷ []) r = refl
last_id-push (s ∷ t ∷ later) r = last_id-push (t ∷ later) r

-- a refusal, or the id of the one new record
abbrev IsTold : Keys → Served → Type 0
IsTold keys x = ((why : Refusal) × (x.reply ≡ Refuses (Refused why)))
    ⊎ ((r : Record) × (x.reply ≡ NewId r.id) × (x.keys.records ≡ keys.records ++ r ∷ []))

-- an edit that answers the id of the last record
abbrev TellsLast : Edit → Type 0
TellsLast edit = (keys : Keys) → edited_reply edit keys ≡ last_id keys.records

told-served : (edit : Edit) (keys : Keys) (answer : Result Keys EditRefusal) (left : List ℕ) → TellsLast edit
    → ((new : Keys) → answer ≡ Ok new → HasOneMore keys new) → IsTold keys (edit_served edit keys answer left)
told-served edit keys (Err fault) left tells grown = inl (Command fault, refl)
told-served edit keys (Ok new) left tells grown =
    let more = grown new refl in
    inr (more.0, tells new ∙ ap last_id more.1 ∙ last_id-push keys.records more.0, more.1)

told-line : (edit : Row → Edit) → ((row : Row) → TellsLast (edit row)) → ((old new : Keys) (row : Row) → Grows old (edit row) new → HasOneMore old new)
    → (keys : Keys) (random : List ℕ) (found : Result Row Refusal) (x : Served) → or_refused (refused_line keys random) (or_refused {P = Result Edit Refusal} Err found (λ row. Ok (edit row))) (edit_line keys random) ≡ Some x → IsTold keys x
told-line edit tells grown keys random (Err why) x e = inl (why, ap (λ y. y.reply) (sym (same_Some _ _ e)))
told-line edit tells grown keys random (Ok row) x e =
    let there = map_some (stepped (edit row) keys) (step keys (edit row) random) x e in
    let s = there.0 in
    subst (IsTold keys) there.2 (told-served (edit row) keys s.answer s.left (tells row)
    (λ new ok. grown keys new row (grows keys new (edit row) random s there.1 ok)))

pub tells_added : TellsNewId edits.Add
unfolding serve
tells_added table keys name random x e = told-line edits.Add (λ row keys. refl) (λ old new row g. g) keys random (template_of name) x e

pub tells_rotated : TellsNewId edits.Rotate
unfolding serve
tells_rotated table keys name random x e = told-line edits.Rotate (λ row keys. refl) (λ old new row g. g) keys random (template_of name) x e
