-- Random bytes behind those that suffice change nothing of a session.
use Rattle.std.proofs.Common.{◌≡◌, ◌∙◌, refl, ap, ℕ, zero, suc, ◌+◌, ltb, true, false, cond, List, [], ◌∷◌, ◌++◌, length, take, drop, Option, Some, None, Result, Ok, Err}
use Rattle.std.specs.Option.{option_and_then}
use Rattle.std.proofs.lemmas.Bool.{ltb-false}
use Rattle.std.proofs.lemmas.List.{append_assoc, drop-append-le, take-append-le}
use Rattle.key_msgs.specs.Templates.{Row, random_of}
use Rattle.keyset_model.specs.Keyset.{Keys}
use Rattle.keyset_model.specs.declared.record.Record.{Record}
use Rattle.managers.specs.Table.{Table}
use Rattle.random_draws.specs.Slices.{Id, Key, slices_from, slices_then, edit_fills, effect_fills, fill_of, fills, new_fills, placed, asked_fills, total, unless_there}
use Rattle.random_draws.specs.Sessions.{SlicesAreSettled}
use Rattle.tinkey_cmds.specs.Draws.{Drawn, and_then, answered as answers}
use Rattle.tinkey_cmds.specs.Edits.{Edit, EditOf, added, effect_of, grown, id_of, is_taken, new_id, refusal_of, rotated, step, unless_refused, with_key}
use Rattle.tinkey_cmds.specs.Edits as edits
use Rattle.tinkey_cmds.specs.declared.command.EditRefusal.{EditRefusal}
use Rattle.tinkey_session.proofs.DrawLemmas.{lines_draw_fronts}
use Rattle.tinkey_session.proofs.Options.{clash, map_some}
use Rattle.tinkey_session.specs.Lines.{Line, Seal, Dseal, Open, Dopen, Reseal, Dreseal, Tag, Verify, Derive, Edit as AsksEdit, Save, Bad}
use Rattle.tinkey_session.specs.Serving.{Served, edit_line, edit_named, or_refused, refused_line, serve, stepped}
use Rattle.tinkey_session.specs.Session.{Remains, remains, turn_then, turns}
use Rattle.tinkey_session.specs.declared.reply.Refusal.{Refusal}

-- ---- one line

new_more : (tries : ℕ) (row : Row) (records : List Record) (random more : List ℕ) (s : Drawn Record) → and_then (new_id tries records random) (with_key row) ≡ Some s
    → new_fills tries (random_of row) records (random ++ more) ≡ new_fills tries (random_of row) records random
unfolding new_id new_fills
new_more zero row records random more s e = refl
new_more (suc tries) row records random more s e =
    let first = take 4 random in
    let last = fill_of Key (random_of row) ∷ [] in
    elim (ltb (length random) 4) as (λ b. ltb (length random) 4 ≡ b
    → and_then (and_then (cond b None (Some (record { answer = Ok first; left = drop 4 random })))
    (λ group left. cond (is_taken records (id_of group)) (new_id tries records left) (answers (Ok (id_of group)) left))) (with_key row) ≡ Some s
    → fill_of Id 4 ∷ cond (is_taken records (id_of (take 4 (random ++ more)))) (new_fills tries (random_of row) records (drop 4 (random ++ more))) last
    ≡ fill_of Id 4 ∷ cond (is_taken records (id_of first)) (new_fills tries (random_of row) records (drop 4 random)) last) [
      | true ↦ λ t k. clash k
      | false ↦ λ t k.
          ap (λ l. fill_of Id 4 ∷ cond (is_taken records (id_of l)) (new_fills tries (random_of row) records (drop 4 (random ++ more))) last) (take-append-le 4 random more (ltb-false _ _ t))
          ∙ ap (λ l. fill_of Id 4 ∷ cond (is_taken records (id_of first)) (new_fills tries (random_of row) records l) last) (drop-append-le 4 random more (ltb-false _ _ t))
          ∙ ap (λ fs. fill_of Id 4 ∷ fs) (elim (is_taken records (id_of first)) as (λ b. and_then (cond b (new_id tries records (drop 4 random)) (answers (Ok (id_of first)) (drop 4 random))) (with_key row) ≡ Some s
          → cond b (new_fills tries (random_of row) records (drop 4 random ++ more)) last ≡ cond b (new_fills tries (random_of row) records (drop 4 random)) last) [
            | true ↦ λ h. new_more tries row records (drop 4 random) more s h
            | false ↦ λ h. refl
          ] k)
    ] refl e

grown_more : (keys_with : Record → Keys) (row : Row) (records : List Record) (random more : List ℕ) (s : Drawn Keys) → grown keys_with row records random ≡ Some s
    → new_fills 64 (random_of row) records (random ++ more) ≡ new_fills 64 (random_of row) records random
grown_more keys_with row records random more s e = by (and_then (new_id 64 records random) (with_key row)) refl e
  where
    by : (o : Option (Drawn Record)) → and_then (new_id 64 records random) (with_key row) ≡ o → and_then o (λ r left. answers (Ok (keys_with r)) left) ≡ Some s
        → new_fills 64 (random_of row) records (random ++ more) ≡ new_fills 64 (random_of row) records random
    by None t k = clash k
    by (Some d) t k = new_more 64 row records random more d t

effect_more : (keys : Keys) (edit : Edit) (random more : List ℕ) (s : Drawn Keys) → effect_of keys edit random ≡ Some s → effect_fills keys edit (random ++ more) ≡ effect_fills keys edit random
unfolding effect_of
effect_more keys (edits.Add row) random more s e = grown_more (added keys) row keys.records random more s e
effect_more keys (edits.Rotate row) random more s e = grown_more (rotated keys) row keys.records random more s e
effect_more keys (edits.Promote id) random more s e = refl
effect_more keys (edits.Enable id) random more s e = refl
effect_more keys (edits.Disable id) random more s e = refl
effect_more keys (edits.Destroy id) random more s e = refl
effect_more keys (edits.Delete id) random more s e = refl

edit_more : (keys : Keys) (edit : Edit) (random more : List ℕ) (x : Served) → edit_line keys random edit ≡ Some x → edit_fills keys (random ++ more) edit ≡ edit_fills keys random edit
edit_more keys edit random more x e = by (refusal_of keys edit) (map_some (stepped edit keys) (step keys edit random) x e).1
  where
    s : Drawn Keys
    s = (map_some (stepped edit keys) (step keys edit random) x e).0

    by : (o : Option EditRefusal) → unless_refused o (effect_of keys edit) random ≡ Some s → unless_there o (effect_fills keys edit (random ++ more)) ≡ unless_there o (effect_fills keys edit random)
    by (Some fault) k = refl
    by None k = effect_more keys edit random more s k

asked_more : (table : Table) (keys : Keys) (asked : EditOf (List ℕ)) (random more : List ℕ) (x : Served) → serve table keys (AsksEdit asked) random ≡ Some x
    → fills table keys (AsksEdit asked) (random ++ more) ≡ fills table keys (AsksEdit asked) random
unfolding serve fills
asked_more table keys asked random more x e = by (edit_named asked) e
  where
    by : (found : Result Edit Refusal) → or_refused (refused_line keys random) found (edit_line keys random) ≡ Some x → asked_fills keys (random ++ more) found ≡ asked_fills keys random found
    by (Ok edit) e = edit_more keys edit random more x e
    by (Err why) e = refl

fills_more : (table : Table) (keys : Keys) (line : Line) (random more : List ℕ) (x : Served) → serve table keys line random ≡ Some x → fills table keys line (random ++ more) ≡ fills table keys line random
unfolding fills
fills_more table keys (Seal plain ad) random more x e = refl
fills_more table keys (Dseal plain ad) random more x e = refl
fills_more table keys (Open sealed ad) random more x e = refl
fills_more table keys (Dopen sealed ad) random more x e = refl
fills_more table keys (Reseal sealed ad) random more x e = refl
fills_more table keys (Dreseal sealed ad) random more x e = refl
fills_more table keys (Tag body) random more x e = refl
fills_more table keys (Verify tag body) random more x e = refl
fills_more table keys (Derive size input) random more x e = refl
fills_more table keys (AsksEdit edit) random more x e = asked_more table keys edit random more x e
fills_more table keys (Save name outcome) random more x e = refl
fills_more table keys (Bad why) random more x e = refl

abbrev with_behind : List ℕ → Served → Served
with_behind more x = record x { left = x.left ++ more }

serve_more : (table : Table) (keys : Keys) (line : Line) (random more : List ℕ) (x : Served) → serve table keys line random ≡ Some x → serve table keys line (random ++ more) ≡ Some (with_behind more x)
serve_more table keys line random more x e =
    let front = lines_draw_fronts table keys line random x e in
    ap (λ l. serve table keys line (l ++ more)) front.1 ∙ ap (serve table keys line) (append_assoc front.0 x.left more) ∙ front.2 (x.left ++ more)

-- ---- a session

turns_more : (lines : List Line) (table : Table) (keys : Keys) (random more : List ℕ) (m : Remains) → remains table keys lines random ≡ Some m → turns table keys lines (random ++ more) ≡ turns table keys lines random
unfolding remains turns
turns_more [] table keys random more m e = refl
turns_more (asked ∷ later) table keys random more m e = elim (serve table keys asked random) as (λ o. serve table keys asked random ≡ o
    → option_and_then (λ s. remains table s.keys later s.left) o ≡ Some m
    → turn_then keys asked (serve table keys asked (random ++ more)) (λ s. turns table s.keys later s.left) ≡ turn_then keys asked o (λ s. turns table s.keys later s.left)) [
      | None ↦ λ t k. clash k
      | Some x ↦ λ t k.
          ap (λ o. turn_then keys asked o (λ s. turns table s.keys later s.left)) (serve_more table keys asked random more x t)
          ∙ ap (λ ts. record { before = keys; line = asked; reply = x.reply } ∷ ts) (turns_more later table x.keys x.left more m k)
    ] refl e

slices_more : (lines : List Line) (line place : ℕ) (table : Table) (keys : Keys) (random more : List ℕ) (m : Remains) → remains table keys lines random ≡ Some m
    → slices_from line place table keys lines (random ++ more) ≡ slices_from line place table keys lines random
unfolding remains slices_from
slices_more [] line place table keys random more m e = refl
slices_more (asked ∷ later) line place table keys random more m e =
    let filled = fills table keys asked random in
    elim (serve table keys asked random) as (λ o. serve table keys asked random ≡ o
    → option_and_then (λ s. remains table s.keys later s.left) o ≡ Some m
    → slices_then (serve table keys asked (random ++ more)) (λ s. placed line place (fills table keys asked (random ++ more))
    ++ slices_from (line + 1) (place + total (fills table keys asked (random ++ more))) table s.keys later s.left)
    ≡ slices_then o (λ s. placed line place filled ++ slices_from (line + 1) (place + total filled) table s.keys later s.left)) [
      | None ↦ λ t k. clash k
      | Some x ↦ λ t k.
          ap (λ fs. slices_then (serve table keys asked (random ++ more)) (λ s. placed line place fs ++ slices_from (line + 1) (place + total fs) table s.keys later s.left)) (fills_more table keys asked random more x t)
          ∙ ap (λ o. slices_then o (λ s. placed line place filled ++ slices_from (line + 1) (place + total filled) table s.keys later s.left)) (serve_more table keys asked random more x t)
          ∙ ap (λ ds. placed line place filled ++ ds) (slices_more later (line + 1) (place + total filled) table x.keys x.left more m k)
    ] refl e

pub slices_are_settled : SlicesAreSettled
slices_are_settled table keys lines random more m e = (turns_more lines table keys random more m e, slices_more lines 0 0 table keys random more m e)
