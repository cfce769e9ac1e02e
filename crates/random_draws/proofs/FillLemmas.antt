-- Each line leaves the random bytes behind its fills.
use Rattle.std.proofs.Common.{◌≡◌, ◌∙◌, refl, sym, ap, subst, ℕ, zero, suc, ◌+◌, ◌≤◌, ltb, Bool, true, false, cond, List, [], ◌∷◌, ◌++◌, length, take, drop, Option, Some, None, Result, Ok, Err, option_map, arith}
use Rattle.std.specs.Option.{option_and_then}
use Rattle.std.proofs.lemmas.Bool.{ltb-false}
use Rattle.std.proofs.lemmas.List.{drop-drop, length-drop}
use Rattle.std.proofs.lemmas.List.Sums.{sum_by-cons}
use Rattle.std.proofs.lemmas.Option.{same_Some}
use Rattle.key_msgs.specs.Templates.{Row, random_of}
use Rattle.key_msgs.specs.declared.key.KeyKind.{KeyKind}
use Rattle.key_msgs.specs.declared.primitive.Primitive.TheVariants.{Aead, Daead, Mac, Prf}
use Rattle.keyset_model.specs.Keyset.{Keys, primary_of}
use Rattle.keyset_model.specs.declared.record.Record.{Record}
use Rattle.managers.specs.Table.{Table}
use Rattle.managers.specs.Uses.{iv_size, seal_of}
use Rattle.random_draws.specs.Slices.{Fill, Id, Key, edit_fills, effect_fills, fill_of, fills, iv_fills, new_fills, opened_fills, asked_fills, save_fills, total, unless_there, Iv}
use Rattle.tinkey_cmds.specs.Draws.{Drawn, and_then, answered as answers}
use Rattle.tinkey_cmds.specs.Edits.{Edit, EditOf, added, effect_of, grown, id_of, is_taken, new_id, record_of, refusal_of, rotated, step, unless_refused, with_key}
use Rattle.tinkey_cmds.specs.Edits as edits
use Rattle.tinkey_cmds.specs.declared.command.EditRefusal.{EditRefusal}
use Rattle.tinkey_session.proofs.DrawLemmas.{served_left}
use Rattle.tinkey_session.proofs.Options.{clash, map_some, then_some}
use Rattle.tinkey_session.specs.Lines.{Line, Seal, Dseal, Open, Dopen, Reseal, Dreseal, Tag, Verify, Derive, Edit as AsksEdit, Save, Outcome, Bad}
use Rattle.tinkey_session.specs.Serving.{Served, answered, cannot_serve, computed, derived_reply, drawn_size, edit_line, edit_named, if_opened, or_refused, refused_line, saved_line, saved_reply, sealed_reply, serve, stepped, unless_unfit}
use Rattle.tinkey_session.specs.declared.reply.Refusal.{Refusal}
use Rattle.tinkey_session.specs.declared.reply.LineRefusal.TheVariants.{OpenFailed, Refused}
use Rattle.tinkey_session.specs.declared.reply.Reply.{Reply}
use Rattle.tinkey_session.specs.declared.reply.Reply.TheVariants.{Gives, Refuses}
use Rattle.wrapped_prims.specs.Answers.{Sealed, derive_answer, dopen_answer, dseal_answer, open_answer, primary_key, seal_answer, seal_behind, seal_under, tag_answer}
use Rattle.wrapped_prims.specs.Candidates.{prefix_bytes, prefix_of}
use Rattle.wrapped_prims.specs.Fitness.{Unfit, key_of_record, unfit}

-- ---- from the front

-- so many of the bytes were taken, and these are left
pub record Took (count : ℕ) (random left : List ℕ) : Type 0 where
  pub behind : left ≡ drop count random
  pub enough : count ≤ length random

took-nothing : (random left : List ℕ) → random ≡ left → Took 0 random left
took-nothing random left same = record { behind = sym same; enough = omega arith }

pub took-more : (a b : ℕ) (random mid left : List ℕ) → Took a random mid → Took b mid left → Took (a + b) random left
took-more a b random mid left one two = record {
  behind = two.behind ∙ ap (drop b) one.behind ∙ drop-drop b a random;
  enough = (let size = ap length one.behind ∙ length-drop a random in let more = two.enough in let enough = one.enough in omega (arith, size, more, enough));
}

pub took-fill : (f : Fill) (later : List Fill) (random mid left : List ℕ) → Took f.size random mid → Took (total later) mid left → Took (total (f ∷ later)) random left
took-fill f later random mid left one two = subst (λ n. Took n random left) (sym (sum_by-cons (λ g. g.size) f later)) (took-more f.size (total later) random mid left one two)

pub took-one : (f : Fill) (random left : List ℕ) → Took f.size random left → Took (total (f ∷ [])) random left
took-one f random left one = took-fill f [] random left left one (took-nothing left left refl)

-- ---- new keys

key_took : (row : Row) (id : ℕ) (random : List ℕ) (s : Drawn Record) → with_key row id random ≡ Some s → Took (random_of row) random s.left
key_took row id random s e = by (ltb (length random) (random_of row)) refl e
  where
    by : (b : Bool) → ltb (length random) (random_of row) ≡ b
        → and_then (cond b None (Some (record { answer = Ok (take (random_of row) random); left = drop (random_of row) random }))) (λ key left. answers (Ok (record_of row id key)) left) ≡ Some s
        → Took (random_of row) random s.left
    by true t k = clash k
    by false t k = record { behind = sym (ap (λ d. d.left) (same_Some _ _ k)); enough = ltb-false _ _ t }

new_took : (tries : ℕ) (row : Row) (records : List Record) (random : List ℕ) (s : Drawn Record) → and_then (new_id tries records random) (with_key row) ≡ Some s
    → Took (total (new_fills tries (random_of row) records random)) random s.left
unfolding new_id new_fills
new_took zero row records random s e = took-nothing random s.left (ap (λ d. d.left) (same_Some _ _ e))
new_took (suc tries) row records random s e = elim (ltb (length random) 4) as (λ b. ltb (length random) 4 ≡ b
    → and_then (and_then (cond b None (Some (record { answer = Ok (take 4 random); left = drop 4 random })))
    (λ group left. cond (is_taken records (id_of group)) (new_id tries records left) (answers (Ok (id_of group)) left))) (with_key row) ≡ Some s
    → Took (total (fill_of Id 4 ∷ cond (is_taken records (id_of (take 4 random))) (new_fills tries (random_of row) records (drop 4 random)) (fill_of Key (random_of row) ∷ []))) random s.left) [
      | true ↦ λ t k. clash k
      | false ↦ λ t k. took-fill (fill_of Id 4) (cond (is_taken records (id_of (take 4 random))) (new_fills tries (random_of row) records (drop 4 random)) (fill_of Key (random_of row) ∷ [])) random (drop 4 random) s.left (record { behind = refl; enough = ltb-false _ _ t })
          (elim (is_taken records (id_of (take 4 random))) as (λ b. and_then (cond b (new_id tries records (drop 4 random)) (answers (Ok (id_of (take 4 random))) (drop 4 random))) (with_key row) ≡ Some s
          → Took (total (cond b (new_fills tries (random_of row) records (drop 4 random)) (fill_of Key (random_of row) ∷ []))) (drop 4 random) s.left) [
            | true ↦ λ h. new_took tries row records (drop 4 random) s h
            | false ↦ λ h. took-one (fill_of Key (random_of row)) (drop 4 random) s.left (key_took row (id_of (take 4 random)) (drop 4 random) s h)
          ] k)
    ] refl e

-- a step that draws nothing leaves what the one before it left
then_left : {A B : Type 0} (f : A → B) (answer : Result A EditRefusal) (left : List ℕ) (s : Drawn B) → and_then (answers answer left) (λ r later. answers (Ok (f r)) later) ≡ Some s → left ≡ s.left
then_left f (Ok r) left s e = ap (λ d. d.left) (same_Some _ _ e)
then_left f (Err fault) left s e = ap (λ d. d.left) (same_Some _ _ e)

pub grown_took : (keys_with : Record → Keys) (row : Row) (records : List Record) (random : List ℕ) (s : Drawn Keys) → grown keys_with row records random ≡ Some s
    → Took (total (new_fills 64 (random_of row) records random)) random s.left
grown_took keys_with row records random s e = by (and_then (new_id 64 records random) (with_key row)) refl e
  where
    by : (o : Option (Drawn Record)) → and_then (new_id 64 records random) (with_key row) ≡ o → and_then o (λ r left. answers (Ok (keys_with r)) left) ≡ Some s
        → Took (total (new_fills 64 (random_of row) records random)) random s.left
    by None t k = clash k
    by (Some d) t k = subst (Took (total (new_fills 64 (random_of row) records random)) random) (then_left keys_with d.answer d.left s k) (new_took 64 row records random d t)

-- ---- edits

settled : {A : Type 0} (answer : Result A EditRefusal) (random : List ℕ) (s : Drawn A) → answers answer random ≡ Some s → Took 0 random s.left
settled answer random s e = took-nothing random s.left (ap (λ d. d.left) (same_Some _ _ e))

effect_took : (keys : Keys) (edit : Edit) (random : List ℕ) (s : Drawn Keys) → effect_of keys edit random ≡ Some s → Took (total (effect_fills keys edit random)) random s.left
unfolding effect_of
effect_took keys (edits.Add row) random s e = grown_took (added keys) row keys.records random s e
effect_took keys (edits.Rotate row) random s e = grown_took (rotated keys) row keys.records random s e
effect_took keys (edits.Promote id) random s e = settled _ random s e
effect_took keys (edits.Enable id) random s e = settled _ random s e
effect_took keys (edits.Disable id) random s e = settled _ random s e
effect_took keys (edits.Destroy id) random s e = settled _ random s e
effect_took keys (edits.Delete id) random s e = settled _ random s e

pub step_took : (keys : Keys) (edit : Edit) (random : List ℕ) (s : Drawn Keys) → step keys edit random ≡ Some s → Took (total (edit_fills keys random edit)) random s.left
step_took keys edit random s e = by (refusal_of keys edit) e
  where
    by : (o : Option EditRefusal) → unless_refused o (effect_of keys edit) random ≡ Some s → Took (total (unless_there o (effect_fills keys edit random))) random s.left
    by (Some fault) k = settled _ random s k
    by None k = effect_took keys edit random s k

edit_took : (keys : Keys) (edit : Edit) (random : List ℕ) (x : Served) → edit_line keys random edit ≡ Some x → Took (total (edit_fills keys random edit)) random x.left
edit_took keys edit random x e =
    let there = map_some (stepped edit keys) (step keys edit random) x e in
    let s = there.0 in
    subst (Took (total (edit_fills keys random edit)) random) (served_left edit keys s.answer s.left ∙ ap (λ y. y.left) there.2) (step_took keys edit random s there.1)

-- ---- lines

took-answered : (keys : Keys) (random : List ℕ) (reply : Reply) (x : Served) → Some (answered keys random reply) ≡ Some x → Took 0 random x.left
took-answered keys random reply x e = took-nothing random x.left (ap (λ y. y.left) (same_Some _ _ e))

took-computed : {A : Type 0} (keys : Keys) (random : List ℕ) (reply : A → Reply) (answer : Option A) (x : Served) → computed keys random reply answer ≡ Some x → Took 0 random x.left
took-computed keys random reply (Some value) x e = took-answered keys random (reply value) x e
took-computed keys random reply None x e = clash e

took-unless : (u : Option (ℕ × Unfit)) (keys : Keys) (random : List ℕ) (served : Option Served) (x : Served) → (served ≡ Some x → Took 0 random x.left) → unless_unfit u keys random served ≡ Some x → Took 0 random x.left
took-unless None keys random served x took e = took e
took-unless (Some found) keys random served x took e = took-answered keys random (Refuses (Refused (cannot_serve found.0 found.1))) x e

asked_took : (table : Table) (keys : Keys) (asked : EditOf (List ℕ)) (random : List ℕ) (x : Served) → serve table keys (AsksEdit asked) random ≡ Some x → Took (total (fills table keys (AsksEdit asked) random)) random x.left
unfolding serve fills
asked_took table keys asked random x e = by (edit_named asked) e
  where
    by : (found : Result Edit Refusal) → or_refused (refused_line keys random) found (edit_line keys random) ≡ Some x → Took (total (asked_fills keys random found)) random x.left
    by (Ok edit) e = edit_took keys edit random x e
    by (Err why) e = took-answered keys random (Refuses (Refused why)) x e

-- a sealing, with the first random bytes as IV
pub record IsSealing (table : Table) (keys : Keys) (plain ad random : List ℕ) (made : Sealed) : Type 0 where
  pub under' : Record
  pub primary : primary_of keys ≡ Some under'
  pub key : KeyKind
  pub is : key_of_record table Aead under' ≡ Some key
  pub bytes : made.bytes ≡ prefix_bytes (prefix_of under') ++ seal_of key (take (iv_size key) random) plain ad
  pub took : Took (iv_size key) random made.left

pub is_sealing : (table : Table) (keys : Keys) (plain ad random : List ℕ) (made : Sealed) → seal_answer keys table plain ad random ≡ Some made → IsSealing table keys plain ad random made
is_sealing table keys plain ad random made e =
    let one = then_some (seal_under table plain ad random) (primary_of keys) made e in
    let r = one.0 in
    let front = prefix_bytes (prefix_of r) in
    let two = then_some (seal_behind front plain ad random) (key_of_record table Aead r) made one.2 in
    let key = two.0 in
    elim (ltb (length random) (iv_size key)) as (λ b. ltb (length random) (iv_size key) ≡ b
    → cond b None (Some (record { bytes = front ++ seal_of key (take (iv_size key) random) plain ad; left = drop (iv_size key) random })) ≡ Some made
    → IsSealing table keys plain ad random made) [
      | true ↦ λ t k. clash k
      | false ↦ λ t k. record {
        under' = r;
        primary = one.1;
        key = key;
        is = two.1;
        bytes = sym (ap (λ s. s.bytes) (same_Some _ _ k));
        took = record { behind = sym (ap (λ s. s.left) (same_Some _ _ k)); enough = ltb-false _ _ t };
      }
    ] refl two.2

-- the key of the primary record, by its parts
pub primary_is : (table : Table) (keys : Keys) (r : Record) (key : KeyKind) → primary_of keys ≡ Some r → key_of_record table Aead r ≡ Some key → primary_key keys table Aead ≡ Some key
primary_is table keys r key primary is = ap (option_and_then (key_of_record table Aead)) primary ∙ is

-- such a line draws one IV
pub seal_fills : (table : Table) (keys : Keys) (plain ad random : List ℕ) (r : Record) (key : KeyKind) → unfit keys Aead table ≡ None → primary_of keys ≡ Some r → key_of_record table Aead r ≡ Some key
    → fills table keys (Seal plain ad) random ≡ fill_of Iv (iv_size key) ∷ []
unfolding fills
seal_fills table keys plain ad random r key fit primary is =
    ap (λ u. unless_there u (iv_fills (primary_key keys table Aead))) fit
    ∙ ap iv_fills (primary_is table keys r key primary is)

seal_took : (table : Table) (keys : Keys) (plain ad random : List ℕ) (x : Served) (u : Option (ℕ × Unfit)) → unless_unfit u keys random (option_map (sealed_reply keys) (seal_answer keys table plain ad random)) ≡ Some x
    → Took (total (unless_there u (iv_fills (primary_key keys table Aead)))) random x.left
seal_took table keys plain ad random x (Some found) e = took-answered keys random (Refuses (Refused (cannot_serve found.0 found.1))) x e
seal_took table keys plain ad random x None e =
    let there = map_some (sealed_reply keys) (seal_answer keys table plain ad random) x e in
    let s = is_sealing table keys plain ad random there.0 there.1 in
    subst (Took (total (iv_fills (primary_key keys table Aead))) random) (ap (λ y. y.left) there.2)
    (subst (λ k. Took (total (iv_fills k)) random there.0.left) (sym (primary_is table keys s.under' s.key s.primary s.is))
    (took-one (fill_of Iv (iv_size s.key)) random there.0.left s.took))

reseal_took : (table : Table) (keys : Keys) (ad random : List ℕ) (x : Served) (u : Option (ℕ × Unfit)) (o : Option (List ℕ)) → unless_unfit u keys random (if_opened keys random o (λ plain. option_map (sealed_reply keys) (seal_answer keys table plain ad random))) ≡ Some x
    → Took (total (unless_there u (opened_fills o (iv_fills (primary_key keys table Aead))))) random x.left
reseal_took table keys ad random x (Some found) o e = took-answered keys random (Refuses (Refused (cannot_serve found.0 found.1))) x e
reseal_took table keys ad random x None (Some plain) e = seal_took table keys plain ad random x None e
reseal_took table keys ad random x None None e = took-answered keys random (Refuses OpenFailed) x e

took-opened : (keys : Keys) (random : List ℕ) (o : Option (List ℕ)) (next : List ℕ → Option Served) (x : Served) → ((plain : List ℕ) → next plain ≡ Some x → Took 0 random x.left) → if_opened keys random o next ≡ Some x → Took 0 random x.left
took-opened keys random (Some plain) next x took e = took plain e
took-opened keys random None next x took e = took-answered keys random (Refuses OpenFailed) x e

-- a save takes its IV
save_took : (size : ℕ) (random left : List ℕ) → Took size random left → Took (total (save_fills size)) random left
save_took zero random left took = took
save_took (suc size) random left took = took-one (fill_of Iv (suc size)) random left took

saved_took : (keys : Keys) (outcome : Outcome) (random : List ℕ) (x : Served) → saved_line keys random outcome ≡ Some x → Took (total (save_fills (drawn_size outcome))) random x.left
saved_took keys outcome random x e = by (ltb (length random) (drawn_size outcome)) refl e
  where
    by : (b : Bool) → ltb (length random) (drawn_size outcome) ≡ b
        → cond b None (Some (answered keys (drop (drawn_size outcome) random) (saved_reply outcome.why))) ≡ Some x
        → Took (total (save_fills (drawn_size outcome))) random x.left
    by true t k = clash k
    by false t k = save_took (drawn_size outcome) random x.left (record { behind = sym (ap (λ y. y.left) (same_Some _ _ k)); enough = ltb-false _ _ t })

pub line_took : (table : Table) (keys : Keys) (line : Line) (random : List ℕ) (x : Served) → serve table keys line random ≡ Some x → Took (total (fills table keys line random)) random x.left
unfolding serve fills
line_took table keys (Seal plain ad) random x e = seal_took table keys plain ad random x (unfit keys Aead table) e
line_took table keys (Dseal plain ad) random x e = took-unless (unfit keys Daead table) keys random _ x (took-computed keys random Gives (dseal_answer keys table plain ad) x) e
line_took table keys (Open sealed ad) random x e = took-unless (unfit keys Aead table) keys random _ x (took-answered keys random _ x) e
line_took table keys (Dopen sealed ad) random x e = took-unless (unfit keys Daead table) keys random _ x (took-answered keys random _ x) e
line_took table keys (Reseal sealed ad) random x e = reseal_took table keys ad random x (unfit keys Aead table) (open_answer keys table sealed ad) e
line_took table keys (Dreseal sealed ad) random x e = took-unless (unfit keys Daead table) keys random _ x (took-opened keys random (dopen_answer keys table sealed ad) _ x (λ plain. took-computed keys random Gives (dseal_answer keys table plain ad) x)) e
line_took table keys (Tag body) random x e = took-unless (unfit keys Mac table) keys random _ x (took-computed keys random Gives (tag_answer keys table body) x) e
line_took table keys (Verify tag body) random x e = took-unless (unfit keys Mac table) keys random _ x (took-answered keys random _ x) e
line_took table keys (Derive size input) random x e = took-unless (unfit keys Prf table) keys random _ x (took-computed keys random (derived_reply size) (derive_answer keys table input size) x) e
line_took table keys (AsksEdit edit) random x e = asked_took table keys edit random x e
line_took table keys (Save name outcome) random x e = saved_took keys outcome random x e
line_took table keys (Bad why) random x e = took-answered keys random _ x e
