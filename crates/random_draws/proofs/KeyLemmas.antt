-- New keys: their last two fills, and the slices of these in a session.
use Rattle.std.proofs.Common.{◌≡◌, ◌∙◌, ◌⊎◌, inl, inr, refl, sym, ap, subst, ℕ, zero, suc, ◌+◌, ltb, Bool, true, false, cond, List, [], ◌∷◌, ◌++◌, length, take, drop, Option, Some, None, Result, Ok, Err, arith}
use Rattle.std.specs.List.{slice_get}
use Rattle.std.proofs.lemmas.List.{append_assoc, drop-drop}
use Rattle.std.proofs.lemmas.List.Sums.{sum_by-cons}
use Rattle.std.proofs.lemmas.Option.{same_Some}
use Rattle.key_msgs.specs.Templates.{Row, random_of}
use Rattle.keyset_model.specs.Keyset.{Keys}
use Rattle.keyset_model.specs.declared.record.Record.{Record}
use Rattle.managers.specs.Table.{Table}
use Rattle.random_draws.proofs.SessionLemmas.{turns_have_slices}
use Rattle.random_draws.proofs.PlaceLemmas.{placed-append}
use Rattle.random_draws.proofs.StepFacts.{AddedAreDrawn, CreatedAreDrawn, HasNewKey}
use Rattle.random_draws.specs.Slices.{Slice, Fill, Id, Key, size_of, slices, edit_fills, effect_fills, fill_of, fills, new_fills, placed, bytes_of, asked_fills, total, unless_there}
use Rattle.random_draws.specs.Sessions.{IsMadeWith, NewKeysAreDrawn}
use Rattle.tinkey_cmds.specs.Draws.{Drawn, and_then, answered as answers}
use Rattle.tinkey_cmds.specs.Edits.{Edit, EditOf, added, alone, effect_of, grown, id_of, is_taken, new_id, record_of, refusal_of, rotated, step, unless_refused, with_key}
use Rattle.tinkey_cmds.specs.Edits as edits
use Rattle.tinkey_cmds.specs.declared.command.EditRefusal.{EditRefusal}
use Rattle.tinkey_session.proofs.Options.{clash, map_some}
use Rattle.tinkey_session.specs.Lines.{Edit as AsksEdit}
use Rattle.tinkey_session.specs.Serving.{Served, edit_line, edit_served, edited_reply, last_id, or_refused, refused_line, serve, stepped, template_of}
use Rattle.tinkey_session.specs.declared.reply.Refusal.{Refusal}
use Rattle.tinkey_session.specs.declared.reply.Refusal.TheVariants.{Command}
use Rattle.tinkey_session.specs.declared.reply.LineRefusal.TheVariants.{Refused}
use Rattle.tinkey_session.specs.declared.reply.Reply.TheVariants.{NewId, Refuses}

no_result : {A E P : Type 0} (fault : E) (x : A) → ◌≡◌ {A = Result A E} (Err fault) (Ok x) → P
no_result fault x e = absurd cc

same_result : {A E : Type 0} (x y : A) → ◌≡◌ {A = Result A E} (Ok x) (Ok y) → x ≡ y
same_result x y e = cc

-- ---- a new record

-- the last two fills of a new key are those of its id and of its bytes
record IsNew (tries : ℕ) (row : Row) (records : List Record) (random : List ℕ) (r : Record) : Type 0 where
  before : List Fill
  start : ℕ
  is_start : start ≡ total before
  split : new_fills tries (random_of row) records random ≡ before ++ fill_of Id 4 ∷ fill_of Key (random_of row) ∷ []
  made : r ≡ record_of row (id_of (take 4 (drop start random))) (take (random_of row) (drop (start + 4) random))

key_made : (row : Row) (id : ℕ) (random : List ℕ) (s : Drawn Record) → with_key row id random ≡ Some s → s.answer ≡ Ok (record_of row id (take (random_of row) random))
key_made row id random s e = by (ltb (length random) (random_of row)) e
  where
    by : (b : Bool) → and_then (cond b None (Some (record { answer = Ok (take (random_of row) random); left = drop (random_of row) random }))) (λ key left. answers (Ok (record_of row id key)) left) ≡ Some s
        → s.answer ≡ Ok (record_of row id (take (random_of row) random))
    by true k = clash k
    by false k = sym (ap (λ d. d.answer) (same_Some _ _ k))

first_try : (tries : ℕ) (row : Row) (records : List Record) (random : List ℕ) (s : Drawn Record) (r : Record) → is_taken records (id_of (take 4 random)) ≡ false
    → with_key row (id_of (take 4 random)) (drop 4 random) ≡ Some s → s.answer ≡ Ok r → IsNew (suc tries) row records random r
unfolding new_fills
first_try tries row records random s r free e ok = record {
  before = [];
  start = 0;
  is_start = refl;
  split = ap (λ b. fill_of Id 4 ∷ cond b (new_fills tries (random_of row) records (drop 4 random)) (fill_of Key (random_of row) ∷ [])) free;
  made = same_result _ _ (sym ok ∙ key_made row (id_of (take 4 random)) (drop 4 random) s e);
}

later_try : (tries : ℕ) (row : Row) (records : List Record) (random : List ℕ) (r : Record) → is_taken records (id_of (take 4 random)) ≡ true
    → IsNew tries row records (drop 4 random) r → IsNew (suc tries) row records random r
unfolding new_fills
later_try tries row records random r taken new =
    let start = new.is_start in
    let more = sum_by-cons (λ (f : Fill). f.size) (fill_of Id 4) new.before in
    let there : 4 + (new.start + 4) ≡ 4 + new.start + 4 = omega arith in
    record {
      before = fill_of Id 4 ∷ new.before;
      start = 4 + new.start;
      is_start = omega (arith, start, more);
      split = ap (λ b. fill_of Id 4 ∷ cond b (new_fills tries (random_of row) records (drop 4 random)) (fill_of Key (random_of row) ∷ [])) taken
          ∙ ap (λ fs. fill_of Id 4 ∷ fs) new.split;
      made = new.made
          ∙ ap (λ l. record_of row (id_of (take 4 l)) (take (random_of row) (drop (new.start + 4) (drop 4 random)))) (drop-drop new.start 4 random)
          ∙ ap (λ l. record_of row (id_of (take 4 (drop (4 + new.start) random))) (take (random_of row) l)) (drop-drop (new.start + 4) 4 random ∙ ap (λ n. drop n random) there);
    }

is_new : (tries : ℕ) (row : Row) (records : List Record) (random : List ℕ) (s : Drawn Record) (r : Record) → and_then (new_id tries records random) (with_key row) ≡ Some s → s.answer ≡ Ok r
    → IsNew tries row records random r
unfolding new_id
is_new zero row records random s r e ok = no_result _ r (ap (λ d. d.answer) (same_Some _ _ e) ∙ ok)
is_new (suc tries) row records random s r e ok = elim (ltb (length random) 4) as (λ b.
    and_then (and_then (cond b None (Some (record { answer = Ok (take 4 random); left = drop 4 random })))
    (λ group left. cond (is_taken records (id_of group)) (new_id tries records left) (answers (Ok (id_of group)) left))) (with_key row) ≡ Some s
    → IsNew (suc tries) row records random r) [
      | true ↦ λ k. clash k
      | false ↦ λ k. elim (is_taken records (id_of (take 4 random))) as (λ b. is_taken records (id_of (take 4 random)) ≡ b
          → and_then (cond b (new_id tries records (drop 4 random)) (answers (Ok (id_of (take 4 random))) (drop 4 random))) (with_key row) ≡ Some s
          → IsNew (suc tries) row records random r) [
            | true ↦ λ t h. later_try tries row records random r t (is_new tries row records (drop 4 random) s r h ok)
            | false ↦ λ t h. first_try tries row records random s r t h ok
          ] refl k
    ] e

-- ---- an edit that makes a key

abbrev IsGrown : (Record → Keys) → Row → List Record → List ℕ → Result Keys EditRefusal → Type 0
IsGrown keys_with row records random answer =
    ((fault : EditRefusal) × (answer ≡ Err fault)) ⊎ ((r : Record) × (answer ≡ Ok (keys_with r)) × IsNew 64 row records random r)

grown_answer : (keys_with : Record → Keys) (row : Row) (records : List Record) (random : List ℕ) (answer : Result Record EditRefusal) (left : List ℕ) (s : Drawn Keys)
    → ((r : Record) → answer ≡ Ok r → IsNew 64 row records random r)
    → and_then (answers answer left) (λ r later. answers (Ok (keys_with r)) later) ≡ Some s → IsGrown keys_with row records random s.answer
grown_answer keys_with row records random (Err fault) left s new e = inl (fault, sym (ap (λ d. d.answer) (same_Some _ _ e)))
grown_answer keys_with row records random (Ok r) left s new e = inr (r, sym (ap (λ d. d.answer) (same_Some _ _ e)), new r refl)

grown_made : (keys_with : Record → Keys) (row : Row) (records : List Record) (random : List ℕ) (s : Drawn Keys) → grown keys_with row records random ≡ Some s → IsGrown keys_with row records random s.answer
grown_made keys_with row records random s e = by (and_then (new_id 64 records random) (with_key row)) refl e
  where
    by : (o : Option (Drawn Record)) → and_then (new_id 64 records random) (with_key row) ≡ o → and_then o (λ r left. answers (Ok (keys_with r)) left) ≡ Some s → IsGrown keys_with row records random s.answer
    by None t k = clash k
    by (Some d) t k = grown_answer keys_with row records random d.answer d.left s (λ r ok. is_new 64 row records random d r t ok) k

-- `add` and `rotate`
record MakesKeys (edit : Row → Edit) (keys_with : Keys → Record → Keys) : Type 0 where
  effect : (keys : Keys) (row : Row) (random : List ℕ) → effect_of keys (edit row) random ≡ grown (keys_with keys) row keys.records random
  filled : (keys : Keys) (row : Row) (random : List ℕ) → effect_fills keys (edit row) random ≡ new_fills 64 (random_of row) keys.records random
  reply : (keys : Keys) (row : Row) → edited_reply (edit row) keys ≡ last_id keys.records
  records : (keys : Keys) (r : Record) → (keys_with keys r).records ≡ keys.records ++ r ∷ []

adds : MakesKeys edits.Add added
unfolding effect_of
adds = record {
  effect = λ keys row random. refl;
  filled = λ keys row random. refl;
  reply = λ keys row. refl;
  records = λ keys r. refl;
}

rotates : MakesKeys edits.Rotate rotated
unfolding effect_of
rotates = record {
  effect = λ keys row random. refl;
  filled = λ keys row random. refl;
  reply = λ keys row. refl;
  records = λ keys r. refl;
}

last_id-push : (rs : List Record) (r : Record) → last_id (rs ++ r ∷ []) ≡ NewId r.id
last_id-push [] r = refl
last_id-push (s ∷ []) r = refl
last_id-push (s ∷ t ∷ later) r = last_id-push (t ∷ later) r

-- what a line made, of its last two fills
record LineMade (keys : Keys) (random : List ℕ) (found : Result Row Refusal) (filled : List Fill) (x : Served) : Type 0 where
  row : Row
  r : Record
  before : List Fill
  start : ℕ
  is_start : start ≡ total before
  split : filled ≡ before ++ fill_of Id 4 ∷ fill_of Key (random_of row) ∷ []
  made : r ≡ record_of row (id_of (take 4 (drop start random))) (take (random_of row) (drop (start + 4) random))
  named : found ≡ Ok row
  reply : x.reply ≡ NewId r.id
  records : x.keys.records ≡ keys.records ++ r ∷ []

-- a refusal, or that
abbrev IsTold : Keys → List ℕ → Result Row Refusal → List Fill → Served → Type 0
IsTold keys random found filled x = ((why : Refusal) × (x.reply ≡ Refuses (Refused why))) ⊎ LineMade keys random found filled x

told_refused : (edit : Edit) (keys : Keys) (random : List ℕ) (found : Result Row Refusal) (filled : List Fill) (s : Drawn Keys) (fault : EditRefusal) → s.answer ≡ Err fault
    → IsTold keys random found filled (stepped edit keys s)
told_refused edit keys random found filled s fault is = inl (Command fault, ap (λ answer. (edit_served edit keys answer s.left).reply) is)

told_made : (edit : Row → Edit) (keys_with : Keys → Record → Keys) (makes : MakesKeys edit keys_with) (keys : Keys) (random : List ℕ) (row : Row) (s : Drawn Keys)
    → IsGrown (keys_with keys) row keys.records random s.answer → IsTold keys random (Ok row) (effect_fills keys (edit row) random) (stepped (edit row) keys s)
told_made edit keys_with makes keys random row s grown = elim grown [
  | inl refused ↦ told_refused (edit row) keys random (Ok row) (effect_fills keys (edit row) random) s refused.0 refused.1
  | inr g ↦
      let r = g.0 in
      let new = g.2 in
      let records = makes.records keys r in
      inr (record {
        row = row;
        r = r;
        before = new.before;
        start = new.start;
        is_start = new.is_start;
        split = makes.filled keys row random ∙ new.split;
        made = new.made;
        named = refl;
        reply = ap (λ answer. (edit_served (edit row) keys answer s.left).reply) g.1
            ∙ makes.reply (keys_with keys r) row ∙ ap last_id records ∙ last_id-push keys.records r;
        records = ap (λ answer. (edit_served (edit row) keys answer s.left).keys.records) g.1 ∙ records;
      })
]

told_step : (edit : Row → Edit) (keys_with : Keys → Record → Keys) (makes : MakesKeys edit keys_with) (keys : Keys) (random : List ℕ) (row : Row) (s : Drawn Keys) (o : Option EditRefusal)
    → unless_refused o (effect_of keys (edit row)) random ≡ Some s → IsTold keys random (Ok row) (unless_there o (effect_fills keys (edit row) random)) (stepped (edit row) keys s)
told_step edit keys_with makes keys random row s (Some fault) e = told_refused (edit row) keys random (Ok row) [] s fault (sym (ap (λ d. d.answer) (same_Some _ _ e)))
told_step edit keys_with makes keys random row s None e =
    told_made edit keys_with makes keys random row s (grown_made (keys_with keys) row keys.records random s (sym (makes.effect keys row random) ∙ e))

-- the edit of the template that was found
abbrev named : (Row → Edit) → Result Row Refusal → Result Edit Refusal
named edit found = or_refused Err found (λ row. Ok (edit row))

told_line : (edit : Row → Edit) (keys_with : Keys → Record → Keys) (makes : MakesKeys edit keys_with) (keys : Keys) (random : List ℕ) (found : Result Row Refusal) (x : Served)
    → or_refused (refused_line keys random) (named edit found) (edit_line keys random) ≡ Some x → IsTold keys random found (asked_fills keys random (named edit found)) x
told_line edit keys_with makes keys random (Err why) x e = inl (why, ap (λ y. y.reply) (sym (same_Some _ _ e)))
told_line edit keys_with makes keys random (Ok row) x e =
    let there = map_some (stepped (edit row) keys) (step keys (edit row) random) x e in
    subst (IsTold keys random (Ok row) (edit_fills keys random (edit row))) there.2
    (told_step edit keys_with makes keys random row there.0 (refusal_of keys (edit row)) there.1)

-- what is asked for by a name is told so
abbrev TellsSo : (List ℕ → EditOf (List ℕ)) → Type 0
TellsSo asks = (table : Table) (keys : Keys) (name random : List ℕ) (x : Served) → serve table keys (AsksEdit (asks name)) random ≡ Some x
    → IsTold keys random (template_of name) (fills table keys (AsksEdit (asks name)) random) x

tells_added : TellsSo edits.Add
unfolding serve fills
tells_added table keys name random x e = told_line edits.Add added adds keys random (template_of name) x e

tells_rotated : TellsSo edits.Rotate
unfolding serve fills
tells_rotated table keys name random x e = told_line edits.Rotate rotated rotates keys random (template_of name) x e

-- ---- in a session

get-two : (xs : List Slice) (d e : Slice) (ys : List Slice) → (slice_get ((xs ++ d ∷ e ∷ []) ++ ys) (length xs) ≡ Some d) × (slice_get ((xs ++ d ∷ e ∷ []) ++ ys) (suc (length xs)) ≡ Some e)
get-two [] d e ys = (refl, refl)
get-two (x ∷ xs) d e ys = get-two xs d e ys

-- two fills, placed
abbrev pub id_at : (line place : ℕ) → Slice
id_at line place = record { line = line; purpose = Id; place = place; size = 4 }

abbrev pub key_at : (line place size : ℕ) → Slice
key_at line place size = record { line = line; purpose = Key; place = place + 4; size = size }

placed-two : (line place size : ℕ) → placed line place (fill_of Id 4 ∷ fill_of Key size ∷ []) ≡ id_at line place ∷ key_at line place size ∷ []
unfolding placed
placed-two line place size = refl

pub placed-made : (line place start size : ℕ) (before : List Fill) → start ≡ total before
    → placed line place (before ++ fill_of Id 4 ∷ fill_of Key size ∷ []) ≡ placed line place before ++ id_at line (place + start) ∷ key_at line (place + start) size ∷ []
placed-made line place start size before is =
    placed-append line place before (fill_of Id 4 ∷ fill_of Key size ∷ [])
    ∙ ap (λ n. placed line place before ++ placed line (place + n) (fill_of Id 4 ∷ fill_of Key size ∷ [])) (sym is)
    ∙ ap (λ ds. placed line place before ++ ds) (placed-two line (place + start) size)

made_with : (all before after : List Slice) (random : List ℕ) (filled : List Fill) (keys : Keys) (found : Result Row Refusal) (i : ℕ) (x : Served) → all ≡ before ++ placed i (size_of before) filled ++ after
    → (m : LineMade keys (drop (size_of before) random) found filled x)
    → IsMadeWith all random i m.row m.r (id_at i (size_of before + m.start)) (key_at i (size_of before + m.start) (random_of m.row))
made_with all before after random filled keys found i x split m =
    let place = size_of before in
    let size = random_of m.row in
    let id = id_at i (place + m.start) in
    let key = key_at i (place + m.start) size in
    let front = placed i place m.before in
    let same : all ≡ (before ++ front) ++ id ∷ key ∷ [] ++ after
    = split
    ∙ ap (λ fs. before ++ placed i place fs ++ after) m.split
    ∙ ap (λ ds. before ++ ds ++ after) (placed-made i place m.start size m.before m.is_start)
    ∙ ap (λ ds. ds ++ after) (sym (append_assoc before front (id ∷ key ∷ []))) in
    let two = get-two (before ++ front) id key after in
    let there : place + (m.start + 4) ≡ place + m.start + 4 = omega arith in
    record {
      at = length (before ++ front);
      id_there = ap (λ ds. slice_get ds (length (before ++ front))) same ∙ two.0;
      key_there = ap (λ ds. slice_get ds (suc (length (before ++ front)))) same ∙ two.1;
      id_line = refl;
      id_purpose = refl;
      key_line = refl;
      key_purpose = refl;
      made = m.made
          ∙ ap (λ l. record_of m.row (id_of (take 4 l)) (take size (drop (m.start + 4) (drop place random)))) (drop-drop m.start place random)
          ∙ ap (λ l. record_of m.row (id_of (bytes_of id random)) (take size l)) (drop-drop (m.start + 4) place random ∙ ap (λ n. drop n random) there);
    }

keys_drawn : (asks : List ℕ → EditOf (List ℕ)) → TellsSo asks → NewKeysAreDrawn asks
keys_drawn asks tells table keys lines random name i t e is =
    let h = turns_have_slices table keys lines random i t e in
    let rest = drop (size_of h.before) random in
    let filled = fills table t.before (AsksEdit (asks name)) rest in
    let split : slices table keys lines random ≡ h.before ++ placed i (size_of h.before) filled ++ h.after
    = h.split ∙ ap (λ line. h.before ++ placed i (size_of h.before) (fills table t.before line rest) ++ h.after) is in (
      h,
      elim (tells table t.before name rest h.served (ap (λ line. serve table t.before line rest) (sym is) ∙ h.is)) [
        | inl refused ↦ inl (refused.0, h.reply ∙ refused.1)
        | inr m ↦ inr (
          m.row,
          m.r,
          id_at i (size_of h.before + m.start),
          key_at i (size_of h.before + m.start) (random_of m.row),
          m.named,
          made_with (slices table keys lines random) h.before h.after random filled t.before (template_of name) i h.served split m,
          h.reply ∙ m.reply,
          m.records,
        )
      ],
    )

pub added_are_drawn : NewKeysAreDrawn edits.Add
added_are_drawn = keys_drawn edits.Add tells_added

pub rotated_are_drawn : NewKeysAreDrawn edits.Rotate
rotated_are_drawn = keys_drawn edits.Rotate tells_rotated

-- ---- commands

-- the same by the total of the fills before
as_new : (row : Row) (records : List Record) (filled : List Fill) (random : List ℕ) (r : Record) → filled ≡ new_fills 64 (random_of row) records random → IsNew 64 row records random r → HasNewKey row filled random r
as_new row records filled random r same new = record {
  before = new.before;
  split = same ∙ new.split;
  made = new.made ∙ ap (λ n. record_of row (id_of (take 4 (drop n random))) (take (random_of row) (drop (n + 4) random))) new.is_start;
}

accepted : (keys_with : Record → Keys) (row : Row) (records : List Record) (random : List ℕ) (answer : Result Keys EditRefusal) (new : Keys) → answer ≡ Ok new → IsGrown keys_with row records random answer
    → (r : Record) × (new ≡ keys_with r) × IsNew 64 row records random r
accepted keys_with row records random answer new ok grown = elim grown [
  | inl refused ↦ no_result refused.0 new (sym refused.1 ∙ ok)
  | inr g ↦ (g.0, same_result _ _ (sym ok ∙ g.1), g.2)
]

pub created_are_drawn : CreatedAreDrawn
created_are_drawn row random s new e ok =
    let a = accepted alone row [] random s.answer new ok (grown_made alone row [] random s e) in
    (a.0, a.1, as_new row [] _ random a.0 refl a.2)

edited_by : (edit : Row → Edit) (keys_with : Keys → Record → Keys) → MakesKeys edit keys_with → AddedAreDrawn edit keys_with
edited_by edit keys_with makes keys row random s new e ok = by (refusal_of keys (edit row)) e
  where
    by : (o : Option EditRefusal) → unless_refused o (effect_of keys (edit row)) random ≡ Some s
        → (r : Record) × (new ≡ keys_with keys r) × HasNewKey row (unless_there o (effect_fills keys (edit row) random)) random r
    by (Some fault) k = no_result fault new (ap (λ d. d.answer) (same_Some _ _ k) ∙ ok)
    by None k =
        let a = accepted (keys_with keys) row keys.records random s.answer new ok (grown_made (keys_with keys) row keys.records random s (sym (makes.effect keys row random) ∙ k)) in
        (a.0, a.1, as_new row keys.records (effect_fills keys (edit row) random) random a.0 (makes.filled keys row random) a.2)

pub edit_adds : AddedAreDrawn edits.Add added
edit_adds = edited_by edits.Add added adds

pub edit_rotates : AddedAreDrawn edits.Rotate rotated
edit_rotates = edited_by edits.Rotate rotated rotates
