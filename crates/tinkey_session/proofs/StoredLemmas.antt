-- What edits and sessions keep of stored records: the messages that templates make are bytes.
use Rattle.std.proofs.Common.{◌≡◌, inl, inr, refl, sym, subst, ℕ, zero, suc, ◌<◌, true, false, cond, ltb, List, [], ◌∷◌, ◌++◌, length, take, drop, Option, Some, None, Result, Ok, Err, lit<}
use Rattle.std.specs.Prelude.{IfOk, slice_index}
use Rattle.std.specs.List.{AllByRecursion}
use Rattle.std.specs.Option.{option_and_then}
use Rattle.std.proofs.lemmas.Bool.{ltb-false}
use Rattle.std.proofs.lemmas.List.{length-take-le}
use Rattle.std.proofs.lemmas.List.Elements.{All-drop, All-from_recursion, All-take, recursion_from_All}
use Rattle.std.proofs.lemmas.Option.{same_Some}
use Rattle.key_msgs.proofs.WrittenBytes.{bytes-behind, bytes-made}
use Rattle.key_msgs.specs.Templates.{Row, random_of}
use Rattle.keyset_model.specs.Keyset.{Keys, has_id}
use Rattle.keyset_model.specs.Writing.{HasWireBounds}
use Rattle.keyset_model.specs.declared.record.Record.{Record}
use Rattle.managers.specs.Table.{Table}
use Rattle.tinkey_cmds.proofs.Among.{among-all, find-among}
use Rattle.tinkey_cmds.proofs.Cases.{Seven, edit_case, yielded}
use Rattle.tinkey_cmds.proofs.Changes.{changed-each, without-each}
use Rattle.tinkey_cmds.proofs.Kept.{edits_keep_bounds, firsts_have_bounds}
use Rattle.tinkey_cmds.proofs.Lists.{each-append}
use Rattle.tinkey_cmds.specs.Draws.{Draw, Drawn, and_then, answered, fill, unless_err}
use Rattle.tinkey_cmds.specs.Edits.{Edit, Add, Rotate, Promote, Enable, Disable, Destroy, Delete, Stepped, added, alone, destroyed, effect_of, first, full_or_mixed, grown, id_of, is_taken, new_id, named, new_record, record_of, refusal_of, rotated, step, unless_refused, with_key, with_status}
use Rattle.tinkey_cmds.specs.Laws.{HasTemplate, IsTemplate}
use Rattle.tinkey_cmds.specs.declared.command.EditRefusal.{EditRefusal}
use Rattle.tinkey_cmds.specs.declared.command.EditRefusal.TheVariants.{IdsExhausted}
use Rattle.tinkey_session.proofs.DrawLemmas.{lines_draw_fronts}
use Rattle.tinkey_session.proofs.Options.{clash, map_some}
use Rattle.tinkey_session.proofs.TurnLemmas.{serve_leaves}
use Rattle.tinkey_session.specs.HeldLaws.{AreBytes, AreStored, EditsKeepStored, FirstsAreStored, IsStored, SessionsKeepStored}
use Rattle.tinkey_session.specs.Lines.{Line}
use Rattle.tinkey_session.specs.Serving.{Served, edit_line, edit_served, serve, stepped}
use Rattle.tinkey_session.specs.Session.{remains}

-- ---- bytes

bytes-take : (n : ℕ) (xs : List ℕ) → AreBytes xs → AreBytes (take n xs)
bytes-take n xs h = recursion_from_All (λ b. b < 256) (take n xs) (All-take (λ b. b < 256) n xs (All-from_recursion (λ b. b < 256) xs h))

bytes-drop : (n : ℕ) (xs : List ℕ) → AreBytes xs → AreBytes (drop n xs)
bytes-drop n xs h = recursion_from_All (λ b. b < 256) (drop n xs) (All-drop (λ b. b < 256) n xs (All-from_recursion (λ b. b < 256) xs h))

-- by their places, as the codings of bytes into text have it
pub byte_there : (bytes : List ℕ) → AreBytes bytes → (i : ℕ) → slice_index bytes i < 256
byte_there [] h i = lit< tt
byte_there (b ∷ bytes) h zero = h.0
byte_there (b ∷ bytes) h (suc i) = byte_there bytes h.1 i

-- ---- what is drawn of bytes

-- of bytes what is accepted has this, and bytes are left
YieldsOf : {A : Type 0} → (A → Type 0) → Draw A → Type 0
YieldsOf {A} P give = (random : List ℕ) (s : Drawn A) → AreBytes random → give random ≡ Some s → IfOk s.answer P × AreBytes s.left

yields-answered : {A : Type 0} (P : A → Type 0) (answer : Result A EditRefusal) → IfOk answer P → YieldsOf P (answered answer)
unfolding YieldsOf
yields-answered P answer has random s h e = subst (λ d. IfOk d.answer P × AreBytes d.left) (same_Some _ _ e) (has, h)

yields-next : {A B : Type 0} (P : A → Type 0) (Q : B → Type 0) (next : A → Draw B) (s : Drawn B) → ((x : A) → P x → YieldsOf Q (next x))
    → (answer : Result A EditRefusal) (left : List ℕ) → IfOk answer P → AreBytes left → unless_err answer left next ≡ Some s → IfOk s.answer Q × AreBytes s.left
unfolding YieldsOf
yields-next P Q next s each (Err fault) left has h e = subst (λ d. IfOk d.answer Q × AreBytes d.left) (same_Some _ _ e) (tt, h)
yields-next P Q next s each (Ok x) left has h e = each x has left s h e

yields-and_then : {A B : Type 0} (P : A → Type 0) (Q : B → Type 0) (f : Draw A) (next : A → Draw B) → YieldsOf P f → ((x : A) → P x → YieldsOf Q (next x)) → YieldsOf Q (λ random. and_then (f random) next)
unfolding YieldsOf
yields-and_then P Q f next one each random s h e = elim (f random) as (λ o. f random ≡ o → and_then o next ≡ Some s → IfOk s.answer Q × AreBytes s.left) [
  | None ↦ λ t k. clash k
  | Some d ↦ λ t k. let there = one random d h t in yields-next P Q next s each d.answer d.left there.0 there.1 k
] refl e

-- so many bytes
abbrev IsPart : ℕ → List ℕ → Type 0
IsPart count part = (length part ≡ count) × AreBytes part

yields-fill : (count : ℕ) → YieldsOf (IsPart count) (fill count)
unfolding YieldsOf
yields-fill count random s h e = elim (ltb (length random) count) as (λ b. ltb (length random) count ≡ b
    → cond b None (Some (record { answer = Ok (take count random); left = drop count random })) ≡ Some s → IfOk s.answer (IsPart count) × AreBytes s.left) [
      | true ↦ λ t k. clash k
      | false ↦ λ t k. subst (λ d. IfOk d.answer (IsPart count) × AreBytes d.left) (same_Some _ _ k)
          ((length-take-le count random (ltb-false _ _ t), bytes-take count random h), bytes-drop count random h)
    ] refl e

yields-new_id : (tries : ℕ) (records : List Record) → YieldsOf (λ id. Unit {0}) (new_id tries records)
unfolding new_id
yields-new_id zero records = yields-answered (λ id. Unit {0}) (Err IdsExhausted) tt
yields-new_id (suc tries) records = yields-and_then (IsPart 4) (λ id. Unit {0}) (fill 4) _ (yields-fill 4) (λ group four.
    elim (is_taken records (id_of group)) as (λ b. YieldsOf (λ id. Unit {0}) (λ left. cond b (new_id tries records left) (answered (Ok (id_of group)) left))) [
      | true ↦ yields-new_id tries records
      | false ↦ yields-answered (λ id. Unit {0}) (Ok (id_of group)) tt
    ])

-- a value of bytes
abbrev HasValue : Record → Type 0
HasValue r = AreBytes r.value

yields-new_record : (row : Row) (records : List Record) → IsTemplate row → YieldsOf HasValue (new_record row records)
yields-new_record row records is = yields-and_then (λ id. Unit {0}) HasValue (new_id 64 records) (with_key row) (yields-new_id 64 records) (λ id free.
    yields-and_then (IsPart (random_of row)) HasValue (fill (random_of row)) _ (yields-fill (random_of row)) (λ key part.
    yields-answered HasValue (Ok (record_of row id key)) (bytes-made row key is part.0 part.1)))

-- a keyset of such records
abbrev HaveValues : Keys → Type 0
HaveValues keys = AllByRecursion HasValue keys.records

yields-grown : (keys_with : Record → Keys) (row : Row) (records : List Record) → IsTemplate row → ((r : Record) → HasValue r → HaveValues (keys_with r)) → YieldsOf HaveValues (grown keys_with row records)
yields-grown keys_with row records is each = yields-and_then HasValue HaveValues (new_record row records) _ (yields-new_record row records is)
    (λ r value. yields-answered HaveValues (Ok (keys_with r)) (each r value))

yields-unless : (refusal : Option EditRefusal) (effect : Draw Keys) → YieldsOf HaveValues effect → YieldsOf HaveValues (unless_refused refusal effect)
yields-unless (Some fault) effect has = yields-answered HaveValues (Err fault) tt
yields-unless None effect has = has

yielded_of : (give : Draw Keys) (random : List ℕ) (s : Stepped) (new : Keys) → YieldsOf HaveValues give → AreBytes random → give random ≡ Some s → s.answer ≡ Ok new → HaveValues new
unfolding YieldsOf
yielded_of give random s new yields h e ok = subst (λ answer. IfOk answer HaveValues) ok (yields random s h e).0

-- ---- edits

-- an edit that makes no key
abbrev MakesNone : Edit → Type 0
MakesNone (Add row) = ⊥
MakesNone (Rotate row) = ⊥
MakesNone edit = Unit {0}

values_seven : (keys : Keys) → HaveValues keys → Seven keys (λ edit new. MakesNone edit → HaveValues new)
values_seven keys each =
    let found : (id : ℕ) (r : Record) → named keys id ≡ Some r → HasValue r
    = λ id r e. among-all HasValue keys.records r each (find-among (has_id id) keys.records r e).0 in
    record {
      add = λ row r room same new none. absurd none;
      rotate = λ row r room same new none. absurd none;
      promote = λ id r e enabled others none. each;
      enable = λ id r e there clear same valid none. changed-each HasValue (with_status 1) id keys.records r e (found id r e) each;
      disable = λ id r e other there none. changed-each HasValue (with_status 2) id keys.records r e (found id r e) each;
      destroy = λ id r e other none. changed-each HasValue destroyed id keys.records r e tt each;
      delete = λ id r e other none. without-each HasValue id keys.records each;
    }

values_still : (old new : Keys) (edit : Edit) (random : List ℕ) (s : Stepped) → MakesNone edit → HaveValues old → step old edit random ≡ Some s → s.answer ≡ Ok new → HaveValues new
values_still old new edit random s none each e ok =
    yielded _ (step old edit) random s new (edit_case old (λ x k. MakesNone x → HaveValues k) (values_seven old each) edit) e ok none

-- the new record stands behind the old ones
yields-pushed : (keys_with : Record → Keys) (keys : Keys) (row : Row) → ((r : Record) → (keys_with r).records ≡ keys.records ++ r ∷ []) → IsTemplate row → HaveValues keys
    → YieldsOf HaveValues (grown keys_with row keys.records)
yields-pushed keys_with keys row pushed is each = yields-grown keys_with row keys.records is
    (λ r value. subst (AllByRecursion HasValue) (sym (pushed r)) (each-append HasValue keys.records (r ∷ []) each (value, tt)))

values_kept : (old new : Keys) (edit : Edit) (random : List ℕ) (s : Stepped) → HasTemplate edit → AreBytes random → HaveValues old → step old edit random ≡ Some s → s.answer ≡ Ok new → HaveValues new
unfolding refusal_of effect_of
values_kept old new (Add row) random s is h each e ok =
    yielded_of (step old (Add row)) random s new (yields-unless (full_or_mixed old row) _ (yields-pushed (added old) old row (λ r. refl) is each)) h e ok
values_kept old new (Rotate row) random s is h each e ok =
    yielded_of (step old (Rotate row)) random s new (yields-unless (full_or_mixed old row) _ (yields-pushed (rotated old) old row (λ r. refl) is each)) h e ok
values_kept old new (Promote id) random s is h each e ok = values_still old new (Promote id) random s tt each e ok
values_kept old new (Enable id) random s is h each e ok = values_still old new (Enable id) random s tt each e ok
values_kept old new (Disable id) random s is h each e ok = values_still old new (Disable id) random s tt each e ok
values_kept old new (Destroy id) random s is h each e ok = values_still old new (Destroy id) random s tt each e ok
values_kept old new (Delete id) random s is h each e ok = values_still old new (Delete id) random s tt each e ok

-- ---- stored records

each_held : (rs : List Record) → AllByRecursion IsStored rs → AllByRecursion HasWireBounds rs
each_held [] h = tt
each_held (r ∷ rs) h = (h.0.held, each_held rs h.1)

each_value : (rs : List Record) → AllByRecursion IsStored rs → AllByRecursion HasValue rs
each_value [] h = tt
each_value (r ∷ rs) h = (h.0.bytes, each_value rs h.1)

each_stored : (rs : List Record) → AllByRecursion HasWireBounds rs → AllByRecursion HasValue rs → AllByRecursion IsStored rs
each_stored [] held values = tt
each_stored (r ∷ rs) held values = (record { held = held.0; bytes = values.0 }, each_stored rs held.1 values.1)

pub edits_keep_stored : EditsKeepStored
edits_keep_stored old new edit random s is h stored e ok = each_stored new.records
    (edits_keep_bounds old new edit random s is (each_held old.records stored) e ok)
    (values_kept old new edit random s is h (each_value old.records stored) e ok)

pub firsts_are_stored : FirstsAreStored
firsts_are_stored new row random s is h e ok = each_stored new.records
    (firsts_have_bounds new row random s is e ok)
    (yielded_of (first row) random s new (yields-grown alone row [] is (λ r value. (value, tt))) h e ok)

-- ---- sessions

answered_stored : (edit : Edit) (keys : Keys) (answer : Result Keys EditRefusal) (left : List ℕ) → AreStored keys → ((new : Keys) → answer ≡ Ok new → AreStored new) → AreStored (edit_served edit keys answer left).keys
answered_stored edit keys (Ok edited) left stored each = each edited refl
answered_stored edit keys (Err fault) left stored each = stored

edited_stored : (keys : Keys) (random : List ℕ) (edit : Edit) (x : Served) → HasTemplate edit → AreBytes random → AreStored keys → edit_line keys random edit ≡ Some x → AreStored x.keys
edited_stored keys random edit x is h stored e =
    let there = map_some (stepped edit keys) (step keys edit random) x e in
    subst (λ y. AreStored y.keys) there.2
    (answered_stored edit keys there.0.answer there.0.left stored (λ new ok. edits_keep_stored keys new edit random there.0 is h stored there.1 ok))

line_stored : (table : Table) (keys : Keys) (line : Line) (random : List ℕ) (x : Served) → AreBytes random → AreStored keys → serve table keys line random ≡ Some x → AreStored x.keys
line_stored table keys line random x h stored e = elim (serve_leaves table keys line random x e) [
  | inl same ↦ subst AreStored same stored
  | inr edited ↦ edited_stored keys random edited.0 x edited.1 h stored edited.2
]

-- the random bytes that a line leaves
line_left : (table : Table) (keys : Keys) (line : Line) (random : List ℕ) (x : Served) → AreBytes random → serve table keys line random ≡ Some x → AreBytes x.left
line_left table keys line random x h e =
    let front = lines_draw_fronts table keys line random x e in
    bytes-behind front.0 x.left (subst AreBytes front.1 h)

pub sessions_keep_stored : SessionsKeepStored
unfolding remains
sessions_keep_stored table keys [] random m h stored e = subst (λ x. AreStored x.keys) (same_Some _ _ e) stored
sessions_keep_stored table keys (line ∷ later) random m h stored e = elim (serve table keys line random) as (λ o. serve table keys line random ≡ o → option_and_then (λ s. remains table s.keys later s.left) o ≡ Some m → AreStored m.keys) [
  | None ↦ λ t k. clash k
  | Some x ↦ λ t k. sessions_keep_stored table x.keys later x.left m (line_left table keys line random x h t) (line_stored table keys line random x h stored t) k
] refl e
