-- What a line seals is short enough for a line that opens it.
use Rattle.std.proofs.Common.{◌≡◌, ◌∙◌, inl, inr, refl, sym, ap, ℕ, ◌+◌, ◌≤◌, Bool, true, false, cond, ltb, List, ◌∷◌, ◌++◌, length, take, drop, Some, None, option_map, arith}
use Rattle.std.specs.Int.{to_be_bytes, w32}
use Rattle.std.proofs.lemmas.Bool.{ltb-false}
use Rattle.std.proofs.lemmas.List.{length-append, length-drop, length-take}
use Rattle.std.proofs.lemmas.Option.{same_Some}
use Rattle.key_msgs.specs.declared.key.KeyKind.{KeyKind}
use Rattle.key_msgs.specs.declared.primitive.Primitive.TheVariants.{Aead}
use Rattle.keyset_model.specs.Keyset.{Keys, fault_of, primary_of}
use Rattle.keyset_model.specs.declared.record.Record.{Record}
use Rattle.managers.proofs.SizeLemmas.{seal_facts}
use Rattle.managers.specs.Table.{Table}
use Rattle.managers.specs.Uses.{iv_size, seal_of}
use Rattle.tinkey_session.proofs.Options.{clash, map_some, then_some}
use Rattle.tinkey_session.proofs.TurnLemmas.{handle_cases}
use Rattle.tinkey_session.specs.LineLaws.{LinesDrawFew}
use Rattle.tinkey_session.specs.Lines.{Seal}
use Rattle.tinkey_session.specs.Serving.{cannot_serve, Served, sealed_reply, serve}
use Rattle.tinkey_session.specs.declared.reply.LineRefusal.TheVariants.{Refused}
use Rattle.tinkey_session.specs.declared.reply.Reply.TheVariants.{Gives, Refuses}
use Rattle.wrapped_prims.specs.Answers.{Sealed, seal_answer, seal_behind, seal_under}
use Rattle.wrapped_prims.specs.Candidates.{first_byte, is_raw, prefix_bytes, prefix_of}
use Rattle.wrapped_prims.specs.Fitness.{key_of_record, unfit}

length-prefix : (r : Record) → length (prefix_bytes (prefix_of r)) ≤ 5
length-prefix r = by (is_raw r)
  where
    by : (b : Bool) → length (prefix_bytes (cond b None (Some (first_byte r ∷ to_be_bytes w32 r.id)))) ≤ 5
    by true = omega arith
    by false = omega arith

-- behind a prefix, where at most 320 random bytes were drawn
behind_small : (front plain ad random : List ℕ) (key : KeyKind) (s : Sealed) → seal_behind front plain ad random key ≡ Some s → length front ≤ 5 → length random ≤ length s.left + 320
    → length s.bytes ≤ length plain + 389
behind_small front plain ad random key s e short few = by (ltb (length random) (iv_size key)) refl e
  where
    by : (b : Bool) → ltb (length random) (iv_size key) ≡ b
        → cond b None (Some (record { bytes = front ++ seal_of key (take (iv_size key) random) plain ad; left = drop (iv_size key) random })) ≡ Some s
        → length s.bytes ≤ length plain + 389
    by true t k = clash k
    by false t k =
        let is = same_Some _ _ k in
        let iv : List ℕ = take (iv_size key) random in
        let enough = ltb-false _ _ t in
        let bytes = ap (λ x. length x.bytes) is in
        let left = ap (λ x. length x.left) is in
        let both = length-append front (seal_of key iv plain ad) in
        let body = (seal_facts key).long iv plain ad in
        let taken = length-take (iv_size key) random in
        let rest = length-drop (iv_size key) random in
        omega (arith, enough, bytes, left, both, body, taken, rest, short, few)

answer_small : (table : Table) (keys : Keys) (plain ad random : List ℕ) (s : Sealed) → seal_answer keys table plain ad random ≡ Some s → length random ≤ length s.left + 320 → length s.bytes ≤ length plain + 389
answer_small table keys plain ad random s e few =
    let first = then_some (seal_under table plain ad random) (primary_of keys) s e in
    let r = first.0 in
    let second = then_some (seal_behind (prefix_bytes (prefix_of r)) plain ad random) (key_of_record table Aead r) s first.2 in
    behind_small (prefix_bytes (prefix_of r)) plain ad random second.0 s second.2 (length-prefix r) few

same_bytes : (a b : List ℕ) → Gives a ≡ Gives b → a ≡ b
same_bytes a b e = cc

-- the bytes of an accepted seal are few
pub sealed_small : LinesDrawFew → (table : Table) (keys : Keys) (plain ad random bytes : List ℕ) (x : Served) → fault_of keys ≡ None → 320 ≤ length random
    → serve table keys (Seal plain ad) random ≡ Some x → x.reply ≡ Gives bytes → length bytes ≤ length plain + 389
unfolding serve
sealed_small law table keys plain ad random bytes x k enough e gave = elim (handle_cases (unfit keys Aead table) keys random (option_map (sealed_reply keys) (seal_answer keys table plain ad random)) x e) [
  | inl fit ↦
      let there = law table keys (Seal plain ad) random k enough in
      let same = ap (λ y. length y.left) (same_Some _ _ (sym there.1 ∙ e)) in
      let few = there.2 in
      let made = map_some (sealed_reply keys) (seal_answer keys table plain ad random) x fit.1 in
      let left = ap (λ y. length y.left) made.2 in
      let is = ap (λ b. length b) (same_bytes _ _ (ap (λ y. y.reply) made.2 ∙ gave)) in
      let small = answer_small table keys plain ad random made.0 made.1 (omega (arith, same, few, left)) in
      omega (arith, is, small)
  | inr other ↦ (let is : Refuses (Refused (cannot_serve other.0.0 other.0.1)) ≡ Gives bytes = ap (λ y. y.reply) other.1 ∙ gave in absurd cc)
]
