-- What a line sealed or tagged, a later line of the session.
use Rattle.std.proofs.Common.{◌≡◌, ◌∙◌, inl, inr, refl, sym, ap, ℕ, List, Option, Some, None, option_map}
use Rattle.std.proofs.lemmas.Option.{same_Some}
use Rattle.key_msgs.specs.declared.primitive.Primitive.{Primitive}
use Rattle.key_msgs.specs.declared.primitive.Primitive.TheVariants.{Aead, Daead, Mac}
use Rattle.keyset_model.specs.Keyset.{Keys}
use Rattle.managers.specs.Standard.{standard_table}
use Rattle.tinkey_session.proofs.Options.{map_some}
use Rattle.tinkey_session.proofs.SoundLemmas.{edited_keyset, edited_sound}
use Rattle.tinkey_session.proofs.TurnLemmas.{both_reached, handle_cases}
use Rattle.tinkey_session.specs.Laws.{EditsKeepSound, IsEdited, KeptDopen, KeptDopenPresent, KeptOpen, KeptOpenPresent, KeptTag, SoundIsUsable}
use Rattle.tinkey_session.specs.LineLaws.{LinesOpen, LinesOpenPresent}
use Rattle.tinkey_session.specs.SessionLaws.{HasTurns, SessionDopens, SessionDopensPresent, SessionOpens, SessionOpensPresent, SessionVerifies}
use Rattle.tinkey_session.specs.Lines.{Line, Seal, Dseal, Open, Dopen, Tag, Verify}
use Rattle.tinkey_session.specs.Serving.{cannot_serve, Served, answered, by_handle, computed, opened_reply, sealed_reply, serve, unless_unfit, verified_reply}
use Rattle.tinkey_session.specs.declared.reply.LineRefusal.{LineRefusal}
use Rattle.tinkey_session.specs.declared.reply.LineRefusal.TheVariants.{Refused}
use Rattle.tinkey_session.specs.declared.reply.Reply.{Reply}
use Rattle.tinkey_session.specs.declared.reply.Reply.TheVariants.{Gives, Refuses}
use Rattle.tinkey_session.specs.Session.{Turn}
use Rattle.wrapped_prims.specs.Answers.{Sealed, dseal_answer, open_answer, seal_answer, tag_answer}
use Rattle.wrapped_prims.specs.Fitness.{unfit}
use Rattle.wrapped_prims.specs.Laws.{IsKeyset}

-- ---- replies

same_bytes : (a b : List ℕ) → Gives a ≡ Gives b → a ≡ b
same_bytes a b e = cc

refuses_not_gives : {P : Type 0} (why : LineRefusal) (bytes : List ℕ) → Refuses why ≡ Gives bytes → P
refuses_not_gives why bytes e = absurd cc

-- ---- the first line

-- a line that gave bytes had a keyset that serves the primitive, and this is what it gave
record Gave (p : Primitive) (keys : Keys) (served : Option Served) (x : Served) : Type 0 where
  fit : unfit keys p standard_table ≡ None
  is : served ≡ Some x

gave : (p : Primitive) (keys : Keys) (random : List ℕ) (served : Option Served) (x : Served) (bytes : List ℕ) → by_handle p standard_table keys random served ≡ Some x → x.reply ≡ Gives bytes
    → Gave p keys served x
gave p keys random served x bytes e reply = elim (handle_cases (unfit keys p standard_table) keys random served x e) [
  | inl is ↦ record { fit = is.0; is = is.1 }
  | inr other ↦ refuses_not_gives (Refused (cannot_serve other.0.0 other.0.1)) bytes (ap (λ y. y.reply) other.1 ∙ reply)
]

-- ---- the second line

-- under a keyset that serves the primitive, the reply is the answer
answer_is : (p : Primitive) (keys : Keys) (random : List ℕ) (reply : Reply) (x : Served) → unfit keys p standard_table ≡ None
    → by_handle p standard_table keys random (Some (answered keys random reply)) ≡ Some x → x.reply ≡ reply
answer_is p keys random reply x fit e =
    sym (ap (λ y. y.reply) (same_Some _ _ (sym (ap (λ u. unless_unfit u keys random (Some (answered keys random reply))) fit) ∙ e)))

-- the keyset before the second line serves it too
serves_later : (p : Primitive) → SoundIsUsable p → EditsKeepSound → (old new : Keys) → IsKeyset old → IsEdited old new → unfit old p standard_table ≡ None → unfit new p standard_table ≡ None
serves_later p usable law old new k edited fit =
    let sound = edited_sound law p old new edited ((usable old k).0 fit) in
    (usable new sound.keyset).1 sound

-- ---- both

-- what the two turns are over
record IsPair (keys : Keys) (s t : Turn) (first second : Line) : Type 0 where
  before : IsKeyset s.before
  edited : IsEdited s.before t.before
  random : List ℕ
  one : Served
  serves_one : serve standard_table s.before first random ≡ Some one
  reply_one : s.reply ≡ one.reply
  drawn : List ℕ
  two : Served
  serves_two : serve standard_table t.before second drawn ≡ Some two
  reply_two : t.reply ≡ two.reply

is_pair : (keys : Keys) (lines : List Line) (random : List ℕ) (s t : Turn) (first second : Line) → IsKeyset keys → HasTurns keys lines random s t → s.line ≡ first → t.line ≡ second → IsPair keys s t first second
is_pair keys lines random s t first second k h a b =
    let r = both_reached standard_table lines keys random h.i h.j s t h.later h.first h.second in
    record {
      before = edited_keyset keys s.before r.one.edited k;
      edited = r.two.edited;
      random = r.one.random;
      one = r.one.served;
      serves_one = ap (λ line. serve standard_table s.before line r.one.random) (sym a) ∙ r.one.is;
      reply_one = r.one.reply;
      drawn = r.two.random;
      two = r.two.served;
      serves_two = ap (λ line. serve standard_table t.before line r.two.random) (sym b) ∙ r.two.is;
      reply_two = r.two.reply;
    }

-- a line `seal` that gave these bytes
record SealGave (keys : Keys) (plain ad random sealed : List ℕ) : Type 0 where
  fit : unfit keys Aead standard_table ≡ None
  made : Sealed
  is : seal_answer keys standard_table plain ad random ≡ Some made
  bytes : made.bytes ≡ sealed

seal_gave : (keys : Keys) (plain ad random sealed : List ℕ) (x : Served) (reply : Reply) → serve standard_table keys (Seal plain ad) random ≡ Some x → reply ≡ x.reply → reply ≡ Gives sealed
    → SealGave keys plain ad random sealed
unfolding serve
seal_gave keys plain ad random sealed x reply e same is =
    let g = gave Aead keys random (option_map (sealed_reply keys) (seal_answer keys standard_table plain ad random)) x sealed e (sym same ∙ is) in
    let there = map_some (sealed_reply keys) (seal_answer keys standard_table plain ad random) x g.is in
    record { fit = g.fit; made = there.0; is = there.1; bytes = same_bytes _ _ (ap (λ y. y.reply) there.2 ∙ sym same ∙ is) }

-- a line that gave what is computed without a draw
computed_gave : (p : Primitive) (keys : Keys) (random : List ℕ) (answer : Option (List ℕ)) (bytes : List ℕ) (x : Served) (reply : Reply)
    → by_handle p standard_table keys random (computed keys random Gives answer) ≡ Some x → reply ≡ x.reply → reply ≡ Gives bytes
    → (unfit keys p standard_table ≡ None) × (answer ≡ Some bytes)
computed_gave p keys random answer bytes x reply e same is =
    let g = gave p keys random (computed keys random Gives answer) x bytes e (sym same ∙ is) in
    let there = map_some (λ value. answered keys random (Gives value)) answer x g.is in
    (g.fit, there.1 ∙ ap Some (same_bytes _ _ (ap (λ y. y.reply) there.2 ∙ sym same ∙ is)))

pub lines_open : SoundIsUsable Aead → EditsKeepSound → KeptOpen → LinesOpen
unfolding serve
lines_open usable kept_sound law old new r prefix plain ad sealed random drawn x y k edited has primary is first reply second =
    let g = seal_gave old plain ad random sealed x x.reply first refl reply in
    answer_is Aead new drawn _ y (serves_later Aead usable kept_sound old new k edited g.fit) second
    ∙ ap (λ bytes. opened_reply (open_answer new standard_table bytes ad)) (sym g.bytes)
    ∙ ap opened_reply (law old new r prefix plain ad random g.made has primary is g.is)

pub lines_open_present : SoundIsUsable Aead → EditsKeepSound → KeptOpenPresent → LinesOpenPresent
unfolding serve
lines_open_present usable kept_sound law old new r plain ad sealed random drawn x y k edited has primary first reply second =
    let g = seal_gave old plain ad random sealed x x.reply first refl reply in
    let opened = law old new r plain ad random g.made has primary g.is in (
      opened.0,
      answer_is Aead new drawn _ y (serves_later Aead usable kept_sound old new k edited g.fit) second
          ∙ ap (λ bytes. opened_reply (open_answer new standard_table bytes ad)) (sym g.bytes)
          ∙ ap opened_reply opened.1,
    )

pub session_opens : LinesOpen → SessionOpens
session_opens law keys lines random prefix plain ad sealed s t r k h s_line s_reply primary is t_line has =
    let p = is_pair keys lines random s t (Seal plain ad) (Open sealed ad) k h s_line t_line in
    p.reply_two ∙ law s.before t.before r prefix plain ad sealed p.random p.drawn p.one p.two p.before p.edited has primary is p.serves_one (sym p.reply_one ∙ s_reply) p.serves_two

pub session_opens_present : LinesOpenPresent → SessionOpensPresent
session_opens_present law keys lines random plain ad sealed s t r k h s_line s_reply primary t_line has =
    let p = is_pair keys lines random s t (Seal plain ad) (Open sealed ad) k h s_line t_line in
    let opened = law s.before t.before r plain ad sealed p.random p.drawn p.one p.two p.before p.edited has primary p.serves_one (sym p.reply_one ∙ s_reply) p.serves_two in
    (opened.0, p.reply_two ∙ opened.1)

pub session_dopens : SoundIsUsable Daead → EditsKeepSound → KeptDopen → SessionDopens
unfolding serve
session_dopens usable kept_sound law keys lines random prefix plain ad sealed s t r k h s_line s_reply primary is t_line has =
    let p = is_pair keys lines random s t (Dseal plain ad) (Dopen sealed ad) k h s_line t_line in
    let g = computed_gave Daead s.before p.random (dseal_answer s.before standard_table plain ad) sealed p.one s.reply p.serves_one p.reply_one s_reply in
    p.reply_two
    ∙ answer_is Daead t.before p.drawn _ p.two (serves_later Daead usable kept_sound s.before t.before p.before p.edited g.0) p.serves_two
    ∙ ap opened_reply (law s.before t.before r prefix plain ad sealed has primary is g.1)

pub session_dopens_present : SoundIsUsable Daead → EditsKeepSound → KeptDopenPresent → SessionDopensPresent
unfolding serve
session_dopens_present usable kept_sound law keys lines random plain ad sealed s t r k h s_line s_reply primary t_line has =
    let p = is_pair keys lines random s t (Dseal plain ad) (Dopen sealed ad) k h s_line t_line in
    let g = computed_gave Daead s.before p.random (dseal_answer s.before standard_table plain ad) sealed p.one s.reply p.serves_one p.reply_one s_reply in
    let opened = law s.before t.before r plain ad sealed has primary g.1 in (
      opened.0,
      p.reply_two
          ∙ answer_is Daead t.before p.drawn _ p.two (serves_later Daead usable kept_sound s.before t.before p.before p.edited g.0) p.serves_two
          ∙ ap opened_reply opened.1,
    )

pub session_verifies : SoundIsUsable Mac → EditsKeepSound → KeptTag → SessionVerifies
unfolding serve
session_verifies usable kept_sound law keys lines random body tag s t r k h s_line s_reply primary t_line has =
    let p = is_pair keys lines random s t (Tag body) (Verify tag body) k h s_line t_line in
    let g = computed_gave Mac s.before p.random (tag_answer s.before standard_table body) tag p.one s.reply p.serves_one p.reply_one s_reply in
    p.reply_two
    ∙ answer_is Mac t.before p.drawn _ p.two (serves_later Mac usable kept_sound s.before t.before p.before p.edited g.0) p.serves_two
    ∙ ap verified_reply (law s.before t.before r tag body has primary g.1)
