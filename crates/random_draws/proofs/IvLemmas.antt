-- The IV of what a line sealed is its slice, and stands in the reply.
use Rattle.std.proofs.Common.{◌≡◌, ◌∙◌, inl, inr, refl, sym, ap, ℕ, List, [], ◌∷◌, ◌++◌, length, take, drop, Some, None, option_map, arith}
use Rattle.std.specs.List.{slice_get}
use Rattle.std.proofs.lemmas.List.{drop_at, length-drop, length-take-le}
use Rattle.std.proofs.lemmas.Option.{same_Some}
use Rattle.key_msgs.specs.declared.primitive.Primitive.TheVariants.{Aead}
use Rattle.keyset_model.specs.Keyset.{Keys}
use Rattle.managers.proofs.SizeLemmas.{seal_facts}
use Rattle.managers.specs.Table.{Table}
use Rattle.managers.specs.Uses.{iv_size, seal_of}
use Rattle.random_draws.proofs.SessionLemmas.{slices_apart, slices_are_within, turns_have_slices}
use Rattle.random_draws.proofs.FillLemmas.{IsSealing, seal_fills, is_sealing}
use Rattle.random_draws.specs.Slices.{Slice, Iv, size_of, slices, fill_of, fills, iv_fills, opened_fills, placed, bytes_of, unless_there}
use Rattle.random_draws.specs.Sessions.{IvsApart, IvsAreDrawn, IvsStandInReplies, SealsPlain}
use Rattle.tinkey_session.proofs.Options.{map_some}
use Rattle.tinkey_session.proofs.ResealLemmas.{reseal_seals}
use Rattle.tinkey_session.proofs.TurnLemmas.{handle_cases}
use Rattle.tinkey_session.specs.Lines.{Line, Seal}
use Rattle.tinkey_session.specs.Serving.{Served, cannot_serve, sealed_reply, serve}
use Rattle.tinkey_session.specs.declared.reply.LineRefusal.{LineRefusal}
use Rattle.tinkey_session.specs.declared.reply.LineRefusal.TheVariants.{Refused}
use Rattle.tinkey_session.specs.declared.reply.Reply.TheVariants.{Gives, Refuses}
use Rattle.wrapped_prims.specs.Answers.{Sealed, primary_key, seal_answer}
use Rattle.wrapped_prims.specs.Candidates.{prefix_bytes, prefix_of}
use Rattle.wrapped_prims.specs.Fitness.{key_of_record, unfit}

same_bytes : (a b : List ℕ) → Gives a ≡ Gives b → a ≡ b
same_bytes a b e = cc

refuses_not_gives : {P : Type 0} (why : LineRefusal) (bytes : List ℕ) → Refuses why ≡ Gives bytes → P
refuses_not_gives why bytes e = absurd cc

-- a line `seal` that gave these bytes
record SealGave (table : Table) (keys : Keys) (plain ad random sealed : List ℕ) : Type 0 where
  fit : unfit keys Aead table ≡ None
  made : Sealed
  is : IsSealing table keys plain ad random made
  bytes : made.bytes ≡ sealed

seal_gave : (table : Table) (keys : Keys) (plain ad random sealed : List ℕ) (x : Served) → serve table keys (Seal plain ad) random ≡ Some x → x.reply ≡ Gives sealed → SealGave table keys plain ad random sealed
unfolding serve
seal_gave table keys plain ad random sealed x e reply =
    elim (handle_cases (unfit keys Aead table) keys random (option_map (sealed_reply keys) (seal_answer keys table plain ad random)) x e) [
      | inl fit ↦
          let there = map_some (sealed_reply keys) (seal_answer keys table plain ad random) x fit.1 in
          record {
            fit = fit.0;
            made = there.0;
            is = is_sealing table keys plain ad random there.0 there.1;
            bytes = same_bytes _ _ (ap (λ y. y.reply) there.2 ∙ reply);
          }
      | inr other ↦ refuses_not_gives (Refused (cannot_serve other.0.0 other.0.1)) sealed (ap (λ y. y.reply) other.1 ∙ reply)
    ]

-- a line that seals this plaintext is answered, and draws, as the line `seal` of it
record IsLikeSeal (table : Table) (keys : Keys) (line : Line) (plain ad random : List ℕ) : Type 0 where
  served : serve table keys line random ≡ serve table keys (Seal plain ad) random
  filled : fills table keys line random ≡ fills table keys (Seal plain ad) random

like_seal : (table : Table) (keys : Keys) (line : Line) (plain ad random : List ℕ) → SealsPlain table keys line plain ad → IsLikeSeal table keys line plain ad random
unfolding fills
like_seal table keys line plain ad random (inl is) = record { served = ap (λ l. serve table keys l random) is; filled = ap (λ l. fills table keys l random) is }
like_seal table keys line plain ad random (inr is) = record {
  served = ap (λ l. serve table keys l random) is.1 ∙ reseal_seals table keys is.0 ad plain is.2 random;
  filled = ap (λ l. fills table keys l random) is.1 ∙ ap (λ o. unless_there (unfit keys Aead table) (opened_fills o (iv_fills (primary_key keys table Aead)))) is.2;
}

get-middle : (xs : List Slice) (y : Slice) (ys : List Slice) → slice_get ((xs ++ y ∷ []) ++ ys) (length xs) ≡ Some y
get-middle [] y ys = refl
get-middle (x ∷ xs) y ys = get-middle xs y ys

found-middle : (all before after : List Slice) (y : Slice) → all ≡ before ++ y ∷ [] ++ after → slice_get all (length before) ≡ Some y
found-middle all before after y e = ap (λ ds. slice_get ds (length before)) e ∙ get-middle before y after

-- one fill, placed
placed-one : (line place : ℕ) (size : ℕ) → placed line place (fill_of Iv size ∷ []) ≡ record { line = line; purpose = Iv; place = place; size = size } ∷ []
unfolding placed
placed-one line place size = refl

pub ivs_are_drawn : IvsAreDrawn
ivs_are_drawn table keys lines random plain ad sealed i t e asks gives =
    let h = turns_have_slices table keys lines random i t e in
    let rest = drop (size_of h.before) random in
    let like = like_seal table t.before t.line plain ad rest asks in
    let g = seal_gave table t.before plain ad rest sealed h.served (sym like.served ∙ h.is) (sym h.reply ∙ gives) in
    let s = g.is in
    let iv : Slice = record { line = i; purpose = Iv; place = size_of h.before; size = iv_size s.key } in
    let filled : fills table t.before t.line rest ≡ fill_of Iv (iv_size s.key) ∷ []
    = like.filled ∙ seal_fills table t.before plain ad rest s.under' s.key g.fit s.primary s.is in
    let mine : placed i (size_of h.before) (fills table t.before t.line rest) ≡ iv ∷ [] = ap (placed i (size_of h.before)) filled ∙ placed-one i (size_of h.before) (iv_size s.key) in
    let all : slices table keys lines random ≡ h.before ++ iv ∷ [] ++ h.after = h.split ∙ ap (λ ds. h.before ++ ds ++ h.after) mine in (
      iv,
      record {
        under' = s.under';
        primary = s.primary;
        key = s.key;
        is = s.is;
        at = length h.before;
        there = found-middle (slices table keys lines random) h.before h.after iv all;
        line = refl;
        purpose = refl;
        size = refl;
        bytes = sym g.bytes ∙ s.bytes;
      },
    )

-- ---- the IV at the front

pub ivs_stand_in_replies : IvsStandInReplies
ivs_stand_in_replies table keys lines random plain ad sealed i r t e asks gives primary =
    let found = ivs_are_drawn table keys lines random plain ad sealed i t e asks gives in
    let iv = found.0 in
    let s = found.1 in
    let slice = bytes_of iv random in
    let within = slices_are_within table keys lines random s.at iv s.there in
    let whole : length slice ≡ iv.size = length-take-le iv.size (drop iv.place random) (let size = length-drop iv.place random in omega (arith, size, within)) in
    let front = prefix_bytes (prefix_of r) in
    let same : s.under' ≡ r = same_Some _ _ (sym s.primary ∙ primary) in
    let bytes : sealed ≡ front ++ seal_of s.key slice plain ad = s.bytes ∙ ap (λ x. prefix_bytes (prefix_of x) ++ seal_of s.key slice plain ad) same in (
      iv,
      record {
        key = s.key;
        is = ap (key_of_record table Aead) (sym same) ∙ s.is;
        size = s.size;
        at = s.at;
        there = s.there;
        line = s.line;
        purpose = s.purpose;
        stands = ap (λ x. take iv.size (drop (length front) x)) bytes
            ∙ ap (take iv.size) (drop_at front (seal_of s.key slice plain ad) (length front) refl)
            ∙ ap (λ n. take n (seal_of s.key slice plain ad)) s.size
            ∙ (seal_facts s.key).front slice plain ad (whole ∙ s.size);
      },
    )

-- ---- two IVs

same_place : (all : List Slice) (a b : ℕ) (d e : Slice) → slice_get all a ≡ Some d → slice_get all b ≡ Some e → a ≡ b → d.line ≡ e.line
same_place all a b d e one two same = ap (λ y. y.line) (same_Some _ _ (sym one ∙ ap (slice_get all) same ∙ two))

pub ivs_apart : IvsApart
ivs_apart table keys lines random i j s t plain ad sealed other more resealed q r e e' ne asks gives primary asks' gives' primary' =
    let all = slices table keys lines random in
    let one = ivs_stand_in_replies table keys lines random plain ad sealed i q s e asks gives primary in
    let two = ivs_stand_in_replies table keys lines random other more resealed j r t e' asks' gives' primary' in
    let a = one.1 in
    let b = two.1 in (
      one.0,
      two.0,
      slices_apart table keys lines random a.at b.at one.0 two.0 a.there b.there
          (λ same. ne (sym a.line ∙ same_place all a.at b.at one.0 two.0 a.there b.there same ∙ b.line)),
      a,
      b,
    )
