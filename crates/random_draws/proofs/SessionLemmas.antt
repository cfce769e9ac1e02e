-- By induction over the lines: the slices of a session, in order, and those of each turn.
use Rattle.std.proofs.Common.{◌≡◌, ◌∙◌, refl, sym, ap, subst, ℕ, zero, suc, ◌+◌, ◌≤◌, List, [], ◌∷◌, ◌++◌, length, drop, Some, None, arith}
use Rattle.std.specs.List.{slice_get}
use Rattle.std.specs.Option.{option_and_then}
use Rattle.std.proofs.lemmas.List.{append_assoc, drop-drop, length-drop}
use Rattle.std.proofs.lemmas.Option.{same_Some}
use Rattle.keyset_model.specs.Keyset.{Keys}
use Rattle.managers.specs.Table.{Table}
use Rattle.random_draws.proofs.FillLemmas.{line_took}
use Rattle.random_draws.proofs.PlaceLemmas.{Follow, size_of-append, size_of-placed, follow-append, follow-apart, follow-nothing, follow-order, follow-place, follow-placed, follow-within}
use Rattle.random_draws.specs.Slices.{Slice, size_of, slices, slices_from, slices_then, fills, placed, total}
use Rattle.random_draws.specs.Sessions.{SlicesAreAll, SlicesAreWithin, SlicesApart, SlicesFollow, SlicesGoOn, NoByteServesTwice, TurnsHaveSlices}
use Rattle.tinkey_session.proofs.Options.{clash}
use Rattle.tinkey_session.specs.Lines.{Line}
use Rattle.tinkey_session.specs.Serving.{Served, serve}
use Rattle.tinkey_session.specs.Session.{Remains, Turn, remains, turn_then, turns}

-- ---- one behind the other

pub follow-slices : (line place : ℕ) (table : Table) (keys : Keys) (lines : List Line) (random : List ℕ) → Follow place (slices_from line place table keys lines random)
unfolding slices_from
follow-slices line place table keys [] random = follow-nothing place
follow-slices line place table keys (asked ∷ later) random =
    let filled = fills table keys asked random in
    elim (serve table keys asked random) as (λ o. Follow place (slices_then o (λ s. placed line place filled ++ slices_from (line + 1) (place + total filled) table s.keys later s.left))) [
      | None ↦ follow-nothing place
      | Some x ↦ follow-append place (placed line place filled) (slices_from (line + 1) (place + total filled) table x.keys later x.left) (follow-placed line place filled)
          (subst (λ n. Follow (place + n) (slices_from (line + 1) (place + total filled) table x.keys later x.left)) (sym (size_of-placed line place filled))
          (follow-slices (line + 1) (place + total filled) table x.keys later x.left))
    ]

-- the size of what one line and those behind it draw
size_of-both : (line place : ℕ) (table : Table) (keys : Keys) (asked : Line) (random : List ℕ) (rest : List Slice)
    → size_of (placed line place (fills table keys asked random) ++ rest) ≡ total (fills table keys asked random) + size_of rest
size_of-both line place table keys asked random rest =
    size_of-append (placed line place (fills table keys asked random)) rest
    ∙ ap (λ n. n + size_of rest) (size_of-placed line place (fills table keys asked random))

pub slices-within : (line place : ℕ) (table : Table) (keys : Keys) (lines : List Line) (random : List ℕ) → size_of (slices_from line place table keys lines random) ≤ length random
unfolding slices_from
slices-within line place table keys [] random = omega arith
slices-within line place table keys (asked ∷ later) random =
    let filled = fills table keys asked random in
    elim (serve table keys asked random) as (λ o. serve table keys asked random ≡ o
    → size_of (slices_then o (λ s. placed line place filled ++ slices_from (line + 1) (place + total filled) table s.keys later s.left)) ≤ length random) [
      | None ↦ λ t. omega arith
      | Some x ↦ λ t.
          let took = line_took table keys asked random x t in
          let size = ap length took.behind ∙ length-drop (total filled) random in
          let enough = took.enough in
          let both = size_of-both line place table keys asked random (slices_from (line + 1) (place + total filled) table x.keys later x.left) in
          let least = slices-within (line + 1) (place + total filled) table x.keys later x.left in
          omega (arith, size, enough, both, least)
    ] refl

slices-all : (line place : ℕ) (table : Table) (keys : Keys) (lines : List Line) (random : List ℕ) (m : Remains) → remains table keys lines random ≡ Some m
    → m.left ≡ drop (size_of (slices_from line place table keys lines random)) random
unfolding slices_from remains
slices-all line place table keys [] random m e = sym (ap (λ y. y.left) (same_Some _ _ e))
slices-all line place table keys (asked ∷ later) random m e =
    let filled = fills table keys asked random in
    elim (serve table keys asked random) as (λ o. serve table keys asked random ≡ o
    → option_and_then (λ s. remains table s.keys later s.left) o ≡ Some m
    → m.left ≡ drop (size_of (slices_then o (λ s. placed line place filled ++ slices_from (line + 1) (place + total filled) table s.keys later s.left))) random) [
      | None ↦ λ t k. clash k
      | Some x ↦ λ t k.
          let took = line_took table keys asked random x t in
          let rest = slices_from (line + 1) (place + total filled) table x.keys later x.left in
          slices-all (line + 1) (place + total filled) table x.keys later x.left m k
          ∙ ap (drop (size_of rest)) took.behind
          ∙ drop-drop (size_of rest) (total filled) random
          ∙ ap (λ n. drop n random) (sym (size_of-both line place table keys asked random rest))
    ] refl e

-- ---- a turn

-- those before them, and where they begin
record HasSlicesFrom (line place : ℕ) (table : Table) (keys : Keys) (lines : List Line) (random : List ℕ) (i : ℕ) (t : Turn) : Type 0 where
  before : List Slice
  after : List Slice
  number : ℕ
  start : ℕ
  rest : List ℕ
  is_number : number ≡ line + i
  is_start : start ≡ place + size_of before
  is_rest : rest ≡ drop (size_of before) random
  split : slices_from line place table keys lines random ≡ before ++ placed number start (fills table t.before t.line rest) ++ after
  served : Served
  is : serve table t.before t.line rest ≡ Some served
  reply : t.reply ≡ served.reply

-- that of the first line
first_has : (line place : ℕ) (table : Table) (keys : Keys) (asked : Line) (later : List Line) (random : List ℕ) (x : Served) → serve table keys asked random ≡ Some x
    → HasSlicesFrom line place table keys (asked ∷ later) random 0 (record { before = keys; line = asked; reply = x.reply })
unfolding slices_from
first_has line place table keys asked later random x e =
    let filled = fills table keys asked random in
    record {
      before = [];
      after = slices_from (line + 1) (place + total filled) table x.keys later x.left;
      number = line;
      start = place;
      rest = random;
      is_number = omega arith;
      is_start = omega arith;
      is_rest = refl;
      split = ap (λ o. slices_then o (λ s. placed line place filled ++ slices_from (line + 1) (place + total filled) table s.keys later s.left)) e;
      served = x;
      is = e;
      reply = refl;
    }

-- that of a later one
later_has : (line place : ℕ) (table : Table) (keys : Keys) (asked : Line) (later : List Line) (random : List ℕ) (i : ℕ) (t : Turn) (x : Served) → serve table keys asked random ≡ Some x
    → HasSlicesFrom (line + 1) (place + total (fills table keys asked random)) table x.keys later x.left i t
    → HasSlicesFrom line place table keys (asked ∷ later) random (suc i) t
unfolding slices_from
later_has line place table keys asked later random i t x e h =
    let filled = fills table keys asked random in
    let front = placed line place filled in
    let mine = placed h.number h.start (fills table t.before t.line h.rest) in
    let took = line_took table keys asked random x e in
    let both = size_of-both line place table keys asked random h.before in
    let number = h.is_number in
    let start = h.is_start in
    record {
      before = front ++ h.before;
      after = h.after;
      number = h.number;
      start = h.start;
      rest = h.rest;
      is_number = omega (arith, number);
      is_start = omega (arith, start, both);
      is_rest = h.is_rest ∙ ap (drop (size_of h.before)) took.behind ∙ drop-drop (size_of h.before) (total filled) random ∙ ap (λ n. drop n random) (sym both);
      split = ap (λ o. slices_then o (λ s. front ++ slices_from (line + 1) (place + total filled) table s.keys later s.left)) e
          ∙ ap (λ all. front ++ all) h.split
          ∙ sym (append_assoc front (h.before ++ mine) h.after)
          ∙ ap (λ all. all ++ h.after) (sym (append_assoc front h.before mine));
      served = h.served;
      is = h.is;
      reply = h.reply;
    }

turn_has : (lines : List Line) (line place : ℕ) (table : Table) (keys : Keys) (random : List ℕ) (i : ℕ) (t : Turn) → slice_get (turns table keys lines random) i ≡ Some t → HasSlicesFrom line place table keys lines random i t
unfolding turns
turn_has [] line place table keys random i t e = clash e
turn_has (asked ∷ later) line place table keys random zero t e = elim (serve table keys asked random) as (λ o. serve table keys asked random ≡ o
    → slice_get (turn_then keys asked o (λ s. turns table s.keys later s.left)) 0 ≡ Some t → HasSlicesFrom line place table keys (asked ∷ later) random 0 t) [
      | None ↦ λ a k. clash k
      | Some x ↦ λ a k. subst (HasSlicesFrom line place table keys (asked ∷ later) random 0) (same_Some _ _ k) (first_has line place table keys asked later random x a)
    ] refl e
turn_has (asked ∷ later) line place table keys random (suc i) t e = elim (serve table keys asked random) as (λ o. serve table keys asked random ≡ o
    → slice_get (turn_then keys asked o (λ s. turns table s.keys later s.left)) (suc i) ≡ Some t → HasSlicesFrom line place table keys (asked ∷ later) random (suc i) t) [
      | None ↦ λ a k. clash k
      | Some x ↦ λ a k. later_has line place table keys asked later random i t x a
          (turn_has later (line + 1) (place + total (fills table keys asked random)) table x.keys x.left i t k)
    ] refl e

-- ---- the laws

pub slices_follow : SlicesFollow
slices_follow table keys lines random i d e =
    let there = follow-place 0 (slices table keys lines random) i d (follow-slices 0 0 table keys lines random) e in
    omega (arith, there)

pub slices_are_within : SlicesAreWithin
slices_are_within table keys lines random i d e =
    let all = slices-within 0 0 table keys lines random in
    let there = (follow-within 0 (slices table keys lines random) i d (follow-slices 0 0 table keys lines random) e).1 in
    omega (arith, all, there)

pub slices_are_all : SlicesAreAll
slices_are_all table keys lines random m e = slices-all 0 0 table keys lines random m e

pub slices_apart : SlicesApart
slices_apart table keys lines random i j d e a b ne = follow-order 0 (slices table keys lines random) i j d e (follow-slices 0 0 table keys lines random) a b ne

pub no_byte_serves_twice : NoByteServesTwice
no_byte_serves_twice table keys lines random i j place d e a b p q = follow-apart 0 (slices table keys lines random) i j place d e (follow-slices 0 0 table keys lines random) a b p q

pub turns_have_slices : TurnsHaveSlices
turns_have_slices table keys lines random i t e =
    let h = turn_has lines 0 0 table keys random i t e in
    let number : h.number ≡ i = (let is = h.is_number in omega (arith, is)) in
    let start : h.start ≡ size_of h.before = (let is = h.is_start in omega (arith, is)) in
    record {
      before = h.before;
      after = h.after;
      split = h.split
          ∙ ap (λ n. h.before ++ placed n h.start (fills table t.before t.line h.rest) ++ h.after) number
          ∙ ap (λ n. h.before ++ placed i n (fills table t.before t.line h.rest) ++ h.after) start
          ∙ ap (λ left. h.before ++ placed i (size_of h.before) (fills table t.before t.line left) ++ h.after) h.is_rest;
      served = h.served;
      is = ap (serve table t.before t.line) (sym h.is_rest) ∙ h.is;
      reply = h.reply;
    }

-- ---- more lines

goes_on : (lines more : List Line) (line place : ℕ) (table : Table) (keys : Keys) (random : List ℕ) (m : Remains) → remains table keys lines random ≡ Some m
    → slices_from line place table keys (lines ++ more) random
    ≡ slices_from line place table keys lines random ++ slices_from (line + length lines) (place + size_of (slices_from line place table keys lines random)) table m.keys more m.left
unfolding remains slices_from
goes_on [] more line place table keys random m e =
    let number : line ≡ line + 0 = omega arith in
    let start : place ≡ place + 0 = omega arith in
    ap (λ y. slices_from line place table y.keys more y.left) (same_Some _ _ e)
    ∙ ap (λ n. slices_from n place table m.keys more m.left) number
    ∙ ap (λ n. slices_from (line + 0) n table m.keys more m.left) start
goes_on (asked ∷ later) more line place table keys random m e =
    let filled = fills table keys asked random in
    elim (serve table keys asked random) as (λ o. option_and_then (λ s. remains table s.keys later s.left) o ≡ Some m
    → slices_then o (λ s. placed line place filled ++ slices_from (line + 1) (place + total filled) table s.keys (later ++ more) s.left)
    ≡ slices_then o (λ s. placed line place filled ++ slices_from (line + 1) (place + total filled) table s.keys later s.left)
    ++ slices_from (line + suc (length later)) (place + size_of (slices_then o (λ s. placed line place filled ++ slices_from (line + 1) (place + total filled) table s.keys later s.left))) table m.keys more m.left) [
      | None ↦ λ k. clash k
      | Some x ↦ λ k.
          let front = placed line place filled in
          let rest = slices_from (line + 1) (place + total filled) table x.keys later x.left in
          let behind : ℕ → ℕ → List Slice = λ number start. slices_from number start table m.keys more m.left in
          let both = size_of-both line place table keys asked random rest in
          let number : line + 1 + length later ≡ line + suc (length later) = omega arith in
          let start : place + total filled + size_of rest ≡ place + size_of (front ++ rest) = omega (arith, both) in
          ap (λ all. front ++ all) (goes_on later more (line + 1) (place + total filled) table x.keys x.left m k)
          ∙ sym (append_assoc front rest (behind (line + 1 + length later) (place + total filled + size_of rest)))
          ∙ ap (λ n. front ++ rest ++ behind n (place + total filled + size_of rest)) number
          ∙ ap (λ n. front ++ rest ++ behind (line + suc (length later)) n) start
    ] e

pub slices_go_on : SlicesGoOn
slices_go_on table keys lines more random m e =
    let all = slices table keys lines random in
    let number : 0 + length lines ≡ length lines = omega arith in
    let start : 0 + size_of all ≡ size_of all = omega arith in
    goes_on lines more 0 0 table keys random m e
    ∙ ap (λ n. all ++ slices_from n (0 + size_of all) table m.keys more m.left) number
    ∙ ap (λ n. all ++ slices_from (length lines) n table m.keys more m.left) start
