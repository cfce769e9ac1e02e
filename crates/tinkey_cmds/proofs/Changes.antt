-- A record changed, removed or put behind the others.
use Rattle.std.proofs.Common.{◌≡◌, ◌∙◌, inl, inr, ℕ, suc, ◌<◌, ◌≤◌, Bool, true, false, cond, ◌||◌, List, [], ◌∷◌, ◌++◌, length, find, Some, refl, sym, ap, arith, subst, length-append, eqb-true}
use Rattle.std.specs.List.{list_any, AllByRecursion}
use Rattle.std.proofs.lemmas.Bool.{true≢false, or_from, or_parts, or_left, or_right, or_cases}
use Rattle.std.proofs.lemmas.Option.{same_Some}
use Rattle.keyset_model.specs.declared.record.Record.{Record}
use Rattle.keyset_model.specs.Keyset.{has_id, is_primary}
use Rattle.tinkey_cmds.specs.Edits.{changed, without}
use Rattle.keyset_model.proofs.WellFormedLemmas.{Lone, lone-none, any-append}
use Rattle.tinkey_cmds.proofs.Lists.{none≢some}

-- ---- the first record with an id changes

pub changed-each : (P : Record → Type 0) (change : Record → Record) (id : ℕ) (records : List Record) (r : Record)
    → find (has_id id) records ≡ Some r → P (change r) → AllByRecursion P records → AllByRecursion P (changed change id records)
unfolding changed
changed-each P change id [] r e p h = absurd (none≢some e)
changed-each P change id (s ∷ later) r e p h = elim (has_id id s) as (λ b. cond b (Some s) (find (has_id id) later) ≡ Some r → AllByRecursion P (cond b (change s ∷ later) (s ∷ changed change id later))) [
  | true ↦ λ k. (subst (λ x. P (change x)) (sym (same_Some _ _ k)) p, h.1)
  | false ↦ λ k. (h.0, changed-each P change id later r k p h.1)
] e

-- a test that holds of the record before as after holds of one of them as before
pub changed-any : (test : Record → Bool) (change : Record → Record) (id : ℕ) (records : List Record) (r : Record)
    → find (has_id id) records ≡ Some r → test (change r) ≡ test r → list_any test (changed change id records) ≡ list_any test records
unfolding changed
changed-any test change id [] r e p = refl
changed-any test change id (s ∷ later) r e p = elim (has_id id s) as (λ b. cond b (Some s) (find (has_id id) later) ≡ Some r → list_any test (cond b (change s ∷ later) (s ∷ changed change id later)) ≡ (test s || list_any test later)) [
  | true ↦ λ k. ap (λ b. b || list_any test later) (subst (λ x. test (change x) ≡ test x) (sym (same_Some _ _ k)) p)
  | false ↦ λ k. ap (λ b. test s || b) (changed-any test change id later r k p)
] e

-- a test that passes at the record before passes after
pub changed-some : (test : Record → Bool) (change : Record → Record) (id : ℕ) (records : List Record) (r : Record)
    → find (has_id id) records ≡ Some r → (test r ≡ true → test (change r) ≡ true) → list_any test records ≡ true → list_any test (changed change id records) ≡ true
unfolding changed
changed-some test change id [] r e p h = absurd (none≢some e)
changed-some test change id (s ∷ later) r e p h = elim (has_id id s) as (λ b. cond b (Some s) (find (has_id id) later) ≡ Some r → list_any test (cond b (change s ∷ later) (s ∷ changed change id later)) ≡ true) [
  | true ↦ λ k. elim (or_cases (test s) (list_any test later) h) [
    | inl a ↦ or_left (test (change s)) (list_any test later) (subst (λ x. test x ≡ true → test (change x) ≡ true) (sym (same_Some _ _ k)) p a)
    | inr a ↦ or_right (test (change s)) (list_any test later) a
  ]
  | false ↦ λ k. elim (or_cases (test s) (list_any test later) h) [
    | inl a ↦ or_left (test s) (list_any test (changed change id later)) a
    | inr a ↦ or_right (test s) (list_any test (changed change id later)) (changed-some test change id later r k p a)
  ]
] e

pub changed-lone : (test : Record → Bool) (change : Record → Record) (id : ℕ) (records : List Record) (r : Record)
    → find (has_id id) records ≡ Some r → test (change r) ≡ test r → Lone test records → Lone test (changed change id records)
unfolding changed Lone
changed-lone test change id [] r e p l = absurd (none≢some e)
changed-lone test change id (s ∷ later) r e p l = elim (has_id id s) as (λ b. cond b (Some s) (find (has_id id) later) ≡ Some r → Lone test (cond b (change s ∷ later) (s ∷ changed change id later))) [
  | true ↦ λ k. (λ h. l.0 (sym (subst (λ x. test (change x) ≡ test x) (sym (same_Some _ _ k)) p) ∙ h), l.1)
  | false ↦ λ k. (λ h. changed-any test change id later r k p ∙ l.0 h, changed-lone test change id later r k p l.1)
] e

pub length-changed : (change : Record → Record) (id : ℕ) (records : List Record) → length (changed change id records) ≡ length records
unfolding changed
length-changed change id [] = refl
length-changed change id (s ∷ later) = elim (has_id id s) as (λ b. length (cond b (change s ∷ later) (s ∷ changed change id later)) ≡ suc (length later)) [
  | true ↦ refl
  | false ↦ ap suc (length-changed change id later)
]

-- ---- the first record with an id goes

pub without-each : (P : Record → Type 0) (id : ℕ) (records : List Record) → AllByRecursion P records → AllByRecursion P (without id records)
unfolding without
without-each P id [] h = tt
without-each P id (s ∷ later) h = elim (has_id id s) as (λ b. AllByRecursion P (cond b later (s ∷ without id later))) [
  | true ↦ h.1
  | false ↦ (h.0, without-each P id later h.1)
]

without-none : (test : Record → Bool) (id : ℕ) (records : List Record) → list_any test records ≡ false → list_any test (without id records) ≡ false
unfolding without
without-none test id [] e = refl
without-none test id (s ∷ later) e =
    let parts = or_parts _ _ e in
    elim (has_id id s) as (λ b. list_any test (cond b later (s ∷ without id later)) ≡ false) [
      | true ↦ parts.1
      | false ↦ or_from _ _ parts.0 (without-none test id later parts.1)
    ]

pub without-lone : (test : Record → Bool) (id : ℕ) (records : List Record) → Lone test records → Lone test (without id records)
unfolding without Lone
without-lone test id [] l = tt
without-lone test id (s ∷ later) l = elim (has_id id s) as (λ b. Lone test (cond b later (s ∷ without id later))) [
  | true ↦ l.1
  | false ↦ (λ h. without-none test id later (l.0 h), without-lone test id later l.1)
]

-- where of the other records none is ENABLED and has the id
pub lone-without : (id : ℕ) (records : List Record) → list_any (is_primary id) (without id records) ≡ false → Lone (is_primary id) records
unfolding without Lone
lone-without id [] e = tt
lone-without id (s ∷ later) e = elim (has_id id s) as (λ b. list_any (is_primary id) (cond b later (s ∷ without id later)) ≡ false → (is_primary id s ≡ true → list_any (is_primary id) later ≡ false) × Lone (is_primary id) later) [
  | true ↦ λ k. (λ h. k, lone-none (is_primary id) later k)
  | false ↦ λ k. let parts = or_parts (is_primary id s) _ k in (λ h. absurd (true≢false (sym h ∙ parts.0)), lone-without id later parts.1)
] e

-- where the test fails at the record that goes
pub without-any : (test : Record → Bool) (id : ℕ) (records : List Record) (r : Record)
    → find (has_id id) records ≡ Some r → test r ≡ false → list_any test (without id records) ≡ list_any test records
unfolding without
without-any test id [] r e p = refl
without-any test id (s ∷ later) r e p = elim (has_id id s) as (λ b. cond b (Some s) (find (has_id id) later) ≡ Some r → list_any test (cond b later (s ∷ without id later)) ≡ (test s || list_any test later)) [
  | true ↦ λ k. sym (ap (λ b. b || list_any test later) (ap test (same_Some _ _ k) ∙ p))
  | false ↦ λ k. ap (λ b. test s || b) (without-any test id later r k p)
] e

pub length-without : (id : ℕ) (records : List Record) → length (without id records) ≤ length records
unfolding without
length-without id [] = omega arith
length-without id (s ∷ later) = elim (has_id id s) as (λ b. length (cond b later (s ∷ without id later)) ≤ suc (length later)) [
  | true ↦ omega arith
  | false ↦ omega (arith, length-without id later)
]

-- ---- a record behind the others

-- one that doesn't pass
pub lone-push : (test : Record → Bool) (records : List Record) (r : Record) → Lone test records → test r ≡ false → Lone test (records ++ r ∷ [])
unfolding Lone
lone-push test [] r l e = (λ h. refl, tt)
lone-push test (s ∷ later) r l e = (λ h. any-append test later (r ∷ []) ∙ or_from _ _ (l.0 h) (or_from _ _ e refl), lone-push test later r l.1 e)

-- where no other passes
pub none-push : (test : Record → Bool) (records : List Record) (r : Record) → list_any test records ≡ false → Lone test (records ++ r ∷ [])
unfolding Lone
none-push test [] r e = (λ h. refl, tt)
none-push test (s ∷ later) r e = let parts = or_parts _ _ e in (λ h. absurd (true≢false (sym h ∙ parts.0)), none-push test later r parts.1)

pub any-push_left : (test : Record → Bool) (records : List Record) (r : Record) → list_any test records ≡ true → list_any test (records ++ r ∷ []) ≡ true
any-push_left test records r e = any-append test records (r ∷ []) ∙ or_left _ _ e

pub any-push_right : (test : Record → Bool) (records : List Record) (r : Record) → test r ≡ true → list_any test (records ++ r ∷ []) ≡ true
any-push_right test records r e = any-append test records (r ∷ []) ∙ or_right (list_any test records) _ (or_left _ _ e)

pub length-push : (records : List Record) (r : Record) → length records < 1000 → length (records ++ r ∷ []) ≤ 1000
length-push records r h = omega (arith, length-append records (r ∷ []))

-- the record that is found has the id
pub find-id : (id : ℕ) (records : List Record) (r : Record) → find (has_id id) records ≡ Some r → r.id ≡ id
find-id id [] r e = absurd (none≢some e)
find-id id (s ∷ later) r e = elim (has_id id s) as (λ b. has_id id s ≡ b → cond b (Some s) (find (has_id id) later) ≡ Some r → r.id ≡ id) [
  | true ↦ λ t k. ap (λ x. x.id) (sym (same_Some _ _ k)) ∙ eqb-true s.id id t
  | false ↦ λ t k. find-id id later r k
] refl e
