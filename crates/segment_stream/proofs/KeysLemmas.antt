-- The records of a keyset, one after another: their keys for streams, or the first that has none.
use Rattle.std.proofs.Common.{◌≡◌, ◌∙◌, sym, refl, ap, ℕ, ◌+◌, suc, List, [], ◌∷◌, ◌++◌, length, drop, ◌≤◌, Bool, true, false, cond, subst, Option, Some, None, Ok, Err, arith, append_assoc, append-nil, add-one, drop-cons, get_or, inl, inr, ◌<◌}
use Rattle.std.specs.Prelude.{◌^◌, find, fold, slice_get, ◌==◌, if◌then◌else◌}
use Rattle.std.specs.Ordering.{MatchOrdering, is_lt, nat_cmp, ord_max}
use Rattle.std.specs.declared.cmp.Ordering.{Ordering}
use Rattle.std.specs.declared.cmp.Ordering.TheVariants.{Less, Equal, Greater}
use Rattle.std.proofs.lemmas.Cmp.{ranked}
use Rattle.std.specs.List.{AllByRecursion, filter_map}
use Rattle.std.proofs.lemmas.Bool.Decides.{eqb_tells}
use Rattle.std.proofs.lemmas.List.{length-drop, nil_from_length}
use Rattle.std.proofs.lemmas.Option.{same_Some, slice_get_within, get_or_from_slice_get}
use Rattle.keyset_model.specs.Keyset.{Keys, is_primary, primary_of}
use Rattle.keyset_model.specs.declared.record.Record.{Record}
use Rattle.segment_stream.specs.declared.reading.StreamFault.{StreamFault}
use Rattle.segment_stream.specs.declared.reading.StreamFault.TheVariants as why
use Rattle.segment_stream.specs.StreamKeys.{GivesStreamKey, IsUnfit, StreamUnfit, at_place, bad_key, not_stream, given_by, primary_key, given, key_in, refused, stream_key_of, stream_unfit, unfit_record, unfit_records, largest_of, stream_keys}
use Rattle.segment_stream.specs.Segments.{IsSound}
use Rattle.segment_stream.specs.declared.key.StreamKey.{StreamKey}

-- the records from a place on
rest_there : (records : List Record) (i : ℕ) (r : Record) → slice_get records i ≡ Some r
    → drop i records ≡ r ∷ drop (i + 1) records
rest_there records i r there =
    rw add-one (drop-cons records i r (slice_get_within records i r there)
    ∙ ap (λ (x : Record). x ∷ drop (suc i) records) (get_or_from_slice_get records i r r there))

-- the first record from a place on that can't serve, and the keys of those from there on
abbrev pub first_from : Keys → ℕ → Option (ℕ × StreamUnfit)
first_from keys i = slice_get (unfit_records i (drop i keys.records)) 0

abbrev pub keys_from : Keys → ℕ → List StreamKey
keys_from keys i = filter_map key_in (drop i keys.records)

unfit_next : (i : ℕ) (r : Record) (rs : List Record) → unfit_record r ≡ None
    → slice_get (unfit_records i (r ∷ rs)) 0 ≡ slice_get (unfit_records (i + 1) rs) 0
unfit_next i r rs none = rw none refl

unfit_here : (i : ℕ) (r : Record) (rs : List Record) (why : StreamUnfit) → unfit_record r ≡ Some why
    → slice_get (unfit_records i (r ∷ rs)) 0 ≡ Some (i, why)
unfit_here i r rs why is = rw is refl

pub fit_more : (keys : Keys) (i : ℕ) (r : Record) → first_from keys i ≡ stream_unfit keys
    → slice_get keys.records i ≡ Some r → unfit_record r ≡ None
    → first_from keys (i + 1) ≡ stream_unfit keys
fit_more keys i r first there fit =
    let here = rw (rest_there keys.records i r there) at first in
    sym (unfit_next i r (drop (i + 1) keys.records) fit) ∙ here

pub fit_stops : (keys : Keys) (i : ℕ) (r : Record) (why : StreamUnfit) → first_from keys i ≡ stream_unfit keys
    → slice_get keys.records i ≡ Some r → unfit_record r ≡ Some why → stream_unfit keys ≡ Some (i, why)
fit_stops keys i r why first there is =
    let here = rw (rest_there keys.records i r there) at first in
    sym here ∙ unfit_here i r (drop (i + 1) keys.records) why is

drop_past : (i : ℕ) (records : List Record) → length records ≤ i → drop i records ≡ []
drop_past i records past = nil_from_length (drop i records) (omega (arith, length-drop i records))

pub all_fit : (keys : Keys) (i : ℕ) → length keys.records ≤ i → first_from keys i ≡ stream_unfit keys
    → stream_unfit keys ≡ None
all_fit keys i all first = sym (rw (drop_past i keys.records all) at first)

-- ---- what an ENABLED record gives, and what another

on_test : {A : Type 0} (r : Record) (a : Option A) → r.status ≡ 1
    → (if r.status == 1 then a else None) ≡ a
on_test r a e = rw e refl

off_test : {A : Type 0} (b : Bool) (a : Option A) → b ≡ false → (if b then a else None) ≡ None
off_test b a e = rw e refl

pub unfit_is : (r : Record) (why : StreamUnfit) → r.status ≡ 1 → stream_key_of r ≡ Err why
    → unfit_record r ≡ Some why
unfit_is r why e read = on_test r (refused (stream_key_of r)) e ∙ ap (λ x. refused x) read

pub fit_is : (r : Record) (key : StreamKey) → r.status ≡ 1 → stream_key_of r ≡ Ok key
    → unfit_record r ≡ None
fit_is r key e read = on_test r (refused (stream_key_of r)) e ∙ ap (λ x. refused x) read

pub key_is : (r : Record) (key : StreamKey) → r.status ≡ 1 → stream_key_of r ≡ Ok key
    → key_in r ≡ Some key
key_is r key e read = on_test r (given (stream_key_of r)) e ∙ ap (λ x. given x) read

key_next : (r : Record) (rs : List Record) (key : StreamKey) → key_in r ≡ Some key
    → filter_map key_in (r ∷ rs) ≡ key ∷ filter_map key_in rs
key_next r rs key is = rw is refl

no_key_next : (r : Record) (rs : List Record) → key_in r ≡ None
    → filter_map key_in (r ∷ rs) ≡ filter_map key_in rs
no_key_next r rs none = rw none refl

pub keys_more : (keys : Keys) (i : ℕ) (r : Record) (key : StreamKey) (held whole : List StreamKey)
    → slice_get keys.records i ≡ Some r → key_in r ≡ Some key → held ++ keys_from keys i ≡ whole
    → (held ++ key ∷ []) ++ keys_from keys (i + 1) ≡ whole
keys_more keys i r key held whole there is all =
    append_assoc held (key ∷ []) (keys_from keys (i + 1))
    ∙ ap (λ l. held ++ l) (sym (ap (λ l. filter_map key_in l) (rest_there keys.records i r there)
    ∙ key_next r (drop (i + 1) keys.records) key is))
    ∙ all

pub keys_skip : (keys : Keys) (i : ℕ) (r : Record) (held whole : List StreamKey)
    → slice_get keys.records i ≡ Some r → key_in r ≡ None → held ++ keys_from keys i ≡ whole
    → held ++ keys_from keys (i + 1) ≡ whole
keys_skip keys i r held whole there none all =
    ap (λ l. held ++ l) (sym (ap (λ l. filter_map key_in l) (rest_there keys.records i r there)
    ∙ no_key_next r (drop (i + 1) keys.records) none))
    ∙ all

pub keys_all : (keys : Keys) (i : ℕ) (held whole : List StreamKey) → length keys.records ≤ i
    → held ++ keys_from keys i ≡ whole → held ≡ whole
keys_all keys i held whole past all =
    sym (append-nil held)
    ∙ ap (λ l. held ++ filter_map key_in l) (sym (drop_past i keys.records past)) ∙ all

pub all_push : (P : StreamKey → Type 0) (xs : List StreamKey) (x : StreamKey)
    → AllByRecursion P xs → P x → AllByRecursion P (xs ++ x ∷ [])
all_push P [] x all p = (p, all)
all_push P (y ∷ ys) x all p = (all.0, all_push P ys x all.1 p)

pub unfit_off : (r : Record) → (r.status == 1) ≡ false → unfit_record r ≡ None
unfit_off r e = off_test (r.status == 1) (refused (stream_key_of r)) e

pub key_off : (r : Record) → (r.status == 1) ≡ false → key_in r ≡ None
key_off r e = off_test (r.status == 1) (given (stream_key_of r)) e

-- the first record that can't serve, by what reading it gave
pub refused_at : (keys : Keys) (i : ℕ) (r : Record) (fault : StreamFault)
    → first_from keys i ≡ stream_unfit keys → slice_get keys.records i ≡ Some r → r.status ≡ 1
    → GivesStreamKey (Err fault) (stream_key_of r) → IsUnfit (at_place i fault) (stream_unfit keys)
refused_at keys i r why.NotStream first there enabled read =
    fit_stops keys i r not_stream first there (unfit_is r not_stream enabled read)
refused_at keys i r (why.BadKey rule) first there enabled read =
    fit_stops keys i r (bad_key rule) first there (unfit_is r (bad_key rule) enabled read)
refused_at keys i r why.NoMemory first there enabled read = tt

-- a test of two numbers that differ
pub other_status : (n : ℕ) → (n ≡ 1 → ⊥) → (n == 1) ≡ false
other_status n differ = elim (eqb_tells n 1) [
  | inl one ↦ absurd (differ one.1)
  | inr other ↦ other.0
]

pub primary_is : (keys : Keys) (r : Record) (key : StreamKey) → primary_of keys ≡ Some r
    → stream_key_of r ≡ Ok key → primary_key keys ≡ Some key
unfolding primary_key
primary_is keys r key primary read = ap (λ o. given_by o) primary ∙ ap (λ x. given x) read

-- ---- the largest segment

-- the largest of these keys and of a size
abbrev pub largest_from : ℕ → List StreamKey → ℕ
largest_from so_far keys = fold (λ most key. ord_max nat_cmp most key.segment) so_far keys

pub largest_next : (keys : List StreamKey) (i : ℕ) (key : StreamKey) (so_far : ℕ) → i < length keys
    → key ≡ get_or keys i key
    → largest_from so_far (drop i keys) ≡ largest_from (ord_max nat_cmp so_far key.segment) (drop (i + 1) keys)
largest_next keys i key so_far lt is =
    let rest : drop i keys ≡ key ∷ drop (i + 1) keys
    = rw add-one (drop-cons keys i key lt ∙ ap (λ (x : StreamKey). x ∷ drop (suc i) keys) (sym is)) in
    ap (λ l. largest_from so_far l) rest

pub largest_last : (keys : List StreamKey) (i : ℕ) (so_far : ℕ) → length keys ≤ i
    → largest_from so_far (drop i keys) ≡ so_far
largest_last keys i so_far past =
    ap (λ l. largest_from so_far l)
    (nil_from_length (drop i keys) (omega (arith, length-drop i keys)))

of_order : (a b n : ℕ) (o : Ordering) → MatchOrdering o (b < a) (b ≡ a) (a < b)
    → (a ≤ cond (is_lt o) a b) × (b ≤ cond (is_lt o) a b)
    × (a < n → b < n → cond (is_lt o) a b < n)
of_order a b n Less h = (omega arith, omega arith, λ f g. f)
of_order a b n Equal h = (omega arith, omega arith, λ f g. g)
of_order a b n Greater h = (omega arith, omega arith, λ f g. g)

-- the larger of two is at least each of them, and below what both are below
larger : (a b n : ℕ) → (a ≤ ord_max nat_cmp a b) × (b ≤ ord_max nat_cmp a b)
    × (a < n → b < n → ord_max nat_cmp a b < n)
larger a b n = of_order a b n (nat_cmp b a) (ranked b a (nat_cmp b a) refl)

-- a size so far is no larger than the largest
so_far-within : (keys : List StreamKey) (so_far : ℕ) → so_far ≤ largest_from so_far keys
so_far-within [] so_far = omega arith
so_far-within (key ∷ keys) so_far =
    let next = ord_max nat_cmp so_far key.segment in
    omega (arith, (larger so_far key.segment 0).0, so_far-within keys next)

-- nor is a key's
key-within : (key : StreamKey) (keys : List StreamKey) (so_far : ℕ)
    → key.segment ≤ largest_from so_far (key ∷ keys)
key-within key keys so_far =
    let next = ord_max nat_cmp so_far key.segment in
    omega (arith, (larger so_far key.segment 0).1, so_far-within keys next)

pub all-within : (keys : List StreamKey) (so_far most : ℕ) → largest_from so_far keys ≡ most
    → AllByRecursion (λ key. key.segment ≤ most) keys
all-within [] so_far most e = tt
all-within (key ∷ keys) so_far most e = (
  omega (arith, key-within key keys so_far, e),
  all-within keys (ord_max nat_cmp so_far key.segment) most e,
)

pub largest-bound : (keys : List StreamKey) (so_far : ℕ) → so_far < 2 ^ 31
    → AllByRecursion IsSound keys → largest_from so_far keys < 2 ^ 31
largest-bound [] so_far low sound = low
largest-bound (key ∷ keys) so_far low sound =
    largest-bound keys (ord_max nat_cmp so_far key.segment)
    ((larger so_far key.segment (2 ^ 31)).2 low sound.0.most) sound.1

-- ---- the primary record's key is among them

on_others : (x : Record) (xs : List Record) (o : Option StreamKey) (n so_far : ℕ) → key_in x ≡ o
    → ((s : ℕ) → n ≤ largest_from s (filter_map key_in xs))
    → n ≤ largest_from so_far (filter_map key_in (x ∷ xs))
on_others x xs None n so_far e rest =
    subst (λ (l : List StreamKey). n ≤ largest_from so_far l) (sym (no_key_next x xs e)) (rest so_far)
on_others x xs (Some k) n so_far e rest =
    subst (λ (l : List StreamKey). n ≤ largest_from so_far l) (sym (key_next x xs k e))
    (rest (ord_max nat_cmp so_far k.segment))

on_test_of : (p : Record → Bool) (x : Record) (xs : List Record) (r : Record) (key : StreamKey)
    (so_far : ℕ) (b : Bool) → (if b then Some x else find p xs) ≡ Some r → key_in r ≡ Some key
    → (find p xs ≡ Some r → (s : ℕ) → key.segment ≤ largest_from s (filter_map key_in xs))
    → key.segment ≤ largest_from so_far (filter_map key_in (x ∷ xs))
on_test_of p x xs r key so_far true e k rest =
    subst (λ (l : List StreamKey). key.segment ≤ largest_from so_far l)
    (sym (key_next x xs key (ap (λ y. key_in y) (same_Some x r e) ∙ k)))
    (key-within key (filter_map key_in xs) so_far)
on_test_of p x xs r key so_far false e k rest =
    on_others x xs (key_in x) key.segment so_far refl (rest e)

found-within : (p : Record → Bool) (records : List Record) (r : Record) (key : StreamKey)
    (so_far : ℕ) → find p records ≡ Some r → key_in r ≡ Some key
    → key.segment ≤ largest_from so_far (filter_map key_in records)
found-within p [] r key so_far e k = absurd cc
found-within p (x ∷ xs) r key so_far e k =
    on_test_of p x xs r key so_far (p x) e k (λ f s. found-within p xs r key s f k)

pub primary-within : (keys : Keys) (r : Record) (key : StreamKey) → primary_of keys ≡ Some r
    → r.status ≡ 1 → stream_key_of r ≡ Ok key → key.segment ≤ largest_of (stream_keys keys)
unfolding stream_keys
primary-within keys r key primary enabled read =
    found-within (is_primary keys.primary) keys.records r key 0 primary (key_is r key enabled read)
