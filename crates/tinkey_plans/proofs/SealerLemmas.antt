-- The record that is told of bytes that no key opens.
use Rattle.std.proofs.Common.{◌≡◌, ◌∙◌, ap, refl, sym, Bool, true, false, cond, ◌&&◌, ℕ, List, [], ◌∷◌, Option, Some, None, inl, inr}
use Rattle.std.specs.Prelude.{filter, find}
use Rattle.std.specs.List.{Contains}
use Rattle.std.specs.Option.{option_or}
use Rattle.std.proofs.lemmas.Bool.{and_from, and_parts}
use Rattle.std.proofs.lemmas.Option.{same_Some}
use Rattle.keyset_model.specs.Keyset.{Keys, is_enabled}
use Rattle.keyset_model.specs.declared.record.Record.{Record}
use Rattle.tinkey_cmds.proofs.Among.{Among, contains-among}
use Rattle.tinkey_plans.proofs.NamingLemmas.{among-contains, filter_has, has_filter}
use Rattle.tinkey_plans.specs.Naming.{IsOneNamed, SealersAreNamed}
use Rattle.tinkey_plans.specs.Sealers.{named, record_named, stands_under, told_none, told_or}
use Rattle.wrapped_prims.specs.Candidates.{is_enabled_with}

-- ---- what is found first

found_so : {A : Type 0} (p : A → Bool) (xs : List A) (x : A) → find p xs ≡ Some x → Among x xs × (p x ≡ true)
found_so p [] x is = absurd (cc)
found_so {A} p (y ∷ ys) x is = by (p y) refl (λ later. found_so p ys x later) is
  where
    by : (b : Bool) → p y ≡ b → (find p ys ≡ Some x → Among x ys × (p x ≡ true)) → cond b (Some y) (find p ys) ≡ Some x → Among x (y ∷ ys) × (p x ≡ true)
    by true was rest e = let same : y ≡ x = same_Some _ _ e in (inl same, ap p (sym same) ∙ was)
    by false was rest e = (inr (rest e).0, (rest e).1)

not_found : {A : Type 0} (p : A → Bool) (xs : List A) (x : A) → find p xs ≡ None → Among x xs → p x ≡ false
not_found p [] x is a = absurd a
not_found {A} p (y ∷ ys) x is a = by (p y) refl (λ later there. not_found p ys x later there) is a
  where
    by : (b : Bool) → p y ≡ b → (find p ys ≡ None → Among x ys → p x ≡ false) → cond b (Some y) (find p ys) ≡ None → Among x (y ∷ ys) → p x ≡ false
    by true was rest e there = absurd (cc)
    by false was rest e (inl same) = ap p (sym same) ∙ was
    by false was rest e (inr later) = rest e later

none_kept : {A : Type 0} (p : A → Bool) (xs : List A) → find p xs ≡ None → filter p xs ≡ []
none_kept p [] is = refl
none_kept {A} p (y ∷ ys) is = by (p y) (none_kept p ys) is
  where
    by : (b : Bool) → (find p ys ≡ None → filter p ys ≡ []) → cond b (Some y) (find p ys) ≡ None → cond b (y ∷ filter p ys) (filter p ys) ≡ []
    by true rest e = absurd (cc)
    by false rest e = rest e

-- where no element passes the weaker test, none is found by the stronger one
none_found : {A : Type 0} (e p : A → Bool) (xs : List A) → filter p xs ≡ [] → find (λ x. e x && p x) xs ≡ None
none_found e p [] is = refl
none_found {A} e p (y ∷ ys) is = by (e y) (p y) (none_found e p ys) is
  where
    by : (a b : Bool) → (filter p ys ≡ [] → find (λ x. e x && p x) ys ≡ None) → cond b (y ∷ filter p ys) (filter p ys) ≡ [] → cond (a && b) (Some y) (find (λ x. e x && p x) ys) ≡ None
    by a true rest f = absurd (cc)
    by true false rest f = rest f
    by false false rest f = rest f

none_found_so : {A : Type 0} (p : A → Bool) (xs : List A) → filter p xs ≡ [] → find p xs ≡ None
none_found_so p [] is = refl
none_found_so {A} p (y ∷ ys) is = by (p y) (none_found_so p ys) is
  where
    by : (b : Bool) → (filter p ys ≡ [] → find p ys ≡ None) → cond b (y ∷ filter p ys) (filter p ys) ≡ [] → cond b (Some y) (find p ys) ≡ None
    by true rest f = absurd (cc)
    by false rest f = rest f

-- ---- the record that is told

one_named : (keys : Keys) (front : List ℕ) (r : Record) → record_named keys front ≡ Some r → IsOneNamed keys front r
one_named keys front r is = by (find (is_enabled_with (Some front)) keys.records) refl is
  where
    here : (x : Record) → Among x keys.records → stands_under front x ≡ true → Contains (named keys front) x
    here x a stands = contains-among _ x (filter_has (stands_under front) keys.records x a stands)

    by : (o : Option Record) → find (is_enabled_with (Some front)) keys.records ≡ o → option_or o (find (stands_under front) keys.records) ≡ Some r → IsOneNamed keys front r
    by (Some x) was e =
        let same : x ≡ r = same_Some _ _ e in
        let found = found_so (is_enabled_with (Some front)) keys.records r (was ∙ e) in
        let both = and_parts (is_enabled r) (stands_under front r) found.1 in
        record { among = here r found.0 both.1; enabled = λ other c is. both.0 }
    by None was e =
        let found = found_so (stands_under front) keys.records r e in
        record {
          among = here r found.0 found.1;
          enabled = λ other c is.
              let x = has_filter (stands_under front) keys.records other (among-contains _ other c) in
              let not : is_enabled_with (Some front) other ≡ false = not_found (is_enabled_with (Some front)) keys.records other was x.0 in
              let so : is_enabled_with (Some front) other ≡ true = and_from (is_enabled other) (stands_under front other) is x.1 in
              absurd (cc);
        }

none_there : (keys : Keys) (front : List ℕ) → named keys front ≡ [] → record_named keys front ≡ None
none_there keys front is =
    ap (λ o. option_or o (find (stands_under front) keys.records)) (none_found is_enabled (stands_under front) keys.records is)
    ∙ none_found_so (stands_under front) keys.records is

none_named : (keys : Keys) (front : List ℕ) → record_named keys front ≡ None → named keys front ≡ []
none_named keys front is = by (find (is_enabled_with (Some front)) keys.records) is
  where
    by : (o : Option Record) → option_or o (find (stands_under front) keys.records) ≡ None → named keys front ≡ []
    by (Some x) e = absurd (cc)
    by None e = none_kept (stands_under front) keys.records e

pub sealers_are_named : SealersAreNamed
sealers_are_named = record {
  one = one_named;
  told = λ keys front r is. ap (λ o. told_or o (told_none keys)) is;
  none = λ keys front. (none_named keys front, none_there keys front);
  untold = λ keys front is. ap (λ o. told_or o (told_none keys)) (none_there keys front is);
}
