use Rattle.std.proofs.Common.{◌≡◌, ℕ, List, map, refl, Bool, true, false, ◌||◌, ◌++◌, [], ◌∷◌, position}
use Rattle.std.specs.Str.{bytes_eq}
use Rattle.managers.specs.Table.{Entry, has_url, has_repeat, shares_url}
use Rattle.std.specs.List.{position_or_len}
use Rattle.std.proofs.lemmas.List.{length-map}

-- the first place in a mapped list at which a test passes
pub position_or_len-map : {A B : Type 0} (p : B → Bool) (f : A → B) (xs : List A) → position_or_len p (map f xs) ≡ position_or_len (λ x. p (f x)) xs
position_or_len-map p f [] = refl
position_or_len-map p f (x ∷ xs) = rw (position_or_len-map p f xs) refl

pub position-map : {A B : Type 0} (p : B → Bool) (f : A → B) (xs : List A) → position p (map f xs) ≡ position (λ x. p (f x)) xs
position-map p f xs = rw (position_or_len-map p f xs, length-map xs f) refl

or_shuffle : (a b c d e : Bool) → ((a || b) || ((c || d) || e)) ≡ (((a || c) || (b || d)) || e)
or_shuffle true b c d e = refl
or_shuffle false true true d e = refl
or_shuffle false true false d e = refl
or_shuffle false false c d e = refl

or_assoc : (a b c : Bool) → (a || (b || c)) ≡ ((a || b) || c)
or_assoc true b c = refl
or_assoc false b c = refl

or_exchange : (a b c d : Bool) → ((a || b) || (c || d)) ≡ ((a || c) || (b || d))
or_exchange true b c d = refl
or_exchange false true true d = refl
or_exchange false true false d = refl
or_exchange false false c d = refl

has_url-append : (url : List ℕ) (xs ys : List Entry) → has_url url (xs ++ ys) ≡ (has_url url xs || has_url url ys)
has_url-append url [] ys = refl
has_url-append url (x ∷ xs) ys = rw (has_url-append url xs ys) (or_assoc (bytes_eq x.url url) (has_url url xs) (has_url url ys))

-- a repeat in two lists is one in the first, across them, or in the second
pub has_repeat-append : (xs ys : List Entry) → has_repeat (xs ++ ys) ≡ ((has_repeat xs || shares_url xs ys) || has_repeat ys)
has_repeat-append [] ys = refl
has_repeat-append (x ∷ xs) ys =
    rw (has_url-append x.url xs ys, has_repeat-append xs ys) (or_shuffle (has_url x.url xs) (has_url x.url ys) (has_repeat xs) (shares_url xs ys) (has_repeat ys))

-- a manager shares its URL with one of two lists where it does with one of the first, or of the second
pub shares_url-append : (es xs ys : List Entry) → shares_url es (xs ++ ys) ≡ (shares_url es xs || shares_url es ys)
shares_url-append [] xs ys = refl
shares_url-append (e ∷ es) xs ys =
    rw (has_url-append e.url xs ys, shares_url-append es xs ys) (or_exchange (has_url e.url xs) (has_url e.url ys) (shares_url es xs) (shares_url es ys))
