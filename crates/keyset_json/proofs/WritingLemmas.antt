-- Lemmas on writing: members that are put in one after another, and values of records.
use Rattle.std.proofs.Common.{◌≡◌, ◌∙◌, ℕ, ◌+◌, Bool, true, false, List, [], ◌∷◌, ◌++◌, map, take, slice_get, Some, if◌then◌else◌, codes, refl, sym, ap, ap₂}
use Rattle.std.proofs.lemmas.List.{map-append, take_more}
use Rattle.std.proofs.lemmas.Option.{get_or_from_slice_get, slice_get_within}
use Rattle.serde_json.specs.Written.{has_float, items_have_float}
use Rattle.keyset_model.specs.Keyset.{Keys, is_bare}
use Rattle.serde_json.specs.Data.{Data, no_members, member, put}
use Rattle.serde_json.specs.View.{view, items_of}
use Rattle.serde_json.specs.declared.value.Value.{Value}
use Rattle.keyset_model.specs.declared.record.Record.{Record}
use Rattle.keyset_json.specs.Writing.{data_value, key_value, keyset_value}

-- the members behind the key data go behind it, whether it is there or not
pub behind_data : (b : Bool) (data' id prefix status : Data)
    → put (codes "status") status (put (codes "outputPrefixType") prefix (put (codes "keyId") id (if b then no_members else member (codes "keyData") data' no_members)))
    ≡ (if b then member (codes "keyId") id (member (codes "outputPrefixType") prefix (member (codes "status") status no_members))
    else member (codes "keyData") data' (member (codes "keyId") id (member (codes "outputPrefixType") prefix (member (codes "status") status no_members))))
behind_data true data' id prefix status = refl
behind_data false data' id prefix status = refl

-- one record more
taken : (rs : List Record) (i : ℕ) (r : Record) → slice_get rs i ≡ Some r → take (i + 1) rs ≡ take i rs ++ r ∷ []
taken rs i r there = take_more rs i r (slice_get_within rs i r there) ∙ ap (λ (x : Record). take i rs ++ x ∷ []) (get_or_from_slice_get rs i r r there)

-- a value more
pub value_push : (vs : List Value) (v : Value) (rs : List Record) (i : ℕ) (r : Record) → map view vs ≡ map key_value (take i rs) → slice_get rs i ≡ Some r
    → view v ≡ key_value r → map view (vs ++ v ∷ []) ≡ map key_value (take (i + 1) rs)
value_push vs v rs i r before there is =
    map-append view vs (v ∷ []) ∙ ap₂ (λ xs x. xs ++ x ∷ []) before is ∙ sym (ap (map key_value) (taken rs i r there) ∙ map-append key_value (take i rs) (r ∷ []))

-- ---- no value has a float

key_float : (r : Record) (b : Bool) → is_bare r ≡ b → has_float (key_value r) ≡ false
unfolding key_value data_value
key_float r true is = rw is refl
key_float r false is = rw is refl

keys_float : (rs : List Record) → items_have_float (items_of (map key_value rs)) ≡ false
keys_float [] = refl
keys_float (r ∷ rs) = rw (key_float r (is_bare r) refl, keys_float rs) refl

pub no_float : (keys : Keys) → has_float (keyset_value keys) ≡ false
unfolding keyset_value
no_float keys = rw (keys_float keys.records) refl
