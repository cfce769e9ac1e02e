-- Lemmas on writing: the keys of the info one after another, in both forms.
use Rattle.std.proofs.Common.{◌≡◌, ◌∙◌, ap, ap₂, sym, refl, ℕ, zero, suc, ◌+◌, ◌≤◌, Bool, true, false, List, [], ◌∷◌, ◌++◌, length, map, take, Some, if◌then◌else◌, codes, arith, append-nil}
use Rattle.std.specs.Prelude.{slice_get, ◌==◌}
use Rattle.std.proofs.lemmas.List.{map-append, take_more}
use Rattle.std.proofs.lemmas.Option.{get_or_from_slice_get, slice_get_within}
use Rattle.proto_wire.specs.Written.{Entry, uint32, written, written_all}
use Rattle.proto_wire.proofs.Writing.{written_all-append}
use Rattle.serde_json.specs.Data.{Data, no_members, member, put}
use Rattle.serde_json.specs.View.{view, items_of}
use Rattle.serde_json.specs.Written.{has_float, items_have_float}
use Rattle.serde_json.specs.declared.value.Value.{Value}
use Rattle.keyset_model.specs.declared.record.Record.{Record}
use Rattle.keyset_model.specs.Keyset.{Keys}
use Rattle.keyset_model.specs.Listing.{prefix_text, status_text}
use Rattle.keyset_json.specs.Names.{name_at, prefix_names, status_names}
use Rattle.seal_wrap.specs.Info.{Info, KeyInfo, key_info_of}
use Rattle.seal_wrap.specs.Wrapped.{info_entries, info_value, info_written, key_info_entry, key_info_value, url_member, wrapped_value}

-- one record more
taken : (rs : List Record) (i : ℕ) (r : Record) → slice_get rs i ≡ Some r → take (i + 1) rs ≡ take i rs ++ r ∷ []
taken rs i r there = take_more rs i r (slice_get_within rs i r there) ∙ ap (λ (x : Record). take i rs ++ x ∷ []) (get_or_from_slice_get rs i r r there)

more_keys : (rs : List Record) (i : ℕ) (r : Record) → slice_get rs i ≡ Some r → map key_info_of (take (i + 1) rs) ≡ map key_info_of (take i rs) ++ key_info_of r ∷ []
more_keys rs i r there = ap (map key_info_of) (taken rs i r there) ∙ map-append key_info_of (take i rs) (r ∷ [])

-- the info of the first records
abbrev pub info_to : Keys → ℕ → Info
info_to keys i = record { primary = keys.primary; keys = map key_info_of (take i keys.records) }

pub info-more : (keys : Keys) (i : ℕ) (r : Record) → slice_get keys.records i ≡ Some r
    → info_written (info_to keys i) ++ written (key_info_entry (key_info_of r)) ≡ info_written (info_to keys (i + 1))
info-more keys i r there =
    let front = info_entries (info_to keys i) in
    let entry = key_info_entry (key_info_of r) in
    ap (λ (l : List ℕ). written_all front ++ l) (sym (append-nil (written entry)))
    ∙ sym (written_all-append front (entry ∷ []))
    ∙ ap (λ (l : List Entry). written_all (uint32 1 keys.primary ∷ l))
    (sym (ap (map key_info_entry) (more_keys keys.records i r there) ∙ map-append key_info_entry (map key_info_of (take i keys.records)) (key_info_of r ∷ [])))

-- ---- JSON

pub status-name : (n : ℕ) → 1 ≤ n → n ≤ 3 → status_text n ≡ name_at status_names n
unfolding status_text
status-name zero least most = absurd (omega arith)
status-name (suc zero) least most = refl
status-name (suc (suc zero)) least most = refl
status-name (suc (suc (suc zero))) least most = refl
status-name (suc (suc (suc (suc n)))) least most = absurd (omega arith)

pub prefix-name : (n : ℕ) → 1 ≤ n → n ≤ 4 → prefix_text n ≡ name_at prefix_names n
unfolding prefix_text
prefix-name zero least most = absurd (omega arith)
prefix-name (suc zero) least most = refl
prefix-name (suc (suc zero)) least most = refl
prefix-name (suc (suc (suc zero))) least most = refl
prefix-name (suc (suc (suc (suc zero)))) least most = refl
prefix-name (suc (suc (suc (suc (suc n))))) least most = absurd (omega arith)

-- the other members go before the type URL, whether it is there or not
before_url : (b : Bool) (url id prefix status : Data)
    → put (codes "status") status (put (codes "outputPrefixType") prefix (put (codes "keyId") id (if b then no_members else member (codes "typeUrl") url no_members)))
    ≡ member (codes "keyId") id (member (codes "outputPrefixType") prefix (member (codes "status") status (if b then no_members else member (codes "typeUrl") url no_members)))
before_url true url id prefix status = refl
before_url false url id prefix status = refl

pub before-url : (url : List ℕ) (id prefix status : Data)
    → put (codes "status") status (put (codes "outputPrefixType") prefix (put (codes "keyId") id (url_member url)))
    ≡ member (codes "keyId") id (member (codes "outputPrefixType") prefix (member (codes "status") status (url_member url)))
before-url url id prefix status = before_url (length url == 0) (Data.string url) id prefix status

-- a value more
pub value_push : (vs : List Value) (v : Value) (rs : List Record) (i : ℕ) (r : Record) → map view vs ≡ map key_info_value (map key_info_of (take i rs)) → slice_get rs i ≡ Some r
    → view v ≡ key_info_value (key_info_of r) → map view (vs ++ v ∷ []) ≡ map key_info_value (map key_info_of (take (i + 1) rs))
value_push vs v rs i r before there is =
    map-append view vs (v ∷ []) ∙ ap₂ (λ xs x. xs ++ x ∷ []) before is
    ∙ sym (ap (map key_info_value) (more_keys rs i r there) ∙ map-append key_info_value (map key_info_of (take i rs)) (key_info_of r ∷ []))

-- ---- no value has a float

key_float : (k : KeyInfo) (b : Bool) → (length k.url == 0) ≡ b → has_float (key_info_value k) ≡ false
unfolding key_info_value
key_float k true is = rw is refl
key_float k false is = rw is refl

keys_float : (ks : List KeyInfo) → items_have_float (items_of (map key_info_value ks)) ≡ false
keys_float [] = refl
keys_float (k ∷ ks) = rw (key_float k _ refl, keys_float ks) refl

pub no_float : (sealed : List ℕ) (info : Info) → has_float (wrapped_value sealed info) ≡ false
unfolding wrapped_value info_value
no_float sealed info = rw (keys_float info.keys) refl
