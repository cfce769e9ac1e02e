-- The managers of the standard table serve the key types of their primitive, each under its own URL.
use Rattle.std.proofs.Common.{◌≡◌, ◌∙◌, refl, sym, ap, ℕ, List, Option, Some, None, option_map, find}
use Rattle.std.specs.Prelude.{slice_get}
use Rattle.std.specs.List.{AllByRecursion}
use Rattle.std.specs.Option.{option_and_then}
use Rattle.std.specs.Str.{bytes_eq}
use Rattle.std.proofs.lemmas.Slice.Eq.{bytes_eq-Decides}
use Rattle.key_msgs.specs.KeyTypes.{all_types, primitive_of_type, type_of_url, url_of_type}
use Rattle.key_msgs.specs.declared.key_type.KeyType.{KeyType}
use Rattle.key_msgs.specs.declared.primitive.Primitive.{Primitive}
use Rattle.key_msgs.specs.declared.primitive.Primitive.TheVariants.{Aead, Daead, Mac, Prf, Stream}
use Rattle.keyset_model.proofs.PrimaryLemmas.{at_position, no_position}
use Rattle.managers.specs.Schemes.{Scheme, type_under}
use Rattle.managers.specs.Standard.{standard_table}
use Rattle.managers.specs.Table.{Entry, entries_of, place_in, scheme_at}
use Rattle.tinkey_cmds.proofs.Among.{among-all, find-among}
use Rattle.tinkey_session.proofs.Options.{map_some}

-- a known URL is that of its type
pub url_known : (url : List ℕ) (type : KeyType) → type_of_url url ≡ Some type → url_of_type type ≡ url
unfolding type_of_url
url_known url type e = (bytes_eq-Decides (url_of_type type) url).0 (find-among (λ t. bytes_eq (url_of_type t) url) all_types type e).1

-- an entry stands under the URL of its scheme's key type, among those of that type's primitive
abbrev IsOwn : Primitive → Entry → Type 0
IsOwn primitive e = (e.url ≡ url_of_type (type_under e.scheme)) × (primitive_of_type (type_under e.scheme) ≡ primitive)

own_entries : (primitive : Primitive) → AllByRecursion (IsOwn primitive) (entries_of standard_table primitive)
own_entries Aead = ((refl, refl), ((refl, refl), ((refl, refl), ((refl, refl), tt))))
own_entries Daead = ((refl, refl), tt)
own_entries Mac = ((refl, refl), ((refl, refl), tt))
own_entries Prf = ((refl, refl), ((refl, refl), ((refl, refl), tt)))
own_entries Stream = tt

-- the entry of a URL's first place is the first one with it
found_entry : (entries : List Entry) (url : List ℕ) → option_and_then (slice_get entries) (place_in entries url) ≡ find (λ (e : Entry). bytes_eq e.url url) entries
found_entry entries url = by (place_in entries url) refl
  where
    by : (place : Option ℕ) → place ≡ place_in entries url → option_and_then (slice_get entries) place ≡ find (λ (e : Entry). bytes_eq e.url url) entries
    by None e = sym (no_position (λ (x : Entry). bytes_eq x.url url) entries e)
    by (Some i) e = sym (at_position (λ (x : Entry). bytes_eq x.url url) entries i e)

-- the URL of a manager is that of a key type for the primitive
pub scheme_known : (primitive : Primitive) (url : List ℕ) (scheme : Scheme) → scheme_at standard_table primitive url ≡ Some scheme
    → (url ≡ url_of_type (type_under scheme)) × (primitive_of_type (type_under scheme) ≡ primitive)
scheme_known primitive url scheme e =
    let entries = entries_of standard_table primitive in
    let there = map_some (λ (x : Entry). x.scheme) (find (λ (x : Entry). bytes_eq x.url url) entries) scheme (ap (option_map (λ (x : Entry). x.scheme)) (sym (found_entry entries url)) ∙ e) in
    let found = find-among (λ (x : Entry). bytes_eq x.url url) entries there.0 there.1 in
    let own = among-all (IsOwn primitive) entries there.0 (own_entries primitive) found.0 in
    let same : there.0.url ≡ url = (bytes_eq-Decides there.0.url url).0 found.1 in
    (sym same ∙ own.0 ∙ ap (λ s. url_of_type (type_under s)) there.2, ap (λ s. primitive_of_type (type_under s)) (sym there.2) ∙ own.1)
