-- The keys of records under the standard table, and which keysets have no record that can't serve.
use Rattle.std.proofs.Common.{◌≡◌, ◌∙◌, refl, sym, ap, ℕ, ◌+◌, List, [], ◌∷◌, Bool, true, false, cond, Option, Some, None, Result, Ok, Err, option_map}
use Rattle.std.specs.List.{AllByRecursion}
use Rattle.std.specs.Option.{option_and_then}
use Rattle.std.specs.Result.{result_err}
use Rattle.std.proofs.lemmas.Option.{same_Some}
use Rattle.key_msgs.specs.KeyTypes.{primitive_of_type, type_of_url}
use Rattle.key_msgs.specs.Reading.{key_of}
use Rattle.key_msgs.specs.declared.key.KeyKind.{KeyKind}
use Rattle.key_msgs.specs.declared.primitive.Primitive.{Primitive}
use Rattle.key_msgs.specs.declared.rule.Rule.{Rule}
use Rattle.keyset_model.specs.Keyset.{is_enabled}
use Rattle.keyset_model.specs.declared.record.Record.{Record}
use Rattle.managers.proofs.ReadingLemmas.{read_of_type, type_of_url-own}
use Rattle.managers.specs.Laws.{IsFor}
use Rattle.managers.specs.Schemes.{Scheme, key_under, type_under}
use Rattle.managers.specs.Standard.{standard_table}
use Rattle.managers.specs.Table.{scheme_at}
use Rattle.tinkey_session.proofs.Options.{clash, map_some, ok_there}
use Rattle.managers.proofs.StandardLemmas.{has_scheme, is_served}
use Rattle.tinkey_session.proofs.StandardLemmas.{scheme_known, url_known}
use Rattle.tinkey_session.specs.Laws.{IsKeyFor, IsUsable, SoundIsUsable}
use Rattle.wrapped_prims.proofs.OpenLemmas.{none_here}
use Rattle.wrapped_prims.specs.Fitness.{Unfit, fault_of_record, first_of_three, key_of_record, or_later, prefix_fault, read_key, reading_of, unfit_from}

-- ---- the key of a record

-- a manager of the primitive reads the record's value as this key
pub record HasKey (primitive : Primitive) (r : Record) (key : KeyKind) : Type 0 where
  pub scheme : Scheme
  pub at : scheme_at standard_table primitive r.url ≡ Some scheme
  pub read : key_under scheme r.value ≡ Ok key

read_there : (primitive : Primitive) (r : Record) (scheme : Scheme) (reading : Result KeyKind Rule) (key : KeyKind) → scheme_at standard_table primitive r.url ≡ Some scheme
    → key_under scheme r.value ≡ reading → read_key (Some reading) ≡ Some key → HasKey primitive r key
read_there primitive r scheme (Ok k) key at read e = record { scheme = scheme; at = at; read = read ∙ ap Ok (same_Some _ _ e) }
read_there primitive r scheme (Err rule) key at read e = clash e

has_key : (primitive : Primitive) (r : Record) (key : KeyKind) → key_of_record standard_table primitive r ≡ Some key → HasKey primitive r key
has_key primitive r key e = by (scheme_at standard_table primitive r.url) refl e
  where
    by : (o : Option Scheme) → scheme_at standard_table primitive r.url ≡ o → read_key (option_map (λ scheme. key_under scheme r.value) o) ≡ Some key → HasKey primitive r key
    by None at f = clash f
    by (Some scheme) at f = read_there primitive r scheme _ key at refl f

reading-has : (primitive : Primitive) (r : Record) (key : KeyKind) → HasKey primitive r key → reading_of standard_table primitive r ≡ Some (Ok key)
reading-has primitive r key has = ap (option_map (λ scheme. key_under scheme r.value)) has.at ∙ ap Some has.read

-- it is a valid key of the primitive
pub valid_key : (primitive : Primitive) (r : Record) (key : KeyKind) → key_of_record standard_table primitive r ≡ Some key → IsFor primitive key
valid_key primitive r key e =
    let has = has_key primitive r key e in
    let own = read_of_type (type_under has.scheme) r.value key has.read in
    (ap primitive_of_type own.0 ∙ (scheme_known primitive r.url has.scheme has.at).1, own.1)

-- ---- the key by URL and rules

key_has : (primitive : Primitive) (r : Record) (key : KeyKind) → HasKey primitive r key → IsKeyFor primitive r
key_has primitive r key has =
    let known = scheme_known primitive r.url has.scheme has.at in
    let type : type_of_url r.url ≡ Some (type_under has.scheme) = ap type_of_url known.0 ∙ type_of_url-own (type_under has.scheme) in
    record {
      named = ap (option_map primitive_of_type) type ∙ ap Some known.1;
      valid = ap (option_and_then (λ t. result_err (key_of t r.value))) type ∙ ap result_err has.read;
    }

has_keyed : (primitive : Primitive) (r : Record) → is_served primitive ≡ true → IsKeyFor primitive r → (key : KeyKind) × HasKey primitive r key
has_keyed primitive r served is =
    let type = map_some primitive_of_type (type_of_url r.url) primitive is.named in
    let own = has_scheme primitive type.0 served type.2 in
    let read = ok_there (key_of type.0 r.value) (sym (ap (option_and_then (λ t. result_err (key_of t r.value))) type.1) ∙ is.valid) in (
      read.0,
      record {
        scheme = own.scheme;
        at = ap (scheme_at standard_table primitive) (sym (url_known r.url type.0 type.1)) ∙ own.at;
        read = ap (λ t. key_of t r.value) own.under ∙ read.1;
      },
    )

-- ---- records that can serve

pub fit_reading : (reading : Option (Result KeyKind Rule)) (later : Option Unfit) → first_of_three reading later ≡ None → (key : KeyKind) × (reading ≡ Some (Ok key))
fit_reading None later e = clash (sym e)
fit_reading (Some (Err rule)) later e = clash (sym e)
fit_reading (Some (Ok key)) later e = (key, refl)

fit_usable : (primitive : Primitive) (r : Record) → fault_of_record standard_table primitive r ≡ None → IsUsable primitive r
fit_usable primitive r e enabled =
    let fit = fit_reading (reading_of standard_table primitive r) (prefix_fault primitive r) (sym (ap (λ b. cond b (first_of_three (reading_of standard_table primitive r) (prefix_fault primitive r)) None) enabled) ∙ e) in
    key_has primitive r fit.0 (has_key primitive r fit.0 (ap read_key fit.1))

usable_fit : (primitive : Primitive) (r : Record) → is_served primitive ≡ true → prefix_fault primitive r ≡ None → IsUsable primitive r → fault_of_record standard_table primitive r ≡ None
usable_fit primitive r served free usable = by (is_enabled r) refl
  where
    by : (b : Bool) → is_enabled r ≡ b → cond b (first_of_three (reading_of standard_table primitive r) (prefix_fault primitive r)) None ≡ None
    by false e = refl
    by true e =
        let has = has_keyed primitive r served (usable e) in
        ap (λ o. first_of_three o (prefix_fault primitive r)) (reading-has primitive r has.0 has.1) ∙ free

each_usable : (primitive : Primitive) (place : ℕ) (rs : List Record) → unfit_from place standard_table primitive rs ≡ None → AllByRecursion (IsUsable primitive) rs
each_usable primitive place [] e = tt
each_usable primitive place (r ∷ rs) e =
    let parts = none_here place _ _ e in
    (fit_usable primitive r parts.0, each_usable primitive (place + 1) rs parts.1)

each_fit : (primitive : Primitive) → is_served primitive ≡ true → ((r : Record) → prefix_fault primitive r ≡ None)
    → (place : ℕ) (rs : List Record) → AllByRecursion (IsUsable primitive) rs → unfit_from place standard_table primitive rs ≡ None
each_fit primitive served free place [] h = refl
each_fit primitive served free place (r ∷ rs) h =
    ap (λ o. or_later place o (unfit_from (place + 1) standard_table primitive rs)) (usable_fit primitive r served (free r) h.0)
    ∙ each_fit primitive served free (place + 1) rs h.1

pub sound_is_usable : (primitive : Primitive) → is_served primitive ≡ true → ((r : Record) → prefix_fault primitive r ≡ None) → SoundIsUsable primitive
sound_is_usable primitive served free keys k = (
  λ e. record { keyset = k; usable = each_usable primitive 0 keys.records e },
  λ s. each_fit primitive served free 0 keys.records s.usable,
)
