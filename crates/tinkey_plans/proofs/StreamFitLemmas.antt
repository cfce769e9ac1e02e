-- A keyset whose ENABLED records all give a key for streams has its keys for streams.
use Rattle.std.proofs.Common.{arith, ◌≡◌, ◌∙◌, refl, sym, ap, subst, ℕ, ◌+◌, ◌==◌, Bool, true, false, List, [], ◌∷◌, Option, Some, None, Result, Ok, Err}
use Rattle.std.specs.Prelude.{IsSome, find, if◌then◌else◌, option_map, slice_get}
use Rattle.std.proofs.lemmas.Bool.Decides.{nat_tests}
use Rattle.std.proofs.lemmas.Option.{same_Some}
use Rattle.keyset_model.specs.Keyset.{Keys, fault_of, is_primary}
use Rattle.keyset_model.specs.declared.record.Record.{Record}
use Rattle.keyset_model.proofs.PrimaryLemmas.{primary_enabled, primary_there}
use Rattle.segment_stream.specs.KeysModel.{KeysForStreams}
use Rattle.segment_stream.specs.StreamKeys.{StreamUnfit, given, given_by, primary_key, refused, stream_key_of, stream_keys, stream_unfit, unfit_record, unfit_records}
use Rattle.segment_stream.specs.declared.key.StreamKey.{StreamKey}
use Rattle.tinkey_session.proofs.Options.{clash}
use Rattle.tinkey_plans.specs.Streaming.{keys_for}

unfit_next : (place : ℕ) (r : Record) (rs : List Record) → unfit_record r ≡ None → slice_get (unfit_records place (r ∷ rs)) 0 ≡ slice_get (unfit_records (place + 1) rs) 0
unfit_next place r rs none = rw none refl

unfit_first : (place : ℕ) (r : Record) (rs : List Record) (why : StreamUnfit) → unfit_record r ≡ Some why → slice_get (unfit_records place (r ∷ rs)) 0 ≡ Some (place, why)
unfit_first place r rs why is = rw is refl

pub none_unfit : (place : ℕ) (r : Record) (rs : List Record) → slice_get (unfit_records place (r ∷ rs)) 0 ≡ None → (unfit_record r ≡ None) × (slice_get (unfit_records (place + 1) rs) 0 ≡ None)
none_unfit place r rs e = by (unfit_record r) refl
  where
    by : (o : Option StreamUnfit) → unfit_record r ≡ o → (unfit_record r ≡ None) × (slice_get (unfit_records (place + 1) rs) 0 ≡ None)
    by None is = (is, sym (unfit_next place r rs is) ∙ e)
    by (Some why) is = clash (sym e ∙ unfit_first place r rs why is)

-- a record that is found is none of those that can't serve
found_by : (b : Bool) (place : ℕ) (p : Record → Bool) (x : Record) (rs : List Record) (r : Record) → p x ≡ b → slice_get (unfit_records place (x ∷ rs)) 0 ≡ None → find p (x ∷ rs) ≡ Some r
    → (slice_get (unfit_records (place + 1) rs) 0 ≡ None → find p rs ≡ Some r → unfit_record r ≡ None) → unfit_record r ≡ None
found_by true place p x rs r test fit found later =
    let same : Some x ≡ Some r = rw test at found in
    subst (λ (y : Record). unfit_record y ≡ None) (same_Some _ _ same) (none_unfit place x rs fit).0
found_by false place p x rs r test fit found later = later (none_unfit place x rs fit).1 (rw test at found)

found_gives : (place : ℕ) (p : Record → Bool) (rs : List Record) (r : Record) → slice_get (unfit_records place rs) 0 ≡ None → find p rs ≡ Some r → unfit_record r ≡ None
found_gives place p [] r fit found = absurd (cc)
found_gives place p (x ∷ rs) r fit found = found_by (p x) place p x rs r refl fit found (λ none later. found_gives (place + 1) p rs r none later)

key_gives : (read : Result StreamKey StreamUnfit) → refused read ≡ None → (key : StreamKey) × (given read ≡ Some key)
key_gives (Ok key) e = (key, refl)
key_gives (Err why) e = clash (sym e)

abbrev as_keys : Keys → StreamKey → KeysForStreams
as_keys keys primary = record { primary = primary; keys = stream_keys keys }

keys_there : (keys : Keys) (found : Option StreamKey) (key : StreamKey) → found ≡ Some key → IsSome (option_map (as_keys keys) found)
keys_there keys found key is = rw is refl

pub stream_there : (keys : Keys) → fault_of keys ≡ None → stream_unfit keys ≡ None → IsSome (keys_for keys)
unfolding stream_unfit primary_key
stream_there keys faultless fit =
    let primary = primary_there keys faultless in
    let r = primary.0 in
    let enabled : r.status ≡ 1 = primary_enabled keys r primary.1 in
    let on' : (r.status == 1) ≡ true = grind (arith, nat_tests, enabled) in
    let none = found_gives 0 (is_primary keys.primary) keys.records r fit primary.1 in
    let key = key_gives (stream_key_of r) (sym (ap (λ (b : Bool). if b then refused (stream_key_of r) else None) on') ∙ none) in
    keys_there keys (primary_key keys) key.0 (ap given_by primary.1 ∙ key.1)
