-- The keys for streams that a keyset gives have sound sizes.
use Rattle.std.proofs.Common.{◌≡◌, ap, refl, subst, ℕ, Bool, true, false, List, [], ◌∷◌, Option, Some, None, Result, Ok, Err}
use Rattle.std.specs.Prelude.{◌==◌, if◌then◌else◌}
use Rattle.std.specs.List.{AllByRecursion, filter_map}
use Rattle.std.proofs.lemmas.Option.{same_Some}
use Rattle.key_msgs.specs.KeyTypes.{type_of_url}
use Rattle.key_msgs.specs.Keys.{IsValid}
use Rattle.key_msgs.specs.Reading.{key_of}
use Rattle.key_msgs.specs.declared.key.KeyKind.{KeyKind}
use Rattle.key_msgs.specs.declared.key.KeyKind.TheVariants as kinds
use Rattle.key_msgs.specs.declared.key_type.KeyType.{KeyType}
use Rattle.key_msgs.specs.declared.key_type.KeyType.TheVariants as types
use Rattle.key_msgs.specs.declared.rule.Rule.{Rule}
use Rattle.keyset_model.specs.declared.record.Record.{Record}
use Rattle.managers.proofs.ReadingLemmas.{read_of_type}
use Rattle.segment_stream.proofs.KeyLemmas.{ctr_stream-sound, gcm_stream-sound}
use Rattle.segment_stream.specs.Segments.{IsSound}
use Rattle.segment_stream.specs.StreamKeys.{StreamUnfit, given, key_in, of_kind, of_message, of_type, stream_key_of}
use Rattle.segment_stream.specs.declared.key.StreamKey.{StreamKey}
use Rattle.tinkey_session.proofs.Options.{clash}

pub ok_same : {A E : Type 0} (x y : A) → ◌≡◌ {A = Result A E} (Ok x) (Ok y) → x ≡ y
ok_same x y e = cc

sound_kind : (kind : KeyKind) (key : StreamKey) → IsValid kind → of_kind kind ≡ Ok key → IsSound key
sound_kind (kinds.GcmStream value segment derived hash) key valid e = subst IsSound (ok_same _ _ e) (gcm_stream-sound value segment derived hash valid)
sound_kind (kinds.CtrStream value segment derived hash mac_hash tag_size) key valid e = subst IsSound (ok_same _ _ e) (ctr_stream-sound value segment derived hash mac_hash tag_size valid)
sound_kind _ key valid e = absurd (cc)

-- the kind of key that a message of a key for streams is
pub message_read : (read : Result KeyKind Rule) (key : StreamKey) → of_message read ≡ Ok key → (kind : KeyKind) × (read ≡ Ok kind) × (of_kind kind ≡ Ok key)
message_read (Ok kind) key e = (kind, refl, e)
message_read (Err rule) key e = absurd (cc)

sound_message : (type : KeyType) (value : List ℕ) (key : StreamKey) → of_message (key_of type value) ≡ Ok key → IsSound key
sound_message type value key e =
    let m = message_read (key_of type value) key e in
    sound_kind m.0 key (read_of_type type value m.0 m.1).1 m.2

pub sound_key : (r : Record) (key : StreamKey) → stream_key_of r ≡ Ok key → IsSound key
unfolding stream_key_of
sound_key r key e = by_type (type_of_url r.url) e
  where
    by_type : (found : Option KeyType) → of_type found r.value ≡ Ok key → IsSound key
    by_type (Some types.GcmStream) e = sound_message types.GcmStream r.value key e
    by_type (Some types.CtrStream) e = sound_message types.CtrStream r.value key e
    by_type _ e = absurd (cc)

pub given_in : (b : Bool) (read : Result StreamKey StreamUnfit) (key : StreamKey) → (if b then given read else None) ≡ Some key → read ≡ Ok key
given_in true (Ok k) key e = ap Ok (same_Some _ _ e)
given_in true (Err why) key e = clash e
given_in false read key e = clash e

pub sound_keys : (rs : List Record) → AllByRecursion IsSound (filter_map key_in rs)
sound_keys [] = tt
sound_keys (r ∷ rs) = by (key_in r) refl (sound_keys rs)
  where
    by : (o : Option StreamKey) → key_in r ≡ o → AllByRecursion IsSound (filter_map key_in rs) → AllByRecursion IsSound (filter_map key_in (r ∷ rs))
    by None is rest = rw is rest
    by (Some key) is rest = rw is (sound_key r key (given_in (r.status == 1) (stream_key_of r) key is), rest)
