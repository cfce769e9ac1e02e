-- The keys for streams of a keyset.
--
--   stream_key_of   the key of a record, or why it gives none
--   stream_unfit    the first ENABLED record that gives no key for streams, by its place, and why
--   stream_keys     the keys of the ENABLED records, in their order
--   primary_key     that of the primary record
--   largest_of      the size of the largest segment under some keys
use Rattle.std.specs.Prelude.{◌≡◌, ℕ, ◌==◌, List, fold, Option, Some, None, slice_get, option_map, Result, Ok, Err, if◌then◌else◌}
use Rattle.std.specs.Ordering.{nat_cmp, ord_max}
use Rattle.std.specs.List.{filter_map, enumerate_from}
use Rattle.keyset_model.specs.Keyset.{Keys, primary_of}
use Rattle.keyset_model.specs.declared.record.Record.{Record}
use Rattle.key_msgs.specs.KeyTypes.{type_of_url}
use Rattle.key_msgs.specs.Reading.{key_of}
use Rattle.key_msgs.specs.declared.key.KeyKind.{KeyKind}
use Rattle.key_msgs.specs.declared.key.KeyKind.TheVariants as kinds
use Rattle.key_msgs.specs.declared.key_type.KeyType.{KeyType}
use Rattle.key_msgs.specs.declared.key_type.KeyType.TheVariants as types
use Rattle.key_msgs.specs.declared.rule.Rule.{Rule}
use Rattle.segment_stream.specs.declared.key.StreamKey.{StreamKey}
use Rattle.segment_stream.specs.declared.key.SegmentScheme.TheVariants as schemes
use Rattle.segment_stream.specs.declared.reading.StreamFault.{StreamFault}
use Rattle.segment_stream.specs.declared.reading.StreamFault.TheVariants as why
use Rattle.segment_stream.specs.declared.keys.StreamKeysFault.{StreamKeysFault}
use Rattle.segment_stream.specs.declared.keys.StreamKeysFault.TheVariants as faults

-- why a record gives no key: its type URL is none of the two, or its message breaks this rule first
pub data StreamUnfit : Type 0 where
  not_stream : StreamUnfit
  bad_key : (rule : Rule) → StreamUnfit

-- a key of streams, where the key is of such a kind
abbrev pub of_kind : KeyKind → Result StreamKey StreamUnfit
of_kind (kinds.GcmStream key segment derived hash) =
    Ok (record {
      value = key;
      segment = segment;
      derived = derived;
      hash = hash;
      scheme = schemes.Gcm;
    })
of_kind (kinds.CtrStream key segment derived hash mac_hash tag_size) =
    Ok (record {
      value = key;
      segment = segment;
      derived = derived;
      hash = hash;
      scheme = schemes.CtrHmac mac_hash tag_size;
    })
of_kind _ = Err not_stream

-- the same of what a value reads as
abbrev pub of_message : Result KeyKind Rule → Result StreamKey StreamUnfit
of_message (Ok kind) = of_kind kind
of_message (Err rule) = Err (bad_key rule)

-- the same of a value under its type
abbrev pub of_type : Option KeyType → List ℕ → Result StreamKey StreamUnfit
of_type (Some types.GcmStream) value = of_message (key_of types.GcmStream value)
of_type (Some types.CtrStream) value = of_message (key_of types.CtrStream value)
of_type _ value = Err not_stream

-- the key of a record, by its type URL and its message
unfoldable pub stream_key_of : Record → Result StreamKey StreamUnfit
stream_key_of r = of_type (type_of_url r.url) r.value

-- why there is no key of streams
abbrev pub refused : Result StreamKey StreamUnfit → Option StreamUnfit
refused (Ok key) = None
refused (Err why) = Some why

-- the key of streams, where there is one
abbrev pub given : Result StreamKey StreamUnfit → Option StreamKey
given (Ok key) = Some key
given (Err why) = None

-- why an ENABLED record can't serve, and the key of one that can
abbrev pub unfit_record : Record → Option StreamUnfit
unfit_record r = if r.status == 1 then refused (stream_key_of r) else None

-- the key of streams of an ENABLED record
abbrev pub key_in : Record → Option StreamKey
key_in r = if r.status == 1 then given (stream_key_of r) else None

-- each record that can't serve, by its place, of records the first of which has this place
abbrev pub unfit_records : ℕ → List Record → List (ℕ × StreamUnfit)
unfit_records place records =
    filter_map (λ x. option_map (λ why. (x.0, why)) (unfit_record x.1))
    (enumerate_from place records)

-- the first ENABLED record that gives no key of streams, by its place, and why; none where each gives one
unfoldable pub stream_unfit : Keys → Option (ℕ × StreamUnfit)
stream_unfit keys = slice_get (unfit_records 0 keys.records) 0

-- the keys of streams of the ENABLED records, in their order
unfoldable pub stream_keys : Keys → List StreamKey
stream_keys keys = filter_map key_in keys.records

-- the key of the primary record
abbrev pub given_by : Option Record → Option StreamKey
given_by None = None
given_by (Some r) = given (stream_key_of r)

-- the key of streams of the primary record, where it gives one
unfoldable pub primary_key : Keys → Option StreamKey
primary_key keys = given_by (primary_of keys)

-- the size of the largest segment, in bytes; 0 where there is no key
abbrev pub largest_of : List StreamKey → ℕ
largest_of keys = fold (λ most key. ord_max nat_cmp most key.segment) 0 keys

-- the value is what the definition gives, or why there is none; of want of memory nothing is said
abbrev pub GivesStreamKey : Result StreamKey StreamFault → Result StreamKey StreamUnfit → Type 0
GivesStreamKey (Ok key) read = read ≡ Ok key
GivesStreamKey (Err why.NotStream) read = read ≡ Err not_stream
GivesStreamKey (Err (why.BadKey rule)) read = read ≡ Err (bad_key rule)
GivesStreamKey (Err why.NoMemory) read = Unit {0}

-- the fault names the first record that can't serve, and why
abbrev pub IsUnfit : StreamKeysFault → Option (ℕ × StreamUnfit) → Type 0
IsUnfit (faults.NotStream place) found = found ≡ Some (place, not_stream)
IsUnfit (faults.BadKey place rule) found = found ≡ Some (place, bad_key rule)
IsUnfit faults.NoMemory found = Unit {0}

-- the fault of the record of this place
abbrev pub at_place : ℕ → StreamFault → StreamKeysFault
at_place i why.NotStream = faults.NotStream i
at_place i (why.BadKey rule) = faults.BadKey i rule
at_place i why.NoMemory = faults.NoMemory
