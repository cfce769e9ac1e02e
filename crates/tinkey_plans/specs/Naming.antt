-- What key-of tells of bytes that the primary key of a keyset made, and of a stream; and what is told of bytes that no
-- key opens.
--
--   NamesPrefix   the records that are named are exactly those with this output prefix
--   KeyOfTells    so it is of what is sealed, tagged, or sealed in an envelope; and where nothing is told
--   OpensUnder    opening a stream goes on under the key of this record
--   KeyOfStreamTells   of a stream that record is told, and where there is none, no key
--   SealersAreNamed   the record that is told of bytes that no key opens is one that key-of names
use Rattle.std.specs.Prelude.{◌≡◌, ◌↔◌, ℕ, true, List, [], ◌∷◌, ◌++◌, take, Option, Some, None, Ok}
use Rattle.std.specs.List.{Contains, filter_map}
use Rattle.key_msgs.specs.Templates.{Row}
use Rattle.keyset_model.specs.Keyset.{Keys, is_enabled, primary_of}
use Rattle.keyset_model.specs.declared.record.Record.{Record}
use Rattle.managers.specs.Schemes.{Scheme}
use Rattle.managers.specs.Table.{Table}
use Rattle.envelopes.specs.Enveloped.{envelope_of}
use Rattle.segment_stream.specs.Opening.{choose, chosen, decides, failed, no_key}
use Rattle.segment_stream.specs.Segments.{cipher_of, ciphers_of}
use Rattle.segment_stream.specs.StreamKeys.{key_in, stream_keys}
use Rattle.segment_stream.specs.declared.key.StreamKey.{StreamKey}
use Rattle.tinkey_plans.specs.declared.status.Status.TheVariants as status
use Rattle.tinkey_plans.specs.KeyOf.{front_of, key_of_answer, stream_front_size, stream_record, tells_stream}
use Rattle.tinkey_plans.specs.Plan.{Told, answer, writes}
use Rattle.tinkey_plans.specs.Sealers.{named, raw_count, record_named, sealer_under, told_none, told_record}
use Rattle.tinkey_plans.specs.Streaming.{opens_stream, takes_stream_keys}
use Rattle.tinkey_words.specs.declared.words.rows.SealedForm.{SealedForm}
use Rattle.tinkey_words.specs.declared.words.rows.SealedForm.TheVariants as forms
use Rattle.wrapped_prims.specs.Answers.{Sealed, dseal_answer, seal_answer, tag_answer}
use Rattle.wrapped_prims.specs.Candidates.{prefix_of}

-- Under any keyset, the records that are named for these bytes, whatever their status, are exactly those with
-- this output prefix.
abbrev pub NamesPrefix : SealedForm → (prefix bytes : List ℕ) → Type 0
NamesPrefix kind prefix bytes = (later : Keys) (r : Record)
    → Contains (named later (front_of kind bytes)) r
    ↔ (Contains later.records r × (prefix_of r ≡ Some prefix))

-- the primary record of the keyset has this output prefix
pub record IsPrimaryPrefix (keys : Keys) (prefix : List ℕ) : Type 0 where
  pub r : Record
  pub primary : primary_of keys ≡ Some r
  pub has : prefix_of r ≡ Some prefix

-- So it is of the bytes that such a primary record made. Records with one id and one output prefix type have
-- one prefix. And nothing is told exactly where no record is named and none is RAW.
pub record KeyOfTells : Type 0 where
  pub seal : (table : Table) (keys : Keys) (prefix plain ad random : List ℕ) (sealed : Sealed)
      → IsPrimaryPrefix keys prefix → seal_answer keys table plain ad random ≡ Some sealed
      → NamesPrefix forms.Text prefix sealed.bytes
  pub dseal : (table : Table) (keys : Keys) (prefix plain ad bytes : List ℕ)
      → IsPrimaryPrefix keys prefix → dseal_answer keys table plain ad ≡ Some bytes
      → NamesPrefix forms.Text prefix bytes
  pub tag : (table : Table) (keys : Keys) (prefix body bytes : List ℕ)
      → IsPrimaryPrefix keys prefix → tag_answer keys table body ≡ Some bytes
      → NamesPrefix forms.Text prefix bytes
  pub envelope : (table : Table) (keys : Keys) (scheme : Scheme) (row : Row)
      (prefix plain ad random bytes left : List ℕ) → IsPrimaryPrefix keys prefix
      → envelope_of keys table scheme row plain ad random
      ≡ Some (record { answer = Ok bytes; left = left })
      → NamesPrefix forms.Envelope prefix bytes
  pub alike : (r other : Record) → r.id ≡ other.id → r.prefix ≡ other.prefix
      → prefix_of r ≡ prefix_of other
  pub untold : (keys : Keys) (front : List ℕ)
      → (key_of_answer keys front ≡ None) ↔ ((named keys front ≡ []) × (raw_count keys ≡ 0))

-- ---- streams

-- the bytes of a stream at which key-of looks
abbrev pub stream_front : Keys → (bytes : List ℕ) → List ℕ
stream_front keys bytes = take (stream_front_size (stream_keys keys)) bytes

-- Opening these bytes as a stream goes on under the key of this record: that is the key chosen among those of the
-- keyset; and among those of the records before it none would be.
pub record OpensUnder (keys : Keys) (ad bytes : List ℕ) (r : Record) : Type 0 where
  pub before : List Record
  pub behind : List Record
  pub are : keys.records ≡ before ++ r ∷ behind
  pub key : StreamKey
  pub has : key_in r ≡ Some key
  pub passed : choose (ciphers_of ad (filter_map key_in before)) bytes true ≡ no_key
  pub goes_on : choose (ciphers_of ad (stream_keys keys)) bytes true ≡ chosen (cipher_of ad key)

-- Of a stream the record is told under whose key it is opened; and none is exactly where the first segment is
-- refused, by the definition of opening, and by the answers of the two commands over a keyset.
pub record KeyOfStreamTells : Type 0 where
  pub names : (keys : Keys) (ad bytes : List ℕ) (r : Record)
      → (stream_record keys ad (stream_front keys bytes) ≡ Some r) ↔ OpensUnder keys ad bytes r
  pub untold : (keys : Keys) (ad bytes : List ℕ)
      → (stream_record keys ad (stream_front keys bytes) ≡ None)
      ↔ (decides (ciphers_of ad (stream_keys keys)) bytes true ≡ Some (failed 0))
  pub refused : (keys : Keys) (ad : List ℕ) (told : Told)
      → ((answer (tells_stream ad keys writes) told).status ≡ status.NoKeyOf)
      ↔ ((answer (takes_stream_keys keys (λ those. opens_stream those ad None)) told).status
      ≡ status.StreamFailed 0)

-- ---- bytes that no key opens

-- A record is one of those that key-of names for this front; and it is ENABLED if any of them is.
pub record IsOneNamed (keys : Keys) (front : List ℕ) (r : Record) : Type 0 where
  pub among : Contains (named keys front) r
  pub enabled : (other : Record) → Contains (named keys front) other → is_enabled other ≡ true
      → is_enabled r ≡ true

-- Of bytes that no key opens such a record is told, by its id and its status; where key-of names none, it is told
-- that there is none.
pub record SealersAreNamed : Type 0 where
  pub one : (keys : Keys) (front : List ℕ) (r : Record) → record_named keys front ≡ Some r
      → IsOneNamed keys front r
  pub told : (keys : Keys) (front : List ℕ) (r : Record) → record_named keys front ≡ Some r
      → sealer_under keys front ≡ told_record r
  pub none : (keys : Keys) (front : List ℕ)
      → (record_named keys front ≡ None) ↔ (named keys front ≡ [])
  pub untold : (keys : Keys) (front : List ℕ) → named keys front ≡ []
      → sealer_under keys front ≡ told_none keys
