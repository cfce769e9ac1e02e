-- Under which keys of a keyset some bytes stand, by the output prefix in front of them (Sealers); under which one
-- a stream is opened (Opening of segment_stream); and key-of, as a plan. Of a text, a tag and an envelope nothing is
-- opened, so a key of any status is told, and no key is needed.
--
--   key_of_lines    what is told of the records that are named, and of those without a prefix
--   front_size, front_in, front_of   how many bytes are looked at, and where the prefix stands among them
--   stream_record   the record under whose key a stream is opened
use Rattle.std.specs.Prelude.{ℕ, ◌+◌, Bool, false, List, [], ◌++◌, find, take, drop, Option, Some, None, option_map, if◌then◌else◌, codes}
use Rattle.std.specs.List.{flat_map, list_any}
use Rattle.std.specs.Fmt.{decimal}
use Rattle.keyset_model.specs.Keyset.{Keys}
use Rattle.keyset_model.specs.Listing.{escaped, prefix_text, status_text}
use Rattle.keyset_model.specs.declared.record.Record.{Record}
use Rattle.managers.specs.Table.{Table}
use Rattle.segment_stream.specs.KeysModel.{KeysForStreams}
use Rattle.segment_stream.specs.Opening.{fits}
use Rattle.segment_stream.specs.Segments.{cipher_of}
use Rattle.segment_stream.specs.StreamKeys.{key_in, largest_of}
use Rattle.segment_stream.specs.declared.key.StreamKey.{StreamKey}
use Rattle.tinkey_plans.specs.declared.status.Status.TheVariants as status
use Rattle.tinkey_plans.specs.Locks.{loads_locked}
use Rattle.tinkey_plans.specs.Plan.{Plan, allocates, ends, reads_front}
use Rattle.tinkey_plans.specs.Sealers.{may_have_made, named, raw_count}
use Rattle.tinkey_plans.specs.Steps.{works_out}
use Rattle.tinkey_plans.specs.Streaming.{takes_stream_keys}
use Rattle.tinkey_words.specs.declared.words.rows.Format.{Format}
use Rattle.tinkey_words.specs.declared.words.rows.SealedForm.{SealedForm}
use Rattle.tinkey_words.specs.declared.words.rows.SealedForm.TheVariants as sealed
use Rattle.tinkey_words.specs.Words.{Lock}

-- ---- what is told

-- the line of a record, in the spelling that a listing has
unfoldable pub key_line : Record → List ℕ
key_line r =
    codes "key_id: " ++ decimal r.id ++
    codes " status: " ++ status_text r.status ++
    codes " output_prefix_type: " ++ prefix_text r.prefix ++
    codes " type_url: \"" ++ escaped r.url ++
    codes "\"\n"

-- a line for each record whose output prefix this is, and one that counts those with none
unfoldable pub key_of_lines : Keys → (front : List ℕ) → List ℕ
key_of_lines keys front =
    flat_map key_line (named keys front) ++
    codes "raw_keys: " ++ decimal (raw_count keys) ++ codes "\n"

-- those lines, where some record may have made the bytes
abbrev pub key_of_answer : Keys → (front : List ℕ) → Option (List ℕ)
key_of_answer keys front =
    if list_any (may_have_made front) keys.records then Some (key_of_lines keys front) else None

-- ---- the front

-- how many bytes are looked at for a prefix: the prefix itself; and of an envelope, the length of its sealed data
-- key before it. A stream has none.
abbrev pub front_size : SealedForm → ℕ
front_size sealed.Text = 5
front_size sealed.Envelope = 9
front_size sealed.Stream = 0

-- what stands among these bytes where the prefix does
abbrev pub front_in : SealedForm → List ℕ → List ℕ
front_in sealed.Text bytes = bytes
front_in sealed.Envelope bytes = drop 4 bytes
front_in sealed.Stream bytes = []

-- what stands there in a text, a tag or an envelope
abbrev pub front_of : SealedForm → (bytes : List ℕ) → List ℕ
front_of kind bytes = front_in kind (take (front_size kind) bytes)

-- ---- the key of a stream

-- the first segment of a stream, with these associated data and this front, opens in its place under this key
abbrev pub key_fits : (ad front : List ℕ) → Option StreamKey → Bool
key_fits ad front None = false
key_fits ad front (Some key) = fits (cipher_of ad key) front

-- the same under the key of a record that is ENABLED
abbrev pub opens_first : (ad front : List ℕ) → Record → Bool
opens_first ad front r = key_fits ad front (key_in r)

-- the first such record
abbrev pub stream_record : Keys → (ad front : List ℕ) → Option Record
stream_record keys ad front = find (opens_first ad front) keys.records

-- its line
abbrev pub stream_record_line : Keys → (ad front : List ℕ) → Option (List ℕ)
stream_record_line keys ad front = option_map key_line (stream_record keys ad front)

-- how many bytes are looked at: the largest first segment under these keys, and one byte more, by which it is
-- known whether that segment is the last one
abbrev pub stream_front_size : List StreamKey → ℕ
stream_front_size keys = largest_of keys + 1

-- ---- the plan

-- the lines go on, or no key of the keyset can have made the bytes
abbrev pub with_lines : Option (List ℕ) → (List ℕ → Plan) → Plan
with_lines None next = ends status.NoKeyOf tt
with_lines (Some lines) next = works_out lines next

-- the lines of the keys of this keyset under whose prefix the input stands
abbrev pub tells_prefix : SealedForm → Keys → (List ℕ → Plan) → Plan
tells_prefix kind keys next =
    reads_front (front_size kind) (λ bytes.
    with_lines (key_of_answer keys (front_in kind bytes)) next)

-- the line of the record under whose key the input is opened as a stream, where these are the keyset's keys for
-- streams
abbrev pub tells_front : (ad : List ℕ) → Keys → (List ℕ → Plan) → KeysForStreams → Plan
tells_front ad keys next those =
    allocates (reads_front (stream_front_size those.keys) (λ front.
    with_lines (stream_record_line keys ad front) next))

-- the same of a keyset that gives such keys; any other is refused as it is for opening
abbrev pub tells_stream : (ad : List ℕ) → Keys → (List ℕ → Plan) → Plan
tells_stream ad keys next = takes_stream_keys keys (tells_front ad keys next)

-- what is told of the input, whatever it is; a stream has these associated data
abbrev pub tells_keys : SealedForm → (ad : List ℕ) → Keys → (List ℕ → Plan) → Plan
tells_keys sealed.Text ad keys next = tells_prefix sealed.Text keys next
tells_keys sealed.Envelope ad keys next = tells_prefix sealed.Envelope keys next
tells_keys sealed.Stream ad keys next = tells_stream ad keys next

-- key-of: those of the keyset in a file
abbrev pub key_of_output : Table → Lock → List ℕ → Format → SealedForm → (ad : List ℕ) → (List ℕ → Plan) → Plan
key_of_output table lock name form kind ad next =
    loads_locked table lock name form (λ keys. tells_keys kind ad keys next)
