-- Streams sealed and opened by the keys of a keyset, as steps of plans. What a stream is sealed and opened
-- to is said apart from plans, in Sealing and Opening of segment_stream.
use Rattle.std.specs.Prelude.{ℕ, ◌+◌, List, Option, Some, None}
use Rattle.std.specs.Option.{option_map}
use Rattle.keyset_model.specs.Keyset.{Keys}
use Rattle.keyset_model.specs.declared.keyset.KeysetRefusal.TheVariants as faults
use Rattle.managers.specs.Table.{Table}
use Rattle.segment_stream.specs.KeysModel.{KeysForStreams}
use Rattle.segment_stream.specs.Pumping.{Part, sealing, opening_any, resealing}
use Rattle.segment_stream.specs.Sealing.{header_of}
use Rattle.segment_stream.specs.Segments.{cipher_of, ciphers_of}
use Rattle.segment_stream.specs.StreamKeys.{StreamUnfit, not_stream, bad_key, stream_unfit, primary_key, stream_keys}
use Rattle.segment_stream.specs.declared.keys.StreamKeysFault.{StreamKeysFault}
use Rattle.segment_stream.specs.declared.keys.StreamKeysFault.TheVariants as key_faults
use Rattle.tinkey_cmds.specs.Draws.{fill}
use Rattle.tinkey_session.specs.declared.reply.Refusal.TheVariants as refused
use Rattle.tinkey_plans.specs.UnfitKeys.{unfit_key}
use Rattle.tinkey_plans.specs.declared.origin.Origin.TheVariants as origins
use Rattle.tinkey_plans.specs.declared.status.Status.{Status}
use Rattle.tinkey_plans.specs.declared.status.Status.TheVariants as status
use Rattle.tinkey_plans.specs.declared.unfit.UnfitKey.{UnfitKey}
use Rattle.tinkey_words.specs.declared.words.rows.Format.{Format}
use Rattle.tinkey_plans.specs.Plan.{Plan, ends, allocates, collects, creates, draws, looks, sealings, pumps}
use Rattle.tinkey_plans.specs.Locks.{loads_locked}
use Rattle.tinkey_plans.specs.Steps.{with_made}
use Rattle.tinkey_words.specs.Words.{Lock}
use Rattle.tinkey_words.specs.declared.words.request.StreamWork.{StreamWork}
use Rattle.tinkey_words.specs.declared.words.request.StreamWork.TheVariants as works

-- the rest goes on, or the record that gives no key for streams is refused, and named so by its place
abbrev pub unless_unfit : (name : ℕ → UnfitKey) → Option (ℕ × StreamUnfit) → Plan → Plan
unless_unfit name None next = next
unless_unfit name (Some (i, not_stream)) next = ends (status.Unfit (refused.NoManager i) (name i)) tt
unless_unfit name (Some (i, bad_key rule)) next = ends (status.Unfit (refused.BadKey i rule) (name i)) tt

-- the keys for streams of a keyset
abbrev pub keys_for : Keys → Option KeysForStreams
keys_for keys =
    option_map (λ primary. record { primary = primary; keys = stream_keys keys }) (primary_key keys)

-- They go on. A keyset without a fault whose records all give one has a primary one, so the refusal never
-- comes (laws::fit_keysets_answer).
abbrev pub with_keys : Option KeysForStreams → (KeysForStreams → Plan) → Plan
with_keys None next = ends (status.Keyset faults.NoPrimary origins.Keyset) tt
with_keys (Some keys) next = next keys

-- the keys for streams of a keyset, which --keyset gives
abbrev pub takes_stream_keys : Keys → (KeysForStreams → Plan) → Plan
takes_stream_keys keys next =
    allocates (unless_unfit (unfit_key origins.Keyset keys) (stream_unfit keys) (with_keys (keys_for keys) next))

-- those of the keyset in a file
abbrev pub loads_stream_keys : Table → Lock → List ℕ → Format → (KeysForStreams → Plan) → Plan
loads_stream_keys table lock name form next =
    loads_locked table lock name form (λ keys. takes_stream_keys keys next)

-- the output of a pass goes to the sink as it comes; or where a new file is named, it is kept in a draft until all of
-- it is there, and becomes that file
abbrev pub passes_to : (out : Option (List ℕ)) → Part → Plan
passes_to None part = pumps part
passes_to (Some name) part = collects part (λ output. creates name output status.OutExists tt)

-- The name of a new file is free, where one is named. It is looked up before a random byte is drawn and a byte of
-- the input taken.
abbrev pub begins_file : (out : Option (List ℕ)) → Plan → Plan
begins_file None next = next
begins_file (Some name) next = allocates (looks name status.OutExists tt next)

-- the input sealed under the primary key, behind a header of random bytes: salt and nonce prefix
abbrev pub seals_stream : KeysForStreams → (ad : List ℕ) → (out : Option (List ℕ)) → Plan
seals_stream keys ad out =
    let cipher = cipher_of ad keys.primary in
    allocates (draws sealings (fill (keys.primary.derived + 7))
    (λ made. with_made made (λ random. passes_to out (sealing cipher (header_of cipher random)))))

-- the input opened under the first key whose first segment opens
abbrev pub opens_stream : KeysForStreams → (ad : List ℕ) → (out : Option (List ℕ)) → Plan
opens_stream keys ad out = allocates (passes_to out (opening_any (ciphers_of ad keys.keys)))

-- the input opened under the first key whose first segment opens, and its plaintext sealed under the primary
-- key, behind a header of random bytes, both with these associated data
abbrev pub reseals_stream : KeysForStreams → (ad : List ℕ) → (out : Option (List ℕ)) → Plan
reseals_stream keys ad out =
    let cipher = cipher_of ad keys.primary in
    allocates (draws sealings (fill (keys.primary.derived + 7))
    (λ made. with_made made (λ random.
    passes_to out (resealing (ciphers_of ad keys.keys) cipher (header_of cipher random)))))

-- the pass that does this work
abbrev pub passes_stream : StreamWork → KeysForStreams → (ad : List ℕ) → (out : Option (List ℕ)) → Plan
passes_stream works.Seal keys ad out = seals_stream keys ad out
passes_stream works.Open keys ad out = opens_stream keys ad out
passes_stream works.Reseal keys ad out = reseals_stream keys ad out

-- the status of a keyset that gives no keys for streams, and of want of memory
abbrev pub stream_keys_refusal : (name : ℕ → UnfitKey) → StreamKeysFault → Status
stream_keys_refusal name (key_faults.NotStream i) = status.Unfit (refused.NoManager i) (name i)
stream_keys_refusal name (key_faults.BadKey i rule) = status.Unfit (refused.BadKey i rule) (name i)
stream_keys_refusal name key_faults.NoMemory = status.NoMemory
