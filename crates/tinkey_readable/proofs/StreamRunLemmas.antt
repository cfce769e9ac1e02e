-- Streams that were sealed before runs, and opened after them.
use Rattle.std.proofs.Common.{arith, ◌≡◌, ◌∙◌, sym, refl, ap, ℕ, ◌+◌, true, List, [], ◌∷◌, length, take, Option, Some, None}
use Rattle.std.specs.Prelude.{option_map}
use Rattle.std.proofs.lemmas.List.{length-take-le}
use Rattle.std.proofs.lemmas.Option.{same_Some}
use Rattle.keyset_model.specs.Keyset.{Keys}
use Rattle.managers.specs.Table.{Table}
use Rattle.segment_stream.proofs.CipherLemmas.{cipher_of-is_cipher}
use Rattle.segment_stream.specs.KeysModel.{KeysForStreams}
use Rattle.segment_stream.specs.Laws.{StreamBack}
use Rattle.segment_stream.specs.Opening.{Choice, StreamRefusal, choose, chosen, decides, decides_by, released, released_by, stream_answer}
use Rattle.segment_stream.specs.Pumping.{Part, opening_any, opening_under, sealing}
use Rattle.segment_stream.specs.Sealing.{header_of, seal_decides, sealed}
use Rattle.segment_stream.specs.Segments.{IsSound, cipher_of, ciphers_of}
use Rattle.segment_stream.specs.StreamKeys.{StreamUnfit, bad_key, not_stream, primary_key, stream_keys, stream_unfit}
use Rattle.segment_stream.specs.declared.key.StreamKey.{StreamKey}
use Rattle.tinkey_session.proofs.Options.{map_some}
use Rattle.tinkey_plans.specs.declared.status.Status.TheVariants as status
use Rattle.tinkey_words.specs.declared.words.rows.Format.{Format}
use Rattle.tinkey_plans.specs.Plan.{Answer, Plan, Told, allocates, answer, collect_answer, pump_answer, refused, stream_status}
use Rattle.tinkey_plans.specs.Steps.{puts}
use Rattle.tinkey_plans.specs.Streaming.{begins_file, keys_for, loads_stream_keys, opens_stream, passes_to, seals_stream, unless_unfit, with_keys}
use Rattle.tinkey_words.specs.Words.{Lock}
use Rattle.tinkey_readable.specs.Lying.{LiesBehind}
use Rattle.tinkey_readable.specs.Runs.{IsFree, bytes_at}
use Rattle.tinkey_readable.proofs.LyingLemmas.{loads_reached, loads_there}
use Rattle.tinkey_readable.proofs.PassLemmas.{IsPutAt, begins_reached, passed, passes_done, passes_put, was_passed}
use Rattle.tinkey_readable.proofs.ReachLemmas.{IsDoneAnswer}
use Rattle.tinkey_plans.specs.UnfitKeys.{unfit_key}
use Rattle.tinkey_plans.specs.declared.unfit.UnfitKey.{UnfitKey}
use Rattle.tinkey_plans.specs.declared.origin.Origin.TheVariants as origins

-- ---- the keys of a keyset

-- the plan behind a keyset
abbrev behind_keyset : (KeysForStreams → Plan) → Keys → Plan
behind_keyset next keys = allocates (unless_unfit (unfit_key origins.Keyset keys) (stream_unfit keys) (with_keys (keys_for keys) next))

pub fit_done : (name : ℕ → UnfitKey) (unfit : Option (ℕ × StreamUnfit)) (next : Plan) (told : Told) → IsDoneAnswer (answer (unless_unfit name unfit next) told) → unfit ≡ None
fit_done name None next told done = refl
fit_done name (Some (i, not_stream)) next told done = absurd (cc)
fit_done name (Some (i, bad_key rule)) next told done = absurd (cc)

pub keys_done : (found : Option KeysForStreams) (next : KeysForStreams → Plan) (told : Told) → IsDoneAnswer (answer (with_keys found next) told) → (keys : KeysForStreams) × (found ≡ Some keys)
keys_done (Some keys) next told done = (keys, refl)
keys_done None next told done = absurd (cc)

-- the keys for streams of a keyset
abbrev pub with_primary : Keys → StreamKey → KeysForStreams
with_primary keys primary = record { primary = primary; keys = stream_keys keys }

-- those that were loaded
pub record LoadedKeys (table : Table) (lock : Lock) (name : List ℕ) (form : Format) (next : KeysForStreams → Plan) (told : Told) (a : Answer) : Type 0 where
  pub keys : Keys
  pub lies : LiesBehind table lock (record { file = Some name; form = form }) told keys
  pub fit : stream_unfit keys ≡ None
  pub primary : StreamKey
  pub there : primary_key keys ≡ Some primary
  pub goes_on : a ≡ answer (next (with_primary keys primary)) told

pub keys_reached : (table : Table) (lock : Lock) (name : List ℕ) (form : Format) (keys : Keys) (primary : StreamKey) (next : KeysForStreams → Plan) (told : Told) → LiesBehind table lock (record { file = Some name; form = form }) told keys
    → stream_unfit keys ≡ None → primary_key keys ≡ Some primary → answer (loads_stream_keys table lock name form next) told ≡ answer (next (with_primary keys primary)) told
keys_reached table lock name form keys primary next told lies fit is =
    loads_reached table lock name form keys (behind_keyset next) told lies
    ∙ ap (λ u. answer (unless_unfit (unfit_key origins.Keyset keys) u (with_keys (keys_for keys) next)) told) fit
    ∙ ap (λ o. answer (with_keys (option_map (with_primary keys) o) next) told) is

pub keys_loaded : (table : Table) (lock : Lock) (name : List ℕ) (form : Format) (next : KeysForStreams → Plan) (told : Told) → IsDoneAnswer (answer (loads_stream_keys table lock name form next) told)
    → LoadedKeys table lock name form next told (answer (loads_stream_keys table lock name form next) told)
keys_loaded table lock name form next told done =
    let loaded = loads_there table lock name form (behind_keyset next) told done in
    let keys = loaded.0 in
    let l = loads_reached table lock name form keys (behind_keyset next) told loaded.1 in
    let done1 : IsDoneAnswer (answer (unless_unfit (unfit_key origins.Keyset keys) (stream_unfit keys) (with_keys (keys_for keys) next)) told) = ap (λ (a : Answer). a.status) (sym l) ∙ done in
    let fit = fit_done _ (stream_unfit keys) (with_keys (keys_for keys) next) told done1 in
    let f : answer (unless_unfit (unfit_key origins.Keyset keys) (stream_unfit keys) (with_keys (keys_for keys) next)) told ≡ answer (with_keys (keys_for keys) next) told = ap (λ u. answer (unless_unfit (unfit_key origins.Keyset keys) u (with_keys (keys_for keys) next)) told) fit in
    let k = keys_done (keys_for keys) next told (ap (λ (a : Answer). a.status) (sym f) ∙ done1) in
    let primary = map_some (with_primary keys) (primary_key keys) k.0 k.1 in
    record {
      keys = keys;
      lies = loaded.1;
      fit = fit;
      primary = primary.0;
      there = primary.1;
      goes_on = l ∙ f ∙ ap (λ o. answer (with_keys (option_map (with_primary keys) o) next) told) primary.1;
    }

-- ---- a stream

-- what was sealed, by the answer of the plan behind the keys
pub record SealedStream (key : StreamKey) (ad : List ℕ) (told : Told) (stream : List ℕ) : Type 0 where
  random : List ℕ
  whole : length random ≡ key.derived + 7
  few : seal_decides (cipher_of ad key) random told.input ≡ None
  is : sealed (cipher_of ad key) random told.input true ≡ stream

-- a pass that seals, behind its header
abbrev pub seal_part : KeysForStreams → (ad random : List ℕ) → Part
seal_part keys ad random = sealing (cipher_of ad keys.primary) (header_of (cipher_of ad keys.primary) random)

pub sealed_by : (keys : KeysForStreams) (ad : List ℕ) (out : Option (List ℕ)) (told : Told) (stream : List ℕ) (a : Answer) → a ≡ answer (begins_file out (seals_stream keys ad out)) told
    → IsDoneAnswer a → IsPutAt out a stream → SealedStream keys.primary ad told stream
sealed_by keys ad out told stream a is done put =
    let n = keys.primary.derived + 7 in
    let w = was_passed n (seal_part keys ad) out told (ap (λ (a : Answer). a.status) (sym is) ∙ done) in
    record {
      random = take n told.random;
      whole = length-take-le n told.random w.enough;
      few = w.none;
      is = same_Some _ _ (sym w.put ∙ ap (λ (a : Answer). bytes_at out a.files a.output) (sym is) ∙ put);
    }

-- it opens under the key that sealed it
pub opens_alone : StreamBack → (key : StreamKey) (ad : List ℕ) (told : Told) (stream : List ℕ) → IsSound key → SealedStream key ad told stream → stream_answer (cipher_of ad key ∷ []) stream ≡ (told.input, None)
opens_alone back key ad told stream sound s =
    ap (stream_answer (cipher_of ad key ∷ [])) (sym s.is)
    ∙ back (cipher_of ad key) s.random told.input (cipher_of-is_cipher ad key sound) (omega (arith, s.whole)) s.few

-- a pass that opens it is Done, and puts its plaintext, where the name of a new file is free
pub opened_so : (keys : KeysForStreams) (ad : List ℕ) (out : Option (List ℕ)) (told : Told) (stream plain : List ℕ) (a : Answer) → a ≡ answer (begins_file out (opens_stream keys ad out)) told
    → told.input ≡ stream → IsFree out told.files → stream_answer (ciphers_of ad keys.keys) stream ≡ (plain, None) → (IsDoneAnswer a) × IsPutAt out a plain
opened_so keys ad out told stream plain a is same free opens =
    let part = opening_any (ciphers_of ad keys.keys) in
    let all : stream_answer (ciphers_of ad keys.keys) told.input ≡ (plain, None) = ap (stream_answer (ciphers_of ad keys.keys)) same ∙ opens in
    let none : decides (ciphers_of ad keys.keys) told.input true ≡ None = ap (λ (x : List ℕ × Option StreamRefusal). x.1) all in
    let whole : released (ciphers_of ad keys.keys) told.input true ≡ plain = ap (λ (x : List ℕ × Option StreamRefusal). x.0) all in
    let e = is ∙ begins_reached out (opens_stream keys ad out) told free in
    let done = passes_done out part told none free in
    (ap (λ (a : Answer). a.status) e ∙ done, ap (λ (a : Answer). bytes_at out a.files a.output) e ∙ passes_put out part told done ∙ ap Some whole)

-- passes of one output and one refusal are answered alike
same_pass : (out : Option (List ℕ)) (one other : Part) (told : Told) → one.refusal told.input true ≡ other.refusal told.input true → one.output told.input true ≡ other.output told.input true
    → answer (passes_to out one) told ≡ answer (passes_to out other) told
same_pass None one other told refusal output = by (one.refusal told.input true) (other.refusal told.input true) refusal
  where
    by : (a b : Option StreamRefusal) → a ≡ b → pump_answer one told a ≡ pump_answer other told b
    by None None e = ap (λ (l : List ℕ). record (refused told status.Done) { input = Some []; output = l }) output
    by (Some a) (Some b) e =
        ap (λ (l : List ℕ). record (refused told (stream_status a)) { input = None; output = l }) output
        ∙ ap (λ o. pump_answer other told o) e
    by None (Some b) e = absurd (cc)
    by (Some a) None e = absurd (cc)
same_pass (Some name) one other told refusal output =
    ap (λ o. collect_answer o told (passed (Some name) one told)) refusal
    ∙ ap (λ (l : List ℕ). collect_answer (other.refusal told.input true) told (answer (puts (Some name) l) (record told { input = [] }))) output

-- a pass goes as under the key chosen alone
pub chosen_so : (keys : KeysForStreams) (key : StreamKey) (ad : List ℕ) (out : Option (List ℕ)) (told : Told) (stream : List ℕ) → told.input ≡ stream → IsFree out told.files → choose (ciphers_of ad keys.keys) stream true ≡ chosen (cipher_of ad key)
    → answer (begins_file out (opens_stream keys ad out)) told ≡ answer (passes_to out (opening_under (cipher_of ad key))) told
chosen_so keys key ad out told stream same free is =
    let here : choose (ciphers_of ad keys.keys) told.input true ≡ chosen (cipher_of ad key) = ap (λ (l : List ℕ). choose (ciphers_of ad keys.keys) l true) same ∙ is in
    begins_reached out (opens_stream keys ad out) told free
    ∙ same_pass out (opening_any (ciphers_of ad keys.keys)) (opening_under (cipher_of ad key)) told (ap (λ (c : Choice). decides_by c told.input true) here) (ap (λ (c : Choice). released_by c told.input true) here)
