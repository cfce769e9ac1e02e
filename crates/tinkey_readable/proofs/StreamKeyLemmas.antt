-- The keys for streams of keysets: a keyset that gives them gives them after edits, and what one of them sealed
-- opens.
use Rattle.std.proofs.Common.{◌≡◌, ◌∙◌, sym, refl, ap, subst, arith, ℕ, suc, ◌+◌, Bool, true, false, List, [], ◌∷◌, ◌++◌, take, drop, add-one, drop-cons, Option, Some, None, Result, Ok, Err}
use Rattle.std.specs.Prelude.{All, slice_get, option_map, ◌==◌, if◌then◌else◌}
use Rattle.std.specs.List.{AllByRecursion, filter_map}
use Rattle.std.specs.Option.{option_and_then}
use Rattle.std.specs.Result.{result_err}
use Rattle.std.proofs.lemmas.Bool.Decides.{nat_tests}
use Rattle.std.proofs.lemmas.List.{take-append-drop}
use Rattle.std.proofs.lemmas.List.Elements.{filter_map-append}
use Rattle.std.proofs.lemmas.Option.{slice_get_within, get_or_from_slice_get}
use Rattle.key_msgs.specs.KeyTypes.{primitive_of_type, type_of_url}
use Rattle.key_msgs.specs.Keys.{type_of}
use Rattle.key_msgs.specs.Reading.{key_of}
use Rattle.key_msgs.specs.declared.key.KeyKind.{KeyKind}
use Rattle.key_msgs.specs.declared.key.KeyKind.TheVariants as kinds
use Rattle.key_msgs.specs.declared.key_type.KeyType.{KeyType}
use Rattle.key_msgs.specs.declared.key_type.KeyType.TheVariants as types
use Rattle.key_msgs.specs.declared.primitive.Primitive.TheVariants.{Stream}
use Rattle.keyset_model.specs.Keyset.{Keys, is_enabled, primary_of}
use Rattle.keyset_model.specs.declared.record.Record.{Record}
use Rattle.keyset_model.proofs.PrimaryLemmas.{primary_there}
use Rattle.managers.proofs.ReadingLemmas.{read_of_type}
use Rattle.segment_stream.proofs.CipherLemmas.{ciphers_of-are_ciphers}
use Rattle.segment_stream.specs.Cipher.{IsCipher, SegmentCipher}
use Rattle.segment_stream.specs.Opening.{Choice, no_key, chosen, choose, decides, decides_by, failed, fits, released_by, stream_answer, StreamRefusal}
use Rattle.segment_stream.specs.Segments.{cipher_of, ciphers_of}
use Rattle.segment_stream.specs.StreamKeys.{StreamUnfit, given, given_by, key_in, of_kind, of_message, of_type, primary_key, refused, stream_key_of, stream_keys, stream_unfit, unfit_record, unfit_records}
use Rattle.segment_stream.specs.declared.key.StreamKey.{StreamKey}
use Rattle.segment_stream.specs.declared.key.SegmentScheme.TheVariants as schemes
use Rattle.tinkey_plans.proofs.StreamSoundLemmas.{given_in, message_read, ok_same, sound_keys}
use Rattle.tinkey_session.proofs.Options.{clash, map_some, ok_there}
use Rattle.tinkey_session.proofs.SoundLemmas.{primary_key_for}
use Rattle.tinkey_session.specs.Laws.{IsKeyFor, IsUsable}
use Rattle.tinkey_session.specs.Laws as keysets
use Rattle.wrapped_prims.specs.Laws.{HasKey, IsKeyset, IsSameKey}
use Rattle.tinkey_readable.specs.StreamRuns.{NoOtherBefore}

-- ---- a keyset gives keys for streams where it is sound for them

key_for : (r : Record) (key : StreamKey) → stream_key_of r ≡ Ok key → IsKeyFor Stream r
unfolding stream_key_of
key_for r key e = by_type (type_of_url r.url) refl e
  where
    by_kind : (type : KeyType) → type_of_url r.url ≡ Some type → primitive_of_type type ≡ Stream → of_message (key_of type r.value) ≡ Ok key → IsKeyFor Stream r
    by_kind type is primitive e =
        let m = message_read (key_of type r.value) key e in
        record {
          named = ap (option_map primitive_of_type) is ∙ ap Some primitive;
          valid = ap (option_and_then (λ t. result_err (key_of t r.value))) is ∙ ap result_err m.1;
        }

    by_type : (found : Option KeyType) → type_of_url r.url ≡ found → of_type found r.value ≡ Ok key → IsKeyFor Stream r
    by_type (Some types.GcmStream) is e = by_kind types.GcmStream is refl e
    by_type (Some types.CtrStream) is e = by_kind types.CtrStream is refl e
    by_type _ is e = absurd (cc)

-- a key of a type for streams is one
stream_kind : (kind : KeyKind) → primitive_of_type (type_of kind) ≡ Stream → (key : StreamKey) × (of_kind kind ≡ Ok key)
stream_kind (kinds.GcmStream value segment derived hash) e =
    (record { value = value; segment = segment; derived = derived; hash = hash; scheme = schemes.Gcm }, refl)
stream_kind (kinds.CtrStream value segment derived hash mac_hash tag_size) e =
    (record { value = value; segment = segment; derived = derived; hash = hash; scheme = schemes.CtrHmac mac_hash tag_size }, refl)
stream_kind _ e = absurd (cc)

stream_type : (type : KeyType) (value : List ℕ) (kind : KeyKind) → primitive_of_type type ≡ Stream → key_of type value ≡ Ok kind → (key : StreamKey) × (of_type (Some type) value ≡ Ok key)
stream_type types.GcmStream value kind primitive read =
    let k = stream_kind kind (ap primitive_of_type (read_of_type types.GcmStream value kind read).0) in
    (k.0, ap of_message read ∙ k.1)
stream_type types.CtrStream value kind primitive read =
    let k = stream_kind kind (ap primitive_of_type (read_of_type types.CtrStream value kind read).0) in
    (k.0, ap of_message read ∙ k.1)
stream_type _ value kind primitive read = absurd (cc)

for_key : (r : Record) → IsKeyFor Stream r → (key : StreamKey) × (stream_key_of r ≡ Ok key)
unfolding stream_key_of
for_key r is =
    let type = map_some primitive_of_type (type_of_url r.url) Stream is.named in
    let read = ok_there (key_of type.0 r.value) (sym (ap (option_and_then (λ t. result_err (key_of t r.value))) type.1) ∙ is.valid) in
    let key = stream_type type.0 r.value read.0 type.2 read.1 in
    (key.0, ap (λ o. of_type o r.value) type.1 ∙ key.1)

unrefused : (read : Result StreamKey StreamUnfit) → refused read ≡ None → (key : StreamKey) × (read ≡ Ok key)
unrefused (Ok key) e = (key, refl)
unrefused (Err why) e = clash (sym e)

usable : (r : Record) → unfit_record r ≡ None → IsUsable Stream r
usable r none enabled =
    let k = unrefused (stream_key_of r) (sym (ap (λ (b : Bool). if b then refused (stream_key_of r) else None) enabled) ∙ none) in
    key_for r k.0 k.1

record_fit : (r : Record) → IsUsable Stream r → unfit_record r ≡ None
record_fit r usable = by (is_enabled r) refl
  where
    by : (b : Bool) → is_enabled r ≡ b → (if b then refused (stream_key_of r) else None) ≡ None
    by true is = ap refused (for_key r (usable is)).1
    by false is = refl

unfit_next : (place : ℕ) (r : Record) (rs : List Record) → unfit_record r ≡ None → slice_get (unfit_records place (r ∷ rs)) 0 ≡ slice_get (unfit_records (place + 1) rs) 0
unfit_next place r rs none = rw none refl

unfit_here : (place : ℕ) (r : Record) (rs : List Record) (why : StreamUnfit) → unfit_record r ≡ Some why → slice_get (unfit_records place (r ∷ rs)) 0 ≡ Some (place, why)
unfit_here place r rs why is = rw is refl

none_unfit : (place : ℕ) (r : Record) (rs : List Record) → slice_get (unfit_records place (r ∷ rs)) 0 ≡ None → (unfit_record r ≡ None) × (slice_get (unfit_records (place + 1) rs) 0 ≡ None)
none_unfit place r rs e = by (unfit_record r) refl
  where
    by : (o : Option StreamUnfit) → unfit_record r ≡ o → (unfit_record r ≡ None) × (slice_get (unfit_records (place + 1) rs) 0 ≡ None)
    by None is = (is, sym (unfit_next place r rs is) ∙ e)
    by (Some why) is = clash (sym e ∙ unfit_here place r rs why is)

each_usable : (place : ℕ) (rs : List Record) → slice_get (unfit_records place rs) 0 ≡ None → AllByRecursion (IsUsable Stream) rs
each_usable place [] e = tt
each_usable place (r ∷ rs) e =
    let parts = none_unfit place r rs e in
    (usable r parts.0, each_usable (place + 1) rs parts.1)

each_fit : (place : ℕ) (rs : List Record) → AllByRecursion (IsUsable Stream) rs → slice_get (unfit_records place rs) 0 ≡ None
each_fit place [] all = refl
each_fit place (r ∷ rs) all = unfit_next place r rs (record_fit r all.0) ∙ each_fit (place + 1) rs all.1

pub fit_sound : (keys : Keys) → IsKeyset keys → stream_unfit keys ≡ None → keysets.IsSound Stream keys
unfolding stream_unfit
fit_sound keys keyset fit = record { keyset = keyset; usable = each_usable 0 keys.records fit }

pub sound_fit : (keys : Keys) → keysets.IsSound Stream keys → stream_unfit keys ≡ None
unfolding stream_unfit
sound_fit keys sound = each_fit 0 keys.records sound.usable

-- its primary record gives the key that seals
pub primary_gives : (keys : Keys) (r : Record) (key : StreamKey) → primary_of keys ≡ Some r → primary_key keys ≡ Some key → stream_key_of r ≡ Ok key
unfolding primary_key
primary_gives keys r key primary is = given_in true (stream_key_of r) key (sym (ap given_by primary) ∙ is)

pub primary_key_there : (keys : Keys) → keysets.IsSound Stream keys → (key : StreamKey) × (primary_key keys ≡ Some key)
unfolding primary_key
primary_key_there keys sound =
    let primary = primary_there keys sound.keyset.faultless in
    let key = for_key primary.0 (primary_key_for Stream keys primary.0 sound primary.1) in
    (key.0, ap given_by primary.1 ∙ ap given key.1)

-- ---- the first key that fits

-- a stream that opens under a key alone has a first segment that opens
opens_first : (key : SegmentCipher) (stream plain : List ℕ) → stream_answer (key ∷ []) stream ≡ (plain, None) → fits key stream ≡ true
opens_first key stream plain answer = by (fits key stream) refl
  where
    by : (b : Bool) → fits key stream ≡ b → fits key stream ≡ true
    by true is = is
    by false is =
        let none : choose (key ∷ []) stream true ≡ no_key = ap (λ (b : Bool). if b then chosen key else choose [] stream true) is in
        let refusal : decides (key ∷ []) stream true ≡ Some (failed 0) = ap (λ (c : Choice). decides_by c stream true) none in
        let done : decides (key ∷ []) stream true ≡ None = ap (λ (x : List ℕ × Option StreamRefusal). x.1) answer in
        clash (sym done ∙ refusal)

-- keys before it that open the first segment are that key itself
first_chosen : (ad stream : List ℕ) (key : StreamKey) (front behind : List StreamKey) → fits (cipher_of ad key) stream ≡ true → AllByRecursion (λ other. fits (cipher_of ad other) stream ≡ true → key ≡ other) front
    → choose (ciphers_of ad (front ++ key ∷ behind)) stream true ≡ chosen (cipher_of ad key)
first_chosen ad stream key [] behind fit only = ap (λ (b : Bool). if b then chosen (cipher_of ad key) else choose (ciphers_of ad behind) stream true) fit
first_chosen ad stream key (other ∷ front) behind fit only = by (fits (cipher_of ad other) stream) refl (first_chosen ad stream key front behind fit only.1)
  where
    by : (b : Bool) → fits (cipher_of ad other) stream ≡ b → choose (ciphers_of ad (front ++ key ∷ behind)) stream true ≡ chosen (cipher_of ad key)
        → (if b then chosen (cipher_of ad other) else choose (ciphers_of ad (front ++ key ∷ behind)) stream true) ≡ chosen (cipher_of ad key)
    by true is later = ap (λ (k : StreamKey). chosen (cipher_of ad k)) (sym (only.0 is))
    by false is later = later

-- the records before a place, the one at it, and those behind
parts_at : (rs : List Record) (place : ℕ) (r : Record) → slice_get rs place ≡ Some r → rs ≡ take place rs ++ r ∷ drop (place + 1) rs
parts_at rs place r there =
    let rest : drop place rs ≡ r ∷ drop (place + 1) rs =
    rw add-one (drop-cons rs place r (slice_get_within rs place r there) ∙ ap (λ (x : Record). x ∷ drop (suc place) rs) (get_or_from_slice_get rs place r r there)) in
    sym (take-append-drop place rs) ∙ ap (λ (l : List Record). take place rs ++ l) rest

-- a record with the key of another one, ENABLED, gives its key for streams
same_gives : (r other : Record) (key : StreamKey) → IsSameKey r other → stream_key_of r ≡ Ok key → key_in other ≡ Some key
unfolding stream_key_of
same_gives r other key same gives =
    let enabled : (other.status == 1) ≡ true = grind (arith, nat_tests, same.enabled) in
    ap (λ (b : Bool). if b then given (stream_key_of other) else None) enabled
    ∙ ap given (ap (λ (u : List ℕ). of_type (type_of_url u) other.value) same.url ∙ ap (of_type (type_of_url r.url)) same.value ∙ gives)

each_only : (r : Record) (key : StreamKey) (P : StreamKey → Type 0) (others : List StreamKey) → stream_key_of r ≡ Ok key → AllByRecursion (λ other. P other → stream_key_of r ≡ Ok other) others → AllByRecursion (λ other. P other → key ≡ other) others
each_only r key P [] gives only = tt
each_only r key P (other ∷ others) gives only = (λ p. ok_same key other (sym gives ∙ only.0 p), each_only r key P others gives only.1)

-- the keys of the keyset: those before that of the record, that one, and those behind
keys_parts : (keys : Keys) (r : Record) (key : StreamKey) (has : HasKey r keys) → stream_key_of r ≡ Ok key
    → stream_keys keys ≡ filter_map key_in (take has.place keys.records) ++ key ∷ filter_map key_in (drop (has.place + 1) keys.records)
unfolding stream_keys
keys_parts keys r key has gives =
    let front = take has.place keys.records in
    let behind = drop (has.place + 1) keys.records in
    let here : filter_map key_in (has.other ∷ behind) ≡ key ∷ filter_map key_in behind = rw (same_gives r has.other key has.same gives) refl in
    ap (filter_map key_in) (parts_at keys.records has.place has.other has.there)
    ∙ filter_map-append key_in front (has.other ∷ behind)
    ∙ ap (λ (l : List StreamKey). filter_map key_in front ++ l) here

-- a stream opens under the keys of a keyset
pub record OpensUnder (keys : Keys) (ad stream plain : List ℕ) : Type 0 where
  pub ciphers : All IsCipher (ciphers_of ad (stream_keys keys))
  pub answer : stream_answer (ciphers_of ad (stream_keys keys)) stream ≡ (plain, None)

pub all_ciphers : (keys : Keys) (ad : List ℕ) → All IsCipher (ciphers_of ad (stream_keys keys))
unfolding stream_keys
all_ciphers keys ad = ciphers_of-are_ciphers ad (filter_map key_in keys.records) (sound_keys keys.records)

-- it does where it opens under a key that the keyset has, and no other key before that one opens its first segment
pub opens_under : (keys : Keys) (r : Record) (key : StreamKey) (ad stream plain : List ℕ) (has : HasKey r keys) → stream_key_of r ≡ Ok key → NoOtherBefore r has.place ad stream keys
    → stream_answer (cipher_of ad key ∷ []) stream ≡ (plain, None) → OpensUnder keys ad stream plain
opens_under keys r key ad stream plain has gives only answer =
    let front = filter_map key_in (take has.place keys.records) in
    let behind = filter_map key_in (drop (has.place + 1) keys.records) in
    let fit = opens_first (cipher_of ad key) stream plain answer in
    let others = each_only r key (λ other. fits (cipher_of ad other) stream ≡ true) front gives only in
    let among : choose (ciphers_of ad (stream_keys keys)) stream true ≡ chosen (cipher_of ad key) =
    ap (λ (l : List StreamKey). choose (ciphers_of ad l) stream true) (keys_parts keys r key has gives) ∙ first_chosen ad stream key front behind fit others in
    let alone : choose (cipher_of ad key ∷ []) stream true ≡ chosen (cipher_of ad key) = first_chosen ad stream key [] [] fit tt in
    record {
      ciphers = all_ciphers keys ad;
      answer = answers (ciphers_of ad (stream_keys keys)) (among ∙ sym alone);
    }
  where
    answers : (ciphers : List SegmentCipher) → choose ciphers stream true ≡ choose (cipher_of ad key ∷ []) stream true → stream_answer ciphers stream ≡ (plain, None)
    answers ciphers same = ap {A = Choice} {B = List ℕ × Option StreamRefusal} (λ c. (released_by c stream true, decides_by c stream true)) same ∙ answer

-- the first key that fits, among keys of which one does
pub record FirstFit (ad stream : List ℕ) (keys : List StreamKey) : Type 0 where
  pub key : StreamKey
  pub place : ℕ
  pub there : slice_get keys place ≡ Some key
  pub first : fits (cipher_of ad key) stream ≡ true
  pub choice : choose (ciphers_of ad keys) stream true ≡ chosen (cipher_of ad key)

first_there : (ad stream : List ℕ) (key : StreamKey) (front behind : List StreamKey) → fits (cipher_of ad key) stream ≡ true → FirstFit ad stream (front ++ key ∷ behind)
first_there ad stream key [] behind fit =
    record { key = key; place = 0; there = refl; first = fit; choice = first_chosen ad stream key [] behind fit tt }
first_there ad stream key (other ∷ front) behind fit = by (fits (cipher_of ad other) stream) refl (first_there ad stream key front behind fit)
  where
    by : (b : Bool) → fits (cipher_of ad other) stream ≡ b → FirstFit ad stream (front ++ key ∷ behind) → FirstFit ad stream (other ∷ (front ++ key ∷ behind))
    by true is later = record { key = other; place = 0; there = refl; first = is; choice = first_chosen ad stream other [] (front ++ key ∷ behind) is tt }
    by false is later = record {
      key = later.key;
      place = suc later.place;
      there = later.there;
      first = later.first;
      choice = ap (λ (b : Bool). if b then chosen (cipher_of ad other) else choose (ciphers_of ad (front ++ key ∷ behind)) stream true) is ∙ later.choice;
    }

-- where the keyset has the key that sealed, ENABLED, some key fits
pub first_under : (keys : Keys) (r : Record) (key : StreamKey) (ad stream plain : List ℕ) → HasKey r keys → stream_key_of r ≡ Ok key → stream_answer (cipher_of ad key ∷ []) stream ≡ (plain, None) → FirstFit ad stream (stream_keys keys)
first_under keys r key ad stream plain has gives answer =
    subst (FirstFit ad stream) (sym (keys_parts keys r key has gives))
    (first_there ad stream key (filter_map key_in (take has.place keys.records)) (filter_map key_in (drop (has.place + 1) keys.records)) (opens_first (cipher_of ad key) stream plain answer))
