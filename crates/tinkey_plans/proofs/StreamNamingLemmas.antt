-- Under which key of a keyset key-of says that a stream is opened, and where it says that none opens it.
use Rattle.std.proofs.Common.{◌≡◌, ◌∙◌, ap, refl, sym, subst, arith, ℕ, suc, ◌+◌, ◌<◌, ◌≤◌, Bool, true, false, cond, List, [], ◌∷◌, ◌++◌, length, take, drop, add-one, Option, Some, None}
use Rattle.std.specs.Prelude.{◌↔◌, ◌&&◌, find, if◌then◌else◌, nat_le, nat_lt, option_map}
use Rattle.std.specs.List.{AllByRecursion, cons_option, filter_map}
use Rattle.std.specs.Option.{is_some}
use Rattle.std.proofs.lemmas.Option.{same_Some}
use Rattle.keyset_model.specs.Keyset.{Keys}
use Rattle.keyset_model.specs.declared.record.Record.{Record}
use Rattle.segment_stream.proofs.Chosen.{fits_front}
use Rattle.segment_stream.proofs.CipherLemmas.{cipher_of-is_cipher}
use Rattle.segment_stream.proofs.KeysLemmas.{all-within}
use Rattle.segment_stream.specs.Cipher.{SegmentCipher, most_segments}
use Rattle.segment_stream.specs.KeysModel.{KeysForStreams}
use Rattle.segment_stream.specs.Opening.{Choice, StreamRefusal, choose, chosen, decides, decides_by, failed, fits, no_key, opened, opens_at, too_many, undecided}
use Rattle.segment_stream.specs.Pieces.{before, followed, leading, settled}
use Rattle.segment_stream.specs.Pumping.{Part, opening_any}
use Rattle.segment_stream.specs.Segments.{IsSound, cipher_of, ciphers_of}
use Rattle.segment_stream.specs.StreamKeys.{StreamUnfit, bad_key, key_in, largest_of, not_stream, primary_key, stream_keys, stream_unfit}
use Rattle.segment_stream.specs.declared.key.StreamKey.{StreamKey}
use Rattle.tinkey_plans.proofs.StreamSoundLemmas.{sound_keys}
use Rattle.tinkey_plans.specs.KeyOf.{key_fits, key_line, opens_first, stream_front_size, stream_record, tells_front, with_lines}
use Rattle.tinkey_plans.specs.Naming.{KeyOfStreamTells, OpensUnder, stream_front}
use Rattle.tinkey_plans.specs.Plan.{Told, answer, pump_answer, stream_status, writes}
use Rattle.tinkey_plans.specs.Streaming.{keys_for, opens_stream, unless_unfit, with_keys}
use Rattle.tinkey_plans.specs.declared.status.Status.TheVariants as status
use Rattle.tinkey_session.proofs.Options.{clash}
use Rattle.tinkey_plans.specs.UnfitKeys.{unfit_key}
use Rattle.tinkey_plans.specs.declared.origin.Origin.TheVariants as origins

-- ---- the first bytes tell what the whole does

same_fit : (ad bytes : List ℕ) (n : ℕ) (key : StreamKey) → IsSound key → key.segment < n → fits (cipher_of ad key) (take n bytes) ≡ fits (cipher_of ad key) bytes
same_fit ad bytes n key sound more = fits_front (cipher_of ad key) bytes n (cipher_of-is_cipher ad key sound) more

abbrev AreWithin : (n : ℕ) → List StreamKey → Type 0
AreWithin n keys = AllByRecursion (λ key. key.segment < n) keys

same_found : (ad bytes : List ℕ) (n : ℕ) (rs : List Record) → AllByRecursion IsSound (filter_map key_in rs) → AreWithin n (filter_map key_in rs) → find (opens_first ad (take n bytes)) rs ≡ find (opens_first ad bytes) rs
same_found ad bytes n [] sound within = refl
same_found ad bytes n (r ∷ rs) sound within = by (key_in r) sound within (λ s w. same_found ad bytes n rs s w)
  where
    by : (o : Option StreamKey) → AllByRecursion IsSound (cons_option o (filter_map key_in rs)) → AreWithin n (cons_option o (filter_map key_in rs))
        → (AllByRecursion IsSound (filter_map key_in rs) → AreWithin n (filter_map key_in rs) → find (opens_first ad (take n bytes)) rs ≡ find (opens_first ad bytes) rs)
        → cond (key_fits ad (take n bytes) o) (Some r) (find (opens_first ad (take n bytes)) rs) ≡ cond (key_fits ad bytes o) (Some r) (find (opens_first ad bytes) rs)
    by None sound within later = later sound within
    by (Some key) sound within later =
        ap (λ (b : Bool). cond b (Some r) (find (opens_first ad (take n bytes)) rs)) (same_fit ad bytes n key sound.0 within.0)
        ∙ ap (λ (o : Option Record). cond (fits (cipher_of ad key) bytes) (Some r) o) (later sound.1 within.1)

one_more : (most : ℕ) (keys : List StreamKey) → AllByRecursion (λ key. key.segment ≤ most) keys → AreWithin (most + 1) keys
one_more most [] all = tt
one_more most (key ∷ keys) all = (omega (arith, all.0), one_more most keys all.1)

pub front_found : (keys : Keys) (ad bytes : List ℕ) → stream_record keys ad (stream_front keys bytes) ≡ stream_record keys ad bytes
unfolding stream_keys
front_found keys ad bytes =
    let its = filter_map key_in keys.records in
    same_found ad bytes (largest_of its + 1) keys.records (sound_keys keys.records) (one_more (largest_of its) its (all-within its 0 (largest_of its) refl))

-- ---- the key that is chosen

-- the choice among the keys of some records
abbrev pub choice_of : (ad bytes : List ℕ) → List Record → Choice
choice_of ad bytes rs = choose (ciphers_of ad (filter_map key_in rs)) bytes true

-- with the key of one more record before them, or without one
abbrev pub choice_with : (ad bytes : List ℕ) → Option StreamKey → List Record → Choice
choice_with ad bytes o rs = choose (ciphers_of ad (cons_option o (filter_map key_in rs))) bytes true

no_key_found : (ad bytes : List ℕ) (rs : List Record) → choice_of ad bytes rs ≡ no_key → find (opens_first ad bytes) rs ≡ None
no_key_found ad bytes [] is = refl
no_key_found ad bytes (r ∷ rs) is = by (key_in r) is (λ e. no_key_found ad bytes rs e)
  where
    by_fit : (key : StreamKey) (b : Bool) → (if b then chosen (cipher_of ad key) else choice_of ad bytes rs) ≡ no_key → (choice_of ad bytes rs ≡ no_key → find (opens_first ad bytes) rs ≡ None) → cond b (Some r) (find (opens_first ad bytes) rs) ≡ None
    by_fit key true e later = absurd (cc)
    by_fit key false e later = later e

    by : (o : Option StreamKey) → choice_with ad bytes o rs ≡ no_key → (choice_of ad bytes rs ≡ no_key → find (opens_first ad bytes) rs ≡ None) → cond (key_fits ad bytes o) (Some r) (find (opens_first ad bytes) rs) ≡ None
    by None e later = later e
    by (Some key) e later = by_fit key (fits (cipher_of ad key) bytes) e later

found_no_key : (ad bytes : List ℕ) (rs : List Record) → find (opens_first ad bytes) rs ≡ None → choice_of ad bytes rs ≡ no_key
found_no_key ad bytes [] is = refl
found_no_key ad bytes (r ∷ rs) is = by (key_in r) is (λ e. found_no_key ad bytes rs e)
  where
    by_fit : (key : StreamKey) (b : Bool) → cond b (Some r) (find (opens_first ad bytes) rs) ≡ None → (find (opens_first ad bytes) rs ≡ None → choice_of ad bytes rs ≡ no_key) → (if b then chosen (cipher_of ad key) else choice_of ad bytes rs) ≡ no_key
    by_fit key true e later = clash (sym e)
    by_fit key false e later = later e

    by : (o : Option StreamKey) → cond (key_fits ad bytes o) (Some r) (find (opens_first ad bytes) rs) ≡ None → (find (opens_first ad bytes) rs ≡ None → choice_of ad bytes rs ≡ no_key) → choice_with ad bytes o rs ≡ no_key
    by None e later = later e
    by (Some key) e later = by_fit key (fits (cipher_of ad key) bytes) e later

-- a record among others, whose key is chosen, and none of those before it
record IsChosen (ad bytes : List ℕ) (rs : List Record) (r : Record) : Type 0 where
  before : List Record
  behind : List Record
  are : rs ≡ before ++ r ∷ behind
  key : StreamKey
  has : key_in r ≡ Some key
  passed : choice_of ad bytes before ≡ no_key
  goes_on : choice_of ad bytes rs ≡ chosen (cipher_of ad key)

-- one more record before it, whose key doesn't fit, or which has none
chosen_behind : (ad bytes : List ℕ) (x : Record) (rs : List Record) (r : Record) → ((l : List Record) → choice_of ad bytes (x ∷ l) ≡ choice_of ad bytes l) → IsChosen ad bytes rs r → IsChosen ad bytes (x ∷ rs) r
chosen_behind ad bytes x rs r same c = record {
  before = x ∷ c.before;
  behind = c.behind;
  are = ap (λ (l : List Record). x ∷ l) c.are;
  key = c.key;
  has = c.has;
  passed = same c.before ∙ c.passed;
  goes_on = same rs ∙ c.goes_on;
}

found_chosen : (ad bytes : List ℕ) (rs : List Record) (r : Record) → find (opens_first ad bytes) rs ≡ Some r → IsChosen ad bytes rs r
found_chosen ad bytes [] r is = clash is
found_chosen ad bytes (x ∷ rs) r is = by (key_in x) refl is (λ e. found_chosen ad bytes rs r e)
  where
    by_fit : (key : StreamKey) (b : Bool) → key_in x ≡ Some key → fits (cipher_of ad key) bytes ≡ b → cond b (Some x) (find (opens_first ad bytes) rs) ≡ Some r → (find (opens_first ad bytes) rs ≡ Some r → IsChosen ad bytes rs r) → IsChosen ad bytes (x ∷ rs) r
    by_fit key true has fit e later = record {
      before = [];
      behind = rs;
      are = ap (λ (y : Record). y ∷ rs) (same_Some _ _ e);
      key = key;
      has = ap key_in (sym (same_Some _ _ e)) ∙ has;
      passed = refl;
      goes_on = ap (λ (o : Option StreamKey). choice_with ad bytes o rs) has ∙ ap (λ (b : Bool). if b then chosen (cipher_of ad key) else choice_of ad bytes rs) fit;
    }
    by_fit key false has fit e later =
        chosen_behind ad bytes x rs r (λ l. ap (λ (o : Option StreamKey). choice_with ad bytes o l) has ∙ ap (λ (b : Bool). if b then chosen (cipher_of ad key) else choice_of ad bytes l) fit) (later e)

    by : (o : Option StreamKey) → key_in x ≡ o → cond (key_fits ad bytes o) (Some x) (find (opens_first ad bytes) rs) ≡ Some r → (find (opens_first ad bytes) rs ≡ Some r → IsChosen ad bytes rs r) → IsChosen ad bytes (x ∷ rs) r
    by None has e later = chosen_behind ad bytes x rs r (λ l. ap (λ (o : Option StreamKey). choice_with ad bytes o l) has) (later e)
    by (Some key) has e later = by_fit key (fits (cipher_of ad key) bytes) has refl e later

-- a key that is chosen fits
abbrev cipher_in : SegmentCipher → Choice → SegmentCipher
cipher_in other undecided = other
cipher_in other no_key = other
cipher_in other (chosen key) = key

chosen_fits : (ciphers : List SegmentCipher) (bytes : List ℕ) (key : SegmentCipher) → choose ciphers bytes true ≡ chosen key → fits key bytes ≡ true
chosen_fits [] bytes key is = absurd (cc)
chosen_fits (c ∷ ciphers) bytes key is = by (fits c bytes) refl is (λ e. chosen_fits ciphers bytes key e)
  where
    by : (b : Bool) → fits c bytes ≡ b → (if b then chosen c else choose ciphers bytes true) ≡ chosen key → (choose ciphers bytes true ≡ chosen key → fits key bytes ≡ true) → fits key bytes ≡ true
    by true fit e later = ap (λ (k : SegmentCipher). fits k bytes) (sym (ap (cipher_in c) e)) ∙ fit
    by false fit e later = later e

-- what is found behind records of which none is
found_behind : (p : Record → Bool) (before behind : List Record) → find p before ≡ None → find p (before ++ behind) ≡ find p behind
found_behind p [] behind none = refl
found_behind p (x ∷ before) behind none = by (p x) none (λ e. found_behind p before behind e)
  where
    by : (b : Bool) → cond b (Some x) (find p before) ≡ None → (find p before ≡ None → find p (before ++ behind) ≡ find p behind) → cond b (Some x) (find p (before ++ behind)) ≡ find p behind
    by true e later = clash (sym e)
    by false e later = later e

chosen_found : (ad bytes : List ℕ) (rs : List Record) (r : Record) → IsChosen ad bytes rs r → find (opens_first ad bytes) rs ≡ Some r
chosen_found ad bytes rs r c =
    let fit : opens_first ad bytes r ≡ true = ap (key_fits ad bytes) c.has ∙ chosen_fits (ciphers_of ad (filter_map key_in rs)) bytes (cipher_of ad c.key) c.goes_on in
    ap (find (opens_first ad bytes)) c.are
    ∙ found_behind (opens_first ad bytes) c.before (r ∷ c.behind) (no_key_found ad bytes c.before c.passed)
    ∙ ap (λ (b : Bool). cond b (Some r) (find (opens_first ad bytes) c.behind)) fit

-- ---- where none is

some_of : {A : Type 0} (o : Option A) → is_some o ≡ true → (x : A) × (o ≡ Some x)
some_of None is = absurd (cc)
some_of (Some x) is = (x, refl)

-- a key that fits has opened one segment
some_opened : (key : SegmentCipher) (bytes : List ℕ) → fits key bytes ≡ true → 0 < length (opened key bytes true)
unfolding leading
some_opened key bytes fit =
    let p = some_of (opens_at key bytes 0) fit in
    let first : length (leading (opens_at key bytes) 0 (suc (followed key.size bytes))) ≡ suc (length (leading (opens_at key bytes) 1 (followed key.size bytes)))
    = ap (λ (o : Option (List ℕ)). length (before o (leading (opens_at key bytes) 1 (followed key.size bytes)))) p.1 in
    let count : length (opened key bytes true) ≡ length (leading (opens_at key bytes) 0 (suc (followed key.size bytes))) = ap (λ n. length (leading (opens_at key bytes) 0 n)) (add-one (followed key.size bytes)) in
    omega (arith, first, count)

later_refused : (many more : Bool) (n : ℕ) → 0 < n → (if many then Some too_many else (if more then Some (failed n) else None)) ≡ Some (failed 0) → ⊥
later_refused true more n some is = let same : too_many ≡ failed 0 = same_Some _ _ is in cc
later_refused false true n some is = let same : failed n ≡ failed 0 = same_Some _ _ is in let zero : n ≡ 0 = cc in omega (arith, zero, some)
later_refused false false n some is = clash is

refused_first : (ciphers : List SegmentCipher) (bytes : List ℕ) (choice : Choice) → choose ciphers bytes true ≡ choice → decides_by choice bytes true ≡ Some (failed 0) → choose ciphers bytes true ≡ no_key
refused_first ciphers bytes undecided is e = clash e
refused_first ciphers bytes no_key is e = is
refused_first ciphers bytes (chosen key) is e =
    let n = length (opened key bytes true) in
    absurd (later_refused (nat_le most_segments (followed key.size bytes) && nat_le most_segments (n + 1)) (nat_lt n (settled key.size bytes true)) n (some_opened key bytes (chosen_fits ciphers bytes key is)) e)

none_opens : (ciphers : List SegmentCipher) (bytes : List ℕ) → (choose ciphers bytes true ≡ no_key) ↔ (decides ciphers bytes true ≡ Some (failed 0))
none_opens ciphers bytes = (λ none. ap (λ (c : Choice). decides_by c bytes true) none, λ e. refused_first ciphers bytes (choose ciphers bytes true) refl e)

-- ---- the two commands

-- what key-of and sopen answer
told_by : (told : Told) (found : Option Record) → (found ≡ None) ↔ ((answer (with_lines (option_map key_line found) writes) told).status ≡ status.NoKeyOf)
told_by told None = (λ e. refl, λ e. refl)
told_by told (Some r) = (λ e. clash (sym e), λ e. absurd (cc))

opened_by : (part : Part) (told : Told) (o : Option StreamRefusal) → (o ≡ Some (failed 0)) ↔ ((pump_answer part told o).status ≡ status.StreamFailed 0)
opened_by part told None = (λ e. clash e, λ e. absurd (cc))
opened_by part told (Some too_many) = (λ e. let same : too_many ≡ failed 0 = same_Some _ _ e in absurd (cc), λ e. absurd (cc))
opened_by part told (Some (failed n)) = (
  λ e. ap stream_status (same_Some _ _ e),
  λ e. let same : status.StreamFailed n ≡ status.StreamFailed 0 = e in let zero : n ≡ 0 = cc in ap (λ (k : ℕ). Some (failed k)) zero,
)

untold : (keys : Keys) (ad bytes : List ℕ) → (stream_record keys ad (stream_front keys bytes) ≡ None) ↔ (decides (ciphers_of ad (stream_keys keys)) bytes true ≡ Some (failed 0))
unfolding stream_keys
untold keys ad bytes =
    let n = none_opens (ciphers_of ad (filter_map key_in keys.records)) bytes in (
      λ none. n.0 (found_no_key ad bytes keys.records (sym (front_found keys ad bytes) ∙ none)),
      λ e. front_found keys ad bytes ∙ no_key_found ad bytes keys.records (n.1 e),
    )

names : (keys : Keys) (ad bytes : List ℕ) (r : Record) → (stream_record keys ad (stream_front keys bytes) ≡ Some r) ↔ OpensUnder keys ad bytes r
unfolding stream_keys
names keys ad bytes r = (
  λ is. let c = found_chosen ad bytes keys.records r (sym (front_found keys ad bytes) ∙ is) in
      record {
        before = c.before;
        behind = c.behind;
        are = c.are;
        key = c.key;
        has = c.has;
        passed = c.passed;
        goes_on = c.goes_on;
      },
  λ o. front_found keys ad bytes ∙ chosen_found ad bytes keys.records r (record {
    before = o.before;
    behind = o.behind;
    are = o.are;
    key = o.key;
    has = o.has;
    passed = o.passed;
    goes_on = o.goes_on;
  }),
)

-- the keys that a keyset gives
keys_given : (keys : Keys) (those : KeysForStreams) (primary : Option StreamKey) → option_map (λ primary. record { primary = primary; keys = stream_keys keys }) primary ≡ Some those → those.keys ≡ stream_keys keys
keys_given keys those None is = clash is
keys_given keys those (Some key) is = ap (λ (k : KeysForStreams). k.keys) (sym (same_Some _ _ is))

refuse_alike : (keys : Keys) (ad : List ℕ) (told : Told) (unfit : Option (ℕ × StreamUnfit)) (found : Option KeysForStreams) → keys_for keys ≡ found
    → ((answer (unless_unfit (unfit_key origins.Keyset keys) unfit (with_keys found (tells_front ad keys writes))) told).status ≡ status.NoKeyOf)
    ↔ ((answer (unless_unfit (unfit_key origins.Keyset keys) unfit (with_keys found (λ those. opens_stream those ad None))) told).status ≡ status.StreamFailed 0)
refuse_alike keys ad told (Some (i, not_stream)) found is = (λ e. absurd (cc), λ e. absurd (cc))
refuse_alike keys ad told (Some (i, bad_key rule)) found is = (λ e. absurd (cc), λ e. absurd (cc))
refuse_alike keys ad told None None is = (λ e. absurd (cc), λ e. absurd (cc))
refuse_alike keys ad told None (Some those) is =
    let same = keys_given keys those (primary_key keys) is in
    let n = stream_front_size those.keys in
    let t = told_by (record told { input = drop n told.input }) (stream_record keys ad (take n told.input)) in
    let u = untold keys ad told.input in
    let o = opened_by (opening_any (ciphers_of ad those.keys)) told (decides (ciphers_of ad those.keys) told.input true) in
    let front : stream_record keys ad (take n told.input) ≡ stream_record keys ad (stream_front keys told.input)
    = ap (λ (k : List StreamKey). stream_record keys ad (take (stream_front_size k) told.input)) same in
    let refused : decides (ciphers_of ad those.keys) told.input true ≡ decides (ciphers_of ad (stream_keys keys)) told.input true
    = ap (λ (k : List StreamKey). decides (ciphers_of ad k) told.input true) same in
    (λ e. o.0 (refused ∙ u.0 (sym front ∙ t.1 e)), λ e. t.0 (front ∙ u.1 (sym refused ∙ o.1 e)))

pub key_of_stream_tells : KeyOfStreamTells
key_of_stream_tells = record {
  names = names;
  untold = untold;
  refused = λ keys ad told. refuse_alike keys ad told (stream_unfit keys) (keys_for keys) refl;
}
