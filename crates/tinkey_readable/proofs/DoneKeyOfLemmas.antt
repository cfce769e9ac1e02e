-- Where key-of finds a key under which the input stands.
use Rattle.std.proofs.Common.{◌≡◌, ◌⊎◌, inl, inr, ◌∙◌, sym, refl, ap, subst, arith, ℕ, Bool, true, false, cond, ◌||◌, List, [], ◌∷◌, ◌++◌, length, take, drop, Option, Some, None}
use Rattle.std.specs.Prelude.{IsSome, find, option_map}
use Rattle.std.specs.List.{cons_option, filter_map, list_any}
use Rattle.std.proofs.lemmas.List.{take-append-drop, take_at}
use Rattle.std.proofs.lemmas.Slice.Eq.{bytes_eq-Decides}
use Rattle.keyset_model.specs.Keyset.{Keys, fault_of}
use Rattle.keyset_model.specs.declared.record.Record.{Record}
use Rattle.managers.specs.Table.{Table}
use Rattle.segment_stream.specs.KeysModel.{KeysForStreams}
use Rattle.segment_stream.specs.Opening.{fits}
use Rattle.segment_stream.specs.Segments.{cipher_of}
use Rattle.segment_stream.specs.StreamKeys.{key_in, primary_key, stream_keys, stream_unfit}
use Rattle.segment_stream.specs.declared.key.StreamKey.{StreamKey}
use Rattle.tinkey_cmds.proofs.Among.{Among, among-any, contains-among, find-among}
use Rattle.tinkey_session.proofs.KeptKeyLemmas.{same_prefix_is}
use Rattle.tinkey_session.proofs.Options.{map_some, no_truth}
use Rattle.tinkey_plans.proofs.NamingLemmas.{among-contains, five_bytes}
use Rattle.tinkey_plans.proofs.StreamNamingLemmas.{front_found}
use Rattle.tinkey_plans.specs.Commands.{command_plan}
use Rattle.tinkey_plans.specs.KeyOf.{front_of, front_size, key_fits, key_line, key_of_answer, key_of_lines, opens_first, stream_front_size, stream_record, tells_front, tells_keys, tells_prefix, tells_stream, with_lines}
use Rattle.tinkey_plans.specs.Laws.{FitKeysetsAnswer}
use Rattle.tinkey_plans.specs.Plan.{Answer, Plan, Told, answer, writes}
use Rattle.tinkey_plans.specs.Sealers.{may_have_made, stands_under}
use Rattle.tinkey_plans.specs.Streaming.{keys_for, unless_unfit, with_keys}
use Rattle.tinkey_words.specs.declared.words.rows.Format.{Format}
use Rattle.tinkey_words.specs.declared.words.rows.SealedForm.{SealedForm}
use Rattle.tinkey_words.specs.declared.words.rows.SealedForm.TheVariants as forms
use Rattle.tinkey_words.specs.Words.{Lock, key_of}
use Rattle.tinkey_readable.specs.DoneWhere.{KeyOfDone, KeyOfGoes, KeyOfIsDone, OneMayHaveMade, OneOpensFirst, StandsBehind}
use Rattle.tinkey_readable.proofs.LyingLemmas.{behind_faultless, loads_reached, loads_there}
use Rattle.tinkey_readable.proofs.ReachLemmas.{IsDoneAnswer}
use Rattle.tinkey_readable.proofs.StreamRunLemmas.{fit_done, keys_done, with_primary}
use Rattle.wrapped_prims.specs.Candidates.{is_raw, prefix_of, same_prefix}
use Rattle.tinkey_plans.specs.UnfitKeys.{unfit_key}
use Rattle.tinkey_plans.specs.declared.origin.Origin.TheVariants as origins

-- ---- lists

-- what a test finds any of is there, and passes
any_among : {A : Type 0} (p : A → Bool) (xs : List A) → list_any p xs ≡ true → (x : A) × Among x xs × (p x ≡ true)
any_among p [] is = no_truth is
any_among {A} p (x ∷ xs) is = by (p x) refl (λ e. any_among p xs e) is
  where
    by : (b : Bool) → p x ≡ b → (list_any p xs ≡ true → (y : A) × Among y xs × (p y ≡ true)) → (b || list_any p xs) ≡ true → (y : A) × Among y (x ∷ xs) × (p y ≡ true)
    by true test later e = (x, inl refl, test)
    by false test later e = let l = later e in (l.0, inr l.1, l.2)

-- where one passes, one is found
among_found : {A : Type 0} (p : A → Bool) (xs : List A) (x : A) → Among x xs → p x ≡ true → (y : A) × (find p xs ≡ Some y)
among_found p [] x a passes = absurd a
among_found {A} p (y ∷ ys) x a passes = by (p y) refl (λ l. among_found p ys x l passes) a
  where
    by : (b : Bool) → p y ≡ b → (Among x ys → (z : A) × (find p ys ≡ Some z)) → Among x (y ∷ ys) → (z : A) × (cond b (Some y) (find p ys) ≡ Some z)
    by true is later a = (y, refl)
    by false is later (inl same) = no_truth (sym is ∙ ap p same ∙ passes)
    by false is later (inr l) = later l

-- what is given of an element is among what is given of all
given_among : {A B : Type 0} (f : A → Option B) (xs : List A) (x : A) (y : B) → Among x xs → f x ≡ Some y → Among y (filter_map f xs)
given_among f [] x y a is = absurd a
given_among {A} {B} f (z ∷ zs) x y a is = by (f z) refl (λ l. given_among f zs x y l is) a
  where
    by : (o : Option B) → f z ≡ o → (Among x zs → Among y (filter_map f zs)) → Among x (z ∷ zs) → Among y (cons_option o (filter_map f zs))
    by None was later (inl same) = let e : None ≡ Some y = sym was ∙ ap f same ∙ is in absurd cc
    by None was later (inr l) = later l
    by (Some v) was later (inl same) = let e : Some v ≡ Some y = sym was ∙ ap f same ∙ is in inl (cc)
    by (Some v) was later (inr l) = inr (later l)

-- and what is among those was given of one
among_given : {A B : Type 0} (f : A → Option B) (xs : List A) (y : B) → Among y (filter_map f xs) → (x : A) × Among x xs × (f x ≡ Some y)
among_given f [] y a = absurd a
among_given {A} {B} f (z ∷ zs) y a = by (f z) refl (λ l. among_given f zs y l) a
  where
    by : (o : Option B) → f z ≡ o → (Among y (filter_map f zs) → (x : A) × Among x zs × (f x ≡ Some y)) → Among y (cons_option o (filter_map f zs)) → (x : A) × Among x (z ∷ zs) × (f x ≡ Some y)
    by None was later l = let r = later l in (r.0, inr r.1, r.2)
    by (Some v) was later (inl same) = (z, inl refl, was ∙ ap Some same)
    by (Some v) was later (inr l) = let r = later l in (r.0, inr r.1, r.2)

-- ---- a prefix in front

text_stands : (prefix bytes : List ℕ) → front_of forms.Text bytes ≡ prefix → StandsBehind 0 prefix bytes
text_stands prefix bytes is = record {
  first = [];
  size = refl;
  rest = drop 5 bytes;
  are = sym (take-append-drop 5 bytes) ∙ ap (λ (l : List ℕ). l ++ drop 5 bytes) is;
}

stands_text : (prefix bytes : List ℕ) → length prefix ≡ 5 → StandsBehind 0 prefix bytes → front_of forms.Text bytes ≡ prefix
stands_text prefix bytes five s = by s.first s.size s.are
  where
    by : (first : List ℕ) → length first ≡ 0 → bytes ≡ first ++ prefix ++ s.rest → front_of forms.Text bytes ≡ prefix
    by [] size are = ap (λ (l : List ℕ). take 5 l) are ∙ take_at prefix s.rest 5 five
    by (x ∷ xs) size are = absurd (omega (arith, size))

envelope_stands : (prefix bytes : List ℕ) → length prefix ≡ 5 → front_of forms.Envelope bytes ≡ prefix → StandsBehind 4 prefix bytes
envelope_stands prefix [] five is = absurd (let n = ap length is in omega (arith, n, five))
envelope_stands prefix (a ∷ []) five is = absurd (let n = ap length is in omega (arith, n, five))
envelope_stands prefix (a ∷ b ∷ []) five is = absurd (let n = ap length is in omega (arith, n, five))
envelope_stands prefix (a ∷ b ∷ c ∷ []) five is = absurd (let n = ap length is in omega (arith, n, five))
envelope_stands prefix (a ∷ b ∷ c ∷ d ∷ later) five is = record {
  first = a ∷ b ∷ c ∷ d ∷ [];
  size = refl;
  rest = drop 5 later;
  are = ap (λ (l : List ℕ). a ∷ b ∷ c ∷ d ∷ l) (sym (take-append-drop 5 later) ∙ ap (λ (l : List ℕ). l ++ drop 5 later) is);
}

stands_envelope : (prefix bytes : List ℕ) → length prefix ≡ 5 → StandsBehind 4 prefix bytes → front_of forms.Envelope bytes ≡ prefix
stands_envelope prefix bytes five s = by s.first s.size s.are
  where
    by : (first : List ℕ) → length first ≡ 4 → bytes ≡ first ++ prefix ++ s.rest → front_of forms.Envelope bytes ≡ prefix
    by [] size are = absurd (omega (arith, size))
    by (a ∷ []) size are = absurd (omega (arith, size))
    by (a ∷ b ∷ []) size are = absurd (omega (arith, size))
    by (a ∷ b ∷ c ∷ []) size are = absurd (omega (arith, size))
    by (a ∷ b ∷ c ∷ d ∷ []) size are = ap (λ (l : List ℕ). front_of forms.Envelope l) are ∙ take_at prefix s.rest 5 five
    by (a ∷ b ∷ c ∷ d ∷ e ∷ more) size are = absurd (omega (arith, size))

-- ---- a text, a tag and an envelope

-- in bytes of this kind the front that is looked at is what stands behind so many
record LooksBehind (kind : SealedForm) (skipped : ℕ) : Type 0 where
  stands : (prefix bytes : List ℕ) → length prefix ≡ 5 → front_of kind bytes ≡ prefix → StandsBehind skipped prefix bytes
  fronts : (prefix bytes : List ℕ) → length prefix ≡ 5 → StandsBehind skipped prefix bytes → front_of kind bytes ≡ prefix

of_text : LooksBehind forms.Text 0
of_text = record { stands = λ prefix bytes five is. text_stands prefix bytes is; fronts = stands_text }

of_envelope : LooksBehind forms.Envelope 4
of_envelope = record { stands = envelope_stands; fronts = stands_envelope }

lines_found : (o : Option (List ℕ)) (told : Told) → IsDoneAnswer (answer (with_lines o writes) told) → (lines : List ℕ) × (o ≡ Some lines)
lines_found None told done = absurd (cc)
lines_found (Some lines) told done = (lines, refl)

some_lines : (keys : Keys) (front lines : List ℕ) → key_of_answer keys front ≡ Some lines → list_any (may_have_made front) keys.records ≡ true
some_lines keys front lines is = by (list_any (may_have_made front) keys.records) is
  where
    by : (b : Bool) → cond b (Some (key_of_lines keys front)) None ≡ Some lines → b ≡ true
    by true e = refl
    by false e = absurd cc

prefix_goes : (kind : SealedForm) (skipped : ℕ) (keys : Keys) (told : Told) → LooksBehind kind skipped → IsDoneAnswer (answer (tells_prefix kind keys writes) told) → OneMayHaveMade skipped keys told.input
prefix_goes kind skipped keys told looks done =
    let front = front_of kind told.input in
    let l = lines_found (key_of_answer keys front) (record told { input = drop (front_size kind) told.input }) done in
    let one = any_among (may_have_made front) keys.records (some_lines keys front l.0 l.1) in
    let r = one.0 in
    record { r = r; among = contains-among _ r one.1; stands = by r (is_raw r) refl one.2 }
  where
    by : (r : Record) (raw : Bool) → is_raw r ≡ raw → (raw || stands_under (front_of kind told.input) r) ≡ true → ((prefix : List ℕ) × (prefix_of r ≡ Some prefix) × StandsBehind skipped prefix told.input) ⊎ (is_raw r ≡ true)
    by r true is e = inr is
    by r false is e =
        let front = front_of kind told.input in
        let has = same_prefix_is (prefix_of r) (Some front) e in
        inl (front, has, looks.stands front told.input (five_bytes r front has) refl)

prefix_comes : (kind : SealedForm) (skipped : ℕ) (keys : Keys) (told : Told) → LooksBehind kind skipped → OneMayHaveMade skipped keys told.input → IsDoneAnswer (answer (tells_prefix kind keys writes) told)
prefix_comes kind skipped keys told looks x =
    let front = front_of kind told.input in
    let some : list_any (may_have_made front) keys.records ≡ true = among-any (may_have_made front) keys.records x.r (among-contains _ x.r x.among) (passes x.stands) in
    ap (λ (b : Bool). (answer (with_lines (cond b (Some (key_of_lines keys front)) None) writes) (record told { input = drop (front_size kind) told.input })).status) some
  where
    or_any : (b : Bool) → (b || true) ≡ true
    or_any true = refl
    or_any false = refl

    passes : ((prefix : List ℕ) × (prefix_of x.r ≡ Some prefix) × StandsBehind skipped prefix told.input) ⊎ (is_raw x.r ≡ true) → may_have_made (front_of kind told.input) x.r ≡ true
    passes (inl (prefix, has, s)) =
        let same = has ∙ ap Some (sym (looks.fronts prefix told.input (five_bytes x.r prefix has) s)) in
        let front = front_of kind told.input in
        let stands : stands_under front x.r ≡ true = subst (λ own. same_prefix own (Some front) ≡ true) (sym same) ((bytes_eq-Decides front front).1 refl) in
        ap (λ (b : Bool). is_raw x.r || b) stands ∙ or_any (is_raw x.r)
    passes (inr raw) = ap (λ (b : Bool). b || stands_under (front_of kind told.input) x.r) raw

-- ---- a stream

line_found : (o : Option Record) (told : Told) → IsDoneAnswer (answer (with_lines (option_map key_line o) writes) told) → (r : Record) × (o ≡ Some r)
line_found None told done = absurd (cc)
line_found (Some r) told done = (r, refl)

-- a record that opens the first segment has a key that does
record HasFitting (ad bytes : List ℕ) (o : Option StreamKey) : Type 0 where
  key : StreamKey
  has : o ≡ Some key
  opens : fits (cipher_of ad key) bytes ≡ true

fitting : (ad bytes : List ℕ) (o : Option StreamKey) → key_fits ad bytes o ≡ true → HasFitting ad bytes o
fitting ad bytes None is = no_truth is
fitting ad bytes (Some key) is = record { key = key; has = refl; opens = is }

-- the front that is looked at tells what the whole input does
abbrev front_for : KeysForStreams → (input : List ℕ) → List ℕ
front_for those input = take (stream_front_size those.keys) input

same_front : (keys : Keys) (primary : StreamKey) (those : KeysForStreams) (ad input : List ℕ) → with_primary keys primary ≡ those → stream_record keys ad (front_for those input) ≡ stream_record keys ad input
same_front keys primary those ad input is = ap (λ (k : KeysForStreams). stream_record keys ad (front_for k input)) (sym is) ∙ front_found keys ad input

stream_goes : (keys : Keys) (ad : List ℕ) (told : Told) → IsDoneAnswer (answer (tells_stream ad keys writes) told) → OneOpensFirst keys ad told.input
unfolding stream_keys
stream_goes keys ad told done =
    let next = with_keys (keys_for keys) (tells_front ad keys writes) in
    let fit = fit_done _ (stream_unfit keys) next told done in
    let done1 : IsDoneAnswer (answer next told) = sym (ap (λ u. (answer (unless_unfit (unfit_key origins.Keyset keys) u next) told).status) fit) ∙ done in
    let k = keys_done (keys_for keys) (tells_front ad keys writes) told done1 in
    let those = k.0 in
    let done2 : IsDoneAnswer (answer (tells_front ad keys writes those) told) = sym (ap (λ o. (answer (with_keys o (tells_front ad keys writes)) told).status) k.1) ∙ done1 in
    let primary = map_some (with_primary keys) (primary_key keys) those k.1 in
    let l = line_found (stream_record keys ad (front_for those told.input)) (record told { input = drop (stream_front_size those.keys) told.input }) done2 in
    let found = find-among (opens_first ad told.input) keys.records l.0 (sym (same_front keys primary.0 those ad told.input primary.2) ∙ l.1) in
    let f = fitting ad told.input (key_in l.0) found.1 in
    record { fit = fit; key = f.key; among = contains-among _ f.key (given_among key_in keys.records l.0 f.key found.0 f.has); opens = f.opens }

there : (o : Option KeysForStreams) → IsSome o → (those : KeysForStreams) × (o ≡ Some those)
there None some = no_truth some
there (Some those) some = (those, refl)

stream_comes : FitKeysetsAnswer → (keys : Keys) (ad : List ℕ) (told : Told) → fault_of keys ≡ None → OneOpensFirst keys ad told.input → IsDoneAnswer (answer (tells_stream ad keys writes) told)
unfolding stream_keys
stream_comes answers keys ad told faultless x =
    let k = there (keys_for keys) (answers.stream keys faultless x.fit) in
    let those = k.0 in
    let primary = map_some (with_primary keys) (primary_key keys) those k.1 in
    let one = among_given key_in keys.records x.key (among-contains _ x.key x.among) in
    let f = among_found (opens_first ad told.input) keys.records one.0 one.1 (ap (key_fits ad told.input) one.2 ∙ x.opens) in
    let found : stream_record keys ad (front_for those told.input) ≡ Some f.0 = same_front keys primary.0 those ad told.input primary.2 ∙ f.1 in
    ap (λ u. (answer (unless_unfit (unfit_key origins.Keyset keys) u (with_keys (keys_for keys) (tells_front ad keys writes))) told).status) x.fit
    ∙ ap (λ o. (answer (with_keys o (tells_front ad keys writes)) told).status) k.1
    ∙ ap (λ o. (answer (with_lines (option_map key_line o) writes) (record told { input = drop (stream_front_size those.keys) told.input })).status) found

-- ---- the whole

keys_go : (kind : SealedForm) (ad : List ℕ) (keys : Keys) (told : Told) → IsDoneAnswer (answer (tells_keys kind ad keys writes) told) → KeyOfGoes kind ad keys told.input
keys_go forms.Text ad keys told done = prefix_goes forms.Text 0 keys told of_text done
keys_go forms.Envelope ad keys told done = prefix_goes forms.Envelope 4 keys told of_envelope done
keys_go forms.Stream ad keys told done = stream_goes keys ad told done

keys_come : FitKeysetsAnswer → (kind : SealedForm) (ad : List ℕ) (keys : Keys) (told : Told) → fault_of keys ≡ None → KeyOfGoes kind ad keys told.input → IsDoneAnswer (answer (tells_keys kind ad keys writes) told)
keys_come answers forms.Text ad keys told faultless goes = prefix_comes forms.Text 0 keys told of_text goes
keys_come answers forms.Envelope ad keys told faultless goes = prefix_comes forms.Envelope 4 keys told of_envelope goes
keys_come answers forms.Stream ad keys told faultless goes = stream_comes answers keys ad told faultless goes

key_of_is : (table : Table) (lock : Lock) (name : List ℕ) (form : Format) (kind : SealedForm) (ad : List ℕ) (told : Told) → IsDoneAnswer (answer (command_plan table (key_of lock name form kind ad)) told) → KeyOfIsDone table lock name form kind ad told
key_of_is table lock name form kind ad told is =
    let next : Keys → Plan = λ keys. tells_keys kind ad keys writes in
    let k = loads_there table lock name form next told is in
    let reached = loads_reached table lock name form k.0 next told k.1 in
    record { keys = k.0; lies = k.1; goes = keys_go kind ad k.0 told (ap (λ (a : Answer). a.status) (sym reached) ∙ is) }

key_of_comes : FitKeysetsAnswer → (table : Table) (lock : Lock) (name : List ℕ) (form : Format) (kind : SealedForm) (ad : List ℕ) (told : Told) → KeyOfIsDone table lock name form kind ad told → IsDoneAnswer (answer (command_plan table (key_of lock name form kind ad)) told)
key_of_comes answers table lock name form kind ad told x =
    let next : Keys → Plan = λ keys. tells_keys kind ad keys writes in
    ap (λ (a : Answer). a.status) (loads_reached table lock name form x.keys next told x.lies)
    ∙ keys_come answers kind ad x.keys told (behind_faultless table lock (record { file = Some name; form = form }) told x.keys x.lies) x.goes

pub key_of_done : FitKeysetsAnswer → KeyOfDone
key_of_done answers table lock name form kind ad told = (key_of_is table lock name form kind ad told, key_of_comes answers table lock name form kind ad told)
