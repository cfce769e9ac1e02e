-- key-of of a stream: the record at a place among the ENABLED ones, which gives the key at that place; and what was
-- read to choose it.
use Rattle.std.proofs.Common.{◌≡◌, ◌∙◌, ap, refl, sym, subst, arith, inl, ℕ, zero, suc, ◌+◌, ◌-◌, ◌<◌, ◌≤◌, Bool, true, false, cond, List, [], ◌∷◌, length, drop, drop-cons, add-one, Option, Some, None, Result, Ok, Err}
use Rattle.std.specs.Prelude.{filter, find, if◌then◌else◌, option_map, slice_get, ◌==◌}
use Rattle.std.specs.List.{AllByRecursion, cons_option, filter_map, position_from}
use Rattle.std.specs.Option.{is_some}
use Rattle.std.proofs.lemmas.Option.{get_or_from_slice_get, same_Some, slice_get_within}
use Rattle.keyset_model.specs.Keyset.{Keys, is_enabled}
use Rattle.keyset_model.specs.declared.record.Record.{Record}
use Rattle.segment_stream.specs.Choosing.{Chooses, place_of}
use Rattle.segment_stream.specs.Cipher.{SegmentCipher}
use Rattle.segment_stream.specs.KeysModel.{AreOf, KeysForStreams}
use Rattle.segment_stream.specs.Opening.{fits}
use Rattle.segment_stream.specs.PumpModels.{OpenerState}
use Rattle.segment_stream.specs.Reading.{GaveBelow}
use Rattle.segment_stream.specs.Segments.{cipher_of, ciphers_of}
use Rattle.segment_stream.specs.StreamKeys.{StreamUnfit, given, key_in, largest_of, refused, stream_key_of, stream_keys, stream_unfit, unfit_record, unfit_records}
use Rattle.segment_stream.specs.declared.key.StreamKey.{StreamKey}
use Rattle.tink_spec.specs.Outside.{Rose, SourceState, Stood}
use Rattle.tinkey_plans.proofs.StepLemmas.{passes_then}
use Rattle.tinkey_plans.proofs.StreamFitLemmas.{none_unfit}
use Rattle.tinkey_plans.specs.Ends.{World, front_failed, front_read}
use Rattle.tinkey_plans.specs.KeyOf.{key_fits, key_line, opens_first, stream_front_size, stream_record_line, tells_front, with_lines}
use Rattle.tinkey_plans.specs.Plan.{Plan, allocates, reads_front}
use Rattle.tinkey_plans.specs.Steps.{Passes}
use Rattle.tinkey_plans.specs.Streaming.{takes_stream_keys}
use Rattle.tinkey_plans.specs.declared.status.Status.{Status}
use Rattle.tinkey_plans.specs.declared.status.Status.TheVariants as status
use Rattle.tinkey_session.proofs.Options.{clash}
use Rattle.tinkey_actions.proofs.StreamLemmas.{keys_are}

-- ---- the record at a place among the ENABLED ones

rest_there : (rs : List Record) (i : ℕ) (r : Record) → slice_get rs i ≡ Some r → drop i rs ≡ r ∷ drop (i + 1) rs
rest_there rs i r there =
    rw add-one (drop-cons rs i r (slice_get_within rs i r there) ∙ ap (λ (x : Record). x ∷ drop (suc i) rs) (get_or_from_slice_get rs i r r there))

-- those from a place on, of which the first is ENABLED, or isn't
enabled_next : (rs : List Record) (i : ℕ) (r : Record) (b : Bool) → slice_get rs i ≡ Some r → is_enabled r ≡ b → filter is_enabled (drop i rs) ≡ cond b (r ∷ filter is_enabled (drop (i + 1) rs)) (filter is_enabled (drop (i + 1) rs))
enabled_next rs i r b there is =
    ap (filter is_enabled) (rest_there rs i r there)
    ∙ ap (λ b. cond b (r ∷ filter is_enabled (drop (i + 1) rs)) (filter is_enabled (drop (i + 1) rs))) is

get_behind : (r : Record) (rs : List Record) (n : ℕ) → 0 < n → slice_get (r ∷ rs) n ≡ slice_get rs (n - 1)
get_behind r rs zero some = absurd (omega (arith, some))
get_behind r rs (suc n) some = let e : n ≡ suc n - 1 = omega arith in ap (slice_get rs) e

-- it stands so far behind a place
abbrev pub IsBehind : (rs : List Record) (place i left : ℕ) → Type 0
IsBehind rs place i left = slice_get (filter is_enabled rs) place ≡ slice_get (filter is_enabled (drop i rs)) left

pub enabled_here : (rs : List Record) (place i left : ℕ) (r : Record) → IsBehind rs place i left → slice_get rs i ≡ Some r → is_enabled r ≡ true → left ≡ 0 → slice_get rs i ≡ slice_get (filter is_enabled rs) place
enabled_here rs place i left r behind there is none =
    there ∙ sym (behind ∙ ap (λ (l : List Record). slice_get l left) (enabled_next rs i r true there is) ∙ ap (slice_get (r ∷ filter is_enabled (drop (i + 1) rs))) none)

pub enabled_later : (rs : List Record) (place i left : ℕ) (r : Record) → IsBehind rs place i left → slice_get rs i ≡ Some r → is_enabled r ≡ true → 0 < left → IsBehind rs place (i + 1) (left - 1)
enabled_later rs place i left r behind there is some =
    behind ∙ ap (λ (l : List Record). slice_get l left) (enabled_next rs i r true there is) ∙ get_behind r (filter is_enabled (drop (i + 1) rs)) left some

pub enabled_passes : (rs : List Record) (place i left : ℕ) (r : Record) → IsBehind rs place i left → slice_get rs i ≡ Some r → is_enabled r ≡ false → IsBehind rs place (i + 1) left
enabled_passes rs place i left r behind there is =
    behind ∙ ap (λ (l : List Record). slice_get l left) (enabled_next rs i r false there is)

pub some_left : (n : ℕ) → (n ≡ 0 → ⊥) → 0 < n
some_left zero other = absurd (other refl)
some_left (suc n) other = omega arith

-- ---- the key at a place is that of the ENABLED record there

each_fit : (place : ℕ) (rs : List Record) → slice_get (unfit_records place rs) 0 ≡ None → AllByRecursion (λ r. unfit_record r ≡ None) rs
each_fit place [] fit = tt
each_fit place (r ∷ rs) fit = let parts = none_unfit place r rs fit in (parts.0, each_fit (place + 1) rs parts.1)

gives_key : (r : Record) → unfit_record r ≡ None → is_some (key_in r) ≡ is_enabled r
gives_key r fit = by (r.status == 1) (stream_key_of r) fit
  where
    by : (b : Bool) (read : Result StreamKey StreamUnfit) → (if b then refused read else None) ≡ None → is_some (if b then given read else None) ≡ b
    by true (Ok key) e = refl
    by true (Err why) e = clash (sym e)
    by false read e = refl

abbrev IsPlaced : (ad front : List ℕ) (rs : List Record) (i p : ℕ) → Type 0
IsPlaced ad front rs i p = (i ≤ p) × (find (opens_first ad front) rs ≡ slice_get (filter is_enabled rs) (p - i))

placed : (ad front : List ℕ) (rs : List Record) (i p : ℕ) → AllByRecursion (λ r. unfit_record r ≡ None) rs → position_from (λ (key : SegmentCipher). fits key front) i (ciphers_of ad (filter_map key_in rs)) ≡ Some p → IsPlaced ad front rs i p
placed ad front [] i p fit e = clash e
placed ad front (r ∷ rs) i p fit e = by (is_enabled r) (key_in r) (gives_key r fit.0) e (λ j e. placed ad front rs j p fit.1 e)
  where
    by_fit : (key : StreamKey) (b : Bool) → cond b (Some i) (position_from (λ (key : SegmentCipher). fits key front) (i + 1) (ciphers_of ad (filter_map key_in rs))) ≡ Some p → ((j : ℕ) → position_from (λ (key : SegmentCipher). fits key front) j (ciphers_of ad (filter_map key_in rs)) ≡ Some p → IsPlaced ad front rs j p)
        → (i ≤ p) × (cond b (Some r) (find (opens_first ad front) rs) ≡ slice_get (r ∷ filter is_enabled rs) (p - i))
    by_fit key true e later =
        let same : i ≡ p = same_Some _ _ e in
        let none : 0 ≡ p - i = omega (arith, same) in
        (omega (arith, same), ap (slice_get (r ∷ filter is_enabled rs)) none)
    by_fit key false e later =
        let n = later (i + 1) e in
        let less : (p - i) - 1 ≡ p - (i + 1) = omega arith in
        (omega (arith, n.0), n.1 ∙ sym (get_behind r (filter is_enabled rs) (p - i) (omega (arith, n.0)) ∙ ap (slice_get (filter is_enabled rs)) less))

    by : (b : Bool) (o : Option StreamKey) → is_some o ≡ b → position_from (λ (key : SegmentCipher). fits key front) i (ciphers_of ad (cons_option o (filter_map key_in rs))) ≡ Some p → ((j : ℕ) → position_from (λ (key : SegmentCipher). fits key front) j (ciphers_of ad (filter_map key_in rs)) ≡ Some p → IsPlaced ad front rs j p)
        → (i ≤ p) × (cond (key_fits ad front o) (Some r) (find (opens_first ad front) rs) ≡ slice_get (cond b (r ∷ filter is_enabled rs) (filter is_enabled rs)) (p - i))
    by true (Some key) h e later = by_fit key (fits (cipher_of ad key) front) e later
    by true None h e later = absurd (cc)
    by false (Some key) h e later = absurd (cc)
    by false None h e later = later i e

unplaced : (ad front : List ℕ) (rs : List Record) (i : ℕ) → position_from (λ (key : SegmentCipher). fits key front) i (ciphers_of ad (filter_map key_in rs)) ≡ None → find (opens_first ad front) rs ≡ None
unplaced ad front [] i e = refl
unplaced ad front (r ∷ rs) i e = by (key_in r) e (λ j e. unplaced ad front rs j e)
  where
    by_fit : (key : StreamKey) (b : Bool) → cond b (Some i) (position_from (λ (key : SegmentCipher). fits key front) (i + 1) (ciphers_of ad (filter_map key_in rs))) ≡ None → ((j : ℕ) → position_from (λ (key : SegmentCipher). fits key front) j (ciphers_of ad (filter_map key_in rs)) ≡ None → find (opens_first ad front) rs ≡ None) → cond b (Some r) (find (opens_first ad front) rs) ≡ None
    by_fit key true e later = clash (sym e)
    by_fit key false e later = later (i + 1) e

    by : (o : Option StreamKey) → position_from (λ (key : SegmentCipher). fits key front) i (ciphers_of ad (cons_option o (filter_map key_in rs))) ≡ None → ((j : ℕ) → position_from (λ (key : SegmentCipher). fits key front) j (ciphers_of ad (filter_map key_in rs)) ≡ None → find (opens_first ad front) rs ≡ None) → cond (key_fits ad front o) (Some r) (find (opens_first ad front) rs) ≡ None
    by (Some key) e later = by_fit key (fits (cipher_of ad key) front) e later
    by None e later = later i e

-- the line of the record at a place, where there is one
abbrev pub line_at : Keys → Option ℕ → Option (List ℕ)
line_at keys None = None
line_at keys (Some place) = option_map key_line (slice_get (filter is_enabled keys.records) place)

placed_line : (keys : Keys) (ad front : List ℕ) (place : Option ℕ) → stream_unfit keys ≡ None → place_of (ciphers_of ad (stream_keys keys)) front ≡ place → stream_record_line keys ad front ≡ line_at keys place
unfolding stream_unfit stream_keys
placed_line keys ad front None fit is = ap (option_map key_line) (unplaced ad front keys.records 0 is)
placed_line keys ad front (Some p) fit is =
    let found = placed ad front keys.records 0 p (each_fit 0 keys.records fit) is in
    let same : p - 0 ≡ p = omega arith in
    ap (option_map key_line) (found.1 ∙ ap (slice_get (filter is_enabled keys.records)) same)

-- ---- the step

allocated : {A : Type 0} (step : (A → Plan) → Plan) (old new : World) (r : Result A Status) → Passes step old r new → Passes (λ next. allocates (step next)) old r new
allocated step old new (Ok value) passes = λ next s last run. inl (passes next s last run)
allocated step old new (Err e) passes = λ next. inl (passes next)

-- an opener under the keys that a keyset gives
pub record IsOpenerOf (keys : Keys) (those : KeysForStreams) (ad : List ℕ) (opener : OpenerState) : Type 0 where
  pub of' : AreOf those keys
  pub fit : stream_unfit keys ≡ None
  pub other : List ℕ
  pub same : other ≡ ad
  pub is : opener ≡ record { keys = those; ad = other; room = largest_of those.keys + 1 }

-- a key was chosen, or none
pub chosen_passes : (keys : Keys) (those : KeysForStreams) (ad : List ℕ) (opener : OpenerState) (place : Option ℕ) (r : Result (List ℕ) Status) (old : World) (now : SourceState) → IsOpenerOf keys those ad opener
    → Chooses (ciphers_of opener.ad opener.keys.keys) opener.room old.source now place → Stood old.source.faults now.faults
    → Passes (with_lines (line_at keys place)) (record old { source = now }) r (record old { source = now })
    → Passes (λ next. tells_front ad keys next those) old r (record old { source = now })
chosen_passes keys those ad opener place r old now o chooses stood tells =
    let size = largest_of those.keys + 1 in
    let c : Chooses (ciphers_of ad those.keys) size old.source now place
    = subst (λ (a : List ℕ). Chooses (ciphers_of a those.keys) size old.source now place) o.same
    (subst (λ (x : OpenerState). Chooses (ciphers_of x.ad x.keys.keys) x.room old.source now place) o.is chooses) in
    let line = placed_line keys ad c.front place o.fit (ap (λ (k : List StreamKey). place_of (ciphers_of ad k) c.front) (sym o.of'.0) ∙ sym c.is) in
    let new = record old { source = now } in
    allocated (λ next. reads_front (stream_front_size those.keys) (λ front. with_lines (stream_record_line keys ad front) next)) old new r
    (passes_then (reads_front size) (λ (front : List ℕ). with_lines (stream_record_line keys ad front)) old new new c.front r
    (λ next s last run. front_read c.front now c.gave stood c.within c.end run)
    (subst (λ (l : Option (List ℕ)). Passes (with_lines l) new r new) (sym line) tells))

-- a read failed
pub unchosen_ends : (keys : Keys) (those : KeysForStreams) (ad : List ℕ) (opener : OpenerState) (old : World) (now : SourceState) → IsOpenerOf keys those ad opener
    → GaveBelow old.source now 0 opener.room → Rose old.source.faults now.faults
    → Passes {A = List ℕ} (λ next. tells_front ad keys next those) old (Err status.ReadFault) (record old { source = now })
unchosen_ends keys those ad opener old now o gave rose = λ next.
    inl (front_failed gave.piece refl (record { sink = refl; store = refl; entropy = refl }) rose gave.gave
    (omega (arith, gave.below, ap (λ (x : OpenerState). x.room) o.is)))

-- with the keys that a keyset gives
pub given_pass : (keys : Keys) (those : KeysForStreams) (step : (List ℕ → Plan) → KeysForStreams → Plan) (r : Result (List ℕ) Status) (old new : World) → stream_unfit keys ≡ None → AreOf those keys
    → Passes (λ next. step next those) old r new → Passes (λ next. takes_stream_keys keys (step next)) old r new
given_pass keys those step (Ok lines) old new fit are passes = λ next s last run. inl (rw (fit, keys_are keys those are) (passes next s last run))
given_pass keys those step (Err e) old new fit are passes = λ next. inl (rw (fit, keys_are keys those are) (passes next))
