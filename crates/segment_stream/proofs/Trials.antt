-- The order of trials: the first key that fits, each earlier one decided.
use Rattle.std.proofs.Common.{◌≡◌, ℕ, ◌+◌, ◌<◌, ◌≤◌, List, [], ◌∷◌, ◌++◌, length, take, drop, refl, sym, ◌∙◌, ap, subst, arith, inl, inr, append_assoc, append-nil}
use Rattle.std.specs.Prelude.{Bool, true, false, Option, Some, None, Result, Ok, Err, ◌||◌, ◌&&◌, nat_lt, if◌then◌else◌}
use Rattle.std.specs.Option.{is_some}
use Rattle.std.proofs.lemmas.Bool.{cases_lt}
use Rattle.std.proofs.lemmas.Bool.Decides.{nat_tests}
use Rattle.std.proofs.lemmas.List.{length-append, drop_all}
use Rattle.tink_spec.specs.Outside.{SourceState, SinkState, Rose, Stood, Gave, Took, TookPrefix, IsAtEnd, next}
use Rattle.tink_spec.proofs.Moves.{gave_more, took_nothing, took_more}
use Rattle.segment_stream.specs.Pieces.{followed}
use Rattle.segment_stream.specs.Cipher.{SegmentCipher, IsCipher, most_segments, behind_header}
use Rattle.segment_stream.specs.Opening.{has_header, piece_opens, opens_at, is_decided, fits, Choice, undecided, no_key, chosen, choose, released_by, decides_by, failed}
use Rattle.segment_stream.specs.Under.{Standing}
use Rattle.segment_stream.specs.Pumping.{Pumps, pumped, refused, unread, unwritten, opening_under, opening_any, Follows, ShowsFaults}
use Rattle.segment_stream.specs.Reading.{Decided, Undecided}
use Rattle.segment_stream.specs.declared.fault.OpenPumpFault.{OpenPumpFault}
use Rattle.segment_stream.specs.declared.fault.OpenPumpFault.TheVariants as fault
use Rattle.segment_stream.proofs.Places.{followed-from}
use Rattle.segment_stream.proofs.OpeningLemmas.{opens_at-more}
use Rattle.segment_stream.proofs.Standing.{standing_begins, standing_next, standing_front, standing_ends, full_opens, short_opens, Stops}
use Rattle.segment_stream.proofs.Pass.{rose_after}

-- the first keys are decided, and don't fit
pub record Trying (ciphers : List SegmentCipher) (index : ℕ) (was now : SourceState) (taken : List ℕ) (ended : Bool) : Type 0 where
  pub gave : Gave was now taken
  pub end : ended ≡ true → IsAtEnd now
  pub passed : (more : List ℕ) (e : Bool) → Follows ended more e → choose ciphers (taken ++ more) e ≡ choose (drop index ciphers) (taken ++ more) e

pub trying_reads : (ciphers : List SegmentCipher) (index size : ℕ) (was mid now : SourceState) (taken after : List ℕ) (ended later : Bool) → Trying ciphers index was mid taken ended → Decided mid now taken after ended later size → Trying ciphers index was now after later
trying_reads ciphers index size was mid now taken after ended later t d = subst (λ (l : List ℕ). Trying ciphers index was now l later) (sym d.is) (record {
  gave = gave_more _ _ _ _ _ t.gave d.gave;
  end = d.end;
  passed = λ more e f. ap (λ (l : List ℕ). choose ciphers l e) (append_assoc taken d.piece more) ∙ t.passed (d.piece ++ more) e (both more e f) ∙ ap (λ (l : List ℕ). choose (drop index ciphers) l e) (sym (append_assoc taken d.piece more));
})
  where
    both : (more : List ℕ) (e : Bool) → Follows later more e → Follows ended (d.piece ++ more) e
    both more e f h = let a = d.follows h in let b = f a.1 in (ap (λ (l : List ℕ). l ++ more) a.0 ∙ b.0, b.1)

-- a first segment that is decided stays so
first_stays : (key : SegmentCipher) (taken more : List ℕ) (ended e : Bool) → IsCipher key → is_decided key taken ended ≡ true → Follows ended more e → (is_decided key (taken ++ more) e ≡ true) × (opens_at key (taken ++ more) 0 ≡ opens_at key taken 0)
first_stays key taken more true e is d f =
    let all = append-nil taken in
    let h = f refl in
    let same : taken ++ more ≡ taken = ap (λ (l : List ℕ). taken ++ l) h.0 ∙ all in
    (ap (λ (b : Bool). is_decided key (taken ++ more) b) h.1, ap (λ (l : List ℕ). opens_at key l 0) same)
first_stays key taken more false e is d f =
    let some : 0 < key.size = omega (arith, is.some, is.room) in
    let lt : key.size < length taken = grind (arith, nat_tests) in
    let now : nat_lt key.size (length (taken ++ more)) ≡ true = grind (arith, nat_tests, length-append taken more) in
    (or_true e (nat_lt key.size (length (taken ++ more))) now, opens_at-more key taken more 0 is (followed-from key.size taken 0 some (omega arith)))
  where
    or_true : (a b : Bool) → b ≡ true → (a || b) ≡ true
    or_true true b h = refl
    or_true false b h = h

by_first : (key : SegmentCipher) (others : List SegmentCipher) (taken : List ℕ) (e : Bool) (o : Option (List ℕ)) → is_decided key taken e ≡ true → opens_at key taken 0 ≡ o → choose (key ∷ others) taken e ≡ (if is_some o then chosen key else choose others taken e)
by_first key others taken e o d opens =
    ap (λ (b : Bool). if b then (if fits key taken then chosen key else choose others taken e) else undecided) d
    ∙ ap (λ (x : Option (List ℕ)). if is_some x then chosen key else choose others taken e) opens

-- a key that doesn't fit is passed
pub trying_passes : (ciphers : List SegmentCipher) (index : ℕ) (key : SegmentCipher) (was now : SourceState) (taken : List ℕ) (ended : Bool) → Trying ciphers index was now taken ended → drop index ciphers ≡ key ∷ drop (index + 1) ciphers → IsCipher key
    → is_decided key taken ended ≡ true → opens_at key taken 0 ≡ None → Trying ciphers (index + 1) was now taken ended
trying_passes ciphers index key was now taken ended t here is d none = record {
  gave = t.gave;
  end = t.end;
  passed = λ more e f.
      let s = first_stays key taken more ended e is d f in
      t.passed more e f ∙ ap (λ (k : List SegmentCipher). choose k (taken ++ more) e) here ∙ by_first key (drop (index + 1) ciphers) (taken ++ more) e None s.0 (s.1 ∙ none);
}

-- a key that fits is chosen
pub trying_chooses : (ciphers : List SegmentCipher) (index : ℕ) (key : SegmentCipher) (was now : SourceState) (taken p : List ℕ) (ended : Bool) → Trying ciphers index was now taken ended → drop index ciphers ≡ key ∷ drop (index + 1) ciphers → IsCipher key
    → is_decided key taken ended ≡ true → opens_at key taken 0 ≡ Some p → (more : List ℕ) (e : Bool) → Follows ended more e → choose ciphers (taken ++ more) e ≡ chosen key
trying_chooses ciphers index key was now taken p ended t here is d opens more e f =
    let s = first_stays key taken more ended e is d f in
    t.passed more e f ∙ ap (λ (k : List SegmentCipher). choose k (taken ++ more) e) here ∙ by_first key (drop (index + 1) ciphers) (taken ++ more) e (Some p) s.0 (s.1 ∙ opens)

pub chosen_now : (ciphers : List SegmentCipher) (key : SegmentCipher) (taken : List ℕ) (ended : Bool) → ((more : List ℕ) (e : Bool) → Follows ended more e → choose ciphers (taken ++ more) e ≡ chosen key) → choose ciphers taken ended ≡ chosen key
chosen_now ciphers key taken ended c = ap (λ (l : List ℕ). choose ciphers l ended) (sym (append-nil taken)) ∙ c [] ended (λ e. (refl, e))

-- the piece in front is there only behind the header
pub opens_has : (key : SegmentCipher) (bytes p : List ℕ) (i : ℕ) (last : Bool) → piece_opens key bytes i last ≡ Some p → has_header key bytes ≡ true
unfolding piece_opens
opens_has key bytes p i last e = by_header (has_header key bytes) refl e
  where
    by_header : (h : Bool) → has_header key bytes ≡ h → (if h && nat_lt i most_segments then key.opens (take key.header bytes) i last (behind_header key.header i (Rattle.segment_stream.specs.Pieces.piece key.size bytes i)) else None) ≡ Some p → has_header key bytes ≡ true
    by_header true h f = h
    by_header false h f = absurd cc

pub no_piece : (key : SegmentCipher) (bytes : List ℕ) (i : ℕ) (last : Bool) → has_header key bytes ≡ false → piece_opens key bytes i last ≡ None
unfolding piece_opens
no_piece key bytes i last e = rw e refl

-- ---- how a pass ends

-- under the key that is chosen
pub pumps_chosen : (ciphers : List SegmentCipher) (key : SegmentCipher) (taken p : List ℕ) (ended : Bool) (result : Result (Unit {0}) OpenPumpFault) (was mid now : SourceState) (old halfway new : SinkState)
    → ((more : List ℕ) (e : Bool) → Follows ended more e → choose ciphers (taken ++ more) e ≡ chosen key) → Gave was mid taken → Took old halfway p
    → Pumps (opening_under key) taken p ended result mid now halfway new → Pumps (opening_any ciphers) [] [] false result was now old new
pumps_chosen ciphers key taken p ended result was mid now old halfway new choice gave took (pumped more out e g f end t o d) =
    let c = sym (choice more true f) in
    pumped (taken ++ more) (p ++ out) e (gave_more _ _ _ _ _ gave g) (λ n. absurd cc) end (took_more _ _ _ _ _ took t) (o ∙ ap (λ (x : Choice). released_by x (taken ++ more) true) c) (ap (λ (x : Choice). decides_by x (taken ++ more) true) (sym c) ∙ d)
pumps_chosen ciphers key taken p ended result was mid now old halfway new choice gave took (refused more out l r e g f end t o d) =
    let c = sym (choice more l f) in
    refused (taken ++ more) (p ++ out) l r e (gave_more _ _ _ _ _ gave g) (λ n. absurd cc) end (took_more _ _ _ _ _ took t) (o ∙ ap (λ (x : Choice). released_by x (taken ++ more) l) c) (ap (λ (x : Choice). decides_by x (taken ++ more) l) (sym c) ∙ d)
pumps_chosen ciphers key taken p ended result was mid now old halfway new choice gave took (unread more out e rose g f t o d) =
    let c = sym (choice more false f) in
    unread (taken ++ more) (p ++ out) e (rose_after _ _ _ gave.faults rose) (gave_more _ _ _ _ _ gave g) (λ n. absurd cc) (took_more _ _ _ _ _ took t) (o ∙ ap (λ (x : Choice). released_by x (taken ++ more) false) c) (ap (λ (x : Choice). decides_by x (taken ++ more) false) (sym c) ∙ d)
pumps_chosen ciphers key taken p ended result was mid now old halfway new choice gave took (unwritten more out rest l e rose g f end t some o) =
    let c = sym (choice more l f) in
    unwritten (taken ++ more) (p ++ out) rest l e (rose_after _ _ _ took.faults rose) (gave_more _ _ _ _ _ gave g) (λ n. absurd cc) end (took_more _ _ _ _ _ took t) some (append_assoc p out rest ∙ o ∙ ap (λ (x : Choice). released_by x (taken ++ more) l) c)

-- no key fits
pub pumps_none : (ciphers : List SegmentCipher) (index : ℕ) (was now : SourceState) (taken : List ℕ) (ended : Bool) (sink : SinkState) → length ciphers ≤ index → Trying ciphers index was now taken ended → Pumps (opening_any ciphers) [] [] false (Err (fault.StreamFailed 0)) was now sink sink
pumps_none ciphers index was now taken ended sink le t =
    let c : choose ciphers taken ended ≡ no_key = ap (λ (l : List ℕ). choose ciphers l ended) (sym (append-nil taken)) ∙ t.passed [] ended (λ e. (refl, e)) ∙ ap (λ (k : List SegmentCipher). choose k (taken ++ []) ended) (drop_all index ciphers le) in
    refused taken [] ended (failed 0) refl t.gave (λ n. absurd cc) t.end (took_nothing sink) (sym (ap (λ (x : Choice). released_by x taken ended) c)) (ap (λ (x : Choice). decides_by x taken ended) c)

-- a read failed before a key was decided
pub pumps_unread : (ciphers : List SegmentCipher) (index : ℕ) (key : SegmentCipher) (was mid now : SourceState) (taken : List ℕ) (ended : Bool) (sink : SinkState) → Trying ciphers index was mid taken ended → drop index ciphers ≡ key ∷ drop (index + 1) ciphers
    → Undecided mid now taken ended key.size → Pumps (opening_any ciphers) [] [] false (Err fault.ReadFault) was now sink sink
pumps_unread ciphers index key was mid now taken ended sink t here u =
    let all = taken ++ u.piece in
    let short : nat_lt key.size (length all) ≡ false = grind (arith, nat_tests, length-append taken u.piece, u.below) in
    let c : choose ciphers all false ≡ undecided = t.passed u.piece false (λ e. let no : false ≡ true = sym u.open_end ∙ e in absurd cc)
    ∙ ap (λ (k : List SegmentCipher). choose k all false) here
    ∙ ap (λ (b : Bool). if b then (if fits key all then chosen key else choose (drop (index + 1) ciphers) all false) else undecided) short in
    unread all [] refl (rose_after _ _ _ t.gave.faults u.rose) (gave_more _ _ _ _ _ t.gave u.gave) (λ n. absurd cc) (took_nothing sink) (sym (ap (λ (x : Choice). released_by x all false) c)) (ap (λ (x : Choice). decides_by x all false) c)

-- the first segment is the last
pub first_last : (key : SegmentCipher) (taken p : List ℕ) → IsCipher key → length taken ≤ key.size → opens_at key taken 0 ≡ Some p → Stops key taken true p None
first_last key taken p is short opens =
    let s = standing_begins key taken (opens_has key taken p 0 _ opens) in
    standing_ends key (take key.header taken) taken 0 taken [] p is s short (omega arith) (sym (short_opens key (take key.header taken) taken 0 taken [] is s short (omega arith)) ∙ opens)

pub pumps_first : (ciphers : List SegmentCipher) (key : SegmentCipher) (was now : SourceState) (old new : SinkState) (taken p : List ℕ) → choose ciphers taken true ≡ chosen key → IsCipher key → Gave was now taken → IsAtEnd now → length taken ≤ key.size → opens_at key taken 0 ≡ Some p → Took old new p
    → Pumps (opening_any ciphers) [] [] false (Ok tt) was now old new
pumps_first ciphers key was now old new taken p c is gave end short opens took =
    let s = first_last key taken p is short opens in
    pumped taken p refl gave (λ n. absurd cc) end took (sym (ap (λ (x : Choice). released_by x taken true) c ∙ s.released)) (ap (λ (x : Choice). decides_by x taken true) c ∙ s.decided)

-- the first segment is followed
pub first_stands : (key : SegmentCipher) (taken p : List ℕ) → IsCipher key → key.size < length taken → opens_at key taken 0 ≡ Some p → Standing key (take key.header taken) taken 1 (drop key.size taken) p
first_stands key taken p is full opens =
    let s = standing_begins key taken (opens_has key taken p 0 _ opens) in
    standing_next key (take key.header taken) taken 0 taken [] p is s full (omega arith) (sym (full_opens key (take key.header taken) taken 0 taken [] is s full (omega arith)) ∙ opens)

-- a first segment that opens is a front of what is released
pub first_front : (key : SegmentCipher) (taken p : List ℕ) (ended : Bool) → IsCipher key → is_decided key taken ended ≡ true → opens_at key taken 0 ≡ Some p → (rest : List ℕ) × (p ++ rest ≡ released_by (chosen key) taken ended)
first_front key taken p ended is decided opens = elim (cases_lt key.size (length taken)) [
  | inl full ↦ standing_front key (take key.header taken) taken 1 (drop key.size taken) p ended (first_stands key taken p is full opens)
  | inr short ↦ ([], append-nil p ∙ sym ((first_last key taken p is short opens).released) ∙ ap (λ (b : Bool). released_by (chosen key) taken b) (sym (short_true ended decided short)))
]
  where
    short_true : (e : Bool) → (e || nat_lt key.size (length taken)) ≡ true → length taken ≤ key.size → e ≡ true
    short_true true d h = refl
    short_true false d h = let no : nat_lt key.size (length taken) ≡ false = grind (arith, nat_tests) in absurd cc

pub pumps_unwritten : (ciphers : List SegmentCipher) (key : SegmentCipher) (was now : SourceState) (old new : SinkState) (taken p : List ℕ) (ended : Bool) → choose ciphers taken ended ≡ chosen key → IsCipher key → Gave was now taken → (ended ≡ true → IsAtEnd now) → is_decided key taken ended ≡ true
    → opens_at key taken 0 ≡ Some p → Rose old.faults new.faults → TookPrefix old new p → Pumps (opening_any ciphers) [] [] false (Err fault.WriteFault) was now old new
pumps_unwritten ciphers key was now old new taken p ended c is gave end decided opens rose t =
    let r = first_front key taken p ended is decided opens in
    unwritten taken t.front (t.rest ++ r.0) ended refl rose gave (λ n. absurd cc) end t.took (omega (arith, t.some, length-append t.rest r.0))
    (sym (append_assoc t.front t.rest r.0) ∙ ap (λ (l : List ℕ). l ++ r.0) t.whole ∙ r.1 ∙ sym (ap (λ (x : Choice). released_by x taken ended) c))

-- no fault is hidden by a pass behind calls that met none
pub shows_after : (result : Result (Unit {0}) OpenPumpFault) (was mid now : SourceState) (old halfway new : SinkState) → Stood was.faults mid.faults → Stood old.faults halfway.faults → ShowsFaults result mid now halfway new → ShowsFaults result was now old new
shows_after (Ok done) was mid now old halfway new r w s = (s.0 ∙ r, s.1 ∙ w)
shows_after (Err fault.ReadFault) was mid now old halfway new r w s = (s.0 ∙ ap next r, s.1 ∙ w)
shows_after (Err fault.WriteFault) was mid now old halfway new r w s = (s.0 ∙ r, s.1 ∙ ap next w)
shows_after (Err fault.TooManySegments) was mid now old halfway new r w s = (s.0 ∙ r, s.1 ∙ w)
shows_after (Err (fault.StreamFailed number)) was mid now old halfway new r w s = (s.0 ∙ r, s.1 ∙ w)
