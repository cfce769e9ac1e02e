-- The end of a stream that is opened as its bytes arrive.
use Rattle.std.proofs.Common.{◌≡◌, ℕ, ◌<◌, ◌≤◌, List, [], length, take, drop, sym, ◌∙◌, ap, subst, arith, append-nil}
use Rattle.std.specs.Prelude.{true, false}
use Rattle.tink_spec.specs.Outside.{SinkState}
use Rattle.segment_stream.specs.Arriving.{IsChosen, IsTrying, IsUnderKey, OpenStopsLast, OpeningState, OpensLast, StandsAt}
use Rattle.segment_stream.specs.Cipher.{SegmentCipher}
use Rattle.segment_stream.specs.Halting.{Halts, IsOpened}
use Rattle.segment_stream.specs.Opening.{chosen, choose}
use Rattle.segment_stream.specs.Pumping.{opening_any, opening_under}
use Rattle.segment_stream.specs.Segments.{ciphers_of}
use Rattle.segment_stream.specs.Settling.{OpensFirst}
use Rattle.segment_stream.specs.Streams.{IsUnder, StreamState}
use Rattle.segment_stream.specs.Under.{Standing}
use Rattle.segment_stream.specs.declared.fault.OpenPumpFault.{OpenPumpFault}
use Rattle.segment_stream.proofs.ArrivingLemmas.{halts_passed, halts_under, opened_passed, opened_under}
use Rattle.segment_stream.proofs.Followed.{halts_after, opened_after}
use Rattle.segment_stream.proofs.Trials.{chosen_now, first_last, first_stands}

-- ---- where the first segment was opened at the end

-- it is the last
pub first_is_last : (ciphers : List SegmentCipher) (stream : StreamState) (taken after : List ℕ) (old new : SinkState) → OpensFirst ciphers stream taken after true old new → length taken ≤ stream.size → IsOpened (opening_any ciphers) taken [] old new
first_is_last ciphers stream taken after old new x short =
    let s = first_last x.key taken x.plain x.under.is (omega (arith, short, x.under.size)) x.opens in
    opened_under ciphers x.key taken [] old new (chosen_now ciphers x.key taken true x.choice) (record { more = x.plain; took = x.took; whole = sym s.released; none = s.decided })

-- what stands behind it
abbrev pub Behind : SegmentCipher → StreamState → (taken : List ℕ) → (number : ℕ) → (behind written : List ℕ) → Type 0
Behind key stream taken number behind written = IsUnder stream key (take key.header taken) × Standing key (take key.header taken) taken number behind written

behind_first : (ciphers : List SegmentCipher) (stream : StreamState) (taken after behind : List ℕ) (number : ℕ) (old mid : SinkState) → (x : OpensFirst ciphers stream taken after true old mid) → stream.size < length taken → number ≡ 1 → behind ≡ drop stream.size after → Behind x.key stream taken number behind x.plain
behind_first ciphers stream taken after behind number old mid x full one e =
    let s = first_stands x.key taken x.plain x.under.is (omega (arith, full, x.under.size)) x.opens in (
      x.under,
      subst (λ n. Standing x.key (take x.key.header taken) taken n behind x.plain) (sym one)
          (subst (λ (l : List ℕ). Standing x.key (take x.key.header taken) taken 1 l x.plain) (sym (e ∙ ap (λ n. drop n after) x.under.size ∙ x.rest)) s),
    )

pub first_then_opened : (ciphers : List SegmentCipher) (stream : StreamState) (taken after behind : List ℕ) (number : ℕ) (old mid new : SinkState) → (x : OpensFirst ciphers stream taken after true old mid) → stream.size < length taken → number ≡ 1 → behind ≡ drop stream.size after
    → ((cipher : SegmentCipher) (header t written : List ℕ) → IsUnder stream cipher header → Standing cipher header t number behind written → IsOpened (opening_under cipher) t written mid new) → IsOpened (opening_any ciphers) taken [] old new
first_then_opened ciphers stream taken after behind number old mid new x full one e rest =
    let b = behind_first ciphers stream taken after behind number old mid x full one e in
    opened_under ciphers x.key taken [] old new (chosen_now ciphers x.key taken true x.choice)
    (opened_after (opening_under x.key) taken [] x.plain old mid new x.took (rest x.key (take x.key.header taken) taken x.plain b.0 b.1))

pub first_then_halts : (ciphers : List SegmentCipher) (stream : StreamState) (taken after behind : List ℕ) (number : ℕ) (fault : OpenPumpFault) (old mid new : SinkState) → (x : OpensFirst ciphers stream taken after true old mid) → stream.size < length taken → number ≡ 1 → behind ≡ drop stream.size after
    → ((cipher : SegmentCipher) (header t written : List ℕ) → IsUnder stream cipher header → Standing cipher header t number behind written → Halts (opening_under cipher) fault t written true mid new) → Halts (opening_any ciphers) fault taken [] true old new
first_then_halts ciphers stream taken after behind number fault old mid new x full one e rest =
    let b = behind_first ciphers stream taken after behind number old mid x full one e in
    halts_under ciphers x.key fault taken [] true old new (chosen_now ciphers x.key taken true x.choice)
    (halts_after (opening_under x.key) fault taken [] x.plain true old mid new x.took (rest x.key (take x.key.header taken) taken x.plain b.0 b.1))

-- ---- by the stage

chosen_end : (ciphers : List SegmentCipher) (key : SegmentCipher) (taken : List ℕ) → IsChosen ciphers key taken false → choose ciphers taken true ≡ chosen key
chosen_end ciphers key taken choice = ap (λ (l : List ℕ). choose ciphers l true) (sym (append-nil taken)) ∙ choice [] true (λ n. absurd cc)

pub under_opened : (ciphers : List SegmentCipher) (stream : StreamState) (number : ℕ) (taken held written : List ℕ) (old new : SinkState) → IsUnderKey ciphers stream number taken held written
    → ((cipher : SegmentCipher) (header t w : List ℕ) → IsUnder stream cipher header → Standing cipher header t number held w → IsOpened (opening_under cipher) t w old new) → IsOpened (opening_any ciphers) taken written old new
under_opened ciphers stream number taken held written old new x rest = opened_under ciphers x.key taken written old new (chosen_end ciphers x.key taken x.choice) (rest x.key x.header taken written x.under x.stands)

pub under_halted : (ciphers : List SegmentCipher) (stream : StreamState) (number : ℕ) (taken held written : List ℕ) (fault : OpenPumpFault) (old new : SinkState) → IsUnderKey ciphers stream number taken held written
    → ((cipher : SegmentCipher) (header t w : List ℕ) → IsUnder stream cipher header → Standing cipher header t number held w → Halts (opening_under cipher) fault t w true old new) → Halts (opening_any ciphers) fault taken written true old new
under_halted ciphers stream number taken held written fault old new x rest = halts_under ciphers x.key fault taken written true old new (chosen_end ciphers x.key taken x.choice) (rest x.key x.header taken written x.under x.stands)

-- the keys that are left choose as all do
left_end : (ciphers : List SegmentCipher) (tried : ℕ) (taken held written : List ℕ) → IsTrying ciphers tried taken held written → choose ciphers taken true ≡ choose (drop tried ciphers) taken true
left_end ciphers tried taken held written t = ap (λ (l : List ℕ). choose ciphers l true) (sym (append-nil taken)) ∙ t.passed [] true (λ n. absurd cc) ∙ ap (λ (l : List ℕ). choose (drop tried ciphers) l true) (append-nil taken)

pub tried_opened : (ciphers : List SegmentCipher) (tried : ℕ) (taken held written : List ℕ) (old new : SinkState) → IsTrying ciphers tried taken held written → IsOpened (opening_any (drop tried ciphers)) held [] old new → IsOpened (opening_any ciphers) taken written old new
tried_opened ciphers tried taken held written old new t rest =
    subst (λ (w : List ℕ). IsOpened (opening_any ciphers) taken w old new) (sym t.none)
    (opened_passed ciphers tried taken [] old new (left_end ciphers tried taken held written t)
    (subst (λ (l : List ℕ). IsOpened (opening_any (drop tried ciphers)) l [] old new) t.all rest))

pub tried_halted : (ciphers : List SegmentCipher) (tried : ℕ) (taken held written : List ℕ) (fault : OpenPumpFault) (old new : SinkState) → IsTrying ciphers tried taken held written → Halts (opening_any (drop tried ciphers)) fault held [] true old new → Halts (opening_any ciphers) fault taken written true old new
tried_halted ciphers tried taken held written fault old new t rest =
    subst (λ (w : List ℕ). Halts (opening_any ciphers) fault taken w true old new) (sym t.none)
    (halts_passed ciphers tried fault taken [] true old new (left_end ciphers tried taken held written t)
    (subst (λ (l : List ℕ). Halts (opening_any (drop tried ciphers)) fault l [] true old new) t.all rest))

-- ---- as the stream's contracts see it

pub ends_opened : (s : OpeningState) (old new : SinkState) → ((taken written : List ℕ) → StandsAt (ciphers_of s.ad s.keys.keys) s.stage taken s.held written → IsOpened (opening_any (ciphers_of s.ad s.keys.keys)) taken written old new) → OpensLast s old new
ends_opened s old new rest = λ ciphers taken written h.
    subst (λ (c : List SegmentCipher). IsOpened (opening_any c) taken written old new) (sym h.under)
    (rest taken written (subst (λ (c : List SegmentCipher). StandsAt c s.stage taken s.held written) h.under h.stands))

pub ends_halted : (s : OpeningState) (fault : OpenPumpFault) (old new : SinkState) → ((taken written : List ℕ) → StandsAt (ciphers_of s.ad s.keys.keys) s.stage taken s.held written → Halts (opening_any (ciphers_of s.ad s.keys.keys)) fault taken written true old new) → OpenStopsLast fault s old new
ends_halted s fault old new rest = λ ciphers taken written h.
    subst (λ (c : List SegmentCipher). Halts (opening_any c) fault taken written true old new) (sym h.under)
    (rest taken written (subst (λ (c : List SegmentCipher). StandsAt c s.stage taken s.held written) h.under h.stands))
