-- A stream that is opened as its bytes arrive.
use Rattle.std.proofs.Common.{◌≡◌, ℕ, ◌+◌, ◌-◌, ◌<◌, ◌≤◌, List, [], ◌∷◌, ◌++◌, length, take, drop, refl, sym, ◌∙◌, ap, subst, arith, append_assoc, append-nil}
use Rattle.std.specs.Prelude.{Bool, true, false, Some, None, All, ◌||◌, nat_lt, if◌then◌else◌}
use Rattle.std.proofs.lemmas.Bool.Decides.{nat_tests}
use Rattle.std.proofs.lemmas.List.{length-append, drop_all, drop-drop}
use Rattle.tink_spec.specs.Outside.{SourceState, SinkState, Took, TookPrefix}
use Rattle.tink_spec.proofs.Moves.{took_nothing, took_more}
use Rattle.segment_stream.specs.Arriving.{IsChosen, IsTrying, IsUnderKey, Passed, StandsAt}
use Rattle.segment_stream.specs.Cipher.{SegmentCipher, IsCipher, most_segments}
use Rattle.segment_stream.specs.Halting.{Halts, IsOpened, OpensOn}
use Rattle.segment_stream.specs.Opening.{Choice, chosen, choose, decides_by, failed, fits, is_decided, no_key, opens_at, released_by, too_many, undecided}
use Rattle.segment_stream.specs.Pumping.{Part, opening_any, opening_under}
use Rattle.segment_stream.specs.Settling.{OpensFirst, SettledOn, Waits}
use Rattle.segment_stream.specs.Streams.{StreamState}
use Rattle.segment_stream.specs.Under.{Standing}
use Rattle.segment_stream.specs.declared.fault.OpenPumpFault.{OpenPumpFault}
use Rattle.segment_stream.specs.declared.fault.OpenPumpFault.TheVariants as faults
use Rattle.segment_stream.specs.declared.settling.Stage.{Stage}
use Rattle.segment_stream.specs.declared.settling.Stage.TheVariants as stages
use Rattle.segment_stream.proofs.OpeningLemmas.{decides_stays, released_front}
use Rattle.segment_stream.proofs.SegmentLemmas.{still_under}
use Rattle.segment_stream.proofs.Standing.{waits-released}
use Rattle.segment_stream.proofs.Trials.{Trying, chosen_now, first_front, first_stands, trying_chooses, trying_passes}

-- ---- a halt, seen otherwise

-- two streams of which the same is released and refused halt alike
pub halts_alike : (a b : Part) (fault : OpenPumpFault) (taken written : List ℕ) (ended : Bool) (old new : SinkState) → b.output taken ended ≡ a.output taken ended → b.refusal taken ended ≡ a.refusal taken ended
    → Halts a fault taken written ended old new → Halts b fault taken written ended old new
halts_alike a b faults.ReadFault taken written ended old new o r h = absurd h
halts_alike a b faults.WriteFault taken written ended old new o r h = record { more = h.more; rest = h.rest; took = h.took; some = h.some; whole = h.whole ∙ sym o }
halts_alike a b faults.TooManySegments taken written ended old new o r h = record { more = h.more; took = h.took; whole = h.whole ∙ sym o; decided = r ∙ h.decided }
halts_alike a b (faults.StreamFailed number) taken written ended old new o r h = record { more = h.more; took = h.took; whole = h.whole ∙ sym o; decided = r ∙ h.decided }

-- the same of a whole stream
pub opened_alike : (a b : Part) (taken written : List ℕ) (old new : SinkState) → b.output taken true ≡ a.output taken true → b.refusal taken true ≡ a.refusal taken true → IsOpened a taken written old new → IsOpened b taken written old new
opened_alike a b taken written old new o r h = record { more = h.more; took = h.took; whole = h.whole ∙ sym o; none = r ∙ h.none }

-- bytes follow
pub halts_later : (ciphers : List SegmentCipher) (fault : OpenPumpFault) (taken more written : List ℕ) (old new : SinkState) → All IsCipher ciphers → Halts (opening_any ciphers) fault taken written false old new → Halts (opening_any ciphers) fault (taken ++ more) written false old new
halts_later ciphers faults.ReadFault taken more written old new are h = absurd h
halts_later ciphers faults.WriteFault taken more written old new are h =
    let f = released_front ciphers taken more false are in
    record {
      more = h.more;
      rest = h.rest ++ f.0;
      took = h.took;
      some = omega (arith, h.some, length-append h.rest f.0);
      whole = ap (λ (l : List ℕ). written ++ l) (sym (append_assoc h.more h.rest f.0)) ∙ sym (append_assoc written (h.more ++ h.rest) f.0) ∙ ap (λ (l : List ℕ). l ++ f.0) h.whole ∙ f.1;
    }
halts_later ciphers faults.TooManySegments taken more written old new are h =
    let s = decides_stays ciphers taken more false too_many are h.decided in
    record { more = h.more; took = h.took; whole = h.whole ∙ sym s.1; decided = s.0 }
halts_later ciphers (faults.StreamFailed number) taken more written old new are h =
    let s = decides_stays ciphers taken more false (failed number) are h.decided in
    record { more = h.more; took = h.took; whole = h.whole ∙ sym s.1; decided = s.0 }

-- ---- the choice of the key

-- bytes that were all read
abbrev spent : List ℕ → SourceState
spent bytes = record { left = Some bytes; faults = 0; ended = false; late = 0 }

trying_of : (ciphers : List SegmentCipher) (count : ℕ) (taken : List ℕ) (ended : Bool) → Passed ciphers count taken ended → Trying ciphers count (spent taken) (spent []) taken ended
trying_of ciphers count taken ended passed = record { gave = record { left = ap (λ (l : List ℕ). Some l) (sym (append-nil taken)); faults = omega arith }; end = λ e. refl; passed = passed }

-- no key was tried yet
pub passed_none : (ciphers : List SegmentCipher) (taken : List ℕ) (ended : Bool) → Passed ciphers 0 taken ended
passed_none ciphers taken ended = λ more e follows. refl

-- one more key doesn't fit
pub passed_more : (ciphers : List SegmentCipher) (count : ℕ) (key : SegmentCipher) (taken : List ℕ) (ended : Bool) → Passed ciphers count taken ended → drop count ciphers ≡ key ∷ drop (count + 1) ciphers → IsCipher key
    → is_decided key taken ended ≡ true → opens_at key taken 0 ≡ None → Passed ciphers (count + 1) taken ended
passed_more ciphers count key taken ended passed here is d none =
    (trying_passes ciphers count key _ _ taken ended (trying_of ciphers count taken ended passed) here is d none).passed

pub chooses_key : (ciphers : List SegmentCipher) (count : ℕ) (key : SegmentCipher) (taken p : List ℕ) (ended : Bool) → Passed ciphers count taken ended → drop count ciphers ≡ key ∷ drop (count + 1) ciphers → IsCipher key
    → is_decided key taken ended ≡ true → opens_at key taken 0 ≡ Some p → IsChosen ciphers key taken ended
chooses_key ciphers count key taken p ended passed here is d opens =
    trying_chooses ciphers count key _ _ taken p ended (trying_of ciphers count taken ended passed) here is d opens

-- what the keys that are left choose of the bytes so far
pub passed_now : (ciphers : List SegmentCipher) (count : ℕ) (taken : List ℕ) (ended : Bool) → Passed ciphers count taken ended → choose ciphers taken ended ≡ choose (drop count ciphers) taken ended
passed_now ciphers count taken ended passed =
    ap (λ (l : List ℕ). choose ciphers l ended) (sym (append-nil taken)) ∙ passed [] ended (λ e. (refl, e)) ∙ ap (λ (l : List ℕ). choose (drop count ciphers) l ended) (append-nil taken)

pub chooses_none : (ciphers : List SegmentCipher) (count : ℕ) (taken : List ℕ) (ended : Bool) (sink : SinkState) → length ciphers ≤ count → Passed ciphers count taken ended → Halts (opening_any ciphers) (faults.StreamFailed 0) taken [] ended sink sink
chooses_none ciphers count taken ended sink le passed =
    let c : choose ciphers taken ended ≡ no_key = passed_now ciphers count taken ended passed ∙ ap (λ (k : List SegmentCipher). choose k taken ended) (drop_all count ciphers le) in
    record { more = []; took = took_nothing sink; whole = sym (ap (λ (x : Choice). released_by x taken ended) c); decided = ap (λ (x : Choice). decides_by x taken ended) c }

pub chooses_unwritten : (ciphers : List SegmentCipher) (key : SegmentCipher) (taken p : List ℕ) (ended : Bool) (old new : SinkState) → IsChosen ciphers key taken ended → IsCipher key → is_decided key taken ended ≡ true → opens_at key taken 0 ≡ Some p
    → TookPrefix old new p → Halts (opening_any ciphers) faults.WriteFault taken [] ended old new
chooses_unwritten ciphers key taken p ended old new choice is d opens t =
    let c = chosen_now ciphers key taken ended choice in
    let r = first_front key taken p ended is d opens in
    record {
      more = t.front;
      rest = t.rest ++ r.0;
      took = t.took;
      some = omega (arith, t.some, length-append t.rest r.0);
      whole = sym (append_assoc t.front t.rest r.0) ∙ ap (λ (l : List ℕ). l ++ r.0) t.whole ∙ r.1 ∙ sym (ap (λ (x : Choice). released_by x taken ended) c);
    }

-- the next key isn't decided
pub chooses_waits : (ciphers : List SegmentCipher) (count size : ℕ) (key : SegmentCipher) (taken after : List ℕ) (ended : Bool) (old new : SinkState) → Passed ciphers count taken ended → drop count ciphers ≡ key ∷ drop (count + 1) ciphers → size ≡ key.size
    → (ended || nat_lt size (length taken)) ≡ false → after ≡ taken → old ≡ new → Waits ciphers count taken after ended old new
chooses_waits ciphers count size key taken after true old new passed here e d kept still = absurd cc
chooses_waits ciphers count size key taken after false old new passed here e d kept still = record {
  open_end = refl;
  passed = passed;
  choice = passed_now ciphers count taken false passed ∙ ap (λ (k : List SegmentCipher). choose k taken false) here
      ∙ ap (λ (b : Bool). if b then (if fits key taken then chosen key else choose (drop (count + 1) ciphers) taken false) else undecided) (ap (λ n. nat_lt n (length taken)) (sym e) ∙ d);
  kept = kept;
  still = still;
}

-- ---- what is settled

-- more was written before
pub settled_after : (ciphers : List SegmentCipher) (stage : Stage) (taken held written p : List ℕ) (old mid new : SinkState) → Took old mid p → SettledOn ciphers stage taken held (written ++ p) mid new → SettledOn ciphers stage taken held written old new
settled_after ciphers stage taken held written p old mid new took s = record {
  more = p ++ s.more;
  took = took_more _ _ _ _ _ took s.took;
  stands = subst (λ (l : List ℕ). StandsAt ciphers stage taken held l) (append_assoc written p s.more) s.stands;
  output = s.output ∙ append_assoc written p s.more;
  waits = s.waits;
}

-- under the key that is chosen no more than a segment is held
pub settled_under : (ciphers : List SegmentCipher) (stream later : StreamState) (number next_number : ℕ) (taken held front written : List ℕ) (old new : SinkState) → (x : IsUnderKey ciphers stream number taken held written) → later ≡ stream
    → OpensOn x.key x.header taken written next_number front old new → length front ≤ stream.size → next_number < most_segments → SettledOn ciphers (stages.Under later next_number) taken front written old new
settled_under ciphers stream later number next_number taken held front written old new x same o short few =
    let c = chosen_now ciphers x.key taken false x.choice in
    let w = waits-released x.key x.header taken next_number front (written ++ o.more) x.under.is o.stands (omega (arith, short, x.under.size)) few in
    record {
      more = o.more;
      took = o.took;
      stands = record { key = x.key; header = x.header; under = still_under _ _ x.key x.header same x.under; choice = x.choice; stands = o.stands };
      output = ap (λ (k : Choice). released_by k taken false) c ∙ w.0;
      waits = ap (λ (k : Choice). decides_by k taken false) c ∙ w.1;
    }

pub halts_under : (ciphers : List SegmentCipher) (key : SegmentCipher) (fault : OpenPumpFault) (taken written : List ℕ) (ended : Bool) (old new : SinkState) → choose ciphers taken ended ≡ chosen key → Halts (opening_under key) fault taken written ended old new → Halts (opening_any ciphers) fault taken written ended old new
halts_under ciphers key fault taken written ended old new c h =
    halts_alike (opening_under key) (opening_any ciphers) fault taken written ended old new (ap (λ (k : Choice). released_by k taken ended) c) (ap (λ (k : Choice). decides_by k taken ended) c) h

pub opened_under : (ciphers : List SegmentCipher) (key : SegmentCipher) (taken written : List ℕ) (old new : SinkState) → choose ciphers taken true ≡ chosen key → IsOpened (opening_under key) taken written old new → IsOpened (opening_any ciphers) taken written old new
opened_under ciphers key taken written old new c h =
    opened_alike (opening_under key) (opening_any ciphers) taken written old new (ap (λ (k : Choice). released_by k taken true) c) (ap (λ (k : Choice). decides_by k taken true) c) h

-- the keys that are left are those of the stream
pub halts_passed : (ciphers : List SegmentCipher) (count : ℕ) (fault : OpenPumpFault) (taken written : List ℕ) (ended : Bool) (old new : SinkState) → choose ciphers taken ended ≡ choose (drop count ciphers) taken ended → Halts (opening_any (drop count ciphers)) fault taken written ended old new
    → Halts (opening_any ciphers) fault taken written ended old new
halts_passed ciphers count fault taken written ended old new c h =
    halts_alike (opening_any (drop count ciphers)) (opening_any ciphers) fault taken written ended old new (ap (λ (k : Choice). released_by k taken ended) c) (ap (λ (k : Choice). decides_by k taken ended) c) h

pub opened_passed : (ciphers : List SegmentCipher) (count : ℕ) (taken written : List ℕ) (old new : SinkState) → choose ciphers taken true ≡ choose (drop count ciphers) taken true → IsOpened (opening_any (drop count ciphers)) taken written old new → IsOpened (opening_any ciphers) taken written old new
opened_passed ciphers count taken written old new c h =
    opened_alike (opening_any (drop count ciphers)) (opening_any ciphers) taken written old new (ap (λ (k : Choice). released_by k taken true) c) (ap (λ (k : Choice). decides_by k taken true) c) h

-- what the keys that are left wait for
pub settled_waits : (ciphers : List SegmentCipher) (tried count : ℕ) (taken held after written : List ℕ) (old new : SinkState) → IsTrying ciphers tried taken held written → Waits (drop tried ciphers) count held after false old new → SettledOn ciphers (stages.Trying (tried + count)) taken after written old new
settled_waits ciphers tried count taken held after written old new t w =
    let c : choose ciphers taken false ≡ undecided = passed_now ciphers tried taken false t.passed ∙ ap (λ (l : List ℕ). choose (drop tried ciphers) l false) (sym t.all) ∙ w.choice in
    record {
      more = [];
      took = subst (λ (s : SinkState). Took old s []) w.still (took_nothing old);
      stands = record {
        passed = λ more e f. t.passed more e f
            ∙ ap (λ (l : List ℕ). choose (drop tried ciphers) (l ++ more) e) (sym t.all) ∙ w.passed more e (λ n. absurd cc)
            ∙ ap (λ (k : List SegmentCipher). choose k (held ++ more) e) (drop-drop count tried ciphers)
            ∙ ap (λ (l : List ℕ). choose (drop (tried + count) ciphers) (l ++ more) e) t.all;
        all = w.kept ∙ t.all;
        none = append-nil written ∙ t.none;
      };
      output = ap (λ (k : Choice). released_by k taken false) c ∙ sym (append-nil written ∙ t.none);
      waits = ap (λ (k : Choice). decides_by k taken false) c;
    }

-- why those that are left open nothing
pub halts_trying : (ciphers : List SegmentCipher) (tried : ℕ) (fault : OpenPumpFault) (taken held written : List ℕ) (old new : SinkState) → IsTrying ciphers tried taken held written → Halts (opening_any (drop tried ciphers)) fault held [] false old new → Halts (opening_any ciphers) fault taken written false old new
halts_trying ciphers tried fault taken held written old new t h =
    subst (λ (w : List ℕ). Halts (opening_any ciphers) fault taken w false old new) (sym t.none)
    (halts_passed ciphers tried fault taken [] false old new (passed_now ciphers tried taken false t.passed)
    (subst (λ (l : List ℕ). Halts (opening_any (drop tried ciphers)) fault l [] false old new) t.all h))

-- the key that is chosen of those that are left
pub first_under_key : (ciphers : List SegmentCipher) (tried number : ℕ) (stream : StreamState) (taken held after written behind : List ℕ) (old mid : SinkState) → IsTrying ciphers tried taken held written → (x : OpensFirst (drop tried ciphers) stream held after false old mid) → number ≡ 1
    → behind ≡ drop stream.size after → IsUnderKey ciphers stream number taken behind (written ++ x.plain)
first_under_key ciphers tried number stream taken held after written behind old mid t x one e =
    let full : x.key.size < length held = grind (arith, nat_tests, x.decided) in
    let s = first_stands x.key held x.plain x.under.is full x.opens in
    let first : Standing x.key (take x.key.header held) taken 1 behind x.plain
    = subst (λ (l : List ℕ). Standing x.key (take x.key.header held) l 1 behind x.plain) t.all
    (subst (λ (l : List ℕ). Standing x.key (take x.key.header held) held 1 l x.plain) (sym (e ∙ ap (λ n. drop n after) x.under.size ∙ x.rest)) s) in
    record {
      key = x.key;
      header = take x.key.header held;
      under = x.under;
      choice = λ more e f. t.passed more e f ∙ ap (λ (l : List ℕ). choose (drop tried ciphers) (l ++ more) e) (sym t.all) ∙ x.choice more e (λ n. absurd cc);
      stands = subst (λ n. Standing x.key (take x.key.header held) taken n behind (written ++ x.plain)) (sym one)
          (subst (λ (w : List ℕ). Standing x.key (take x.key.header held) taken 1 behind (w ++ x.plain)) (sym t.none) first);
    }
