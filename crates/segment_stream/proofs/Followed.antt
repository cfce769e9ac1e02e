-- Segments opened one after another, of bytes that are held.
use Rattle.std.proofs.Common.{◌≡◌, ℕ, ◌+◌, ◌<◌, ◌≤◌, List, [], ◌++◌, length, take, drop, sym, ◌∙◌, ap, subst, arith, append_assoc, append-nil, inl, inr}
use Rattle.std.specs.Prelude.{Bool, true, false, Some, None, Result, Ok, Err, IfOk, IfErr, OnOk}
use Rattle.std.proofs.lemmas.Bool.{cases_lt}
use Rattle.std.proofs.lemmas.List.{length-append}
use Rattle.tink_spec.specs.Outside.{SinkState, Rose, Stood, Took, TookPrefix, next}
use Rattle.tink_spec.proofs.Moves.{took_nothing, took_more}
use Rattle.segment_stream.specs.Cipher.{SegmentCipher, IsCipher, most_segments}
use Rattle.segment_stream.specs.Halting.{Halts, IsOpened, IsShown, OpensOn, ShowsFault}
use Rattle.segment_stream.specs.Opening.{released_by, chosen}
use Rattle.segment_stream.specs.Pumping.{Part, opening_under}
use Rattle.segment_stream.specs.Under.{Standing}
use Rattle.segment_stream.specs.declared.fault.OpenPumpFault.{OpenPumpFault}
use Rattle.segment_stream.specs.declared.fault.OpenPumpFault.TheVariants as faults
use Rattle.segment_stream.proofs.Pass.{held_later}
use Rattle.segment_stream.proofs.Standing.{standing_ends, standing_ends_badly, standing_fails, standing_front, standing_many, standing_many_fails, standing_next}

-- ---- what is said of a result

pub ok_more : {A E : Type 0} (r : Result A E) (P Q : A → Type 0) → ((x : A) → P x → Q x) → IfOk r P → IfOk r Q
ok_more (Ok x) P Q f p = f x p
ok_more (Err e) P Q f p = tt

pub err_more : {A E : Type 0} (r : Result A E) (P Q : E → Type 0) → ((x : E) → P x → Q x) → IfErr r P → IfErr r Q
err_more (Ok x) P Q f p = tt
err_more (Err e) P Q f p = f e p

pub on_ok_more : {A E : Type 0} (r : Result A E) (P Q : Type 0) → (P → Q) → OnOk r P → OnOk r Q
on_ok_more (Ok x) P Q f p = f p
on_ok_more (Err e) P Q f p = tt

-- no fault is hidden behind calls that met none
pub shows_behind : (fault : OpenPumpFault) (old mid new : SinkState) → Stood old.faults mid.faults → IsShown fault mid new → IsShown fault old new
shows_behind faults.ReadFault old mid new stood s = absurd s
shows_behind faults.WriteFault old mid new stood s = (subst (λ n. Rose n new.faults) stood s.0, s.1 ∙ ap next stood)
shows_behind faults.TooManySegments old mid new stood s = s ∙ stood
shows_behind (faults.StreamFailed number) old mid new stood s = s ∙ stood

pub shows_later : {A : Type 0} (r : Result A OpenPumpFault) (old mid new : SinkState) → Stood old.faults mid.faults → ShowsFault r mid new → ShowsFault r old new
shows_later (Ok x) old mid new stood s = s ∙ stood
shows_later (Err fault) old mid new stood s = shows_behind fault old mid new stood s

-- ---- what was written before

pub halts_after : (part : Part) (fault : OpenPumpFault) (taken written p : List ℕ) (ended : Bool) (old mid new : SinkState) → Took old mid p → Halts part fault taken (written ++ p) ended mid new → Halts part fault taken written ended old new
halts_after part faults.ReadFault taken written p ended old mid new took h = absurd h
halts_after part faults.WriteFault taken written p ended old mid new took h = record {
  more = p ++ h.more;
  rest = h.rest;
  took = took_more _ _ _ _ _ took h.took;
  some = h.some;
  whole = ap (λ (l : List ℕ). written ++ l) (append_assoc p h.more h.rest) ∙ sym (append_assoc written p (h.more ++ h.rest)) ∙ h.whole;
}
halts_after part faults.TooManySegments taken written p ended old mid new took h = record { more = p ++ h.more; took = took_more _ _ _ _ _ took h.took; whole = sym (append_assoc written p h.more) ∙ h.whole; decided = h.decided }
halts_after part (faults.StreamFailed number) taken written p ended old mid new took h = record { more = p ++ h.more; took = took_more _ _ _ _ _ took h.took; whole = sym (append_assoc written p h.more) ∙ h.whole; decided = h.decided }

pub opened_after : (part : Part) (taken written p : List ℕ) (old mid new : SinkState) → Took old mid p → IsOpened part taken (written ++ p) mid new → IsOpened part taken written old new
opened_after part taken written p old mid new took h = record { more = p ++ h.more; took = took_more _ _ _ _ _ took h.took; whole = sym (append_assoc written p h.more) ∙ h.whole; none = h.none }

-- ---- the segments that a byte follows

pub on_begins : (key : SegmentCipher) (header taken written : List ℕ) (number : ℕ) (held : List ℕ) (sink : SinkState) → Standing key header taken number held written → OpensOn key header taken written number held sink sink
on_begins key header taken written number held sink s = record {
  more = [];
  took = took_nothing sink;
  stands = subst (λ (w : List ℕ). Standing key header taken number held w) (sym (append-nil written)) s;
}

pub on_next : (key : SegmentCipher) (header taken written : List ℕ) (number : ℕ) (held p : List ℕ) (old mid new : SinkState) → IsCipher key → 1 ≤ number → number < most_segments → key.size < length held → OpensOn key header taken written number held old mid
    → key.opens header number false (take key.size held) ≡ Some p → Took mid new p → OpensOn key header taken written (number + 1) (drop key.size held) old new
on_next key header taken written number held p old mid new is least below full x opens took = record {
  more = x.more ++ p;
  took = took_more _ _ _ _ _ x.took took;
  stands = subst (λ (w : List ℕ). Standing key header taken (number + 1) (drop key.size held) w) (append_assoc written x.more p)
      (standing_next key header taken number held (written ++ x.more) p is x.stands full below (held_later key header number false (take key.size held) least ∙ opens));
}

-- a segment that opens isn't written to its end
went_front : (written more p rest front back whole : List ℕ) → ((written ++ more) ++ p) ++ rest ≡ whole → front ++ back ≡ p → written ++ ((more ++ front) ++ (back ++ rest)) ≡ whole
went_front written more p rest front back whole e f = tidy ∙ e
  where
    tidy : written ++ ((more ++ front) ++ (back ++ rest)) ≡ ((written ++ more) ++ p) ++ rest
    tidy = rw (← f) (simp append_assoc)

pub on_unwritten : (key : SegmentCipher) (header taken written : List ℕ) (ended : Bool) (number : ℕ) (held p : List ℕ) (old mid new : SinkState) → IsCipher key → 1 ≤ number → number < most_segments → key.size < length held → OpensOn key header taken written number held old mid
    → key.opens header number false (take key.size held) ≡ Some p → TookPrefix mid new p → Halts (opening_under key) faults.WriteFault taken written ended old new
on_unwritten key header taken written ended number held p old mid new is least below full x opens t =
    let s = standing_next key header taken number held (written ++ x.more) p is x.stands full below (held_later key header number false (take key.size held) least ∙ opens) in
    let f = standing_front key header taken (number + 1) (drop key.size held) ((written ++ x.more) ++ p) ended s in
    record {
      more = x.more ++ t.front;
      rest = t.rest ++ f.0;
      took = took_more _ _ _ _ _ x.took t.took;
      some = omega (arith, t.some, length-append t.rest f.0);
      whole = went_front written x.more p f.0 t.front t.rest (released_by (chosen key) taken ended) f.1 t.whole;
    }

pub on_many : (key : SegmentCipher) (header taken written : List ℕ) (ended : Bool) (number : ℕ) (held : List ℕ) (old new : SinkState) → IsCipher key → number ≡ most_segments → OpensOn key header taken written number held old new → Halts (opening_under key) faults.TooManySegments taken written ended old new
on_many key header taken written ended number held old new is full x =
    let s = standing_many key header taken number held (written ++ x.more) ended is x.stands full in
    record { more = x.more; took = x.took; whole = sym s.released; decided = s.decided }

-- a segment that a byte follows doesn't open
pub on_fails : (key : SegmentCipher) (header taken written : List ℕ) (ended : Bool) (number : ℕ) (held : List ℕ) (old new : SinkState) (fault : OpenPumpFault) → IsCipher key → 1 ≤ number → number < most_segments → key.size < length held
    → OpensOn key header taken written number held old new → key.opens header number false (take key.size held) ≡ None
    → (number + 1 ≡ most_segments → fault ≡ faults.TooManySegments) → (number + 1 < most_segments → fault ≡ faults.StreamFailed number) → Halts (opening_under key) fault taken written ended old new
on_fails key header taken written ended number held old new fault is least below full x none many few = elim (cases_lt (number + 1) most_segments) [
  | inl lt ↦
      let s = standing_fails key header taken number held (written ++ x.more) ended is x.stands full lt (held_later key header number false (take key.size held) least ∙ none) in
      subst (λ (f : OpenPumpFault). Halts (opening_under key) f taken written ended old new) (sym (few lt)) (record { more = x.more; took = x.took; whole = sym s.released; decided = s.decided })
  | inr ge ↦
      let e : number + 1 ≡ most_segments = omega arith in
      let s = standing_many_fails key header taken number held (written ++ x.more) ended is x.stands e full (held_later key header number false (take key.size held) least ∙ none) in
      subst (λ (f : OpenPumpFault). Halts (opening_under key) f taken written ended old new) (sym (many e)) (record { more = x.more; took = x.took; whole = sym s.released; decided = s.decided })
]

pub shows_refused : (number : ℕ) (fault : OpenPumpFault) (old new : SinkState) → number < most_segments
    → (number + 1 ≡ most_segments → fault ≡ faults.TooManySegments) → (number + 1 < most_segments → fault ≡ faults.StreamFailed number) → Stood old.faults new.faults → IsShown fault old new
shows_refused number fault old new below many few stood = elim (cases_lt (number + 1) most_segments) [
  | inl lt ↦ subst (λ (f : OpenPumpFault). IsShown f old new) (sym (few lt)) stood
  | inr ge ↦
      let e : number + 1 ≡ most_segments = omega arith in
      subst (λ (f : OpenPumpFault). IsShown f old new) (sym (many e)) stood
]

-- ---- the last segment

pub last_opens : (key : SegmentCipher) (header taken written : List ℕ) (number : ℕ) (held p : List ℕ) (old new : SinkState) → IsCipher key → 1 ≤ number → number < most_segments → length held ≤ key.size → Standing key header taken number held written
    → key.opens header number true held ≡ Some p → Took old new p → IsOpened (opening_under key) taken written old new
last_opens key header taken written number held p old new is least below short x opens took =
    let s = standing_ends key header taken number held written p is x short below (held_later key header number true held least ∙ opens) in
    record { more = p; took = took; whole = sym s.released; none = s.decided }

pub last_unwritten : (key : SegmentCipher) (header taken written : List ℕ) (number : ℕ) (held p : List ℕ) (old new : SinkState) → IsCipher key → 1 ≤ number → number < most_segments → length held ≤ key.size → Standing key header taken number held written
    → key.opens header number true held ≡ Some p → TookPrefix old new p → Halts (opening_under key) faults.WriteFault taken written true old new
last_unwritten key header taken written number held p old new is least below short x opens t =
    let s = standing_ends key header taken number held written p is x short below (held_later key header number true held least ∙ opens) in
    record { more = t.front; rest = t.rest; took = t.took; some = t.some; whole = ap (λ (l : List ℕ). written ++ l) t.whole ∙ sym s.released }

pub last_fails : (key : SegmentCipher) (header taken written : List ℕ) (number : ℕ) (held : List ℕ) (old new : SinkState) → IsCipher key → 1 ≤ number → number < most_segments → length held ≤ key.size → Standing key header taken number held written
    → key.opens header number true held ≡ None → old ≡ new → Halts (opening_under key) (faults.StreamFailed number) taken written true old new
last_fails key header taken written number held old new is least below short x none still =
    let s = standing_ends_badly key header taken number held written is x short below (held_later key header number true held least ∙ none) in
    record { more = []; took = subst (λ (t : SinkState). Took old t []) still (took_nothing old); whole = append-nil written ∙ sym s.released; decided = s.decided }
