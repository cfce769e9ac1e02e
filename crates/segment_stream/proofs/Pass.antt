-- A pass that opens a stream under its key.
use Rattle.std.proofs.Common.{◌≡◌, ℕ, zero, suc, ◌+◌, ◌-◌, ◌*◌, ◌<◌, ◌≤◌, List, [], ◌++◌, length, take, drop, refl, sym, ◌∙◌, ap, subst, arith, inl, inr, append_assoc, append-nil}
use Rattle.std.specs.Prelude.{Bool, true, false, Option, Some, None, Result, Ok, Err, IfErr, OnOk, if◌then◌else◌}
use Rattle.std.proofs.lemmas.Bool.{cases_lt}
use Rattle.std.proofs.lemmas.List.{take-take, length-take-le, length-drop, drop-drop}
use Rattle.tink_spec.specs.Outside.{SourceState, SinkState, Rose, Stood, Gave, Took, IsAtEnd, next}
use Rattle.tink_spec.proofs.Moves.{gave_nothing, gave_more, took_nothing, took_more}
use Rattle.segment_stream.specs.Cipher.{SegmentCipher, IsCipher, most_segments, behind_header}
use Rattle.segment_stream.specs.Halting.{Halts, IsOpened, IsShown, OpensOn, ShowsFault}
use Rattle.segment_stream.specs.Opening.{StreamRefusal, too_many, failed}
use Rattle.segment_stream.specs.Under.{Standing}
use Rattle.segment_stream.proofs.Places.{rows_le}
use Rattle.segment_stream.proofs.Slices.{behind, rest_is}
use borrow.Rule.Slice.PartMut.{put_mid}
use Rattle.segment_stream.specs.Pumping.{Pumps, pumped, refused, unread, unwritten, opening_under, fault_of, Follows, ShowsFaults}
use Rattle.segment_stream.specs.Reading.{ReadBehind}
use Rattle.segment_stream.specs.declared.fault.OpenPumpFault.{OpenPumpFault}
use Rattle.segment_stream.specs.declared.fault.OpenPumpFault.TheVariants as fault
use Rattle.segment_stream.proofs.Standing.{held_opens, standing_more, standing_next, standing_waits, standing_fails, standing_ends, standing_ends_badly, standing_many, standing_many_fails, Stops}

-- since the pass began these bytes were taken, and these written
pub record Going (key : SegmentCipher) (header taken written : List ℕ) (whole seen : Bool) (was now : SourceState) (old new : SinkState) (held : List ℕ) (number : ℕ) : Type 0 where
  pub more : List ℕ
  pub out : List ℕ
  pub gave : Gave was now more
  pub took : Took old new out
  pub stands : Standing key header (taken ++ more) number held (written ++ out)
  pub follows : Follows whole more seen
  pub end : seen ≡ true → IsAtEnd now

pub rose_after : (a b c : ℕ) → a ≤ b → Rose b c → Rose a c
rose_after a b c h (inl lt) = inl (omega arith)
rose_after a b c h (inr last) = inr last

pub going_begins : (key : SegmentCipher) (header taken written : List ℕ) (whole : Bool) (source : SourceState) (sink : SinkState) (held : List ℕ) (number : ℕ) → Standing key header taken number held written → (whole ≡ true → IsAtEnd source) → Going key header taken written whole whole source source sink sink held number
going_begins key header taken written whole source sink held number s end = record {
  follows = λ e. (refl, e);
  end = end;
  more = [];
  out = [];
  gave = gave_nothing source;
  took = took_nothing sink;
  stands = subst (λ (w : List ℕ). Standing key header (taken ++ []) number held w) (sym (append-nil written)) (subst (λ (t : List ℕ). Standing key header t number held written) (sym (append-nil taken)) s);
}

pub going_read : (key : SegmentCipher) (header taken written : List ℕ) (whole seen later : Bool) (was mid now : SourceState) (old new : SinkState) (held after : List ℕ) (number n : ℕ) → IsCipher key → Going key header taken written whole seen was mid old new held number → seen ≡ false
    → ReadBehind mid now held after n → (later ≡ true → IsAtEnd now) → Going key header taken written whole later was now old new after number
going_read key header taken written whole seen later was mid now old new held after number n is x not r end = record {
  more = x.more ++ r.piece;
  out = x.out;
  gave = gave_more _ _ _ _ _ x.gave r.gave;
  took = x.took;
  stands = subst (λ (h : List ℕ). Standing key header (taken ++ (x.more ++ r.piece)) number h (written ++ x.out)) (sym r.is)
      (subst (λ (t : List ℕ). Standing key header t number (held ++ r.piece) (written ++ x.out)) (append_assoc taken x.more r.piece)
      (standing_more key header (taken ++ x.more) number held (written ++ x.out) r.piece is x.stands));
  follows = λ e. let no : false ≡ true = sym not ∙ (x.follows e).1 in absurd cc;
  end = end;
}

-- behind the first segment no header stands
pub later : (n number : ℕ) (part : List ℕ) → 1 ≤ number → behind_header n number part ≡ part
later n zero part h = absurd (omega arith)
later n (suc i) part h = refl

pub held_later : (key : SegmentCipher) (header : List ℕ) (number : ℕ) (last : Bool) (part : List ℕ) → 1 ≤ number → held_opens key header number last part ≡ key.opens header number last part
unfolding held_opens
held_later key header number last part h = ap (λ (l : List ℕ). key.opens header number last l) (later key.header number part h)

pub going_next : (key : SegmentCipher) (header taken written : List ℕ) (whole seen : Bool) (was now : SourceState) (old mid new : SinkState) (held p : List ℕ) (number : ℕ) → IsCipher key → 1 ≤ number → number < most_segments → key.size < length held
    → Going key header taken written whole seen was now old mid held number → key.opens header number false (take key.size held) ≡ Some p → Took mid new p → Going key header taken written whole seen was now old new (drop key.size held) (number + 1)
going_next key header taken written whole seen was now old mid new held p number is least below full x opens took = record {
  more = x.more;
  out = x.out ++ p;
  gave = x.gave;
  follows = x.follows;
  end = x.end;
  took = took_more _ _ _ _ _ x.took took;
  stands = subst (λ (w : List ℕ). Standing key header (taken ++ x.more) (number + 1) (drop key.size held) w) (append_assoc written x.out p)
      (standing_next key header (taken ++ x.more) number held (written ++ x.out) p is x.stands full below (held_later key header number false (take key.size held) least ∙ opens));
}

-- a refusal before the end
early : (key : SegmentCipher) (header taken written : List ℕ) (whole seen : Bool) (was now : SourceState) (old new : SinkState) (held : List ℕ) (number : ℕ) (r : StreamRefusal) (result : Result (Unit {0}) OpenPumpFault) → (x : Going key header taken written whole seen was now old new held number)
    → Stops key (taken ++ x.more) seen (written ++ x.out) (Some r) → result ≡ Err (fault_of r) → Pumps (opening_under key) taken written whole result was now old new
early key header taken written whole seen was now old new held number r result x s e = refused x.more x.out seen r e x.gave x.follows x.end x.took (sym s.released) s.decided

pub going_many : (key : SegmentCipher) (header taken written : List ℕ) (whole seen : Bool) (was now : SourceState) (old new : SinkState) (held : List ℕ) (number : ℕ) → IsCipher key → number ≡ most_segments
    → Going key header taken written whole seen was now old new held number → Pumps (opening_under key) taken written whole (Err fault.TooManySegments) was now old new
going_many key header taken written whole seen was now old new held number is full x = early key header taken written whole seen was now old new held number too_many _ x (standing_many key header (taken ++ x.more) number held (written ++ x.out) seen is x.stands full) refl

pub going_fails : (key : SegmentCipher) (header taken written : List ℕ) (whole seen : Bool) (was now : SourceState) (old new : SinkState) (held : List ℕ) (number : ℕ) (result : OpenPumpFault) → IsCipher key → 1 ≤ number → number < most_segments → key.size < length held
    → Going key header taken written whole seen was now old new held number → key.opens header number false (take key.size held) ≡ None
    → (number + 1 ≡ most_segments → result ≡ fault.TooManySegments) → (number + 1 < most_segments → result ≡ fault.StreamFailed number) → Pumps (opening_under key) taken written whole (Err result) was now old new
going_fails key header taken written whole seen was now old new held number result is least below full x none many few = elim (cases_lt (number + 1) most_segments) [
  | inl lt ↦ early key header taken written whole seen was now old new held number (failed number) (Err result) x (standing_fails key header (taken ++ x.more) number held (written ++ x.out) seen is x.stands full lt (held_later key header number false (take key.size held) least ∙ none)) (ap Err (few lt))
  | inr ge ↦ let e : number + 1 ≡ most_segments = omega arith in
      early key header taken written whole seen was now old new held number too_many (Err result) x (standing_many_fails key header (taken ++ x.more) number held (written ++ x.out) seen is x.stands e full (held_later key header number false (take key.size held) least ∙ none)) (ap Err (many e))
]

pub going_unread : (key : SegmentCipher) (header taken written : List ℕ) (whole seen : Bool) (was mid now : SourceState) (old new : SinkState) (held : List ℕ) (number : ℕ) → IsCipher key → number < most_segments → length held ≤ key.size
    → Going key header taken written whole seen was mid old new held number → seen ≡ false → Rose mid.faults now.faults → Gave mid now [] → Pumps (opening_under key) taken written whole (Err fault.ReadFault) was now old new
going_unread key header taken written whole seen was mid now old new held number is below short x not rose gave =
    let s = standing_waits key header (taken ++ x.more) number held (written ++ x.out) is x.stands short below in
    unread x.more x.out refl (rose_after _ _ _ x.gave.faults rose) (subst (λ (l : List ℕ). Gave was now l) (append-nil x.more) (gave_more _ _ _ _ _ x.gave gave)) (λ e. let no : false ≡ true = sym not ∙ (x.follows e).1 in absurd cc) x.took (sym s.released) s.decided

-- the last segment
pub going_ends : (key : SegmentCipher) (header taken written : List ℕ) (whole seen : Bool) (was now : SourceState) (old mid new : SinkState) (held p : List ℕ) (number : ℕ) → IsCipher key → 1 ≤ number → number < most_segments → length held ≤ key.size
    → Going key header taken written whole seen was now old mid held number → seen ≡ true → key.opens header number true held ≡ Some p → Took mid new p → Pumps (opening_under key) taken written whole (Ok tt) was now old new
going_ends key header taken written whole seen was now old mid new held p number is least below short x end opens took =
    let s = standing_ends key header (taken ++ x.more) number held (written ++ x.out) p is x.stands short below (held_later key header number true held least ∙ opens) in
    pumped x.more (x.out ++ p) refl x.gave (λ e. ((x.follows e).0, refl)) (x.end end) (took_more _ _ _ _ _ x.took took) (sym (append_assoc written x.out p) ∙ sym s.released) s.decided

pub going_ends_badly : (key : SegmentCipher) (header taken written : List ℕ) (whole seen : Bool) (was now : SourceState) (old new : SinkState) (held : List ℕ) (number : ℕ) → IsCipher key → 1 ≤ number → number < most_segments → length held ≤ key.size
    → Going key header taken written whole seen was now old new held number → seen ≡ true → key.opens header number true held ≡ None → Pumps (opening_under key) taken written whole (Err (fault.StreamFailed number)) was now old new
going_ends_badly key header taken written whole seen was now old new held number is least below short x end none =
    let s = standing_ends_badly key header (taken ++ x.more) number held (written ++ x.out) is x.stands short below (held_later key header number true held least ∙ none) in
    refused x.more x.out true (failed number) refl x.gave (λ e. ((x.follows e).0, refl)) (λ e. x.end end) x.took (sym s.released) s.decided

-- ---- segments that were opened in one call, behind what the pass did before

pub going_opens : (key : SegmentCipher) (header taken written : List ℕ) (whole seen : Bool) (was now : SourceState) (old mid new : SinkState) (held later : List ℕ) (number later_number : ℕ) → (x : Going key header taken written whole seen was now old mid held number)
    → OpensOn key header (taken ++ x.more) (written ++ x.out) later_number later mid new → Going key header taken written whole seen was now old new later later_number
going_opens key header taken written whole seen was now old mid new held later number later_number x o = record {
  more = x.more;
  out = x.out ++ o.more;
  gave = x.gave;
  took = took_more _ _ _ _ _ x.took o.took;
  stands = subst (λ (w : List ℕ). Standing key header (taken ++ x.more) later_number later w) (append_assoc written x.out o.more) o.stands;
  follows = x.follows;
  end = x.end;
}

-- the bytes taken aren't opened
pub going_halts : (key : SegmentCipher) (header taken written : List ℕ) (whole seen : Bool) (was now : SourceState) (old mid new : SinkState) (held : List ℕ) (number : ℕ) (why : OpenPumpFault) → (x : Going key header taken written whole seen was now old mid held number)
    → Halts (opening_under key) why (taken ++ x.more) (written ++ x.out) seen mid new → IsShown why mid new → Pumps (opening_under key) taken written whole (Err why) was now old new
going_halts key header taken written whole seen was now old mid new held number fault.ReadFault x h shown = absurd h
going_halts key header taken written whole seen was now old mid new held number fault.WriteFault x h shown =
    unwritten x.more (x.out ++ h.more) h.rest seen refl (rose_after _ _ _ x.took.faults shown.0) x.gave x.follows x.end (took_more _ _ _ _ _ x.took h.took) h.some
    (ap (λ (l : List ℕ). written ++ l) (append_assoc x.out h.more h.rest) ∙ sym (append_assoc written x.out (h.more ++ h.rest)) ∙ h.whole)
going_halts key header taken written whole seen was now old mid new held number fault.TooManySegments x h shown =
    refused x.more (x.out ++ h.more) seen too_many refl x.gave x.follows x.end (took_more _ _ _ _ _ x.took h.took) (sym (append_assoc written x.out h.more) ∙ h.whole) h.decided
going_halts key header taken written whole seen was now old mid new held number (fault.StreamFailed n) x h shown =
    refused x.more (x.out ++ h.more) seen (failed n) refl x.gave x.follows x.end (took_more _ _ _ _ _ x.took h.took) (sym (append_assoc written x.out h.more) ∙ h.whole) h.decided

-- the end was seen
pub going_finishes : (key : SegmentCipher) (header taken written : List ℕ) (whole : Bool) (was now : SourceState) (old mid new : SinkState) (held : List ℕ) (number : ℕ) (result : Result (Unit {0}) OpenPumpFault) → (x : Going key header taken written whole true was now old mid held number)
    → OnOk result (IsOpened (opening_under key) (taken ++ x.more) (written ++ x.out) mid new) → IfErr result (λ why. Halts (opening_under key) why (taken ++ x.more) (written ++ x.out) true mid new) → ShowsFault result mid new
    → Pumps (opening_under key) taken written whole result was now old new
going_finishes key header taken written whole was now old mid new held number (Ok done) x o h shown =
    pumped x.more (x.out ++ o.more) refl x.gave x.follows (x.end refl) (took_more _ _ _ _ _ x.took o.took) (sym (append_assoc written x.out o.more) ∙ o.whole) o.none
going_finishes key header taken written whole was now old mid new held number (Err why) x o h shown = going_halts key header taken written whole true was now old mid new held number why x h shown

-- the measure of a pass: segments are opened, or bytes are read, until the end is seen
pub still_to_read : (number later most size len held more : ℕ) → number ≤ later → later ≤ most → (later ≡ number → held ≡ len) → held ≤ size → 0 < more
    → (most - later) * (size + 3) + (size + 1 - (held + more)) + 1 < (most - number) * (size + 3) + (size + 1 - len) + 1
still_to_read number later most size len held more le within same short some = elim (cases_lt number later) [
  | inl lt ↦ let rows = rows_le (most - later + 1) (most - number) (size + 3) (omega arith) in omega (arith, rows)
  | inr ge ↦ let e : later ≡ number = omega arith in let h = same e in let rows : (most - later) * (size + 3) ≡ (most - number) * (size + 3) = ap (λ n. (most - n) * (size + 3)) e in omega (arith, rows, h)
]

pub until_ended : (seen later : Bool) (x y : ℕ) → seen ≡ false → (later ≡ false → y < x) → 0 < x → (if later then 0 else y) < (if seen then 0 else x)
until_ended true later x y e less some = absurd cc
until_ended false true x y e less some = some
until_ended false false x y e less some = less refl

-- no fault is hidden
pub shows_pump : (result : Result (Unit {0}) OpenPumpFault) (was now : SourceState) (old mid new : SinkState) → Stood was.faults now.faults → Stood old.faults mid.faults → ShowsFault result mid new → ShowsFaults result was now old new
shows_pump (Ok done) was now old mid new r w s = (r, s ∙ w)
shows_pump (Err fault.ReadFault) was now old mid new r w s = absurd s
shows_pump (Err fault.WriteFault) was now old mid new r w s = (r, s.1 ∙ ap next w)
shows_pump (Err fault.TooManySegments) was now old mid new r w s = (r, s ∙ w)
shows_pump (Err (fault.StreamFailed number)) was now old mid new r w s = (r, s ∙ w)

-- ---- over a buffer, of which the first bytes are done with

pub opens_held : (key : SegmentCipher) (header : List ℕ) (number : ℕ) (last : Bool) (size start end len : ℕ) (buffer : List ℕ) (o : Option (List ℕ)) → size ≡ key.size → end ≡ start + size → size < len - start
    → key.opens header number last (take (end - start) (drop start buffer)) ≡ o → key.opens header number last (take key.size (drop start (take len buffer))) ≡ o
opens_held key header number last size start end len buffer o e ends lt opens =
    let n : end - start ≡ key.size = omega arith in
    let cut : take key.size (drop start (take len buffer)) ≡ take (end - start) (drop start buffer) =
    ap (take key.size) (behind start len buffer (omega arith)) ∙ take-take key.size (len - start) (drop start buffer) (omega arith) ∙ ap (λ k. take k (drop start buffer)) (sym n) in
    ap (λ (l : List ℕ). key.opens header number last l) cut ∙ opens

pub last_held : (key : SegmentCipher) (header : List ℕ) (number start len : ℕ) (buffer : List ℕ) (o : Option (List ℕ)) → start ≤ len → key.opens header number true (take (len - start) (drop start buffer)) ≡ o → key.opens header number true (drop start (take len buffer)) ≡ o
last_held key header number start len buffer o le opens = ap (λ (l : List ℕ). key.opens header number true l) (behind start len buffer le) ∙ opens

held_long : (start len : ℕ) (buffer : List ℕ) → len ≤ length buffer → length (drop start (take len buffer)) ≡ len - start
held_long start len buffer fits = length-drop start (take len buffer) ∙ ap (λ n. n - start) (length-take-le len buffer fits)

pub full_held : (key : SegmentCipher) (size start len : ℕ) (buffer : List ℕ) → size ≡ key.size → size < len - start → len ≤ length buffer → key.size < length (drop start (take len buffer))
full_held key size start len buffer e lt fits = omega (arith, held_long start len buffer fits)

pub short_held : (key : SegmentCipher) (size start len : ℕ) (buffer : List ℕ) → size ≡ key.size → len - start ≤ size → len ≤ length buffer → length (drop start (take len buffer)) ≤ key.size
short_held key size start len buffer e le fits = omega (arith, held_long start len buffer fits)

-- the first segment that is held is done with
pub held_next : (key : SegmentCipher) (size start end len : ℕ) (buffer part : List ℕ) → size ≡ key.size → end ≡ start + size → end ≤ len → len ≤ length buffer → length part ≡ end - start
    → drop end (take len (put_mid start (end - start) buffer part)) ≡ drop key.size (drop start (take len buffer))
held_next key size start end len buffer part e ends le fits long =
    rest_is end len start end buffer part (omega arith) (omega arith) le fits long
    ∙ ap (λ n. drop n (take len buffer)) (ends ∙ ap (λ n. start + n) e) ∙ sym (drop-drop key.size start (take len buffer))
