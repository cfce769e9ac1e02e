-- A pass that opens a stream and seals its plaintext: what it opens goes as into a sink that tells and never
-- fails, and is sealed beside that.
use Rattle.std.proofs.Common.{◌≡◌, ℕ, ◌+◌, ◌<◌, ◌≤◌, List, [], ◌++◌, length, take, drop, refl, sym, ◌∙◌, ap, subst, arith, inl, inr, append_assoc, append-nil}
use Rattle.std.specs.Prelude.{Bool, true, false, Option, Some, None, Result, Ok, Err, ◌&&◌, not}
use Rattle.std.specs.List.{concat}
use Rattle.std.specs.Option.{is_none, option_or}
use Rattle.std.proofs.lemmas.List.{length-append}
use Rattle.tink_spec.specs.Outside.{SourceState, SinkState, Rose, Stood, Gave, Took, TookPrefix, IsAtEnd}
use Rattle.tink_spec.proofs.Moves.{gave_nothing, gave_more, took_more}
use Rattle.segment_stream.specs.Cipher.{SegmentCipher, IsCipher, most_segments}
use Rattle.segment_stream.specs.Opening.{StreamRefusal, too_many, released, released_by, decides, opens_at, is_decided, Choice, choose, chosen}
use Rattle.segment_stream.specs.Pieces.{followed}
use Rattle.segment_stream.specs.Pumping.{Part, Pumps, pumped, refused, unread, unwritten, opening_under, opening_any, resealing, Follows, ShowsFaults}
use Rattle.segment_stream.specs.Pushing.{SealingState, HasSealed, Passes, went, stopped, Releases, Seals, SealsLast, SealsLastFront, Stops, halt_fault, told}
use Rattle.segment_stream.specs.Reading.{ReadBehind}
use Rattle.segment_stream.specs.Resealing.{is_whole}
use Rattle.segment_stream.specs.Sealing.{many_plain, plain_size, sealed_behind, sealed_segments}
use Rattle.segment_stream.specs.Under.{Standing}
use Rattle.segment_stream.specs.declared.fault.OpenPumpFault.{OpenPumpFault}
use Rattle.segment_stream.specs.declared.fault.OpenPumpFault.TheVariants as fault
use Rattle.segment_stream.specs.declared.fault.UpdateFault.{UpdateFault}
use Rattle.segment_stream.specs.declared.fault.UpdateFault.TheVariants as halts
use Rattle.segment_stream.proofs.Pass.{Going, going_begins, going_read, going_next, going_many, going_fails, going_unread, going_ends, going_ends_badly, held_later, rose_after}
use Rattle.segment_stream.proofs.Standing.{standing_front, standing_ends}
use Rattle.segment_stream.proofs.Trials.{first_front, pumps_chosen}
use Rattle.segment_stream.proofs.SealingLemmas.{behind_front}
use Rattle.segment_stream.proofs.SealAnswering.{many_is, many_stays}
use Rattle.segment_stream.proofs.PushLemmas.{seals_more, seals_nothing, stops_more}

-- ---- a sink that tells and never fails

pub told_took : (p q : List ℕ) → Took (told p) (told (p ++ q)) q
told_took p q = record { written = refl; faults = omega arith }

told_out : (p out : List ℕ) → Took (told []) (told p) out → p ≡ out
told_out p out took = let e : Some p ≡ Some ([] ++ out) = took.written in cc

-- bytes were written before
told_behind : (p q out : List ℕ) → Took (told []) (told q) out → Took (told p) (told (p ++ q)) out
told_behind p q out took = subst (λ (l : List ℕ). Took (told p) (told (p ++ q)) l) (told_out q out took) (told_took p q)

never_rose : Rose 0 0 → ⊥
never_rose (inl less) = absurd (omega arith)
never_rose (inr last) = absurd (omega arith)

told_later : (part : Part) (taken written p q : List ℕ) (whole : Bool) (result : Result (Unit {0}) OpenPumpFault) (was now : SourceState) → Pumps part taken written whole result was now (told []) (told q) → Pumps part taken written whole result was now (told p) (told (p ++ q))
told_later part taken written p q whole result was now (pumped more out so gave follows end took o d) = pumped more out so gave follows end (told_behind p q out took) o d
told_later part taken written p q whole result was now (refused more out ended r so gave follows end took o d) = refused more out ended r so gave follows end (told_behind p q out took) o d
told_later part taken written p q whole result was now (unread more out so rose gave follows took o d) = unread more out so rose gave follows (told_behind p q out took) o d
told_later part taken written p q whole result was now (unwritten more out rest ended so rose gave follows end took some o) = absurd (never_rose rose)

-- ---- under the key that is chosen

-- since the pass began this plaintext was opened and sealed
pub record Resealing (key : SegmentCipher) (header taken written : List ℕ) (whole seen : Bool) (was now : SourceState) (s t : SealingState) (old new : SinkState) (held : List ℕ) (number : ℕ) : Type 0 where
  pub plain : List ℕ
  pub going : Going key header taken written whole seen was now (told []) (told plain) held number
  pub seals : Seals s t plain old new

pub resealing_begins : (key : SegmentCipher) (header taken written : List ℕ) (whole : Bool) (source : SourceState) (s : SealingState) (sink : SinkState) (held : List ℕ) (number : ℕ) → Standing key header taken number held written → (whole ≡ true → IsAtEnd source) → Resealing key header taken written whole whole source source s s sink sink held number
resealing_begins key header taken written whole source s sink held number stands end = record {
  plain = [];
  going = going_begins key header taken written whole source (told []) held number stands end;
  seals = seals_nothing s sink;
}

pub resealing_read : (key : SegmentCipher) (header taken written : List ℕ) (whole seen later : Bool) (was mid now : SourceState) (s t : SealingState) (old new : SinkState) (held after : List ℕ) (number n : ℕ) → IsCipher key → Resealing key header taken written whole seen was mid s t old new held number → seen ≡ false
    → ReadBehind mid now held after n → (later ≡ true → IsAtEnd now) → Resealing key header taken written whole later was now s t old new after number
resealing_read key header taken written whole seen later was mid now s t old new held after number n is x not r end = record {
  plain = x.plain;
  going = going_read key header taken written whole seen later was mid now (told []) (told x.plain) held after number n is x.going not r end;
  seals = x.seals;
}

pub resealing_next : (key : SegmentCipher) (header taken written : List ℕ) (whole seen : Bool) (was now : SourceState) (s t u : SealingState) (old mid new : SinkState) (held p : List ℕ) (number : ℕ) → IsCipher key → 1 ≤ number → number < most_segments → key.size < length held
    → Resealing key header taken written whole seen was now s t old mid held number → key.opens header number false (take key.size held) ≡ Some p → Seals t u p mid new → Resealing key header taken written whole seen was now s u old new (drop key.size held) (number + 1)
resealing_next key header taken written whole seen was now s t u old mid new held p number is least below full x opens seals = record {
  plain = x.plain ++ p;
  going = going_next key header taken written whole seen was now (told []) (told x.plain) (told (x.plain ++ p)) held p number is least below full x.going opens (told_took x.plain p);
  seals = seals_more s t u old mid new x.plain p x.seals seals;
}

pub resealing_many : (key : SegmentCipher) (header taken written : List ℕ) (whole seen : Bool) (was now : SourceState) (s t : SealingState) (old new : SinkState) (held : List ℕ) (number : ℕ) → IsCipher key → number ≡ most_segments
    → Resealing key header taken written whole seen was now s t old new held number → Passes (opening_under key) taken written whole (Err fault.TooManySegments) was now s t old new
resealing_many key header taken written whole seen was now s t old new held number is full x = went x.plain (going_many key header taken written whole seen was now _ _ held number is full x.going) x.seals

pub resealing_fails : (key : SegmentCipher) (header taken written : List ℕ) (whole seen : Bool) (was now : SourceState) (s t : SealingState) (old new : SinkState) (held : List ℕ) (number : ℕ) (result : OpenPumpFault) → IsCipher key → 1 ≤ number → number < most_segments → key.size < length held
    → Resealing key header taken written whole seen was now s t old new held number → key.opens header number false (take key.size held) ≡ None
    → (number + 1 ≡ most_segments → result ≡ fault.TooManySegments) → (number + 1 < most_segments → result ≡ fault.StreamFailed number) → Passes (opening_under key) taken written whole (Err result) was now s t old new
resealing_fails key header taken written whole seen was now s t old new held number result is least below full x none many few =
    went x.plain (going_fails key header taken written whole seen was now _ _ held number result is least below full x.going none many few) x.seals

pub resealing_unread : (key : SegmentCipher) (header taken written : List ℕ) (whole seen : Bool) (was mid now : SourceState) (s t : SealingState) (old new : SinkState) (held : List ℕ) (number : ℕ) → IsCipher key → number < most_segments → length held ≤ key.size
    → Resealing key header taken written whole seen was mid s t old new held number → seen ≡ false → Rose mid.faults now.faults → Gave mid now [] → Passes (opening_under key) taken written whole (Err fault.ReadFault) was now s t old new
resealing_unread key header taken written whole seen was mid now s t old new held number is below short x not rose gave =
    went x.plain (going_unread key header taken written whole seen was mid now _ _ held number is below short x.going not rose gave) x.seals

-- the last segment
pub resealing_ends : (key : SegmentCipher) (header taken written : List ℕ) (whole seen : Bool) (was now : SourceState) (s t u : SealingState) (old mid new : SinkState) (held p : List ℕ) (number : ℕ) → IsCipher key → 1 ≤ number → number < most_segments → length held ≤ key.size
    → Resealing key header taken written whole seen was now s t old mid held number → seen ≡ true → key.opens header number true held ≡ Some p → Seals t u p mid new → Passes (opening_under key) taken written whole (Ok tt) was now s u old new
resealing_ends key header taken written whole seen was now s t u old mid new held p number is least below short x end opens seals =
    went (x.plain ++ p) (going_ends key header taken written whole seen was now _ _ _ held p number is least below short x.going end opens (told_took x.plain p)) (seals_more s t u old mid new x.plain p x.seals seals)

pub resealing_ends_badly : (key : SegmentCipher) (header taken written : List ℕ) (whole seen : Bool) (was now : SourceState) (s t : SealingState) (old new : SinkState) (held : List ℕ) (number : ℕ) → IsCipher key → 1 ≤ number → number < most_segments → length held ≤ key.size
    → Resealing key header taken written whole seen was now s t old new held number → seen ≡ true → key.opens header number true held ≡ None → Passes (opening_under key) taken written whole (Err (fault.StreamFailed number)) was now s t old new
resealing_ends_badly key header taken written whole seen was now s t old new held number is least below short x end none =
    went x.plain (going_ends_badly key header taken written whole seen was now _ _ held number is least below short x.going end none) x.seals

going_releases : (key : SegmentCipher) (header taken written : List ℕ) (whole seen : Bool) (was now : SourceState) (plain held : List ℕ) (number : ℕ) → Going key header taken written whole seen was now (told []) (told plain) held number → Releases (opening_under key) taken written whole was now plain
going_releases key header taken written whole seen was now plain held number g =
    let f = standing_front key header (taken ++ g.more) number held (written ++ g.out) seen g.stands in
    record {
      more = g.more;
      rest = f.0;
      ended = seen;
      gave = g.gave;
      follows = g.follows;
      end = g.end;
      front = ap (λ (l : List ℕ). written ++ (l ++ f.0)) (told_out plain g.out g.took) ∙ sym (append_assoc written g.out f.0) ∙ f.1;
    }

-- a segment isn't sealed to its end
pub resealing_stops : (key : SegmentCipher) (header taken written : List ℕ) (whole seen : Bool) (was now : SourceState) (s t u : SealingState) (old mid new : SinkState) (held p : List ℕ) (number : ℕ) (why : UpdateFault) → IsCipher key → 1 ≤ number → number < most_segments → key.size < length held
    → Resealing key header taken written whole seen was now s t old mid held number → key.opens header number false (take key.size held) ≡ Some p → Stood old.faults mid.faults → Stops why t p mid new → Passes (opening_under key) taken written whole (Err (halt_fault why)) was now s u old new
resealing_stops key header taken written whole seen was now s t u old mid new held p number why is least below full x opens stood stops =
    let g = going_next key header taken written whole seen was now (told []) (told x.plain) (told (x.plain ++ p)) held p number is least below full x.going opens (told_took x.plain p) in
    stopped (x.plain ++ p) why refl (going_releases key header taken written whole seen was now (x.plain ++ p) (drop key.size held) (number + 1) g) (stops_more why s t old mid new x.plain p x.seals stood stops)

-- the last segment isn't
pub resealing_ends_stops : (key : SegmentCipher) (header taken written : List ℕ) (whole seen : Bool) (was now : SourceState) (s t u : SealingState) (old mid new : SinkState) (held p : List ℕ) (number : ℕ) (why : UpdateFault) → IsCipher key → 1 ≤ number → number < most_segments → length held ≤ key.size
    → Resealing key header taken written whole seen was now s t old mid held number → seen ≡ true → key.opens header number true held ≡ Some p → Stood old.faults mid.faults → Stops why t p mid new → Passes (opening_under key) taken written whole (Err (halt_fault why)) was now s u old new
resealing_ends_stops key header taken written whole seen was now s t u old mid new held p number why is least below short x end opens stood stops =
    let g = x.going in
    let e = standing_ends key header (taken ++ g.more) number held (written ++ g.out) p is g.stands short below (held_later key header number true held least ∙ opens) in
    stopped (x.plain ++ p) why refl
    (record {
      more = g.more;
      rest = [];
      ended = true;
      gave = g.gave;
      follows = λ w. ((g.follows w).0, refl);
      end = λ w. g.end end;
      front = ap (λ (l : List ℕ). written ++ l) (append-nil (x.plain ++ p)) ∙ ap (λ (l : List ℕ). written ++ (l ++ p)) (told_out x.plain g.out g.took) ∙ sym (append_assoc written g.out p) ∙ sym e.released;
    })
    (stops_more why s t old mid new x.plain p x.seals stood stops)

-- ---- from the first key on

-- under the key that is chosen, behind its first segment
pub passes_chosen : (ciphers : List SegmentCipher) (key : SegmentCipher) (taken p : List ℕ) (ended : Bool) (result : Result (Unit {0}) OpenPumpFault) (was mid now : SourceState) (s t u : SealingState) (old halfway new : SinkState)
    → ((more : List ℕ) (e : Bool) → Follows ended more e → choose ciphers (taken ++ more) e ≡ chosen key) → Gave was mid taken → Seals s t p old halfway → Stood old.faults halfway.faults
    → Passes (opening_under key) taken p ended result mid now t u halfway new → Passes (opening_any ciphers) [] [] false result was now s u old new
passes_chosen ciphers key taken p ended result was mid now s t u old halfway new choice gave seals stood (went q pumps more) =
    went (p ++ q) (pumps_chosen ciphers key taken p ended result was mid now (told []) (told p) (told (p ++ q)) choice gave (told_took [] p) (told_later (opening_under key) taken p p q ended result mid now pumps))
    (seals_more s t u old halfway new p q seals more)
passes_chosen ciphers key taken p ended result was mid now s t u old halfway new choice gave seals stood (stopped q why so r stops) =
    stopped (p ++ q) why so
    (record {
      more = taken ++ r.more;
      rest = r.rest;
      ended = r.ended;
      gave = gave_more _ _ _ _ _ gave r.gave;
      follows = λ n. absurd cc;
      end = r.end;
      front = append_assoc p q r.rest ∙ r.front ∙ ap (λ (x : Choice). released_by x (taken ++ r.more) r.ended) (sym (choice r.more r.ended r.follows));
    })
    (stops_more why s t old halfway new p q seals stood stops)

-- the first segment isn't sealed to its end
pub passes_stopped : (ciphers : List SegmentCipher) (key : SegmentCipher) (was now : SourceState) (s u : SealingState) (old new : SinkState) (taken p : List ℕ) (ended : Bool) (why : UpdateFault) → choose ciphers taken ended ≡ chosen key → IsCipher key → Gave was now taken → (ended ≡ true → IsAtEnd now) → is_decided key taken ended ≡ true
    → opens_at key taken 0 ≡ Some p → Stops why s p old new → Passes (opening_any ciphers) [] [] false (Err (halt_fault why)) was now s u old new
passes_stopped ciphers key was now s u old new taken p ended why c is gave end decided opens stops =
    let f = first_front key taken p ended is decided opens in
    stopped p why refl
    (record {
      more = taken;
      rest = f.0;
      ended = ended;
      gave = gave;
      follows = λ n. absurd cc;
      end = end;
      front = f.1 ∙ sym (ap (λ (x : Choice). released_by x taken ended) c);
    })
    stops

-- nothing was sealed
pub untouched : (part : Part) (result : Result (Unit {0}) OpenPumpFault) (was now : SourceState) (s t : SealingState) (old new : SinkState) → s ≡ t → old ≡ new → Pumps part [] [] false result was now (told []) (told []) → Passes part [] [] false result was now s t old new
untouched part result was now s t old new same still pumps =
    subst (λ (u : SealingState). Passes part [] [] false result was now s u old new) same
    (subst (λ (k : SinkState). Passes part [] [] false result was now s s old k) still (went [] pumps (seals_nothing s old)))

-- no fault is hidden
pub shows_halted : (why : UpdateFault) (s : SealingState) (plain : List ℕ) (was now : SourceState) (old new : SinkState) → Stops why s plain old new → Stood was.faults now.faults → ShowsFaults (Err (halt_fault why)) was now old new
shows_halted halts.WriteFault s plain was now old new stops stood = (stood, stops.1)
shows_halted halts.TooManySegments s plain was now old new stops stood = (stood, stops.0)

-- ---- the header, the pass, and the end

pub not_whole : (keys : List SegmentCipher) (taken : List ℕ) (ended : Bool) (r : StreamRefusal) → decides keys taken ended ≡ Some r → is_whole keys taken ended ≡ false
not_whole keys taken ended r e = ap (λ (o : Option StreamRefusal). ended && is_none o) e ∙ never ended
  where
    never : (b : Bool) → (b && false) ≡ false
    never true = refl
    never false = refl

pub whole_end : (keys : List SegmentCipher) (taken : List ℕ) → decides keys taken true ≡ None → is_whole keys taken true ≡ true
whole_end keys taken e = ap (λ (o : Option StreamRefusal). true && is_none o) e

-- behind too many segments nothing is sealed, whatever follows, and whether the end was seen or not
pub many_front : (key : SegmentCipher) (header plain rest : List ℕ) (ended : Bool) → IsCipher key → many_plain key header plain ≡ Some too_many
    → (sealed_behind key header (plain ++ rest) ended ≡ sealed_behind key header plain false) × (many_plain key header (plain ++ rest) ≡ Some too_many)
many_front key header plain rest ended is many =
    let m = many_is (followed (plain_size key) (header ++ plain)) too_many many in
    let a = many_stays key header plain rest false is m.0 in
    let n = many_is (followed (plain_size key) (header ++ (plain ++ rest))) too_many a.1 in
    let b = many_stays key header (plain ++ rest) [] ended is n.0 in
    (sym b.0 ∙ ap (λ (l : List ℕ). sealed_behind key header l true) (append-nil (plain ++ rest)) ∙ a.0, a.1)

-- the pass didn't come to its end
pub passes_fault : (ciphers : List SegmentCipher) (cipher : SegmentCipher) (header : List ℕ) (f : OpenPumpFault) (was now : SourceState) (s t : SealingState) (old mid new : SinkState) → IsCipher cipher → HasSealed s cipher header [] header → Took old mid header
    → Passes (opening_any ciphers) [] [] false (Err f) was now s t mid new → Pumps (resealing ciphers cipher header) [] [] false (Err f) was now old new
passes_fault ciphers cipher header f was now s t old mid new is h took (went plain (pumped m out so gave follows end tk o d) seals) = let no : Err f ≡ Ok tt = so in absurd cc
passes_fault ciphers cipher header f was now s t old mid new is h took (went plain (refused m out ended r so gave follows end tk o d) seals) =
    let sl = seals cipher header [] header h in
    let same : plain ≡ released ciphers m ended = told_out plain out tk ∙ o in
    refused m (header ++ sl.more) ended r so gave follows end (took_more _ _ _ _ _ took sl.took)
    (sym sl.has.sealed ∙ ap (λ (l : List ℕ). sealed_behind cipher header l false) same ∙ ap (λ (b : Bool). sealed_behind cipher header (released ciphers m ended) b) (sym (not_whole ciphers m ended r d)))
    (ap (λ (x : Option StreamRefusal). option_or x (decides ciphers m ended)) (ap (λ (l : List ℕ). many_plain cipher header l) (sym same) ∙ sl.has.few) ∙ d)
passes_fault ciphers cipher header f was now s t old mid new is h took (went plain (unread m out so rose gave follows tk o d) seals) =
    let sl = seals cipher header [] header h in
    let same : plain ≡ released ciphers m false = told_out plain out tk ∙ o in
    unread m (header ++ sl.more) so rose gave follows (took_more _ _ _ _ _ took sl.took)
    (sym sl.has.sealed ∙ ap (λ (l : List ℕ). sealed_behind cipher header l false) same)
    (ap (λ (x : Option StreamRefusal). option_or x (decides ciphers m false)) (ap (λ (l : List ℕ). many_plain cipher header l) (sym same) ∙ sl.has.few) ∙ d)
passes_fault ciphers cipher header f was now s t old mid new is h took (went plain (unwritten m out rest ended so rose gave follows end tk some o) seals) = absurd (never_rose rose)
passes_fault ciphers cipher header f was now s t old mid new is h took (stopped plain halts.WriteFault so r stops) =
    let u = stops.2 cipher header [] header h in
    let b = behind_front cipher header plain r.rest (is_whole ciphers r.more r.ended) is in
    unwritten r.more (header ++ u.more) (u.rest ++ b.0) r.ended so (rose_after _ _ _ took.faults stops.0) r.gave r.follows r.end (took_more _ _ _ _ _ took u.took)
    (omega (arith, u.some, length-append u.rest b.0))
    (append_assoc header u.more (u.rest ++ b.0) ∙ ap (λ (l : List ℕ). header ++ l) (sym (append_assoc u.more u.rest b.0)) ∙ sym (append_assoc header (u.more ++ u.rest) b.0)
    ∙ ap (λ (l : List ℕ). l ++ b.0) u.whole ∙ b.1 ∙ ap (λ (l : List ℕ). sealed_behind cipher header l (is_whole ciphers r.more r.ended)) r.front)
passes_fault ciphers cipher header f was now s t old mid new is h took (stopped plain halts.TooManySegments so r stops) =
    let u = stops.1 cipher header [] header h in
    let m = many_front cipher header plain r.rest (is_whole ciphers r.more r.ended) is u.many in
    refused r.more (header ++ u.more) r.ended too_many so r.gave r.follows r.end (took_more _ _ _ _ _ took u.took)
    (u.whole ∙ sym m.0 ∙ ap (λ (l : List ℕ). sealed_behind cipher header l (is_whole ciphers r.more r.ended)) r.front)
    (ap (λ (x : Option StreamRefusal). option_or x (decides ciphers r.more r.ended)) (ap (λ (l : List ℕ). many_plain cipher header l) (sym r.front) ∙ m.1))

-- it did, and the stream was ended
pub passes_done : (ciphers : List SegmentCipher) (cipher : SegmentCipher) (header : List ℕ) (was now : SourceState) (s t : SealingState) (old mid later new : SinkState) → HasSealed s cipher header [] header → Took old mid header
    → Passes (opening_any ciphers) [] [] false (Ok tt) was now s t mid later → SealsLast t later new → Pumps (resealing ciphers cipher header) [] [] false (Ok tt) was now old new
passes_done ciphers cipher header was now s t old mid later new h took (went plain (pumped m out so gave follows end tk o d) seals) last =
    let sl = seals cipher header [] header h in
    let fin = last cipher header plain (header ++ sl.more) sl.has in
    let same : plain ≡ released ciphers m true = told_out plain out tk ∙ o in
    pumped m ((header ++ sl.more) ++ fin.more) refl gave follows end (took_more _ _ _ _ _ (took_more _ _ _ _ _ took sl.took) fin.took)
    (fin.whole ∙ ap (λ (l : List ℕ). sealed_behind cipher header l true) same ∙ ap (λ (b : Bool). sealed_behind cipher header (released ciphers m true) b) (sym (whole_end ciphers m d)))
    (ap (λ (x : Option StreamRefusal). option_or x (decides ciphers m true)) (ap (λ (l : List ℕ). many_plain cipher header l) (sym same) ∙ sl.has.few) ∙ d)
passes_done ciphers cipher header was now s t old mid later new h took (went plain (refused m out ended r so gave follows end tk o d) seals) last = absurd cc
passes_done ciphers cipher header was now s t old mid later new h took (went plain (unread m out so rose gave follows tk o d) seals) last = absurd cc
passes_done ciphers cipher header was now s t old mid later new h took (went plain (unwritten m out rest ended so rose gave follows end tk some o) seals) last = absurd cc
passes_done ciphers cipher header was now s t old mid later new h took (stopped plain why so r stops) last = absurd cc

-- the last segment wasn't written to its end
pub passes_unended : (ciphers : List SegmentCipher) (cipher : SegmentCipher) (header : List ℕ) (was now : SourceState) (s t : SealingState) (old mid later new : SinkState) → HasSealed s cipher header [] header → Took old mid header
    → Passes (opening_any ciphers) [] [] false (Ok tt) was now s t mid later → Rose later.faults new.faults → SealsLastFront t later new → Pumps (resealing ciphers cipher header) [] [] false (Err fault.WriteFault) was now old new
passes_unended ciphers cipher header was now s t old mid later new h took (went plain (pumped m out so gave follows end tk o d) seals) rose last =
    let sl = seals cipher header [] header h in
    let fin = last cipher header plain (header ++ sl.more) sl.has in
    let same : plain ≡ released ciphers m true = told_out plain out tk ∙ o in
    let before = took_more _ _ _ _ _ took sl.took in
    unwritten m ((header ++ sl.more) ++ fin.more) fin.rest true refl (rose_after _ _ _ before.faults rose) gave follows (λ e. end) (took_more _ _ _ _ _ before fin.took) fin.some
    (append_assoc (header ++ sl.more) fin.more fin.rest ∙ fin.whole ∙ ap (λ (l : List ℕ). sealed_behind cipher header l true) same ∙ ap (λ (b : Bool). sealed_behind cipher header (released ciphers m true) b) (sym (whole_end ciphers m d)))
passes_unended ciphers cipher header was now s t old mid later new h took (went plain (refused m out ended r so gave follows end tk o d) seals) rose last = absurd cc
passes_unended ciphers cipher header was now s t old mid later new h took (went plain (unread m out so r gave follows tk o d) seals) rose last = absurd cc
passes_unended ciphers cipher header was now s t old mid later new h took (went plain (unwritten m out rest ended so r gave follows end tk some o) seals) rose last = absurd cc
passes_unended ciphers cipher header was now s t old mid later new h took (stopped plain why so r stops) rose last = absurd cc

-- the header isn't written to its end
pub begin_unwritten : (ciphers : List SegmentCipher) (cipher : SegmentCipher) (header : List ℕ) (source : SourceState) (old new : SinkState) → IsCipher cipher → Rose old.faults new.faults → TookPrefix old new header → Pumps (resealing ciphers cipher header) [] [] false (Err fault.WriteFault) source source old new
begin_unwritten ciphers cipher header source old new is rose t =
    let f = behind_header_front cipher header (released ciphers [] false) in
    unwritten [] t.front (t.rest ++ f.0) false refl rose (gave_nothing source) (λ n. absurd cc) (λ n. absurd cc) t.took (omega (arith, t.some, length-append t.rest f.0))
    (sym (append_assoc t.front t.rest f.0) ∙ ap (λ (l : List ℕ). l ++ f.0) t.whole ∙ f.1)
  where
    behind_header_front : (key : SegmentCipher) (front plain : List ℕ) → (rest : List ℕ) × (front ++ rest ≡ sealed_behind key front plain false)
    behind_header_front key front plain = (concat (sealed_segments key front plain false), refl)
