-- A pass that seals a stream.
use Rattle.std.proofs.Common.{◌≡◌, ℕ, zero, suc, ◌+◌, ◌-◌, ◌<◌, ◌≤◌, List, [], ◌++◌, length, take, drop, refl, sym, ◌∙◌, ap, subst, arith, append_assoc, append-nil}
use Rattle.std.specs.Prelude.{Bool, true, false, Ok, Err}
use Rattle.std.proofs.lemmas.List.{length-append, take-take}
use Rattle.tink_spec.specs.Outside.{SourceState, SinkState, Rose, Gave, Took, TookPrefix, IsAtEnd}
use Rattle.tink_spec.proofs.Moves.{gave_nothing, gave_more, took_more}
use Rattle.segment_stream.specs.Cipher.{SegmentCipher, IsCipher, most_segments, behind_header}
use Rattle.segment_stream.specs.Opening.{too_many}
use Rattle.segment_stream.specs.Sealing.{plain_size}
use Rattle.segment_stream.specs.Under.{SealStanding}
use Rattle.segment_stream.specs.Segments.{seals_under, tag_size_under}
use Rattle.segment_stream.specs.Streams.{IsUnder, StreamState}
use Rattle.segment_stream.specs.Pumping.{Pumps, pumped, refused, unread, unwritten, sealing}
use Rattle.segment_stream.specs.Reading.{ReadBehind}
use Rattle.segment_stream.specs.declared.fault.OpenPumpFault.TheVariants as fault
use Rattle.segment_stream.proofs.Pass.{rose_after}
use Rattle.segment_stream.proofs.Slices.{behind}
use Rattle.segment_stream.proofs.SealStanding.{sealing_begins, sealing_more, sealing_next, sealing_front, sealing_waits, sealing_ends, sealing_many}

pub record SealGoing (key : SegmentCipher) (header : List ℕ) (seen : Bool) (was now : SourceState) (old new : SinkState) (held : List ℕ) (number : ℕ) : Type 0 where
  pub more : List ℕ
  pub out : List ℕ
  pub gave : Gave was now more
  pub took : Took old new out
  pub stands : SealStanding key header more number held out
  pub end : seen ≡ true → IsAtEnd now

-- what lies behind the header, or all
pub plain_is : (header number from end : ℕ) (buffer : List ℕ) → (number ≡ 0 → from ≡ header) → (0 < number → from ≡ 0) → (number ≡ 0 → header ≤ end) → take (end - from) (drop from buffer) ≡ behind_header header number (take end buffer)
plain_is header zero from end buffer first later le =
    let e : from ≡ header = first refl in
    ap (λ n. take (end - n) (drop n buffer)) e ∙ sym (behind header end buffer (le refl))
plain_is header (suc n) from end buffer first later le =
    let e : from ≡ 0 = later (omega arith) in
    let all : end - 0 ≡ end = omega arith in
    ap (λ k. take (end - k) (drop k buffer)) e ∙ ap (λ k. take k buffer) all

-- in the buffer, at the front of what is held
pub held_plain : (header number size len : ℕ) (buffer : List ℕ) → size ≤ len → behind_header header number (take size buffer) ≡ behind_header header number (take size (take len buffer))
held_plain header number size len buffer le = ap (behind_header header number) (sym (take-take size len buffer le))

-- the plaintext of the first segment that is held, in the buffer
pub plain_full : (header number from size plain len : ℕ) (buffer : List ℕ) → size ≡ plain → size ≤ len → header ≤ size → (number ≡ 0 → from ≡ header) → (0 < number → from ≡ 0) → take (size - from) (drop from buffer) ≡ behind_header header number (take plain (take len buffer))
plain_full header number from size plain len buffer e le room first later =
    plain_is header number from size buffer first later (λ n. room)
    ∙ held_plain header number size len buffer le ∙ ap (λ n. behind_header header number (take n (take len buffer))) e

pub plain_under : (stream : StreamState) (key : SegmentCipher) (header : List ℕ) (size : ℕ) → IsUnder stream key header → size ≡ stream.size - tag_size_under stream.keys → size ≡ plain_size key
plain_under stream key header size u e = e ∙ ap (λ n. n - tag_size_under stream.keys) u.size ∙ ap (λ n. key.size - n) u.tag

-- what is sealed in the buffer is the segment of the cipher
pub seals_full : (stream : StreamState) (key : SegmentCipher) (header : List ℕ) (number from size len : ℕ) (buffer : List ℕ) → IsUnder stream key header → size ≡ plain_size key → size ≤ len → len ≤ length buffer → (number ≡ 0 → from ≡ key.header) → (0 < number → from ≡ 0)
    → seals_under stream.keys stream.prefix number false (take (size - from) (take (length buffer - from) (drop from buffer))) ≡ key.seals header number false (behind_header key.header number (take (plain_size key) (take len buffer)))
seals_full stream key header number from size len buffer u e le fits first later =
    u.seals number false (take (size - from) (take (length buffer - from) (drop from buffer)))
    ∙ ap (λ (l : List ℕ). key.seals header number false l) (take-take (size - from) (length buffer - from) (drop from buffer) (omega (arith, le, fits)) ∙ plain_full key.header number from size (plain_size key) len buffer e le (omega (arith, u.is.room, e)) first later)

pub seals_last : (stream : StreamState) (key : SegmentCipher) (header : List ℕ) (number from len : ℕ) (buffer : List ℕ) → IsUnder stream key header → len ≤ length buffer → (number ≡ 0 → from ≡ key.header) → (0 < number → from ≡ 0) → (number ≡ 0 → key.header ≤ len)
    → seals_under stream.keys stream.prefix number true (take (len - from) (take (length buffer - from) (drop from buffer))) ≡ key.seals header number true (behind_header key.header number (take len buffer))
seals_last stream key header number from len buffer u fits first later le =
    u.seals number true (take (len - from) (take (length buffer - from) (drop from buffer)))
    ∙ ap (λ (l : List ℕ). key.seals header number true l) (take-take (len - from) (length buffer - from) (drop from buffer) (omega (arith, fits)) ∙ plain_is key.header number from len buffer first later le)

pub sgo_begins : (key : SegmentCipher) (header : List ℕ) (source : SourceState) (old new : SinkState) (held : List ℕ) → held ≡ header → Took old new header → SealGoing key header false source source old new held 0
sgo_begins key header source old new held e took = record { more = []; out = header; gave = gave_nothing source; took = took; stands = subst (λ (l : List ℕ). SealStanding key header [] 0 l header) (sym e) (sealing_begins key header); end = λ n. absurd cc }

pub sgo_read : (key : SegmentCipher) (header : List ℕ) (seen later : Bool) (was mid now : SourceState) (old new : SinkState) (held after : List ℕ) (number n : ℕ) → IsCipher key → SealGoing key header seen was mid old new held number → ReadBehind mid now held after n → (later ≡ true → IsAtEnd now)
    → SealGoing key header later was now old new after number
sgo_read key header seen later was mid now old new held after number n is x r end = record {
  more = x.more ++ r.piece;
  out = x.out;
  gave = gave_more _ _ _ _ _ x.gave r.gave;
  took = x.took;
  stands = subst (λ (h : List ℕ). SealStanding key header (x.more ++ r.piece) number h x.out) (sym r.is) (sealing_more key header x.more number held x.out r.piece is x.stands);
  end = end;
}

pub sgo_next : (key : SegmentCipher) (header : List ℕ) (seen : Bool) (was now : SourceState) (old mid new : SinkState) (held : List ℕ) (number : ℕ) → IsCipher key → number < most_segments → plain_size key < length held
    → SealGoing key header seen was now old mid held number → Took mid new (key.seals header number false (behind_header key.header number (take (plain_size key) held))) → SealGoing key header seen was now old new (drop (plain_size key) held) (number + 1)
sgo_next key header seen was now old mid new held number is below full x took = record {
  more = x.more;
  out = x.out ++ key.seals header number false (behind_header key.header number (take (plain_size key) held));
  gave = x.gave;
  took = took_more _ _ _ _ _ x.took took;
  stands = sealing_next key header x.more number held x.out is x.stands full below;
  end = x.end;
}

pub sgo_many : (key : SegmentCipher) (header : List ℕ) (seen : Bool) (was now : SourceState) (old new : SinkState) (held : List ℕ) (number : ℕ) → number ≡ most_segments → SealGoing key header seen was now old new held number → Pumps (sealing key header) [] [] false (Err fault.TooManySegments) was now old new
sgo_many key header seen was now old new held number full x =
    let s = sealing_many key header x.more number held x.out seen x.stands full in
    refused x.more x.out seen too_many refl x.gave (λ n. absurd cc) x.end x.took (sym s.sealed) s.decided

pub sgo_unread : (key : SegmentCipher) (header : List ℕ) (seen : Bool) (was mid now : SourceState) (old new : SinkState) (held : List ℕ) (number : ℕ) → IsCipher key → number < most_segments → length held ≤ plain_size key
    → SealGoing key header seen was mid old new held number → Rose mid.faults now.faults → Gave mid now [] → Pumps (sealing key header) [] [] false (Err fault.ReadFault) was now old new
sgo_unread key header seen was mid now old new held number is below short x rose gave =
    let s = sealing_waits key header x.more number held x.out is x.stands short below in
    unread x.more x.out refl (rose_after _ _ _ x.gave.faults rose) (subst (λ (l : List ℕ). Gave was now l) (append-nil x.more) (gave_more _ _ _ _ _ x.gave gave)) (λ n. absurd cc) x.took (sym s.sealed) s.decided

pub sgo_ends : (key : SegmentCipher) (header : List ℕ) (seen : Bool) (was now : SourceState) (old mid new : SinkState) (held : List ℕ) (number : ℕ) → IsCipher key → number < most_segments → length held ≤ plain_size key
    → SealGoing key header seen was now old mid held number → seen ≡ true → Took mid new (key.seals header number true (behind_header key.header number held)) → Pumps (sealing key header) [] [] false (Ok tt) was now old new
sgo_ends key header seen was now old mid new held number is below short x end took =
    let s = sealing_ends key header x.more number held x.out is x.stands short below in
    pumped x.more (x.out ++ key.seals header number true (behind_header key.header number held)) refl x.gave (λ n. absurd cc) (x.end end) (took_more _ _ _ _ _ x.took took) (sym s.sealed) s.decided

-- a segment isn't written to its end
pub sgo_unwritten : (key : SegmentCipher) (header : List ℕ) (seen : Bool) (was now : SourceState) (old mid new : SinkState) (held : List ℕ) (number : ℕ) → IsCipher key → number < most_segments → plain_size key < length held
    → SealGoing key header seen was now old mid held number → Rose mid.faults new.faults → TookPrefix mid new (key.seals header number false (behind_header key.header number (take (plain_size key) held))) → Pumps (sealing key header) [] [] false (Err fault.WriteFault) was now old new
sgo_unwritten key header seen was now old mid new held number is below full x rose t =
    let s = sealing_next key header x.more number held x.out is x.stands full below in
    let f = sealing_front key header x.more (number + 1) _ _ seen s in
    unwritten x.more (x.out ++ t.front) (t.rest ++ f.0) seen refl (rose_after _ _ _ x.took.faults rose) x.gave (λ n. absurd cc) x.end (took_more _ _ _ _ _ x.took t.took) (omega (arith, t.some, length-append t.rest f.0))
    (went x.out t.front t.rest f.0 _ _ t.whole f.1)
  where
    went : (out front rest back p all : List ℕ) → front ++ rest ≡ p → (out ++ p) ++ back ≡ all → (out ++ front) ++ (rest ++ back) ≡ all
    went out front rest back p all e f = sym (append_assoc (out ++ front) rest back) ∙ ap (λ (l : List ℕ). l ++ back) (append_assoc out front rest ∙ ap (λ (l : List ℕ). out ++ l) e) ∙ f

pub sgo_ends_unwritten : (key : SegmentCipher) (header : List ℕ) (seen : Bool) (was now : SourceState) (old mid new : SinkState) (held : List ℕ) (number : ℕ) → IsCipher key → number < most_segments → length held ≤ plain_size key
    → SealGoing key header seen was now old mid held number → seen ≡ true → Rose mid.faults new.faults → TookPrefix mid new (key.seals header number true (behind_header key.header number held)) → Pumps (sealing key header) [] [] false (Err fault.WriteFault) was now old new
sgo_ends_unwritten key header seen was now old mid new held number is below short x end rose t =
    let s = sealing_ends key header x.more number held x.out is x.stands short below in
    unwritten x.more (x.out ++ t.front) t.rest true refl (rose_after _ _ _ x.took.faults rose) x.gave (λ n. absurd cc) (λ e. x.end end) (took_more _ _ _ _ _ x.took t.took) t.some
    (append_assoc x.out t.front t.rest ∙ ap (λ (l : List ℕ). x.out ++ l) t.whole ∙ sym s.sealed)

-- the header isn't written to its end
pub header_unwritten : (key : SegmentCipher) (header : List ℕ) (source : SourceState) (old new : SinkState) → Rose old.faults new.faults → TookPrefix old new header → Pumps (sealing key header) [] [] false (Err fault.WriteFault) source source old new
header_unwritten key header source old new rose t =
    let f = sealing_front key header [] 0 header header false (sealing_begins key header) in
    unwritten [] t.front (t.rest ++ f.0) false refl rose (gave_nothing source) (λ n. absurd cc) (λ n. absurd cc) t.took (omega (arith, t.some, length-append t.rest f.0))
    (sym (append_assoc t.front t.rest f.0) ∙ ap (λ (l : List ℕ). l ++ f.0) t.whole ∙ f.1)

-- a read fails before the first segment is settled
pub header_unread : (key : SegmentCipher) (header piece : List ℕ) (was now : SourceState) (old new : SinkState) → IsCipher key → length header + length piece ≤ plain_size key → Rose was.faults now.faults → Gave was now piece → Took old new header → Pumps (sealing key header) [] [] false (Err fault.ReadFault) was now old new
header_unread key header piece was now old new is short rose gave took =
    let stands = sealing_more key header [] 0 header header piece is (sealing_begins key header) in
    let s = sealing_waits key header piece 0 (header ++ piece) header is stands (omega (arith, short, length-append header piece)) (omega arith) in
    unread piece header refl rose gave (λ n. absurd cc) took (sym s.sealed) s.decided
