-- A stream that is sealed as its plaintext comes.
use Rattle.std.proofs.Common.{◌≡◌, ℕ, zero, suc, ◌+◌, ◌-◌, ◌<◌, ◌≤◌, List, [], ◌∷◌, ◌++◌, length, take, drop, refl, sym, ◌∙◌, ap, subst, arith, append_assoc, append-nil, inl, inr}
use Rattle.std.specs.Prelude.{Bool, true, false, Some, None, nat_le, if◌then◌else◌}
use Rattle.std.proofs.lemmas.Bool.{cases_lt}
use Rattle.std.proofs.lemmas.List.{length-append, take-take, take_all, take_at, drop_at}
use Rattle.tink_spec.specs.Outside.{SinkState, Rose, RoseOnce, Stood, Took, TookPrefix, next}
use Rattle.tink_spec.proofs.Moves.{took_nothing, took_more}
use Rattle.segment_stream.specs.Cipher.{SegmentCipher, most_segments, behind_header}
use Rattle.segment_stream.specs.Opening.{too_many}
use Rattle.segment_stream.specs.Pieces.{followed}
use Rattle.segment_stream.specs.Sealing.{plain_size, many_plain, sealed_behind}
use Rattle.segment_stream.specs.Segments.{seals_under, tag_size_under}
use Rattle.segment_stream.specs.Streams.{IsUnder, StreamState}
use Rattle.segment_stream.specs.Under.{SealStanding}
use Rattle.segment_stream.specs.Pushing.{SealingState, HasSealed, MakesRoom, Seals, SealsLast, SealsLastFront, Stops}
use Rattle.segment_stream.specs.declared.fault.UpdateFault.{UpdateFault}
use Rattle.segment_stream.specs.declared.fault.UpdateFault.TheVariants as faults
use Rattle.segment_stream.proofs.OpeningLemmas.{long_enough}
use Rattle.segment_stream.proofs.Slices.{behind}
use Rattle.segment_stream.proofs.Buffers.{kept_front}
use Rattle.segment_stream.proofs.SealStanding.{sealing_begins, sealing_more, sealing_next, sealing_front, sealing_waits, sealing_ends, sealing_many}

-- ---- the buffer

-- what is sealed in the buffer is what it held
pub held_behind : (from held there : ℕ) (longer before : List ℕ) → from ≤ held → held ≤ there → held ≤ length longer → take there longer ≡ before
    → take (held - from) (take (length longer - from) (drop from longer)) ≡ drop from (take held before)
held_behind from held there longer before le within fits kept =
    take-take (held - from) (length longer - from) (drop from longer) (omega arith)
    ∙ sym (behind from held longer le) ∙ ap (drop from) (kept_front held there longer before within kept)

-- behind the header in the first piece, and all of a later one
pub piece_behind : (header number from : ℕ) (held : List ℕ) → (number ≡ 0 → from ≡ header) → (0 < number → from ≡ 0) → drop from held ≡ behind_header header number held
piece_behind header zero from held first later = ap (λ n. drop n held) (first refl)
piece_behind header (suc n) from held first later = let e : from ≡ 0 = later (omega arith) in ap (λ k. drop k held) e

-- what is sealed of the piece that is held is the segment of the cipher
pub seals_piece : (s : SealingState) (cipher : SegmentCipher) (header : List ℕ) (from : ℕ) (last : Bool) → IsUnder s.stream cipher header → s.header ≡ cipher.header → (s.number ≡ 0 → from ≡ s.header) → (0 < s.number → from ≡ 0)
    → seals_under s.stream.keys s.stream.prefix s.number last (drop from s.held) ≡ cipher.seals header s.number last (behind_header cipher.header s.number s.held)
seals_piece s cipher header from last under front first later =
    under.seals s.number last (drop from s.held)
    ∙ ap (λ (l : List ℕ). cipher.seals header s.number last l)
    (piece_behind s.header s.number from s.held first later ∙ ap (λ n. behind_header n s.number s.held) front)

pub size_under : (s : SealingState) (cipher : SegmentCipher) (header : List ℕ) (size : ℕ) → IsUnder s.stream cipher header → size ≡ s.stream.size - tag_size_under s.stream.keys → size ≡ plain_size cipher
size_under s cipher header size u e = e ∙ ap (λ n. n - tag_size_under s.stream.keys) u.size ∙ ap (λ n. cipher.size - n) u.tag

-- ---- room for a byte

few_number : (n : ℕ) → (if nat_le most_segments n then Some too_many else None) ≡ None → n < most_segments
few_number n e = elim (cases_lt n most_segments) [
  | inl few ↦ few
  | inr many ↦ let t : nat_le most_segments n ≡ true = long_enough most_segments n many in let h : Some too_many ≡ None = sym (ap (λ (b : Bool). if b then Some too_many else None) t) ∙ e in absurd cc
]

pub few_sealed : (s : SealingState) (cipher : SegmentCipher) (header taken written : List ℕ) → HasSealed s cipher header taken written → s.number < most_segments
few_sealed s cipher header taken written h =
    let few = few_number (followed (plain_size cipher) (header ++ taken)) h.few in
    omega (arith, few, h.stands.within)

-- the piece isn't full
pub has_room : (s : SealingState) (sink : SinkState) → MakesRoom s s sink sink
has_room s sink = λ cipher header taken written h. record {
  more = [];
  took = took_nothing sink;
  has = record {
    under = h.under;
    front = h.front;
    few = few_sealed s cipher header taken written h;
    stands = λ plain some. subst (λ (w : List ℕ). SealStanding cipher header (taken ++ plain) s.number (s.held ++ plain) w) (sym (append-nil written))
        (sealing_more cipher header taken s.number s.held written plain h.under.is h.stands);
  };
}

-- where bytes follow it, a full piece is settled
full_next : (s : SealingState) (cipher : SegmentCipher) (header taken written plain : List ℕ) → HasSealed s cipher header taken written → length s.held ≡ plain_size cipher → 0 < length plain
    → SealStanding cipher header (taken ++ plain) (s.number + 1) plain (written ++ cipher.seals header s.number false (behind_header cipher.header s.number s.held))
full_next s cipher header taken written plain h full some =
    let more = sealing_more cipher header taken s.number s.held written plain h.under.is h.stands in
    let next = sealing_next cipher header (taken ++ plain) s.number (s.held ++ plain) written h.under.is more (omega (arith, length-append s.held plain, full, some)) (few_sealed s cipher header taken written h) in
    subst (λ (l : List ℕ). SealStanding cipher header (taken ++ plain) (s.number + 1) plain (written ++ cipher.seals header s.number false (behind_header cipher.header s.number l))) (take_at s.held plain (plain_size cipher) full)
    (subst (λ (l : List ℕ). SealStanding cipher header (taken ++ plain) (s.number + 1) l (written ++ cipher.seals header s.number false (behind_header cipher.header s.number (take (plain_size cipher) (s.held ++ plain))))) (drop_at s.held plain (plain_size cipher) full) next)

-- the next piece
abbrev pub next_piece : SealingState → SealingState
next_piece s = record { stream = s.stream; header = s.header; number = s.number + 1; held = [] }

pub makes_room : (s : SealingState) (from : ℕ) (old new : SinkState) → length s.held ≡ s.stream.size - tag_size_under s.stream.keys → s.number + 1 < most_segments
    → (s.number ≡ 0 → from ≡ s.header) → (0 < s.number → from ≡ 0)
    → Took old new (seals_under s.stream.keys s.stream.prefix s.number false (drop from s.held)) → MakesRoom s (next_piece s) old new
makes_room s from old new full below first later took = λ cipher header taken written h. record {
  more = cipher.seals header s.number false (behind_header cipher.header s.number s.held);
  took = subst (λ (l : List ℕ). Took old new l) (seals_piece s cipher header from false h.under h.front first later) took;
  has = record {
    under = h.under;
    front = h.front;
    few = below;
    stands = λ plain some. full_next s cipher header taken written plain h (size_under s cipher header (length s.held) h.under full) some;
  };
}

-- the full piece isn't written to its end
pub room_unwritten : (s : SealingState) (from : ℕ) (old new : SinkState) (plain : List ℕ) → length s.held ≡ s.stream.size - tag_size_under s.stream.keys → 0 < length plain
    → (s.number ≡ 0 → from ≡ s.header) → (0 < s.number → from ≡ 0) → Rose old.faults new.faults → RoseOnce old.faults new.faults
    → TookPrefix old new (seals_under s.stream.keys s.stream.prefix s.number false (drop from s.held)) → Stops faults.WriteFault s plain old new
room_unwritten s from old new plain full some first later rose once t = (
  rose,
  once,
  λ cipher header taken written h.
      let next = full_next s cipher header taken written plain h (size_under s cipher header (length s.held) h.under full) some in
      let f = sealing_front cipher header (taken ++ plain) (s.number + 1) _ _ false next in
      record {
        more = t.front;
        rest = t.rest ++ f.0;
        took = t.took;
        some = omega (arith, t.some, length-append t.rest f.0);
        whole = ap (λ (l : List ℕ). written ++ l) (sym (append_assoc t.front t.rest f.0))
            ∙ sym (append_assoc written (t.front ++ t.rest) f.0)
            ∙ ap (λ (l : List ℕ). (written ++ l) ++ f.0) (t.whole ∙ seals_piece s cipher header from false h.under h.front first later) ∙ f.1;
      },
)

-- it is the last that there may be
pub room_full : (s : SealingState) (from : ℕ) (old new : SinkState) (plain : List ℕ) → length s.held ≡ s.stream.size - tag_size_under s.stream.keys → 0 < length plain → s.number + 1 ≡ most_segments
    → (s.number ≡ 0 → from ≡ s.header) → (0 < s.number → from ≡ 0) → Stood old.faults new.faults
    → Took old new (seals_under s.stream.keys s.stream.prefix s.number false (drop from s.held)) → Stops faults.TooManySegments s plain old new
room_full s from old new plain full some last first later stood took = (
  stood,
  λ cipher header taken written h.
      let next = full_next s cipher header taken written plain h (size_under s cipher header (length s.held) h.under full) some in
      let m = sealing_many cipher header (taken ++ plain) (s.number + 1) _ _ false next last in
      record {
        more = cipher.seals header s.number false (behind_header cipher.header s.number s.held);
        took = subst (λ (l : List ℕ). Took old new l) (seals_piece s cipher header from false h.under h.front first later) took;
        whole = sym m.sealed;
        many = m.decided;
      },
)

-- ---- plaintext taken

-- bytes are held behind those of the piece, which has room for them
pub seals_held : (s room t : SealingState) (old new : SinkState) (plain : List ℕ) → MakesRoom s room old new → 0 < length plain
    → t.stream ≡ room.stream → t.header ≡ room.header → t.number ≡ room.number → t.held ≡ room.held ++ plain
    → length t.held ≤ room.stream.size - tag_size_under room.stream.keys → Seals s t plain old new
seals_held s room t old new plain made some stream front number held fits = λ cipher header taken written h.
    let m = made cipher header taken written h in
    let stands = m.has.stands plain some in
    let size : length t.held ≤ plain_size cipher = omega (arith, fits, size_under room cipher header (room.stream.size - tag_size_under room.stream.keys) m.has.under refl) in
    let long : length (room.held ++ plain) ≤ plain_size cipher = omega (arith, size, ap length held) in
    let w = sealing_waits cipher header (taken ++ plain) room.number (room.held ++ plain) (written ++ m.more) m.has.under.is stands long m.has.few in
    record {
      more = m.more;
      took = m.took;
      has = record {
        under = subst (λ (x : StreamState). IsUnder x cipher header) (sym stream) m.has.under;
        front = front ∙ m.has.front;
        stands = subst (λ (n : ℕ). SealStanding cipher header (taken ++ plain) n t.held (written ++ m.more)) (sym number)
            (subst (λ (l : List ℕ). SealStanding cipher header (taken ++ plain) room.number l (written ++ m.more)) (sym held) stands);
        sealed = w.sealed;
        few = w.decided;
      };
    }

pub seals_nothing : (s : SealingState) (sink : SinkState) → Seals s s [] sink sink
seals_nothing s sink = λ cipher header taken written h. record {
  more = [];
  took = took_nothing sink;
  has = subst (λ (l : List ℕ). HasSealed s cipher header l (written ++ [])) (sym (append-nil taken)) (subst (λ (l : List ℕ). HasSealed s cipher header taken l) (sym (append-nil written)) h);
}

pub seals_more : (s t u : SealingState) (old mid new : SinkState) (p q : List ℕ) → Seals s t p old mid → Seals t u q mid new → Seals s u (p ++ q) old new
seals_more s t u old mid new p q first second = λ cipher header taken written h.
    let a = first cipher header taken written h in
    let b = second cipher header (taken ++ p) (written ++ a.more) a.has in
    record {
      more = a.more ++ b.more;
      took = took_more _ _ _ _ _ a.took b.took;
      has = subst (λ (l : List ℕ). HasSealed u cipher header l (written ++ (a.more ++ b.more))) (append_assoc taken p q)
          (subst (λ (l : List ℕ). HasSealed u cipher header ((taken ++ p) ++ q) l) (append_assoc written a.more b.more) b.has);
    }

rose_behind : (a b c : ℕ) → Stood a b → Rose b c → Rose a c
rose_behind a b c e r = subst (λ n. Rose n c) e r

-- plaintext is taken, and more isn't taken to its end
pub stops_more : (fault : UpdateFault) (s t : SealingState) (old mid new : SinkState) (p q : List ℕ) → Seals s t p old mid → Stood old.faults mid.faults → Stops fault t q mid new → Stops fault s (p ++ q) old new
stops_more faults.WriteFault s t old mid new p q first stood (rose, once, stops) = (
  rose_behind _ _ _ stood rose,
  once ∙ ap next stood,
  λ cipher header taken written h.
      let a = first cipher header taken written h in
      let b = stops cipher header (taken ++ p) (written ++ a.more) a.has in
      record {
        more = a.more ++ b.more;
        rest = b.rest;
        took = took_more _ _ _ _ _ a.took b.took;
        some = b.some;
        whole = ap (λ (l : List ℕ). written ++ l) (append_assoc a.more b.more b.rest) ∙ sym (append_assoc written a.more (b.more ++ b.rest)) ∙ b.whole
            ∙ ap (λ (l : List ℕ). sealed_behind cipher header l false) (append_assoc taken p q);
      },
)
stops_more faults.TooManySegments s t old mid new p q first stood (stays, stops) = (
  stays ∙ stood,
  λ cipher header taken written h.
      let a = first cipher header taken written h in
      let b = stops cipher header (taken ++ p) (written ++ a.more) a.has in
      record {
        more = a.more ++ b.more;
        took = took_more _ _ _ _ _ a.took b.took;
        whole = sym (append_assoc written a.more b.more) ∙ b.whole ∙ ap (λ (l : List ℕ). sealed_behind cipher header l false) (append_assoc taken p q);
        many = ap (λ (l : List ℕ). many_plain cipher header l) (sym (append_assoc taken p q)) ∙ b.many;
      },
)

-- the first bytes, and those behind them
pub taken_more : (at n : ℕ) (plain : List ℕ) → take at plain ++ take n (drop at plain) ≡ take (at + n) plain
taken_more zero n plain = ap (λ k. take k plain) (omega arith)
taken_more (suc at) n [] = let none : take n (drop (suc at) []) ≡ [] = take_all n [] (omega arith) in let all : take (suc at + n) [] ≡ [] = take_all (suc at + n) [] (omega arith) in none ∙ sym all
taken_more (suc at) n (x ∷ plain) = let e : suc at + n ≡ suc (at + n) = omega arith in ap (λ (l : List ℕ). x ∷ l) (taken_more at n plain) ∙ ap (λ k. take k (x ∷ plain)) (sym e)

-- ---- the end

-- the piece that is held is the last
held_last : (s : SealingState) (cipher : SegmentCipher) (header taken written : List ℕ) → HasSealed s cipher header taken written → length s.held ≤ plain_size cipher
    → written ++ cipher.seals header s.number true (behind_header cipher.header s.number s.held) ≡ sealed_behind cipher header taken true
held_last s cipher header taken written h fits =
    sym (sealing_ends cipher header taken s.number s.held written h.under.is h.stands fits (few_sealed s cipher header taken written h)).sealed

pub seals_last : (s : SealingState) (from : ℕ) (old new : SinkState) → length s.held ≤ s.stream.size - tag_size_under s.stream.keys
    → (s.number ≡ 0 → from ≡ s.header) → (0 < s.number → from ≡ 0) → Took old new (seals_under s.stream.keys s.stream.prefix s.number true (drop from s.held)) → SealsLast s old new
seals_last s from old new fits first later took = λ cipher header taken written h. record {
  more = cipher.seals header s.number true (behind_header cipher.header s.number s.held);
  took = subst (λ (l : List ℕ). Took old new l) (seals_piece s cipher header from true h.under h.front first later) took;
  whole = held_last s cipher header taken written h (omega (arith, fits, size_under s cipher header (s.stream.size - tag_size_under s.stream.keys) h.under refl));
}

pub seals_last_front : (s : SealingState) (from : ℕ) (old new : SinkState) → length s.held ≤ s.stream.size - tag_size_under s.stream.keys
    → (s.number ≡ 0 → from ≡ s.header) → (0 < s.number → from ≡ 0) → TookPrefix old new (seals_under s.stream.keys s.stream.prefix s.number true (drop from s.held)) → SealsLastFront s old new
seals_last_front s from old new fits first later t = λ cipher header taken written h. record {
  more = t.front;
  rest = t.rest;
  took = t.took;
  some = t.some;
  whole = ap (λ (l : List ℕ). written ++ l) (t.whole ∙ seals_piece s cipher header from true h.under h.front first later)
      ∙ held_last s cipher header taken written h (omega (arith, fits, size_under s cipher header (s.stream.size - tag_size_under s.stream.keys) h.under refl));
}

-- the header was written
pub begins_sealed : (s : SealingState) (cipher : SegmentCipher) (header : List ℕ) → IsUnder s.stream cipher header → s.header ≡ cipher.header → s.number ≡ 0 → s.held ≡ header → HasSealed s cipher header [] header
begins_sealed s cipher header under front number held =
    let stands = sealing_begins cipher header in
    let w = sealing_waits cipher header [] 0 header header under.is stands (omega (arith, under.whole, under.is.room)) (omega arith) in
    record {
      under = under;
      front = front;
      stands = subst (λ (n : ℕ). SealStanding cipher header [] n s.held header) (sym number) (subst (λ (l : List ℕ). SealStanding cipher header [] 0 l header) (sym held) stands);
      sealed = w.sealed;
      few = w.decided;
    }
