use Rattle.std.proofs.Common.{◌≡◌, ◌+◌, ◌-◌, ◌≤◌, List, ℕ, take, drop, length, set, get_or, refl, sym, ◌∙◌, ap, subst, arith, inl, inr}
use Rattle.std.specs.Prelude.{true, false}
use Rattle.std.proofs.lemmas.Bool.{cases_lt}
use Rattle.std.proofs.lemmas.List.{length-take-le, length-drop, length-set}
use Rattle.tink_spec.specs.Outside.{Took, TookPrefix}
use Rattle.segment_stream.specs.Cipher.{SegmentCipher}
use Rattle.segment_stream.proofs.SegmentLemmas.{still_under}
use borrow.Rule.Slice.PartMut.{put_mid}
use Rattle.segment_stream.proofs.Buffers.{carried}
use Rattle.segment_stream.proofs.Slices.{length-put}
use Rattle.segment_stream.proofs.SealPass.{SealGoing, plain_under, seals_full, seals_last, sgo_begins, sgo_read, sgo_next, sgo_many, sgo_unread, sgo_ends, sgo_unwritten, sgo_ends_unwritten}
use Rattle.tink_spec.proofs.Moves.{goes_on_stops}
use Rattle.segment_stream.proofs.ReadsOn.{after_read, reads_nothing, room_left}
use Rattle.segment_stream.proofs.sealer.seal_rest.Goals as goal
use Rattle.segment_stream.proofs.sealer.seal_rest.Goals.{then-n-eq0, else-n-eq0}

header_is : (key : SegmentCipher) (header : ℕ) (buffer : List ℕ) → header ≤ length buffer → length (take header buffer) ≡ key.header → header ≡ key.header
header_is key header buffer fits e = sym (length-take-le header buffer fits) ∙ e

pub loop-len-init : goal.loop-len-init
loop-len-init g c = record {
  stream = refl;
  size = ap (λ n. n - c.tag_size.result) c.size.ensures.size ∙ ap (λ n. c.args.stream.now.size - n) c.tag_size.ensures.size;
  same = refl;
  len = omega (arith, c.requires.within);
  room = c.requires.within;
  short = omega (arith, c.requires.short, c.size.ensures.size, c.tag_size.ensures.size);
  head = λ e. c.requires.front;
  most = omega arith;
  still = λ e. (e, refl);
  reads_on = λ e. reads_nothing c.args.whole _;
  read = refl;
  written = refl;
  goes = λ cipher was old u took r. sgo_read cipher (take c.args.header c.args.buffer.now) false c.args.whole was was _ old _ _ _ 0 _ u.is
      (sgo_begins cipher (take c.args.header c.args.buffer.now) was old _ _ refl took)
      (record { piece = r.piece; size = refl; gave = r.gave; is = r.is }) c.requires.end;
}

pub returns-in-Err-clause-pumps : goal.returns-in-Err-clause-pumps
returns-in-Err-clause-pumps g c = λ cipher was old u took r.
    let header = take c.args.header c.args.buffer.now in
    let e = plain_under c.args.stream.now cipher header (c.size.result - c.tag_size.result) u c.loop-len.invariant.size in
    let is = header_is cipher c.args.header c.args.buffer.now (omega (arith, c.requires.front, c.requires.within)) u.whole in
    let sealed = seals_full c.loop-len.stream cipher header c.loop-len.number c.plain_from-from.result (c.size.result - c.tag_size.result) c.loop-len.len c.loop-len.buffer (still_under _ _ cipher header c.loop-len.invariant.stream u) e (omega arith) c.loop-len.invariant.len (λ n. c.plain_from-from.ensures.first n ∙ is) c.plain_from-from.ensures.later in
    sgo_unwritten cipher header c.loop-len.ended _ _ old _ _ (take c.loop-len.len c.loop-len.buffer) c.loop-len.number u.is (omega arith) (omega (arith, length-take-le c.loop-len.len c.loop-len.buffer c.loop-len.invariant.len, e, c.if-len-size.true)) (c.loop-len.invariant.goes cipher was old u took r) c.in-Err.ensures.failed
    (subst (λ (l : List ℕ). TookPrefix (g.K.Sink.state c.loop-len.sink) (g.K.Sink.state c.write_sealed.new.sink) l) sealed c.in-Err.ensures.prefix)

pub returns-then-number-gt-LAST_NUMBER-clause-pumps : goal.returns-then-number-gt-LAST_NUMBER-clause-pumps
returns-then-number-gt-LAST_NUMBER-clause-pumps g c = λ cipher was old u took r.
    let header = take c.args.header c.args.buffer.now in
    let e = plain_under c.args.stream.now cipher header (c.size.result - c.tag_size.result) u c.loop-len.invariant.size in
    let is = header_is cipher c.args.header c.args.buffer.now (omega (arith, c.requires.front, c.requires.within)) u.whole in
    let sealed = seals_full c.loop-len.stream cipher header c.loop-len.number c.plain_from-from.result (c.size.result - c.tag_size.result) c.loop-len.len c.loop-len.buffer (still_under _ _ cipher header c.loop-len.invariant.stream u) e (omega arith) c.loop-len.invariant.len (λ n. c.plain_from-from.ensures.first n ∙ is) c.plain_from-from.ensures.later in
    sgo_many cipher header c.loop-len.ended _ _ old _ _ _ (omega arith)
    (sgo_next cipher header c.loop-len.ended _ _ old _ _ (take c.loop-len.len c.loop-len.buffer) c.loop-len.number u.is (omega arith) (omega (arith, length-take-le c.loop-len.len c.loop-len.buffer c.loop-len.invariant.len, e, c.if-len-size.true)) (c.loop-len.invariant.goes cipher was old u took r)
    (subst (λ (l : List ℕ). Took (g.K.Sink.state c.loop-len.sink) (g.K.Sink.state c.write_sealed.new.sink) l) sealed c.in-Ok.ensures.all))

pub loop-len-preserved-then-len-size : goal.loop-len-preserved-then-len-size
loop-len-preserved-then-len-size g c =
    let from = c.plain_from-from.result in
    let size = c.size.result - c.tag_size.result in
    let behind : length c.write_sealed.new.bytes ≡ length c.loop-len.buffer - from = c.write_sealed.auto.bytes ∙ length-take-le (length c.loop-len.buffer - from) (drop from c.loop-len.buffer) (omega (arith, length-drop from c.loop-len.buffer)) in
    let first : from ≤ length c.loop-len.buffer = elim (cases_lt 0 c.loop-len.number) [
      | inl later ↦ omega (arith, c.plain_from-from.ensures.later later)
      | inr first ↦ let none : c.loop-len.number ≡ 0 = omega arith in omega (arith, c.plain_from-from.ensures.first none, c.loop-len.invariant.head none, c.loop-len.invariant.len)
    ] in
    let after = put_mid from (length c.loop-len.buffer - from) c.loop-len.buffer c.write_sealed.new.bytes in
    let put : length after ≡ length c.loop-len.buffer = length-put from (length c.loop-len.buffer - from) c.loop-len.buffer c.write_sealed.new.bytes behind (omega (arith, first)) in
    let long : length (set after 0 (get_or c.loop-len.buffer size 0)) ≡ length c.loop-len.buffer = length-set after 0 (get_or c.loop-len.buffer size 0) ∙ put in
    let one : c.loop-len.len ≡ size + 1 = omega (arith, c.if-len-size.true, c.loop-len.invariant.short) in
    let front : take 1 (set after 0 (get_or c.loop-len.buffer size 0)) ≡ drop size (take c.loop-len.len c.loop-len.buffer)
    = carried size c.loop-len.len c.loop-len.buffer after one c.loop-len.invariant.len (omega (arith, put, one, c.loop-len.invariant.len)) in
    record {
      stream = c.write_sealed.ensures.stream ∙ c.loop-len.invariant.stream;
      size = c.loop-len.invariant.size;
      same = long ∙ c.loop-len.invariant.same;
      len = omega (arith, long, one, c.loop-len.invariant.len);
      room = omega (arith, long, one, c.loop-len.invariant.room);
      short = omega arith;
      head = λ e. absurd (omega arith);
      most = omega arith;
      still = c.loop-len.invariant.still;
      reads_on = c.loop-len.invariant.reads_on;
      read = c.loop-len.invariant.read;
      written = c.in-Ok.ensures.no_fault ∙ c.loop-len.invariant.written;
      goes = λ cipher was old u took r.
          let header = take c.args.header c.args.buffer.now in
          let e = plain_under c.args.stream.now cipher header size u c.loop-len.invariant.size in
          let is = header_is cipher c.args.header c.args.buffer.now (omega (arith, c.requires.front, c.requires.within)) u.whole in
          let sealed = seals_full c.loop-len.stream cipher header c.loop-len.number from size c.loop-len.len c.loop-len.buffer (still_under _ _ cipher header c.loop-len.invariant.stream u) e (omega arith) c.loop-len.invariant.len (λ n. c.plain_from-from.ensures.first n ∙ is) c.plain_from-from.ensures.later in
          subst (λ (l : List ℕ). SealGoing cipher header c.loop-len.ended was (g.S.Source.state c.loop-len.source) old (g.K.Sink.state c.write_sealed.new.sink) l (c.loop-len.number + 1)) (sym (front ∙ ap (λ n. drop n (take c.loop-len.len c.loop-len.buffer)) e))
          (sgo_next cipher header c.loop-len.ended _ _ old _ _ (take c.loop-len.len c.loop-len.buffer) c.loop-len.number u.is (omega arith) (omega (arith, length-take-le c.loop-len.len c.loop-len.buffer c.loop-len.invariant.len, e, c.if-len-size.true)) (c.loop-len.invariant.goes cipher was old u took r)
          (subst (λ (l : List ℕ). Took (g.K.Sink.state c.loop-len.sink) (g.K.Sink.state c.write_sealed.new.sink) l) sealed c.in-Ok.ensures.all));
    }

pub returns-in-Ok-write_sealed-clause-pumps : goal.returns-in-Ok-write_sealed-clause-pumps
returns-in-Ok-write_sealed-clause-pumps g c = λ cipher was old u took r.
    let header = take c.args.header c.args.buffer.now in
    let e = plain_under c.args.stream.now cipher header (c.size.result - c.tag_size.result) u c.loop-len.invariant.size in
    let is = header_is cipher c.args.header c.args.buffer.now (omega (arith, c.requires.front, c.requires.within)) u.whole in
    let sealed = seals_last c.loop-len.stream cipher header c.loop-len.number c.plain_from-from.result c.loop-len.len c.loop-len.buffer (still_under _ _ cipher header c.loop-len.invariant.stream u) c.loop-len.invariant.len (λ n. c.plain_from-from.ensures.first n ∙ is) c.plain_from-from.ensures.later (λ n. omega (arith, c.loop-len.invariant.head n, is)) in
    sgo_ends cipher header c.loop-len.ended _ _ old _ _ (take c.loop-len.len c.loop-len.buffer) c.loop-len.number u.is (omega arith) (omega (arith, length-take-le c.loop-len.len c.loop-len.buffer c.loop-len.invariant.len, e, c.if-len-size.false)) (c.loop-len.invariant.goes cipher was old u took r) c.if-ended.true
    (subst (λ (l : List ℕ). Took (g.K.Sink.state c.loop-len.sink) (g.K.Sink.state c.write_sealed-then-ended.new.sink) l) sealed c.in-Ok-write_sealed.ensures.all)

pub returns-in-Err-write_sealed-clause-pumps : goal.returns-in-Err-write_sealed-clause-pumps
returns-in-Err-write_sealed-clause-pumps g c = λ cipher was old u took r.
    let header = take c.args.header c.args.buffer.now in
    let e = plain_under c.args.stream.now cipher header (c.size.result - c.tag_size.result) u c.loop-len.invariant.size in
    let is = header_is cipher c.args.header c.args.buffer.now (omega (arith, c.requires.front, c.requires.within)) u.whole in
    let sealed = seals_last c.loop-len.stream cipher header c.loop-len.number c.plain_from-from.result c.loop-len.len c.loop-len.buffer (still_under _ _ cipher header c.loop-len.invariant.stream u) c.loop-len.invariant.len (λ n. c.plain_from-from.ensures.first n ∙ is) c.plain_from-from.ensures.later (λ n. omega (arith, c.loop-len.invariant.head n, is)) in
    sgo_ends_unwritten cipher header c.loop-len.ended _ _ old _ _ (take c.loop-len.len c.loop-len.buffer) c.loop-len.number u.is (omega arith) (omega (arith, length-take-le c.loop-len.len c.loop-len.buffer c.loop-len.invariant.len, e, c.if-len-size.false)) (c.loop-len.invariant.goes cipher was old u took r) c.if-ended.true c.in-Err-write_sealed.ensures.failed
    (subst (λ (l : List ℕ). TookPrefix (g.K.Sink.state c.loop-len.sink) (g.K.Sink.state c.write_sealed-then-ended.new.sink) l) sealed c.in-Err-write_sealed.ensures.prefix)

pub returns-in-Err-fill-clause-pumps : goal.returns-in-Err-fill-clause-pumps
returns-in-Err-fill-clause-pumps g c = λ cipher was old u took r.
    let header = take c.args.header c.args.buffer.now in
    let e = plain_under c.args.stream.now cipher header (c.size.result - c.tag_size.result) u c.loop-len.invariant.size in
    sgo_unread cipher header c.loop-len.ended _ _ _ old _ (take c.loop-len.len c.loop-len.buffer) c.loop-len.number u.is (omega arith) (omega (arith, length-take-le c.loop-len.len c.loop-len.buffer c.loop-len.invariant.len, e, c.if-len-size.false)) (c.loop-len.invariant.goes cipher was old u took r) c.in-Err-fill.ensures.failed c.in-Err-fill.ensures.kept

pub loop-len-preserved : goal.loop-len-preserved
loop-len-preserved g c = record {
  stream = c.loop-len.invariant.stream;
  size = c.loop-len.invariant.size;
  same = omega arith;
  len = omega (arith, c.in-Ok-fill.ensures.bound, room_left c.args.whole c.loop-len.ended (λ e. (c.loop-len.invariant.still e).0) c.if-ended.false c.requires.fits, c.loop-len.invariant.size, c.loop-len.invariant.same, c.fill.auto.buffer);
  room = omega (arith, c.in-Ok-fill.ensures.bound, room_left c.args.whole c.loop-len.ended (λ e. (c.loop-len.invariant.still e).0) c.if-ended.false c.requires.fits, c.requires.segment, c.loop-len.invariant.size, c.loop-len.invariant.same, c.fill.auto.buffer);
  short = omega (arith, c.in-Ok-fill.ensures.bound);
  head = λ e. omega (arith, c.loop-len.invariant.head e);
  most = c.loop-len.invariant.most;
  still = λ e. let no : true ≡ false = sym (c.loop-len.invariant.still e).0 ∙ c.if-ended.false in absurd cc;
  reads_on = λ e. after_read _ _ _ _ _ _ (c.loop-len.invariant.reads_on e) c.if-ended.false
      (elim c.if-n-eq0.branch [ then-n-eq0 w ↦ λ f. let no : true ≡ false = sym w.ended-is ∙ f in absurd cc | else-n-eq0 w ↦ λ f. omega arith ])
      c.in-Ok-fill.ensures.goes_on c.in-Ok-fill.ensures.stops;
  read = c.in-Ok-fill.ensures.no_fault ∙ c.loop-len.invariant.read;
  written = c.loop-len.invariant.written;
  goes = λ cipher was old u took r. sgo_read cipher (take c.args.header c.args.buffer.now) c.loop-len.ended _ _ _ _ old _ _ _ c.loop-len.number _ u.is (c.loop-len.invariant.goes cipher was old u took r) c.in-Ok-fill.ensures.reads
      (elim c.if-n-eq0.branch [ then-n-eq0 w ↦ λ e. c.in-Ok-fill.ensures.end w.if-n-eq0.true | else-n-eq0 w ↦ λ e. let no : false ≡ true = sym (w.ended-is ∙ c.if-ended.false) ∙ e in absurd cc ]);
}

pub fill-requires-clause-fits : goal.fill-requires-clause-fits
fill-requires-clause-fits g c =
    omega (arith, room_left c.args.whole c.loop-len.ended (λ e. (c.loop-len.invariant.still e).0) c.if-ended.false c.requires.fits, c.loop-len.invariant.size, c.loop-len.invariant.same)

pub returns-in-Err-fill-clause-still : goal.returns-in-Err-fill-clause-still
returns-in-Err-fill-clause-still g c = λ e. let no : true ≡ false = sym (c.loop-len.invariant.still e).0 ∙ c.if-ended.false in absurd cc

pub returns-in-Err-fill-clause-stops : goal.returns-in-Err-fill-clause-stops
returns-in-Err-fill-clause-stops g c = λ e.
    goes_on_stops (g.S.Source.state c.args.source.now) (g.S.Source.state c.loop-len.source) (g.S.Source.state c.fill.new.source) ((c.loop-len.invariant.reads_on e).goes_on c.if-ended.false) c.in-Err-fill.ensures.stops
