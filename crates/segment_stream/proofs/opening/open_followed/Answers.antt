use Rattle.std.proofs.Common.{◌≡◌, ◌-◌, ◌+◌, ◌<◌, ◌≤◌, List, ℕ, take, drop, length, sym, ◌∙◌, ap, arith, refl, false, subst}
use Rattle.std.proofs.lemmas.List.{length-take-le, length-drop}
use Rattle.tink_spec.specs.Outside.{Rose, SinkState, next}
use Rattle.segment_stream.specs.Halting.{Halts, OpensOn}
use Rattle.segment_stream.specs.Pumping.{opening_under}
use Rattle.segment_stream.proofs.Followed.{on_begins, on_fails, on_many, on_next, on_unwritten, shows_refused}
use Rattle.segment_stream.proofs.Pass.{full_held, held_next, opens_held}
use Rattle.segment_stream.proofs.SegmentLemmas.{still_under}
use Rattle.segment_stream.proofs.Slices.{length-put}
use Rattle.segment_stream.proofs.opening.open_followed.Goals as goal

pub loop-start-init : goal.loop-start-init
loop-start-init g c = record {
  stream = refl;
  same = refl;
  start = c.requires.front;
  least = omega arith;
  none = λ e. refl;
  most = c.requires.most;
  stood = refl;
  opens = λ cipher header taken written u s. on_begins cipher header taken written c.args.first _ _ s;
}

pub returns-in-Unwritten-clause-fault : goal.returns-in-Unwritten-clause-fault
returns-in-Unwritten-clause-fault g c = λ cipher header taken written ended u s.
    let h = c.in-Unwritten.ensures.ends in
    let l = c.loop-start in
    let size = c.size-size.result in
    let fits : c.args.len ≤ length l.buffer = omega (arith, c.requires.within, l.invariant.same) in
    let lt : size < c.args.len - l.start = omega (arith, c.loop-start-test.true) in
    on_unwritten cipher header taken written ended l.number (drop l.start (take c.args.len l.buffer)) h.0 _ _ _ u.is (omega (arith, c.requires.least, l.invariant.least)) l.invariant.most
    (full_held cipher size l.start c.args.len l.buffer (c.size-size.ensures.size ∙ u.size) lt fits)
    (l.invariant.opens cipher header taken written u s)
    (opens_held cipher header l.number false size l.start (l.start + size) c.args.len l.buffer _ (c.size-size.ensures.size ∙ u.size) refl lt (sym ((still_under _ _ cipher header l.invariant.stream u).opens l.number false _) ∙ h.1))
    h.3

pub returns-in-Unwritten-clause-shown : goal.returns-in-Unwritten-clause-shown
returns-in-Unwritten-clause-shown g c =
    let h = c.in-Unwritten.ensures.ends in
    (subst (λ n. Rose n (g.K.Sink.state c.write_segment.new.sink).faults) c.loop-start.invariant.stood h.2, h.4 ∙ ap next c.loop-start.invariant.stood)

pub returns-in-Refused-clause-fault : goal.returns-in-Refused-clause-fault
returns-in-Refused-clause-fault g c = λ cipher header taken written ended u s.
    let h = c.in-Refused.ensures.ends in
    let l = c.loop-start in
    let size = c.size-size.result in
    let fits : c.args.len ≤ length l.buffer = omega (arith, c.requires.within, l.invariant.same) in
    let lt : size < c.args.len - l.start = omega (arith, c.loop-start-test.true) in
    subst (λ (t : SinkState). Halts (opening_under cipher) c.refused.result taken written ended (g.K.Sink.state c.args.sink.now) t) h.1
    (on_fails cipher header taken written ended l.number (drop l.start (take c.args.len l.buffer)) _ _ c.refused.result u.is (omega (arith, c.requires.least, l.invariant.least)) l.invariant.most
    (full_held cipher size l.start c.args.len l.buffer (c.size-size.ensures.size ∙ u.size) lt fits)
    (l.invariant.opens cipher header taken written u s)
    (opens_held cipher header l.number false size l.start (l.start + size) c.args.len l.buffer _ (c.size-size.ensures.size ∙ u.size) refl lt (sym ((still_under _ _ cipher header l.invariant.stream u).opens l.number false _) ∙ h.0))
    c.refused.ensures.many c.refused.ensures.few)

pub returns-in-Refused-clause-shown : goal.returns-in-Refused-clause-shown
returns-in-Refused-clause-shown g c =
    let h = c.in-Refused.ensures.ends in
    shows_refused c.loop-start.number c.refused.result _ _ c.loop-start.invariant.most c.refused.ensures.many c.refused.ensures.few
    (ap (λ (t : SinkState). t.faults) (sym h.1) ∙ c.loop-start.invariant.stood)

pub returns-then-number-gt-LAST_NUMBER-clause-fault : goal.returns-then-number-gt-LAST_NUMBER-clause-fault
returns-then-number-gt-LAST_NUMBER-clause-fault g c = λ cipher header taken written ended u s.
    let h = c.in-Written.ensures.ends in
    let l = c.loop-start in
    let size = c.size-size.result in
    let fits : c.args.len ≤ length l.buffer = omega (arith, c.requires.within, l.invariant.same) in
    let lt : size < c.args.len - l.start = omega (arith, c.loop-start-test.true) in
    on_many cipher header taken written ended (l.number + 1) (drop cipher.size (drop l.start (take c.args.len l.buffer))) _ _ u.is (omega (arith, l.invariant.most))
    (on_next cipher header taken written l.number (drop l.start (take c.args.len l.buffer)) h.0 _ _ _ u.is (omega (arith, c.requires.least, l.invariant.least)) l.invariant.most
    (full_held cipher size l.start c.args.len l.buffer (c.size-size.ensures.size ∙ u.size) lt fits)
    (l.invariant.opens cipher header taken written u s)
    (opens_held cipher header l.number false size l.start (l.start + size) c.args.len l.buffer _ (c.size-size.ensures.size ∙ u.size) refl lt (sym ((still_under _ _ cipher header l.invariant.stream u).opens l.number false _) ∙ h.1))
    h.2)

pub loop-start-preserved : goal.loop-start-preserved
loop-start-preserved g c =
    let h = c.in-Written.ensures.ends in
    let l = c.loop-start in
    let size = c.size-size.result in
    let fits : c.args.len ≤ length l.buffer = omega (arith, c.requires.within, l.invariant.same) in
    let lt : size < c.args.len - l.start = omega (arith, c.loop-start-test.true) in
    let segment : length c.write_segment.new.segment ≡ (l.start + size) - l.start = (c.write_segment.auto.segment ∙ length-take-le ((l.start + size) - l.start) (drop l.start l.buffer) (omega (arith, length-drop l.start l.buffer, fits, lt))) in
    let put = length-put l.start ((l.start + size) - l.start) l.buffer c.write_segment.new.segment segment (omega (arith, fits, lt)) in
    record {
      stream = c.write_segment.ensures.stream ∙ l.invariant.stream;
      same = put ∙ l.invariant.same;
      start = omega (arith, lt);
      least = omega (arith, l.invariant.least);
      none = λ e. absurd (omega (arith, l.invariant.least, e));
      most = omega arith;
      stood = h.3 ∙ l.invariant.stood;
      opens = λ cipher header taken written u s.
          let front = held_next cipher size l.start (l.start + size) c.args.len l.buffer c.write_segment.new.segment (c.size-size.ensures.size ∙ u.size) refl (omega (arith, lt)) fits segment in
          subst (λ (b : List ℕ). OpensOn cipher header taken written (l.number + 1) b (g.K.Sink.state c.args.sink.now) (g.K.Sink.state c.write_segment.new.sink)) (sym front)
          (on_next cipher header taken written l.number (drop l.start (take c.args.len l.buffer)) h.0 _ _ _ u.is (omega (arith, c.requires.least, l.invariant.least)) l.invariant.most
          (full_held cipher size l.start c.args.len l.buffer (c.size-size.ensures.size ∙ u.size) lt fits)
          (l.invariant.opens cipher header taken written u s)
          (opens_held cipher header l.number false size l.start (l.start + size) c.args.len l.buffer _ (c.size-size.ensures.size ∙ u.size) refl lt (sym ((still_under _ _ cipher header l.invariant.stream u).opens l.number false _) ∙ h.1))
          h.2);
    }

pub returns-clause-opened : goal.returns-clause-opened
returns-clause-opened g c = λ cipher header taken written u s.
    subst (λ (b : List ℕ). OpensOn cipher header taken written c.loop-start.number b (g.K.Sink.state c.args.sink.now) (g.K.Sink.state c.loop-start.sink)) (sym c.turn.ensures)
    (c.loop-start.invariant.opens cipher header taken written u s)

pub returns-clause-none : goal.returns-clause-none
returns-clause-none g c = λ e. ap (λ n. c.args.len - n) (c.loop-start.invariant.none e)
