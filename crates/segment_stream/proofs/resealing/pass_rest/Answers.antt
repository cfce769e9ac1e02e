use Rattle.std.proofs.Common.{◌≡◌, ◌-◌, ◌+◌, List, ℕ, take, drop, length, sym, ◌∙◌, arith, refl, false, true, subst}
use Rattle.std.specs.Prelude.{Err}
use Rattle.std.proofs.lemmas.List.{length-take-le, length-drop}
use Rattle.tink_spec.specs.Outside.{SinkState}
use Rattle.segment_stream.specs.Pumping.{ShowsFaults, opening_under}
use Rattle.segment_stream.specs.Pushing.{Passes, SealingState, halt_fault}
use Rattle.segment_stream.specs.declared.fault.OpenPumpFault.{OpenPumpFault}
use Rattle.segment_stream.specs.declared.fault.OpenPumpFault.TheVariants as fault
use Rattle.segment_stream.proofs.Pass.{opens_held, last_held, full_held, short_held, held_next}
use Rattle.segment_stream.proofs.PassingLemmas.{Resealing, resealing_begins, resealing_read, resealing_next, resealing_many, resealing_fails, resealing_unread, resealing_ends, resealing_ends_badly, resealing_stops, resealing_ends_stops, shows_halted}
use Rattle.segment_stream.proofs.SegmentLemmas.{still_under}
use Rattle.segment_stream.proofs.Slices.{length-put}
use Rattle.segment_stream.proofs.Trials.{shows_after}
use Rattle.tink_spec.proofs.Moves.{goes_on_stops}
use Rattle.segment_stream.proofs.ReadsOn.{after_read, reads_nothing, room_left}
use Rattle.segment_stream.proofs.resealing.pass_rest.Goals as goal
use Rattle.segment_stream.proofs.resealing.pass_rest.Goals.{then-n-eq0, else-n-eq0}

pub loop-len-init : goal.loop-len-init
loop-len-init g c = record { stream = refl; same = refl; len = c.requires.within; start = omega arith; least = omega arith; most = omega arith; still = λ e. (e, refl); reads_on = λ e. reads_nothing c.args.whole _; read = refl; written = refl; goes = λ cipher header taken written u s. resealing_begins cipher header taken written c.args.whole _ c.args.sealing.now _ _ 1 s c.requires.end }

pub returns-in-Unsealed-clause-passes : goal.returns-in-Unsealed-clause-passes
returns-in-Unsealed-clause-passes g c = λ cipher header taken written u s. let h = c.in-Unsealed.ensures.ends in
    subst (λ (f : OpenPumpFault). Passes (opening_under cipher) taken written c.args.whole (Err f) (g.S.Source.state c.args.source.now) (g.S.Source.state c.loop-len.source) c.args.sealing.now c.pass_segment.new.sealing (g.K.Sink.state c.args.sink.now) (g.K.Sink.state c.pass_segment.new.sink)) (sym c.halted.ensures)
    (resealing_stops cipher header taken written _ _ _ _ _ _ _ _ _ _ (drop c.loop-len.start (take c.loop-len.len c.loop-len.buffer)) h.0 c.loop-len.number c.in-Unsealed.fault u.is c.loop-len.invariant.least (omega arith) (full_held cipher c.size-size.result c.loop-len.start c.loop-len.len c.loop-len.buffer (c.size-size.ensures.size ∙ u.size) c.if-len-start.true c.loop-len.invariant.len) (c.loop-len.invariant.goes cipher header taken written u s) (opens_held cipher header c.loop-len.number false c.size-size.result c.loop-len.start (c.loop-len.start + c.size-size.result) c.loop-len.len c.loop-len.buffer _ (c.size-size.ensures.size ∙ u.size) refl c.if-len-start.true (sym ((still_under _ _ cipher header c.loop-len.invariant.stream u).opens c.loop-len.number false _) ∙ h.1)) c.loop-len.invariant.written h.2)

pub returns-in-Unsealed-clause-shown : goal.returns-in-Unsealed-clause-shown
returns-in-Unsealed-clause-shown g c = let h = c.in-Unsealed.ensures.ends in
    subst (λ (f : OpenPumpFault). ShowsFaults (Err f) (g.S.Source.state c.args.source.now) (g.S.Source.state c.loop-len.source) (g.K.Sink.state c.args.sink.now) (g.K.Sink.state c.pass_segment.new.sink)) (sym c.halted.ensures)
    (shows_after (Err (halt_fault c.in-Unsealed.fault)) (g.S.Source.state c.args.source.now) (g.S.Source.state c.loop-len.source) (g.S.Source.state c.loop-len.source) (g.K.Sink.state c.args.sink.now) (g.K.Sink.state c.loop-len.sink) (g.K.Sink.state c.pass_segment.new.sink) c.loop-len.invariant.read c.loop-len.invariant.written (shows_halted c.in-Unsealed.fault c.loop-len.sealing h.0 (g.S.Source.state c.loop-len.source) (g.S.Source.state c.loop-len.source) (g.K.Sink.state c.loop-len.sink) (g.K.Sink.state c.pass_segment.new.sink) h.2 refl))

pub returns-in-Refused-clause-passes : goal.returns-in-Refused-clause-passes
returns-in-Refused-clause-passes g c = λ cipher header taken written u s. let h = c.in-Refused.ensures.ends in
    subst (λ (t : SealingState). Passes (opening_under cipher) taken written c.args.whole (Err c.refused.result) (g.S.Source.state c.args.source.now) (g.S.Source.state c.loop-len.source) c.args.sealing.now t (g.K.Sink.state c.args.sink.now) (g.K.Sink.state c.pass_segment.new.sink)) h.1
    (subst (λ (t : SinkState). Passes (opening_under cipher) taken written c.args.whole (Err c.refused.result) (g.S.Source.state c.args.source.now) (g.S.Source.state c.loop-len.source) c.args.sealing.now c.loop-len.sealing (g.K.Sink.state c.args.sink.now) t) h.2
    (resealing_fails cipher header taken written _ _ _ _ _ _ _ _ (drop c.loop-len.start (take c.loop-len.len c.loop-len.buffer)) c.loop-len.number c.refused.result u.is c.loop-len.invariant.least (omega arith) (full_held cipher c.size-size.result c.loop-len.start c.loop-len.len c.loop-len.buffer (c.size-size.ensures.size ∙ u.size) c.if-len-start.true c.loop-len.invariant.len) (c.loop-len.invariant.goes cipher header taken written u s) (opens_held cipher header c.loop-len.number false c.size-size.result c.loop-len.start (c.loop-len.start + c.size-size.result) c.loop-len.len c.loop-len.buffer _ (c.size-size.ensures.size ∙ u.size) refl c.if-len-start.true (sym ((still_under _ _ cipher header c.loop-len.invariant.stream u).opens c.loop-len.number false _) ∙ h.0)) c.refused.ensures.many c.refused.ensures.few))

pub returns-then-number-gt-LAST_NUMBER-clause-passes : goal.returns-then-number-gt-LAST_NUMBER-clause-passes
returns-then-number-gt-LAST_NUMBER-clause-passes g c = λ cipher header taken written u s. let h = c.in-Sealed.ensures.ends in
    resealing_many cipher header taken written _ _ _ _ _ _ _ _ _ (c.loop-len.number + 1) u.is (omega arith)
    (resealing_next cipher header taken written _ _ _ _ _ _ _ _ _ _ (drop c.loop-len.start (take c.loop-len.len c.loop-len.buffer)) h.0 c.loop-len.number u.is c.loop-len.invariant.least (omega arith) (full_held cipher c.size-size.result c.loop-len.start c.loop-len.len c.loop-len.buffer (c.size-size.ensures.size ∙ u.size) c.if-len-start.true c.loop-len.invariant.len) (c.loop-len.invariant.goes cipher header taken written u s) (opens_held cipher header c.loop-len.number false c.size-size.result c.loop-len.start (c.loop-len.start + c.size-size.result) c.loop-len.len c.loop-len.buffer _ (c.size-size.ensures.size ∙ u.size) refl c.if-len-start.true (sym ((still_under _ _ cipher header c.loop-len.invariant.stream u).opens c.loop-len.number false _) ∙ h.1)) h.2)

pub loop-len-preserved-then-len-start : goal.loop-len-preserved-then-len-start
loop-len-preserved-then-len-start g c =
    let segment : length c.pass_segment.new.segment ≡ (c.loop-len.start + c.size-size.result) - c.loop-len.start = (c.pass_segment.auto.segment ∙ length-take-le ((c.loop-len.start + c.size-size.result) - c.loop-len.start) (drop c.loop-len.start c.loop-len.buffer) (omega (arith, length-drop c.loop-len.start c.loop-len.buffer, c.loop-len.invariant.len, c.if-len-start.true))) in
    let put = length-put c.loop-len.start ((c.loop-len.start + c.size-size.result) - c.loop-len.start) c.loop-len.buffer c.pass_segment.new.segment segment (omega (arith, c.loop-len.invariant.len, c.if-len-start.true)) in
    record {
      stream = c.pass_segment.ensures.stream ∙ c.loop-len.invariant.stream;
      same = put ∙ c.loop-len.invariant.same;
      len = omega (arith, put, c.loop-len.invariant.len);
      start = omega arith;
      least = omega arith;
      most = omega arith;
      still = c.loop-len.invariant.still;
      reads_on = c.loop-len.invariant.reads_on;
      read = c.loop-len.invariant.read;
      written = c.in-Sealed.ensures.ends.3 ∙ c.loop-len.invariant.written;
      goes = λ cipher header taken written u s.
          let h = c.in-Sealed.ensures.ends in
          let front = held_next cipher c.size-size.result c.loop-len.start (c.loop-len.start + c.size-size.result) c.loop-len.len c.loop-len.buffer c.pass_segment.new.segment (c.size-size.ensures.size ∙ u.size) refl (omega arith) c.loop-len.invariant.len segment in
          subst (λ (l : List ℕ). Resealing cipher header taken written c.args.whole c.loop-len.ended (g.S.Source.state c.args.source.now) (g.S.Source.state c.loop-len.source) c.args.sealing.now c.pass_segment.new.sealing (g.K.Sink.state c.args.sink.now) (g.K.Sink.state c.pass_segment.new.sink) l (c.loop-len.number + 1)) (sym front)
          (resealing_next cipher header taken written _ _ _ _ _ _ _ _ _ _ (drop c.loop-len.start (take c.loop-len.len c.loop-len.buffer)) h.0 c.loop-len.number u.is c.loop-len.invariant.least (omega arith) (full_held cipher c.size-size.result c.loop-len.start c.loop-len.len c.loop-len.buffer (c.size-size.ensures.size ∙ u.size) c.if-len-start.true c.loop-len.invariant.len) (c.loop-len.invariant.goes cipher header taken written u s) (opens_held cipher header c.loop-len.number false c.size-size.result c.loop-len.start (c.loop-len.start + c.size-size.result) c.loop-len.len c.loop-len.buffer _ (c.size-size.ensures.size ∙ u.size) refl c.if-len-start.true (sym ((still_under _ _ cipher header c.loop-len.invariant.stream u).opens c.loop-len.number false _) ∙ h.1)) h.2);
    }

pub returns-in-Sealed-pass_segment-clause-passes : goal.returns-in-Sealed-pass_segment-clause-passes
returns-in-Sealed-pass_segment-clause-passes g c = λ cipher header taken written u s. let h = c.in-Sealed-pass_segment.ensures.ends in
    resealing_ends cipher header taken written _ _ _ _ _ _ _ _ _ _ (drop c.loop-len.start (take c.loop-len.len c.loop-len.buffer)) h.0 c.loop-len.number u.is c.loop-len.invariant.least (omega arith) (short_held cipher c.size-size.result c.loop-len.start c.loop-len.len c.loop-len.buffer (c.size-size.ensures.size ∙ u.size) c.if-len-start.false c.loop-len.invariant.len) (c.loop-len.invariant.goes cipher header taken written u s) c.if-ended.true (last_held cipher header c.loop-len.number c.loop-len.start c.loop-len.len c.loop-len.buffer _ c.loop-len.invariant.start (sym ((still_under _ _ cipher header c.loop-len.invariant.stream u).opens c.loop-len.number true _) ∙ h.1)) h.2

pub returns-in-Unsealed-pass_segment-clause-passes : goal.returns-in-Unsealed-pass_segment-clause-passes
returns-in-Unsealed-pass_segment-clause-passes g c = λ cipher header taken written u s. let h = c.in-Unsealed-pass_segment.ensures.ends in
    subst (λ (f : OpenPumpFault). Passes (opening_under cipher) taken written c.args.whole (Err f) (g.S.Source.state c.args.source.now) (g.S.Source.state c.loop-len.source) c.args.sealing.now c.pass_segment-then-ended.new.sealing (g.K.Sink.state c.args.sink.now) (g.K.Sink.state c.pass_segment-then-ended.new.sink)) (sym c.halted-in-Unsealed-pass_segment.ensures)
    (resealing_ends_stops cipher header taken written _ _ _ _ _ _ _ _ _ _ (drop c.loop-len.start (take c.loop-len.len c.loop-len.buffer)) h.0 c.loop-len.number c.in-Unsealed-pass_segment.fault u.is c.loop-len.invariant.least (omega arith) (short_held cipher c.size-size.result c.loop-len.start c.loop-len.len c.loop-len.buffer (c.size-size.ensures.size ∙ u.size) c.if-len-start.false c.loop-len.invariant.len) (c.loop-len.invariant.goes cipher header taken written u s) c.if-ended.true (last_held cipher header c.loop-len.number c.loop-len.start c.loop-len.len c.loop-len.buffer _ c.loop-len.invariant.start (sym ((still_under _ _ cipher header c.loop-len.invariant.stream u).opens c.loop-len.number true _) ∙ h.1)) c.loop-len.invariant.written h.2)

pub returns-in-Unsealed-pass_segment-clause-shown : goal.returns-in-Unsealed-pass_segment-clause-shown
returns-in-Unsealed-pass_segment-clause-shown g c = let h = c.in-Unsealed-pass_segment.ensures.ends in
    subst (λ (f : OpenPumpFault). ShowsFaults (Err f) (g.S.Source.state c.args.source.now) (g.S.Source.state c.loop-len.source) (g.K.Sink.state c.args.sink.now) (g.K.Sink.state c.pass_segment-then-ended.new.sink)) (sym c.halted-in-Unsealed-pass_segment.ensures)
    (shows_after (Err (halt_fault c.in-Unsealed-pass_segment.fault)) (g.S.Source.state c.args.source.now) (g.S.Source.state c.loop-len.source) (g.S.Source.state c.loop-len.source) (g.K.Sink.state c.args.sink.now) (g.K.Sink.state c.loop-len.sink) (g.K.Sink.state c.pass_segment-then-ended.new.sink) c.loop-len.invariant.read c.loop-len.invariant.written (shows_halted c.in-Unsealed-pass_segment.fault c.loop-len.sealing h.0 (g.S.Source.state c.loop-len.source) (g.S.Source.state c.loop-len.source) (g.K.Sink.state c.loop-len.sink) (g.K.Sink.state c.pass_segment-then-ended.new.sink) h.2 refl))

pub returns-in-Refused-pass_segment-clause-passes : goal.returns-in-Refused-pass_segment-clause-passes
returns-in-Refused-pass_segment-clause-passes g c = λ cipher header taken written u s. let h = c.in-Refused-pass_segment.ensures.ends in
    subst (λ (t : SealingState). Passes (opening_under cipher) taken written c.args.whole (Err (fault.StreamFailed c.loop-len.number)) (g.S.Source.state c.args.source.now) (g.S.Source.state c.loop-len.source) c.args.sealing.now t (g.K.Sink.state c.args.sink.now) (g.K.Sink.state c.pass_segment-then-ended.new.sink)) h.1
    (subst (λ (t : SinkState). Passes (opening_under cipher) taken written c.args.whole (Err (fault.StreamFailed c.loop-len.number)) (g.S.Source.state c.args.source.now) (g.S.Source.state c.loop-len.source) c.args.sealing.now c.loop-len.sealing (g.K.Sink.state c.args.sink.now) t) h.2
    (resealing_ends_badly cipher header taken written _ _ _ _ _ _ _ _ (drop c.loop-len.start (take c.loop-len.len c.loop-len.buffer)) c.loop-len.number u.is c.loop-len.invariant.least (omega arith) (short_held cipher c.size-size.result c.loop-len.start c.loop-len.len c.loop-len.buffer (c.size-size.ensures.size ∙ u.size) c.if-len-start.false c.loop-len.invariant.len) (c.loop-len.invariant.goes cipher header taken written u s) c.if-ended.true (last_held cipher header c.loop-len.number c.loop-len.start c.loop-len.len c.loop-len.buffer _ c.loop-len.invariant.start (sym ((still_under _ _ cipher header c.loop-len.invariant.stream u).opens c.loop-len.number true _) ∙ h.0))))

pub returns-in-Err-clause-passes : goal.returns-in-Err-clause-passes
returns-in-Err-clause-passes g c = λ cipher header taken written u s.
    resealing_unread cipher header taken written _ _ _ _ _ _ _ _ _ (drop c.loop-len.start (take c.loop-len.len c.loop-len.buffer)) c.loop-len.number u.is (omega arith) (short_held cipher c.size-size.result c.loop-len.start c.loop-len.len c.loop-len.buffer (c.size-size.ensures.size ∙ u.size) c.if-len-start.false c.loop-len.invariant.len) (c.loop-len.invariant.goes cipher header taken written u s) c.if-ended.false c.in-Err.ensures.failed c.in-Err.ensures.kept

pub loop-len-preserved : goal.loop-len-preserved
loop-len-preserved g c = record {
  stream = c.loop-len.invariant.stream;
  same = omega arith;
  len = omega (arith, c.in-Ok.ensures.bound, room_left c.args.whole c.loop-len.ended (λ e. (c.loop-len.invariant.still e).0) c.if-ended.false c.requires.fits, c.size-size.ensures.size, c.fill.auto.buffer, c.turn.auto.buffer, c.loop-len.invariant.same);
  start = omega arith;
  least = c.loop-len.invariant.least;
  most = c.loop-len.invariant.most;
  still = λ e. let no : true ≡ false = sym (c.loop-len.invariant.still e).0 ∙ c.if-ended.false in absurd cc;
  reads_on = λ e. after_read _ _ _ _ _ _ (c.loop-len.invariant.reads_on e) c.if-ended.false
      (elim c.if-n-eq0.branch [ then-n-eq0 w ↦ λ f. let no : true ≡ false = sym w.ended-is ∙ f in absurd cc | else-n-eq0 w ↦ λ f. omega arith ])
      c.in-Ok.ensures.goes_on c.in-Ok.ensures.stops;
  read = c.in-Ok.ensures.no_fault ∙ c.loop-len.invariant.read;
  written = c.loop-len.invariant.written;
  goes = λ cipher header taken written u s. resealing_read cipher header taken written _ _ _ _ _ _ _ _ _ _ _ _ c.loop-len.number _ u.is
      (subst (λ (l : List ℕ). Resealing cipher header taken written c.args.whole c.loop-len.ended (g.S.Source.state c.args.source.now) (g.S.Source.state c.loop-len.source) c.args.sealing.now c.loop-len.sealing (g.K.Sink.state c.args.sink.now) (g.K.Sink.state c.loop-len.sink) l c.loop-len.number) (sym c.turn.ensures) (c.loop-len.invariant.goes cipher header taken written u s))
      c.if-ended.false c.in-Ok.ensures.reads
      (elim c.if-n-eq0.branch [ then-n-eq0 w ↦ λ e. c.in-Ok.ensures.end w.if-n-eq0.true | else-n-eq0 w ↦ λ e. let no : false ≡ true = sym (w.ended-is ∙ c.if-ended.false) ∙ e in absurd cc ]);
}

pub returns-in-Err-clause-still : goal.returns-in-Err-clause-still
returns-in-Err-clause-still g c = λ e. let no : true ≡ false = sym (c.loop-len.invariant.still e).0 ∙ c.if-ended.false in absurd cc

pub returns-in-Err-clause-stops : goal.returns-in-Err-clause-stops
returns-in-Err-clause-stops g c = λ e.
    goes_on_stops (g.S.Source.state c.args.source.now) (g.S.Source.state c.loop-len.source) (g.S.Source.state c.fill.new.source) ((c.loop-len.invariant.reads_on e).goes_on c.if-ended.false) c.in-Err.ensures.stops

pub fill-requires-clause-fits : goal.fill-requires-clause-fits
fill-requires-clause-fits g c =
    omega (arith, room_left c.args.whole c.loop-len.ended (λ e. (c.loop-len.invariant.still e).0) c.if-ended.false c.requires.fits, c.size-size.ensures.size, c.turn.auto.buffer, c.loop-len.invariant.same)
