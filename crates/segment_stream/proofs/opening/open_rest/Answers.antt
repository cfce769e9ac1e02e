use Rattle.std.proofs.Common.{◌≡◌, take, sym, ◌∙◌, ap, arith, refl, false, true, subst}
use Rattle.std.specs.Prelude.{Bool, Err}
use Rattle.std.proofs.lemmas.List.{length-take-le}
use Rattle.segment_stream.specs.Streams.{StreamState}
use Rattle.segment_stream.proofs.Followed.{err_more, on_ok_more}
use Rattle.segment_stream.proofs.Pass.{Going, going_begins, going_finishes, going_halts, going_opens, going_read, going_unread, shows_pump, still_to_read, until_ended}
use Rattle.segment_stream.proofs.SegmentLemmas.{still_under}
use Rattle.tink_spec.proofs.Moves.{goes_on_stops}
use Rattle.segment_stream.proofs.ReadsOn.{after_read, not_both, reads_nothing, room_left}
use Rattle.segment_stream.proofs.opening.open_rest.Goals as goal
use Rattle.segment_stream.proofs.opening.open_rest.Goals.{then-n-eq0, else-n-eq0}

pub loop-ended-init : goal.loop-ended-init
loop-ended-init g c = record {
  stream = refl;
  same = refl;
  len = c.requires.within;
  least = omega arith;
  most = omega arith;
  still = λ e. (e, refl);
  reads_on = λ e. reads_nothing c.args.whole _;
  read = refl;
  written = refl;
  goes = λ cipher header taken written u s. going_begins cipher header taken written c.args.whole _ _ _ 1 s c.requires.end;
}

pub returns-in-Err-clause-pumps : goal.returns-in-Err-clause-pumps
returns-in-Err-clause-pumps g c = λ cipher header taken written u s.
    let x = c.loop-ended.invariant.goes cipher header taken written u s in
    going_halts cipher header taken written c.args.whole c.loop-ended.ended _ _ _ _ _ _ c.loop-ended.number c.in-Err.fault x
    (c.in-Err.ensures.fault cipher header _ _ c.loop-ended.ended (still_under _ _ cipher header c.loop-ended.invariant.stream u) x.stands)
    c.in-Err.ensures.shown

pub returns-in-Err-clause-still : goal.returns-in-Err-clause-still
returns-in-Err-clause-still g c = λ e. absurd (not_both c.loop-ended.ended (c.loop-ended.invariant.still e).0 c.loop-ended-test.true)

pub returns-in-Err-clause-shown : goal.returns-in-Err-clause-shown
returns-in-Err-clause-shown g c = shows_pump (Err c.in-Err.fault) _ _ _ _ _ c.loop-ended.invariant.read c.loop-ended.invariant.written c.in-Err.ensures.shown

pub returns-in-Err-fill-clause-pumps : goal.returns-in-Err-fill-clause-pumps
returns-in-Err-fill-clause-pumps g c = λ cipher header taken written u s.
    let x = c.loop-ended.invariant.goes cipher header taken written u s in
    let o = c.in-Ok.ensures.opened cipher header _ _ (still_under _ _ cipher header c.loop-ended.invariant.stream u) x.stands in
    going_unread cipher header taken written c.args.whole c.loop-ended.ended _ _ _ _ _ _ c.in-Ok.rest.0 u.is c.in-Ok.ensures.most
    (omega (arith, u.size, c.in-Ok.ensures.short, ap (λ (t : StreamState). t.size) c.loop-ended.invariant.stream, length-take-le c.in-Ok.rest.1 c.open_followed.new.buffer (omega (arith, c.in-Ok.ensures.within, c.open_followed.auto.buffer))))
    (going_opens cipher header taken written c.args.whole c.loop-ended.ended _ _ _ _ _ _ _ c.loop-ended.number c.in-Ok.rest.0 x o)
    c.loop-ended-test.true c.in-Err-fill.ensures.failed c.in-Err-fill.ensures.kept

pub returns-in-Err-fill-clause-still : goal.returns-in-Err-fill-clause-still
returns-in-Err-fill-clause-still g c = λ e. absurd (not_both c.loop-ended.ended (c.loop-ended.invariant.still e).0 c.loop-ended-test.true)

pub returns-in-Err-fill-clause-stops : goal.returns-in-Err-fill-clause-stops
returns-in-Err-fill-clause-stops g c = λ e.
    goes_on_stops (g.S.Source.state c.args.source.now) (g.S.Source.state c.loop-ended.source) (g.S.Source.state c.fill.new.source) ((c.loop-ended.invariant.reads_on e).goes_on c.loop-ended-test.true) c.in-Err-fill.ensures.stops

pub loop-ended-preserved : goal.loop-ended-preserved
loop-ended-preserved g c = record {
  stream = c.open_followed.ensures.stream ∙ c.loop-ended.invariant.stream;
  same = omega (arith, c.fill.auto.buffer, c.open_followed.auto.buffer, c.loop-ended.invariant.same);
  len = omega (arith, c.in-Ok-fill.ensures.bound, room_left c.args.whole c.loop-ended.ended (λ e. (c.loop-ended.invariant.still e).0) c.loop-ended-test.true c.requires.fits, c.size-size.ensures.size, c.fill.auto.buffer, c.open_followed.auto.buffer, c.loop-ended.invariant.same);
  least = omega (arith, c.loop-ended.invariant.least, c.in-Ok.ensures.least);
  most = c.in-Ok.ensures.most;
  still = λ e. absurd (not_both c.loop-ended.ended (c.loop-ended.invariant.still e).0 c.loop-ended-test.true);
  reads_on = λ e. after_read _ _ _ _ _ _ (c.loop-ended.invariant.reads_on e) c.loop-ended-test.true
      (elim c.if-n-eq0.branch [ then-n-eq0 w ↦ λ f. let no : true ≡ false = sym w.ended-is ∙ f in absurd cc | else-n-eq0 w ↦ λ f. omega arith ])
      c.in-Ok-fill.ensures.goes_on c.in-Ok-fill.ensures.stops;
  read = c.in-Ok-fill.ensures.no_fault ∙ c.loop-ended.invariant.read;
  written = c.in-Ok.ensures.shown ∙ c.loop-ended.invariant.written;
  goes = λ cipher header taken written u s.
      let x = c.loop-ended.invariant.goes cipher header taken written u s in
      let o = c.in-Ok.ensures.opened cipher header _ _ (still_under _ _ cipher header c.loop-ended.invariant.stream u) x.stands in
      going_read cipher header taken written _ _ _ _ _ _ _ _ _ _ c.in-Ok.rest.0 _ u.is
      (going_opens cipher header taken written c.args.whole c.loop-ended.ended _ _ _ _ _ _ _ c.loop-ended.number c.in-Ok.rest.0 x o)
      c.loop-ended-test.true c.in-Ok-fill.ensures.reads
      (elim c.if-n-eq0.branch [ then-n-eq0 w ↦ λ e. c.in-Ok-fill.ensures.end w.if-n-eq0.true | else-n-eq0 w ↦ λ e. let no : false ≡ true = sym (w.ended-is ∙ c.loop-ended-test.true) ∙ e in absurd cc ]);
}

pub returns-clause-pumps : goal.returns-clause-pumps
returns-clause-pumps g c = λ cipher header taken written u s.
    let x = subst (λ (b : Bool). Going cipher header taken written c.args.whole b (g.S.Source.state c.args.source.now) (g.S.Source.state c.loop-ended.source) (g.K.Sink.state c.args.sink.now) (g.K.Sink.state c.loop-ended.sink) (take c.loop-ended.len c.loop-ended.buffer) c.loop-ended.number) c.loop-ended-test.false
    (c.loop-ended.invariant.goes cipher header taken written u s) in
    let still = still_under _ _ cipher header c.loop-ended.invariant.stream u in
    going_finishes cipher header taken written c.args.whole _ _ _ _ _ _ c.loop-ended.number c.finish_under.result x
    (on_ok_more c.finish_under.result _ _ (λ said. said cipher header _ _ still x.stands) c.finish_under.ensures.opened)
    (err_more c.finish_under.result _ _ (λ why said. said cipher header _ _ still x.stands) c.finish_under.ensures.fault)
    c.finish_under.ensures.shown

pub returns-clause-stops : goal.returns-clause-stops
returns-clause-stops g c = λ e. (c.loop-ended.invariant.reads_on e).stops

pub returns-clause-shown : goal.returns-clause-shown
returns-clause-shown g c = shows_pump c.finish_under.result _ _ _ _ _ c.loop-ended.invariant.read c.loop-ended.invariant.written c.finish_under.ensures.shown

pub loop-ended-smaller : goal.loop-ended-smaller
loop-ended-smaller g c =
    until_ended c.loop-ended.ended _ _ _ c.loop-ended-test.true
    (λ f. still_to_read c.loop-ended.number c.in-Ok.rest.0 4294967295 c.size-size.result c.loop-ended.len c.in-Ok.rest.1 c.in-Ok-fill.n c.in-Ok.ensures.least (omega (arith, c.in-Ok.ensures.most))
    (λ e. let r = c.in-Ok.ensures.none e in omega (arith, r))
    (omega (arith, c.in-Ok.ensures.short, c.size-size.ensures.size, ap (λ (t : StreamState). t.size) c.loop-ended.invariant.stream))
    (elim c.if-n-eq0.branch [ then-n-eq0 w ↦ let no : true ≡ false = sym w.ended-is ∙ f in absurd cc | else-n-eq0 w ↦ omega arith ]))
    (omega arith)
