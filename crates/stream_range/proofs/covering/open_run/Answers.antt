use Rattle.std.proofs.Common.{◌≡◌, ◌+◌, ◌-◌, List, ℕ, length, take, drop, refl, sym, ◌∙◌, ap, subst, arith}
use Rattle.std.specs.Prelude.{Some}
use Rattle.std.specs.Vec.{vec_len}
use Rattle.segment_stream.specs.Opening.{opens_at}
use Rattle.segment_stream.specs.Pieces.{leading}
use Rattle.stream_range.proofs.RunLemmas.{RunSoFar, run_added, run_begins, run_fails}
use Rattle.segment_stream.specs.Cipher.{SegmentCipher}
use Rattle.stream_range.specs.Reading.{Begins}
use Rattle.stream_range.specs.declared.sizes.Begun.{Begun}
use Rattle.stream_range.proofs.covering.open_run.Goals as goal

-- the stream that was begun is left as it was
still_begins : (was now : Begun) (key : SegmentCipher) (bytes : List ℕ) → now ≡ was → Begins was key bytes → Begins now key bytes
still_begins was now key bytes e b = subst (λ (x : Begun). Begins x key bytes) (sym e) b

pub loop-i-init : goal.loop-i-init
loop-i-init g c = record {
  begun = refl;
  kept = record { size = refl; bytes = refl; files = refl; faults = omega arith };
  lent = refl;
  stood = refl;
  given = omega arith;
  capacity = refl;
  within = omega (arith, ap length c.requires.empty, c.args.plain.now.ok.0);
  buffer = refl;
  run = λ key bytes told begins. subst (λ (l : List ℕ). RunSoFar (leading (opens_at key bytes) c.args.first 0) 0 c.args.skip c.args.skip c.args.most l) (sym c.requires.empty) (run_begins (opens_at key bytes) c.args.first c.args.skip c.args.most);
}

pub open_piece-requires-clause-room : goal.open_piece-requires-clause-room
open_piece-requires-clause-room g c = omega (arith, c.loop-i.invariant.buffer, c.loop-i.invariant.kept.size, c.requires.fits, ap (λ (b : Begun). b.sizes.segment) c.loop-i.invariant.begun)

pub returns-in-Err-clause-opens : goal.returns-in-Err-clause-opens
returns-in-Err-clause-opens g c key bytes told begins =
    run_fails c.in-Err.fault _ c.loop-i.plain.items (opens_at key bytes) c.args.first c.loop-i.i c.args.count c.args.skip c.args.most
    (c.loop-i.invariant.run key bytes told begins).opened c.loop-i-test.true (c.in-Err.ensures.opens key bytes (c.loop-i.invariant.kept.bytes ∙ told) (still_begins _ _ key bytes c.loop-i.invariant.begun begins))

pub loop-i-preserved : goal.loop-i-preserved
loop-i-preserved g c = record {
  begun = c.in-Ok.ensures.begun ∙ c.loop-i.invariant.begun;
  kept = record { size = c.in-Ok.ensures.kept.size ∙ c.loop-i.invariant.kept.size; bytes = c.in-Ok.ensures.kept.bytes ∙ c.loop-i.invariant.kept.bytes; files = c.in-Ok.ensures.kept.files ∙ c.loop-i.invariant.kept.files; faults = omega (arith, c.in-Ok.ensures.kept.faults, c.loop-i.invariant.kept.faults) };
  lent = c.in-Ok.ensures.lent ∙ c.loop-i.invariant.lent;
  stood = c.in-Ok.ensures.no_fault (λ h. absurd cc) ∙ c.loop-i.invariant.stood;
  given = omega (arith, c.in-Ok.ensures.given, c.loop-i.invariant.given, ap (λ (b : Begun). b.sizes.segment) c.loop-i.invariant.begun);
  capacity = c.add-skip_left.ensures.capacity ∙ c.loop-i.invariant.capacity;
  within = c.add-skip_left.ensures.within;
  buffer = c.open_piece.auto.buffer ∙ c.loop-i.invariant.buffer;
  run = λ key bytes told begins.
      let opens : opens_at key bytes (c.args.first + c.loop-i.i) ≡ Some (take c.in-Ok.n (drop c.in-Ok.from c.open_piece.new.buffer)) = c.in-Ok.ensures.opens key bytes (c.loop-i.invariant.kept.bytes ∙ told) (still_begins _ _ key bytes c.loop-i.invariant.begun begins) in
      run_added (opens_at key bytes) c.args.first c.loop-i.i c.args.skip c.loop-i.skip_left c.add-skip_left.result c.args.most (vec_len c.loop-i.plain) c.in-Ok.from (c.in-Ok.from + c.in-Ok.n - c.in-Ok.from) c.in-Ok.n c.open_piece.new.buffer c.loop-i.plain.items c.add-skip_left.new.plain.items
      (c.loop-i.invariant.run key bytes told begins) opens (omega arith) c.loop-i.plain.ok.0 c.add-skip_left.ensures.bytes c.add-skip_left.ensures.left;
}
