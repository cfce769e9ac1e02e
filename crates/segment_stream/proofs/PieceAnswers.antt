-- A stream that arrives in pieces, and the stated answer for the whole of it.
use Rattle.std.proofs.Common.{◌≡◌, ℕ, List, [], ◌∷◌, ◌++◌, refl, sym, ◌∙◌, ap, subst, inl, inr, append_assoc, append-nil, ◌⊎◌}
use Rattle.std.specs.Prelude.{true, false, Some, None, All, Err}
use Rattle.std.specs.List.{concat}
use Rattle.tink_spec.specs.Outside.{SinkState, Took}
use Rattle.tink_spec.proofs.Moves.{took_nothing, took_more}
use Rattle.segment_stream.specs.Arriving.{Feeds, HasOpened, OpenStops, OpenStopsLast, OpeningState, OpensLast}
use Rattle.segment_stream.specs.Cipher.{SegmentCipher, IsCipher}
use Rattle.segment_stream.specs.Halting.{Halts}
use Rattle.segment_stream.specs.Opening.{StreamRefusal, decides, failed, released, stream_answer, too_many}
use Rattle.segment_stream.specs.Pumping.{opening_any, result_of}
use Rattle.segment_stream.specs.declared.fault.OpenPumpFault.{OpenPumpFault}
use Rattle.segment_stream.specs.declared.fault.OpenPumpFault.TheVariants as faults
use Rattle.segment_stream.proofs.Answering.{gained}
use Rattle.segment_stream.proofs.OpeningLemmas.{decides_stays}

-- all pieces were taken, and what they release was written
record Fed (later : OpeningState) (keys : List SegmentCipher) (taken written : List ℕ) (old new : SinkState) : Type 0 where
  more : List ℕ
  took : Took old new more
  has : HasOpened later keys taken (written ++ more)

fed : (opening later : OpeningState) (keys : List SegmentCipher) (pieces : List (List ℕ)) (taken written : List ℕ) (old new : SinkState) → HasOpened opening keys taken written → Feeds opening pieces later old new → Fed later keys (taken ++ concat pieces) written old new
fed opening later keys [] taken written old new h (same, still) = record {
  more = [];
  took = subst (λ (s : SinkState). Took old s []) still (took_nothing old);
  has = subst (λ (o : OpeningState). HasOpened o keys (taken ++ []) (written ++ [])) same
      (subst (λ (l : List ℕ). HasOpened opening keys l (written ++ [])) (sym (append-nil taken)) (subst (λ (l : List ℕ). HasOpened opening keys taken l) (sym (append-nil written)) h));
}
fed opening later keys (piece ∷ pieces) taken written old new h (next, (between, (opens, feeds))) =
    let a = opens keys taken written h in
    let b = fed next later keys pieces (taken ++ piece) (written ++ a.more) between new a.has feeds in
    record {
      more = a.more ++ b.more;
      took = took_more _ _ _ _ _ a.took b.took;
      has = subst (λ (l : List ℕ). HasOpened later keys l (written ++ (a.more ++ b.more))) (append_assoc taken piece (concat pieces))
          (subst (λ (l : List ℕ). HasOpened later keys ((taken ++ piece) ++ concat pieces) l) (append_assoc written a.more b.more) b.has);
    }

-- what was written behind the pieces, to the end
both : (keys : List SegmentCipher) (bytes before p q : List ℕ) (old mid new : SinkState) → Took old mid p → Took mid new q → old.written ≡ Some before → p ++ q ≡ released keys bytes true → new.written ≡ Some (before ++ (stream_answer keys bytes).0)
both keys bytes before p q old mid new first second wrote e =
    gained old new before (p ++ q) (took_more _ _ _ _ _ first second) wrote ∙ ap (λ (l : List ℕ). Some (before ++ l)) e

-- a refusal of the whole
by_fault : (keys : List SegmentCipher) (bytes before p : List ℕ) (fault : OpenPumpFault) (old mid new : SinkState) → Took old mid p → old.written ≡ Some before → Halts (opening_any keys) fault bytes p true mid new
    → (fault ≡ faults.WriteFault) ⊎ ((new.written ≡ Some (before ++ (stream_answer keys bytes).0)) × (Err fault ≡ result_of (stream_answer keys bytes).1))
by_fault keys bytes before p faults.ReadFault old mid new took wrote h = absurd h
by_fault keys bytes before p faults.WriteFault old mid new took wrote h = inl refl
by_fault keys bytes before p faults.TooManySegments old mid new took wrote h = inr (both keys bytes before p h.more old mid new took h.took wrote h.whole, ap result_of (sym h.decided))
by_fault keys bytes before p (faults.StreamFailed number) old mid new took wrote h = inr (both keys bytes before p h.more old mid new took h.took wrote h.whole, ap result_of (sym h.decided))

pub pieces-answer : (opening later : OpeningState) (keys : List SegmentCipher) (pieces : List (List ℕ)) (before : List ℕ) (old mid new : SinkState) → HasOpened opening keys [] [] → Feeds opening pieces later old mid → old.written ≡ Some before
    → (OpensLast later mid new → (new.written ≡ Some (before ++ (stream_answer keys (concat pieces)).0)) × ((stream_answer keys (concat pieces)).1 ≡ None))
    × ((fault : OpenPumpFault) → OpenStopsLast fault later mid new → (fault ≡ faults.WriteFault) ⊎ ((new.written ≡ Some (before ++ (stream_answer keys (concat pieces)).0)) × (Err fault ≡ result_of (stream_answer keys (concat pieces)).1)))
pieces-answer opening later keys pieces before old mid new h feeds wrote =
    let f = fed opening later keys pieces [] [] old mid h feeds in (
      λ last. let o = last keys (concat pieces) f.more f.has in
          (both keys (concat pieces) before f.more o.more old mid new f.took o.took wrote o.whole, o.none),
      λ fault last. by_fault keys (concat pieces) before f.more fault old mid new f.took wrote (last keys (concat pieces) f.more f.has),
    )

-- a refusal that was decided stays
early : (keys : List SegmentCipher) (taken more before p q : List ℕ) (refusal : StreamRefusal) (old mid new : SinkState) → All IsCipher keys → Took old mid p → Took mid new q → old.written ≡ Some before → p ++ q ≡ released keys taken false → decides keys taken false ≡ Some refusal
    → (new.written ≡ Some (before ++ (stream_answer keys (taken ++ more)).0)) × (result_of (Some refusal) ≡ result_of (stream_answer keys (taken ++ more)).1)
early keys taken more before p q refusal old mid new are first second wrote whole decided =
    let s = decides_stays keys taken more true refusal are decided in
    (both keys (taken ++ more) before p q old mid new first second wrote (whole ∙ sym s.1), ap result_of (sym s.0))

pub refused-early : (opening later : OpeningState) (keys : List SegmentCipher) (pieces : List (List ℕ)) (piece more before : List ℕ) (fault : OpenPumpFault) (old mid new : SinkState) → HasOpened opening keys [] [] → Feeds opening pieces later old mid → old.written ≡ Some before → OpenStops fault later piece mid new
    → (fault ≡ faults.WriteFault) ⊎ ((new.written ≡ Some (before ++ (stream_answer keys (concat pieces ++ (piece ++ more))).0)) × (Err fault ≡ result_of (stream_answer keys (concat pieces ++ (piece ++ more))).1))
refused-early opening later keys pieces piece more before fault old mid new h feeds wrote stops =
    let f = fed opening later keys pieces [] [] old mid h feeds in
    subst (λ (l : List ℕ). (fault ≡ faults.WriteFault) ⊎ ((new.written ≡ Some (before ++ (stream_answer keys l).0)) × (Err fault ≡ result_of (stream_answer keys l).1))) (append_assoc (concat pieces) piece more)
    (by_early fault (stops keys (concat pieces) f.more f.has))
  where
    by_early : (why : OpenPumpFault) → Halts (opening_any keys) why (concat pieces ++ piece) (fed opening later keys pieces [] [] old mid h feeds).more false mid new
        → (why ≡ faults.WriteFault) ⊎ ((new.written ≡ Some (before ++ (stream_answer keys ((concat pieces ++ piece) ++ more)).0)) × (Err why ≡ result_of (stream_answer keys ((concat pieces ++ piece) ++ more)).1))
    by_early faults.ReadFault s = absurd s
    by_early faults.WriteFault s = inl refl
    by_early faults.TooManySegments s = let f = fed opening later keys pieces [] [] old mid h feeds in inr (early keys (concat pieces ++ piece) more before f.more s.more too_many old mid new f.has.are f.took s.took wrote s.whole s.decided)
    by_early (faults.StreamFailed number) s = let f = fed opening later keys pieces [] [] old mid h feeds in inr (early keys (concat pieces ++ piece) more before f.more s.more (failed number) old mid new f.has.are f.took s.took wrote s.whole s.decided)
