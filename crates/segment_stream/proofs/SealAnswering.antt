-- A pass that seals, over a source and a sink that tell.
use Rattle.std.proofs.Common.{◌≡◌, ℕ, ◌+◌, ◌-◌, ◌<◌, ◌≤◌, List, [], ◌++◌, length, refl, sym, ◌∙◌, ap, inl, inr, arith, append_assoc, ◌⊎◌}
use Rattle.std.specs.Prelude.{Bool, true, false, Some, None, Result, Err, nat_le, if◌then◌else◌}
use Rattle.std.specs.List.{concat}
use Rattle.std.proofs.lemmas.Bool.{cases_lt}
use Rattle.std.proofs.lemmas.Bool.Decides.{nat_tests}
use Rattle.tink_spec.specs.Outside.{SourceState, SinkState}
use Rattle.segment_stream.specs.Pieces.{followed, settled, leading}
use Rattle.segment_stream.specs.Cipher.{SegmentCipher, IsCipher, most_segments}
use Rattle.segment_stream.specs.Opening.{StreamRefusal, too_many}
use Rattle.segment_stream.specs.Sealing.{plain_size, seals_at, sealed_behind, many_plain}
use Rattle.segment_stream.specs.Pumping.{Pumps, pumped, refused, unread, unwritten, sealing, result_of}
use Rattle.segment_stream.specs.declared.fault.OpenPumpFault.{OpenPumpFault}
use Rattle.segment_stream.specs.declared.fault.OpenPumpFault.TheVariants.{ReadFault, WriteFault}
use Rattle.segment_stream.proofs.Runs.{Run, run_stops, leading-same, leading-length, leading-stop}
use Rattle.segment_stream.proofs.Places.{followed-grows}
use Rattle.segment_stream.proofs.OpeningLemmas.{long_enough}
use Rattle.segment_stream.proofs.SealingLemmas.{seals_at-more}
use Rattle.segment_stream.proofs.SealStanding.{past}
use Rattle.segment_stream.proofs.Answering.{told_left, told_all, gained}

pub many_is : (n : ℕ) (r : StreamRefusal) → (if nat_le most_segments n then Some too_many else None) ≡ Some r → (most_segments ≤ n) × (r ≡ too_many)
many_is n r e = elim (cases_lt n most_segments) [
  | inl few ↦ let t : nat_le most_segments n ≡ false = grind (arith, nat_tests) in let h : None ≡ Some r = sym (ap (λ (b : Bool). if b then Some too_many else None) t) ∙ e in absurd cc
  | inr many ↦ let t : nat_le most_segments n ≡ true = long_enough most_segments n many in let h : Some too_many ≡ Some r = sym (ap (λ (b : Bool). if b then Some too_many else None) t) ∙ e in (many, cc)
]

-- behind so many segments none is sealed
cut_off : (key : SegmentCipher) (header whole : List ℕ) (n : ℕ) → most_segments ≤ n → leading (seals_at key header whole) 0 n ≡ leading (seals_at key header whole) 0 most_segments
cut_off key header whole n le =
    let f = seals_at key header whole in
    let all : most_segments + (n - most_segments) ≡ n = omega arith in
    let most = leading-length f 0 most_segments in
    sym (ap (leading f 0) all) ∙ by_run (cases_lt (length (leading f 0 most_segments)) most_segments) most
  where
    by_run : (length (leading (seals_at key header whole) 0 most_segments) < most_segments) ⊎ (most_segments ≤ length (leading (seals_at key header whole) 0 most_segments)) → length (leading (seals_at key header whole) 0 most_segments) ≤ most_segments
        → leading (seals_at key header whole) 0 (most_segments + (n - most_segments)) ≡ leading (seals_at key header whole) 0 most_segments
    by_run (inl short) most = leading-stop (seals_at key header whole) 0 most_segments (n - most_segments) short
    by_run (inr full) most =
        let run : Run (seals_at key header whole) most_segments (concat (leading (seals_at key header whole) 0 most_segments)) = record { count = omega (arith, full, most); joined = refl } in
        run_stops (seals_at key header whole) most_segments (n - most_segments) _ run (past key header whole most_segments (omega arith))

pub many_stays : (key : SegmentCipher) (header taken more : List ℕ) (ended : Bool) → IsCipher key → most_segments ≤ followed (plain_size key) (header ++ taken)
    → (sealed_behind key header (taken ++ more) true ≡ sealed_behind key header taken ended) × (many_plain key header (taken ++ more) ≡ Some too_many)
many_stays key header taken more ended is many =
    let w = plain_size key in
    let whole : (header ++ taken) ++ more ≡ header ++ (taken ++ more) = append_assoc header taken more in
    let some : 0 < w = omega (arith, is.some, is.room) in
    let grows : followed w (header ++ taken) ≤ followed w (header ++ (taken ++ more)) = omega (arith, followed-grows w (header ++ taken) more some, ap (followed w) whole) in
    let same = leading-same (seals_at key header ((header ++ taken) ++ more)) (seals_at key header (header ++ taken)) 0 most_segments (λ i h k. seals_at-more key header (header ++ taken) more i is (omega (arith, many))) in
    let runs = cut_off key header (header ++ (taken ++ more)) (settled w (header ++ (taken ++ more)) true) (omega (arith, many, grows))
    ∙ ap (λ (l : List ℕ). leading (seals_at key header l) 0 most_segments) (sym whole) ∙ same ∙ sym (cut_off key header (header ++ taken) (settled w (header ++ taken) ended) (omega (arith, many))) in
    (ap (λ (l : List (List ℕ)). header ++ concat l) runs, ap (λ (b : Bool). if b then Some too_many else None) (long_enough most_segments (followed w (header ++ (taken ++ more))) (omega (arith, many, grows))))

pub seal-pass-answers : (key : SegmentCipher) (header bytes before : List ℕ) (result : Result (Unit {0}) OpenPumpFault) (was now : SourceState) (old new : SinkState) → IsCipher key
    → Pumps (sealing key header) [] [] false result was now old new → was.left ≡ Some bytes → old.written ≡ Some before
    → (result ≡ Err ReadFault) ⊎ ((result ≡ Err WriteFault) ⊎ ((new.written ≡ Some (before ++ sealed_behind key header bytes true)) × (result ≡ result_of (many_plain key header bytes))))
seal-pass-answers key header bytes before result was now old new is (pumped more out so gave follows end took o d) left wrote =
    let same = told_all more bytes now.left (sym left ∙ gave.left) end in
    inr (inr (gained old new before out took wrote ∙ ap (λ (l : List ℕ). Some (before ++ l)) (o ∙ ap (λ (l : List ℕ). sealed_behind key header l true) same), so ∙ ap result_of (sym d ∙ ap (λ (l : List ℕ). many_plain key header l) same)))
seal-pass-answers key header bytes before result was now old new is (refused more out ended r so gave follows end took o d) left wrote =
    let t = told_left more bytes now.left (sym left ∙ gave.left) in
    let m = many_is (followed (plain_size key) (header ++ more)) r d in
    let s = many_stays key header more t.0 ended is m.0 in
    inr (inr (
      gained old new before out took wrote ∙ ap (λ (l : List ℕ). Some (before ++ l)) (o ∙ sym s.0 ∙ ap (λ (l : List ℕ). sealed_behind key header l true) t.2),
      so ∙ ap (λ (x : StreamRefusal). result_of (Some x)) m.1 ∙ ap result_of (sym s.1 ∙ ap (λ (l : List ℕ). many_plain key header l) t.2),
    ))
seal-pass-answers key header bytes before result was now old new is (unread more out so rose gave follows took o d) left wrote = inl so
seal-pass-answers key header bytes before result was now old new is (unwritten more out rest ended so rose gave follows end took some o) left wrote = inr (inl so)
