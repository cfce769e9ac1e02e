-- Streams that are opened and sealed again.
use Rattle.std.proofs.Common.{◌≡◌, ℕ, ◌+◌, List, [], ◌∷◌, ◌++◌, length, refl, sym, ◌∙◌, ap, arith, inl, inr, append-nil, ◌⊎◌}
use Rattle.std.specs.Prelude.{Bool, true, false, nat_lt, Option, Some, None, Result, Err, All, if◌then◌else◌}
use Rattle.std.specs.List.{concat}
use Rattle.std.specs.Option.{option_or}
use Rattle.tink_spec.specs.Outside.{SourceState, SinkState}
use Rattle.segment_stream.specs.Pieces.{piece, followed, leading}
use Rattle.segment_stream.specs.Cipher.{SegmentCipher, IsCipher, most_segments, behind_header}
use Rattle.segment_stream.specs.Opening.{StreamRefusal, released, decides, stream_answer}
use Rattle.segment_stream.specs.Pumping.{Pumps, pumped, refused, unread, unwritten, resealing, result_of}
use Rattle.segment_stream.specs.Resealing.{follows_at, is_whole, reseal_answer, reseal_decides, resealed, unfinished}
use Rattle.segment_stream.specs.Sealing.{header_of, many_plain, plain_size, seal_decides, sealed, sealed_behind, seals_at}
use Rattle.segment_stream.specs.declared.fault.OpenPumpFault.{OpenPumpFault}
use Rattle.segment_stream.specs.declared.fault.OpenPumpFault.TheVariants.{ReadFault, WriteFault}
use Rattle.segment_stream.proofs.Answering.{gained, told_all, told_left}
use Rattle.segment_stream.proofs.OpeningLemmas.{decides_stays, not_final, released_front}
use Rattle.segment_stream.proofs.PassingLemmas.{many_front, not_whole, whole_end}
use Rattle.segment_stream.proofs.Runs.{leading-same}
use Rattle.segment_stream.proofs.SealAnswering.{many_is}
use Rattle.segment_stream.proofs.SealingLemmas.{stream-back}

-- the plaintext has too many segments already, or the stream is refused, and then nothing more is released
pub reseal-stays : (keys : List SegmentCipher) (key : SegmentCipher) (header taken more : List ℕ) (refusal : StreamRefusal) → All IsCipher keys → IsCipher key → reseal_decides keys key header taken false ≡ Some refusal
    → (reseal_decides keys key header (taken ++ more) true ≡ Some refusal) × (resealed keys key header (taken ++ more) true ≡ resealed keys key header taken false)
reseal-stays keys key header taken more refusal all is e = by_many (many_plain key header (released keys taken false)) refl e
  where
    by_many : (o : Option StreamRefusal) → many_plain key header (released keys taken false) ≡ o → option_or o (decides keys taken false) ≡ Some refusal
        → (reseal_decides keys key header (taken ++ more) true ≡ Some refusal) × (resealed keys key header (taken ++ more) true ≡ resealed keys key header taken false)
    by_many None none d =
        let s = decides_stays keys taken more true refusal all d in (
          ap (λ (l : List ℕ). option_or (many_plain key header l) (decides keys (taken ++ more) true)) s.1
              ∙ ap (λ (o : Option StreamRefusal). option_or o (decides keys (taken ++ more) true)) none ∙ s.0,
          ap (λ (b : Bool). sealed_behind key header (released keys (taken ++ more) true) b) (not_whole keys (taken ++ more) true refusal s.0)
              ∙ ap (λ (l : List ℕ). sealed_behind key header l false) s.1,
        )
    by_many (Some r) many d =
        let m = many_is (followed (plain_size key) (header ++ released keys taken false)) r many in
        let first = many ∙ ap Some m.1 in
        let same : r ≡ refusal = cc in
        let f = released_front keys taken more true all in
        let b = is_whole keys (taken ++ more) true in
        let front = many_front key header (released keys taken false) f.0 b is first in (
          ap (λ (l : List ℕ). option_or (many_plain key header l) (decides keys (taken ++ more) true)) (sym f.1)
              ∙ ap (λ (o : Option StreamRefusal). option_or o (decides keys (taken ++ more) true)) front.1 ∙ ap Some (sym m.1 ∙ same),
          ap (λ (l : List ℕ). sealed_behind key header l b) (sym f.1) ∙ front.0,
        )

pub reseal-pass-answers : (keys : List SegmentCipher) (key : SegmentCipher) (header bytes before : List ℕ) (result : Result (Unit {0}) OpenPumpFault) (was now : SourceState) (old new : SinkState) → All IsCipher keys → IsCipher key
    → Pumps (resealing keys key header) [] [] false result was now old new → was.left ≡ Some bytes → old.written ≡ Some before
    → (result ≡ Err ReadFault) ⊎ ((result ≡ Err WriteFault) ⊎ ((new.written ≡ Some (before ++ (reseal_answer keys key header bytes).0)) × (result ≡ result_of (reseal_answer keys key header bytes).1)))
reseal-pass-answers keys key header bytes before result was now old new all is (pumped more out so gave follows end took o d) left wrote =
    let same = told_all more bytes now.left (sym left ∙ gave.left) end in
    inr (inr (gained old new before out took wrote ∙ ap (λ (l : List ℕ). Some (before ++ l)) (o ∙ ap (λ (l : List ℕ). resealed keys key header l true) same), so ∙ ap result_of (sym d ∙ ap (λ (l : List ℕ). reseal_decides keys key header l true) same)))
reseal-pass-answers keys key header bytes before result was now old new all is (refused more out true r so gave follows end took o d) left wrote =
    let same = told_all more bytes now.left (sym left ∙ gave.left) (end refl) in
    inr (inr (gained old new before out took wrote ∙ ap (λ (l : List ℕ). Some (before ++ l)) (o ∙ ap (λ (l : List ℕ). resealed keys key header l true) same), so ∙ ap result_of (sym d ∙ ap (λ (l : List ℕ). reseal_decides keys key header l true) same)))
reseal-pass-answers keys key header bytes before result was now old new all is (refused more out false r so gave follows end took o d) left wrote =
    let t = told_left more bytes now.left (sym left ∙ gave.left) in
    let s = reseal-stays keys key header more t.0 r all is d in
    inr (inr (gained old new before out took wrote ∙ ap (λ (l : List ℕ). Some (before ++ l)) (o ∙ sym s.1 ∙ ap (λ (l : List ℕ). resealed keys key header l true) t.2), so ∙ ap result_of (sym s.0 ∙ ap (λ (l : List ℕ). reseal_decides keys key header l true) t.2)))
reseal-pass-answers keys key header bytes before result was now old new all is (unread more out so rose gave follows took o d) left wrote = inl so
reseal-pass-answers keys key header bytes before result was now old new all is (unwritten more out rest ended so rose gave follows end took some o) left wrote = inr (inl so)

-- before the end no segment is the last
behind_unfinished : (key : SegmentCipher) (header plain : List ℕ) → sealed_behind key header plain false ≡ unfinished key header plain
unfolding seals_at
behind_unfinished key header plain =
    let whole = header ++ plain in
    let n = followed (plain_size key) whole in
    let none : n + 0 ≡ n = omega arith in
    ap (λ k. header ++ concat (leading (seals_at key header whole) 0 k)) none
    ∙ ap (λ (l : List (List ℕ)). header ++ concat l)
    (leading-same (seals_at key header whole) (follows_at key header whole) 0 n
    (λ i h k. ap (λ (b : Bool). if nat_lt i most_segments then Some (key.seals header i b (behind_header key.header i (piece (plain_size key) whole i))) else None) (not_final i n (omega arith))))

pub refused-unfinished : (keys : List SegmentCipher) (key : SegmentCipher) (header bytes : List ℕ) (refusal : StreamRefusal) → IsCipher key → reseal_decides keys key header bytes true ≡ Some refusal
    → resealed keys key header bytes true ≡ unfinished key header (released keys bytes true)
refused-unfinished keys key header bytes refusal is e = by_decided (decides keys bytes true) refl
  where
    plain : List ℕ
    plain = released keys bytes true

    by_decided : (o : Option StreamRefusal) → decides keys bytes true ≡ o → resealed keys key header bytes true ≡ unfinished key header (released keys bytes true)
    by_decided (Some r) d =
        ap (λ (b : Bool). sealed_behind key header plain b) (not_whole keys bytes true r d) ∙ behind_unfinished key header plain
    by_decided None d =
        let many : many_plain key header plain ≡ Some refusal = no_other (many_plain key header plain) (ap (λ (o : Option StreamRefusal). option_or (many_plain key header plain) o) (sym d) ∙ e) in
        let m = many_is (followed (plain_size key) (header ++ plain)) refusal many in
        let front = many_front key header plain [] (is_whole keys bytes true) is (many ∙ ap Some m.1) in
        ap (λ (l : List ℕ). sealed_behind key header l (is_whole keys bytes true)) (sym (append-nil plain)) ∙ front.0 ∙ behind_unfinished key header plain
      where
        no_other : (o : Option StreamRefusal) → option_or o None ≡ Some refusal → o ≡ Some refusal
        no_other None h = h
        no_other (Some r) h = h

pub resealed-back : (keys : List SegmentCipher) (key : SegmentCipher) (random bytes plain : List ℕ) → IsCipher key → length random + 1 ≡ key.header → stream_answer keys bytes ≡ (plain, None) → seal_decides key random plain ≡ None
    → (reseal_answer keys key (header_of key random) bytes ≡ (sealed key random plain true, None)) × (stream_answer (key ∷ []) (sealed key random plain true) ≡ (plain, None))
resealed-back keys key random bytes plain is size opens few =
    let header = header_of key random in
    let out : released keys bytes true ≡ plain = ap (λ (x : List ℕ × Option StreamRefusal). x.0) opens in
    let none : decides keys bytes true ≡ None = ap (λ (x : List ℕ × Option StreamRefusal). x.1) opens in
    let written : resealed keys key header bytes true ≡ sealed key random plain true
    = ap (λ (b : Bool). sealed_behind key header (released keys bytes true) b) (whole_end keys bytes none) ∙ ap (λ (l : List ℕ). sealed_behind key header l true) out in
    let decided : reseal_decides keys key header bytes true ≡ None
    = ap (λ (l : List ℕ). option_or (many_plain key header l) (decides keys bytes true)) out
    ∙ ap (λ (o : Option StreamRefusal). option_or o (decides keys bytes true)) few ∙ none in
    (ap (λ (l : List ℕ). (l, reseal_decides keys key header bytes true)) written ∙ ap (λ (o : Option StreamRefusal). (sealed key random plain true, o)) decided, stream-back key random plain is size few)
