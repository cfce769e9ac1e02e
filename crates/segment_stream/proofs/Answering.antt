-- A pass over a source and a sink that tell.
use Rattle.std.proofs.Common.{◌≡◌, ℕ, List, [], ◌++◌, refl, sym, ◌∙◌, ap, inl, inr, append-nil, ◌⊎◌}
use Rattle.std.specs.Prelude.{true, false, Option, Some, None, Result, Err, option_map, IfSome, All}
use Rattle.tink_spec.specs.Outside.{SourceState, SinkState, Took}
use Rattle.segment_stream.specs.Cipher.{SegmentCipher, IsCipher}
use Rattle.segment_stream.specs.Opening.{released, decides, stream_answer}
use Rattle.segment_stream.specs.Pumping.{Pumps, pumped, refused, unread, unwritten, opening_any, result_of}
use Rattle.segment_stream.specs.declared.fault.OpenPumpFault.{OpenPumpFault}
use Rattle.segment_stream.specs.declared.fault.OpenPumpFault.TheVariants.{ReadFault, WriteFault}
use Rattle.segment_stream.proofs.OpeningLemmas.{decides_stays}

-- what is left of the bytes
pub told_left : (more bytes : List ℕ) (o : Option (List ℕ)) → Some bytes ≡ option_map (λ rest. more ++ rest) o → (rest : List ℕ) × (o ≡ Some rest) × (more ++ rest ≡ bytes)
told_left more bytes None e = absurd cc
told_left more bytes (Some rest) e = (rest, refl, cc)

pub told_all : (more bytes : List ℕ) (o : Option (List ℕ)) → Some bytes ≡ option_map (λ rest. more ++ rest) o → IfSome o (λ rest. rest ≡ []) → more ≡ bytes
told_all more bytes None e end = absurd cc
told_all more bytes (Some rest) e end = let all : more ++ rest ≡ bytes = cc in sym (append-nil more) ∙ ap (λ (l : List ℕ). more ++ l) (sym end) ∙ all

pub gained : (old new : SinkState) (before out : List ℕ) → Took old new out → old.written ≡ Some before → new.written ≡ Some (before ++ out)
gained old new before out took e = took.written ∙ ap (λ (o : Option (List ℕ)). option_map (λ b. b ++ out) o) e

pub pass-answers : (keys : List SegmentCipher) (bytes before : List ℕ) (result : Result (Unit {0}) OpenPumpFault) (was now : SourceState) (old new : SinkState) → All IsCipher keys
    → Pumps (opening_any keys) [] [] false result was now old new → was.left ≡ Some bytes → old.written ≡ Some before
    → (result ≡ Err ReadFault) ⊎ ((result ≡ Err WriteFault) ⊎ ((new.written ≡ Some (before ++ (stream_answer keys bytes).0)) × (result ≡ result_of (stream_answer keys bytes).1)))
pass-answers keys bytes before result was now old new all (pumped more out so gave follows end took o d) left wrote =
    let same = told_all more bytes now.left (sym left ∙ gave.left) end in
    inr (inr (gained old new before out took wrote ∙ ap (λ (l : List ℕ). Some (before ++ l)) (o ∙ ap (λ (l : List ℕ). released keys l true) same), so ∙ ap result_of (sym d ∙ ap (λ (l : List ℕ). decides keys l true) same)))
pass-answers keys bytes before result was now old new all (refused more out true r so gave follows end took o d) left wrote =
    let same = told_all more bytes now.left (sym left ∙ gave.left) (end refl) in
    inr (inr (gained old new before out took wrote ∙ ap (λ (l : List ℕ). Some (before ++ l)) (o ∙ ap (λ (l : List ℕ). released keys l true) same), so ∙ ap result_of (sym d ∙ ap (λ (l : List ℕ). decides keys l true) same)))
pass-answers keys bytes before result was now old new all (refused more out false r so gave follows end took o d) left wrote =
    let t = told_left more bytes now.left (sym left ∙ gave.left) in
    let s = decides_stays keys more t.0 true r all d in
    inr (inr (gained old new before out took wrote ∙ ap (λ (l : List ℕ). Some (before ++ l)) (o ∙ sym s.1 ∙ ap (λ (l : List ℕ). released keys l true) t.2), so ∙ ap result_of (sym s.0 ∙ ap (λ (l : List ℕ). decides keys l true) t.2)))
pass-answers keys bytes before result was now old new all (unread more out so rose gave follows took o d) left wrote = inl so
pass-answers keys bytes before result was now old new all (unwritten more out rest ended so rose gave follows end took some o) left wrote = inr (inl so)
