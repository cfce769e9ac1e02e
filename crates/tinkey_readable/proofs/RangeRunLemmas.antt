-- Ranges of streams that were sealed before runs, opened after them.
use Rattle.std.proofs.Common.{arith, ◌≡◌, ◌∙◌, ap, refl, ℕ, ◌+◌, ◌-◌, ◌<◌, ◌≤◌, Bool, true, false, List, length, take, drop, Option, Some, None, Result, Ok, Err}
use Rattle.std.specs.Prelude.{nat_lt, if◌then◌else◌}
use Rattle.std.proofs.lemmas.Bool.Decides.{nat_tests}
use Rattle.std.specs.FinMap as map
use Rattle.keyset_model.specs.Keyset.{Keys}
use Rattle.segment_stream.specs.KeysModel.{KeysForStreams}
use Rattle.segment_stream.specs.Laws.{RangeIsSlice}
use Rattle.segment_stream.specs.Range.{RangeRefusal, past_end, range_of}
use Rattle.segment_stream.specs.Segments.{ciphers_of}
use Rattle.segment_stream.specs.StreamKeys.{stream_keys}
use Rattle.tinkey_plans.specs.declared.status.Status.TheVariants as status
use Rattle.tinkey_words.specs.Words.{AskedRange}
use Rattle.tinkey_plans.specs.Plan.{Told, answer, create_answer, range_answer, refused}
use Rattle.tinkey_plans.specs.Ranging.{opens_file_range, range_for, with_range}
use Rattle.tinkey_plans.specs.Steps.{puts}
use Rattle.tinkey_plans.specs.FileRange.{Opened}
use Rattle.tinkey_readable.specs.Runs.{IsFree}
use Rattle.tinkey_readable.proofs.ReachLemmas.{IsDoneAnswer}
use Rattle.tinkey_readable.proofs.StreamKeyLemmas.{OpensUnder}

-- ---- a range of a stream that opens

-- so many bytes from a place on, where they end within the plaintext, are that slice of it
pub range_within : RangeIsSlice → (keys : Keys) (ad stream plain : List ℕ) (from size : ℕ) → OpensUnder keys ad stream plain → from + size ≤ length plain
    → range_of (ciphers_of ad (stream_keys keys)) stream from (from + size) ≡ Ok (take size (drop from plain))
range_within slice keys ad stream plain from size opens within =
    let test : nat_lt (length plain) (from + size) ≡ false = grind (arith, nat_tests, within) in
    let count : from + size - from ≡ size = omega arith in
    slice (ciphers_of ad (stream_keys keys)) stream plain from (from + size) opens.ciphers opens.answer (omega arith)
    ∙ ap {A = Bool} {B = Result (List ℕ) RangeRefusal} (λ b. if b then Err past_end else Ok (take (from + size - from) (drop from plain))) test
    ∙ ap (λ (n : ℕ). Ok (take n (drop from plain))) count

-- those that end behind it are refused
pub range_past : RangeIsSlice → (keys : Keys) (ad stream plain : List ℕ) (from size : ℕ) → OpensUnder keys ad stream plain → length plain < from + size
    → range_of (ciphers_of ad (stream_keys keys)) stream from (from + size) ≡ Err past_end
range_past slice keys ad stream plain from size opens behind =
    let test : nat_lt (length plain) (from + size) ≡ true = grind (arith, nat_tests, behind) in
    slice (ciphers_of ad (stream_keys keys)) stream plain from (from + size) opens.ciphers opens.answer (omega arith)
    ∙ ap {A = Bool} {B = Result (List ℕ) RangeRefusal} (λ b. if b then Err past_end else Ok (take (from + size - from) (drop from plain))) test

-- ---- a run of srange

-- bytes are put out where the name of a new file is free
pub puts_reached : (file : Option (List ℕ)) (bytes : List ℕ) (told : Told) → IsFree file told.files → IsDoneAnswer (answer (puts file bytes) told)
puts_reached (Some name) bytes told free = ap (λ (found : Option (List ℕ)). (create_answer found told name bytes (refused told status.OutExists)).status) free
puts_reached None bytes told free = refl

-- what follows a range, by what it is
pub file_range_reached : (keys : KeysForStreams) (ad stream : List ℕ) (range : AskedRange) (out : Option (List ℕ)) (told : Told) (opened : Opened) → map.get told.files range.file ≡ Some stream → range_of (ciphers_of ad keys.keys) stream range.from (range.from + range.size) ≡ opened
    → answer (opens_file_range keys ad range (puts out)) told ≡ answer (with_range opened (puts out)) told
file_range_reached keys ad stream range out told opened there is =
    ap (λ (found : Option (List ℕ)). range_answer found (range_for keys ad range) (refused told status.StreamMissing) (λ o. answer (with_range o (puts out)) told)) there
    ∙ ap (λ (o : Opened). answer (with_range o (puts out)) told) is
