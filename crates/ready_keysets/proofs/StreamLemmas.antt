-- Streams in pieces: what is written is kept, and what is kept is given.
use Rattle.std.proofs.Common.{◌≡◌, ◌∙◌, ◌<◌, ◌⊎◌, ℕ, List, [], ◌++◌, true, append_assoc, append-nil, ap, refl, sym, subst, inl, inr, length, take}
use Rattle.std.specs.Prelude.{IsSome, Option, Some, None, Result, Ok, Err}
use Rattle.segment_stream.specs.Arriving.{HasOpened, OpenStopsLast, OpeningState}
use Rattle.segment_stream.specs.Cipher.{SegmentCipher}
use Rattle.segment_stream.specs.Opening.{StreamRefusal, decides, failed, too_many}
use Rattle.segment_stream.specs.Pushing.{HasSealed, SealingState, Seals, SealsLast, Stops}
use Rattle.segment_stream.specs.Sealing.{many_plain, sealed_behind}
use Rattle.segment_stream.specs.declared.fault.OpenPumpFault.{OpenPumpFault}
use Rattle.segment_stream.specs.declared.fault.OpenPumpFault.TheVariants as faults
use Rattle.segment_stream.specs.declared.fault.UpdateFault.TheVariants as stops
use Rattle.tink_spec.specs.Outside.{Took}
use Rattle.ready_keysets.specs.Keeping.{Gives, told_kept}
use Rattle.ready_keysets.specs.Streaming.{IsSealedWhole, MaySealLast, OpenEnds, OpensOn, SealAnswers, SealEnds, SealsOn, SealsTooMany, fault_of}
use Rattle.ready_keysets.specs.declared.kept.Kept.{Kept}
use Rattle.ready_keysets.specs.declared.opening.StreamOpening.{StreamOpening}
use Rattle.ready_keysets.specs.declared.step.StepFault.{StepFault}
use Rattle.ready_keysets.specs.declared.step.StepFault.TheVariants as steps
use Rattle.ready_keysets.specs.declared.sealing.StreamSealing.{StreamSealing}

-- what was written is kept behind what was kept before
pub kept_more : (old new : Kept) (more : List ℕ) → Took (told_kept old) (told_kept new) more
    → new.bytes.items ≡ old.bytes.items ++ more
kept_more old new more took = let e : Some new.bytes.items ≡ Some (old.bytes.items ++ more) = took.written in cc

-- given and kept bytes, with more that is kept
pub joined_more : (old new : Kept) (given more : List ℕ) → Took (told_kept old) (told_kept new) more
    → (given ++ old.bytes.items) ++ more ≡ given ++ new.bytes.items
joined_more old new given more took =
    append_assoc given old.bytes.items more ∙ ap (λ (b : List ℕ). given ++ b) (sym (kept_more old new more took))

-- given and kept bytes, where all that was kept is given
pub joined_given : (kept piece given left : List ℕ) → piece ≡ kept → left ≡ []
    → given ++ kept ≡ (given ++ piece) ++ left
joined_given kept piece given left is none =
    sym (ap (λ (b : List ℕ). (given ++ piece) ++ b) none ∙ append-nil (given ++ piece) ∙ ap (λ (b : List ℕ). given ++ b) is)

-- and where nothing is
pub joined_still : (kept given left : List ℕ) → left ≡ kept → given ++ kept ≡ (given ++ []) ++ left
joined_still kept given left is =
    sym (ap (λ (b : List ℕ). b ++ left) (append-nil given) ∙ ap (λ (b : List ℕ). given ++ b) is)

-- one value is there
pub same_some : {A : Type 0} (o : Option A) (x y : A) → o ≡ Some x → o ≡ Some y → x ≡ y
same_some o x y a b = let e : Some x ≡ Some y = sym a ∙ b in cc

pub some_there : {A : Type 0} (o : Option A) (x : A) → o ≡ Some x → IsSome o
some_there o x is = rw is refl

-- none is there where one is
pub not_both : {A P : Type 0} (o : Option A) (x : A) → o ≡ Some x → o ≡ None → P
not_both o x a b = let e : Some x ≡ None = sym a ∙ b in cc

-- ---- sealing

-- the plaintext was taken, and what it settles is kept
pub sealed_more : (sealing : StreamSealing) (was now : SealingState) (plain : List ℕ) (middle : Kept)
    → sealing.stream ≡ Some was → Seals was now plain (told_kept sealing.kept) (told_kept middle)
    → (cipher : SegmentCipher) (header taken given : List ℕ) → SealsOn sealing cipher header taken given
    → HasSealed now cipher header (taken ++ plain) (given ++ middle.bytes.items)
sealed_more sealing was now plain middle there seals cipher header taken given on =
    let has = subst (λ (s : SealingState). HasSealed s cipher header taken (given ++ sealing.kept.bytes.items))
    (same_some sealing.stream on.stream was on.open' there) on.has in
    let done = seals cipher header taken (given ++ sealing.kept.bytes.items) has in
    subst (λ (w : List ℕ). HasSealed now cipher header (taken ++ plain) w)
    (joined_more sealing.kept middle given done.more done.took) done.has

-- what is given of it
pub seal_answers : (sealing later : StreamSealing) (was now : SealingState) (plain old new : List ℕ) (middle : Kept)
    (result : Result ℕ StepFault)
    → sealing.stream ≡ Some was → Seals was now plain (told_kept sealing.kept) (told_kept middle)
    → later.stream ≡ Some now → later.whole ≡ sealing.whole → Gives middle later.kept old new result
    → SealAnswers sealing later plain old new result
seal_answers sealing later was now plain old new middle (Ok size) there seals next same_whole (given, none) = (
  some_there sealing.stream was there,
  record { front = refl; rest = given.rest },
  none,
  λ cipher header taken front on. record {
    stream = now;
    open' = next;
    going = same_whole ∙ on.going;
    has = subst (λ (w : List ℕ). HasSealed now cipher header (taken ++ plain) w)
        (joined_given middle.bytes.items (take size new) front later.kept.bytes.items given.front none)
        (sealed_more sealing was now plain middle there seals cipher header taken front on);
  },
)
seal_answers sealing later was now plain old new middle (Err steps.NoRoom) there seals next same_whole (less, same) = (
  some_there sealing.stream was there,
  subst (λ (k : Kept). length old < length k.bytes.items) (sym same) less,
  λ cipher header taken front on. record {
    stream = now;
    open' = next;
    going = same_whole ∙ on.going;
    has = subst (λ (w : List ℕ). HasSealed now cipher header (taken ++ plain) w)
        (joined_still middle.bytes.items front later.kept.bytes.items (ap (λ (k : Kept). k.bytes.items) same))
        (sealed_more sealing was now plain middle there seals cipher header taken front on);
  },
)
seal_answers sealing later was now plain old new middle (Err steps.TooManySegments) there seals next same_whole gives = absurd gives
seal_answers sealing later was now plain old new middle (Err steps.FewRandomBytes) there seals next same_whole gives = absurd gives
seal_answers sealing later was now plain old new middle (Err steps.Refused) there seals next same_whole gives = absurd gives
seal_answers sealing later was now plain old new middle (Err steps.Ended) there seals next same_whole gives = absurd gives
seal_answers sealing later was now plain old new middle (Err steps.NoMemory) there seals next same_whole gives = absurd gives

-- too much plaintext was taken
pub seal_too_many : (sealing : StreamSealing) (was : SealingState) (plain : List ℕ) (middle : Kept)
    → sealing.stream ≡ Some was → Stops stops.TooManySegments was plain (told_kept sealing.kept) (told_kept middle)
    → SealsTooMany sealing plain
seal_too_many sealing was plain middle there stopped = λ cipher header taken given on.
    let has = subst (λ (s : SealingState). HasSealed s cipher header taken (given ++ sealing.kept.bytes.items))
    (same_some sealing.stream on.stream was on.open' there) on.has in
    (stopped.1 cipher header taken (given ++ sealing.kept.bytes.items) has).many

-- these bytes are what is still to be given of a stream that was sealed to its end
abbrev pub AreLast : StreamSealing → List ℕ → Type 0
AreLast sealing kept = (cipher : SegmentCipher) (header taken given : List ℕ)
    → SealsOn sealing cipher header taken given ⊎ IsSealedWhole sealing cipher header taken given
    → (given ++ kept ≡ sealed_behind cipher header taken true) × (many_plain cipher header taken ≡ None)

-- the plaintext was ended, and the rest of its stream is kept
pub sealed_last : (sealing : StreamSealing) (was : SealingState) (middle : Kept)
    → sealing.stream ≡ Some was → SealsLast was (told_kept sealing.kept) (told_kept middle)
    → AreLast sealing middle.bytes.items
sealed_last sealing was middle there seals cipher header taken given (inl on) =
    let has = subst (λ (s : SealingState). HasSealed s cipher header taken (given ++ sealing.kept.bytes.items))
    (same_some sealing.stream on.stream was on.open' there) on.has in
    let done = seals cipher header taken (given ++ sealing.kept.bytes.items) has in
    (sym (joined_more sealing.kept middle given done.more done.took) ∙ done.whole, has.few)
sealed_last sealing was middle there seals cipher header taken given (inr whole) =
    not_both sealing.stream was there whole.closed

-- what is given of it
pub seal_ends : (sealing later : StreamSealing) (old new : List ℕ) (middle : Kept) (result : Result ℕ StepFault)
    → MaySealLast sealing → AreLast sealing middle.bytes.items → later.stream ≡ None → later.whole ≡ true
    → Gives middle later.kept old new result → SealEnds sealing later old new result
seal_ends sealing later old new middle (Ok size) may last closed ended (given, none) = (
  may,
  record { front = refl; rest = given.rest },
  none,
  λ cipher header taken front either. record {
    closed = closed;
    ended = ended;
    all = sym (joined_given middle.bytes.items (take size new) front later.kept.bytes.items given.front none)
        ∙ (last cipher header taken front either).0;
    few = (last cipher header taken front either).1;
  },
)
seal_ends sealing later old new middle (Err steps.NoRoom) may last closed ended (less, same) = (
  may,
  subst (λ (k : Kept). length old < length k.bytes.items) (sym same) less,
  λ cipher header taken front either. record {
    closed = closed;
    ended = ended;
    all = sym (joined_still middle.bytes.items front later.kept.bytes.items (ap (λ (k : Kept). k.bytes.items) same))
        ∙ (last cipher header taken front either).0;
    few = (last cipher header taken front either).1;
  },
)
seal_ends sealing later old new middle (Err steps.TooManySegments) may last closed ended gives = absurd gives
seal_ends sealing later old new middle (Err steps.FewRandomBytes) may last closed ended gives = absurd gives
seal_ends sealing later old new middle (Err steps.Refused) may last closed ended gives = absurd gives
seal_ends sealing later old new middle (Err steps.Ended) may last closed ended gives = absurd gives
seal_ends sealing later old new middle (Err steps.NoMemory) may last closed ended gives = absurd gives

-- ---- opening

-- what was taken is no whole stream
pub open_no_end : (opening : StreamOpening) (was : OpeningState) (middle : Kept) (refusal : StreamRefusal)
    → opening.stream ≡ Some was
    → ((ciphers : List SegmentCipher) (taken written : List ℕ) → HasOpened was ciphers taken written
    → decides ciphers taken true ≡ Some refusal)
    → (ciphers : List SegmentCipher) (taken given : List ℕ) → OpensOn opening ciphers taken given
    → decides ciphers (taken ++ []) true ≡ Some refusal
open_no_end opening was middle refusal there decided ciphers taken given on =
    subst (λ (t : List ℕ). decides ciphers t true ≡ Some refusal) (sym (append-nil taken))
    (decided ciphers taken (given ++ opening.kept.bytes.items)
    (subst (λ (s : OpeningState). HasOpened s ciphers taken (given ++ opening.kept.bytes.items))
    (same_some opening.stream on.stream was on.open' there) on.has))

-- and so the stream has ended
pub open_stops_last : (opening later : StreamOpening) (was : OpeningState) (old new : List ℕ) (middle : Kept)
    (fault : OpenPumpFault)
    → opening.stream ≡ Some was → OpenStopsLast fault was (told_kept opening.kept) (told_kept middle)
    → later.stream ≡ None → later.whole ≡ opening.whole → OpenEnds opening later old new (Err (fault_of fault))
open_stops_last opening later was old new middle faults.ReadFault there stopped closed same_whole =
    (some_there opening.stream was there, closed, same_whole)
open_stops_last opening later was old new middle faults.WriteFault there stopped closed same_whole =
    (some_there opening.stream was there, closed, same_whole)
open_stops_last opening later was old new middle faults.TooManySegments there stopped closed same_whole = (
  (some_there opening.stream was there, closed, same_whole),
  λ ciphers taken given on. (
    too_many,
    open_no_end opening was middle too_many there (λ cs t w has. (stopped cs t w has).decided) ciphers taken given on,
    refl,
  ),
)
open_stops_last opening later was old new middle (faults.StreamFailed number) there stopped closed same_whole = (
  (some_there opening.stream was there, closed, same_whole),
  λ ciphers taken given on. (
    failed number,
    open_no_end opening was middle (failed number) there (λ cs t w has. (stopped cs t w has).decided) ciphers taken given on,
    tt,
  ),
)
