-- Streams that calls of the library seal and open, and of which keysets there are handles for streams.
use Rattle.std.proofs.Common.{arith, ◌≡◌, ◌∙◌, ◌⊎◌, inl, inr, sym, refl, ap, subst, ℕ, ◌+◌, ◌≤◌, ◌<◌, true, false, List, [], ◌∷◌, ◌++◌, length, take, Option, Some, None, Result, Ok, Err}
use Rattle.std.specs.Prelude.{IsSome}
use Rattle.std.specs.Result.{result_ok}
use Rattle.std.proofs.lemmas.List.{append-nil, append_assoc, length-append}
use Rattle.std.proofs.lemmas.Option.{same_Some}
use Rattle.key_msgs.specs.declared.primitive.Primitive.TheVariants.{Aead}
use Rattle.keyset_json.specs.Reading.{reads_json}
use Rattle.keyset_model.specs.Keyset.{Keys}
use Rattle.keyset_model.specs.Reading.{reads_binary}
use Rattle.keyset_model.specs.Writing.{ReadKeysFit}
use Rattle.keyset_model.specs.declared.record.Record.{Record}
use Rattle.managers.specs.Standard.{standard_table}
use Rattle.ready_keysets.specs.Streaming.{AreServing, IsNoStreams, IsOpenedWhole, IsSealedWhole, OpenAnswers, OpenEnds, OpensOn, ReadNoStreams, SealAnswers, SealsOn}
use Rattle.ready_keysets.specs.Unwrapping.{IsNoStreamsInside, IsNoWrapped, IsNoneInside, Lack, of_fit}
use Rattle.ready_keysets.specs.declared.opening.StreamOpening.{StreamOpening}
use Rattle.ready_keysets.specs.declared.refusal.Refusal.{Refusal}
use Rattle.ready_keysets.specs.declared.refusal.Refusal.TheVariants as refusals
use Rattle.ready_keysets.specs.declared.sealing.StreamSealing.{StreamSealing}
use Rattle.ready_keysets.specs.declared.step.StepFault.{StepFault}
use Rattle.ready_keysets.specs.declared.step.StepFault.TheVariants as steps
use Rattle.ready_keysets.specs.declared.streams.StreamKeyset.{StreamKeyset}
use Rattle.segment_stream.specs.Cipher.{SegmentCipher}
use Rattle.segment_stream.specs.Laws.{DecidedStays, RangeIsSlice, ReleasedPrefix, ResealedBack, StreamBack}
use Rattle.segment_stream.specs.Opening.{StreamRefusal, decides, released, stream_answer}
use Rattle.segment_stream.specs.Sealing.{header_of, seal_decides, sealed}
use Rattle.segment_stream.specs.Segments.{cipher_of, ciphers_of}
use Rattle.segment_stream.specs.StreamKeys.{primary_key, stream_keys, stream_unfit}
use Rattle.tinkey_plans.specs.Locks.{limit_under}
use Rattle.tinkey_plans.specs.Steps.{keyset_limit}
use Rattle.tinkey_plans.specs.Wrapping.{wrapped_limit}
use Rattle.tinkey_session.proofs.Options.{clash, no_truth}
use Rattle.tinkey_readable.proofs.AnywhereLemmas.{MadeStream, opens_made, ranges_made, stream_maker}
use Rattle.tinkey_readable.proofs.CallLemmas.{fit_keys, inside_is, not_failed, ok_read, ok_same}
use Rattle.tinkey_readable.proofs.ResealedStreamLemmas.{stream_all}
use Rattle.tinkey_readable.proofs.StreamKeyLemmas.{opens_under, primary_gives}
use Rattle.tinkey_readable.specs.Anywhere.{ServesAsMaster}
use Rattle.tinkey_readable.specs.Calls.{inside_of}
use Rattle.tinkey_readable.specs.LibraryStreams.{AreNoStreamsIn, AreStreamsIn, GoesOn, HasTaken, IsOpenedByCalls, IsStreamHandle, IsUnrefused, LibraryStreamsOpen, Piece, Room, SaysAtEnd, StreamHandlesAreMade, StreamHandlesServe, WasSealedByCalls, WasStreamSealed, WereOpened, WereOpenedOut, WereSealed, WereSealedOut, WrappedStreamHandlesAreMade, given_by, given_in, sealed_by_calls, sealed_by_run, streams_of_text, streams_of_wrapped, taken_in}
use Rattle.tinkey_readable.specs.Lying.{GivesKeyset}
use Rattle.tinkey_readable.specs.Runs.{read_in}
use Rattle.tinkey_words.specs.declared.words.rows.Format.{Format}
use Rattle.tinkey_words.specs.declared.words.rows.Format.TheVariants as formats
use Rattle.wrapped_prims.specs.Fitness.{Unfit, unfit}

-- ---- the keyset of a handle

text_streams : (form : Format) (text : List ℕ) (keys : Keys) (made : StreamKeyset) → read_in form text ≡ Some keys → AreStreamsIn form text made → AreServing made × (made.keyset ≡ keys)
text_streams formats.Json text keys made read is = (is.serving, same_Some _ _ (ap result_ok (sym is.keyset) ∙ read))
text_streams formats.Binary text keys made read is = (is.serving, same_Some _ _ (ap result_ok (sym is.keyset) ∙ read))

handle_streams : (keys : Keys) (made : StreamKeyset) → IsStreamHandle keys made → AreServing made × (made.keyset ≡ keys)
handle_streams keys made (streams_of_text written read is) = text_streams written.form written.bytes keys made read is
handle_streams keys made (streams_of_wrapped master text over read gives is) =
    (is.serving, fit_keys (unfit over Aead standard_table) keys made.keyset (sym (inside_is master text over keys read gives) ∙ is.keyset))

handle_keys : (keys : Keys) (made : StreamKeyset) → IsStreamHandle keys made → made.keys.keys ≡ stream_keys keys
handle_keys keys made handle =
    let h = handle_streams keys made handle in
    h.0.of'.0 ∙ ap stream_keys h.1

handle_primary : (keys : Keys) (made : StreamKeyset) → IsStreamHandle keys made → primary_key keys ≡ Some made.keys.primary
handle_primary keys made handle =
    let h = handle_streams keys made handle in
    ap primary_key (sym h.1) ∙ h.0.of'.1

-- ---- sealing in pieces

abbrev SealsSo : SegmentCipher → (header : List ℕ) → StreamSealing → (taken given : List ℕ) → Type 0
SealsSo cipher header sealing taken given = SealsOn sealing cipher header taken given

abbrev IsSealedSo : SegmentCipher → (header taken : List ℕ) → StreamSealing → (given : List ℕ) → Type 0
IsSealedSo cipher header taken sealing given = IsSealedWhole sealing cipher header taken given

seals_one : (cipher : SegmentCipher) (header taken given : List ℕ) (sealing next : StreamSealing) (takes old new : List ℕ) (result : Result ℕ StepFault) → SealsSo cipher header sealing taken given → SealAnswers sealing next takes old new result → GoesOn result
    → SealsSo cipher header next (taken ++ takes) (given ++ given_by new result)
seals_one cipher header taken given sealing next takes old new (Ok size) on answers goes = answers.3 cipher header taken given on
seals_one cipher header taken given sealing next takes old new (Err steps.NoRoom) on answers goes = answers.2 cipher header taken given on
seals_one cipher header taken given sealing next takes old new (Err steps.FewRandomBytes) on answers goes = absurd goes
seals_one cipher header taken given sealing next takes old new (Err steps.Refused) on answers goes = absurd goes
seals_one cipher header taken given sealing next takes old new (Err steps.TooManySegments) on answers goes = absurd goes
seals_one cipher header taken given sealing next takes old new (Err steps.Ended) on answers goes = absurd goes
seals_one cipher header taken given sealing next takes old new (Err steps.NoMemory) on answers goes = absurd goes

seals_on : (cipher : SegmentCipher) (header taken given : List ℕ) (pieces : List Piece) (sealing last : StreamSealing) → SealsSo cipher header sealing taken given → WereSealed sealing pieces last
    → SealsSo cipher header last (taken ++ taken_in pieces) (given ++ given_in pieces)
seals_on cipher header taken given [] sealing last on same =
    subst (λ l. SealsSo cipher header last l (given ++ [])) (sym (append-nil taken))
    (subst (λ l. SealsSo cipher header last taken l) (sym (append-nil given)) (subst (λ s. SealsSo cipher header s taken given) same on))
seals_on cipher header taken given (piece ∷ later) sealing last on (next, answers, goes, were) =
    let one = seals_one cipher header taken given sealing next piece.takes piece.old piece.new piece.result on answers goes in
    let all = seals_on cipher header (taken ++ piece.takes) (given ++ given_by piece.new piece.result) later next last one were in
    subst (λ l. SealsSo cipher header last l (given ++ given_in (piece ∷ later))) (append_assoc taken piece.takes (taken_in later))
    (subst (λ l. SealsSo cipher header last (taken ++ piece.takes ++ taken_in later) l) (append_assoc given (given_by piece.new piece.result) (given_in later)) all)

seals_out : (cipher : SegmentCipher) (header taken given : List ℕ) (rooms : List Room) (sealing last : StreamSealing) → SealsSo cipher header sealing taken given ⊎ IsSealedSo cipher header taken sealing given → WereSealedOut sealing rooms last
    → SealsSo cipher header last taken given ⊎ IsSealedSo cipher header taken last given
seals_out cipher header taken given [] sealing last on same = subst (λ s. SealsSo cipher header s taken given ⊎ IsSealedSo cipher header taken s given) same on
seals_out cipher header taken given (room ∷ later) sealing last on (next, ends, were) =
    seals_out cipher header taken given later next last (inr (subst (IsSealedSo cipher header taken next) (append-nil given) (ends.2 cipher header taken given on))) were

-- a stream that calls sealed opens under the key of the handle
calls_made : StreamBack → (ad plain stream : List ℕ) (r : Record) → WasSealedByCalls ad plain stream r → MadeStream r ad stream plain
calls_made back ad plain stream r was =
    let key = was.made.keys.primary in
    let cipher = cipher_of ad key in
    let random = take (key.derived + 7) was.random in
    let header = header_of cipher random in
    let on = seals_on cipher header [] [] was.pieces was.begun was.taken was.begins was.were in
    let out = seals_out cipher header (taken_in was.pieces) (given_in was.pieces) was.rooms was.taken was.last (inl on) was.lacked in
    let whole = was.ends.3 cipher header (taken_in was.pieces) (given_in was.pieces) out in
    let under' = was.begins.has.under in
    let length_is : length random + 1 ≡ cipher.header = let w = under'.whole in omega (arith, w) in
    let few : seal_decides cipher random plain ≡ None = ap (λ (l : List ℕ). seal_decides cipher random l) (sym was.takes) ∙ whole.few in
    let given : given_in was.pieces ++ take was.size was.new ≡ sealed cipher random (taken_in was.pieces) true =
    sym (append-nil (given_in was.pieces ++ take was.size was.new)) ∙ ap (λ (l : List ℕ). given_in was.pieces ++ take was.size was.new ++ l) (sym was.ends.2) ∙ whole.all in
    let is : sealed cipher random plain true ≡ stream = ap (λ (l : List ℕ). sealed cipher random l true) (sym was.takes) ∙ sym given ∙ was.gave in
    record {
      key = key;
      gives = primary_gives was.keys r key was.primary (handle_primary was.keys was.made was.handle);
      alone = ap (stream_answer (cipher ∷ [])) (sym is) ∙ back cipher random plain under'.is length_is few;
    }

-- ---- opening in pieces

abbrev OpensSo : List SegmentCipher → StreamOpening → (taken given : List ℕ) → Type 0
OpensSo ciphers opening taken given = OpensOn opening ciphers taken given

abbrev IsOpenedSo : List SegmentCipher → (taken : List ℕ) → StreamOpening → (given : List ℕ) → Type 0
IsOpenedSo ciphers taken opening given = IsOpenedWhole opening ciphers taken given

opens_one : (ciphers : List SegmentCipher) (taken given : List ℕ) (opening next : StreamOpening) (takes old new : List ℕ) (result : Result ℕ StepFault) → OpensSo ciphers opening taken given → OpenAnswers opening next takes old new result → GoesOn result
    → OpensSo ciphers next (taken ++ takes) (given ++ given_by new result)
opens_one ciphers taken given opening next takes old new (Ok size) on answers goes = answers.3 ciphers taken given on
opens_one ciphers taken given opening next takes old new (Err steps.NoRoom) on answers goes = answers.2 ciphers taken given on
opens_one ciphers taken given opening next takes old new (Err steps.FewRandomBytes) on answers goes = absurd goes
opens_one ciphers taken given opening next takes old new (Err steps.Refused) on answers goes = absurd goes
opens_one ciphers taken given opening next takes old new (Err steps.TooManySegments) on answers goes = absurd goes
opens_one ciphers taken given opening next takes old new (Err steps.Ended) on answers goes = absurd goes
opens_one ciphers taken given opening next takes old new (Err steps.NoMemory) on answers goes = absurd goes

opens_on : (ciphers : List SegmentCipher) (taken given : List ℕ) (pieces : List Piece) (opening last : StreamOpening) → OpensSo ciphers opening taken given → WereOpened opening pieces last
    → OpensSo ciphers last (taken ++ taken_in pieces) (given ++ given_in pieces)
opens_on ciphers taken given [] opening last on same =
    subst (λ l. OpensSo ciphers last l (given ++ [])) (sym (append-nil taken))
    (subst (λ l. OpensSo ciphers last taken l) (sym (append-nil given)) (subst (λ o. OpensSo ciphers o taken given) same on))
opens_on ciphers taken given (piece ∷ later) opening last on (next, answers, goes, were) =
    let one = opens_one ciphers taken given opening next piece.takes piece.old piece.new piece.result on answers goes in
    let all = opens_on ciphers (taken ++ piece.takes) (given ++ given_by piece.new piece.result) later next last one were in
    subst (λ l. OpensSo ciphers last l (given ++ given_in (piece ∷ later))) (append_assoc taken piece.takes (taken_in later))
    (subst (λ l. OpensSo ciphers last (taken ++ piece.takes ++ taken_in later) l) (append_assoc given (given_by piece.new piece.result) (given_in later)) all)

opens_out : (ciphers : List SegmentCipher) (taken given : List ℕ) (rooms : List Room) (opening last : StreamOpening) → OpensSo ciphers opening taken given ⊎ IsOpenedSo ciphers taken opening given → WereOpenedOut opening rooms last
    → OpensSo ciphers last taken given ⊎ IsOpenedSo ciphers taken last given
opens_out ciphers taken given [] opening last on same = subst (λ o. OpensSo ciphers o taken given ⊎ IsOpenedSo ciphers taken o given) same on
opens_out ciphers taken given (room ∷ later) opening last on (next, ends, were) =
    opens_out ciphers taken given later next last (inr (subst (IsOpenedSo ciphers taken next) (append-nil given) (ends.2 ciphers taken given on))) were

-- ---- what calls say of a stream that opens

-- a stream that opens to its end isn't refused before it
stays_open : DecidedStays → (ciphers : List SegmentCipher) (taken takes rest given stream : List ℕ) (opening : StreamOpening) (refusal : StreamRefusal) (P : Type 0) → OpensSo ciphers opening taken given → taken ++ takes ++ rest ≡ stream → decides ciphers stream true ≡ None
    → decides ciphers (taken ++ takes) false ≡ Some refusal → P
stays_open stays ciphers taken takes rest given stream opening refusal P on whole none is =
    clash (sym none ∙ ap (λ (l : List ℕ). decides ciphers l true) (sym whole) ∙ (stays ciphers (taken ++ takes) rest true refusal on.has.are is).0)

piece_says : DecidedStays → (ciphers : List SegmentCipher) (taken takes rest given stream : List ℕ) (last later : StreamOpening) (old new : List ℕ) (result : Result ℕ StepFault) → OpensSo ciphers last taken given → OpenAnswers last later takes old new result
    → taken ++ takes ++ rest ≡ stream → decides ciphers stream true ≡ None → IsUnrefused result
piece_says stays ciphers taken takes rest given stream last later old new (Ok size) on answers whole none = tt
piece_says stays ciphers taken takes rest given stream last later old new (Err steps.NoRoom) on answers whole none = tt
piece_says stays ciphers taken takes rest given stream last later old new (Err steps.NoMemory) on answers whole none = tt
piece_says stays ciphers taken takes rest given stream last later old new (Err steps.FewRandomBytes) on answers whole none = absurd answers
piece_says stays ciphers taken takes rest given stream last later old new (Err steps.Refused) on answers whole none =
    let n = answers.1 ciphers taken given on in
    stays_open stays ciphers taken takes rest given stream last n.0 _ on whole none n.1
piece_says stays ciphers taken takes rest given stream last later old new (Err steps.TooManySegments) on answers whole none =
    let n = answers.1 ciphers taken given on in
    stays_open stays ciphers taken takes rest given stream last n.0 _ on whole none n.1
piece_says stays ciphers taken takes rest given stream last later old new (Err steps.Ended) on answers whole none = clash (sym answers ∙ on.open')

-- where an opening failed it had begun
failed_open : (P : Type 0) (opening : StreamOpening) → IsSome opening.stream → opening.stream ≡ None → P
failed_open P opening some none = no_truth (subst IsSome none some)

none_refused : (ciphers : List SegmentCipher) (stream plain : List ℕ) (refusal : StreamRefusal) (P : Type 0) → stream_answer ciphers stream ≡ (plain, None) → decides ciphers (stream ++ []) true ≡ Some refusal → P
none_refused ciphers stream plain refusal P opens is =
    let none : decides ciphers stream true ≡ None = ap (λ (x : List ℕ × Option StreamRefusal). x.1) opens in
    clash (sym none ∙ ap (λ (l : List ℕ). decides ciphers l true) (sym (append-nil stream)) ∙ is)

open_says : (ciphers : List SegmentCipher) (given stream plain : List ℕ) (before later : StreamOpening) (old new : List ℕ) (result : Result ℕ StepFault) → stream_answer ciphers stream ≡ (plain, None) → OpensSo ciphers before stream given ⊎ IsOpenedSo ciphers stream before given
    → OpenEnds before later old new result → SaysAtEnd given plain old new result
open_says ciphers given stream plain before later old new (Ok size) opens on ends =
    let whole = (ends.3 ciphers stream given on).all in
    let out : given ++ take size new ++ later.kept.bytes.items ≡ plain = ap (λ (x : List ℕ × Option StreamRefusal). x.0) (sym whole ∙ opens) in
    sym (append-nil (given ++ take size new)) ∙ ap (λ (l : List ℕ). given ++ take size new ++ l) (sym ends.2) ∙ out
open_says ciphers given stream plain before later old new (Err steps.NoRoom) opens on ends =
    let whole = (ends.2 ciphers stream given on).all in
    let kept = later.kept.bytes.items in
    let out : given ++ [] ++ kept ≡ plain = ap (λ (x : List ℕ × Option StreamRefusal). x.0) (sym whole ∙ opens) in
    let sizes : length plain ≡ length given + length kept = ap length (sym out) ∙ length-append (given ++ []) kept ∙ ap (λ (l : List ℕ). length l + length kept) (append-nil given) in
    let less : length old < length kept = ends.1 in
    omega (arith, sizes, less)
open_says ciphers given stream plain before later old new (Err steps.NoMemory) opens on ends = tt
open_says ciphers given stream plain before later old new (Err steps.FewRandomBytes) opens on ends = absurd ends
open_says ciphers given stream plain before later old new (Err steps.Refused) opens (inl on) ends =
    let n = ends.1 ciphers stream given on in
    none_refused ciphers stream plain n.0 _ opens n.1
open_says ciphers given stream plain before later old new (Err steps.Refused) opens (inr is) ends = failed_open _ before ends.0.0 is.closed
open_says ciphers given stream plain before later old new (Err steps.TooManySegments) opens (inl on) ends =
    let n = ends.1 ciphers stream given on in
    none_refused ciphers stream plain n.0 _ opens n.1
open_says ciphers given stream plain before later old new (Err steps.TooManySegments) opens (inr is) ends = failed_open _ before ends.0.0 is.closed
open_says ciphers given stream plain before later old new (Err steps.Ended) opens (inl on) ends = clash (sym ends.0 ∙ on.open')
open_says ciphers given stream plain before later old new (Err steps.Ended) opens (inr is) ends = absurd (let e : true ≡ false = sym is.ended ∙ ends.1 in cc)

-- a stream that opens under a handle's keys is opened by its calls
opened_by_calls : DecidedStays → ReleasedPrefix → (ad stream plain : List ℕ) (made : StreamKeyset) → stream_answer (ciphers_of ad made.keys.keys) stream ≡ (plain, None) → IsOpenedByCalls ad made stream plain
opened_by_calls stays prefix ad stream plain made opens = record {
  unrefused = λ pieces last later piece rest taken answers whole.
      piece_says stays ciphers (taken_in pieces) piece.takes rest (given_in pieces) stream last later piece.old piece.new piece.result (on pieces last taken) answers whole none;
  front = λ pieces last rest taken whole.
      let o = (on pieces last taken).has in
      let kept = last.kept.bytes.items in
      let more = prefix ciphers (taken_in pieces) rest true o.are in
      let out : released ciphers stream true ≡ plain = ap (λ (x : List ℕ × Option StreamRefusal). x.0) opens in (
        kept ++ more.0,
        sym (append_assoc (given_in pieces) kept more.0) ∙ ap (λ (l : List ℕ). l ++ more.0) (sym o.output) ∙ more.1 ∙ ap (λ (l : List ℕ). released ciphers l true) whole ∙ out,
      );
  ends = λ pieces rooms last before later old new result taken whole lacked ends.
      let o = subst (λ (l : List ℕ). OpensSo ciphers last l (given_in pieces)) whole (on pieces last taken) in
      open_says ciphers (given_in pieces) stream plain before later old new result opens (opens_out ciphers stream (given_in pieces) rooms last before (inl o) lacked) ends;
}
  where
    ciphers : List SegmentCipher
    ciphers = ciphers_of ad made.keys.keys

    none : decides ciphers stream true ≡ None
    none = ap (λ (x : List ℕ × Option StreamRefusal). x.1) opens

    on : (pieces : List Piece) (last : StreamOpening) → HasTaken ad made pieces last → OpensSo ciphers last (taken_in pieces) (given_in pieces)
    on pieces last taken = opens_on ciphers [] [] pieces taken.begun last taken.begins taken.were

-- ---- the whole

first_made : StreamBack → (ad plain stream : List ℕ) (r : Record) → WasStreamSealed ad plain stream r → MadeStream r ad stream plain
first_made back ad plain stream r (sealed_by_run before old told lies primary was same) =
    subst (MadeStream r ad stream) same (stream_maker back before old r ad stream told lies primary was)
first_made back ad plain stream r (sealed_by_calls was) = calls_made back ad plain stream r was

pub library_streams_open : StreamBack → ResealedBack → RangeIsSlice → DecidedStays → ReleasedPrefix → ReadKeysFit → LibraryStreamsOpen
library_streams_open back again slice stays prefix fit ad plain stream r was =
    let m = stream_all again ad plain was.between was.first (record { under' = r; bytes = stream }) (first_made back ad plain was.first.bytes was.first.under' was.sealed) was.are in
    record {
      by_run = λ other keys serves has only. opens_made fit other keys r ad stream plain m serves has only;
      by_range = λ other keys serves has only. ranges_made slice fit other keys r ad stream plain m serves has only;
      by_calls = λ keys made handle has only.
          let opens = (opens_under keys r m.key ad stream plain has m.gives only m.alone).answer in
          opened_by_calls stays prefix ad stream plain made (ap (λ k. stream_answer (ciphers_of ad k) stream) (handle_keys keys made handle) ∙ opens);
    }

-- ---- of which keysets there are handles

-- a keyset that was read isn't unfit where it gives keys for streams
not_streamless : {X P : Type 0} (read : Result Keys X) (keys : Keys) → read ≡ Ok keys → stream_unfit keys ≡ None → ReadNoStreams read → P
not_streamless read keys is fit why =
    let same = ok_same read keys why.keys is why.keyset in
    no_truth (subst IsSome fit (subst (λ k. IsSome (stream_unfit k)) (sym same) why.unfit))

read_streams : {X : Type 0} (size : ℕ) (read : Result Keys X) (keys : Keys) (refusal : Refusal) → read ≡ Ok keys → stream_unfit keys ≡ None → size ≤ keyset_limit → IsNoStreams size read refusal → refusal ≡ refusals.NoMemory
read_streams size read keys refusals.NoMaster is fit within why = absurd why
read_streams size read keys refusals.UnfitMaster is fit within why = absurd why
read_streams size read keys refusals.NoWrapped is fit within why = absurd why
read_streams size read keys refusals.NoKeyset is fit within why = not_failed read keys is why
read_streams size read keys refusals.UnfitKey is fit within why = not_streamless read keys is fit why
read_streams size read keys refusals.OtherPrimitive is fit within why = absurd why
read_streams size read keys refusals.TooLong is fit within why = absurd (omega (arith, within, why))
read_streams size read keys refusals.FewRandomBytes is fit within why = absurd why
read_streams size read keys refusals.Refused is fit within why = absurd why
read_streams size read keys refusals.NoRoom is fit within why = absurd why
read_streams size read keys refusals.NoMemory is fit within why = refl

clear_streams : (form : Format) (bytes : List ℕ) (keys : Keys) (refusal : Refusal) → read_in form bytes ≡ Some keys → length bytes ≤ keyset_limit → stream_unfit keys ≡ None → AreNoStreamsIn form bytes refusal → refusal ≡ refusals.NoMemory
clear_streams formats.Json bytes keys refusal read within fit why = read_streams (length bytes) (reads_json bytes) keys refusal (ok_read (reads_json bytes) keys read) fit within why
clear_streams formats.Binary bytes keys refusal read within fit why = read_streams (length bytes) (reads_binary bytes) keys refusal (ok_read (reads_binary bytes) keys read) fit within why

pub stream_handles_are_made : StreamHandlesAreMade
stream_handles_are_made written keys refusal serves why = by serves.taken.master serves.taken.opens serves.taken.gives serves.taken.within
  where
    by : (master : Option Keys) → ServesAsMaster None master → GivesKeyset standard_table master written.form written.bytes keys → length written.bytes ≤ limit_under master → refusal ≡ refusals.NoMemory
    by None opens gives within = clear_streams written.form written.bytes keys refusal gives within serves.fit why
    by (Some over) opens gives within = absurd opens

inside_streams : (size master_size : ℕ) (read : Result Keys Lack) (keys : Keys) (refusal : Refusal) → read ≡ Ok keys → stream_unfit keys ≡ None → size ≤ wrapped_limit → master_size ≤ keyset_limit → IsNoStreamsInside size master_size read refusal → refusal ≡ refusals.NoMemory
inside_streams size master_size read keys refusals.NoMaster is fit within master_within why = absurd (cc)
inside_streams size master_size read keys refusals.UnfitMaster is fit within master_within why = absurd (cc)
inside_streams size master_size read keys refusals.NoWrapped is fit within master_within why = absurd (subst (λ (r : Result Keys Lack). IsNoWrapped r) is why)
inside_streams size master_size read keys refusals.NoKeyset is fit within master_within why = absurd (subst (λ (r : Result Keys Lack). IsNoneInside r) is why)
inside_streams size master_size read keys refusals.UnfitKey is fit within master_within why = not_streamless read keys is fit why
inside_streams size master_size read keys refusals.OtherPrimitive is fit within master_within why = absurd why
inside_streams size master_size read keys refusals.TooLong is fit within master_within why = elim why [
  | inl long ↦ absurd (omega (arith, within, long))
  | inr long ↦ absurd (omega (arith, master_within, long))
]
inside_streams size master_size read keys refusals.FewRandomBytes is fit within master_within why = absurd why
inside_streams size master_size read keys refusals.Refused is fit within master_within why = absurd (cc)
inside_streams size master_size read keys refusals.NoRoom is fit within master_within why = absurd why
inside_streams size master_size read keys refusals.NoMemory is fit within master_within why = refl

pub wrapped_stream_handles_are_made : WrappedStreamHandlesAreMade
wrapped_stream_handles_are_made master text keys refusal serves why = by serves.taken.master serves.taken.opens serves.taken.gives serves.taken.within
  where
    by : (found : Option Keys) → ServesAsMaster (Some master) found → GivesKeyset standard_table found text.form text.bytes keys → length text.bytes ≤ limit_under found → refusal ≡ refusals.NoMemory
    by None opens gives within = absurd opens
    by (Some over) opens gives within =
        let is = inside_is master text over keys opens.read gives ∙ ap (λ (u : Option (ℕ × Unfit)). of_fit u (Ok keys)) opens.fit in
        inside_streams (length text.bytes) (length master.bytes) (inside_of master text) keys refusal is serves.fit within opens.within why

pub stream_handles_serve : StreamHandlesServe
stream_handles_serve keys made handle =
    let h = handle_streams keys made handle in
    ap stream_unfit (sym h.1) ∙ h.0.fit
