-- Streams that were resealed.
use Rattle.std.proofs.Common.{arith, ◌≡◌, ◌∙◌, sym, ap, subst, ℕ, ◌+◌, true, List, [], ◌∷◌, length, take, Option, None, Ok}
use Rattle.std.proofs.lemmas.List.{length-take-le}
use Rattle.std.proofs.lemmas.Option.{same_Some}
use Rattle.keyset_model.specs.Keyset.{Keys}
use Rattle.keyset_model.specs.Writing.{ReadKeysFit}
use Rattle.managers.specs.Standard.{standard_table}
use Rattle.segment_stream.proofs.CipherLemmas.{cipher_of-is_cipher}
use Rattle.segment_stream.specs.KeysModel.{KeysForStreams}
use Rattle.segment_stream.specs.Laws.{ResealedBack, StreamBack}
use Rattle.segment_stream.specs.Opening.{StreamRefusal, decides, released, stream_answer}
use Rattle.segment_stream.specs.Resealing.{resealed}
use Rattle.segment_stream.specs.Sealing.{header_of, seal_decides, sealed}
use Rattle.segment_stream.specs.Segments.{cipher_of, ciphers_of}
use Rattle.segment_stream.specs.StreamKeys.{primary_key, stream_key_of, stream_keys}
use Rattle.tinkey_plans.proofs.StreamSoundLemmas.{sound_key}
use Rattle.tinkey_plans.specs.Plan.{Answer, Told, answer}
use Rattle.tinkey_plans.specs.Streaming.{begins_file, reseals_stream}
use Rattle.tinkey_readable.proofs.AnywhereLemmas.{MadeStream, opens_made, stream_maker}
use Rattle.tinkey_readable.proofs.DoneStreamLemmas.{neither, reseal_part}
use Rattle.tinkey_readable.proofs.LyingLemmas.{same_lying}
use Rattle.tinkey_readable.proofs.PassLemmas.{IsPutAt, was_passed}
use Rattle.tinkey_readable.proofs.ReachLemmas.{IsDoneAnswer}
use Rattle.tinkey_readable.proofs.StreamKeyLemmas.{opens_under, primary_gives}
use Rattle.tinkey_readable.proofs.StreamRunLemmas.{keys_loaded, with_primary}
use Rattle.tinkey_readable.specs.Lying.{lock_in}
use Rattle.tinkey_readable.specs.Resealing.{SealedText}
use Rattle.tinkey_readable.specs.ResealedStreams.{AreStreamsResealed, IsStreamResealed, ResealedStreamsOpen}
use Rattle.tinkey_readable.specs.Runs.{bytes_at}

-- what was resealed, by the answer of the plan behind the keys
record ResealedStream (keys : KeysForStreams) (ad : List ℕ) (told : Told) (stream : List ℕ) : Type 0 where
  random : List ℕ
  whole : length random ≡ keys.primary.derived + 7
  few : seal_decides (cipher_of ad keys.primary) random (released (ciphers_of ad keys.keys) told.input true) ≡ None
  is : resealed (ciphers_of ad keys.keys) (cipher_of ad keys.primary) (header_of (cipher_of ad keys.primary) random) told.input true ≡ stream

resealed_by : (keys : KeysForStreams) (ad : List ℕ) (out : Option (List ℕ)) (told : Told) (stream : List ℕ) (a : Answer) → a ≡ answer (begins_file out (reseals_stream keys ad out)) told
    → IsDoneAnswer a → IsPutAt out a stream → ResealedStream keys ad told stream
resealed_by keys ad out told stream a is done put =
    let n = keys.primary.derived + 7 in
    let w = was_passed n (reseal_part keys ad) out told (ap (λ (a : Answer). a.status) (sym is) ∙ done) in
    record {
      random = take n told.random;
      whole = length-take-le n told.random w.enough;
      few = (neither _ (decides (ciphers_of ad keys.keys) told.input true) w.none).0;
      is = same_Some _ _ (sym w.put ∙ ap (λ (a : Answer). bytes_at out a.files a.output) (sym is) ∙ put);
    }

-- a stream that opens under a key to its plaintext is resealed to one that does under the next
stream_next : ResealedBack → (ad plain : List ℕ) (old new : SealedText) → MadeStream old.under' ad old.bytes plain → IsStreamResealed ad old new → MadeStream new.under' ad new.bytes plain
stream_next back ad plain old new m x =
    let out = x.was.out in
    let u = keys_loaded standard_table (lock_in x.lying.master x.was.lock) x.was.name x.lying.text.form (λ k. begins_file out (reseals_stream k ad out)) x.told x.was.done in
    let loaded = same_lying x.lying x.keys u.keys x.told x.was.lock x.was.name x.lies x.was.lies u.lies in
    let s = resealed_by (with_primary u.keys u.primary) ad out x.told new.bytes _ u.goes_on x.was.done x.was.gave in
    let gives : stream_key_of new.under' ≡ Ok u.primary = primary_gives x.keys new.under' u.primary x.primary (ap primary_key (sym loaded) ∙ u.there) in
    let cipher = cipher_of ad u.primary in
    let opens = (opens_under x.keys old.under' m.key ad old.bytes plain x.has m.gives x.only m.alone).answer in
    let all : stream_answer (ciphers_of ad (stream_keys u.keys)) x.told.input ≡ (plain, None)
    = ap (stream_answer (ciphers_of ad (stream_keys u.keys))) x.same ∙ ap (λ (k : Keys). stream_answer (ciphers_of ad (stream_keys k)) old.bytes) loaded ∙ opens in
    let out : released (ciphers_of ad (stream_keys u.keys)) x.told.input true ≡ plain = ap (λ (y : List ℕ × Option StreamRefusal). y.0) all in
    let few : seal_decides cipher s.random plain ≡ None = ap (λ (l : List ℕ). seal_decides cipher s.random l) (sym out) ∙ s.few in
    let b = back (ciphers_of ad (stream_keys u.keys)) cipher s.random x.told.input plain (cipher_of-is_cipher ad u.primary (sound_key new.under' u.primary gives)) (omega (arith, s.whole)) all few in
    let is : sealed cipher s.random plain true ≡ new.bytes = sym (ap (λ (y : List ℕ × Option StreamRefusal). y.0) b.0) ∙ s.is in
    record { key = u.primary; gives = gives; alone = ap (stream_answer (cipher ∷ [])) (sym is) ∙ b.1 }

pub stream_all : ResealedBack → (ad plain : List ℕ) (between : List SealedText) (first last : SealedText) → MadeStream first.under' ad first.bytes plain → AreStreamsResealed ad first between last → MadeStream last.under' ad last.bytes plain
unfolding AreStreamsResealed
stream_all back ad plain [] first last m are = subst (λ (t : SealedText). MadeStream t.under' ad t.bytes plain) are m
stream_all back ad plain (next ∷ later) first last m are = stream_all back ad plain later next last (stream_next back ad plain first next m are.0) are.1

pub resealed_streams_open : StreamBack → ResealedBack → ReadKeysFit → ResealedStreamsOpen
resealed_streams_open stream back fit before other old keys ad told first last between lies primary was are serves has only =
    let m = stream_all back ad told.input between first last (stream_maker stream before old first.under' ad first.bytes told lies primary was) are in
    opens_made fit other keys last.under' ad last.bytes told.input m serves has only
