use Rattle.std.proofs.Common.{◌≡◌, ◌+◌, ◌∙◌, List, ℕ, Some, ap, arith, drop, length, refl, sym, take, true, false}
use Rattle.std.proofs.lemmas.List.{length-map}
use Rattle.segment_stream.specs.Opening.{fits}
use Rattle.segment_stream.specs.Segments.{IsSound, cipher_of, ciphers_of}
use Rattle.segment_stream.proofs.Chosen.{place_ends, place_passes, place_stops}
use Rattle.segment_stream.proofs.First.{all_at, drop_cipher}
use Rattle.segment_stream.proofs.choosing.place_of.Goals as goal

pub fits-requires-clause-sound : goal.fits-requires-clause-sound
fits-requires-clause-sound c =
    all_at IsSound c.args.keys.now c.loop-key.key-index c.key-item.result c.requires.sound c.loop-key-test.true c.key-item.is

pub returns-then-fits : goal.returns-then-fits
returns-then-fits c =
    let cs = ciphers_of c.args.ad.now c.args.keys.now in
    let key = cipher_of c.args.ad.now c.key-item.result in
    let taken = take c.args.len c.args.buffer.now in
    let here = drop_cipher (cipher_of c.args.ad.now) c.args.keys.now c.loop-key.key-index c.key-item.result c.loop-key-test.true c.key-item.is in
    let fit : fits key taken ≡ true = ap (λ (l : List ℕ). fits key (take c.args.len l)) (sym c.loop-key.invariant.kept) ∙ sym c.fits.ensures.fits ∙ c.if-fits.true in
    ap Some c.loop-key.invariant.place
    ∙ sym (c.loop-key.invariant.passed ∙ place_stops (λ k. fits k taken) c.loop-key.key-index key (drop (c.loop-key.key-index + 1) cs) _ here fit)

pub loop-key-preserved : goal.loop-key-preserved
loop-key-preserved c =
    let cs = ciphers_of c.args.ad.now c.args.keys.now in
    let key = cipher_of c.args.ad.now c.key-item.result in
    let taken = take c.args.len c.args.buffer.now in
    let here = drop_cipher (cipher_of c.args.ad.now) c.args.keys.now c.loop-key.key-index c.key-item.result c.loop-key-test.true c.key-item.is in
    let other : fits key taken ≡ false = ap (λ (l : List ℕ). fits key (take c.args.len l)) (sym c.loop-key.invariant.kept) ∙ sym c.fits.ensures.fits ∙ c.if-fits.false in
    record {
      place = ap (λ n. n + 1) c.loop-key.invariant.place;
      kept = c.fits.ensures.kept c.if-fits.false ∙ c.loop-key.invariant.kept;
      passed = c.loop-key.invariant.passed ∙ place_passes (λ k. fits k taken) c.loop-key.key-index key (drop (c.loop-key.key-index + 1) cs) _ here other;
    }

pub returns : goal.returns
returns c =
    let cs = ciphers_of c.args.ad.now c.args.keys.now in
    sym (c.loop-key.invariant.passed
    ∙ place_ends (λ k. fits k (take c.args.len c.args.buffer.now)) c.loop-key.key-index cs (omega (arith, length-map c.args.keys.now (cipher_of c.args.ad.now), c.loop-key-test.false)))
