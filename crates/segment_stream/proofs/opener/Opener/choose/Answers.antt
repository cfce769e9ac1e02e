use Rattle.std.proofs.Common.{◌≡◌, ◌+◌, List, ℕ, ap, arith, length, subst, sym, take, ◌∙◌}
use Rattle.std.proofs.lemmas.List.{length-take-le}
use Rattle.segment_stream.specs.Choosing.{place_of}
use Rattle.segment_stream.specs.Cipher.{SegmentCipher}
use Rattle.segment_stream.specs.PumpModels.{OpenerState}
use Rattle.segment_stream.specs.Reading.{GaveBelow}
use Rattle.segment_stream.specs.Segments.{ciphers_of}
use Rattle.segment_stream.specs.declared.key.StreamKey.{StreamKey}
use Rattle.segment_stream.proofs.opener.Opener.choose.Goals as goal

pub returns-in-Ok-clause-chooses : goal.returns-in-Ok-clause-chooses
returns-in-Ok-clause-chooses g c =
    let len = c.in-Ok.len in
    let after = c.fill_until.new.buffer.bytes.items in
    let read = c.in-Ok.ensures.reads in
    let size : length (take len after) ≡ len = length-take-le len after (omega (arith, c.in-Ok.ensures.holds)) in
    let long : length read.piece ≡ len = ap length (sym read.is) ∙ size in
    let room = c.self.invariant in
    let keys : ciphers_of c.self.inside.ad.now c.keys.result.now ≡ ciphers_of c.args.self.ad c.args.self.keys.keys
    = ap (λ (l : List StreamKey). ciphers_of c.self.inside.ad.now l) c.keys.ensures.keys
    ∙ ap (λ (o : OpenerState). ciphers_of o.ad o.keys.keys) c.self.view_is in
    record {
      front = read.piece;
      gave = read.gave;
      within = omega (arith, long, c.in-Ok.ensures.bound, c.largest.ensures.size, room, ap (λ (o : OpenerState). o.room) c.self.view_is);
      end = λ few. c.in-Ok.ensures.end (omega (arith, few, long, c.largest.ensures.size, room, ap (λ (o : OpenerState). o.room) c.self.view_is));
      is = c.place_of.ensures
          ∙ ap (λ (l : List ℕ). place_of (ciphers_of c.self.inside.ad.now c.keys.result.now) (take len l)) c.as_mut_slice-bytes.ensures.value
          ∙ ap (λ (l : List ℕ). place_of (ciphers_of c.self.inside.ad.now c.keys.result.now) l) read.is
          ∙ ap (λ (k : List SegmentCipher). place_of k read.piece) keys;
    }

pub returns-clause-fewer : goal.returns-clause-fewer
returns-clause-fewer g c =
    let room : c.largest.result + 1 ≡ c.args.self.room = omega (arith, c.largest.ensures.size, c.self.invariant, ap (λ (o : OpenerState). o.room) c.self.view_is) in
    subst (λ (n : ℕ). GaveBelow (g.S.Source.state c.args.source.now) (g.S.Source.state c.fill_until.new.source) 0 n) room c.in-Err.ensures.gave
