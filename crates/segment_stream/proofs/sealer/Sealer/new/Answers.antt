use Rattle.std.proofs.Common.{◌≡◌, ◌+◌, ◌-◌, ◌∷◌, List, ℕ, take, ap, arith, subst, sym, ◌∙◌}
use Rattle.std.proofs.lemmas.List.{take_at}
use Rattle.tink_spec.specs.Outside.{RanShort}
use Rattle.segment_stream.specs.Segments.{cipher_of, header_size}
use Rattle.segment_stream.specs.Streams.{IsUnder}
use Rattle.segment_stream.specs.declared.key.StreamKey.{StreamKey}
use Rattle.segment_stream.proofs.sealer.Sealer.new.Goals as goal

pub returns-clause-made : goal.returns-clause-made
returns-clause-made g c =
    let drawn = c.in-Ok-draw_header.ensures.drawn in
    let size = c.header_size-header.result in
    let kept = sym c.as_slice.ensures.value in
    let front : take c.header_size-header.result c.as_slice.result.now ≡ c.header_size-header.result ∷ drawn.random
    = ap (take c.header_size-header.result) (c.as_slice.ensures.value
    ∙ take_at c.draw_header.new.buffer _ c.lengthen.new.buffer.bytes.len (c.draw_header.auto.buffer ∙ c.as_mut_slice.ensures.len))
    ∙ drawn.is in
    record {
      random = drawn.random;
      drew = drawn.drew;
      whole = omega (
        arith,
        drawn.whole,
        c.header_size-header.ensures,
        ap (λ (k : StreamKey). k.derived) c.primary-key.ensures.key,
      );
      header = ap (take c.header_size-header.result) kept ∙ front
          ∙ ap (λ n. n ∷ drawn.random)
          (c.header_size-header.ensures ∙ ap (λ (k : StreamKey). header_size k) c.primary-key.ensures.key);
      under = subst (λ (l : List ℕ). IsUnder c.new-stream.result (cipher_of c.args.ad.now c.args.keys.now.primary) (take c.header_size-header.result l)) (sym kept)
          (subst (λ (k : StreamKey). IsUnder c.new-stream.result (cipher_of c.args.ad.now k) (take c.header_size-header.result c.as_slice.result.now)) c.primary-key.ensures.key
          c.new-stream.ensures);
    }

pub returns-in-Err-clause-fault : goal.returns-in-Err-clause-fault
returns-in-Err-clause-fault g c =
    let size : c.header_size-header.result - 1 ≡ c.args.keys.now.primary.derived + 7
    = omega (arith, c.header_size-header.ensures, ap (λ (k : StreamKey). k.derived) c.primary-key.ensures.key) in
    subst (λ n. RanShort (g.E.Entropy.state c.args.entropy.now) (g.E.Entropy.state c.draw_header.new.entropy) n) size c.in-Err.ensures.failed
