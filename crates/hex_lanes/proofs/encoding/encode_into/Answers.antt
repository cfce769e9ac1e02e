use Rattle.std.proofs.Common.{◌≡◌, ℕ, List, ◌+◌, ◌*◌, ◌/◌, ◌-◌, ◌++◌, length, take, drop, ap, refl, sym, ◌∙◌, arith}
use Rattle.std.specs.Simd.Lanes.{chunk}
use Rattle.std.proofs.Math.Seq.{take-add}
use Rattle.std.proofs.lemmas.List.{take-append-drop, take_rest}
use Rattle.std.proofs.lemmas.Simd.{length-chunk, take_more_put_chunk}
use Rattle.hex.specs.Hex.{encode_lower, encode_with}
use Rattle.hex_lanes.proofs.DigitLemmas.{encode_lower-append, length-encode_lower, put_end}
use Rattle.hex_lanes.proofs.encoding.encode_into.Goals as goal

-- a block more
one_more : (s : List ℕ) (i : ℕ) → take (16 * (i + 1)) s ≡ take (16 * i) s ++ chunk (16 * i) 16 s
one_more s i =
    let more : 16 * (i + 1) ≡ 16 * i + 16 = omega arith in
    ap (λ n. take n s) more ∙ take-add (16 * i) 16 s

pub loop-i-init : goal.loop-i-init
unfolding encode_with
loop-i-init c = record { long = refl; encoded = refl }

pub loop-i-preserved : goal.loop-i-preserved
loop-i-preserved c =
    let bytes = c.args.bytes.now in
    let i = c.loop-i.i in
    let front = take (16 * i) bytes in
    let block = chunk (16 * i) 16 bytes in
    let size : length c.encoded.result ≡ 32 =
    ap length c.encoded.ensures ∙ length-encode_lower block ∙ ap (λ n. 2 * n) (length-chunk (16 * i) 16 bytes (omega arith)) in
    record {
      long = omega arith;
      encoded =
          ap (take (32 * (i + 1))) c.store.ensures
          ∙ take_more_put_chunk (32 * i) c.loop-i.digits c.encoded.result (32 * (i + 1)) (omega (arith, size)) (omega arith)
          ∙ ap (λ l. l ++ c.encoded.result) c.loop-i.invariant.encoded
          ∙ ap (λ l. encode_lower front ++ l) c.encoded.ensures
          ∙ sym (encode_lower-append front block) ∙ ap encode_lower (sym (one_more bytes i));
    }

pub returns : goal.returns
returns c =
    let bytes = c.args.bytes.now in
    let whole = length bytes / 16 in
    let all : c.loop-i.i ≡ whole = omega arith in
    let front : take (32 * whole) c.loop-i.digits ≡ encode_lower (take (16 * whole) bytes) = rw all at c.loop-i.invariant.encoded in
    put_end (32 * whole) (length c.loop-i.digits - 32 * whole) c.loop-i.digits c.encode_tail.new.digits (omega (arith, c.loop-i.invariant.long))
    ∙ ap (λ l. l ++ c.encode_tail.new.digits) front
    ∙ ap (λ l. encode_lower (take (16 * whole) bytes) ++ l) (c.encode_tail.ensures ∙ ap encode_lower (take_rest bytes (16 * whole)))
    ∙ sym (encode_lower-append (take (16 * whole) bytes) (drop (16 * whole) bytes))
    ∙ ap encode_lower (take-append-drop (16 * whole) bytes)
