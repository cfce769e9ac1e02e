use Rattle.std.proofs.Common.{◌≡◌, ℕ, List, ◌+◌, ◌*◌, ◌/◌, ◌-◌, ◌++◌, ◌&&◌, length, take, drop, true, false, ap, refl, sym, ◌∙◌, arith}
use Rattle.std.specs.Simd.Lanes.{all_below, chunk}
use Rattle.std.proofs.lemmas.Bool.{OnTrue_at, OnTrue_from}
use Rattle.std.proofs.Math.Seq.{take-add}
use Rattle.std.proofs.lemmas.List.{length-map, length-take-le, take-append-drop, take_rest}
use Rattle.std.proofs.lemmas.Simd.{chunk-drop, length-chunk, take_more_put_chunk}
use Rattle.hex_lanes.specs.Digits.{all_digits, joined, value, values}
use Rattle.hex_lanes.proofs.DigitLemmas.{all_digits-append, all_digits-part, joined_values-append, length-joined, put_end}
use Rattle.hex_lanes.proofs.decoding.decode_into.Goals as goal

-- a text, cut round a block
cut : (s : List ℕ) (m : ℕ) → s ≡ take m s ++ (chunk m 32 s ++ drop (m + 32) s)
cut s m = sym (take-append-drop m s) ∙ ap (λ l. take m s ++ l) (chunk-drop m 32 s)

-- a block more
one_more : (s : List ℕ) (i : ℕ) → take (32 * (i + 1)) s ≡ take (32 * i) s ++ chunk (32 * i) 32 s
one_more s i =
    let more : 32 * (i + 1) ≡ 32 * i + 32 = omega arith in
    ap (λ n. take n s) more ∙ take-add (32 * i) 32 s

pub loop-i-init : goal.loop-i-init
unfolding joined
loop-i-init c = record { long = refl; digits = refl; decoded = refl }

pub returns-then-not-are_digits-clause-digits : goal.returns-then-not-are_digits-clause-digits
returns-then-not-are_digits-clause-digits c =
    let text = c.args.text.now in
    let m = 32 * c.loop-i.i in
    let bad : all_digits (chunk m 32 text) ≡ false =
    ap (all_below 16) (sym c.values-block.ensures) ∙ sym c.if-not-are_digits.ensures in
    sym (ap all_digits (cut text m) ∙ all_digits-part (take m text) (chunk m 32 text) _ bad)

pub loop-i-preserved : goal.loop-i-preserved
loop-i-preserved c =
    let text = c.args.text.now in
    let i = c.loop-i.i in
    let front = take (32 * i) text in
    let block = chunk (32 * i) 32 text in
    let long : length block ≡ 32 = length-chunk (32 * i) 32 text (omega arith) in
    let even : length front ≡ 32 * i = length-take-le (32 * i) text (omega arith) in
    let good : all_digits block ≡ true =
    ap (all_below 16) (sym c.values-block.ensures) ∙ sym c.if-not-are_digits.ensures in
    let bytes : c.joined.result ≡ joined (values block) =
    OnTrue_at (sym c.if-not-are_digits.ensures) c.joined.ensures ∙ ap joined c.values-block.ensures in
    let size : length c.joined.result ≡ 16 =
    ap length bytes ∙ length-joined (values block) 16 (omega (arith, long, length-map block value)) in
    record {
      long = omega arith;
      digits =
          ap all_digits (one_more text i) ∙ all_digits-append front block
          ∙ rw (c.loop-i.invariant.digits, good) refl;
      decoded =
          ap (take (16 * (i + 1))) c.store.ensures
          ∙ take_more_put_chunk (16 * i) c.loop-i.bytes c.joined.result (16 * (i + 1)) (omega (arith, size)) (omega arith)
          ∙ rw (c.loop-i.invariant.decoded, bytes) (sym (joined_values-append front block (omega (arith, even))))
          ∙ ap (λ (t : List ℕ). joined (values t)) (sym (one_more text i));
    }

pub returns-clause-digits : goal.returns-clause-digits
returns-clause-digits c =
    let text = c.args.text.now in
    let m = 32 * (length c.args.bytes.now / 16) in
    let all : 32 * c.loop-i.i ≡ m = omega arith in
    let front : all_digits (take m text) ≡ true = ap (λ n. all_digits (take n text)) (sym all) ∙ c.loop-i.invariant.digits in
    c.decode_tail.ensures.digits ∙ ap all_digits (take_rest text m)
    ∙ ap (λ b. b && all_digits (drop m text)) (sym front)
    ∙ sym (all_digits-append (take m text) (drop m text)) ∙ ap all_digits (take-append-drop m text)

pub returns-clause-decoded : goal.returns-clause-decoded
returns-clause-decoded c = OnTrue_from _ _ (λ h.
    let text = c.args.text.now in
    let n = 16 * (length c.args.bytes.now / 16) in
    let m = 32 * (length c.args.bytes.now / 16) in
    let whole : c.loop-i.i ≡ length c.args.bytes.now / 16 = omega arith in
    let front : take n c.loop-i.bytes ≡ joined (values (take m text)) = rw whole at c.loop-i.invariant.decoded in
    let even : length (take m text) ≡ m = length-take-le m text (omega arith) in
    let tail = OnTrue_at h c.decode_tail.ensures.decoded ∙ ap (λ (t : List ℕ). joined (values t)) (take_rest text m) in
    put_end n (length c.loop-i.bytes - n) c.loop-i.bytes c.decode_tail.new.bytes (omega (arith, c.loop-i.invariant.long))
    ∙ ap (λ l. l ++ c.decode_tail.new.bytes) front ∙ ap (λ l. joined (values (take m text)) ++ l) tail
    ∙ sym (joined_values-append (take m text) (drop m text) (omega (arith, even)))
    ∙ ap (λ (t : List ℕ). joined (values t)) (take-append-drop m text))
