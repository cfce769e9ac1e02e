use Rattle.std.proofs.Common.{◌≡◌, ℕ, List, ◌*◌, length, take, ap, sym, ◌∙◌, arith}
use Rattle.std.specs.Simd.Lanes.{all_below}
use Rattle.std.proofs.lemmas.Bool.{OnTrue_at}
use Rattle.std.proofs.lemmas.List.{take_at, length-map}
use Rattle.hex_lanes.specs.Digits.{all_digits, joined, value, values}
use Rattle.hex_lanes.proofs.DigitLemmas.{all_digits-filled, joined_values-append, length-joined}
use Rattle.hex_lanes.proofs.decoding.decode_tail.Goals as goal

pub returns-then-not-are_digits-clause-digits : goal.returns-then-not-are_digits-clause-digits
returns-then-not-are_digits-clause-digits c =
    c.if-not-are_digits.ensures ∙ ap (all_below 16) c.values-block.ensures
    ∙ all_digits-filled (length c.args.text.now) c.copy_from_slice.new.self
    ∙ ap all_digits c.copy_from_slice.ensures.after

pub returns-clause-digits : goal.returns-clause-digits
returns-clause-digits c =
    c.if-not-are_digits.ensures ∙ ap (all_below 16) c.values-block.ensures
    ∙ all_digits-filled (length c.args.text.now) c.copy_from_slice.new.self
    ∙ ap all_digits c.copy_from_slice.ensures.after

pub returns-clause-decoded : goal.returns-clause-decoded
returns-clause-decoded c =
    let n = length c.args.bytes.now in
    let text = c.copy_from_slice.new.self in
    let size : length text ≡ 2 * n = ap length c.copy_from_slice.ensures.after ∙ c.requires.size in
    let block = OnTrue_at (sym c.if-not-are_digits.ensures) c.joined.ensures
    ∙ ap joined c.values-block.ensures ∙ joined_values-append text _ (omega (arith, size)) in
    c.copy_from_slice-2.ensures.after ∙ ap (take n) block
    ∙ take_at (joined (values text)) _ n (length-joined (values text) n (omega (arith, size, length-map text value)))
    ∙ ap (λ (t : List ℕ). joined (values t)) c.copy_from_slice.ensures.after
