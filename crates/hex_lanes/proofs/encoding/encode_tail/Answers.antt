use Rattle.std.proofs.Common.{◌≡◌, ◌*◌, length, take, ap, sym, ◌∙◌}
use Rattle.std.proofs.lemmas.List.{take_at}
use Rattle.hex.specs.Hex.{encode_lower}
use Rattle.hex_lanes.proofs.DigitLemmas.{encode_lower-append, length-encode_lower}
use Rattle.hex_lanes.proofs.encoding.encode_tail.Goals as goal

pub returns : goal.returns
returns c =
    let n = length c.args.digits.now in
    let bytes = c.copy_from_slice.new.self in
    let size : 2 * length bytes ≡ n = ap (λ l. 2 * length l) c.copy_from_slice.ensures.after ∙ sym c.requires.size in
    c.copy_from_slice-2.ensures.after ∙ ap (take n) (c.encoded.ensures ∙ encode_lower-append bytes _)
    ∙ take_at (encode_lower bytes) _ n (length-encode_lower bytes ∙ size)
    ∙ ap encode_lower c.copy_from_slice.ensures.after
