use Rattle.std.proofs.Common.{ap, sym, ◌∙◌, arith, Ok}
use Rattle.std.proofs.lemmas.List.{take_at}
use Rattle.hex_lanes.proofs.DigitLemmas.{decode_of-digits}
use Rattle.hex_lanes.proofs.decoding.decode.Goals as goal

pub returns-then-decode_into-clause-ok : goal.returns-then-decode_into-clause-ok
returns-then-decode_into-clause-ok c =
    let done = c.if-decode_into.ensures in
    decode_of-digits c.args.text.now c.if-text-eq0.true (sym done.digits)
    ∙ ap Ok (sym (take_at c.decode_into.new.bytes _ c.in_ok-bytes.bytes.len (omega arith) ∙ done.decoded))
