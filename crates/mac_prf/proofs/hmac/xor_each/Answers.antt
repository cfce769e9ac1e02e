use Rattle.std.proofs.Common.{◌<◌, length, arith}
use Rattle.std.specs.Prelude.{bit_xor}
use Rattle.std.proofs.lemmas.List.{get_or_default}
use Rattle.std.proofs.lemmas.List.Edits.{map_over_more}
use Rattle.mac_prf.proofs.hmac.xor_each.Goals as goal

pub loop-byte-preserved : goal.loop-byte-preserved
loop-byte-preserved c =
    let within : c.loop-byte.byte-index < length c.loop-byte.bytes = omega arith in
    map_over_more (λ byte. bit_xor byte c.args.pad) c.args.bytes.now c.loop-byte.bytes
    c.loop-byte.byte-index _ c.loop-byte-test.true c.loop-byte.invariant
    (get_or_default c.loop-byte.bytes c.loop-byte.byte-index 0 _ within)
