use Rattle.std.proofs.Common.{ap, length, arith}
use Rattle.tinkey_actions.proofs.UseLemmas.{decoded_length}
use Rattle.tinkey_actions.proofs.using.hex_datum.Goals as goal

pub returns-in-Ok-clause-within : goal.returns-in-Ok-clause-within
returns-in-Ok-clause-within c =
    let half = decoded_length c.as_bytes.result.now c.in-Ok.bytes.items c.in-Ok.ensures.ok in
    let same = ap length c.own-in-Ok.ensures in
    omega (arith, half, c.as_bytes.ensures.len, c.if-text.false, same)
