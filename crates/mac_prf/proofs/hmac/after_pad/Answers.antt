use Rattle.std.proofs.Common.{[]}
use Rattle.mac_prf.proofs.hmac.after_pad.Goals as goal

pub returns : goal.returns
returns c =
    let taken = c.update.ensures.taken c.args.hash [] c.new-hasher.ensures in
    rw (c.xor_each.ensures, c.block_len.ensures) at taken
