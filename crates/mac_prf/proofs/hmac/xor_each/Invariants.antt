use Rattle.std.proofs.Common.{◌≡◌, ◌++◌, take, drop}
use Rattle.mac_prf.specs.Hmac.{xored}
use Rattle.mac_prf.proofs.hmac.xor_each.Given as goal

abbrev pub invariant-loop-byte : goal.invariant-loop-byte
invariant-loop-byte l =
    l.bytes ≡ xored (take l.byte-index l.initial.bytes) l.pad ++ drop l.byte-index l.initial.bytes
