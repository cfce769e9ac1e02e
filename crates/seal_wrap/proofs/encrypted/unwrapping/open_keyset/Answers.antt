use Rattle.std.proofs.Common.{◌≤◌, length, sym, arith}
use Rattle.seal_wrap.proofs.OpenedSizes.{opened-over, within-more}
use Rattle.seal_wrap.proofs.encrypted.unwrapping.open_keyset.Goals as goal

pub read_binary-requires : goal.read_binary-requires
read_binary-requires g c =
    let over = c.requires.over in
    let opened = rw c.in-Ok-Some.field-0-is at (c.in-Ok-Some.ensures.opened over.0 over.1) in
    let short : length c.in-Ok-Some.plain.items ≤ length c.args.sealed.now = opened-over _ over.0 _ c.args.sealed.now c.in-Ok-Some.plain.items over.1 (sym opened) in
    record { size_bound = rw c.deref.ensures.value (omega arith) }

pub returns-in-Ok-clause-within : goal.returns-in-Ok-clause-within
returns-in-Ok-clause-within g c =
    let over = c.requires.over in
    let opened = rw c.in-Ok-Some.field-0-is at (c.in-Ok-Some.ensures.opened over.0 over.1) in
    let short : length c.in-Ok-Some.plain.items ≤ length c.args.sealed.now = opened-over _ over.0 _ c.args.sealed.now c.in-Ok-Some.plain.items over.1 (sym opened) in
    within-more (length c.deref.result.now) (length c.args.sealed.now) _ (rw c.deref.ensures.value short) c.in-Ok.ensures.within
