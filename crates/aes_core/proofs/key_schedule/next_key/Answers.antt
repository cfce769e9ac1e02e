use Rattle.std.proofs.Common.{◌/◌, ◌-◌, inl, inr, length, arith}
use Rattle.aes_core.specs.Aes.{word}
use Rattle.aes_core.proofs.KeySchedule.{Blocks, next_key_is, own_round_key}
use Rattle.aes_core.proofs.key_schedule.next_key.Goals as goal

pub returns-then-round-blocks : goal.returns-then-round-blocks
returns-then-round-blocks c =
    let key = c.args.key.now in
    let size : Blocks key (length key / 16) = elim c.requires.size [
      | inl e ↦ (inl (omega arith), omega arith)
      | inr e ↦ (inr (omega arith), omega arith)
    ] in
    own_round_key key (length key / 16) c.args.round size c.if-round-blocks.true (omega arith)

pub returns : goal.returns
returns c =
    let key = c.args.key.now in
    let blocks = length key / 16 in
    let keys = c.args.keys.now in
    let r = c.args.round in
    let size : Blocks key blocks = elim c.requires.size [
      | inl e ↦ (inl (omega arith), omega arith)
      | inr e ↦ (inr (omega arith), omega arith)
    ] in
    next_key_is key blocks r (word keys (r - 1)) (word keys (r - blocks)) c.mixed_word-mixed.result
    c.followed.result size (omega arith) c.requires.within
    (c.requires.before (r - 1) (omega arith)) (c.requires.before (r - blocks) (omega arith))
    c.mixed_word-mixed.ensures c.followed.ensures
