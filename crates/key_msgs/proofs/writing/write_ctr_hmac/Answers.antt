use Rattle.std.proofs.Common.{ap, arith, length, ◌≤◌, ◌<◌, ◌^◌}
use Rattle.key_msgs.specs.Contents.{Contents}
use Rattle.key_msgs.specs.Writing.{plain_written}
use Rattle.key_msgs.specs.declared.layout.Layout.{Layout}
use Rattle.key_msgs.proofs.WritingLemmas.{length-aes, length-plain}
use Rattle.key_msgs.proofs.writing.write_ctr_hmac.Goals as goal

pub message-requires-clause-length_bound : goal.message-requires-clause-length_bound
message-requires-clause-length_bound c =
    rw (c.deref.ensures.value, c.in_ok-aes_key.ensures.written, c.aes_ctr_layout.ensures.fields) (omega (arith, length-aes c.args.message.now, c.requires.lists_bound.key))

unsalted : (layout : Layout) (m : Contents) → length m.salt ≤ 0 → length m.key ≤ 2 ^ 30 → length (plain_written layout m) < 2 ^ 31
unsalted layout m salt key = omega (arith, length-plain layout m)

pub message-requires-2-clause-length_bound : goal.message-requires-2-clause-length_bound
message-requires-2-clause-length_bound c =
    rw (c.deref-2.ensures.value, c.in_ok-hmac_key.ensures.written)
    (unsalted _ _ (omega (arith, ap (λ (m : Contents). length m.salt) c.mac_message-mac.ensures)) (omega (arith, c.requires.lists_bound.mac, ap (λ (m : Contents). length m.key) c.mac_message-mac.ensures)))
