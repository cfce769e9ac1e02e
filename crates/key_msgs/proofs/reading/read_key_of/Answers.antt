use Rattle.key_msgs.proofs.ReadingLemmas.{handed_on, whole, cut_fails, message_fails, message_gives}
use Rattle.key_msgs.proofs.reading.read_key_of.Goals as goal

pub returns-in_err-message-clause-key : goal.returns-in_err-message-clause-key
returns-in_err-message-clause-key c =
    let bytes = c.args.value.now in
    handed_on _ _ _ c.from_residual.ensures.1 (cut_fails c.args.key_type bytes bytes _ (rw whole at c.in_err-message.ensures.cut))

pub returns-in_err-message-2-clause-key : goal.returns-in_err-message-2-clause-key
returns-in_err-message-2-clause-key c =
    handed_on _ _ _ c.from_residual-in_err-message-2.ensures.1
    (message_fails c.args.key_type c.args.value.now _ _ (rw whole at c.in_ok-message.ensures.cut) c.in_err-message-2.ensures)

pub returns-clause-key : goal.returns-clause-key
returns-clause-key c =
    rw (message_gives c.args.key_type c.args.value.now _ _ (rw whole at c.in_ok-message.ensures.cut) c.in_ok-message-2.ensures) c.check.ensures.key
