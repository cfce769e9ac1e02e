use Rattle.std.proofs.Common.{◌∙◌, arith}
use Rattle.key_msgs.proofs.WritingLemmas.{length-hmac, params-are}
use Rattle.key_msgs.proofs.writing.write_params.Goals as goal

pub put_message-requires-clause-length_bound : goal.put_message-requires-clause-length_bound
put_message-requires-clause-length_bound c =
    rw (c.deref.ensures.value, c.in_ok-hmac_params.ensures) (omega (arith, length-hmac c.args.message.now))

pub returns : goal.returns
returns c =
    c.finish.ensures ∙ params-are c.args.layout _ c.args.message.now c.message.view_is _ _ _ _ _ _ _ _ _
    (c.deref.ensures.value ∙ c.in_ok-hmac_params.ensures) c.new-writer.ensures
    c.in_ok-put_number.ensures c.in_ok-put_number-2.ensures c.in_ok-put_number-3.ensures c.in_ok-put_number-4.ensures c.in_ok-put_number-5.ensures
    c.in_ok-put_bytes.ensures c.in_ok-put_message.ensures
