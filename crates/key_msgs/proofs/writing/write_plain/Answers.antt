use Rattle.std.proofs.Common.{◌∙◌, arith}
use Rattle.key_msgs.proofs.WritingLemmas.{length-params, behind-is, before-is}
use Rattle.key_msgs.proofs.writing.write_plain.Goals as goal

pub put_message-requires-clause-length_bound : goal.put_message-requires-clause-length_bound
put_message-requires-clause-length_bound c =
    rw (c.deref.ensures.value, c.in_ok-params.ensures) (omega (arith, length-params c.args.layout c.args.message.now))

pub put_message-requires-else-layout-clause-length_bound : goal.put_message-requires-else-layout-clause-length_bound
put_message-requires-else-layout-clause-length_bound c =
    rw (c.deref-else-layout.ensures.value, c.in_ok-params.ensures) (omega (arith, length-params c.args.layout c.args.message.now))

pub returns-then-layout : goal.returns-then-layout
returns-then-layout c = record {
  written = c.finish.ensures ∙ behind-is c.args.layout _ c.args.message.now c.message.view_is _ _ _ _ c.if-layout.true
      (c.deref.ensures.value ∙ c.in_ok-params.ensures) c.new-writer.ensures c.in_ok-bytes.ensures.written c.in_ok-put_message.ensures;
}

pub returns : goal.returns
returns c = record {
  written = c.finish-else-layout.ensures ∙ before-is c.args.layout _ c.args.message.now c.message.view_is _ _ _ _ c.if-layout.false
      (c.deref-else-layout.ensures.value ∙ c.in_ok-params.ensures) c.new-writer.ensures c.in_ok-put_message-2.ensures c.in_ok-bytes-2.ensures.written;
}
