use Rattle.std.proofs.Common.{arith}
use Rattle.keyset_model.proofs.WritingLemmas.{length-data}
use Rattle.keyset_model.proofs.writing.write_record.Goals as goal

pub message-requires-clause-length_bound : goal.message-requires-clause-length_bound
message-requires-clause-length_bound c =
    rw (c.deref.ensures.value, c.in_ok-key_data.ensures) (omega (arith, length-data c.args.key.now))
