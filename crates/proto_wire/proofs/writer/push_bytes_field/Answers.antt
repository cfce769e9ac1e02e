use Rattle.std.proofs.lemmas.List.{append_assoc}
use Rattle.proto_wire.proofs.writer.push_bytes_field.Goals as goal

pub returns-clause-written : goal.returns-clause-written
returns-clause-written c =
    simp (c.in_ok-extend_from_slice.ensures.items, c.in_ok-push_varint-2.ensures.written, c.in_ok-push_varint.ensures.written, append_assoc)
