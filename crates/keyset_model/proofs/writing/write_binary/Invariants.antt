use Rattle.std.proofs.Common.{◌≡◌, take}
use Rattle.proto_wire.specs.Written.{written_all}
use Rattle.keyset_model.specs.Writing.{keys_entries}
use Rattle.keyset_model.proofs.writing.write_binary.Given as goal

abbrev pub invariant-loop-i : goal.invariant-loop-i
invariant-loop-i l = l.writer ≡ written_all (keys_entries (record { primary = l.keyset.primary; records = take l.i l.keyset.records }))
