use Rattle.keyset_model.proofs.ReadingLemmas.{RecordsSoFar}
use Rattle.keyset_model.proofs.reading.read_records.Given as goal

abbrev pub invariant-loop-i : goal.invariant-loop-i
invariant-loop-i l = RecordsSoFar l.source l.message l.i l.records.items
