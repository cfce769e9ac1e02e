use Rattle.std.proofs.Common.{◌∙◌, sym, refl}
use Rattle.keyset_json.proofs.ReadingLemmas.{no_records}
use Rattle.keyset_json.proofs.reading.read_records.Goals as goal

pub returns-in-None-clause-records : goal.returns-in-None-clause-records
returns-in-None-clause-records c =
    rw c.new.ensures.items (no_records _ (sym c.find.ensures ∙ rw c.in-None.is refl))
