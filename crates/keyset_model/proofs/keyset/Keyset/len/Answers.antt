use Rattle.std.proofs.Common.{◌≡◌, rules, None, arith}
use Rattle.keyset_model.specs.Keyset.{fault_of}
use Rattle.keyset_model.proofs.WellFormedLemmas.{least_records, most_records}
use Rattle.keyset_model.proofs.keyset.Keyset.len.Goals as goal

pub returns-clause-least : goal.returns-clause-least
returns-clause-least c =
    let k = c.args.self.now in
    let sound : fault_of k ≡ None = search rules in
    grind (arith, least_records k sound)

pub returns-clause-most : goal.returns-clause-most
returns-clause-most c =
    let k = c.args.self.now in
    let sound : fault_of k ≡ None = search rules in
    grind (arith, most_records k sound)
