use Rattle.std.proofs.Common.{◌≡◌, rules, refl, subst, get_or, length, Some, None}
use Rattle.std.specs.Prelude.{slice_get}
use Rattle.std.proofs.lemmas.Option.{slice_get_read}
use Rattle.keyset_model.specs.Keyset.{Keys, fault_of}
use Rattle.keyset_model.proofs.WellFormedLemmas.{record_known}
use Rattle.keyset_model.proofs.keyset.Keyset.record_at.Goals as goal

pub returns-clause-known : goal.returns-clause-known
returns-clause-known c =
    let k = c.args.self.now in
    let r = c.index.result.now in
    let sound : fault_of k ≡ None = search rules in
    let read = subst (λ (x : Keys). r ≡ get_or x.records c.args.i r) c.self.view_is c.index.ensures in
    let there : slice_get k.records c.args.i ≡ Some r = slice_get_read k.records (length k.records) c.args.i r refl c.requires.place_bound read in
    record_known k c.args.i r sound there
