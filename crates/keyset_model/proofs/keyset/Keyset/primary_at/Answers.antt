use Rattle.std.proofs.Common.{◌≡◌, sym, subst, rules, List, Some, None}
use Rattle.std.specs.Prelude.{position}
use Rattle.keyset_model.specs.declared.record.Record.{Record}
use Rattle.keyset_model.specs.Keyset.{Keys, is_primary, fault_of}
use Rattle.keyset_model.proofs.PrimaryLemmas.{at_position, no_position, position_within, primary_missing, well_formed-faultless}
use Rattle.keyset_model.proofs.keyset.Keyset.primary_at.Goals as goal

pub unreachable-requires : goal.unreachable-requires
unreachable-requires c =
    let k = c.args.self.now in
    let sound : fault_of k ≡ None = search rules in
    let here = subst (λ (xs : List Record). None ≡ position (is_primary c.self.inside.primary) xs) c.deref.ensures.value c.in-None.ensures in
    let place = subst (λ (x : Keys). None ≡ position (is_primary x.primary) x.records) c.self.view_is here in
    primary_missing k sound (no_position (is_primary k.primary) k.records place)

pub returns-clause-place : goal.returns-clause-place
returns-clause-place c =
    let here = subst (λ (xs : List Record). Some c.in-Some.i ≡ position (is_primary c.self.inside.primary) xs) c.deref.ensures.value c.in-Some.ensures in
    sym (subst (λ (x : Keys). Some c.in-Some.i ≡ position (is_primary x.primary) x.records) c.self.view_is here)

pub returns-clause-within : goal.returns-clause-within
returns-clause-within c =
    let k = c.args.self.now in
    position_within (is_primary k.primary) k.records c.in-Some.i (sym (returns-clause-place c))

pub returns-clause-primary : goal.returns-clause-primary
returns-clause-primary c =
    let k = c.args.self.now in
    sym (at_position (is_primary k.primary) k.records c.in-Some.i (sym (returns-clause-place c)))

pub returns-clause-well_formed : goal.returns-clause-well_formed
returns-clause-well_formed c =
    let k = c.args.self.now in
    let sound : fault_of k ≡ None = search rules in
    well_formed-faultless k sound
