use Rattle.std.proofs.Common.{◌≡◌, List, ℕ, ap, refl, subst, take}
use Rattle.std.specs.Prelude.{Some, None}
use Rattle.std.specs.Option.{option_map}
use Rattle.tink_base.specs.Drawn.{DrawnBytes}
use Rattle.managers.specs.Standard.{standard_table}
use Rattle.wrapped_prims.specs.Answers.{Sealed, seal_answer}
use Rattle.ready_keysets.proofs.DrawnLemmas.{few_bytes, more_needed, sealed_with}
use Rattle.ready_keysets.proofs.perform.seal.Goals as goal

pub returns-in-Ok-clause-answered : goal.returns-in-Ok-clause-answered
returns-in-Ok-clause-answered g c = λ keys over.
    let plain = c.args.plain.now in
    let ad = c.args.ad.now in
    let sealed : List ℕ = take c.in-Ok.size c.seal_into.new.out in
    let made = rw c.requires.table at (c.in-Ok.ensures.sealed keys (rw c.requires.table over)) in
    record {
      front = subst (λ (random : List ℕ). option_map (λ (s : Sealed). s.bytes) (seal_answer keys standard_table plain ad random) ≡ Some sealed)
          (ap (λ (s : DrawnBytes). s.left) c.new.ensures)
          (sealed_with keys standard_table plain ad sealed c.new.result c.seal_into.new.entropy made);
      rest = c.in-Ok.ensures.rest;
    }

pub returns-in-Err-EntropyFault-clause-answered : goal.returns-in-Err-EntropyFault-clause-answered
returns-in-Err-EntropyFault-clause-answered g c = λ keys over.
    let plain = c.args.plain.now in
    let ad = c.args.ad.now in
    let fault = rw c.in-Err-EntropyFault.field-0-is at (rw c.requires.table at (c.in-Err-EntropyFault.ensures.fault keys (rw c.requires.table over))) in (
      subst (λ (random : List ℕ). option_map (λ (s : Sealed). s.bytes) (seal_answer keys standard_table plain ad random) ≡ None)
          (ap (λ (s : DrawnBytes). s.left) c.new.ensures)
          (few_bytes keys standard_table plain ad c.new.result c.seal_into.new.entropy fault),
      refl,
    )

pub returns-in-Err-NoRoom-clause-answered : goal.returns-in-Err-NoRoom-clause-answered
returns-in-Err-NoRoom-clause-answered g c = λ keys over.
    let plain = c.args.plain.now in
    let ad = c.args.ad.now in
    let fault = rw c.in-Err-NoRoom.field-0-is at (rw c.requires.table at (c.in-Err-NoRoom.ensures.fault keys (rw c.requires.table over))) in
    let is = subst (λ (random : List ℕ). option_map (λ (s : Sealed). s.bytes) (seal_answer keys standard_table plain ad random) ≡ Some fault.0)
    (ap (λ (s : DrawnBytes). s.left) c.new.ensures)
    (sealed_with keys standard_table plain ad fault.0 c.new.result c.seal_into.new.entropy fault.1) in
    more_needed _ fault.0 _ is fault.2
