use Rattle.std.proofs.Common.{◌≡◌, List, [], ℕ, ℤ, SFits, rules, subst, sym, w32}
use Rattle.std.proofs.lemmas.Int.{to_z-of_z}
use Rattle.std.proofs.lemmas.List.{nil_from_length}
use Rattle.ready_keysets.specs.declared.work.Work.TheVariants as works
use Rattle.tinkey_c.specs.Shared.{DoesBy}
use Rattle.tinkey_c.proofs.exports.tinkey_core_verify.Goals as goal

pub returns-clause-verified : goal.returns-clause-verified
returns-clause-verified c =
    let fits : SFits w32 c.perform.result = search rules in
    let none : c.perform.new.out ≡ [] = nil_from_length c.perform.new.out c.perform.auto.out in
    let done = subst (λ (out : List ℕ). DoesBy c.args.keys.now.held (works.Verify c.args.tag c.args.body) [] out 0 c.perform.new.size c.perform.result)
    none c.perform.ensures.done in (
      c.perform.new.size,
      subst (λ (status : ℤ). DoesBy c.args.keys.now.held (works.Verify c.args.tag c.args.body) [] [] 0 c.perform.new.size status)
          (sym (to_z-of_z w32 c.perform.result fits)) done,
    )
