use Rattle.std.proofs.Common.{◌≡◌, sym, subst, ap, ◌∙◌, Some}
use Rattle.std.specs.declared.io.ErrorKind.{ErrorKind}
use Rattle.std.specs.declared.io.ErrorKind.TheVariants as kind
use Rattle.real_objects.specs.Naming.{HasNoLinks}
use Rattle.host_tests.specs.Names.{stage_of}
use Rattle.host_tests.proofs.folder.naming.TracedNewName.link.Goals as goal

pub returns-in-Err-clause-unlinked : goal.returns-in-Err-clause-unlinked
returns-in-Err-clause-unlinked c = λ other links.
    let free = subst (λ (k : ErrorKind). k ≡ kind.AlreadyExists → ⊥) (sym c.kind.ensures) other in
    let linked = subst (λ (k : ErrorKind). ¬ (HasNoLinks k)) (sym c.kind.ensures) links in
    ap (λ t. Some (stage_of t)) (c.after_link-self.ensures.kept free linked ∙ c.call.ensures.kept)
