use Rattle.std.proofs.Common.{◌∙◌}
use Rattle.real_objects.proofs.naming.link_file.Goals as goal

pub returns-else-is_linked-clause-unlinked : goal.returns-else-is_linked-clause-unlinked
returns-else-is_linked-clause-unlinked g c = λ other links.
    c.is_linked.ensures.others c.if-is_linked.false ∙ c.in-Err.ensures.unlinked other links
