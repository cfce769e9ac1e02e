use Rattle.std.proofs.Common.{◌∙◌, ap}
use Rattle.std.proofs.lemmas.List.Elements.{Contains-get_or}
use Rattle.std.proofs.lemmas.Option.{same_Some, slice_get-get_or}
use Rattle.key_msgs.specs.Templates.{templates, seen}
use Rattle.key_msgs.proofs.template.Template.row.Goals as goal

pub returns-clause-row : goal.returns-clause-row
returns-clause-row c =
    same_Some _ _ (c.row_at.ensures ∙ slice_get-get_or templates c.self.inside.row _ c.self.invariant) ∙ ap seen c.self.view_is

pub returns-clause-known : goal.returns-clause-known
returns-clause-known c = Contains-get_or templates c.args.self.now _ (rw c.self.view_is at c.self.invariant)
