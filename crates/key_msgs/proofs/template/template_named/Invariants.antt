use Rattle.std.proofs.Common.{◌≡◌, drop}
use Rattle.std.specs.Prelude.{find}
use Rattle.std.specs.Str.{bytes_eq}
use Rattle.key_msgs.specs.Templates.{Row, templates, row_named}
use Rattle.key_msgs.proofs.template.template_named.Given as goal

abbrev pub invariant-loop-row : goal.invariant-loop-row
invariant-loop-row l = row_named l.name ≡ find (λ (row : Row). bytes_eq row.name l.name) (drop l.row templates)
