use Rattle.std.proofs.Common.{◌∙◌, ap, sym, refl, List, ℕ}
use Rattle.std.specs.Str.{bytes_eq}
use Rattle.key_msgs.specs.Templates.{Row, templates, row_named, seen}
use Rattle.key_msgs.proofs.Finding.{find-passes_some, find-stops_some, find-none}
use Rattle.key_msgs.proofs.template.template_named.Goals as goal
use Rattle.key_msgs.proofs.template.template_named.Goals.{in-Some+else-eq, in_default}

pub loop-row-init : goal.loop-row-init
unfolding row_named
loop-row-init c = refl

pub returns-then-eq : goal.returns-then-eq
returns-then-eq c =
    let name = c.args.name.now in
    c.loop-row.invariant ∙ find-stops_some (λ (row : Row). bytes_eq row.name name) templates c.loop-row.row (seen c.in-Some.template) c.in-Some.ensures
    (ap (λ (u : List ℕ). bytes_eq u name) (sym c.name.ensures) ∙ sym c.eq.ensures ∙ c.if-eq.true)

pub loop-row-preserved : goal.loop-row-preserved
loop-row-preserved c = elim c.match-template_at.branch [
  | in-Some+else-eq w ↦
      let name = c.args.name.now in
      c.loop-row.invariant ∙ find-passes_some (λ (row : Row). bytes_eq row.name name) templates c.loop-row.row (seen w.in-Some.template) w.in-Some.ensures
      (ap (λ (u : List ℕ). bytes_eq u name) (sym w.name.ensures) ∙ sym w.eq.ensures ∙ w.if-eq.false)
  | in_default w ↦
      let name = c.args.name.now in
      c.loop-row.invariant ∙ find-none (λ (row : Row). bytes_eq row.name name) templates c.loop-row.row w.in_default.ensures
]
