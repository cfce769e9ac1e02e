use Rattle.std.proofs.Common.{◌∙◌, sym, subst, List, ℕ}
use Rattle.key_msgs.specs.Templates.{seen}
use Rattle.tink_spec.specs.Outside.{Took, TookPrefix}
use Rattle.std.specs.Prelude.{OnErr, OnOk}
use Rattle.tinkey_actions.proofs.TemplateLemmas.{line_none, line_there}
use Rattle.tinkey_actions.proofs.templates.write_line.Goals as goal

pub returns-then-makes_for-clause-all : goal.returns-then-makes_for-clause-all
returns-then-makes_for-clause-all g c =
    subst (λ (line : List ℕ). OnOk c.write_name.result (Took (g.K.Sink.state c.args.sink.now) (g.K.Sink.state c.write_name.new.sink) line))
    (line_there c.args.primitive (seen c.args.template) c.name.result.now (sym c.makes_for.ensures ∙ c.if-makes_for.true) c.name.ensures)
    c.write_name.ensures.all

pub returns-then-makes_for-clause-prefix : goal.returns-then-makes_for-clause-prefix
returns-then-makes_for-clause-prefix g c =
    subst (λ (line : List ℕ). OnErr c.write_name.result (TookPrefix (g.K.Sink.state c.args.sink.now) (g.K.Sink.state c.write_name.new.sink) line))
    (line_there c.args.primitive (seen c.args.template) c.name.result.now (sym c.makes_for.ensures ∙ c.if-makes_for.true) c.name.ensures)
    c.write_name.ensures.prefix

pub returns-else-makes_for-clause-all : goal.returns-else-makes_for-clause-all
returns-else-makes_for-clause-all g c = line_none c.args.primitive (seen c.args.template) _ (sym c.makes_for.ensures ∙ c.if-makes_for.false)
