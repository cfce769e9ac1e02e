use Rattle.tink_spec.specs.Outside.{Stood}
use Rattle.tinkey_actions.proofs.TemplateLemmas.{HasNames}
use Rattle.tinkey_actions.proofs.templates.write_names.Given as goal

abbrev pub invariant-loop-row : goal.invariant-loop-row
invariant-loop-row g l = record {
  names : HasNames l.fn.primitive (g.K.Sink.state l.fn.sink) (g.K.Sink.state l.sink) l.row;
  stood : Stood (g.K.Sink.state l.fn.sink).faults (g.K.Sink.state l.sink).faults;
}
