use Rattle.std.proofs.Common.{◌∙◌, arith, refl}
use Rattle.tinkey_actions.proofs.TemplateLemmas.{no_names, one_more, no_more, ends_in_name, all_names}
use Rattle.tinkey_actions.proofs.templates.write_names.Goals as goal
use Rattle.tinkey_actions.proofs.templates.write_names.Goals.{in-Some+in_default-write_line, in_default}

pub loop-row-init : goal.loop-row-init
loop-row-init g c = record { names = no_names c.args.primitive _; stood = refl }

pub returns-in-Err-clause-failed : goal.returns-in-Err-clause-failed
returns-in-Err-clause-failed g c = rw c.loop-row.invariant.stood at c.in-Err.ensures.failed

pub returns-in-Err-clause-prefix : goal.returns-in-Err-clause-prefix
returns-in-Err-clause-prefix g c = ends_in_name c.args.primitive _ _ _ c.loop-row.row c.in-Some.template _ c.in-Some.is c.template_at.ensures c.loop-row.invariant.names c.in-Err.ensures.prefix

pub loop-row-preserved : goal.loop-row-preserved
loop-row-preserved g c = elim c.match-template_at.branch [
  | in-Some+in_default-write_line w ↦ rw w.sink-is (record {
    names = one_more c.args.primitive _ _ _ c.loop-row.row w.in-Some.template _ w.in-Some.is c.template_at.ensures c.loop-row.invariant.names w.in_default-write_line.ensures.all;
    stood = w.in_default-write_line.ensures.no_fault ∙ c.loop-row.invariant.stood;
  })
  | in_default w ↦ rw w.sink-is (record {
    names = no_more c.args.primitive _ _ c.loop-row.row _ w.in_default.is c.template_at.ensures c.loop-row.invariant.names;
    stood = c.loop-row.invariant.stood;
  })
]

pub returns-clause-all : goal.returns-clause-all
returns-clause-all g c = all_names c.args.primitive _ _ c.loop-row.row c.loop-row.invariant.names (omega arith)
