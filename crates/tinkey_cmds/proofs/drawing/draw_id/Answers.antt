-- Draw by draw.
use Rattle.std.proofs.Common.{◌∙◌, ◌+◌, arith, refl, sym}
use Rattle.std.specs.Option.{option_copied}
use Rattle.tinkey_cmds.specs.Applying.{records_in}
use Rattle.tinkey_cmds.proofs.Drawings.{continues-nothing, loop-free, loop-taken, loop-failed, loop-end, failed-id}
use Rattle.tinkey_cmds.proofs.Wholes.{groups-end, groups-ids, groups-more, groups-nothing, in_all, on_error}
use Rattle.tinkey_cmds.proofs.drawing.draw_id.Goals as goal

pub loop-try-init : goal.loop-try-init
loop-try-init g c = record { no_fault = refl; ids = groups-nothing _; before = continues-nothing _ _ }

pub returns-in_err-fill-clause-id : goal.returns-in_err-fill-clause-id
returns-in_err-fill-clause-id g c = failed-id c.from_residual.result _ _ _ c.from_residual.ensures.0
    (loop-failed c.loop-try._try (records_in (option_copied c.args.keyset)) _ _ _ c.loop-try-test.true c.loop-try.invariant.before c.in_err-fill.ensures.failed)

pub returns-in_err-fill-clause-ids : goal.returns-in_err-fill-clause-ids
returns-in_err-fill-clause-ids g c = on_error c.from_residual.result _ c.from_residual.ensures.0

pub returns-in_err-fill-clause-lost : goal.returns-in_err-fill-clause-lost
returns-in_err-fill-clause-lost g c = in_all c.from_residual.result _ (groups-end _ _ _ c.loop-try._try (omega arith) c.loop-try.invariant.ids c.in_err-fill.ensures.failed)

pub returns-then-not-is_taken-clause-ids : goal.returns-then-not-is_taken-clause-ids
returns-then-not-is_taken-clause-ids g c =
    groups-ids _ _ (c.loop-try._try + 1) (omega arith) (groups-more _ _ _ c.fill.new.out c.loop-try._try c.loop-try.invariant.ids c.in_ok-fill.ensures.fills c.fill.auto.out)

pub returns-clause-ids : goal.returns-clause-ids
returns-clause-ids g c = groups-ids _ _ c.loop-try._try (omega arith) c.loop-try.invariant.ids

pub returns-then-not-is_taken-clause-id : goal.returns-then-not-is_taken-clause-id
returns-then-not-is_taken-clause-id g c = (
  c.in_ok-fill.ensures.no_fault ∙ c.loop-try.invariant.no_fault,
  loop-free c.loop-try._try (records_in (option_copied c.args.keyset)) c.fill.new.out c.from_be_bytes-id.result _ _ _ c.loop-try-test.true c.loop-try.invariant.before
      c.in_ok-fill.ensures.fills c.fill.auto.out c.from_be_bytes-id.ensures c.from_be_bytes-id.type_inv (sym c.is_taken.ensures ∙ c.if-not-is_taken.true),
)

pub loop-try-preserved : goal.loop-try-preserved
loop-try-preserved g c = record {
  no_fault = c.in_ok-fill.ensures.no_fault ∙ c.loop-try.invariant.no_fault;
  ids = groups-more _ _ _ c.fill.new.out c.loop-try._try c.loop-try.invariant.ids c.in_ok-fill.ensures.fills c.fill.auto.out;
  before = loop-taken c.loop-try._try (records_in (option_copied c.args.keyset)) c.fill.new.out c.from_be_bytes-id.result _ _ _ c.loop-try-test.true c.loop-try.invariant.before
      c.in_ok-fill.ensures.fills c.fill.auto.out c.from_be_bytes-id.ensures c.from_be_bytes-id.type_inv (sym c.is_taken.ensures ∙ c.if-not-is_taken.false);
}

pub returns-clause-id : goal.returns-clause-id
returns-clause-id g c = (c.loop-try.invariant.no_fault, loop-end c.loop-try._try (records_in (option_copied c.args.keyset)) _ _ c.loop-try-test.false c.loop-try.invariant.before)
