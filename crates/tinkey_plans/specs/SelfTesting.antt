-- The self-test of a command, as a step of a plan. What becomes of its lines is said apart from plans,
-- in Trial of tinkey_selftest.
use Rattle.std.specs.Prelude.{ℕ, List, Result}
use Rattle.managers.specs.Table.{Table}
use Rattle.tinkey_cmds.specs.declared.command.EditRefusal.{EditRefusal}
use Rattle.tinkey_session.specs.declared.reply.Refusal.TheVariants as refused
use Rattle.tinkey_selftest.specs.Telling.{counts_text}
use Rattle.tinkey_selftest.specs.Trial as trial
use Rattle.tinkey_selftest.specs.declared.counts.Counts.{Counts}
use Rattle.tinkey_selftest.specs.declared.selftest.SelfTestFault.{SelfTestFault}
use Rattle.tinkey_selftest.specs.declared.selftest.SelfTestFault.TheVariants as faults
use Rattle.tinkey_plans.specs.declared.status.Status.{Status}
use Rattle.tinkey_plans.specs.declared.status.Status.TheVariants as status
use Rattle.tinkey_plans.specs.Plan.{Plan, allocates}
use Rattle.tinkey_plans.specs.Steps.{with_made}

-- the line of the counts, where there is a first keyset
abbrev pub tells_counts : (lines : ℕ) → Result Counts EditRefusal → (List ℕ → Plan) → Plan
tells_counts lines counted next = allocates (with_made counted (λ n. next (counts_text lines n)))

-- what becomes of so many lines, made from a number, under the table of the managers handed in
abbrev pub self_test_output : Table → (seed lines : ℕ) → (List ℕ → Plan) → Plan
self_test_output table seed lines next = tells_counts lines (trial.self_test table seed lines) next

-- the status of a self-test that counts nothing
abbrev pub self_test_refusal : SelfTestFault → Status
self_test_refusal (faults.Refused fault) = status.Refused (refused.Command fault)
self_test_refusal faults.NoMemory = status.NoMemory
