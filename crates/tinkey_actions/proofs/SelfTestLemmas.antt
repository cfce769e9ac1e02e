-- The step of a self-test.
use Rattle.std.proofs.Common.{◌≡◌, refl, sym, subst, inl, inr, ℕ, List, Result, Ok, Err}
use Rattle.tinkey_cmds.specs.declared.command.EditRefusal.{EditRefusal}
use Rattle.tinkey_session.specs.declared.reply.Refusal.TheVariants.{Command}
use Rattle.tinkey_selftest.specs.Telling.{counts_text}
use Rattle.tinkey_selftest.specs.declared.counts.Counts.{Counts}
use Rattle.tinkey_plans.specs.declared.status.Status.{Status}
use Rattle.tinkey_plans.specs.declared.status.Status.TheVariants as status
use Rattle.tinkey_plans.specs.Ends.{World, Ends}
use Rattle.tinkey_plans.specs.SelfTesting.{self_test_refusal, tells_counts}
use Rattle.tinkey_selftest.specs.Ready.{Tests}
use Rattle.tinkey_selftest.specs.declared.selftest.SelfTestFault.{SelfTestFault}
use Rattle.tinkey_selftest.specs.declared.selftest.SelfTestFault.TheVariants as faults
use Rattle.tinkey_plans.specs.Plan.{Plan}
use Rattle.tinkey_plans.specs.Steps.{Passes, with_made}
use Rattle.std.specs.Prelude.{IfOk, IfErr}

-- a first keyset is there, and the line of the counts, or memory was refused for that
pub counted_passes : (lines : ℕ) (stated : Result Counts EditRefusal) (n : Counts) (r : Result (List ℕ) Status) (w : World) → stated ≡ Ok n → IfOk r (λ line. line ≡ counts_text lines n) → IfErr r (λ s. s ≡ status.NoMemory) → Passes (tells_counts lines stated) w r w
counted_passes lines stated n (Ok line) w is told none = λ next s last run. inl (subst (λ x. Ends (with_made x (λ m. next (counts_text lines m))) w s last) (sym is) (subst (λ l. Ends (next l) w s last) told run))
counted_passes lines stated n (Err e) w is told none = λ next. inr (none, refl)

-- there is no first keyset, or memory was refused
pub uncounted_passes : (lines : ℕ) (stated : Result Counts EditRefusal) (fault : SelfTestFault) (w : World) → Tests stated (Err fault) → (next : List ℕ → Plan) → Ends (tells_counts lines stated next) w (self_test_refusal fault) w
uncounted_passes lines stated (faults.Refused fault) w is next = inl (subst (λ x. Ends (with_made x (λ m. next (counts_text lines m))) w (status.Refused (Command fault)) w) (sym is) (refl, refl))
uncounted_passes lines stated faults.NoMemory w is next = inr (refl, refl)
