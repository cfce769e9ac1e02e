use Rattle.std.proofs.Common.{◌≡◌, ◌+◌, ◌-◌, arith, eq-eqb, ne_eqb, subst, sym, ℕ}
use Rattle.tinkey_actions.proofs.StreamKeyLemmas.{IsBehind, enabled_here, enabled_later, enabled_passes, some_left}
use Rattle.tinkey_actions.proofs.stream_key.enabled_at.Goals as goal
use Rattle.tinkey_actions.proofs.stream_key.enabled_at.Goals.{then-record_at-eq-ENABLED+else-left-eq0, else-record_at-eq-ENABLED}

pub returns-then-left-eq0-clause-there : goal.returns-then-left-eq0-clause-there
returns-then-left-eq0-clause-there c =
    let r = c.record_at.result.now in
    let one : r.status ≡ 1 = omega (arith, c.if-record_at-eq-ENABLED.true) in
    enabled_here c.args.keyset.now.records c.args.place c.loop-i.i c.loop-i.left r c.loop-i.invariant c.record_at.ensures.record_there (eq-eqb r.status 1 one) (omega (arith, c.if-left-eq0.true))

pub loop-i-preserved : goal.loop-i-preserved
loop-i-preserved c =
    let records = c.args.keyset.now.records in
    let r = c.record_at.result.now in
    let there = c.record_at.ensures.record_there in
    elim c.if-record_at-eq-ENABLED.branch [
      | then-record_at-eq-ENABLED+else-left-eq0 w ↦
          let one : r.status ≡ 1 = omega (arith, w.if-record_at-eq-ENABLED.true) in
          subst (λ (n : ℕ). IsBehind records c.args.place (c.loop-i.i + 1) n) (sym w.left-is)
          (enabled_later records c.args.place c.loop-i.i c.loop-i.left r c.loop-i.invariant there (eq-eqb r.status 1 one) (some_left c.loop-i.left w.if-left-eq0.false))
      | else-record_at-eq-ENABLED w ↦
          subst (λ (n : ℕ). IsBehind records c.args.place (c.loop-i.i + 1) n) (sym w.left-is)
          (enabled_passes records c.args.place c.loop-i.i c.loop-i.left r c.loop-i.invariant there (ne_eqb r.status 1 w.if-record_at-eq-ENABLED.false))
    ]
