use Rattle.std.proofs.Common.{ap, option_map}
use Rattle.tinkey_actions.proofs.LockLemmas.{lock_over, lock_serves, sealed_unwritten, sealed_written, written_in_clear}
use Rattle.tinkey_actions.proofs.WrittenLemmas.{clear_writes, handed_as, unsealed_writes, written_passes}
use Rattle.tinkey_actions.specs.Written.{with_status}
use Rattle.tinkey_words.specs.declared.words.rows.Format.TheVariants as formats
use Rattle.tinkey_actions.proofs.locks.write_under.Goals as goal

pub wrap_under-requires-clause-serving : goal.wrap_under-requires-clause-serving
wrap_under-requires-clause-serving g c = lock_serves _ _ _ (rw c.in-Some.is at c.requires.lock)

-- the steps of a plan

pub returns-in_err-written-in-Some-clause-passes : goal.returns-in_err-written-in-Some-clause-passes
returns-in_err-written-in-Some-clause-passes g c = λ w table master is.
    let old = record w { entropy = g.E.Entropy.state c.args.entropy.now } in
    sealed_unwritten _ _ _ table master c.args.form c.args.keyset.now old old _ _ (rw c.in-Some.is at is) (handed_as _ _ c.from_residual.ensures.1) (written_passes formats.Binary c.args.keyset.now old _ c.in_err-written-in-Some.ensures.is)

pub returns-in_ok-written-in-Some-clause-passes : goal.returns-in_ok-written-in-Some-clause-passes
returns-in_ok-written-in-Some-clause-passes g c = λ w table master is.
    let old = record w { entropy = g.E.Entropy.state c.args.entropy.now } in
    let new = record w { entropy = g.E.Entropy.state c.wrap_under.new.entropy } in
    sealed_written _ _ _ table master c.args.form c.args.keyset.now old new _ _ (rw c.in-Some.is at is) (written_passes formats.Binary c.args.keyset.now old _ c.in_ok-written-in-Some.ensures.is) (c.wrap_under.ensures.passes w)

pub returns-in-None-clause-passes : goal.returns-in-None-clause-passes
returns-in-None-clause-passes g c = λ w table master is.
    let old = record w { entropy = g.E.Entropy.state c.args.entropy.now } in
    written_in_clear table master c.args.form c.args.keyset.now old old _ (rw c.in-None.is at is) (written_passes c.args.form c.args.keyset.now old _ c.written-in-None.ensures.is)

-- the form of a session

pub returns-in_err-written-in-Some-clause-writes : goal.returns-in_err-written-in-Some-clause-writes
returns-in_err-written-in-Some-clause-writes g c =
    unsealed_writes _ _ c.args.form c.args.keyset.now _ _ _ (ap (option_map _) c.in-Some.is) c.from_residual.ensures.1 c.in_err-written-in-Some.ensures.is

pub returns-in_ok-written-in-Some-clause-writes : goal.returns-in_ok-written-in-Some-clause-writes
returns-in_ok-written-in-Some-clause-writes g c =
    rw c.in-Some.is (c.wrap_under.ensures.writes _ (lock_over _ _ _ (rw c.in-Some.is at c.requires.lock)))

pub returns-in-None-clause-writes : goal.returns-in-None-clause-writes
returns-in-None-clause-writes g c =
    rw c.in-None.is (clear_writes c.args.form c.args.keyset.now _ _ c.written-in-None.ensures.is)
