use Rattle.managers.specs.Standard.{standard_table}
use Rattle.std.proofs.Common.{None}
use Rattle.tinkey_plans.specs.Ends.{world}
use Rattle.tinkey_plans.specs.Locks.{put_origin}
use Rattle.tinkey_words.specs.Words.{seen_master, seen_place}
use Rattle.tinkey_actions.proofs.LockLemmas.{converts_to, master_ends, master_then, none_is_lock}
use Rattle.tinkey_actions.proofs.converting.convert_under.Goals as goal

pub returns-in-AsTaken : goal.returns-in-AsTaken
returns-in-AsTaken g c = λ taken is. rw c.in-AsTaken.is (c.convert.ensures _ taken taken is is)

pub convert-requires-in-InClear-clause-put : goal.convert-requires-in-InClear-clause-put
convert-requires-in-InClear-clause-put g c = none_is_lock standard_table

pub returns-in-InClear : goal.returns-in-InClear
returns-in-InClear g c = λ taken is. rw c.in-InClear.is (c.convert-in-InClear.ensures _ taken None is (record { is = tt }))

pub returns-in_err-put-in-Under : goal.returns-in_err-put-in-Under
returns-in_err-put-in-Under g c = λ taken is.
    let old = world (g.S.Source.state c.args.source.now) (g.K.Sink.state c.args.sink.now) (g.D.Store.state c.args.store.now) (g.E.Entropy.state c.args.entropy.now) in
    rw c.in-Under.is (master_ends (put_origin taken) (seen_master c.in-Under.master) (λ table. converts_to table (seen_place c.args.input) (seen_place c.args.output) taken) c.from_residual.result c.from_residual.ensures.1 (rw (c.put_origin.ensures _ taken is) at (c.in_err-put-in-Under.ensures.passes old)))

pub returns-in_ok-put-in-Under : goal.returns-in_ok-put-in-Under
returns-in_ok-put-in-Under g c = λ taken is.
    let old = world (g.S.Source.state c.args.source.now) (g.K.Sink.state c.args.sink.now) (g.D.Store.state c.args.store.now) (g.E.Entropy.state c.args.entropy.now) in
    rw c.in-Under.is (master_then (put_origin taken) (seen_master c.in-Under.master) (λ table. converts_to table (seen_place c.args.input) (seen_place c.args.output) taken) _ c.convert-in-Under.result (rw (c.put_origin.ensures _ taken is) at (c.in_ok-put-in-Under.ensures.passes old))
    (λ put same. c.convert-in-Under.ensures _ taken put is same))
