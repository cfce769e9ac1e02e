use Rattle.tinkey_session.proofs.FollowLemmas.{at_enabled, grows_enabled, none_enabled}
use Rattle.tinkey_session.proofs.session.enabled_at.Goals as goal

pub returns-then-record_at-eq-ENABLED : goal.returns-then-record_at-eq-ENABLED
returns-then-record_at-eq-ENABLED c =
    grows_enabled c.args.keyset.now c.args.id c.in-Some.place c.record_at.result.now c.in-Some.ensures.place c.record_at.ensures.record_there c.if-record_at-eq-ENABLED.true

pub returns-else-record_at-eq-ENABLED : goal.returns-else-record_at-eq-ENABLED
returns-else-record_at-eq-ENABLED c = at_enabled c.args.keyset.now c.args.id c.in-Some.place c.in-Some.ensures.place

pub returns-in-None : goal.returns-in-None
returns-in-None c = none_enabled c.args.keyset.now c.args.id c.in-None.ensures.place
