use Rattle.std.proofs.lemmas.List.{append-nil}
use Rattle.mac_prf.specs.HmacState.{hash_of, Holds}
use Rattle.mac_prf.proofs.hmac.Hmac.new.Goals as goal

pub returns-clause-holds : goal.returns-clause-holds
unfolding Holds
returns-clause-holds c =
    let key = c.key_in_a_block-block.ensures in
    (rw append-nil (rw key at c.after_pad.ensures), rw key at c.after_pad-2.ensures)

pub returns-clause-under : goal.returns-clause-under
unfolding hash_of
returns-clause-under c = c.after_pad.ensures.0
