use Rattle.std.proofs.Common.{refl}
use Rattle.tink_spec.proofs.Moves.{took_more}
use Rattle.tinkey_talk.proofs.FeedLemmas.{held_cut, prefix_more}
use Rattle.tinkey_talk.proofs.talk.write_both.Goals as goal

pub returns-in-Err-clause-prefix : goal.returns-in-Err-clause-prefix
returns-in-Err-clause-prefix g c = prefix_more _ _ _ _ c.in-Err.ensures.prefix

pub returns-in-Ok-write_all-clause-all : goal.returns-in-Ok-write_all-clause-all
returns-in-Ok-write_all-clause-all g c = took_more _ _ _ _ _ c.in-Ok.ensures.all c.in-Ok-write_all.ensures.all

pub returns-in-Err-write_all-clause-prefix : goal.returns-in-Err-write_all-clause-prefix
returns-in-Err-write_all-clause-prefix g c =
    held_cut _ _ _ _ c.args.reply.now c.args.reply.now (record { piece = c.args.replies.now.items; took = c.in-Ok.ensures.all; whole = refl }) c.in-Err-write_all.ensures.prefix
