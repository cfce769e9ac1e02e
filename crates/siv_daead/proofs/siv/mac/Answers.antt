-- The empty message, with the two pieces behind it.
use Rattle.std.proofs.Common.{[], ◌++◌}
use Rattle.siv_daead.proofs.siv.mac.Goals as goal

pub returns : goal.returns
returns c =
    let key = c.args.key.now in
    let front = c.args.front.now in
    c.finish.ensures key (front ++ c.args.back.now)
    (c.update-2.ensures key front (c.update.ensures key [] c.under-state.ensures))
