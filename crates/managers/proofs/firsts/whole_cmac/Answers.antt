use Rattle.std.proofs.Common.{[]}
use Rattle.mac_prf.specs.CmacState.{Holds}
use Rattle.managers.specs.Uses.{tagged}
use Rattle.managers.proofs.firsts.whole_cmac.Goals as goal
use Rattle.managers.proofs.firsts.whole_cmac.Goals.{then-zero, else-zero}

pub returns : goal.returns
returns c =
    let key = c.args.aes.now in
    let empty : Holds c.under-state.result key [] = c.under-state.ensures in
    let body : Holds c.update.new.self key c.args.body.now = c.update.ensures key [] empty in
    c.finish.ensures key (tagged c.args.zero c.args.body.now)
    (elim c.if-zero.branch [
      | then-zero w ↦ rw (w.if-zero.true, w.state-is) (w.update-then-zero.ensures key c.args.body.now body)
      | else-zero w ↦ rw (w.if-zero.false, w.state-is) body
    ])
