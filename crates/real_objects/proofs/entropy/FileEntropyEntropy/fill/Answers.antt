use Rattle.std.proofs.Common.{rules, length}
use Rattle.real_objects.proofs.DeviceLemmas.{device_short}
use Rattle.real_objects.proofs.entropy.FileEntropyEntropy.fill.Goals as goal

pub returns-in-Err-clause-failed : goal.returns-in-Err-clause-failed
returns-in-Err-clause-failed g c =
    device_short g.O.Opens.given g.O.Device.Read.remaining c.args.self.now (record c.draw.new.self { faults = c.saturating_add-self.result }) (length c.args.out.now)
    c.draw.ensures.untold c.in-Err.ensures.goes_on (search rules) (search rules)
