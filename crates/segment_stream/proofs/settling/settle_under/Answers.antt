use Rattle.std.proofs.Common.{ap, arith}
use Rattle.std.proofs.lemmas.List.{length-take-le}
use Rattle.segment_stream.specs.Streams.{StreamState}
use Rattle.segment_stream.proofs.ArrivingLemmas.{halts_under, settled_under}
use Rattle.segment_stream.proofs.Trials.{chosen_now}
use Rattle.segment_stream.proofs.settling.settle_under.Goals as goal

pub returns-in-Ok-clause-fits : goal.returns-in-Ok-clause-fits
returns-in-Ok-clause-fits g c = λ count most lt.
    let size = ap (λ (s : StreamState). s.size) c.open_followed.ensures.stream in
    (omega (arith, c.requires.some, size), omega (arith, lt, size), omega (arith, c.requires.least, c.in-Ok.ensures.least), c.in-Ok.ensures.most)

pub returns-in-Ok-clause-settled : goal.returns-in-Ok-clause-settled
returns-in-Ok-clause-settled g c = λ ciphers taken written x.
    settled_under ciphers c.args.stream _ c.args.number c.in-Ok.rest.0 taken _ _ written _ _ x c.open_followed.ensures.stream
    (c.in-Ok.ensures.opened x.key x.header taken written x.under x.stands)
    (omega (arith, c.in-Ok.ensures.short, length-take-le c.in-Ok.rest.1 c.open_followed.new.buffer (omega (arith, c.in-Ok.ensures.within, c.open_followed.auto.buffer))))
    c.in-Ok.ensures.most

pub returns-in-Err-clause-fault : goal.returns-in-Err-clause-fault
returns-in-Err-clause-fault g c = λ ciphers taken written x.
    halts_under ciphers x.key c.in-Err.fault taken written _ _ _ (chosen_now ciphers x.key taken _ x.choice)
    (c.in-Err.ensures.fault x.key x.header taken written _ x.under x.stands)
