use Rattle.std.proofs.Common.{◌++◌, arith, true}
use Rattle.segment_stream.specs.Pumping.{opening_under}
use Rattle.segment_stream.proofs.Followed.{err_more, halts_after, on_ok_more, opened_after, shows_later}
use Rattle.segment_stream.proofs.SegmentLemmas.{still_under}
use Rattle.segment_stream.proofs.opening.finish_under.Goals as goal

pub returns-in-Ok-clause-opened : goal.returns-in-Ok-clause-opened
returns-in-Ok-clause-opened g c =
    on_ok_more c.open_last.result _ _
    (λ last cipher header taken written u s.
    let o = c.in-Ok.ensures.opened cipher header taken written u s in
    opened_after (opening_under cipher) taken written o.more _ _ _ o.took
    (last cipher header taken (written ++ o.more) (still_under _ _ cipher header c.open_followed.ensures.stream u) o.stands))
    c.open_last.ensures.opened

pub returns-in-Ok-clause-fault : goal.returns-in-Ok-clause-fault
returns-in-Ok-clause-fault g c =
    err_more c.open_last.result _ _
    (λ fault last cipher header taken written u s.
    let o = c.in-Ok.ensures.opened cipher header taken written u s in
    halts_after (opening_under cipher) fault taken written o.more _ _ _ _ o.took
    (last cipher header taken (written ++ o.more) (still_under _ _ cipher header c.open_followed.ensures.stream u) o.stands))
    c.open_last.ensures.fault

pub returns-in-Ok-clause-shown : goal.returns-in-Ok-clause-shown
returns-in-Ok-clause-shown g c = shows_later c.open_last.result _ _ _ c.in-Ok.ensures.shown c.open_last.ensures.shown

pub returns-in-Err-clause-fault : goal.returns-in-Err-clause-fault
returns-in-Err-clause-fault g c = λ cipher header taken written u s. c.in-Err.ensures.fault cipher header taken written true u s

pub open_last-requires-clause-least : goal.open_last-requires-clause-least
open_last-requires-clause-least g c = omega (arith, c.requires.least, c.in-Ok.ensures.least)
