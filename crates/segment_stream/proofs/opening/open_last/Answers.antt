use Rattle.std.proofs.Common.{sym, ◌∙◌, ap, arith, true}
use Rattle.tink_spec.specs.Outside.{SinkState}
use Rattle.segment_stream.proofs.Followed.{last_fails, last_opens, last_unwritten}
use Rattle.segment_stream.proofs.opening.open_last.Goals as goal

pub returns-in-Written-clause-opened : goal.returns-in-Written-clause-opened
returns-in-Written-clause-opened g c = λ cipher header taken written u s.
    let h = c.in-Written.ensures.ends in
    last_opens cipher header taken written c.args.number c.args.segment.now h.0 _ _ u.is c.requires.least c.requires.most (omega (arith, c.requires.short, u.size)) s (sym (u.opens c.args.number true c.args.segment.now) ∙ h.1) h.2

pub returns-in-Unwritten-clause-fault : goal.returns-in-Unwritten-clause-fault
returns-in-Unwritten-clause-fault g c = λ cipher header taken written u s.
    let h = c.in-Unwritten.ensures.ends in
    last_unwritten cipher header taken written c.args.number c.args.segment.now h.0 _ _ u.is c.requires.least c.requires.most (omega (arith, c.requires.short, u.size)) s (sym (u.opens c.args.number true c.args.segment.now) ∙ h.1) h.3

pub returns-in-Unwritten-clause-shown : goal.returns-in-Unwritten-clause-shown
returns-in-Unwritten-clause-shown g c = let h = c.in-Unwritten.ensures.ends in (h.2, h.4)

pub returns-in-Refused-clause-fault : goal.returns-in-Refused-clause-fault
returns-in-Refused-clause-fault g c = λ cipher header taken written u s.
    let h = c.in-Refused.ensures.ends in
    last_fails cipher header taken written c.args.number c.args.segment.now _ _ u.is c.requires.least c.requires.most (omega (arith, c.requires.short, u.size)) s (sym (u.opens c.args.number true c.args.segment.now) ∙ h.0) h.1

pub returns-in-Refused-clause-shown : goal.returns-in-Refused-clause-shown
returns-in-Refused-clause-shown g c = ap (λ (t : SinkState). t.faults) (sym c.in-Refused.ensures.ends.1)
