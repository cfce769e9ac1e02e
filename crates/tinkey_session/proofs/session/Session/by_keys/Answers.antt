use Rattle.tinkey_session.proofs.KeepLemmas.{fit_refused, kept_held, kept_serves}
use Rattle.tinkey_session.proofs.session.Session.by_keys.Goals as goal

pub returns-in-Some-clause-serves : goal.returns-in-Some-clause-serves
returns-in-Some-clause-serves g c =
    rw c.fit.ensures.keyset (fit_refused _ c.args.primitive _ _ c.in-Err.fault _ _ c.requires.needs c.in-Err.ensures.fault c.in-Some.ensures)

pub answer-requires-clause-held : goal.answer-requires-clause-held
answer-requires-clause-held g c =
    let kept = rw c.in-Some-kept.is at c.fit.ensures.kept in
    let own = rw c.in-Some-kept.is at c.in_default.ensures.fits in
    (c.fit.new.self.keyset, kept_held _ _ c.args.primitive _ _ _ _ kept own c.requires.needs)

pub returns-clause-serves : goal.returns-clause-serves
returns-clause-serves g c =
    let kept = rw c.in-Some-kept.is at c.fit.ensures.kept in
    let own = rw c.in-Some-kept.is at c.in_default.ensures.fits in
    kept_serves _ _ _ c.args.primitive _ _ _ _ _ _ _ _ c.fit.ensures.table c.fit.ensures.keyset kept own c.requires.needs c.answer.ensures
