use Rattle.tinkey_readable.proofs.EndedLemmas.{readable_ends}
use Rattle.tinkey_readable.proofs.ReadableLemmas.{are_readable, readable_answer}
use Rattle.tinkey_readable.proofs.laws.sessions_are_readable.Goals as goal

pub returns-clause-ended : goal.returns-clause-ended
returns-clause-ended c = readable_ends (are_readable c.session_opens.ensures c.session_dopens.ensures c.session_opens_present.ensures c.session_dopens_present.ensures c.session_verifies.ensures) c.saves_are_turns.ensures c.read_keysets_fit.ensures

pub returns-clause-answered : goal.returns-clause-answered
returns-clause-answered c = readable_answer c.session_opens.ensures c.session_dopens.ensures c.session_opens_present.ensures c.session_dopens_present.ensures c.session_verifies.ensures c.saves_are_turns.ensures c.read_keysets_fit.ensures
