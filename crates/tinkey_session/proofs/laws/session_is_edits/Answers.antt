use Rattle.tinkey_session.proofs.TurnLemmas.{reached, session_is_edits}
use Rattle.tinkey_session.proofs.laws.session_is_edits.Goals as goal

pub returns : goal.returns
returns c = record { last = session_is_edits; each = λ table keys lines random i t e. (reached table lines keys random i t e).edited }
