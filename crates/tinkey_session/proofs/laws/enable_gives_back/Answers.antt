use Rattle.tinkey_session.proofs.EnabledLemmas.{data_stays, enable_gives_back, enabled_is_alone}
use Rattle.tinkey_session.proofs.KeptLineLemmas.{session_data_stays}
use Rattle.tinkey_session.proofs.laws.enable_gives_back.Goals as goal

pub returns : goal.returns
returns c = record { alone = enabled_is_alone; stays = data_stays; session = session_data_stays; back = enable_gives_back }
