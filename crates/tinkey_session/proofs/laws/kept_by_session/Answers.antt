use Rattle.tinkey_session.proofs.KeptLineLemmas.{kept_by_lines, kept_by_session, line_ids_stay_distinct, lines_of_others_spare, session_ids_stay_distinct}
use Rattle.tinkey_session.proofs.laws.kept_by_session.Goals as goal

pub returns : goal.returns
returns c = record {
  turns = kept_by_lines;
  last = kept_by_session;
  apart = line_ids_stay_distinct;
  apart_last = session_ids_stay_distinct;
  others = lines_of_others_spare;
}
