use Rattle.tinkey_session.proofs.DistinctLemmas.{all_ids_stay_distinct, firsts_have_distinct_ids, ids_stay_distinct, kept_by_its_id, no_other_to_enable}
use Rattle.tinkey_session.proofs.laws.edits_keep_ids_distinct.Goals as goal

pub returns : goal.returns
returns c = record {
  one = ids_stay_distinct;
  all = all_ids_stay_distinct;
  firsts = firsts_have_distinct_ids;
  no_other = no_other_to_enable;
  kept = kept_by_its_id;
}
