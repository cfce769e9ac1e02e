use Rattle.tinkey_readable.proofs.HidingLemmas.{listed_alike, listing_hides_keys, reports_go_by_status}
use Rattle.tinkey_readable.proofs.laws.listing_hides_keys.Goals as goal

pub returns : goal.returns
returns c = record { listing = listing_hides_keys; listed = listed_alike; reports = reports_go_by_status }
