-- A listing without the keys, and reports by their status.
use Rattle.std.proofs.Common.{◌≡◌, ◌∙◌, refl, sym, ap, ℕ, List, [], ◌∷◌, ◌++◌, map, option_map, Some, codes}
use Rattle.std.specs.Fmt.{decimal}
use Rattle.std.specs.List.{flat_map}
use Rattle.std.proofs.lemmas.List.{append-nil}
use Rattle.keyset_model.specs.Keyset.{Keys}
use Rattle.keyset_model.specs.Listing.{info_of, record_lines}
use Rattle.keyset_model.specs.declared.record.Record.{Record}
use Rattle.seal_wrap.specs.Info.{without_key, without_keys}
use Rattle.tink_spec.specs.Outside.{SinkState}
use Rattle.tinkey_plans.specs.declared.origin.Origin.TheVariants as origins
use Rattle.tinkey_plans.specs.Plan.{Plan, writes}
use Rattle.tinkey_plans.specs.Status.{Reports, behind_line, line_of, write_failed, wrote}
use Rattle.tinkey_plans.specs.Steps.{works_out}
use Rattle.tinkey_plans.specs.declared.mention.Mention.{Mention}
use Rattle.tinkey_plans.specs.declared.status.Status.{Status}
use Rattle.tinkey_readable.proofs.LyingLemmas.{behind_reached}
use Rattle.tinkey_readable.specs.Hiding.{ListedAlike, ListingHidesKeys, ReportsGoByStatus, TookOf}

lines-without_key : (r : Record) → record_lines (without_key r) ≡ record_lines r
unfolding record_lines
lines-without_key r = refl

lines-without_keys : (records : List Record) → flat_map record_lines (map without_key records) ≡ flat_map record_lines records
lines-without_keys [] = refl
lines-without_keys (r ∷ later) =
    ap (λ l. l ++ flat_map record_lines (map without_key later)) (lines-without_key r) ∙ ap (λ l. record_lines r ++ l) (lines-without_keys later)

info-without_keys : (keys : Keys) → info_of (without_keys keys) ≡ info_of keys
unfolding info_of
info-without_keys keys = ap (λ l. codes "primary_key_id: " ++ decimal keys.primary ++ codes "\n" ++ l) (lines-without_keys keys.records)

pub listing_hides_keys : ListingHidesKeys
listing_hides_keys keys other same = sym (info-without_keys keys) ∙ ap info_of same ∙ info-without_keys other

abbrev lists : Keys → Plan
lists keys = works_out (info_of keys) writes

pub listed_alike : ListedAlike
listed_alike table lock behind' in' from told other one two lies there same =
    ap (λ a. a.output) (behind_reached origins.In table lock in' one lists told lies)
    ∙ listing_hides_keys one two same
    ∙ sym (ap (λ a. a.output) (behind_reached origins.In table behind' from two lists other there))

reported : (mention : Mention) (s : Status) (old new : SinkState) (before : List ℕ) → old.written ≡ Some before → Reports mention s old new → TookOf (line_of s ++ behind_line mention s) old new before
reported mention s old new before is (wrote took) = record {
  front = line_of s ++ behind_line mention s;
  rest = [];
  whole = append-nil (line_of s ++ behind_line mention s);
  written = took.written ∙ ap (option_map (λ held. held ++ (line_of s ++ behind_line mention s))) is;
  all = λ stood. refl;
}
reported mention s old new before is (write_failed rose took) = record {
  front = took.front;
  rest = took.rest;
  whole = took.whole;
  written = took.took.written ∙ ap (option_map (λ held. held ++ took.front)) is;
  all = λ stood. absurd (stood rose);
}

pub reports_go_by_status : ReportsGoByStatus
reports_go_by_status mention s = (line_of s ++ behind_line mention s, reported mention s)
