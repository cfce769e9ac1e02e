-- A keyset by its parts, as edits keep them; that these are the well-formed ones is a law of
-- `keyset_model`.
use Rattle.std.proofs.Common.{◌≡◌, ℕ, ◌≤◌, true, List, [], ◌∷◌, length, None, arith, eq-eqb}
use Rattle.std.specs.List.{list_any, AllByRecursion}
use Rattle.std.proofs.lemmas.Bool.{false≢true, and_from}
use Rattle.keyset_model.specs.declared.record.Record.{Record}
use Rattle.keyset_model.specs.Keyset.{Keys, IsKnown, has_status, has_prefix, has_material, has_key_data, is_primary, fault_of}
use Rattle.keyset_model.specs.WellFormed.{HasData, IsPrimary}
use Rattle.keyset_model.proofs.WellFormedLemmas.{Lone, lone-places, whole-faultless, known_of, data_of, each_of_two}
use Rattle.keyset_model.proofs.FaultlessLemmas.{known_status, known_prefix, data_material, data_url, faultless-well_formed}
use Rattle.keyset_model.proofs.PrimaryLemmas.{found_passes, found_there, primary_id, primary_status, well_formed-faultless}
use Rattle.tinkey_cmds.proofs.Lists.{each-weaker}

-- what holds of each record of a keyset
pub record IsFine (r : Record) : Type 0 where
  pub status : has_status r ≡ true
  pub prefix : has_prefix r ≡ true
  pub material : has_material r ≡ true
  pub key_data : has_key_data r ≡ true

-- a keyset by what holds of each record, and of all
pub record IsGood (keys : Keys) : Type 0 where
  pub few : length keys.records ≤ 1000
  pub each : AllByRecursion IsFine keys.records
  pub primary : list_any (is_primary keys.primary) keys.records ≡ true
  pub lone : Lone (is_primary keys.primary) keys.records

fine_of : (r : Record) → IsKnown r → HasData r → IsFine r
fine_of r known has = record {
  status = known_status r known;
  prefix = known_prefix r known;
  material = data_material r has;
  key_data = data_url r has;
}

pub good-keyset : (keys : Keys) → fault_of keys ≡ None → IsGood keys
good-keyset keys faultless =
    let is = well_formed-faultless keys faultless in
    let whole = whole-faultless keys faultless in
    record {
      few = is.most;
      each = each_of_two IsKnown HasData IsFine keys.records fine_of is.known is.has_data;
      primary = whole.primary;
      lone = whole.lone;
    }

some_record : (primary : ℕ) (records : List Record) → list_any (is_primary primary) records ≡ true → 1 ≤ length records
some_record primary [] e = absurd (false≢true e)
some_record primary (r ∷ later) e = omega arith

-- a record that is primary passes the test
passes-primary : (primary : ℕ) (r : Record) → IsPrimary primary r → is_primary primary r ≡ true
passes-primary primary r is = and_from _ _ (eq-eqb r.id primary is.0) (eq-eqb r.status 1 is.1)

pub keyset-good : (keys : Keys) → IsGood keys → fault_of keys ≡ None
keyset-good keys g =
    let there = found_there (is_primary keys.primary) keys.records g.primary in
    let passes = found_passes (is_primary keys.primary) keys.records there.0 there.1 in
    faultless-well_formed keys (record {
      least = some_record keys.primary keys.records g.primary;
      most = g.few;
      known = each-weaker IsFine IsKnown keys.records (λ r f. known_of r f.status f.prefix) g.each;
      has_data = each-weaker IsFine HasData keys.records (λ r f. data_of r f.material f.key_data) g.each;
      primary = (there.0, there.1, primary_id keys.primary there.0 passes, primary_status keys.primary there.0 passes);
      one_primary = λ i j r s here also p q. lone-places (is_primary keys.primary) keys.records i j r s g.lone here also (passes-primary keys.primary r p) (passes-primary keys.primary s q);
    })
