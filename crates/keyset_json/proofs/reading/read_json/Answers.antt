use Rattle.std.proofs.Common.{◌∙◌, length, sym, ap, arith}
use Rattle.keyset_json.specs.Reading.{without_fault}
use Rattle.keyset_json.proofs.ReadingLemmas.{stop_json, stop_whole, stop_primary, stop_records, keyset_built, value_handed_on, shape_handed_on, fault_handed_on}
use Rattle.keyset_json.proofs.SizeLemmas.{within_source, sizes_of, short_of, built_within}
use Rattle.keyset_model.specs.Keyset.{IsWithin, IsShort}
use Rattle.keyset_json.proofs.reading.read_json.Goals as goal

pub returns-in_err-value-clause-keyset : goal.returns-in_err-value-clause-keyset
returns-in_err-value-clause-keyset c =
    value_handed_on _ _ _ _ c.from_residual.ensures.1 c.in_err-value.ensures.none (rw c.without_newline.ensures (stop_json c.args.bytes.now))

pub returns-in_err-is_object-clause-keyset : goal.returns-in_err-is_object-clause-keyset
returns-in_err-is_object-clause-keyset c =
    shape_handed_on _ _ _ _ c.from_residual-in_err-is_object.ensures.1 (rw c.of_keyset.ensures at c.in_err-is_object.ensures.fault)
    (stop_whole c.args.bytes.now _ (rw c.without_newline.ensures at c.in_ok-value.ensures.value))

pub returns-in_err-primary-clause-keyset : goal.returns-in_err-primary-clause-keyset
returns-in_err-primary-clause-keyset c =
    shape_handed_on _ _ _ _ c.from_residual-in_err-primary.ensures.1 (rw c.of_keyset-2.ensures at c.in_err-primary.ensures)
    (stop_primary c.args.bytes.now _ (rw c.without_newline.ensures at c.in_ok-value.ensures.value)
    (rw c.of_keyset.ensures at c.in_ok-is_object.ensures.object))

pub returns-in_err-records-clause-keyset : goal.returns-in_err-records-clause-keyset
returns-in_err-records-clause-keyset c =
    shape_handed_on _ _ _ _ c.from_residual-in_err-records.ensures.1 c.in_err-records.ensures.fault
    (stop_records c.args.bytes.now _ (rw c.without_newline.ensures at c.in_ok-value.ensures.value)
    (rw c.of_keyset.ensures at c.in_ok-is_object.ensures.object)
    _ (rw c.of_keyset-2.ensures at c.in_ok-primary.ensures))

pub returns-in_err-keyset-clause-keyset : goal.returns-in_err-keyset-clause-keyset
returns-in_err-keyset-clause-keyset c =
    fault_handed_on _ _ _ c.from_residual-in_err-keyset.ensures.1
    (keyset_built c.args.bytes.now _ (rw c.without_newline.ensures at c.in_ok-value.ensures.value)
    (rw c.of_keyset.ensures at c.in_ok-is_object.ensures.object)
    _ (rw c.of_keyset-2.ensures at c.in_ok-primary.ensures)
    _ c.in_ok-records.ensures.records
    ∙ ap without_fault (sym c.in_err-keyset.ensures))

pub returns-clause-keyset : goal.returns-clause-keyset
returns-clause-keyset c =
    keyset_built c.args.bytes.now _ (rw c.without_newline.ensures at c.in_ok-value.ensures.value)
    (rw c.of_keyset.ensures at c.in_ok-is_object.ensures.object)
    _ (rw c.of_keyset-2.ensures at c.in_ok-primary.ensures)
    _ c.in_ok-records.ensures.records
    ∙ ap without_fault (sym c.in_ok-keyset.ensures)

pub build-requires : goal.build-requires
build-requires c = record {
  sizes = sizes_of (length c.args.bytes.now) _ (omega arith)
      (within_source c.args.bytes.now _ _ (rw c.without_newline.ensures at c.in_ok-value.ensures.value) c.in_ok-records.ensures.records);
}

pub returns-clause-within : goal.returns-clause-within
returns-clause-within c =
    built_within (IsWithin (length c.args.bytes.now)) _ _ c.in_ok-keyset.ensures
    (within_source c.args.bytes.now _ _ (rw c.without_newline.ensures at c.in_ok-value.ensures.value) c.in_ok-records.ensures.records)

pub returns-clause-short : goal.returns-clause-short
returns-clause-short c small =
    built_within IsShort _ _ c.in_ok-keyset.ensures
    (short_of (length c.args.bytes.now) _ small
    (within_source c.args.bytes.now _ _ (rw c.without_newline.ensures at c.in_ok-value.ensures.value) c.in_ok-records.ensures.records))
