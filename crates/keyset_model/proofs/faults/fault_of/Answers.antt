-- The answer of each exit: the faults before it are none.
use Rattle.std.proofs.Common.{not, ap}
use Rattle.keyset_model.specs.declared.keyset.KeysetRefusal.TheVariants.{UnknownStatus, UnknownPrefix, UnknownMaterial, MissingKeyData}
use Rattle.keyset_model.specs.Keyset.{fault_of, ambiguous}
use Rattle.keyset_model.proofs.Exits.{here, on, end, holds, fails, more, fewer, at, nowhere}
use Rattle.keyset_model.proofs.faults.fault_of.Goals as goal

pub returns-then-is_empty : goal.returns-then-is_empty
unfolding fault_of
returns-then-is_empty c = here _ (holds _ c.if-is_empty.ensures)

pub returns-then-records-gt-MOST_RECORDS : goal.returns-then-records-gt-MOST_RECORDS
unfolding fault_of
returns-then-records-gt-MOST_RECORDS c = on _ (fails _ c.if-is_empty.ensures) (here _ (more _ _ c.if-records-gt-MOST_RECORDS.true))

pub returns-in-Some : goal.returns-in-Some
unfolding fault_of
returns-in-Some c = on _ (fails _ c.if-is_empty.ensures) (on _ (fewer _ _ c.if-records-gt-MOST_RECORDS.false) (here _ (at UnknownStatus c.in-Some.ensures)))

pub returns-in-Some-place_without_prefix : goal.returns-in-Some-place_without_prefix
unfolding fault_of
returns-in-Some-place_without_prefix c = on _ (fails _ c.if-is_empty.ensures) (on _ (fewer _ _ c.if-records-gt-MOST_RECORDS.false) (on _ (nowhere UnknownStatus c.in_default.ensures) (here _ (at UnknownPrefix c.in-Some-place_without_prefix.ensures))))

pub returns-in-Some-place_without_material : goal.returns-in-Some-place_without_material
unfolding fault_of
returns-in-Some-place_without_material c = on _ (fails _ c.if-is_empty.ensures) (on _ (fewer _ _ c.if-records-gt-MOST_RECORDS.false) (on _ (nowhere UnknownStatus c.in_default.ensures) (on _ (nowhere UnknownPrefix c.in_default-place_without_prefix.ensures) (here _ (at UnknownMaterial c.in-Some-place_without_material.ensures)))))

pub returns-in-Some-place_without_key_data : goal.returns-in-Some-place_without_key_data
unfolding fault_of
returns-in-Some-place_without_key_data c = on _ (fails _ c.if-is_empty.ensures) (on _ (fewer _ _ c.if-records-gt-MOST_RECORDS.false) (on _ (nowhere UnknownStatus c.in_default.ensures) (on _ (nowhere UnknownPrefix c.in_default-place_without_prefix.ensures) (on _ (nowhere UnknownMaterial c.in_default-place_without_material.ensures) (here _ (at MissingKeyData c.in-Some-place_without_key_data.ensures))))))

pub returns-then-not-has_any : goal.returns-then-not-has_any
unfolding fault_of
returns-then-not-has_any c = on _ (fails _ c.if-is_empty.ensures) (on _ (fewer _ _ c.if-records-gt-MOST_RECORDS.false) (on _ (nowhere UnknownStatus c.in_default.ensures) (on _ (nowhere UnknownPrefix c.in_default-place_without_prefix.ensures) (on _ (nowhere UnknownMaterial c.in_default-place_without_material.ensures) (on _ (nowhere MissingKeyData c.in_default-place_without_key_data.ensures) (here _ (holds _ (ap not c.if-not-has_any.ensures))))))))

pub returns-then-not-has_primary : goal.returns-then-not-has_primary
unfolding fault_of
returns-then-not-has_primary c = on _ (fails _ c.if-is_empty.ensures) (on _ (fewer _ _ c.if-records-gt-MOST_RECORDS.false) (on _ (nowhere UnknownStatus c.in_default.ensures) (on _ (nowhere UnknownPrefix c.in_default-place_without_prefix.ensures) (on _ (nowhere UnknownMaterial c.in_default-place_without_material.ensures) (on _ (nowhere MissingKeyData c.in_default-place_without_key_data.ensures) (on _ (fails _ (ap not c.if-not-has_any.ensures)) (here _ (holds _ (ap not c.if-not-has_primary.ensures)))))))))

pub returns-in-Some-first_two_primaries : goal.returns-in-Some-first_two_primaries
unfolding fault_of
returns-in-Some-first_two_primaries c = on _ (fails _ c.if-is_empty.ensures) (on _ (fewer _ _ c.if-records-gt-MOST_RECORDS.false) (on _ (nowhere UnknownStatus c.in_default.ensures) (on _ (nowhere UnknownPrefix c.in_default-place_without_prefix.ensures) (on _ (nowhere UnknownMaterial c.in_default-place_without_material.ensures) (on _ (nowhere MissingKeyData c.in_default-place_without_key_data.ensures) (on _ (fails _ (ap not c.if-not-has_any.ensures)) (on _ (fails _ (ap not c.if-not-has_primary.ensures)) (here _ (at ambiguous c.in-Some-first_two_primaries.ensures)))))))))

pub returns : goal.returns
unfolding fault_of
returns c = on _ (fails _ c.if-is_empty.ensures) (on _ (fewer _ _ c.if-records-gt-MOST_RECORDS.false) (on _ (nowhere UnknownStatus c.in_default.ensures) (on _ (nowhere UnknownPrefix c.in_default-place_without_prefix.ensures) (on _ (nowhere UnknownMaterial c.in_default-place_without_material.ensures) (on _ (nowhere MissingKeyData c.in_default-place_without_key_data.ensures) (on _ (fails _ (ap not c.if-not-has_any.ensures)) (on _ (fails _ (ap not c.if-not-has_primary.ensures)) (on _ (nowhere ambiguous c.in_default-first_two_primaries.ensures) end))))))))
