use Rattle.seal_wrap.proofs.FieldLemmas.{fault_handed_on, of_source, so_far_passes, so_far_skips, so_far_stops_three, so_far_stops_two, so_far_takes}
use Rattle.seal_wrap.proofs.encrypted.binary_form.encrypted_bytes.Goals as goal
use Rattle.seal_wrap.proofs.encrypted.binary_form.encrypted_bytes.Goals.{then-field-eq-ENCRYPTED_KEYSET+in_ok-sealed, else-field-eq-ENCRYPTED_KEYSET+then-field-eq-KEYSET_INFO+in_ok-bytes_at, else-field-eq-ENCRYPTED_KEYSET+else-field-eq-KEYSET_INFO}

pub returns-in_err-sealed-clause-fault : goal.returns-in_err-sealed-clause-fault
returns-in_err-sealed-clause-fault c =
    fault_handed_on _ _ _ c.from_residual.ensures.1
    (so_far_stops_two _ _ _ _ _ c.loop-i.invariant c.field-field.ensures _ c.if-field-eq-ENCRYPTED_KEYSET.true c.in_err-sealed.ensures.other)

pub bytes_at-requires-then-field-eq-KEYSET_INFO : goal.bytes_at-requires-then-field-eq-KEYSET_INFO
bytes_at-requires-then-field-eq-KEYSET_INFO c = record { of_source = of_source _ _ _ _ c.requires.of_source c.field-field.ensures }

pub returns-in_err-bytes_at-clause-fault : goal.returns-in_err-bytes_at-clause-fault
returns-in_err-bytes_at-clause-fault c =
    fault_handed_on _ _ _ c.from_residual-in_err-bytes_at.ensures.1
    (so_far_stops_three _ _ _ _ _ c.loop-i.invariant c.field-field.ensures _ c.if-field-eq-KEYSET_INFO.true c.in_err-bytes_at.ensures.other)

pub loop-i-preserved : goal.loop-i-preserved
loop-i-preserved c = elim c.if-field-eq-ENCRYPTED_KEYSET.branch [
  | then-field-eq-ENCRYPTED_KEYSET+in_ok-sealed w ↦ rw w.sealed-is
      (so_far_takes _ _ _ _ _ c.loop-i.invariant c.field-field.ensures _ w.if-field-eq-ENCRYPTED_KEYSET.true w.in_ok-sealed.ensures.bytes)
  | else-field-eq-ENCRYPTED_KEYSET+then-field-eq-KEYSET_INFO+in_ok-bytes_at w ↦ rw w.sealed-is
      (so_far_passes _ _ _ _ _ c.loop-i.invariant c.field-field.ensures _ w.if-field-eq-KEYSET_INFO.true w.in_ok-bytes_at.ensures.bytes)
  | else-field-eq-ENCRYPTED_KEYSET+else-field-eq-KEYSET_INFO w ↦ rw w.sealed-is
      (so_far_skips _ _ _ _ _ c.loop-i.invariant c.field-field.ensures w.if-field-eq-ENCRYPTED_KEYSET.false w.if-field-eq-KEYSET_INFO.false)
]
