use Rattle.std.proofs.Common.{◌∙◌, ap, sym, arith}
use Rattle.proto_wire.specs.Fields.{seen_all}
use Rattle.keyset_model.specs.Reading.{without_fault}
use Rattle.keyset_model.proofs.ReadingLemmas.{whole, primary_never_fails, keyset_handed_on, cut_fails, reading_fails, builds}
use Rattle.keyset_model.proofs.ReadBounds.{read-short}
use Rattle.keyset_model.proofs.reading.read_binary.Goals as goal

pub returns-in_err-message-clause-keyset : goal.returns-in_err-message-clause-keyset
returns-in_err-message-clause-keyset c =
    let bytes = c.args.bytes.now in
    keyset_handed_on _ _ _ c.from_residual.ensures.1 (cut_fails bytes bytes _ (rw whole at c.in_err-message.ensures.cut))

pub returns-in_err-records-clause-keyset : goal.returns-in_err-records-clause-keyset
returns-in_err-records-clause-keyset c =
    keyset_handed_on _ _ _ c.from_residual-in_err-records.ensures.1
    (reading_fails c.args.bytes.now _ _ (rw whole at c.in_ok-message.ensures.cut) c.in_err-records.ensures.fault)

pub returns-in_err-primary : goal.returns-in_err-primary
returns-in_err-primary c = absurd (primary_never_fails (seen_all c.args.bytes.now c.in_ok-message.message) _ c.in_ok-records.ensures.records.faultless (c.in_err-primary.ensures c.args.bytes.now))

pub returns-in_err-keyset-clause-keyset : goal.returns-in_err-keyset-clause-keyset
returns-in_err-keyset-clause-keyset c =
    keyset_handed_on _ _ _ c.from_residual-in_err-keyset.ensures.1
    (builds c.args.bytes.now _ _ _ (rw whole at c.in_ok-message.ensures.cut) (c.in_ok-primary.ensures c.args.bytes.now) c.in_ok-records.ensures.records
    ∙ ap without_fault (sym c.in_err-keyset.ensures))

pub returns-clause-keyset : goal.returns-clause-keyset
returns-clause-keyset c =
    builds c.args.bytes.now _ _ _ (rw whole at c.in_ok-message.ensures.cut) (c.in_ok-primary.ensures c.args.bytes.now) c.in_ok-records.ensures.records
    ∙ ap without_fault (sym c.in_ok-keyset.ensures)

pub returns-clause-short : goal.returns-clause-short
returns-clause-short c =
    read-short c.args.bytes.now _ (omega arith)
    (builds c.args.bytes.now _ _ _ (rw whole at c.in_ok-message.ensures.cut) (c.in_ok-primary.ensures c.args.bytes.now) c.in_ok-records.ensures.records
    ∙ ap without_fault (sym c.in_ok-keyset.ensures))
