use Rattle.std.proofs.Common.{refl}
use Rattle.keyset_model.specs.Reading.{record_of}
use Rattle.keyset_model.proofs.KeyLemmas.{wire_handed_on, fields_handed_on}
use Rattle.keyset_model.proofs.key.read_record.Goals as goal

pub returns-in_err-key_data-clause-key : goal.returns-in_err-key_data-clause-key
unfolding record_of
returns-in_err-key_data-clause-key c = fields_handed_on c.args.source.now _ _ _ _ c.from_residual.ensures.1 c.in_err-key_data.ensures.merged (λ at is. rw is refl)

pub returns-in_err-url-clause-key : goal.returns-in_err-url-clause-key
unfolding record_of
returns-in_err-url-clause-key c = wire_handed_on _ _ _ c.from_residual-in_err-url.ensures.1 (rw (c.in_ok-key_data.ensures.merged, c.in_err-url.ensures.fault) refl)

pub returns-in_err-start-clause-key : goal.returns-in_err-start-clause-key
unfolding record_of
returns-in_err-start-clause-key c =
    let source = c.args.source.now in
    wire_handed_on _ _ _ c.from_residual-in_err-start.ensures.1
    (rw (c.in_ok-key_data.ensures.merged, c.in_ok-url.ensures.text.1, c.in_err-start.ensures source c.in_ok-key_data.ensures.of_source) refl)

pub returns-in_err-material-clause-key : goal.returns-in_err-material-clause-key
unfolding record_of
returns-in_err-material-clause-key c =
    let source = c.args.source.now in
    wire_handed_on _ _ _ c.from_residual-in_err-material.ensures.1
    (rw (c.in_ok-key_data.ensures.merged, c.in_ok-url.ensures.text.1, (c.in_ok-start.ensures source c.in_ok-key_data.ensures.of_source).2, c.in_err-material.ensures source) refl)

pub returns-in_err-status-clause-key : goal.returns-in_err-status-clause-key
unfolding record_of
returns-in_err-status-clause-key c =
    let source = c.args.source.now in
    wire_handed_on _ _ _ c.from_residual-in_err-status.ensures.1
    (rw (c.in_ok-key_data.ensures.merged, c.in_ok-url.ensures.text.1, (c.in_ok-start.ensures source c.in_ok-key_data.ensures.of_source).2, c.in_ok-material.ensures source, c.in_err-status.ensures source) refl)

pub returns-in_err-id-clause-key : goal.returns-in_err-id-clause-key
unfolding record_of
returns-in_err-id-clause-key c =
    let source = c.args.source.now in
    wire_handed_on _ _ _ c.from_residual-in_err-id.ensures.1
    (rw (c.in_ok-key_data.ensures.merged, c.in_ok-url.ensures.text.1, (c.in_ok-start.ensures source c.in_ok-key_data.ensures.of_source).2, c.in_ok-material.ensures source, c.in_ok-status.ensures source, c.in_err-id.ensures source) refl)

pub returns-in_err-prefix-clause-key : goal.returns-in_err-prefix-clause-key
unfolding record_of
returns-in_err-prefix-clause-key c =
    let source = c.args.source.now in
    wire_handed_on _ _ _ c.from_residual-in_err-prefix.ensures.1
    (rw (c.in_ok-key_data.ensures.merged, c.in_ok-url.ensures.text.1, (c.in_ok-start.ensures source c.in_ok-key_data.ensures.of_source).2, c.in_ok-material.ensures source, c.in_ok-status.ensures source, c.in_ok-id.ensures source, c.in_err-prefix.ensures source) refl)

pub returns-clause-key : goal.returns-clause-key
unfolding record_of
returns-clause-key c =
    let source = c.args.source.now in
    rw (c.in_ok-key_data.ensures.merged, c.in_ok-url.ensures.text.1, (c.in_ok-start.ensures source c.in_ok-key_data.ensures.of_source).2, c.in_ok-material.ensures source, c.in_ok-status.ensures source, c.in_ok-id.ensures source, c.in_ok-prefix.ensures source, c.in_ok-copy.ensures, c.in_ok-copy-2.ensures) refl
