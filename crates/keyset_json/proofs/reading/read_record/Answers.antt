use Rattle.serde_json.specs.View.{view}
use Rattle.keyset_json.proofs.ReadingLemmas.{stop_object, stop_data, stop_url, stop_value, stop_material, stop_status, stop_id, stop_prefix, whole_record, handed_on}
use Rattle.keyset_json.proofs.reading.read_record.Goals as goal

pub returns-in_err-is_object : goal.returns-in_err-is_object
returns-in_err-is_object c =
    handed_on _ _ _ _ c.from_residual.ensures.1 (rw c.of_key.ensures at c.in_err-is_object.ensures.fault)
    (stop_object c.args.i (view c.args.key.now))

pub returns-in_err-key_data : goal.returns-in_err-key_data
returns-in_err-key_data c =
    handed_on _ _ _ _ c.from_residual-in_err-key_data.ensures.1 (rw c.of_key-2.ensures at c.in_err-key_data.ensures.fault)
    (stop_data c.args.i (view c.args.key.now)
    _ (rw c.of_key.ensures at c.in_ok-is_object.ensures.object))

pub returns-in_err-url : goal.returns-in_err-url
returns-in_err-url c =
    handed_on _ _ _ _ c.from_residual-in_err-url.ensures.1 (rw c.of_key-3.ensures at c.in_err-url.ensures.fault)
    (stop_url c.args.i (view c.args.key.now)
    _ (rw c.of_key.ensures at c.in_ok-is_object.ensures.object)
    _ (rw (c.of_key-2.ensures) at c.in_ok-key_data.ensures.object))

pub returns-in_err-value : goal.returns-in_err-value
returns-in_err-value c =
    handed_on _ _ _ _ c.from_residual-in_err-value.ensures.1 (rw c.of_key-4.ensures at c.in_err-value.ensures)
    (stop_value c.args.i (view c.args.key.now)
    _ (rw c.of_key.ensures at c.in_ok-is_object.ensures.object)
    _ (rw (c.of_key-2.ensures) at c.in_ok-key_data.ensures.object)
    _ (rw c.of_key-3.ensures at c.in_ok-url.ensures.text))

pub returns-in_err-material : goal.returns-in_err-material
returns-in_err-material c =
    handed_on _ _ _ _ c.from_residual-in_err-material.ensures.1 (rw c.of_key-5.ensures at c.in_err-material.ensures)
    (stop_material c.args.i (view c.args.key.now)
    _ (rw c.of_key.ensures at c.in_ok-is_object.ensures.object)
    _ (rw (c.of_key-2.ensures) at c.in_ok-key_data.ensures.object)
    _ (rw c.of_key-3.ensures at c.in_ok-url.ensures.text)
    _ (rw c.of_key-4.ensures at c.in_ok-value.ensures))

pub returns-in_err-status : goal.returns-in_err-status
returns-in_err-status c =
    handed_on _ _ _ _ c.from_residual-in_err-status.ensures.1 (rw c.of_key-6.ensures at c.in_err-status.ensures)
    (stop_status c.args.i (view c.args.key.now)
    _ (rw c.of_key.ensures at c.in_ok-is_object.ensures.object)
    _ (rw (c.of_key-2.ensures) at c.in_ok-key_data.ensures.object)
    _ (rw c.of_key-3.ensures at c.in_ok-url.ensures.text)
    _ (rw c.of_key-4.ensures at c.in_ok-value.ensures)
    _ (rw c.of_key-5.ensures at c.in_ok-material.ensures))

pub returns-in_err-id : goal.returns-in_err-id
returns-in_err-id c =
    handed_on _ _ _ _ c.from_residual-in_err-id.ensures.1 (rw c.of_key-7.ensures at c.in_err-id.ensures)
    (stop_id c.args.i (view c.args.key.now)
    _ (rw c.of_key.ensures at c.in_ok-is_object.ensures.object)
    _ (rw (c.of_key-2.ensures) at c.in_ok-key_data.ensures.object)
    _ (rw c.of_key-3.ensures at c.in_ok-url.ensures.text)
    _ (rw c.of_key-4.ensures at c.in_ok-value.ensures)
    _ (rw c.of_key-5.ensures at c.in_ok-material.ensures)
    _ (rw c.of_key-6.ensures at c.in_ok-status.ensures))

pub returns-in_err-prefix : goal.returns-in_err-prefix
returns-in_err-prefix c =
    handed_on _ _ _ _ c.from_residual-in_err-prefix.ensures.1 (rw c.of_key-8.ensures at c.in_err-prefix.ensures)
    (stop_prefix c.args.i (view c.args.key.now)
    _ (rw c.of_key.ensures at c.in_ok-is_object.ensures.object)
    _ (rw (c.of_key-2.ensures) at c.in_ok-key_data.ensures.object)
    _ (rw c.of_key-3.ensures at c.in_ok-url.ensures.text)
    _ (rw c.of_key-4.ensures at c.in_ok-value.ensures)
    _ (rw c.of_key-5.ensures at c.in_ok-material.ensures)
    _ (rw c.of_key-6.ensures at c.in_ok-status.ensures)
    _ (rw c.of_key-7.ensures at c.in_ok-id.ensures))

pub returns : goal.returns
returns c =
    rw c.in_ok-copy.ensures (whole_record c.args.i (view c.args.key.now)
    _ (rw c.of_key.ensures at c.in_ok-is_object.ensures.object)
    _ (rw (c.of_key-2.ensures) at c.in_ok-key_data.ensures.object)
    _ (rw c.of_key-3.ensures at c.in_ok-url.ensures.text)
    _ (rw c.of_key-4.ensures at c.in_ok-value.ensures)
    _ (rw c.of_key-5.ensures at c.in_ok-material.ensures)
    _ (rw c.of_key-6.ensures at c.in_ok-status.ensures)
    _ (rw c.of_key-7.ensures at c.in_ok-id.ensures)
    _ (rw c.of_key-8.ensures at c.in_ok-prefix.ensures))
