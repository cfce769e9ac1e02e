use Rattle.std.proofs.Common.{refl}
use Rattle.base64.specs.GeneralPurpose.{decoded_of}
use Rattle.keyset_json.proofs.base64_text.decoded.Goals as goal

pub returns-in-Ok-clause-value : goal.returns-in-Ok-clause-value
unfolding decoded_of
returns-in-Ok-clause-value c = rw (c.own.ensures, ← c.as_bytes.ensures.value, c.in-Ok.ensures.ok) refl

pub returns-in-Ok-clause-strict : goal.returns-in-Ok-clause-strict
returns-in-Ok-clause-strict c strict =
    rw (c.own.ensures, ← c.as_bytes.ensures.value) (c.in-Ok.ensures.bytes, c.in-Ok.ensures.exact strict)

pub returns-in-Err-DecodeError-clause-value : goal.returns-in-Err-DecodeError-clause-value
unfolding decoded_of
returns-in-Err-DecodeError-clause-value c =
    rw (← c.as_bytes.ensures.value, rw c.in-Err-DecodeError.field-0-is at c.in-Err-DecodeError.ensures.err) refl

pub returns-in-Err-DecodeError-clause-strict : goal.returns-in-Err-DecodeError-clause-strict
returns-in-Err-DecodeError-clause-strict c strict bytes are is =
    let failed = rw c.in-Err-DecodeError.field-0-is at c.in-Err-DecodeError.ensures.err in
    let same = (c.decode.ensures.strict strict bytes are).1 (rw c.as_bytes.ensures.value is) in
    cc (failed, same)
