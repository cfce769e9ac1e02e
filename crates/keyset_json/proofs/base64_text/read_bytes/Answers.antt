use Rattle.std.proofs.lemmas.Result.{IfOk-weaker}
use Rattle.base64.specs.GeneralPurpose.{decoded_of}
use Rattle.keyset_json.proofs.Base64Lemmas.{first, second, third, last}
use Rattle.keyset_json.proofs.base64_text.read_bytes.Goals as goal

pub returns-in-Some-clause-value : goal.returns-in-Some-clause-value
unfolding decoded_of
returns-in-Some-clause-value c = first c.args.text.now _ (rw c.in-Some.is at c.in_ok-bytes.ensures.value)

pub returns-in-Some-2-clause-value : goal.returns-in-Some-2-clause-value
unfolding decoded_of
returns-in-Some-2-clause-value c =
    second c.args.text.now _ (rw c.in_default.is at c.in_ok-bytes.ensures.value) (rw c.in-Some-2.is at c.in_ok-bytes-2.ensures.value)

pub returns-in-Some-3-clause-value : goal.returns-in-Some-3-clause-value
unfolding decoded_of
returns-in-Some-3-clause-value c =
    third c.args.text.now _ (rw c.in_default.is at c.in_ok-bytes.ensures.value) (rw c.in_default-2.is at c.in_ok-bytes-2.ensures.value)
    (rw c.in-Some-3.is at c.in_ok-bytes-3.ensures.value)

pub returns-clause-value : goal.returns-clause-value
unfolding decoded_of
returns-clause-value c =
    IfOk-weaker c.decoded-4.result _ _
    (λ bytes is. last c.args.text.now bytes (rw c.in_default.is at c.in_ok-bytes.ensures.value) (rw c.in_default-2.is at c.in_ok-bytes-2.ensures.value)
    (rw c.in_default-3.is at c.in_ok-bytes-3.ensures.value) is)
    c.decoded-4.ensures.value
