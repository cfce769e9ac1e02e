use Rattle.std.proofs.lemmas.Result.{IfOk-weaker}
use Rattle.seal_wrap.proofs.JsonLemmas.{sealed_short, value_missing, value_there}
use Rattle.seal_wrap.proofs.encrypted.json_form.read_wrapped_json.Goals as goal

pub returns-in-Ok-clause-sealed : goal.returns-in-Ok-clause-sealed
returns-in-Ok-clause-sealed c =
    let there = rw c.without_newline.ensures at c.in-Ok.ensures.value in
    rw (value_there c.args.text.now _ there) c.encrypted_of.ensures.sealed

pub returns-in-Ok-clause-refusal : goal.returns-in-Ok-clause-refusal
returns-in-Ok-clause-refusal c =
    let there = rw c.without_newline.ensures at c.in-Ok.ensures.value in
    rw (value_there c.args.text.now _ there) c.encrypted_of.ensures.refusal

pub returns-in-Ok-clause-short : goal.returns-in-Ok-clause-short
returns-in-Ok-clause-short c =
    let there = rw c.without_newline.ensures at c.in-Ok.ensures.value in
    IfOk-weaker _ _ _ (λ sealed is. sealed_short c.args.text.now _ sealed there is) c.encrypted_of.ensures.sealed

pub returns-in_default : goal.returns-in_default
returns-in_default c = record {
  sealed = tt;
  refusal = value_missing c.args.text.now _ c.in_default.not-NoMemory (rw c.without_newline.ensures at c.in-Err.ensures.none);
  short = tt;
}
