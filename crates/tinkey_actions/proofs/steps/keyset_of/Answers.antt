use Rattle.keyset_json.specs.Reading.{reads_json}
use Rattle.keyset_model.specs.Reading.{reads_binary}
use Rattle.seal_wrap.specs.Unwrapped.{is_wrapped_binary, is_wrapped_json}
use Rattle.tinkey_plans.specs.Origins.{begins_of}
use Rattle.tinkey_actions.proofs.KeysetLemmas.{binary_refused, json_refused}
use Rattle.tinkey_actions.proofs.steps.keyset_of.Goals as goal

pub returns-in-Err-clause-passes : goal.returns-in-Err-clause-passes
returns-in-Err-clause-passes c = λ w next.
    rw c.in-Json.is (json_refused c.args.from (begins_of c.args.bytes.now) (is_wrapped_json c.args.bytes.now) (reads_json c.args.bytes.now) c.in-Err.e _ w c.json_refusal.ensures c.in-Err.ensures.keyset next)

pub returns-in-Err-read_binary-clause-passes : goal.returns-in-Err-read_binary-clause-passes
returns-in-Err-read_binary-clause-passes c = λ w next.
    rw c.in-Binary.is (binary_refused c.args.from (begins_of c.args.bytes.now) (is_wrapped_binary c.args.bytes.now) (reads_binary c.args.bytes.now) c.in-Err-read_binary.e _ w c.refusal.ensures c.in-Err-read_binary.ensures.keyset next)
