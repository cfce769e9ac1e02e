use Rattle.std.proofs.Common.{rules}
use Rattle.serde_json.specs.declared.value.Value.{the_lemmas}
use Rattle.seal_wrap.specs.Wrapped.{wrapped_value}
use Rattle.seal_wrap.proofs.encrypted.json_form.wrapped_value.Goals as goal

pub returns : goal.returns
unfolding wrapped_value
returns c = search (rules, the_lemmas)
