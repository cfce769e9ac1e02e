use Rattle.std.proofs.Common.{◌∙◌, ◌++◌, ◌∷◌, [], ap}
use Rattle.seal_wrap.specs.Info.{info_of}
use Rattle.seal_wrap.specs.Wrapped.{wrapped_json}
use Rattle.seal_wrap.proofs.WritingLemmas.{no_float}
use Rattle.seal_wrap.proofs.encrypted.json_form.write_wrapped_json.Goals as goal

pub returns : goal.returns
unfolding wrapped_json
returns c =
    let no = rw c.in_ok-value.ensures at c.in_ok-text.ensures.text in
    c.in_ok-push.ensures.items ∙ ap (λ t. t ++ 10 ∷ []) (no (no_float c.args.sealed.now (info_of c.args.keyset.now)))
