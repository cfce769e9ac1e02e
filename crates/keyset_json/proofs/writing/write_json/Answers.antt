use Rattle.std.proofs.Common.{◌∙◌, ◌++◌, ◌∷◌, [], ap}
use Rattle.keyset_json.specs.Writing.{json_of}
use Rattle.keyset_json.proofs.WritingLemmas.{no_float}
use Rattle.keyset_json.proofs.writing.write_json.Goals as goal

pub returns : goal.returns
unfolding json_of
returns c =
    let no = rw c.in_ok-value.ensures at c.in_ok-text.ensures.text in
    c.in_ok-push.ensures.items ∙ ap (λ t. t ++ 10 ∷ []) (no (no_float c.args.keyset.now))
