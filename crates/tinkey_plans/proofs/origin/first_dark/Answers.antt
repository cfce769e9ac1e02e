use Rattle.std.proofs.Common.{List, ℕ, ap, slice_get, ◌∙◌}
use Rattle.std.proofs.lemmas.Str.Ascii.{trim_ascii_start_is}
use Rattle.tinkey_plans.proofs.origin.first_dark.Goals as goal

pub returns : goal.returns
returns c =
    c.copied.ensures ∙ c.first.ensures.value
    ∙ ap (λ (text : List ℕ). slice_get text 0)
    (trim_ascii_start_is c.args.bytes.now c.trim_ascii_start.result.now c.trim_ascii_start.ensures.value)
