use Rattle.std.proofs.Common.{◌∙◌, ap, refl}
use Rattle.serde_json.specs.Data.{object}
use Rattle.serde_json.proofs.Views.{view-Object, view-Array}
use Rattle.seal_wrap.specs.Wrapped.{info_value}
use Rattle.seal_wrap.proofs.encrypted.json_form.info_value.Goals as goal

pub returns : goal.returns
unfolding info_value
returns c =
    view-Object _ ∙ ap object (rw (c.in_ok-put-2.ensures.ok, c.in_ok-put.ensures.ok, c.new-members.ensures.empty, view-Array, c.in_ok-key_values.ensures, c.from.ensures, c.primary.ensures) refl)
