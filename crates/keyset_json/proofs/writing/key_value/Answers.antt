use Rattle.std.proofs.Common.{◌∙◌, ap}
use Rattle.serde_json.specs.Data.{object}
use Rattle.serde_json.proofs.Views.{view-Object}
use Rattle.keyset_model.specs.Keyset.{is_bare}
use Rattle.keyset_json.specs.Writing.{key_value, data_value}
use Rattle.keyset_json.proofs.WritingLemmas.{behind_data}
use Rattle.keyset_json.proofs.writing.key_value.Goals as goal

pub returns : goal.returns
unfolding key_value
returns c =
    let r = c.args.key.now in
    view-Object _
    ∙ ap object (rw (c.in_ok-put-3.ensures.ok, c.in_ok-put-2.ensures.ok, c.in_ok-put.ensures.ok, c.in_ok-members.ensures, c.in_ok-status.ensures, c.in_ok-prefix.ensures, c.name_of.ensures, c.name_of-2.ensures, c.from.ensures)
    (behind_data (is_bare r) (data_value r) _ _ _))
