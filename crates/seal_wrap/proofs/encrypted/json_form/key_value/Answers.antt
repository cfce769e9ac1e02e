use Rattle.std.proofs.Common.{◌∙◌, ap}
use Rattle.serde_json.specs.Data.{object}
use Rattle.serde_json.proofs.Views.{view-Object}
use Rattle.seal_wrap.specs.Wrapped.{key_info_value}
use Rattle.seal_wrap.proofs.WritingLemmas.{before-url, prefix-name, status-name}
use Rattle.seal_wrap.proofs.encrypted.json_form.key_value.Goals as goal

pub returns : goal.returns
unfolding key_info_value
returns c =
    let r = c.args.key.now in
    let known = c.requires.known in
    view-Object _
    ∙ ap object (rw (
      c.in_ok-put-3.ensures.ok,
      c.in_ok-put-2.ensures.ok,
      c.in_ok-put.ensures.ok,
      c.in_ok-members.ensures,
      c.in_ok-status.ensures,
      c.in_ok-prefix.ensures,
      c.status_name.ensures,
      c.prefix_name.ensures,
      status-name r.status known.least_status known.most_status,
      prefix-name r.prefix known.least_prefix known.most_prefix,
      c.from.ensures,
      c.as_str.ensures,
    )
    (before-url r.url _ _ _))
