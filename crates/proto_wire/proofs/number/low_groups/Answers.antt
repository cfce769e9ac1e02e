use Rattle.std.proofs.Common.{◌≡◌, ◌∙◌, reverse, rules}
use Rattle.std.specs.Prelude.{fold}
use Rattle.proto_wire.proofs.Varints.{with_group, low_groups-fold}
use Rattle.proto_wire.proofs.number.low_groups.Goals as goal

pub returns : goal.returns
returns c =
    let folded : c.fold.result ≡ fold with_group 0 (reverse c.args.bytes.now) = search rules in
    folded ∙ low_groups-fold c.args.bytes.now
