use Rattle.std.proofs.Common.{[], ◌++◌}
use Rattle.aead_kinds.specs.Segment.{segment_tag}
use Rattle.aead_kinds.proofs.segment.write_tag.Goals as goal

pub returns : goal.returns
unfolding segment_tag
returns c =
    let hash = c.args.hash in
    let mac = c.args.mac.now in
    let start = c.args.start.now in
    let one = c.update.ensures.holds hash mac [] c.new-hmac.ensures.holds in
    let two = c.update-2.ensures.holds hash mac start one in
    c.finish.ensures hash mac (start ++ c.args.text.now) two
