use Rattle.std.proofs.Common.{◌≡◌, ◌<◌, ◌≤◌, ◌∙◌, [], length, arith}
use Rattle.mac_prf.specs.Hmac.{block_size, digest}
use Rattle.mac_prf.proofs.HmacLemmas.{length-digest, size_bounds, take-used_key, used_key-long, used_key-short, whole_digest}
use Rattle.mac_prf.proofs.hmac.key_in_a_block.Goals as goal

pub returns-then-key-block_len : goal.returns-then-key-block_len
returns-then-key-block_len c =
    let hash = c.args.hash in
    let key = c.args.key.now in
    let over : block_size hash < length key = omega arith in
    let taken = c.update.ensures.taken hash [] c.new-hasher.ensures in
    let used : c.finish.new.out ≡ digest hash key =
    whole_digest hash _ _ _ c.size.ensures (c.finish.ensures hash _ taken) in
    let fits : length c.finish.new.out ≤ block_size hash =
    rw (used, length-digest) (size_bounds hash).0 in
    rw c.with_zeros.ensures (take-used_key hash key _ (used ∙ used_key-long hash key over) fits)

pub returns-else-key-block_len : goal.returns-else-key-block_len
returns-else-key-block_len c =
    let hash = c.args.hash in
    let key = c.args.key.now in
    let fits : length key ≤ block_size hash = omega arith in
    let used = used_key-short hash key fits in
    rw c.with_zeros-else-key-block_len.ensures (take-used_key hash key _ used fits)
