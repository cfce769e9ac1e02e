use Rattle.std.proofs.Common.{[], ◌++◌, ap, ◌∙◌, refl}
use Rattle.std.specs.Int.{w128, to_be_bytes}
use Rattle.aes_core.specs.Counter.{ctr}
use Rattle.aes_core.specs.declared.counter.CtrKind.TheVariants.{Low32}
use Rattle.ghash.specs.Ghash.{ghash, padded_blocks}
use Rattle.aead_kinds.specs.Gcm.{first_counter, gcm_tag, hash_subkey, hashed}
use Rattle.aead_kinds.proofs.gcm.ready_tag_of.Goals as goal

pub returns : goal.returns
unfolding gcm_tag hashed ghash
returns c =
    let key = c.args.aes.now in
    let h = hash_subkey key in
    let taken = c.requires.runs.0 in
    let holds = c.requires.runs.1 in
    let front = padded_blocks c.args.ad.now ++ padded_blocks c.args.text.now in
    let first = c.absorbed.ensures h taken [] holds refl in
    let both = c.absorbed-front.ensures h taken (padded_blocks c.args.ad.now) holds first in
    let sum = c.absorbed-hashed.ensures h taken front holds both in
    let blocks = ap (λ l. ghash h (front ++ padded_blocks l)) c.length_block.ensures in
    c.ctr_xor.ensures
    ∙ ap (λ start. ctr key start Low32 c.to_be_bytes-tag.result) c.counter_block.ensures
    ∙ ap (λ text. ctr key (first_counter c.args.iv.now) Low32 text)
    (c.to_be_bytes-tag.ensures ∙ ap (λ n. to_be_bytes w128 n) (sum ∙ blocks))
