-- The blocks of the three strings, one after the other.
use Rattle.std.proofs.Common.{ℕ, List, [], ◌++◌, map, refl, ap, ◌∙◌}
use Rattle.std.specs.Int.{w128, to_le_bytes}
use Rattle.aes_core.specs.Chain.{whole_blocks}
use Rattle.ghash.specs.Ghash.{ghash}
use Rattle.aead_kinds.specs.GcmSiv.{authentication_key, hashed, length_block, right_padded}
use Rattle.aead_kinds.specs.Polyval.{mulx, polyval, turned}
use Rattle.aead_kinds.proofs.BlockLemmas.{hashed_blocks, numbers}
use Rattle.aead_kinds.proofs.gcm_siv.hashed.Goals as goal

pub returns : goal.returns
unfolding hashed polyval authentication_key
returns c =
    let h : ℕ = mulx (turned c.derived_pair.result) in
    let ad = c.args.ad.now in
    let plain = c.args.plain.now in
    let lengths : List ℕ = length_block ad plain in
    let first = c.absorb.ensures h [] c.hash_under-hash.ensures in
    let both = c.absorb-2.ensures h (numbers ad) first in
    let all = c.absorb-3.ensures h (numbers ad ++ numbers plain) both in
    let sum = c.finish.ensures h (numbers ad ++ numbers plain ++ numbers c.length_block.result) all in
    let blocks : List ℕ = map turned (whole_blocks (right_padded ad ++ right_padded plain ++ lengths)) in
    c.to_le_bytes.ensures
    ∙ ap (to_le_bytes w128) (sum
    ∙ ap (λ (l : List ℕ). ghash h (numbers ad ++ numbers plain ++ numbers l)) c.length_block.ensures
    ∙ ap (ghash h) (hashed_blocks ad plain lengths refl)
    ∙ ap (λ (k : List ℕ). ghash (mulx (turned k)) blocks) c.derived_pair.ensures)
