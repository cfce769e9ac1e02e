-- The lanes, from the last to the first.
use Rattle.std.proofs.Common.{length, ap, reverse, sym, subst, ◌∙◌}
use Rattle.ghash.specs.Places.{IsBlock}
use Rattle.aead_kinds.proofs.BlockLemmas.{length-padded, reversed_is_block, reversed_lanes}
use Rattle.aead_kinds.proofs.polyval.turned_block.Goals as goal

pub returns : goal.returns
returns c =
    let piece = c.args.piece.now in
    let turned = reversed_lanes c.loaded.result
    (ap length c.loaded.ensures ∙ length-padded piece c.requires)
    ∙ ap reverse c.loaded.ensures in
    record {
      block = subst IsBlock (sym turned) (reversed_is_block piece c.requires
          (λ i. (c.type_inv.piece i).fits));
      turned = turned;
    }
