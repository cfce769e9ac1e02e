-- The array is the piece, and after it the zeros that it was made of.
use Rattle.std.proofs.Common.{ℕ, List, ◌++◌, length, drop, replicate, ap, ◌∙◌}
use Rattle.std.proofs.lemmas.List.{drop-replicate}
use Rattle.aead_kinds.proofs.polyval.padded.Goals as goal

pub returns : goal.returns
returns c =
    let piece = c.args.piece.now in
    ap (λ (u : List ℕ). u ++ drop (length piece) (replicate 16 0)) c.copy_from_slice.ensures.after
    ∙ ap (λ (u : List ℕ). piece ++ u) (drop-replicate (length piece) 16 0)
