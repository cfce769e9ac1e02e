-- Nothing comes after 16 bytes.
use Rattle.std.proofs.Common.{◌≡◌, ◌++◌, length, replicate, ◌-◌, ◌∙◌, sym, ap, append-nil, arith}
use Rattle.std.proofs.lemmas.List.{take_all}
use Rattle.aead_kinds.proofs.polyval.loaded.Goals as goal
use Rattle.aead_kinds.proofs.polyval.loaded.Goals.{in-Some, in-None}

pub returns : goal.returns
returns c =
    let piece = c.args.piece.now in
    elim c.match-first_chunk.branch [
      | in-Some w ↦
          let whole = w.in-Some.ensures.cases in
          let size : 16 - length piece ≡ 0 = omega (arith, whole.enough, c.requires) in
          w.result-is ∙ whole.same ∙ take_all 16 piece (omega (arith, whole.enough, c.requires))
          ∙ sym (append-nil piece)
          ∙ ap (λ n. piece ++ replicate n 0) (sym size)
      | in-None w ↦ w.result-is ∙ w.padded.ensures
    ]
