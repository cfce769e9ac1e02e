use Rattle.std.proofs.Common.{◌≡◌, ◌+◌, ◌≤◌, length, refl, sym, ◌∙◌, subst, arith}
use Rattle.std.specs.Prelude.{IfOk}
use Rattle.std.proofs.lemmas.List.{length-take-le}
use Rattle.stream_range.proofs.PieceLemmas.{past_opens, piece_opened}
use Rattle.stream_range.proofs.piece.open_piece.Goals as goal

pub returns-then-number-gt-LAST_NUMBER-clause-opens : goal.returns-then-number-gt-LAST_NUMBER-clause-opens
returns-then-number-gt-LAST_NUMBER-clause-opens g c key bytes told begins =
    (refl, past_opens key bytes c.args.number (omega (arith, c.if-number-gt-LAST_NUMBER.true)))

pub returns-in-Ok-clause-opens : goal.returns-in-Ok-clause-opens
returns-in-Ok-clause-opens g c key bytes told begins =
    let long : length bytes ≡ c.size-size.result = rw told at c.size-size.ensures.told ∙ sym c.size-size.ensures.size in
    let read = rw told at c.in-Ok.ensures.reads in
    let fits : c.min-len.result ≤ length c.args.buffer.now = omega (arith, c.requires.room, c.min-len.ensures, c.size-size.ensures.size) in
    let part : length c.read_all.new.out ≡ c.min-len.result = c.read_all.auto.out ∙ length-take-le c.min-len.result c.args.buffer.now fits in
    piece_opened c.open_bytes.result c.args.begun.now key bytes c.read_all.new.out c.open_bytes.new.bytes _ c.args.number c.min-len.result c.final_piece.result c.size-size.result
    begins long (omega (arith, c.if-number-gt-LAST_NUMBER.false)) c.min-len.ensures c.final_piece.ensures.number
    part read (subst (λ n. IfOk c.open_bytes.result (λ place. place.0 + place.1 ≤ n)) (sym c.open_bytes.auto.bytes) c.open_bytes.ensures.within) c.open_bytes.ensures.opens
