use Rattle.std.proofs.Common.{◌≡◌, ◌+◌, ◌-◌, ◌/◌, ◌≤◌, sym, ◌∙◌, subst, arith}
use Rattle.stream_range.specs.declared.sizes.Begun.{Begun}
use Rattle.stream_range.proofs.RangeLemmas.{numbers_within}
use Rattle.stream_range.proofs.range.open_begun.Goals as goal

pub open_run-requires-clause-numbers : goal.open_run-requires-clause-numbers
open_run-requires-clause-numbers g c i lt =
    let s = c.args.begun.now.sizes in
    let same : (g.V.Device.state c.open_piece.new.device).size ≡ c.size-size.result = c.in-Ok.ensures.kept.size ∙ sym c.size-size.ensures.size in
    subst (λ (b : Begun). c.piece_of-first.result + i ≤ ((g.V.Device.state c.open_piece.new.device).size - 1) / b.sizes.segment) (sym c.in-Ok.ensures.begun)
    (subst (λ n. c.piece_of-first.result + i ≤ (n - 1) / s.segment) (sym same)
    (numbers_within c.size-size.result s.segment s.header s.tag c.args.from c.args.to c.piece_of-first.result c.covering-count.result
    (record { starts = c.piece_of-first.ensures; counts = c.covering-count.ensures }) s.room c.requires.order (omega (arith, c.plain_length.ensures, c.if-plain_length-to.false)) i lt))
