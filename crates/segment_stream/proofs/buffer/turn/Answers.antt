use Rattle.std.proofs.Common.{◌≡◌, ◌-◌, ◌+◌, ◌∙◌, ap, take, drop, arith, sym}
use Rattle.segment_stream.proofs.Buffers.{turned}
use Rattle.segment_stream.proofs.buffer.turn.Goals as goal

pub returns-then-by-gt0 : goal.returns-then-by-gt0
returns-then-by-gt0 c =
    ap (take (c.args.len - c.args.by)) c.copy_within.ensures.after
    ∙ turned c.args.by c.args.len c.args.buffer.now (drop (0 + (c.args.len - c.args.by)) c.args.buffer.now) c.requires.within c.requires.fits

pub returns-else-by-gt0 : goal.returns-else-by-gt0
returns-else-by-gt0 c =
    let none : c.args.by ≡ 0 = omega arith in
    ap (λ n. take (c.args.len - n) c.args.buffer.now) none
    ∙ ap (λ n. take n c.args.buffer.now) (minus_none c.args.len)
    ∙ ap (λ n. drop n (take c.args.len c.args.buffer.now)) (sym none)
  where
    minus_none : (n : Rattle.std.proofs.Common.ℕ) → n - 0 ≡ n
    minus_none n = omega arith
