use Rattle.std.proofs.Common.{◌∙◌, ap, refl, take, arith}
use Rattle.managers.specs.contracts.table.ManagersKeyTable.TheImpl.{ghosts}
use Rattle.tink_spec.proofs.Moves.{goes_on_more, nothing_goes_on, read_goes_on}
use Rattle.tinkey_session.specs.Talking.{saving}
use Rattle.tinkey_talk.proofs.EndLemmas.{ends_finished, ends_stopped, ends_unread, if_none, talking_more, talking_none}
use Rattle.tinkey_talk.proofs.FeedLemmas.{all_settled}
use Rattle.tinkey_talk.proofs.talk.talk.Goals as goal

pub loop-n-init : goal.loop-n-init
loop-n-init g c = record {
  kept = if_none _ _ c.new.ensures.kept;
  few = omega arith;
  none = c.new-3.ensures.items;
  goes_on = nothing_goes_on (g.S.Source.state c.args.source.now);
  room = omega arith;
  table = c.new.ensures.table;
  is = talking_none _ _ _ _ _ c.new.ensures.keyset c.new-2.ensures.items refl refl;
}

pub returns-in-Err-clause-talks : goal.returns-in-Err-clause-talks
returns-in-Err-clause-talks g c = ends_unread (saving ((ghosts g.dyn-1 g.dyn-2 g.dyn-3 g.dyn-4).table c.args.managers.now) (g.W.Writer.form c.args.writer.now)) c.args.keyset _ _ _ _ _ _ c.loop-n.invariant.is c.in-Err.ensures.kept c.in-Err.ensures.failed refl refl

pub returns-then-n-eq0-clause-talks : goal.returns-then-n-eq0-clause-talks
returns-then-n-eq0-clause-talks g c =
    ends_finished (saving ((ghosts g.dyn-1 g.dyn-2 g.dyn-3 g.dyn-4).table c.args.managers.now) (g.W.Writer.form c.args.writer.now)) _ (all_settled ((ghosts g.dyn-1 g.dyn-2 g.dyn-3 g.dyn-4).table c.args.managers.now) (g.W.Writer.form c.args.writer.now)) c.args.keyset _ _ _ _ _ _ _ _ (ap (λ t. saving t (g.W.Writer.form c.args.writer.now)) c.loop-n.invariant.table) c.loop-n.invariant.is (rw c.if-n-eq0.true at c.in-Ok.ensures.gives) c.in-Ok.ensures.no_fault (c.in-Ok.ensures.end c.if-n-eq0.true (omega arith)) c.finish.ensures.finished c.finish.ensures.stopped

pub loop-n-preserved : goal.loop-n-preserved
loop-n-preserved g c = record {
  kept = c.in-Ok-take_piece.ensures.kept;
  few = c.in-Ok-take_piece.ensures.few;
  none = c.in-Ok-take_piece.ensures.none;
  goes_on = goes_on_more (g.S.Source.state c.args.source.now) (g.S.Source.state c.loop-n.source) (g.S.Source.state c.read.new.self) c.loop-n.invariant.goes_on (read_goes_on (g.S.Source.state c.loop-n.source) (g.S.Source.state c.read.new.self) c.read.ensures.late (c.in-Ok.ensures.goes_on (omega (arith, c.if-n-eq0.false))));
  room = omega arith;
  table = c.in-Ok-take_piece.ensures.table ∙ c.loop-n.invariant.table;
  is = talking_more (saving ((ghosts g.dyn-1 g.dyn-2 g.dyn-3 g.dyn-4).table c.args.managers.now) (g.W.Writer.form c.args.writer.now)) _ (all_settled ((ghosts g.dyn-1 g.dyn-2 g.dyn-3 g.dyn-4).table c.args.managers.now) (g.W.Writer.form c.args.writer.now)) c.args.keyset _ _ (take c.in-Ok.n c.read.new.out) _ _ _ _ _ _ (ap (λ t. saving t (g.W.Writer.form c.args.writer.now)) c.loop-n.invariant.table) c.loop-n.invariant.is c.in-Ok.ensures.gives c.in-Ok.ensures.no_fault (rw (c.loop-n.invariant.none, c.in-Ok-take_piece.ensures.none) at c.in-Ok-take_piece.ensures.fed);
}

pub returns-in-Err-take_piece-clause-talks : goal.returns-in-Err-take_piece-clause-talks
returns-in-Err-take_piece-clause-talks g c =
    ends_stopped (saving ((ghosts g.dyn-1 g.dyn-2 g.dyn-3 g.dyn-4).table c.args.managers.now) (g.W.Writer.form c.args.writer.now)) _ (all_settled ((ghosts g.dyn-1 g.dyn-2 g.dyn-3 g.dyn-4).table c.args.managers.now) (g.W.Writer.form c.args.writer.now)) c.args.keyset _ (take c.in-Ok.n c.read.new.out) _ _ _ _ _ _ _ (ap (λ t. saving t (g.W.Writer.form c.args.writer.now)) c.loop-n.invariant.table) c.loop-n.invariant.is c.in-Ok.ensures.gives c.in-Ok.ensures.no_fault (rw c.loop-n.invariant.none at c.in-Err-take_piece.ensures.stopped)
