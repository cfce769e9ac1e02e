use Rattle.std.proofs.Common.{◌≡◌, ◌≤◌, ◌+◌, ◌-◌, length, take, IfSome}
use Rattle.managers.specs.contracts.table.ManagersKeyTable.TheImpl.{ghosts}
use Rattle.tinkey_session.specs.Keeping.{IsKept}
use Rattle.tinkey_session.specs.Talking.{count_limit, going, saving}
use Rattle.tinkey_talk.specs.Feeding.{Fed, outside, point, progress, taking}
use Rattle.tinkey_talk.proofs.talk.take_piece.Given as goal

abbrev pub invariant-loop-i : goal.invariant-loop-i
invariant-loop-i g l = record {
  within : l.i ≤ length l.piece;
  kept : IfSome l.talk.session.kept (λ h. IsKept ((ghosts g.dyn-1 g.dyn-2 g.dyn-3 g.dyn-4).table l.talk.session.managers.now) ((ghosts g.dyn-1 g.dyn-2 g.dyn-3 g.dyn-4).table h.managers.now) h.primitive l.talk.session.keyset h.held);
  few : l.talk.count ≤ count_limit;
  table : (ghosts g.dyn-1 g.dyn-2 g.dyn-3 g.dyn-4).table l.talk.session.managers.now ≡ (ghosts g.dyn-1 g.dyn-2 g.dyn-3 g.dyn-4).table l.fn.talk.session.managers.now;
  less : progress l.fn.talk.count l.fn.talk.line.items + l.i ≤ progress l.talk.count l.talk.line.items;
  fed : Fed (saving ((ghosts g.dyn-1 g.dyn-2 g.dyn-3 g.dyn-4).table l.fn.talk.session.managers.now) (g.W.Writer.form l.fn.writer)) (going l.fn.talk.session.keyset l.fn.talk.line.items l.fn.talk.count l.fn.talk.unsaved) (point l.talk.session.keyset l.talk.line.items l.talk.count l.talk.unsaved)
      (taking (take l.i l.piece))
      (outside (g.K.Sink.state l.fn.sink) l.fn.talk.replies.items (g.E.Entropy.state l.fn.entropy) (g.D.Store.state l.fn.store)) (outside (g.K.Sink.state l.sink) l.talk.replies.items (g.E.Entropy.state l.entropy) (g.D.Store.state l.store));
}

abbrev pub decreases-loop-i : goal.decreases-loop-i
decreases-loop-i g l = length l.piece - l.i
