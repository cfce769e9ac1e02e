use Rattle.std.proofs.Common.{◌≡◌, ◌<◌, ◌≤◌, ◌-◌, [], length, IfSome}
use Rattle.tink_spec.specs.Outside.{GoesOn}
use Rattle.managers.specs.contracts.table.ManagersKeyTable.TheImpl.{ghosts}
use Rattle.tinkey_session.specs.Keeping.{IsKept}
use Rattle.tinkey_session.specs.Talking.{count_limit, saving}
use Rattle.tinkey_session.specs.Talks.{sides}
use Rattle.tinkey_talk.proofs.EndLemmas.{Talking}
use Rattle.tinkey_talk.specs.Feeding.{point, progress}
use Rattle.tinkey_talk.proofs.talk.talk.Given as goal

abbrev pub invariant-loop-n : goal.invariant-loop-n
invariant-loop-n g l = record {
  kept : IfSome l.talk.session.kept (λ h. IsKept ((ghosts g.dyn-1 g.dyn-2 g.dyn-3 g.dyn-4).table l.talk.session.managers.now) ((ghosts g.dyn-1 g.dyn-2 g.dyn-3 g.dyn-4).table h.managers.now) h.primitive l.talk.session.keyset h.held);
  few : l.talk.count ≤ count_limit;
  none : l.talk.replies.items ≡ [];
  goes_on : GoesOn (g.S.Source.state l.fn.source) (g.S.Source.state l.source);
  room : 0 < length l.buffer;
  table : (ghosts g.dyn-1 g.dyn-2 g.dyn-3 g.dyn-4).table l.talk.session.managers.now ≡ (ghosts g.dyn-1 g.dyn-2 g.dyn-3 g.dyn-4).table l.fn.managers;
  is : Talking (saving ((ghosts g.dyn-1 g.dyn-2 g.dyn-3 g.dyn-4).table l.fn.managers) (g.W.Writer.form l.fn.writer)) l.fn.keyset (point l.talk.session.keyset l.talk.line.items l.talk.count l.talk.unsaved)
      (sides (g.S.Source.state l.fn.source) (g.K.Sink.state l.fn.sink) (g.E.Entropy.state l.fn.entropy)) (sides (g.S.Source.state l.source) (g.K.Sink.state l.sink) (g.E.Entropy.state l.entropy))
      (g.D.Store.state l.fn.store) (g.D.Store.state l.store);
}

abbrev pub decreases-loop-n : goal.decreases-loop-n
decreases-loop-n g l = 6553765536 - progress l.talk.count l.talk.line.items
