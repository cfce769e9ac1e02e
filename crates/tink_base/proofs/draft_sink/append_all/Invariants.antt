use Rattle.std.proofs.Common.{[], Some, None}
use Rattle.tink_base.proofs.draft_sink.append_all.Given as goal

abbrev pub ghosts-append_lent : goal.ghosts-append_lent
ghosts-append_lent g a = record {
  borrow = a.loan.store.ghost_name;
  files = (g.S.Store.state a.loan.store.now).files;
  given = (g.S.Store.state a.loan.store.now).given;
  name = elim (g.S.PieceStore.draft a.loan.store.now) [ None ↦ [] | Some d ↦ d.name ];
}
