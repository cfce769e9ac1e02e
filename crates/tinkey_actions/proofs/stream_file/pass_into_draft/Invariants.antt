use Rattle.std.proofs.Common.{[], Some, None}
use Rattle.tinkey_actions.proofs.stream_file.pass_into_draft.Given as goal

abbrev pub ghosts-pass_into_lent : goal.ghosts-pass_into_lent
ghosts-pass_into_lent g a = record {
  borrow = a.loan.store.ghost_name;
  files = (g.D.Store.state a.loan.store.now).files;
  given = (g.D.Store.state a.loan.store.now).given;
  name = elim (g.D.PieceStore.draft a.loan.store.now) [ None ↦ [] | Some d ↦ d.name ];
}
