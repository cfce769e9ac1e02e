use Rattle.std.proofs.Common.{◌≡◌, drop}
use Rattle.managers.specs.Table.{entries_by, shares_url}
use Rattle.managers.proofs.lists.shares.Given as goal

abbrev pub invariant-loop-m : goal.invariant-loop-m
invariant-loop-m g l =
    shares_url (entries_by g.M.KeyManager.url g.M.KeyManager.scheme l.left) (entries_by g.N.KeyManager.url g.N.KeyManager.scheme l.right)
    ≡ shares_url (entries_by g.M.KeyManager.url g.M.KeyManager.scheme (drop l.m-index l.left)) (entries_by g.N.KeyManager.url g.N.KeyManager.scheme l.right)
