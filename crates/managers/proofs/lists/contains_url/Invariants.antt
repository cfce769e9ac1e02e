use Rattle.std.proofs.Common.{◌≡◌, drop}
use Rattle.managers.specs.Table.{entries_by, has_url}
use Rattle.managers.proofs.lists.contains_url.Given as goal

abbrev pub invariant-loop-m : goal.invariant-loop-m
invariant-loop-m g l =
    has_url l.url (entries_by g.M.KeyManager.url g.M.KeyManager.scheme l.managers) ≡ has_url l.url (entries_by g.M.KeyManager.url g.M.KeyManager.scheme (drop l.m-index l.managers))
