use Rattle.std.proofs.Common.{inl, inr}
use Rattle.tinkey_session.proofs.FollowLemmas.{at_destroyed, at_disabled, loses_deleted, none_deleted, none_destroyed, none_disabled}
use Rattle.tinkey_session.proofs.session.change_of.Goals as goal

pub returns-in-Some : goal.returns-in-Some
returns-in-Some c = rw c.in-Delete.is (loses_deleted c.args.keyset.now c.in-Delete.id c.in-Some.place c.in-Some.ensures.place)

pub returns-in-None : goal.returns-in-None
returns-in-None c = rw c.in-Delete.is (none_deleted c.args.keyset.now c.in-Delete.id c.in-None.ensures.place)

pub returns-in-Some-find : goal.returns-in-Some-find
returns-in-Some-find c = elim c.in-Disable.is [
  | inl disabled ↦ rw disabled (at_disabled c.args.keyset.now c.in-Disable.id c.in-Some-find.place c.in-Some-find.ensures.place)
  | inr gone ↦ rw gone (at_destroyed c.args.keyset.now c.in-Disable.id c.in-Some-find.place c.in-Some-find.ensures.place)
]

pub returns-in-None-find : goal.returns-in-None-find
returns-in-None-find c = elim c.in-Disable.is [
  | inl disabled ↦ rw disabled (none_disabled c.args.keyset.now c.in-Disable.id c.in-None-find.ensures.place)
  | inr gone ↦ rw gone (none_destroyed c.args.keyset.now c.in-Disable.id c.in-None-find.ensures.place)
]
