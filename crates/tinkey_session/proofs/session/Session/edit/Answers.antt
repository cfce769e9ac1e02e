-- An accepted edit is answered by no refusal, and leaves the records that it doesn't name.
use Rattle.tinkey_cmds.specs.Edits.{seen_edit}
use Rattle.tinkey_session.proofs.EditLemmas.{accepted}
use Rattle.tinkey_session.proofs.FollowLemmas.{accepted_leaves}
use Rattle.tinkey_session.proofs.session.Session.edit.Goals as goal

pub follow-requires : goal.follow-requires
follow-requires g c = record {
  changed = (
    c.args.self.now.keyset,
    c.change_of-change.ensures _ (accepted_leaves _ _ (seen_edit c.args.command.now) _ _ c.in-Ok.ensures.step.1),
    c.requires.kept,
  );
}

pub returns-in-Ok-clause-unedited : goal.returns-in-Ok-clause-unedited
returns-in-Ok-clause-unedited g c = λ none.
    absurd (accepted c.edited_reply.result (seen_edit c.args.command.now) _ c.edited_reply.ensures none)
