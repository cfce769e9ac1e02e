use Rattle.std.proofs.Common.{inl, inr, sym}
use Rattle.tinkey_session.proofs.EditLemmas.{last_there}
use Rattle.tinkey_session.proofs.session.edited_reply.Goals as goal

pub returns-in-Add : goal.returns-in-Add
returns-in-Add c =
    let last = last_there c.args.keyset.now.records c.record_at.result.now c.len.result c.len.ensures.count c.record_at.ensures.record_there in
    elim c.in-Add.is [ inl added ↦ rw added.1 (sym last) | inr rotated ↦ rw rotated.1 (sym last) ]
