use Rattle.std.proofs.Common.{◌∙◌, ap}
use Rattle.tinkey_selftest.proofs.DrawnLemmas.{edited_now}
use Rattle.tinkey_selftest.specs.Ready.{trial_of}
use Rattle.tinkey_selftest.specs.Trial.{Edits, counted}
use Rattle.tinkey_session.specs.Reading.{seen_line}
use Rattle.tinkey_selftest.proofs.trial.Trial.edit.Goals as goal

pub returns-clause-done : goal.returns-clause-done
returns-clause-done g c =
    let old = c.args.self.now in
    edited_now _ (trial_of old.session.keyset old.sealings.items old.entropy.left old.counts) (seen_line c.args.line.now) c.in_ok-reply.reply _ _ _ _
    c.in_ok-reply.ensures.served (ap (λ v. v.items) c.in_ok-reply.ensures.sealings)
    (c.with_edit-self.ensures old.session.keyset (seen_line c.args.line.now) ∙ ap (counted old.session.keyset (Edits (seen_line c.args.line.now)) c.in_ok-reply.reply) c.in_ok-reply.ensures.counts)
