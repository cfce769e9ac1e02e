use Rattle.std.proofs.Common.{sym, arith}
use Rattle.tinkey_session.proofs.AnswerLemmas.{undrawn}
use Rattle.tinkey_session.proofs.ResealLemmas.{alike_serves, dopened_within, dreseal_refused, dreseal_seals}
use Rattle.tinkey_session.specs.declared.reply.LineRefusal.TheVariants as refusals
use Rattle.tinkey_session.specs.declared.reply.Reply.TheVariants as replies
use Rattle.tinkey_session.proofs.answering.dreseal.Goals as goal

pub dseal-requires-clause-plain_bound : goal.dseal-requires-clause-plain_bound
dseal-requires-clause-plain_bound g c =
    let held = c.requires.held in
    let short = dopened_within _ held.0 _ c.args.sealed.now c.args.ad.now _ held.1 (rw c.in-Ok-Some.field-0-is at (c.in-Ok-Some.ensures.opened held.0 held.1)) in
    rw c.as_slice.ensures.value (omega (arith, short, c.requires.sealed_bound))

pub returns-in-Ok-Some : goal.returns-in-Ok-Some
returns-in-Ok-Some g c = λ e keys over.
    let opened = rw c.in-Ok-Some.field-0-is at (c.in-Ok-Some.ensures.opened keys over) in
    alike_serves _ _ _ keys e e (dreseal_seals _ keys _ _ _ (sym opened)) (rw c.as_slice.ensures.value at (c.dseal.ensures e keys over))

pub returns-in-Ok-None : goal.returns-in-Ok-None
returns-in-Ok-None g c = λ e keys over.
    let none = rw c.in-Ok-None.field-0-is at (c.in-Ok-None.ensures.opened keys over) in
    undrawn _ (replies.Refuses refusals.OpenFailed) keys e (λ random. dreseal_refused _ keys _ _ random over.fit (sym none))
