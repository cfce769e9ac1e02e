use Rattle.std.proofs.Common.{arith, refl}
use Rattle.std.proofs.lemmas.Bool.Decides.{nat_tests}
use Rattle.tinkey_talk.proofs.FeedLemmas.{cut_behind, fed_written, finished_line, finished_none, stopped_last}
use Rattle.tinkey_talk.specs.Feeding.{point}
use Rattle.tinkey_talk.proofs.talk.finish.Goals as goal

pub returns-then-is_empty-clause-finished : goal.returns-then-is_empty-clause-finished
returns-then-is_empty-clause-finished g c = finished_none _ (point c.args.talk.session.keyset c.args.talk.line.items c.args.talk.count c.args.talk.unsaved) _ _ _ (grind (arith, nat_tests, c.is_empty.ensures, c.if-is_empty.true))

pub returns-in-Err-clause-stopped : goal.returns-in-Err-clause-stopped
returns-in-Err-clause-stopped g c = stopped_last _ _ _ _ _ (grind (arith, nat_tests, c.is_empty.ensures, c.if-is_empty.false)) (rw c.requires.none at c.in-Err.ensures.stopped)

pub returns-in-Ok-flush-clause-finished : goal.returns-in-Ok-flush-clause-finished
returns-in-Ok-flush-clause-finished g c = finished_line _ _ _ _ _ (grind (arith, nat_tests, c.is_empty.ensures, c.if-is_empty.false)) refl
    (fed_written _ _ _ _ _ _ _ _ _ _ _ _ _ _ refl (rw c.requires.none at c.in-Ok.ensures.fed) c.in-Ok-flush.ensures.all c.in-Ok-flush.ensures.no_fault)

pub returns-in-Err-flush-clause-stopped : goal.returns-in-Err-flush-clause-stopped
returns-in-Err-flush-clause-stopped g c = stopped_last _ _ _ _ _ (grind (arith, nat_tests, c.is_empty.ensures, c.if-is_empty.false))
    (cut_behind _ _ _ _ _ _ _ _ _ _ _ _ _ _ (rw c.requires.none at c.in-Ok.ensures.fed) c.in-Err-flush.ensures.prefix c.in-Err-flush.ensures.failed)
