use Rattle.std.proofs.Common.{◌∙◌, refl}
use Rattle.tinkey_session.proofs.StoreLemmas.{rose_later}
use Rattle.tinkey_talk.proofs.FeedLemmas.{fed_line, held_cut, held_more, held_with, torn_line}
use Rattle.tinkey_talk.proofs.talk.take_line.Goals as goal

pub returns-in-Ok-tell-clause-fed : goal.returns-in-Ok-tell-clause-fed
returns-in-Ok-tell-clause-fed g c = fed_line _ _ _ _ _ _ _ _ c.deref.ensures.value c.deref-in-Ok.ensures.value c.clear.ensures.items refl c.in-Ok.ensures.replied
    (held_more _ _ _ _ _ _ _ _ c.in-Ok.ensures.told c.in-Ok-tell.ensures.told)
    (c.in-Ok-tell.ensures.no_fault ∙ c.in-Ok.ensures.no_fault)

pub returns-in-Ok-clause-stopped : goal.returns-in-Ok-clause-stopped
returns-in-Ok-clause-stopped g c = torn_line _ _ _ _ _ _ _ _ _ c.deref.ensures.value c.deref-in-Ok.ensures.value c.in-Ok.ensures.replied
    (held_cut _ _ _ _ _ _ (held_with _ _ _ _ _ _ c.in-Ok.ensures.told) c.in-Err-tell.ensures.prefix)
    (rose_later _ _ _ c.in-Ok.ensures.told.took.faults c.in-Err-tell.ensures.failed)

pub returns-clause-stopped : goal.returns-clause-stopped
returns-clause-stopped g c = rw c.deref.ensures.value at c.in-Err.ensures.stopped c.args.talk.now.count
