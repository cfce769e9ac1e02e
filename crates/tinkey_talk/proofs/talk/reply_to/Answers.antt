use Rattle.std.proofs.Common.{◌∙◌, Err, ap, refl, subst, sym}
use Rattle.tinkey_session.specs.Answered.{DrewSome}
use Rattle.tinkey_session.specs.Talking.{saving}
use Rattle.tinkey_talk.proofs.FeedLemmas.{dry_line, ended_line, full_line, replied_as, undrawn_as}
use Rattle.tinkey_talk.specs.Feeding.{cut_off, point}
use Rattle.tinkey_talk.proofs.talk.reply_to.Goals as goal

pub returns-in-Err-NoMemory-clause-stopped : goal.returns-in-Err-NoMemory-clause-stopped
returns-in-Err-NoMemory-clause-stopped g c = λ count. ended_line _ (point c.args.session.now.keyset c.args.line.now count c.args.unsaved) _ _ _ _ _ _ _ _ c.in-Err-NoMemory.ensures.unused c.in-Err-NoMemory.ensures.still c.end.ensures

pub returns-in-Err-clause-stopped : goal.returns-in-Err-clause-stopped
returns-in-Err-clause-stopped g c = λ count. ended_line _ (point c.args.session.now.keyset c.args.line.now count c.args.unsaved) _ _ _ _ _ _ _ _ c.in-Err-EntropyFault.ensures.unused c.in-Err-EntropyFault.ensures.still (cut_off refl c.in-Err.ensures.prefix c.in-Err.ensures.failed)

pub returns-in-Err-EntropyFault-answer_line-clause-stopped : goal.returns-in-Err-EntropyFault-answer_line-clause-stopped
returns-in-Err-EntropyFault-answer_line-clause-stopped g c = λ count. dry_line _ (point c.args.session.now.keyset c.args.line.now count c.args.unsaved) c.args.line.now _ _ refl c.in-Ok-flush.ensures.all c.in-Ok-flush.ensures.no_fault
    (sym (c.in-Err-EntropyFault-answer_line.ensures.still ∙ c.in-Err-EntropyFault.ensures.still))
    (undrawn_as _ _ _ _ _ c.args.line.now _ _ _ (ap (λ t. saving t (g.W.Writer.form c.args.writer.now)) c.in-Err-EntropyFault.ensures.table) (c.in-Err-EntropyFault.ensures.unchanged (ap Err c.in-Err-EntropyFault.field-0-is)) c.in-Err-EntropyFault.ensures.unused
    (rw c.in-Err-EntropyFault-answer_line.field-0-is at c.in-Err-EntropyFault-answer_line.ensures.unreplied))

pub returns-in-Err-NoMemory-answer_line-clause-stopped : goal.returns-in-Err-NoMemory-answer_line-clause-stopped
returns-in-Err-NoMemory-answer_line-clause-stopped g c = λ count. full_line _ _ _ _ _ c.in-Ok-flush.ensures.all c.in-Ok-flush.ensures.no_fault
    (sym (c.in-Err-NoMemory-answer_line.ensures.still ∙ c.in-Err-EntropyFault.ensures.still))
    (subst (λ s. DrewSome s (g.E.Entropy.state c.answer_line.new.entropy)) c.in-Err-EntropyFault.ensures.unused (rw c.in-Err-NoMemory-answer_line.field-0-is at c.in-Err-NoMemory-answer_line.ensures.unreplied))

pub returns-in-Ok-answer_line-clause-replied : goal.returns-in-Ok-answer_line-clause-replied
returns-in-Ok-answer_line-clause-replied g c = replied_as _ _ _ _ _ c.args.line.now _ _ _ _ _ _ _ _ _ (ap (λ t. saving t (g.W.Writer.form c.args.writer.now)) c.in-Err-EntropyFault.ensures.table) (c.in-Err-EntropyFault.ensures.unchanged (ap Err c.in-Err-EntropyFault.field-0-is)) c.in-Err-EntropyFault.ensures.unused
    c.in-Err-EntropyFault.ensures.still c.in-Ok-answer_line.ensures.replied
