use Rattle.std.proofs.Common.{arith, length, refl, sym}
use Rattle.std.proofs.lemmas.Result.{IfErr-weaker, IfOk-weaker}
use Rattle.tinkey_session.proofs.WithinLemmas.{within_limit}
use Rattle.tinkey_session.specs.Reading.{seen_line}
use Rattle.tinkey_talk.proofs.SaveLemmas.{plain_replied, plain_unreplied, save_replied, save_unreplied}
use Rattle.tinkey_talk.proofs.talk.answer_line.Goals as goal

pub serve-requires-clause-within : goal.serve-requires-clause-within
serve-requires-clause-within g c =
    c.unless_unsaved-asked.ensures.within 1048576 (within_limit (length c.args.line.now) 1048576 (seen_line c.in-Ok.read) (omega (arith, c.requires.fits)) c.in-Ok.ensures.within)

pub returns-in-Some-clause-replied : goal.returns-in-Some-clause-replied
returns-in-Some-clause-replied g c =
    IfOk-weaker c.save.result _ _ (λ reply saved. save_replied _ _ _ _ _ c.args.line.now _ _ _ _ _ _ _ c.in-Ok.ensures.read (rw c.in-Some.is at c.name_saved.ensures) saved) c.save.ensures.saved

pub returns-in-Some-clause-unreplied : goal.returns-in-Some-clause-unreplied
returns-in-Some-clause-unreplied g c =
    IfErr-weaker c.save.result _ _ (λ fault unsaved. save_unreplied _ _ _ _ c.args.line.now _ _ fault _ _ c.in-Ok.ensures.read (rw c.in-Some.is at c.name_saved.ensures) unsaved) c.save.ensures.unsaved

pub returns-in-Err-serve-clause-unreplied : goal.returns-in-Err-serve-clause-unreplied
returns-in-Err-serve-clause-unreplied g c =
    plain_unreplied _ (g.W.Writer.form c.args.writer.now) _ _ _ c.args.line.now _ _ c.in-Err-serve.fault _ _ c.in-Ok.ensures.read (sym (rw c.in_default.is at c.name_saved.ensures)) (rw c.saved_only.ensures at c.unless_unsaved-asked.ensures.line) c.in-Err-serve.ensures.serves

pub returns-in-Ok-reply_text-clause-replied : goal.returns-in-Ok-reply_text-clause-replied
returns-in-Ok-reply_text-clause-replied g c =
    plain_replied _ (g.W.Writer.form c.args.writer.now) _ _ _ _ c.args.line.now _ _ _ _ _ _ _ _ c.in-Ok.ensures.read (sym (rw c.in_default.is at c.name_saved.ensures)) (rw c.saved_only.ensures at c.unless_unsaved-asked.ensures.line) c.in-Ok-reply_text.ensures c.unsaved_after.ensures refl c.in-Ok-serve.ensures.serves
