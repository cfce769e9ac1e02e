use Rattle.std.proofs.Common.{Err, ap}
use Rattle.tinkey_talk.proofs.SaveLemmas.{exists_saved, failed_saved, made_saved}
use Rattle.tinkey_talk.proofs.saving.save.Goals as goal

-- it isn't written

pub returns-in-Err-EntropyFault-clause-unsaved : goal.returns-in-Err-EntropyFault-clause-unsaved
returns-in-Err-EntropyFault-clause-unsaved g c = rw c.in-Err-EntropyFault.field-0-is at c.in-Err-EntropyFault.ensures

pub returns-in-Err-NoMemory-clause-unsaved : goal.returns-in-Err-NoMemory-clause-unsaved
returns-in-Err-NoMemory-clause-unsaved g c = rw c.in-Err-NoMemory.field-0-is at c.in-Err-NoMemory.ensures

-- a file was asked for

pub returns-in-Ok-Made-clause-saved : goal.returns-in-Ok-Made-clause-saved
returns-in-Ok-Made-clause-saved g c =
    let e = c.in-Ok-Made.ensures in
    made_saved _ _ _ _ _ _ _ _ _ _ c.in-Ok.ensures c.in-Ok-save_texts.ensures.made (rw c.as_slice.ensures at (rw c.in-Ok-Made.field-0-is at e.creates)) (e.no_fault (λ h. cc)) e.given

pub returns-in-Ok-Exists-clause-saved : goal.returns-in-Ok-Exists-clause-saved
returns-in-Ok-Exists-clause-saved g c =
    let e = c.in-Ok-Exists.ensures in
    exists_saved _ _ _ _ _ _ _ _ _ _ c.in-Ok.ensures c.in-Ok-save_texts.ensures.exists (rw c.in-Ok-Exists.field-0-is at e.creates) (e.no_fault (λ h. cc)) e.given

pub returns-in-Err-Failed-clause-saved : goal.returns-in-Err-Failed-clause-saved
returns-in-Err-Failed-clause-saved g c =
    let e = c.in-Err-Failed.ensures in
    let is = ap Err c.in-Err-Failed.field-0-is in
    failed_saved _ _ _ _ _ _ _ _ _ _ c.in-Ok.ensures c.in-Ok-save_texts.ensures.failed (rw c.as_slice.ensures at (e.may_add is)) (e.failed is) e.given
