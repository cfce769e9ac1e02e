use Rattle.std.proofs.Common.{refl}
use Rattle.tinkey_host.specs.Program.{has_met, not_text}
use Rattle.tinkey_host.proofs.top.obey_listed.Goals as goal

pub returns-in-Ok : goal.returns-in-Ok
returns-in-Ok g c = has_met _ c.in-Ok.ensures.all (rw (← c.deref.ensures.value) c.obey.ensures)

pub returns-in-Err-NotText : goal.returns-in-Err-NotText
returns-in-Err-NotText g c = not_text c.in-Err-NotText.place c.from.ensures (rw c.in-Err-NotText.field-0-is at c.in-Err-NotText.ensures.cause) refl (rw c.in-Err-NotText.place-is at c.report_not_text.ensures)
