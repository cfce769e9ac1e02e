use Rattle.std.proofs.Common.{append_assoc, refl}
use Rattle.tinkey_plans.specs.Status.{text_of}
use Rattle.tinkey_plans.proofs.diagnostic.push_text.Goals as goal

pub returns-in-Usage-clause-text : goal.returns-in-Usage-clause-text
unfolding text_of
returns-in-Usage-clause-text c = rw (c.in-Usage.is, c.push_number.ensures.text, c.push-in-Usage.ensures) (simp append_assoc)

pub returns-in-InputTooLong-clause-text : goal.returns-in-InputTooLong-clause-text
unfolding text_of
returns-in-InputTooLong-clause-text c = rw (c.in-InputTooLong.is, c.push-in-InputTooLong.ensures) refl
