use Rattle.std.proofs.Common.{refl}
use Rattle.tinkey_plans.specs.Help.{command_text}
use Rattle.tinkey_plans.proofs.help.command_text.Goals as goal

pub returns-in-CreateKeyset : goal.returns-in-CreateKeyset
unfolding command_text
returns-in-CreateKeyset c = rw c.in-CreateKeyset.is refl

pub returns-in-AddKey : goal.returns-in-AddKey
unfolding command_text
returns-in-AddKey c = rw c.in-AddKey.is refl

pub returns-in-RotateKeyset : goal.returns-in-RotateKeyset
unfolding command_text
returns-in-RotateKeyset c = rw c.in-RotateKeyset.is refl

pub returns-in-PromoteKey : goal.returns-in-PromoteKey
unfolding command_text
returns-in-PromoteKey c = rw c.in-PromoteKey.is refl

pub returns-in-EnableKey : goal.returns-in-EnableKey
unfolding command_text
returns-in-EnableKey c = rw c.in-EnableKey.is refl

pub returns-in-DisableKey : goal.returns-in-DisableKey
unfolding command_text
returns-in-DisableKey c = rw c.in-DisableKey.is refl

pub returns-in-DestroyKey : goal.returns-in-DestroyKey
unfolding command_text
returns-in-DestroyKey c = rw c.in-DestroyKey.is refl

pub returns-in-DeleteKey : goal.returns-in-DeleteKey
unfolding command_text
returns-in-DeleteKey c = rw c.in-DeleteKey.is refl

pub returns-in-ListKeyset : goal.returns-in-ListKeyset
unfolding command_text
returns-in-ListKeyset c = rw c.in-ListKeyset.is refl

pub returns-in-KeyOf : goal.returns-in-KeyOf
unfolding command_text
returns-in-KeyOf c = rw c.in-KeyOf.is refl

pub returns-in-ListKeyTemplates : goal.returns-in-ListKeyTemplates
unfolding command_text
returns-in-ListKeyTemplates c = rw c.in-ListKeyTemplates.is refl

pub returns-in-ConvertKeyset : goal.returns-in-ConvertKeyset
unfolding command_text
returns-in-ConvertKeyset c = rw c.in-ConvertKeyset.is refl

pub returns-in-WrapKeyset : goal.returns-in-WrapKeyset
unfolding command_text
returns-in-WrapKeyset c = rw c.in-WrapKeyset.is refl

pub returns-in-UnwrapKeyset : goal.returns-in-UnwrapKeyset
unfolding command_text
returns-in-UnwrapKeyset c = rw c.in-UnwrapKeyset.is refl

pub returns-in-Seal : goal.returns-in-Seal
unfolding command_text
returns-in-Seal c = rw c.in-Seal.is refl

pub returns-in-Open : goal.returns-in-Open
unfolding command_text
returns-in-Open c = rw c.in-Open.is refl

pub returns-in-Eseal : goal.returns-in-Eseal
unfolding command_text
returns-in-Eseal c = rw c.in-Eseal.is refl

pub returns-in-Eopen : goal.returns-in-Eopen
unfolding command_text
returns-in-Eopen c = rw c.in-Eopen.is refl

pub returns-in-Ereseal : goal.returns-in-Ereseal
unfolding command_text
returns-in-Ereseal c = rw c.in-Ereseal.is refl

pub returns-in-Dseal : goal.returns-in-Dseal
unfolding command_text
returns-in-Dseal c = rw c.in-Dseal.is refl

pub returns-in-Dopen : goal.returns-in-Dopen
unfolding command_text
returns-in-Dopen c = rw c.in-Dopen.is refl

pub returns-in-Reseal : goal.returns-in-Reseal
unfolding command_text
returns-in-Reseal c = rw c.in-Reseal.is refl

pub returns-in-Dreseal : goal.returns-in-Dreseal
unfolding command_text
returns-in-Dreseal c = rw c.in-Dreseal.is refl

pub returns-in-Sseal : goal.returns-in-Sseal
unfolding command_text
returns-in-Sseal c = rw c.in-Sseal.is refl

pub returns-in-Sopen : goal.returns-in-Sopen
unfolding command_text
returns-in-Sopen c = rw c.in-Sopen.is refl

pub returns-in-Sreseal : goal.returns-in-Sreseal
unfolding command_text
returns-in-Sreseal c = rw c.in-Sreseal.is refl

pub returns-in-Srange : goal.returns-in-Srange
unfolding command_text
returns-in-Srange c = rw c.in-Srange.is refl

pub returns-in-Tag : goal.returns-in-Tag
unfolding command_text
returns-in-Tag c = rw c.in-Tag.is refl

pub returns-in-Verify : goal.returns-in-Verify
unfolding command_text
returns-in-Verify c = rw c.in-Verify.is refl

pub returns-in-Derive : goal.returns-in-Derive
unfolding command_text
returns-in-Derive c = rw c.in-Derive.is refl

pub returns-in-Session : goal.returns-in-Session
unfolding command_text
returns-in-Session c = rw c.in-Session.is refl

pub returns-in-Selftest : goal.returns-in-Selftest
unfolding command_text
returns-in-Selftest c = rw c.in-Selftest.is refl
