use Rattle.std.proofs.Common.{sym, Ok, Err, Result, subst}
use Rattle.std.specs.Prelude.{IfOk}
use Rattle.key_msgs.specs.declared.key.KeyKind.{KeyKind}
use Rattle.key_msgs.specs.declared.key.KeyFault.{KeyFault}
use Rattle.key_msgs.specs.declared.rule.Rule.{Rule}
use Rattle.key_msgs.specs.Keys.{IsValid}
use Rattle.key_msgs.specs.Reading.{GivesKey}
use Rattle.key_msgs.proofs.Validity.{key_from-valid}
use Rattle.key_msgs.proofs.reading.check.Goals as goal

given : (result : Result KeyKind KeyFault) (read : Result KeyKind Rule) → GivesKey result read → IfOk read IsValid → IfOk result IsValid
given (Ok key) read gives valid = subst (λ (r : Result KeyKind Rule). IfOk r IsValid) gives valid
given (Err fault) read gives valid = tt

pub returns-in-None-clause-valid : goal.returns-in-None-clause-valid
returns-in-None-clause-valid c =
    given _ _ c.key_from.ensures (key_from-valid c.args.key_type c.args.message.now (sym c.in-None.ensures))
