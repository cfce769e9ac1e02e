use Rattle.std.proofs.Common.{ap, arith, length, length-append}
use Rattle.std.specs.Fmt.{decimal}
use Rattle.std.proofs.lemmas.Fmt.{length-decimal-le}
use Rattle.tinkey_plans.proofs.sealer.push_id.Goals as goal

pub returns-clause-short : goal.returns-clause-short
returns-clause-short c =
    let digits = length-decimal-le 10 c.args.id (omega arith) (omega arith) (omega arith) in
    let whole = ap length c.push_number.ensures.text in
    omega (arith, digits, whole, length-append c.args.line.now (decimal c.args.id))
