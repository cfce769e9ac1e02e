use Rattle.std.proofs.Common.{◌≡◌, rules}
use Rattle.proto_wire.specs.declared.field.Kind.TheVariants.{Bytes}
use Rattle.keyset_model.proofs.KeyLemmas.{text_given, no_text_given}
use Rattle.keyset_model.proofs.key.text_at.Goals as goal

pub returns-in-Ok-clause-text : goal.returns-in-Ok-clause-text
returns-in-Ok-clause-text c =
    let kind : c.args.field.kind ≡ Bytes = search rules in
    text_given c.args.source.now c.args.field c.in-Ok.text.now kind c.in-Ok.ensures.cases.0 c.in-Ok.ensures.cases.1

pub returns-in-Err-clause-other : goal.returns-in-Err-clause-other
returns-in-Err-clause-other c =
    let kind : c.args.field.kind ≡ Bytes = search rules in
    no_text_given c.args.source.now c.args.field kind c.in-Err.ensures.cases.0
