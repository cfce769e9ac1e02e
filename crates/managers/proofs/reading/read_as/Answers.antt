use Rattle.std.proofs.Common.{◌≡◌, ◌∙◌, ap, subst, sym, Err, Ok, Result}
use Rattle.key_msgs.specs.Reading.{GivesKey, key_of}
use Rattle.key_msgs.specs.declared.key.KeyFault.{KeyFault}
use Rattle.key_msgs.specs.declared.key.KeyKind.{KeyKind}
use Rattle.managers.proofs.ReadingLemmas.{read_by_own, read_of_type}
use Rattle.managers.proofs.reading.read_as.Goals as goal

pub unreachable-requires : goal.unreachable-requires
unreachable-requires c =
    let read = key_of c.args.key_type c.args.value.now in
    let gives : GivesKey c.read_key.result read
    = read_by_own _ c.url.result.now c.args.key_type c.args.value.now c.url.ensures c.read_key.ensures.key in
    subst (λ (r : Result KeyKind KeyFault). GivesKey r read) (c.in-Err-NotKnown.is ∙ ap (λ (f : KeyFault). Err f) c.in-Err-NotKnown.field-0-is) gives

pub new-requires : goal.new-requires
new-requires c =
    let read = key_of c.args.key_type c.args.value.now in
    let gives : GivesKey c.read_key.result read
    = read_by_own _ c.url.result.now c.args.key_type c.args.value.now c.url.ensures c.read_key.ensures.key in
    let same : read ≡ Ok c.in-Ok.key = subst (λ (r : Result KeyKind KeyFault). GivesKey r read) c.in-Ok.is gives in
    record { valid = (read_of_type c.args.key_type c.args.value.now c.in-Ok.key same).1 }

pub returns-in-Ok-clause-reading : goal.returns-in-Ok-clause-reading
returns-in-Ok-clause-reading c =
    let read = key_of c.args.key_type c.args.value.now in
    let gives : GivesKey c.read_key.result read
    = read_by_own _ c.url.result.now c.args.key_type c.args.value.now c.url.ensures c.read_key.ensures.key in
    let same : read ≡ Ok c.in-Ok.key = subst (λ (r : Result KeyKind KeyFault). GivesKey r read) c.in-Ok.is gives in
    same ∙ ap (λ (key : KeyKind). Ok key) (sym c.new.ensures)

pub returns-in-Ok-clause-admitted : goal.returns-in-Ok-clause-admitted
returns-in-Ok-clause-admitted c =
    read_of_type c.args.key_type c.args.value.now c.new.result (returns-in-Ok-clause-reading c)

pub returns-in-Err-Bad-clause-reading : goal.returns-in-Err-Bad-clause-reading
returns-in-Err-Bad-clause-reading c =
    let read = key_of c.args.key_type c.args.value.now in
    let gives : GivesKey c.read_key.result read
    = read_by_own _ c.url.result.now c.args.key_type c.args.value.now c.url.ensures c.read_key.ensures.key in
    subst (λ (r : Result KeyKind KeyFault). GivesKey r read) (c.in-Err-Bad.is ∙ ap (λ (f : KeyFault). Err f) c.in-Err-Bad.field-0-is) gives
