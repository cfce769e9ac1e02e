use Rattle.std.proofs.Common.{◌≡◌, ◌∙◌, ap, rules}
use Rattle.tink_spec.specs.Messages.{at_place}
use Rattle.proto_wire.specs.declared.field.Kind.TheVariants.{Bytes}
use Rattle.keyset_model.proofs.KeyLemmas.{key_in_bytes, key_of_other_kind, key_stops}
use Rattle.keyset_model.proofs.key.read_key.Goals as goal

pub returns-then-ne-clause-key : goal.returns-then-ne-clause-key
returns-then-ne-clause-key c =
    let other : c.args.field.kind ≡ Bytes → ⊥ = λ same. search rules in
    key_of_other_kind c.args.source.now c.args.field other

pub returns-in-Ok-clause-key : goal.returns-in-Ok-clause-key
returns-in-Ok-clause-key c =
    let kind : c.args.field.kind ≡ Bytes = search rules in
    key_in_bytes c.args.source.now c.args.field kind ∙ ap (at_place c.args.field.at) c.in-Ok.ensures.key

pub returns-in_default : goal.returns-in_default
returns-in_default c =
    let kind : c.args.field.kind ≡ Bytes = search rules in
    record {
      key = key_in_bytes c.args.source.now c.args.field kind ∙ key_stops _ _ c.args.field.at c.in_default.not-NoMemory c.in-Err.ensures.key;
      within = tt;
    }
