use Rattle.std.proofs.Common.{◌≡◌, ◌∙◌, ◌≤◌, ◌+◌, length, ap, arith}
use Rattle.keyset_model.specs.Writing.{binary_of}
use Rattle.seal_wrap.proofs.WrittenSizes.{binary-short}
use Rattle.seal_wrap.proofs.WrapLemmas.{sealing-bound, wanting_before, wanting_behind, wrapping}
use Rattle.seal_wrap.proofs.encrypted.wrapping.wrap.Goals as goal

pub write_binary-requires : goal.write_binary-requires
write_binary-requires g c = record { short = binary-short c.args.keyset.now c.requires.size_bound }

pub returns-in_default-clause-fault : goal.returns-in_default-clause-fault
returns-in_default-clause-fault g c = λ master over. wanting_before _ master c.args.handle.now.held _ over

pub text_of-requires-clause-sealed_bound : goal.text_of-requires-clause-sealed_bound
text_of-requires-clause-sealed_bound g c =
    let over = c.requires.over in
    let same : c.deref.result.now ≡ binary_of c.args.keyset.now = c.deref.ensures.value ∙ c.in-Ok.ensures in
    let few : length c.deref.result.now ≡ length (binary_of c.args.keyset.now) = ap length same in
    let bound : length c.in-Ok-seal.sealed.items ≤ length c.deref.result.now + 85 = sealing-bound _ over.0 c.deref.result.now _ _ _ c.in-Ok-seal.sealed.items (c.in-Ok-seal.ensures.sealed over.0 over.1) in
    let most = c.requires.size_bound in
    rw c.deref-in-Ok-seal.ensures.value (omega (arith, few, bound, most))

pub returns-in-Ok-text_of-clause-wrapped : goal.returns-in-Ok-text_of-clause-wrapped
returns-in-Ok-text_of-clause-wrapped g c = λ master over.
    wrapping _ c.args.keyset.now master c.args.json _ _ c.deref.result.now c.in-Ok-seal.sealed.items c.in-Ok-text_of.text.items
    (c.deref.ensures.value ∙ c.in-Ok.ensures) (c.in-Ok-seal.ensures.sealed master over)
    (rw c.deref-in-Ok-seal.ensures.value at c.text_of.ensures.bytes)
    (rw c.deref-in-Ok-seal.ensures.value at c.in-Ok-text_of.ensures.text)

pub returns-in-Ok-seal-clause-fault : goal.returns-in-Ok-seal-clause-fault
returns-in-Ok-seal-clause-fault g c = λ master over.
    wanting_behind _ master c.deref.result.now _ _ _ c.in-Ok-seal.sealed.items (c.in-Ok-seal.ensures.sealed master over) c.in-Ok-seal.ensures.no_fault
