use Rattle.std.proofs.Common.{◌∙◌, List, ℕ, ◌++◌, ap, arith}
use Rattle.proto_wire.specs.Written.{message, written}
use Rattle.seal_wrap.specs.Info.{key_info_of}
use Rattle.seal_wrap.specs.Wrapped.{key_info_entry}
use Rattle.seal_wrap.proofs.WrittenSizes.{length-key_info}
use Rattle.seal_wrap.proofs.WritingLemmas.{info-more}
use Rattle.seal_wrap.proofs.encrypted.binary_form.write_info.Goals as goal

pub message-requires-clause-length_bound : goal.message-requires-clause-length_bound
message-requires-clause-length_bound c =
    let r = c.record_at.result.now in
    rw (c.deref.ensures.value, c.in_ok-key.ensures) (omega (arith, length-key_info (key_info_of r), c.record_at.ensures.sizes.url))

pub loop-i-preserved : goal.loop-i-preserved
loop-i-preserved c =
    let r = c.record_at.result.now in
    c.in_ok-message.ensures.written
    ∙ ap (λ (l : List ℕ). c.loop-i.writer ++ written (message 2 l)) (c.deref.ensures.value ∙ c.in_ok-key.ensures)
    ∙ ap (λ (l : List ℕ). l ++ written (key_info_entry (key_info_of r))) c.loop-i.invariant
    ∙ info-more c.args.keyset.now c.loop-i.i r c.record_at.ensures.record_there
