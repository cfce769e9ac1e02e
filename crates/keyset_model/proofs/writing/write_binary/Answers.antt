use Rattle.std.proofs.Common.{◌∙◌, ℕ, ◌≤◌, ◌+◌, ◌^◌, List, ◌++◌, length, ap, arith}
use Rattle.std.proofs.lemmas.List.{take_all}
use Rattle.proto_wire.specs.Written.{message, written, written_all}
use Rattle.keyset_model.specs.declared.record.Record.{Record}
use Rattle.keyset_model.specs.Keyset.{IsShort}
use Rattle.keyset_model.specs.Writing.{key_entry, keys_entries, binary_of}
use Rattle.keyset_model.proofs.WellFormedLemmas.{all_at}
use Rattle.keyset_model.proofs.WritingLemmas.{length-record, keys-more}
use Rattle.keyset_model.proofs.writing.write_binary.Goals as goal

pub message-requires-clause-length_bound : goal.message-requires-clause-length_bound
message-requires-clause-length_bound c =
    let r = c.record_at.result.now in
    let short : length r.url + length r.value + 256 ≤ 2 ^ 31 = all_at IsShort c.args.keyset.now.records c.loop-i.i r c.requires.short c.record_at.ensures.record_there in
    rw (c.deref.ensures.value, c.in_ok-key.ensures) (omega (arith, length-record r))

pub loop-i-preserved : goal.loop-i-preserved
loop-i-preserved c =
    let k = c.args.keyset.now in
    let r = c.record_at.result.now in
    c.in_ok-message.ensures.written
    ∙ ap (λ (l : List ℕ). c.loop-i.writer ++ written (message 2 l)) (c.deref.ensures.value ∙ c.in_ok-key.ensures)
    ∙ ap (λ (l : List ℕ). l ++ written (key_entry r)) c.loop-i.invariant
    ∙ keys-more k.primary k.records c.loop-i.i r c.record_at.ensures.record_there

pub returns : goal.returns
unfolding binary_of
returns c =
    let k = c.args.keyset.now in
    c.finish.ensures ∙ c.loop-i.invariant
    ∙ ap (λ (l : List Record). written_all (keys_entries (record { primary = k.primary; records = l }))) (take_all c.loop-i.i k.records (omega arith))
