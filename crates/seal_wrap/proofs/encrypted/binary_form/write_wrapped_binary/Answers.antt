use Rattle.std.proofs.Common.{List, ℕ, ◌++◌, ap, sym, append-nil, arith}
use Rattle.proto_wire.specs.Written.{content, message, written}
use Rattle.seal_wrap.specs.Info.{info_of}
use Rattle.seal_wrap.specs.Wrapped.{info_written, wrapped_binary}
use Rattle.seal_wrap.proofs.WrittenSizes.{info-long}
use Rattle.seal_wrap.proofs.encrypted.binary_form.write_wrapped_binary.Goals as goal

pub message-requires-clause-length_bound : goal.message-requires-clause-length_bound
message-requires-clause-length_bound c =
    rw (c.deref.ensures.value, c.in_ok-info.ensures.info) (omega (arith, info-long c.args.keyset.now, c.in_ok-info.ensures.few))

pub returns : goal.returns
unfolding wrapped_binary
returns c =
    rw (c.finish.ensures, c.in_ok-message.ensures.written, c.in_ok-bytes.ensures.written, c.new-writer.ensures, c.deref.ensures.value, c.in_ok-info.ensures.info)
    (ap (λ (l : List ℕ). written (content 2 c.args.sealed.now) ++ l) (sym (append-nil (written (message 3 (info_written (info_of c.args.keyset.now)))))))
