use Rattle.std.proofs.Common.{◌≡◌, ◌∙◌, ap, sym, ◌%◌, ◌/◌, ◌+◌, ◌++◌, ◌∷◌, List, ℕ, [], arith}
use Rattle.std.proofs.lemmas.List.{append_assoc}
use Rattle.proto_wire.specs.Written.{varint_of}
use Rattle.proto_wire.proofs.Writing.{varint_of-last, varint_of-more, take-kept}
use Rattle.proto_wire.proofs.writer.push_varint.Goals as goal

pub loop-left-preserved : goal.loop-left-preserved
loop-left-preserved c =
    let more : varint_of c.loop-left.left ≡ (c.loop-left.left % 128 + 128) ∷ varint_of (c.loop-left.left / 128) = varint_of-more c.loop-left.left (omega arith) (omega arith) in
    let front = c.loop-left.items.items in (
      rw c.in_ok-push.ensures.items (append_assoc front _ _ ∙ ap (λ (l : List ℕ). front ++ l) (sym more) ∙ c.loop-left.invariant.0),
      rw c.in_ok-push.ensures.items (take-kept c.args.items.now.items front _ c.loop-left.invariant.1),
    )

pub returns-clause-written : goal.returns-clause-written
returns-clause-written c =
    let last : varint_of c.loop-left.left ≡ c.loop-left.left ∷ [] = varint_of-last c.loop-left.left (omega arith) in
    let front = c.loop-left.items.items in
    c.in_ok-push-2.ensures.items ∙ ap (λ (l : List ℕ). front ++ l) (sym last) ∙ c.loop-left.invariant.0
