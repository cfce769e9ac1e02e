use Rattle.std.proofs.Common.{◌≡◌, ◌+◌, ◌/◌, ◌%◌, get_or, refl, arith, ap, ◌∙◌}
use lib.Bits.{bit_xor}
use Rattle.aes_core.specs.Aes.{cipher}
use Rattle.aes_core.specs.Counter.{output_block}
use Rattle.aes_core.proofs.CounterMode.{byte_more, bytes_left, ctr_from_bytes, output_byte}
use Rattle.kernel_tests.proofs.plain.aes.ctr_xor.Goals as goal
use Rattle.kernel_tests.proofs.plain.aes.ctr_xor.Goals.{then-i-eq0, else-i-eq0}

pub loop-i-init : goal.loop-i-init
loop-i-init c = record {
  done = λ k h. absurd (omega arith);
  left = λ k h. refl;
  output = λ h. absurd (omega arith);
}

pub loop-i-preserved : goal.loop-i-preserved
loop-i-preserved c =
    let block = output_block c.args.key.now c.args.start.now c.args.kind in
    let byte_of = output_byte c.args.key.now c.args.start.now c.args.kind in
    let old = c.args.body.now in
    let i = c.loop-i.i in
    let now = c.loop-i.invariant in
    let output : c.if-i-eq0.output ≡ block (i / 16) =
    elim c.if-i-eq0.branch [
      | then-i-eq0 w ↦
          w.output-is ∙ w.encrypt_block-output.ensures
          ∙ ap (cipher c.args.key.now) w.counter_after.ensures
      | else-i-eq0 w ↦ w.output-is ∙ now.output (omega (arith, w.if-i-eq0.false))
    ] in
    let byte : bit_xor (get_or c.loop-i.body i 0) (get_or c.if-i-eq0.output (i % 16) 0)
    ≡ bit_xor (get_or old i 0) (byte_of i) =
    (λ k. bit_xor (now.left i (omega arith) k) (get_or (output k) (i % 16) 0)) in
    record {
      done = byte_more byte_of old c.loop-i.body i _ (omega arith) byte now.done;
      left = bytes_left old c.loop-i.body i _ now.left;
      output = λ h.
          let same : i / 16 ≡ (i + 1) / 16 = omega arith in
          output ∙ ap block same;
    }

pub returns : goal.returns
returns c =
    ctr_from_bytes c.args.key.now c.args.start.now c.args.kind c.args.body.now c.loop-i.body
    c.loop-i.auto.body (λ i h. c.loop-i.invariant.done i (omega arith))
