use Rattle.std.proofs.Common.{arith, refl, ◌∙◌}
use Rattle.std.proofs.lemmas.List.{length-set}
use Rattle.aes_core.specs.Aes.{expanded_words}
use Rattle.aes_core.proofs.KeyExpansion.{expansion_more}
use Rattle.kernel_tests.proofs.plain.aes.expand.Goals as goal

pub loop-i-init : goal.loop-i-init
unfolding expanded_words
loop-i-init c = record { whole = refl; front = refl }

pub loop-i-preserved : goal.loop-i-preserved
loop-i-preserved c = record {
  whole = length-set c.loop-i.words c.loop-i.i c.next_word.result ∙ c.loop-i.invariant.whole;
  front = rw c.next_word.ensures (expansion_more c.args.key.now c.loop-i.words c.loop-i.i
      (omega arith) (omega arith) c.loop-i.invariant.front);
}
