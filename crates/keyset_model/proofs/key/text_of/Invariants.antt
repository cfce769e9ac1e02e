use Rattle.keyset_model.proofs.KeyLemmas.{TextSoFar}
use Rattle.keyset_model.proofs.key.text_of.Given as goal

abbrev pub invariant-loop-i : goal.invariant-loop-i
invariant-loop-i l = TextSoFar l.source l.message l.number l.i l.text
