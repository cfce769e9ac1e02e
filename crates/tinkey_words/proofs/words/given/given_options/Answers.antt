use Rattle.std.proofs.Common.{string_bytes}
use Rattle.tinkey_words.proofs.WordLemmas.{fails_at, goes_on}
use Rattle.tinkey_words.proofs.words.given.given_options.Goals as goal

pub returns-in-Err : goal.returns-in-Err
returns-in-Err c =
    fails_at string_bytes _ _ _ _ _ _ _ c.loop-i-test.true c.index-words-i.is c.loop-i.invariant (rw c.as_str.ensures.value at c.in-Err.ensures)

pub loop-i-preserved : goal.loop-i-preserved
loop-i-preserved c =
    goes_on string_bytes _ _ _ _ _ _ _ c.loop-i-test.true c.index-words-i.is c.loop-i.invariant (rw c.as_str.ensures.value at c.in_default.ensures)
