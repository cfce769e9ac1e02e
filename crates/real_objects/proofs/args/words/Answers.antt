use Rattle.std.proofs.Common.{arith}
use Rattle.real_objects.proofs.ListedWords.{first_words, one_more_word, all_words, no_words, no_memory}
use Rattle.real_objects.proofs.args.words.Goals as goal

pub loop-place-init : goal.loop-place-init
loop-place-init g c = (first_words (g.A.Arguments.told c.args.from.now) c.new-words.result.items c.new-words.ensures.items, λ less. absurd (omega (arith, less)))

pub returns-in-Ok-None-clause-all : goal.returns-in-Ok-None-clause-all
returns-in-Ok-None-clause-all g c = all_words (g.A.Arguments.told c.args.from.now) c.loop-place.place _ _ c.in-Ok-None.ensures.found c.in-Ok-None.field-0-is c.loop-place.invariant.0

pub returns-in-Err-clause-cause : goal.returns-in-Err-clause-cause
returns-in-Err-clause-cause g c = no_words (g.A.Arguments.told c.args.from.now) c.loop-place.place _ c.loop-place.auto.place c.loop-place.invariant.0 _ c.in-Err.ensures.cause

pub returns-in-Err-push-clause-cause : goal.returns-in-Err-push-clause-cause
returns-in-Err-push-clause-cause g c = no_memory (g.A.Arguments.told c.args.from.now) c.loop-place.place _ _ _ c.loop-place.auto.place c.loop-place.invariant.0 c.in-Ok-Some.ensures.found c.in-Ok-Some.field-0-is

pub loop-place-preserved : goal.loop-place-preserved
loop-place-preserved g c = (
  one_more_word (g.A.Arguments.told c.args.from.now) c.loop-place.place _ _ _ c.loop-place.auto.place c.loop-place.invariant.0 _ c.in-Ok-Some.ensures.found c.in-Ok-Some.field-0-is c.in-Ok.ensures.items,
  λ more. no_memory (g.A.Arguments.told c.args.from.now) c.loop-place.place _ _ _ c.loop-place.auto.place c.loop-place.invariant.0 c.in-Ok-Some.ensures.found c.in-Ok-Some.field-0-is,
)

pub returns-clause-cause : goal.returns-clause-cause
returns-clause-cause g c = c.loop-place.invariant.1 (omega arith)
