use Rattle.std.proofs.Common.{◌≡◌, ◌∙◌, sym, ap, subst, length, [], arith}
use Rattle.std.specs.Prelude.{◌*◌, ◌+◌}
use Rattle.std.specs.List.{AllByRecursion}
use Rattle.tinkey_selftest.proofs.CountLemmas.{has_room}
use Rattle.tinkey_selftest.proofs.EntropyLemmas.{length-random}
use Rattle.tinkey_selftest.proofs.LoopLemmas.{generator_done, line_done}
use Rattle.tinkey_selftest.specs.Ready.{HasRoom, IsSmall, trial_of}
use Rattle.tinkey_selftest.specs.Trial.{after_lines}
use Rattle.wrapped_prims.specs.Laws.{IsKeyset}
use Rattle.tinkey_selftest.proofs.selftest.self_test.Goals as goal

pub first_keyset-requires-clause-enough : goal.first_keyset-requires-clause-enough
first_keyset-requires-clause-enough g c =
    let size : length c.new-entropy.result.left ≡ 320 * (c.args.lines + 1)
    = ap (λ e. length e.left) c.new-entropy.ensures ∙ ap (λ b. length b) c.in_ok-random.ensures ∙ length-random c.args.seed c.args.lines in
    omega (arith, size)

pub loop-line-init : goal.loop-line-init
unfolding after_lines
loop-line-init g c =
    let size : length c.new-entropy.result.left ≡ 320 * (c.args.lines + 1)
    = ap (λ e. length e.left) c.new-entropy.ensures ∙ ap (λ b. length b) c.in_ok-random.ensures ∙ length-random c.args.seed c.args.lines in
    let first = c.in_ok-keyset.ensures.first in
    let few = first.1 in
    record {
      kept = rw c.new-2.ensures.kept tt;
      managers = c.new-2.ensures.table;
      ready = record {
        keyset = subst IsKeyset (sym c.new-2.ensures.keyset) first.3;
        steady = first.2;
        small = subst (AllByRecursion IsSmall) (sym c.new-3.ensures.items) tt;
      };
      enough = omega (arith, size, few);
      trial = ap (λ s. trial_of c.new-2.result.keyset s c.first_keyset.new.entropy.left c.none_yet.result) c.new-3.ensures.items
          ∙ ap (λ n. trial_of c.new-2.result.keyset [] c.first_keyset.new.entropy.left n) c.none_yet.ensures;
      generator = c.line_generator-generator.ensures;
    }

pub run_line-requires-clause-room : goal.run_line-requires-clause-room
run_line-requires-clause-room g c =
    let below = c.loop-line-test.true in
    let fits = c.ranges.lines.fits in
    subst HasRoom (sym (ap (λ t. t.counts) c.loop-line.invariant.trial)) (has_room _ c.args.seed _ _ c.loop-line._line (omega (arith, below, fits)))

pub loop-line-preserved : goal.loop-line-preserved
loop-line-preserved g c =
    let below = c.loop-line-test.true in
    let enough = c.loop-line.invariant.enough in
    let few = c.in_ok-run_line.ensures.few in
    record {
      kept = c.in_ok-run_line.ensures.kept;
      managers = c.in_ok-run_line.ensures.table ∙ c.loop-line.invariant.managers;
      ready = c.in_ok-run_line.ensures.ready;
      enough = omega (arith, below, enough, few);
      trial = line_done _ _ c.args.seed c.loop-line._line _ c.next_words-words.result c.loop-line.generator _ _ c.loop-line.invariant.managers c.next_words-words.ensures.words
          c.loop-line.invariant.generator c.loop-line.invariant.trial c.in_ok-run_line.ensures.done;
      generator = generator_done c.args.seed c.loop-line._line c.loop-line.generator c.next_words-words.new.generator c.loop-line.invariant.generator c.next_words-words.ensures.next;
    }
