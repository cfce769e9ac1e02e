use Rattle.std.proofs.Common.{◌≡◌, ℕ, List, ◌+◌, ◌-◌, ◌*◌, arith, sym, ap, ◌∙◌}
use Rattle.aes_core.specs.Aes.{add_round_key, cipher, cipher_with, mix_columns, round_count, rounds, shift_rows, sub_bytes}
use Rattle.aes_core.proofs.Rounds.{cipher_with-take, rounds_more}
use Rattle.kernel_tests.proofs.plain.aes.encrypt_block.Goals as goal

pub loop-round-init : goal.loop-round-init
unfolding rounds
loop-round-init c = c.add_round_key-state.ensures

pub loop-round-preserved : goal.loop-round-preserved
loop-round-preserved c =
    let w = c.expand-words.result in
    let r = c.loop-round.round in
    let substituted = c.sub_bytes.ensures ∙ ap sub_bytes c.loop-round.invariant in
    let shifted = c.shift_rows.ensures ∙ ap shift_rows substituted in
    let mixed = c.mix_columns-state.ensures ∙ ap mix_columns shifted in
    let next : r + 1 - 1 ≡ r = omega arith in
    rw next (c.add_round_key-state-in-loop-round.ensures
    ∙ ap (λ (s : List ℕ). add_round_key s w r) mixed
    ∙ rounds_more w c.args.block.now r (omega arith))

pub returns : goal.returns
unfolding cipher
returns c =
    let w = c.expand-words.result in
    let block = c.args.block.now in
    let nr : ℕ = round_count c.args.key.now in
    let last : c.loop-round.round - 1 ≡ nr - 1 = omega arith in
    let before = c.loop-round.invariant ∙ ap (rounds w block) last in
    let substituted = c.sub_bytes-2.ensures ∙ ap sub_bytes before in
    let shifted = c.shift_rows-state.ensures ∙ ap shift_rows substituted in
    c.add_round_key.ensures ∙ ap (λ (s : List ℕ). add_round_key s w nr) shifted
    ∙ sym (cipher_with-take nr (4 * (nr + 1)) w block (omega arith) (omega arith))
    ∙ ap (λ (words : List (List ℕ)). cipher_with nr words block) c.expand-words.ensures
