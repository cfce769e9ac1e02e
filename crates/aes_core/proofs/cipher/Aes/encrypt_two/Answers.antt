-- Both keys have the same number of rounds.
use Rattle.std.proofs.Common.{◌≡◌, ℕ, List, ◌-◌, ◌*◌, ◌/◌, drop, length, map, take, arith, ap, subst, sym, ◌∙◌}
use lib.Bits.{bit_xor}
use Rattle.aes_core.specs.Aes.{cipher, shift_rows, sub_bytes, rounds, word}
use Rattle.aes_core.specs.AesState.{IsExpansion, key_of, key_words}
use Rattle.aes_core.specs.Nibbles.{decoded, four_turns, masked, turn, xor_state}
use Rattle.aes_core.proofs.KeyWords.{cipher_at, finish_at, four_turns_at, fours_within, length-key_of, same_rounds, start_at}
use Rattle.aes_core.proofs.cipher.Aes.encrypt_two.Goals as goal

pub loop-group-init : goal.loop-group-init
loop-group-init c =
    let nr = c.self.inside.rounds in
    let keys = c.self.inside.keys in
    let others = c.other.inside.keys in
    let first : List ℕ = take 16 c.args.blocks in
    let second : List ℕ = drop 16 c.args.blocks in
    record {
      first = c.add_first_key-states.ensures.first
          ∙ ap (λ (k : List ℕ). xor_state first (map decoded k)) c.two_keys.ensures.first
          ∙ start_at nr keys first;
      second = c.add_first_key-states.ensures.second
          ∙ ap (λ (k : List ℕ). xor_state second (map decoded k)) c.two_keys.ensures.second
          ∙ start_at nr others second;
    }

pub loop-group-preserved : goal.loop-group-preserved
loop-group-preserved c =
    let nr = c.self.inside.rounds in
    let keys = c.self.inside.keys in
    let others = c.other.inside.keys in
    let g = c.loop-group.group in
    let within = fours_within nr g c.self.invariant.0 (omega arith) in
    record {
      first = c.four_rounds_of_two-states.ensures.first
          ∙ ap (four_turns keys (4 * g)) c.loop-group.invariant.first
          ∙ four_turns_at nr keys (take 16 c.args.blocks) g within;
      second = c.four_rounds_of_two-states.ensures.second
          ∙ ap (four_turns others (4 * g)) c.loop-group.invariant.second
          ∙ four_turns_at nr others (drop 16 c.args.blocks) g within;
    }

pub returns-clause-first : goal.returns-clause-first
returns-clause-first c =
    let nr = c.self.inside.rounds in
    let keys = c.self.inside.keys in
    let block : List ℕ = take 16 c.args.blocks in
    let all : c.loop-group.group ≡ nr / 4 = omega arith in
    let last = λ (s : List ℕ). xor_state (shift_rows (sub_bytes (turn (masked 1 (word keys
    (nr - 1))) s)))
    (map (λ b. bit_xor b 0x63) (word keys nr)) in
    c.last_two_rounds_of_two.ensures.first
    ∙ ap last (c.loop-group.invariant.first
    ∙ ap (λ (g : ℕ). rounds (key_words nr keys) block (4 * g)) all)
    ∙ finish_at nr keys block c.self.invariant.0 ∙ cipher_at nr keys block c.self.invariant
    ∙ ap (λ (key : List ℕ). cipher key block) c.self.view_is

pub returns-clause-second : goal.returns-clause-second
returns-clause-second c =
    let nr = c.self.inside.rounds in
    let keys = c.other.inside.keys in
    let other : ℕ = c.other.inside.rounds in
    let block : List ℕ = drop 16 c.args.blocks in
    let all : c.loop-group.group ≡ nr / 4 = omega arith in
    let last = λ (s : List ℕ). xor_state (shift_rows (sub_bytes (turn (masked 1 (word keys
    (nr - 1))) s)))
    (map (λ b. bit_xor b 0x63) (word keys nr)) in
    let same : other ≡ nr = same_rounds other nr c.other.invariant.0 c.self.invariant.0
    (sym (length-key_of other keys c.other.invariant.0) ∙ ap length c.other.view_is
    ∙ sym c.requires ∙ sym (ap length c.self.view_is)
    ∙ length-key_of nr c.self.inside.keys c.self.invariant.0) in
    let is : IsExpansion nr (key_words nr keys)
    = subst (λ n. IsExpansion n (key_words n keys)) same c.other.invariant in
    let key : key_of nr (key_words nr keys) ≡ c.args.other.now
    = ap (λ n. key_of n (key_words n keys)) (sym same) ∙ c.other.view_is in
    c.last_two_rounds_of_two.ensures.second
    ∙ ap last (c.loop-group.invariant.second
    ∙ ap (λ (g : ℕ). rounds (key_words nr keys) block (4 * g)) all)
    ∙ finish_at nr keys block is.0 ∙ cipher_at nr keys block is
    ∙ ap (λ (key : List ℕ). cipher key block) key
